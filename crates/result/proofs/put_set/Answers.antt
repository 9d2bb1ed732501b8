-- `result::put_set` meets its contract. Assumes nothing.
use lib.ListN.{drop}
use Rattle.script.specs.Records.{records}
use Rattle.script.specs.Runs.{ahead}
use mathlib.Core.Path.{ap}
use Rattle.emission.specs.Runs.{NumberedRun, run_of}
use Rattle.wire.proofs.Puts.{place_in}
use Rattle.result.proofs.Writes.{put-begins}
use Rattle.emission.proofs.Turns.{goes-columns}
use Rattle.result.proofs.put_set.Goals as goal

pub put_columns-requires : goal.put_columns-requires
put_columns-requires c = (place_in c.put_colmetadata.ensures, c.requires)

pub returns : goal.returns
unfolding run_of
returns c = let a = c.args in
    let run = c.run_at-run in
    let cs = ahead 2 (records (drop a.next a.s.now)) in
    record {
      puts = put-begins a.classification.now cs (rw (ap (λ (r : NumberedRun). r.count) run.ensures) at c.put_colmetadata.ensures) c.put_columns.ensures c.put_slice.ensures;
      goes = goes-columns a.s.now a.next run.result c.requires run.ensures;
    }
