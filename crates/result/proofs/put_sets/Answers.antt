-- `result::put_sets` meets its contract. Assumes nothing.
use mathlib.Core.Path.{sym, ap, ◌∙◌}
use mathlib.Core.List.{◌++◌}
use lib.ListN.{drop}
use Rattle.script.specs.Records.{records}
use Rattle.emission.specs.Walk.{begin_pieces, emit_from}
use Rattle.emission.specs.Runs.{error_found}
use Rattle.wire.proofs.Puts.{place_in}
use Rattle.result.proofs.Writes.{put-pieces}
use Rattle.result.proofs.put_sets.Goals as goal

pub put_set-from-requires : goal.put_set-from-requires
put_set-from-requires c = c.requires.1

pub put_records-requires : goal.put_records-requires
put_records-requires c = (place_in c.put_set-from.ensures.puts, c.put_set-from.ensures.goes.lies)

pub returns-in-Some : goal.returns-in-Some
returns-in-Some c = let a = c.args in
    let found = sym c.error_in.ensures.result_value ∙ ap (error_found a.s.now) c.in-Some.is in
    rw (found, ← c.part_of.ensures) c.put_error.ensures

pub returns-in-None : goal.returns-in-None
returns-in-None c = let a = c.args in
    let rs = records (drop a.next a.s.now) in
    let missing = sym c.error_in.ensures.result_value ∙ ap (error_found a.s.now) c.in-None.is in
    let set = c.put_set-from.ensures in
    let rest = rw (← set.goes.same 0) at c.put_records.ensures in
    let begun = put-pieces (begin_pieces a.classification.now rs) (emit_from 0 rs) set.puts rest in
    let lead = rw c.error_in-error.ensures.result_value at c.put_lead.ensures in
    rw missing (put-pieces _ (begin_pieces a.classification.now rs ++ emit_from 0 rs) lead begun)
