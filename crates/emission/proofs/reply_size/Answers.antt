-- `emission::reply_size` meets its contract. Assumes nothing.
use Rattle.wire.specs.Part.{part_bytes}
use mathlib.Core.Path.{sym, ap, ◌∙◌}
use Prim.Native.Nat.{ℕ}
use lib.ListN.{length, drop}
use mathlib.Core.List.{List}
use Rattle.script.specs.Records.{records}
use mathlib.Core.Option.{Option}
use Rattle.emission.specs.Emission.{bytes_in, leading_status}
use Rattle.emission.specs.Walk.{lead_pieces}
use Rattle.emission.specs.Runs.{capped, error_found}
use Rattle.emission.proofs.Replies.{sizes-terminal, sizes-sets}
use Rattle.emission.proofs.reply_size.Goals as goal

pub returns-in-Some : goal.returns-in-Some
returns-in-Some c = let a = c.args in
    let p = part_bytes a.s.now c.in-Some.part in
    let found = sym c.error_in.ensures.result_value ∙ ap (error_found a.s.now) c.in-Some.is in
    rw (c.grown.ensures, c.error_size.ensures, c.part_of.ensures) (sizes-terminal a.classification.now (records (drop a.next a.s.now)) p found)

pub returns-in-None : goal.returns-in-None
returns-in-None c = let a = c.args in
    let missing = sym c.error_in.ensures.result_value ∙ ap (error_found a.s.now) c.in-None.is in
    let lead = c.lead_size-lead.ensures ∙ ap (λ (o : Option (List ℕ)). capped (length (bytes_in (lead_pieces leading_status o)))) c.error_in-in-None.ensures.result_value in
    sizes-sets a.classification.now (records (drop a.next a.s.now)) c.lead_size-lead.result c.sets_size.result missing lead (rw c.grown-in-None.ensures at c.sets_size.ensures)
