-- `station::steps::put_spot` meets its contract. Assumes nothing.
use mathlib.Core.Path.{◌≡◌, sym}
use mathlib.Core.Bool.{cond}
use borrow.Author.Rules.{rules}
use Rattle.wire.proofs.Over.{over-eq}
use Rattle.station.specs.Steps.{spot_slots}
use Rattle.station.proofs.steps.put_spot.Goals as goal

pub returns : goal.returns
returns c = let a = c.args in
    let over : c.from.result ≡ cond a.next.over 1 0 = search (rules, c.from.ensures) in
    rw (c.copy_from_slice.ensures.after, over) (sym (over-eq (spot_slots a.next) a.slots.now 0 c.requires))
