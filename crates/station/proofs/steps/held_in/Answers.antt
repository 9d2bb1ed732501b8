-- `station::steps::held_in` meets its contract. Assumes nothing.
use Rattle.station.proofs.Stepping.{held-slots}
use Rattle.station.proofs.steps.held_in.Goals as goal

pub returns : goal.returns
returns c = let a = c.args in held-slots a.slots.now c.requires c.saturating_sub.ensures c.type_slot-slot.ensures c.saturating_sub-2.ensures c.are_types.ensures c.code_of.ensures
