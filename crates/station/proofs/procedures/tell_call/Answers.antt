-- `station::procedures::tell_call` meets its contract. Assumes nothing.
use Rattle.station.proofs.Ends.{passed}
use Rattle.station.specs.Procedures.{call_slots}
use Rattle.station.proofs.procedures.tell_call.Goals as goal

pub returns : goal.returns
unfolding call_slots
returns c = let w = passed c.args.out.now c.answered.type_inv (c.answered.ensures.value, c.answered.ensures.out_after)
    (simp (c.name_part-named.ensures, c.statement_part-run.ensures, c.parameter_of-parameter.ensures, c.value_part-held.ensures, c.named_slot.ensures, c.number_slot.ensures, c.found_slot.ensures, c.case_slot.ensures, c.bits_slot.ensures)) in record { value = w.0; out_after = w.1 }
