-- `station::station_text` meets its contract. Assumes nothing.
use borrow.Author.Tests.{ne_eqb}
use Rattle.refusals.proofs.Numbers.{number-not-0}
use Rattle.station.proofs.Ends.{passed, stopped}
use Rattle.station.specs.Calls.{text_call}
use Rattle.station.proofs.station_text.Goals as goal

pub returns-in-Err : goal.returns-in-Err
unfolding text_call
returns-in-Err c = let a = c.args in
    let w = stopped a.out.now c.refused.type_inv (rw c.number.ensures at c.refused.ensures) (rw (← c.in-Err.ensures) (simp (ne_eqb _ _ (number-not-0 c.in-Err.refusal)))) in record { value = w.0; out_after = w.1 }

pub returns-in-Ok : goal.returns-in-Ok
unfolding text_call
returns-in-Ok c = let a = c.args in
    let w = passed a.out.now c.tell_text.type_inv (c.tell_text.ensures.value, c.tell_text.ensures.out_after) (rw (← c.in-Ok.ensures)) in record { value = w.0; out_after = w.1 }
