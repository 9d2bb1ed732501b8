-- `station::steps::move_on` meets its contract. Assumes nothing.
use mathlib.Core.Path.{ap, ◌∙◌, refl}
use Rattle.station.specs.Steps.{with_type}
use Rattle.station.proofs.Ends.{passed}
use Rattle.station.proofs.Stepping.{no-position, no-out, moved}
use Rattle.station.proofs.steps.move_on.Goals as goal

pub returns-then-position-lt-POSITION_SLOTS : goal.returns-then-position-lt-POSITION_SLOTS
returns-then-position-lt-POSITION_SLOTS c = let a = c.args in
    let w = no-position a.position.now a.out.now a.columns a.token a.next c.if-position-lt-POSITION_SLOTS.true c.refused.type_inv (rw c.number.ensures at c.refused.ensures) in record { value = w.0; position_after = w.1.0; out_after = w.1.1 }

pub returns-then-out-lt-STEP_SLOTS : goal.returns-then-out-lt-STEP_SLOTS
returns-then-out-lt-STEP_SLOTS c = let a = c.args in
    let w = no-out a.position.now a.out.now a.columns a.token a.next c.if-position-lt-POSITION_SLOTS.false c.if-out-lt-STEP_SLOTS.true c.refused-then-out-lt-STEP_SLOTS.type_inv (rw c.number-then-out-lt-STEP_SLOTS.ensures at c.refused-then-out-lt-STEP_SLOTS.ensures) in record { value = w.0; position_after = w.1.0; out_after = w.1.1 }

pub returns : goal.returns
returns c = let a = c.args in
    let w = moved a.position.now a.out.now a.columns a.token a.next c.if-position-lt-POSITION_SLOTS.false c.if-out-lt-STEP_SLOTS.false
    (c.put_type.ensures ∙ ap (with_type a.columns a.token) c.put_spot.ensures) (passed a.out.now c.tell_token.type_inv (c.tell_token.ensures.value, c.tell_token.ensures.out_after) refl) in record { value = w.0; position_after = w.1.0; out_after = w.1.1 }
