-- `station::steps::station_step` meets its contract. Assumes nothing.
use Prim.Native.Nat.{◌-◌}
use mathlib.Core.Path.{refl, sym, ap, ◌∙◌}
use native.Mathlib.Omega.{arith}
use Rattle.station.specs.Steps.{slots_after, position_of}
use Rattle.reader.specs.declared.Spot.{Spot}
use Rattle.reader.specs.Reader.{StepOf}
use Rattle.station.proofs.Ends.{passed, stopped, silent}
use Rattle.station.proofs.Stepping.{few, found, after-found, told}
use Rattle.station.proofs.steps.station_step.Goals as goal

pub held_in-requires : goal.held_in-requires
held_in-requires c = c.spot_in-at.ensures

pub move_on-requires : goal.move_on-requires
move_on-requires c = let a = c.args in
    let f = rw (c.in-Ok-Some.is, c.in-Ok-Some.field-0-is, ← c.in-Ok-Some.got-is) at (found a.position.now a.out.now a.packets.now c.spot_in-at.ensures c.held_in.ensures c.got_at.ensures refl) in
    let q = few a.packets.now (position_of a.position.now) (sym (ap (λ (s : StepOf). s.answer) f)) in
    let e = ap (λ (a : Spot). a.count) c.spot_in-at.ensures in
    omega (arith, q, e, c.saturating_sub-columns.ensures)

pub returns-in-Ok-Some : goal.returns-in-Ok-Some
returns-in-Ok-Some c = let a = c.args in
    let q = passed a.out.now c.move_on.type_inv (c.move_on.ensures.value, c.move_on.ensures.out_after) refl in
    let p = c.spot_in-at.ensures in
    let f = rw (c.in-Ok-Some.is, c.in-Ok-Some.field-0-is, ← c.in-Ok-Some.got-is) at (found a.position.now a.out.now a.packets.now c.spot_in-at.ensures c.held_in.ensures c.got_at.ensures refl) in
    let w = told a.position.now a.out.now a.packets.now f refl (after-found a.position.now a.out.now a.packets.now _ _ _ p c.spot_after-next.ensures) (c.saturating_sub-columns.ensures ∙ ap (λ (x : Spot). x.count - x.columns_left) p) (q.0, (c.move_on.ensures.position_after, q.1)) in
    record { value = w.0; position_after = w.1.0; out_after = w.1.1 }

pub returns-in-Ok-None : goal.returns-in-Ok-None
unfolding slots_after
returns-in-Ok-None c = let a = c.args in
    let q = silent a.out.now refl in
    let f = rw (c.in-Ok-None.is, c.in-Ok-None.field-0-is) at (found a.position.now a.out.now a.packets.now c.spot_in-at.ensures c.held_in.ensures c.got_at.ensures refl) in
    let w = told a.position.now a.out.now a.packets.now f refl refl refl (q.0, (refl, q.1)) in
    record { value = w.0; position_after = w.1.0; out_after = w.1.1 }

pub returns-in-Err : goal.returns-in-Err
unfolding slots_after
returns-in-Err c = let a = c.args in
    let q = stopped a.out.now c.refused.type_inv (rw c.number.ensures at c.refused.ensures) refl in
    let f = rw c.in-Err.is at (found a.position.now a.out.now a.packets.now c.spot_in-at.ensures c.held_in.ensures c.got_at.ensures refl) in
    let w = told a.position.now a.out.now a.packets.now f refl refl refl (q.0, (refl, q.1)) in
    record { value = w.0; position_after = w.1.0; out_after = w.1.1 }
