-- `station::steps::tell_cell` meets its contract. Assumes nothing.
use Prim.Native.Nat.{ℕ}
use mathlib.Core.Path.{sym, ap, ◌∙◌}
use mir.Syntax.{w64}
use mir.Facts.{to_z-of_z}
use Rattle.station.specs.Answer.{answers}
use Rattle.station.specs.Steps.{bits_of, four_slots, cell_slots}
use Rattle.station.proofs.Ends.{passed}
use Rattle.station.proofs.steps.tell_cell.Goals as goal

pub returns-in-Null : goal.returns-in-Null
returns-in-Null c = let w = passed c.args.out.now c.tell_four.type_inv (c.tell_four.ensures.value, c.tell_four.ensures.out_after) (ap (λ x. answers 1 (cell_slots x)) (sym c.in-Null.is)) in record { value = w.0; out_after = w.1 }

pub returns-in-Number : goal.returns-in-Number
returns-in-Number c = let k = c.in-Number.known_told-1-own.given in
    let n = c.bits.ensures ∙ ap bits_of (to_z-of_z {w = w64} (record { sfits = k.0.1 })) in
    let w = passed c.args.out.now c.tell_four-in-Number.type_inv (c.tell_four-in-Number.ensures.value, c.tell_four-in-Number.ensures.out_after)
    (ap (λ (n : ℕ). answers 1 (four_slots 2 1 n 0)) n ∙ ap (λ x. answers 1 (cell_slots x)) (sym c.in-Number.is)) in record { value = w.0; out_after = w.1 }

pub returns-in-Part : goal.returns-in-Part
returns-in-Part c = let w = passed c.args.out.now c.tell_four-in-Part.type_inv (c.tell_four-in-Part.ensures.value, c.tell_four-in-Part.ensures.out_after) (ap (λ x. answers 1 (cell_slots x)) (sym c.in-Part.is)) in record { value = w.0; out_after = w.1 }

pub returns-in-Max : goal.returns-in-Max
returns-in-Max c = let w = passed c.args.out.now c.tell_four-in-Max.type_inv (c.tell_four-in-Max.ensures.value, c.tell_four-in-Max.ensures.out_after) (ap (λ x. answers 1 (cell_slots x)) (sym c.in-Max.is)) in record { value = w.0; out_after = w.1 }
