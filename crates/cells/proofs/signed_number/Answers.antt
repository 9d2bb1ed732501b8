-- `cells::signed_number` meets its contract. Assumes nothing.
use mathlib.Core.Path.{refl, ◌∙◌}
use native.Mathlib.Omega.{arith}
use mir.Syntax.{w16, w32, w64}
use mir.Facts.{to_z-of_z}
use Rattle.cells.proofs.CodeSigns.{one_byte, wider}
use Rattle.cells.proofs.CodeTypes.{width-last}
use Rattle.cells.proofs.signed_number.Goals as goal

pub returns-in-1 : goal.returns-in-1
returns-in-1 c = let h = rw c.in-1.is at c.requires.1 in rw c.in-1.is (one_byte c.args.n (omega arith))

pub returns-in-2 : goal.returns-in-2
returns-in-2 c =
    let m = c.cast_signed.type_inv in
    rw (c.in-2.is, to_z-of_z {w = w16} (record { sfits = m }))
    (to_z-of_z {w = w64} (record { sfits = omega arith }) ∙ c.cast_signed.ensures ∙ wider w16 2 c.args.n (λ q. absurd (omega arith)) refl refl)

pub returns-in-4 : goal.returns-in-4
returns-in-4 c =
    let m = c.cast_signed-in-4.type_inv in
    rw (c.in-4.is, to_z-of_z {w = w32} (record { sfits = m }))
    (to_z-of_z {w = w64} (record { sfits = omega arith }) ∙ c.cast_signed-in-4.ensures ∙ wider w32 4 c.args.n (λ q. absurd (omega arith)) refl refl)

pub returns-in_default : goal.returns-in_default
returns-in_default c =
    rw (width-last c.args.width c.requires.0 (λ e. absurd (omega arith)) (λ e. absurd (omega arith)) (λ e. absurd (omega arith)))
    (to_z-of_z {w = w64} (record { sfits = c.cast_signed-in_default.type_inv }) ∙ c.cast_signed-in_default.ensures
    ∙ wider w64 8 c.args.n (λ q. absurd (omega arith)) refl refl)
