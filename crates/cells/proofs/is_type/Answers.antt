-- `cells::is_type` meets its contract. Assumes nothing.
use mathlib.Core.Path.{◌≡◌, refl, ◌∙◌}
use mathlib.Core.Bool.{Bool, true, false, ◌||◌}
use mathlib.Core.List.{[], ◌∷◌}
use mathlib.Core.Logic.{inl, inr}
use Prim.Native.Nat.{ℕ}
use lib.Dec.{eqb}
use types.Run.{OneOf}
use borrow.Author.Tests.{ne_eqb}
use Rattle.cells.specs.Cells.{is_type}
use Rattle.cells.proofs.is_type.Goals as goal

or-none : (b : Bool) → b ≡ (b || false)
or-none true = refl
or-none false = refl

-- a type that is Max alone
max-only : (code limit : ℕ) → OneOf (0xA5 ∷ 0xA7 ∷ []) code → eqb limit 0xFFFF ≡ is_type code limit
unfolding is_type
max-only code limit (inl e) = rw e
max-only code limit (inr e) = rw e

pub returns-in-38 : goal.returns-in-38
unfolding is_type
returns-in-38 c = rw c.in-38.is (or-none _ ∙ or-none _)

pub returns-in-231 : goal.returns-in-231
unfolding is_type
returns-in-231 c = rw c.in-231.is (or-none _)

pub returns-in-167 : goal.returns-in-167
unfolding is_type
returns-in-167 c = max-only c.args.code c.args.limit c.in-167.is

pub returns-in_default : goal.returns-in_default
unfolding is_type
returns-in_default c = let m = c.in_default.in_default-own.rest in
    let code = c.args.code in
    rw (ne_eqb _ _ m.0.0.1, ne_eqb _ _ m.0.1, ne_eqb code 0xA7 (λ e. m.1 (inr e)), ne_eqb code 0xA5 (λ e. m.1 (inl e)))
