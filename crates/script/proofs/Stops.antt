-- A loop over records stops where no record stands: at one that is cut, and at the end. Assumes nothing.
use Prim.Native.Nat.{ℕ}
use mathlib.Core.Path.{◌≡◌, refl, sym}
use mathlib.Core.List.{[], ◌∷◌}
use mathlib.Core.Logic.{inl, inr}
use native.Mathlib.Omega.{arith}
use denote.Enum.Declared.{tag_of}
use types.Run.{OneOf}
use Rattle.script.specs.contracts.Found.{the_type}
use Rattle.script.specs.declared.Found.{Found}
use Rattle.script.specs.declared.Found.TheVariants.{Record, Cut, End}

pub stops : {C : Type 0} {f g : Found} → g ≡ f → OneOf (1 ∷ 2 ∷ []) (tag_of the_type g) → (f ≡ Cut → C) → (f ≡ End → C) → C
stops {g = Record k st n} e (inl t) cut end = absurd (omega (arith, t))
stops {g = Record k st n} e (inr t) cut end = absurd (omega (arith, t))
stops {g = Cut} e t cut end = cut (sym e)
stops {g = End} e t cut end = end (sym e)

-- the same, where the code's own test is that it is no record
pub no_record : {C : Type 0} {f g : Found} → g ≡ f → ((k st n : ℕ) → g ≡ Record k st n → ⊥) → (f ≡ Cut → C) → (f ≡ End → C) → C
no_record {g = Record k st n} e t cut end = absurd (t k st n refl)
no_record {g = Cut} e t cut end = cut (sym e)
no_record {g = End} e t cut end = end (sym e)
