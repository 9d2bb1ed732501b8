-- Records that have no misfit of their own: whoever walks over misfits may go past them. Assumes nothing.
use Prim.Native.Nat.{ℕ, ◌+◌}
use mathlib.Core.Path.{◌≡◌, refl, ◌∙◌}
use mathlib.Core.Bool.{false}
use mathlib.Core.List.{List}
use native.Mathlib.Nat.{le_refl}
use native.Mathlib.Omega.{arith}
use lib.ListN.{drop}
use lib.Dec.{eqb}
use Rattle.script.specs.Records.{records, record_at}
use Rattle.script.specs.declared.Found.{Found}
use Rattle.script.specs.declared.Found.TheVariants.{Record}
use Rattle.script.proofs.Walk.{lies, turn}
use Rattle.emission.specs.Walk.{rows_after}
use Rattle.fit.specs.Records.{misfits_at, misfits_from}
use Rattle.fit.specs.Walks.{Skips}

-- the record at a place, whose kind is known by an equation
pub kind-is : {f : Found} {k j st n : ℕ} → f ≡ Record k st n → k ≡ j → f ≡ Record j st n
kind-is e h = rw h at e

pub skips-none : (s : List ℕ) (at : ℕ) → Skips s at at
skips-none s at = (le_refl at, λ set row types. refl)

-- a record that is no set and no row
module _ (s : List ℕ) (from at : ℕ) {k st n : ℕ} (e : record_at s at ≡ Record k st n) (h : eqb k 1 ≡ false) (g : eqb k 4 ≡ false) where
  past_one : (set row : ℕ) (types : List ℕ) → misfits_from set row types (records (drop at s)) ≡ misfits_from set row types (records (drop (st + n) s))
  unfolding misfits_from misfits_at rows_after
  past_one set row types = rw (turn s at e, h, g)

  pub skips-one : Skips s from at → Skips s from (st + n)
  skips-one skips = (let l = lies s at e in omega arith, λ set row types. skips.1 set row types ∙ past_one set row types)
