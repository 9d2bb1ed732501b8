-- Which misfit of a script is its first (document 02, 2026-06): 'by set; within a set the classification, then columns, then cells by
-- row and column'. The order is that of the misfits themselves, in whatever list they stand. Rests on Misfits.
use Rattle.std.specs.Prelude.{Some, None, Ok, ℕ, ◌≡◌, Bool, true, false, cond, eqb, ltb}
use mathlib.Core.List.{List, [], ◌∷◌, Mem}
use Rattle.script.specs.Records.{records}
use Rattle.script.specs.Sets.{sets_in}
use Rattle.emission.specs.Refusal.{refusal_of}
use Rattle.fit.specs.Misfits.{misfits, fit_of}
use Rattle.fit.specs.declared.Misfit.{Misfit}
use Rattle.fit.specs.declared.Misfit.TheVariants.{Classification, Column, Cell}

-- ---- the order

-- where a misfit stands: its set; in it 1 for the classification, 2 for columns, 3 for cells; its row and column, 0 where there is none
unfoldable pub place : Misfit → List ℕ
place (Classification set) = set ∷ 1 ∷ 0 ∷ 0 ∷ []
place (Column set column) = set ∷ 2 ∷ 0 ∷ column ∷ []
place (Cell set row column) = set ∷ 3 ∷ row ∷ column ∷ []

-- whether one place is earlier than another: the first numbers that differ decide; where one place ends first, it is the earlier
unfoldable pub earlier : List ℕ → List ℕ → Bool
earlier xs [] = false
earlier [] (y ∷ ys) = true
earlier (x ∷ xs) (y ∷ ys) = cond (eqb x y) (earlier xs ys) (ltb x y)

-- whether one misfit comes before another
unfoldable pub before : Misfit → Misfit → Bool
before m o = earlier (place m) (place o)

-- This is an order: no misfit comes before itself; one that comes before another comes before all that follow that one; and of two
-- different ones, one comes before the other.
abbrev pub InOrder : Type 0
InOrder =
    ((m : Misfit) → before m m ≡ false)
    × ((m n o : Misfit) → before m n ≡ true → before n o ≡ true → before m o ≡ true)
    × ((m n : Misfit) → before m n ≡ false → before n m ≡ false → m ≡ n)

-- ---- the first

-- a misfit that a script has
abbrev pub Has : List ℕ → Misfit → Type 0
Has s m = Mem m (misfits (sets_in (records s)))

-- a script's first misfit: it has it, and none that comes before it
abbrev pub IsFirst : List ℕ → Misfit → Type 0
IsFirst s m = Has s m × ((o : Misfit) → Has s o → before o m ≡ false)

-- the fit check answers the first misfit
abbrev pub FirstMisfit : Type 0
FirstMisfit = (s : List ℕ) (m : Misfit) → fit_of s ≡ Ok (Some m) → IsFirst s m

-- the other way: a script that is not refused and has a first misfit is answered with it
abbrev pub FirstAnswered : Type 0
FirstAnswered = (s : List ℕ) (m : Misfit) → refusal_of s ≡ 0 → IsFirst s m → fit_of s ≡ Ok (Some m)

-- a script that fits has none
abbrev pub FitsWithout : Type 0
FitsWithout = (s : List ℕ) → fit_of s ≡ Ok None → (m : Misfit) → Has s m → ⊥
