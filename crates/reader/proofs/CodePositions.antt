-- What is known of a position that is not refused: its counts, and that the types that it holds are column types. Assumes nothing.
use mathlib.Core.Path.{◌≡◌, ap}
use mathlib.Core.Bool.{Bool, true, false, ◌&&◌}
use mathlib.Core.List.{List}
use Prim.Native.Nat.{ℕ, zero, suc, ◌+◌, ◌-◌, ◌≤◌, ◌<◌}
use native.Mathlib.Omega.{arith}
use native.Mathlib.Decide.{dec_le}
use native.Mathlib.Nat.{lt_of_not-le}
use lib.Dec.{leb}
use lib.ListN.{length, get_or, get_or-eq_default}
use borrow.Author.Tests.{leb-true}
use Rattle.cells.proofs.Types.{both}
use Rattle.reader.specs.declared.Position.{Position}
use Rattle.cells.specs.Cells.{is_type}
use Rattle.reader.specs.Positions.{held, stands}

-- ---- held types

-- one turn of the test
pub held_next : (n : ℕ) (types limits : List ℕ)
    → held (n + 1) types limits ≡ (is_type (get_or types n 0) (get_or limits n 0) && held n types limits)
unfolding held
held_next n types limits = let e : n + 1 ≡ suc n = omega arith in ap (λ (k : ℕ). held k types limits) e

-- each of the types
pub held-each : (n : ℕ) (types limits : List ℕ) (i : ℕ) → held n types limits ≡ true → i < n → is_type (get_or types i 0) (get_or limits i 0) ≡ true
unfolding held
held-each zero types limits i e h = absurd (omega arith)
held-each (suc n) types limits i e h =
    let w = both (is_type (get_or types n 0) (get_or limits n 0)) (held n types limits) e in
    elim (dec_le n i) [
      | yes l ↦ let q : i ≡ n = omega arith in rw q w.0
      | no l ↦ held-each n types limits i w.1 (lt_of_not-le l)
    ]

-- past the types there is none
pub held-past : (n : ℕ) (types limits : List ℕ) → length types ≤ 128 → 128 < n → held n types limits ≡ false
unfolding held is_type
held-past zero types limits l h = absurd (omega arith)
held-past (suc n) types limits l h = rw (get_or-eq_default types 0 {n = n} (omega arith))

-- ---- positions

pub record Standing (pos : Position) : Type 0 where
  pub few : pos.count ≤ 128
  pub columns : pos.columns_left ≤ pos.count
  pub cells : pos.cells_left ≤ pos.count
  pub types : held (pos.count - pos.columns_left) pos.types pos.limits ≡ true

pub standing : (pos : Position) → stands pos ≡ true → Standing pos
unfolding stands
standing pos e =
    let h : Bool = held (pos.count - pos.columns_left) pos.types pos.limits in
    let cells : Bool = leb pos.cells_left pos.count in
    let columns : Bool = leb pos.columns_left pos.count in
    let few : Bool = leb pos.count 128 in
    let e1 = both (few && columns && cells) h e in
    let e2 = both (few && columns) cells e1.0 in
    let e3 = both few columns e2.0 in
    record { few = leb-true _ _ e3.0; columns = leb-true _ _ e3.1; cells = leb-true _ _ e2.1; types = e1.1 }
