-- A turn of the walk over a set's rows, and what its beginning adds. What is left of the set's misfits is what the records
-- from here on have. Assumes nothing.
use Rattle.std.specs.Prelude.{Option, Some, None, Result, Ok, Err}
use Prim.Native.Nat.{ℕ, suc, ◌+◌, ◌-◌, ◌≤◌}
use mathlib.Core.Path.{◌≡◌, refl, sym, ◌∙◌}
use mathlib.Core.Bool.{false}
use mathlib.Core.List.{List, [], ◌∷◌, ◌++◌, map}
use native.Mathlib.Nat.{le_refl, add-sub_cancel_left}
use native.Mathlib.Numerals.{add-one}
use native.Mathlib.Omega.{arith}
use lib.ListN.{length, take, drop}
use lib.Dec.{eqb}
use Rattle.script.specs.Records.{Item, records, record_at}
use Rattle.script.specs.declared.Found.TheVariants.{Record, Cut, End}
use Rattle.script.proofs.Walk.{lies, turn, cuts, ends}
use Rattle.script.specs.Runs.{ahead}
use Rattle.emission.specs.Walk.{rows_after}
use Rattle.fit.specs.Misfits.{wrong_in_row, wrong_columns, types_in, first_of}
use Rattle.fit.specs.Records.{cells_in, begin_misfits, cell_misfits, misfits_at, misfits_from, set_from, sets_from}
use Rattle.fit.specs.Walks.{RowWalked, ColumnsWalked, Onward, goes_on, SetWalked}
use Rattle.fit.specs.declared.Misfit.{Misfit}
use Rattle.fit.specs.declared.Misfit.TheVariants.{Classification, Column, Cell}
use Rattle.fit.specs.declared.Columns.{Columns}
use Rattle.fit.proofs.Skip.{skips-none, skips-one}

-- ---- where a set ends

module _ (s : List ℕ) (at set row : ℕ) (types : List ℕ) where
  pub sets-cut : record_at s at ≡ Cut → misfits_from set row types (records (drop at s)) ≡ sets_from (suc set) (records (drop at s))
  unfolding misfits_from sets_from
  sets-cut e = rw (cuts s at e)

  pub sets_end_lem : record_at s at ≡ End → misfits_from set row types (records (drop at s)) ≡ sets_from (suc set) (records (drop at s))
  unfolding misfits_from sets_from
  sets_end_lem e = rw (ends s at e)

  pub sets-next : {st n : ℕ} → record_at s at ≡ Record 1 st n → misfits_from set row types (records (drop at s)) ≡ sets_from (suc set) (records (drop at s))
  unfolding misfits_from misfits_at rows_after sets_from
  sets-next e = rw (turn s at e)

  -- a row, its misfits before those of what is after it
  row_at : {st n : ℕ} → record_at s at ≡ Record 4 st n
      → misfits_from set row types (records (drop at s)) ≡ map (Cell set row) (wrong_in_row types (cells_in (records (drop (st + n) s)))) ++ misfits_from set (suc row) types (records (drop (st + n) s))
  unfolding misfits_from misfits_at cell_misfits rows_after
  row_at e = rw (turn s at e)

-- ---- the walk's turns

-- what is left of the rows from a place on, at a row
abbrev pub Left : List ℕ → ℕ → ℕ → List ℕ → ℕ → ℕ → Type 0
Left s set from types at row =
    (from ≤ at) × (row ≤ at) × (misfits_from set row types (records (drop at s)) ≡ misfits_from set 0 types (records (drop from s)))

module _ (s : List ℕ) (set from : ℕ) (types : List ℕ) where
  pub rows_start : Left s set from types from 0
  rows_start = (le_refl from, omega arith, refl)

  module _ (at row : ℕ) (left : Left s set from types at row) where
    pub rows-ended : misfits_from set row types (records (drop at s)) ≡ sets_from (suc set) (records (drop at s))
        → SetWalked s set from (misfits_from set 0 types (records (drop from s))) (Ok at)
    rows-ended h = (rw (sym left.2 ∙ h), left.0)

    pub rows_other : {k st n : ℕ} → record_at s at ≡ Record k st n → eqb k 1 ≡ false → eqb k 4 ≡ false → Left s set from types (st + n) row
    rows_other e h g =
        let skips = skips-one s at at e h g (skips-none s at) in
        (omega arith, omega arith, sym (skips.1 set row types) ∙ left.2)

    module _ {st n : ℕ} {r : Result ℕ ℕ} (e : record_at s at ≡ Record 4 st n) (walked : RowWalked s (st + n) types r) where
      pub rows-wrong : {c : ℕ} → r ≡ Err c → SetWalked s set from (misfits_from set 0 types (records (drop from s))) (Err (Cell set row c))
      rows-wrong h = let w = rw h at walked in (rw (sym left.2 ∙ row_at s at set row types e, w.1), tt)

      pub rows-onward : {to : ℕ} → r ≡ Ok to → st + n ≤ to
      rows-onward h = (rw h at walked).1.0

      pub rows_next : {to : ℕ} → r ≡ Ok to → Left s set from types to (row + 1)
      rows_next h =
          let w = rw h at walked in
          let l = lies s at e in
          (omega arith, omega arith, rw add-one (sym (w.1.1 set (suc row) types) ∙ sym (rw w.0 at (row_at s at set row types e)) ∙ left.2))

-- ---- a set's beginning

classified : (set : ℕ) (p : List ℕ) (rs : List Item) → (length p ≡ 0 → ⊥) → first_of (set_from set p rs) ≡ Some (Classification set)
unfolding begin_misfits
classified set [] rs h = absurd (h refl)
classified set (b ∷ p) rs h = refl

unclassified : (set : ℕ) (p : List ℕ) (rs : List Item) → length p ≡ 0
    → set_from set p rs ≡ map (Column set) (wrong_columns (ahead 2 rs)) ++ misfits_from set 0 (types_in (ahead 2 rs)) rs
unfolding begin_misfits
unclassified set [] rs h = refl
unclassified set (b ∷ p) rs h = absurd (omega arith)

onward : (from to : ℕ) (w : Result ℕ Misfit) → from ≤ to → Onward to w → Onward from w
onward from to (Ok end) h g = omega arith
onward from to (Err m) h g = tt

module _ (s : List ℕ) (set : ℕ) (p : List ℕ) (from : ℕ) where
  pub set-classified : (length p ≡ 0 → ⊥) → SetWalked s set from (set_from set p (records (drop from s))) (Err (Classification set))
  set-classified h = (classified set p (records (drop from s)) h, tt)

  module _ (types : List ℕ) {r : Option Columns} (empty : length p ≡ 0) (walked : ColumnsWalked s from types r) where
    pub set-types : {c : Columns} → r ≡ Some c → c.count ≤ length types
    set-types h = (rw h at walked).0

    pub set-wrong : r ≡ None → SetWalked s set from (set_from set p (records (drop from s))) (Err (Column set 128))
    set-wrong h = let w = rw h at walked in (rw (unclassified set p (records (drop from s)) empty, w), tt)

    pub set-rows : {c : Columns} (w : Result ℕ Misfit) → r ≡ Some c → SetWalked s set c.next (misfits_from set 0 (take c.count types) (records (drop c.next s))) w
        → SetWalked s set from (set_from set p (records (drop from s))) w
    set-rows {c} w h rows =
        let g = rw h at walked in
        (rw (unclassified set p (records (drop from s)) empty, g.1, g.2, g.3.1 set 0 (take c.count types)) rows.0, onward from c.next w g.3.0 rows.1)

-- ---- set after set

-- what is left of the sets, at one of them
abbrev pub LeftSets : List ℕ → ℕ → ℕ → Type 0
LeftSets s at set = (set ≤ at) × (first_of (sets_from set (records (drop at s))) ≡ first_of (sets_from 0 (records s)))

module _ (s : List ℕ) (at set : ℕ) (left : LeftSets s at set) where
  pub all-cut : record_at s at ≡ Cut → None ≡ first_of (sets_from 0 (records s))
  unfolding sets_from
  all-cut e = rw (cuts s at e) at left.1

  pub all_end : record_at s at ≡ End → None ≡ first_of (sets_from 0 (records s))
  unfolding sets_from
  all_end e = rw (ends s at e) at left.1

  -- a set, whose classification is the slice from its start on
  module _ {k st n : ℕ} (r : Result ℕ Misfit) (e : record_at s at ≡ Record k st n)
      (walked : SetWalked s set (st + n) (set_from set (take (st + n - st) (drop st s)) (records (drop (st + n) s))) r) where
    set_at : goes_on s set r ≡ first_of (sets_from 0 (records s))
    unfolding sets_from
    set_at = sym (rw (add-sub_cancel_left st n) at walked.0) ∙ rw (turn s at e) at left.1

    pub all-wrong : {m : Misfit} → r ≡ Err m → Some m ≡ first_of (sets_from 0 (records s))
    all-wrong h = rw h at set_at

    pub all-onward : {to : ℕ} → r ≡ Ok to → st + n ≤ to
    all-onward h = (rw h at walked).1

    pub all-next : {to : ℕ} → r ≡ Ok to → LeftSets s to (set + 1)
    all-next h = let l = lies s at e in let o = all-onward h in (omega (arith, left.0), rw add-one (rw h at set_at))
