-- A turn of the walk over a row's cells. What is left of the row's misfits is what the cells from here on have against the
-- columns that are left. Assumes nothing.
use Rattle.std.specs.Prelude.{Result, Err}
use Prim.Native.Nat.{ℕ, suc, ◌+◌, ◌-◌, ◌<◌}
use mathlib.Core.Path.{◌≡◌, refl, sym, ap, ◌∙◌}
use mathlib.Core.Bool.{Bool, true≢false, true, false}
use mathlib.Core.List.{List, [], ◌∷◌}
use native.Mathlib.Nat.{add-sub_cancel_left, lt_of_not-le}
use native.Mathlib.Numerals.{add-one}
use native.Mathlib.Omega.{arith}
use native.Mathlib.Decide.{dec_le}
use lib.ListN.{length, take, drop, drop_of_length-le}
use lib.Seq.{drop-cons, drop-drop}
use lib.Dec.{eqb}
use borrow.Author.Tests.{lt-ltb, le-ltb, not-true, not-false}
use Rattle.script.specs.Records.{records, record_at}
use Rattle.script.specs.declared.Found.TheVariants.{Record, Cut, End}
use Rattle.script.proofs.Walk.{turn, cuts, ends}
use Rattle.fit.specs.Misfits.{cell_fits, wrong_cells, wrong_in_row}
use Rattle.fit.specs.Records.{cells_in}
use Rattle.fit.specs.Walks.{Skips, First, cell_wrong, row_end, RowWalked}
use Rattle.fit.proofs.Skip.{skips-none, skips-one}

-- ---- the cells ahead

module _ (s : List ℕ) (at : ℕ) where
  pub cells_cut : record_at s at ≡ Cut → cells_in (records (drop at s)) ≡ []
  unfolding cells_in
  cells_cut e = rw (cuts s at e)

  pub cells-end : record_at s at ≡ End → cells_in (records (drop at s)) ≡ []
  unfolding cells_in
  cells-end e = rw (ends s at e)

  module _ {k st n : ℕ} (e : record_at s at ≡ Record k st n) where
    pub cells-other : eqb k 5 ≡ false → eqb k 6 ≡ false → cells_in (records (drop at s)) ≡ []
    unfolding cells_in
    cells-other h g = rw (turn s at e, h, g)

    pub cells-chunk : eqb k 6 ≡ true → eqb k 5 ≡ false → cells_in (records (drop at s)) ≡ cells_in (records (drop (st + n) s))
    unfolding cells_in
    cells-chunk h g = rw (turn s at e, g, h)

    pub cells-cell : eqb k 5 ≡ true → cells_in (records (drop at s)) ≡ take n (drop st s) ∷ cells_in (records (drop (st + n) s))
    unfolding cells_in
    cells-cell h = rw (turn s at e, h)

-- ---- the misfits among them, ts the types of the columns that are left

wrong-cell : (c : ℕ) (ts p : List ℕ) (ps : List (List ℕ)) → cell_wrong ts p ≡ true → First (wrong_cells c ts (p ∷ ps)) c
unfolding wrong_cells cell_wrong
wrong-cell c [] p ps h = ([], refl)
wrong-cell c (t ∷ ts) p ps h = (wrong_cells (suc c) ts ps, rw (not-true (cell_fits t p) h))

right-cell : (c : ℕ) (ts p : List ℕ) (ps : List (List ℕ)) → cell_wrong ts p ≡ false → wrong_cells c ts (p ∷ ps) ≡ wrong_cells (suc c) (drop 1 ts) ps
unfolding wrong_cells cell_wrong
right-cell c [] p ps h = absurd (true≢false h)
right-cell c (t ∷ ts) p ps h = rw (not-false (cell_fits t p) h)

-- after a right cell, one type less is left
next-cell : (c : ℕ) (types p : List ℕ) (ps : List (List ℕ)) → cell_wrong (drop c types) p ≡ false
    → wrong_cells (c + 1) (drop (c + 1) types) ps ≡ wrong_cells c (drop c types) (p ∷ ps)
next-cell c types p ps h = sym (right-cell c (drop c types) p ps h ∙ rw (drop-drop 1 c types, add-one c))

-- a right cell has a column
has-column : (types : List ℕ) (c : ℕ) (p : List ℕ) → cell_wrong (drop c types) p ≡ false → c < length types
unfolding cell_wrong
has-column types c p h = elim (dec_le (length types) c) [ yes g ↦ absurd (true≢false (rw (drop_of_length-le types g) at h)) | no g ↦ lt_of_not-le g ]

-- ---- the walk's turns

-- what is left of the misfits of the row from a place on, at cell c
abbrev pub Left : List ℕ → ℕ → List ℕ → ℕ → ℕ → Type 0
Left s from types at c =
    (wrong_cells c (drop c types) (cells_in (records (drop at s))) ≡ wrong_in_row types (cells_in (records (drop from s)))) × Skips s from at

pub row-none : (s : List ℕ) (from : ℕ) (types : List ℕ) → length types ≡ 0 → RowWalked s from types (Err 0)
unfolding wrong_in_row
row-none s from [] h = ([], refl)
row-none s from (t ∷ ts) h = absurd (omega arith)

pub row-start : (s : List ℕ) (from : ℕ) (types : List ℕ) → (length types ≡ 0 → ⊥) → Left s from types from 0
unfolding wrong_in_row
row-start s from [] h = absurd (h refl)
row-start s from (t ∷ ts) h = (refl, skips-none s from)

module _ (s : List ℕ) (from : ℕ) (types : List ℕ) (at c : ℕ) (left : Left s from types at c) where
  row-end : cells_in (records (drop at s)) ≡ [] → RowWalked s from types (row_end c (length types) at)
  unfolding row_end wrong_cells
  row-end h =
      let l = rw h at left.0 in
      elim (dec_le (length types) c) [
        | yes g ↦ rw (le-ltb c (length types) g) (sym l ∙ rw (drop_of_length-le types g), left.1)
        | no g ↦ let g' = lt_of_not-le g in rw (lt-ltb c (length types) g') ([], sym l ∙ rw (drop-cons types c 0 g'))
      ]

  pub row-ended : {r : Result ℕ ℕ} → cells_in (records (drop at s)) ≡ [] → r ≡ row_end c (length types) at → RowWalked s from types r
  row-ended h e = rw e (row-end h)

  pub row-chunk : {st n : ℕ} → record_at s at ≡ Record 6 st n → Left s from types (st + n) c
  row-chunk e = (ap (wrong_cells c (drop c types)) (sym (cells-chunk s at e refl refl)) ∙ left.0, skips-one s from at e refl refl left.1)

  -- a cell, whose payload is the slice from its start on
  module _ {st n : ℕ} {w : Bool} (e : record_at s at ≡ Record 5 st n) (g : w ≡ cell_wrong (drop c types) (take (st + n - st) (drop st s))) where
    tested : w ≡ cell_wrong (drop c types) (take n (drop st s))
    tested = rw (add-sub_cancel_left st n) at g

    pub row-wrong : w ≡ true → RowWalked s from types (Err c)
    row-wrong h =
        let f = wrong-cell c (drop c types) (take n (drop st s)) (cells_in (records (drop (st + n) s))) (sym tested ∙ h) in
        (f.0, sym left.0 ∙ ap (wrong_cells c (drop c types)) (cells-cell s at e refl) ∙ f.1)

    pub row_next : w ≡ false → Left s from types (st + n) (c + 1)
    row_next h = (
      next-cell c types (take n (drop st s)) (cells_in (records (drop (st + n) s))) (sym tested ∙ h) ∙ ap (wrong_cells c (drop c types)) (sym (cells-cell s at e refl)) ∙ left.0,
      skips-one s from at e refl refl left.1,
    )

    pub row_room : w ≡ false → c < length types
    row_room h = has-column types c (take n (drop st s)) (sym tested ∙ h)
