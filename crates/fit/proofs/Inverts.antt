-- What it says of a script's records that they have no misfit (document 01, 'A script fits if ..'): each set's classification
-- is empty, it has at most 128 columns, and each row has a cell for each of its columns, one at least, of the column's type. Assumes nothing.
use Rattle.std.specs.Prelude.{None, Ok}
use Prim.Native.Nat.{ℕ, suc, ◌≤◌, ◌<◌}
use mathlib.Core.Path.{◌≡◌, refl, ◌∙◌}
use mathlib.Core.Bool.{Bool, true, false, cond, and-eq-true_iff, ◌&&◌}
use mathlib.Core.Option.{none}
use mathlib.Core.List.{List, [], ◌∷◌, ◌++◌, cons≢nil, append-eq-nil_iff, map-eq-nil_iff}
use native.Mathlib.Omega.{arith}
use lib.Dec.{eqb, leb}
use lib.ListN.{length, drop}
use borrow.Author.Tests.{ne_eqb, eqb-true, eqb-false, leb-true}
use Rattle.wire.proofs.Cases.{by-test}
use Rattle.wire.specs.Le.{le_at}
use Rattle.script.specs.Records.{Item, item, records}
use Rattle.script.specs.Shape.{cell_shaped}
use Rattle.script.specs.Runs.{ahead}
use Rattle.emission.specs.Walk.{error_in, rows_after}
use Rattle.emission.specs.Refusal.{refusal_of}
use Rattle.emission.proofs.BySets.{no-verdict}
use Rattle.fit.proofs.BySets.{by-sets}
use Rattle.fit.specs.Misfits.{cell_fits, wrong_cells, wrong_in_row, wrong_columns, types_in, first_of, fit_of}
use Rattle.fit.specs.Records.{cells_in, begin_misfits, cell_misfits, misfits_at, misfits_from, sets_from, terminal, misfits_in}
use Rattle.fit.specs.declared.Misfit.{Misfit}
use Rattle.fit.specs.declared.Misfit.TheVariants.{Column, Cell}

-- ---- lists and tests

both-empty : (xs ys : List Misfit) → xs ++ ys ≡ [] → (xs ≡ []) × (ys ≡ [])
both-empty xs ys h = (append-eq-nil_iff {p = xs} {q = ys}).0 h

-- nothing was put before
kept : (b : Bool) (xs ys : List ℕ) (c : ℕ) → cond b xs (c ∷ ys) ≡ [] → (b ≡ true) × (xs ≡ [])
kept true xs ys c h = (refl, h)
kept false xs ys c h = absurd (cons≢nil h)

-- ---- columns

columns-fit : (ps : List (List ℕ)) → wrong_columns ps ≡ [] → length ps ≤ 128
unfolding wrong_columns
columns-fit ps e = leb-true (length ps) 128 (kept (leb (length ps) 128) [] [] 128 e).0

-- ---- cells

-- a cell for each column, of its type
pub data Match : List ℕ → List (List ℕ) → Type 0 where
  no_cell : Match [] []
  cell : {t : ℕ} {p : List ℕ} {ts : List ℕ} {ps : List (List ℕ)} → cell_fits t p ≡ true → Match ts ps → Match (t ∷ ts) (p ∷ ps)

cells_fit : (c : ℕ) (ts : List ℕ) (ps : List (List ℕ)) → wrong_cells c ts ps ≡ [] → Match ts ps
unfolding wrong_cells
cells_fit c [] [] e = no_cell
cells_fit c [] (p ∷ ps) e = absurd (cons≢nil e)
cells_fit c (t ∷ ts) [] e = absurd (cons≢nil e)
cells_fit c (t ∷ ts) (p ∷ ps) e =
    let k = kept (cell_fits t p) (wrong_cells (suc c) ts ps) (wrong_cells (suc c) ts ps) c e in
    cell k.0 (cells_fit (suc c) ts ps k.1)

-- a row's cells, record by record: a cell, a chunk, and where the row ends
matched : {types p : List ℕ} {ps : List (List ℕ)} → Match types (p ∷ ps) → (t : ℕ) × (ts : List ℕ) × (types ≡ t ∷ ts) × (cell_fits t p ≡ true) × Match ts ps
matched (cell {t = t} {ts = ts} h m) = (t, ts, refl, h, m)

pub match-end : {types : List ℕ} → Match types [] → types ≡ []
match-end no_cell = refl

module _ (types : List ℕ) (k : ℕ) (p : List ℕ) (rs : List Item) (m : Match types (cells_in (item k p ∷ rs))) where
  pub match-cell : eqb k 5 ≡ true → (t : ℕ) × (ts : List ℕ) × (types ≡ t ∷ ts) × (cell_fits t p ≡ true) × Match ts (cells_in rs)
  unfolding cells_in
  match-cell h = matched (rw h at m)

  pub match-chunk : eqb k 5 ≡ false → eqb k 6 ≡ true → Match types (cells_in rs)
  unfolding cells_in
  match-chunk h g = rw (h, g) at m

  pub match-over : eqb k 5 ≡ false → eqb k 6 ≡ false → types ≡ []
  unfolding cells_in
  match-over h g = match-end (rw (h, g) at m)

-- the value of a cell and the type of its column
pub data Suits (t : ℕ) (p : List ℕ) : Type 0 where
  number : 1 ≤ le_at 1 p → le_at 1 p ≤ 4 → t ≡ le_at 1 p → Suits t p
  text : le_at 1 p ≡ 5 → t ≡ 5 → length (drop 1 p) ≤ 8000 → Suits t p
  nvarchar_max : le_at 1 p ≡ 6 → t ≡ 6 → Suits t p
  no_max : le_at 1 p ≡ 7 → 6 ≤ t → t ≤ 8 → Suits t p
  varchar_max : le_at 1 p ≡ 8 → t ≡ 7 → Suits t p
  varbinary_max : le_at 1 p ≡ 9 → t ≡ 8 → Suits t p
  no_number : le_at 1 p ≡ 10 → 1 ≤ t → t ≤ 4 → Suits t p

module _ (t : ℕ) (p : List ℕ) (shape : cell_shaped p ≡ true) (fits : cell_fits t p ≡ true) where
  abbrev v : ℕ
  v = le_at 1 p

  same : (v ≡ 5 → ⊥) → (v ≡ 7 → ⊥) → (v ≡ 8 → ⊥) → (v ≡ 9 → ⊥) → (v ≡ 10 → ⊥) → Suits t p
  unfolding cell_fits cell_shaped
  same h5 h7 h8 h9 h10 =
      let e = eqb-true t v (rw (ne_eqb v 5 h5, ne_eqb v 7 h7, ne_eqb v 8 h8, ne_eqb v 9 h9, ne_eqb v 10 h10) at fits) in
      by-test (leb 1 v && leb v 4)
      (λ h. let b = (and-eq-true_iff (leb 1 v) (leb v 4)).0 h in number (leb-true 1 v b.0) (leb-true v 4 b.1) e)
      (λ h. let b = (and-eq-true_iff (leb 6 v && leb v 10) (eqb (length p) 1)).0 (rw (h, ne_eqb v 5 h5) at shape) in
      let r = (and-eq-true_iff (leb 6 v) (leb v 10)).0 b.0 in
      let l = leb-true 6 v r.0 in
      let u = leb-true v 10 r.1 in
      let six : v ≡ 6 = omega arith in
      nvarchar_max six (e ∙ six))

  pub suits : Suits t p
  unfolding cell_fits
  suits =
      by-test (eqb v 5)
      (λ h. let b = (and-eq-true_iff (eqb t 5) (leb (length (drop 1 p)) 8000)).0 (rw h at fits) in text (eqb-true v 5 h) (eqb-true t 5 b.0) (leb-true (length (drop 1 p)) 8000 b.1))
      (λ h5. by-test (eqb v 7)
      (λ h. let b = (and-eq-true_iff (leb 6 t) (leb t 8)).0 (rw (h5, h) at fits) in no_max (eqb-true v 7 h) (leb-true 6 t b.0) (leb-true t 8 b.1))
      (λ h7. by-test (eqb v 8)
      (λ h. varchar_max (eqb-true v 8 h) (eqb-true t 7 (rw (h5, h7, h) at fits)))
      (λ h8. by-test (eqb v 9)
      (λ h. varbinary_max (eqb-true v 9 h) (eqb-true t 8 (rw (h5, h7, h8, h) at fits)))
      (λ h9. by-test (eqb v 10)
      (λ h. let b = (and-eq-true_iff (leb 1 t) (leb t 4)).0 (rw (h5, h7, h8, h9, h) at fits) in no_number (eqb-true v 10 h) (leb-true 1 t b.0) (leb-true t 4 b.1))
      (λ h10. same (eqb-false v 5 h5) (eqb-false v 7 h7) (eqb-false v 8 h8) (eqb-false v 9 h9) (eqb-false v 10 h10))))))

-- ---- sets and rows

pub set-fits : (set : ℕ) (p : List ℕ) (rs : List Item) → begin_misfits set p rs ≡ [] → (p ≡ []) × (length (ahead 2 rs) ≤ 128)
unfolding begin_misfits
set-fits set [] rs e =
    (refl, columns-fit (ahead 2 rs) ((map-eq-nil_iff (Column set) {l = wrong_columns (ahead 2 rs)}).0 e))
set-fits set (b ∷ p) rs e = absurd (cons≢nil e)

pub row_fits : (set row : ℕ) (types : List ℕ) (rs : List Item) → cell_misfits set row types rs ≡ [] → (0 < length types) × Match types (cells_in rs)
unfolding cell_misfits wrong_in_row
row_fits set row [] rs e = absurd (cons≢nil e)
row_fits set row (t ∷ ts) rs e =
    (omega arith, cells_fit 0 (t ∷ ts) (cells_in rs) ((map-eq-nil_iff (Cell set row) {l = wrong_cells 0 (t ∷ ts) (cells_in rs)}).0 e))

-- ---- record by record

module _ (set row : ℕ) (types : List ℕ) (k : ℕ) (p : List ℕ) (rs : List Item) (e : misfits_from set row types (item k p ∷ rs) ≡ []) where
  -- a set, with those after it
  pub fits-set : eqb k 1 ≡ true → (begin_misfits (suc set) p rs ≡ []) × (misfits_from (suc set) 0 (types_in (ahead 2 rs)) rs ≡ [])
  unfolding misfits_from misfits_at rows_after
  fits-set h = both-empty (begin_misfits (suc set) p rs) (misfits_from (suc set) 0 (types_in (ahead 2 rs)) rs) (rw h at e)

  -- a row, with the records after it
  pub fits-row : eqb k 1 ≡ false → eqb k 4 ≡ true → (cell_misfits set row types rs ≡ []) × (misfits_from set (suc row) types rs ≡ [])
  unfolding misfits_from misfits_at rows_after
  fits-row h g = both-empty (cell_misfits set row types rs) (misfits_from set (suc row) types rs) (rw (h, g) at e)

  -- any other record
  pub fits-other : eqb k 1 ≡ false → eqb k 4 ≡ false → misfits_from set row types rs ≡ []
  unfolding misfits_from misfits_at rows_after
  fits-other h g = rw (h, g) at e

-- ---- the script

-- the first set, with those after it, of a script that is not terminal
pub fits-first : (k : ℕ) (p : List ℕ) (rs : List Item) → misfits_in (item k p ∷ rs) ≡ [] → error_in 8 rs ≡ none
    → (begin_misfits 0 p rs ≡ []) × (misfits_from 0 0 (types_in (ahead 2 rs)) rs ≡ [])
unfolding misfits_in terminal sets_from
fits-first k p rs e h = both-empty (begin_misfits 0 p rs) (misfits_from 0 0 (types_in (ahead 2 rs)) rs) (rw h at e)

none_first : (ms : List Misfit) → first_of ms ≡ None → ms ≡ []
none_first [] e = refl
none_first (m ∷ ms) e = let z : ◌≡◌ {A = ℕ} 0 1 = cc in absurd (omega arith)

-- what the fit check's yes says
pub fits-yes : (s : List ℕ) → fit_of s ≡ Ok None → (refusal_of s ≡ 0) × (misfits_in (records s) ≡ [])
unfolding fit_of
fits-yes s e =
    by-test (eqb (refusal_of s) 0)
    (λ h. let r = eqb-true (refusal_of s) 0 h in
    let c = rw (h, by-sets s (no-verdict s r)) at e in
    (r, none_first (misfits_in (records s)) (cc)))
    (λ h. let c = rw h at e in let z : ◌≡◌ {A = ℕ} 0 1 = cc in absurd (omega arith))
