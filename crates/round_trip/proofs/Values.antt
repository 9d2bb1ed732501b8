-- The values of an accepted script's cells are what the cells state that it emits: value bytes are 1 to 10 there. Assumes nothing.
use mathlib.Core.Path.{◌≡◌, refl, sym, ap, ◌∙◌}
use mathlib.Core.Bool.{true, and-eq-true_iff, ◌&&◌}
use mathlib.Core.List.{List, [], ◌∷◌, ◌++◌, map, flat_map}
use mathlib.Core.Option.{Option, some}
use Prim.Native.Nat.{ℕ, ◌≤◌}
use native.Mathlib.Omega.{arith}
use lib.Dec.{eqb, leb}
use lib.ListN.{length, drop}
use borrow.Author.Tests.{eqb-true, eqb-false, leb-true}
use Rattle.wire.proofs.Cases.{by-test}
use Rattle.wire.specs.Le.{le_at}
use Rattle.token.specs.Tokens.{Value, value_of, joined}
use Rattle.token.specs.Values.{column_values, column_value_in, column_value_of}
use Rattle.script.specs.declared.Stage.{Stage}
use Rattle.script.specs.Records.{Item, item, cut}
use Rattle.script.specs.Order.{stage_after}
use Rattle.script.specs.Shape.{cell_shaped, shaped}
use Rattle.script.specs.Verdict.{verdict_from}
use Rattle.script.specs.Runs.{ahead}
use Rattle.script.specs.Sets.{ScriptCell, ScriptRow, ScriptSet, cells_in, rows_in, up_to_set, sets_in}
use Rattle.emission.specs.Emission.{cell_of}
use Rattle.round_trip.specs.Data.{value_by, cell_data, row_data, sets_data, unless_error, emitted_sets, present}
use Rattle.round_trip.proofs.Accepted.{taken}

-- ---- a cell

-- value byte 1 to 10
pub value-byte : (p : List ℕ) → cell_shaped p ≡ true → (1 ≤ le_at 1 p) × (le_at 1 p ≤ 10)
unfolding cell_shaped
value-byte p e =
    let v = le_at 1 p in
    by-test (leb 1 v && leb v 4)
    (λ h. let b = (and-eq-true_iff (leb 1 v) (leb v 4)).0 h in (leb-true 1 v b.0, omega (arith, leb-true v 4 b.1)))
    (λ h. by-test (eqb v 5)
    (λ g. let five = eqb-true v 5 g in (omega arith, omega arith))
    (λ g. let b = (and-eq-true_iff (leb 6 v && leb v 10) (eqb (length p) 1)).0 (rw (h, g) at e) in
    let r = (and-eq-true_iff (leb 6 v) (leb v 10)).0 b.0 in
    (omega (arith, leb-true 6 v r.0), leb-true v 10 r.1)))

module _ (p : List ℕ) (cs : List (List ℕ)) where
  pub value-is : cell_shaped p ≡ true → value_by (le_at 1 p) (drop 1 p) (joined cs) ∷ [] ≡ map some (map value_of (cell_of p cs))
  unfolding value_by cell_of column_value_of column_values column_value_in
  value-is e =
      let v = le_at 1 p in
      let r = value-byte p e in
      by-test (eqb v 1) (λ h. rw (eqb-true v 1 h))
      (λ h1. by-test (eqb v 2) (λ h. rw (eqb-true v 2 h))
      (λ h2. by-test (eqb v 3) (λ h. rw (eqb-true v 3 h))
      (λ h3. by-test (eqb v 4) (λ h. rw (eqb-true v 4 h))
      (λ h4. by-test (eqb v 5) (λ h. rw (eqb-true v 5 h))
      (λ h5. by-test (eqb v 6) (λ h. rw (eqb-true v 6 h))
      (λ h6. by-test (eqb v 7) (λ h. rw (eqb-true v 7 h))
      (λ h7. by-test (eqb v 8) (λ h. rw (eqb-true v 8 h))
      (λ h8. by-test (eqb v 9) (λ h. rw (eqb-true v 9 h))
      (λ h9.
      let low : 5 ≤ v = omega (arith, r.0, eqb-false v 1 h1, eqb-false v 2 h2, eqb-false v 3 h3, eqb-false v 4 h4) in
      let ten : v ≡ 10 = omega (arith, r.1, eqb-false v 5 h5, eqb-false v 6 h6, eqb-false v 7 h7, eqb-false v 8 h8, eqb-false v 9 h9) in
      rw ten)))))))))

-- ---- the cells of records

abbrev pub stated_cell : ScriptCell → List Value
stated_cell c = map value_of (cell_of c.value c.chunks)

abbrev pub stated_row : ScriptRow → List Value
stated_row r = flat_map stated_cell r.cells

abbrev pub stated_set : ScriptSet → List (List Value)
stated_set s = map stated_row s.rows

-- every cell among some records has the shape of one
abbrev CellsShaped : List Item → Type 0
CellsShaped [] = Unit {0}
CellsShaped (cut ∷ rs) = Unit {0}
CellsShaped (item k p ∷ rs) = (eqb k 5 ≡ true → cell_shaped p ≡ true) × CellsShaped rs

cells-shaped : (st : Stage) (rs : List Item) → verdict_from st rs ≡ 0 → CellsShaped rs
unfolding shaped
cells-shaped st [] e = tt
cells-shaped st (cut ∷ rs) e = tt
cells-shaped st (item k p ∷ rs) e =
    let t = taken st k p rs e in
    ((λ h. shape (eqb-true k 5 h) t.shape), cells-shaped (stage_after st k p) rs t.rest)
  where
    shape : k ≡ 5 → shaped st k p ≡ true → cell_shaped p ≡ true
    shape same s = rw same at s

in-set : (rs : List Item) → CellsShaped rs → CellsShaped (up_to_set rs)
unfolding up_to_set
in-set [] h = tt
in-set (cut ∷ rs) h = tt
in-set (item k p ∷ rs) h = by-test (eqb k 1) (λ e. rw e tt) (λ e. rw e (h.0, in-set rs h.1))

abbrev somes : List Value → List (Option Value)
somes values = map some values

somes-cat : (xs ys : List Value) → somes (xs ++ ys) ≡ somes xs ++ somes ys
somes-cat [] ys = refl
somes-cat (x ∷ xs) ys = rw (somes-cat xs ys)

cells_are : (rs : List Item) → CellsShaped rs → map cell_data (cells_in rs) ≡ somes (flat_map stated_cell (cells_in rs))
unfolding cells_in flat_map
cells_are [] h = refl
cells_are (cut ∷ rs) h = refl
cells_are (item k p ∷ rs) h =
    by-test (eqb k 5)
    (λ e. let cs = cell_of p (ahead 6 rs) in
    let one = value-is p (ahead 6 rs) (h.0 e) in
    rw e
    (ap (λ (xs : List (Option Value)). xs ++ map cell_data (cells_in rs)) one
    ∙ ap (λ (ys : List (Option Value)). somes (map value_of cs) ++ ys) (cells_are rs h.1)
    ∙ sym (somes-cat (map value_of cs) (flat_map stated_cell (cells_in rs)))))
    (λ e. by-test (eqb k 6) (λ f. rw (e, f, cells_are rs h.1)) (λ f. rw (e, f)))

rows_are : (rs : List Item) → CellsShaped rs → map row_data (rows_in rs) ≡ map somes (map stated_row (rows_in rs))
unfolding rows_in
rows_are [] h = refl
rows_are (cut ∷ rs) h = refl
rows_are (item k p ∷ rs) h =
    by-test (eqb k 4) (λ e. rw (e, cells_are rs h.1, rows_are rs h.1)) (λ e. rw (e, rows_are rs h.1))

-- a set, and those after it
set_then : {A : Type 0} {x y : A} {xs ys : List A} → x ≡ y → xs ≡ ys → x ∷ xs ≡ y ∷ ys
set_then e f = rw (e, f)

sets-are : (rs : List Item) → CellsShaped rs → sets_data (sets_in rs) ≡ present (map stated_set (sets_in rs))
unfolding sets_in
sets-are [] h = refl
sets-are (cut ∷ rs) h = refl
sets-are (item k p ∷ rs) h =
    by-test (eqb k 1)
    (λ e. rw e (set_then (rows_are (up_to_set rs) (in-set rs h.1)) (sets-are rs h.1)))
    (λ e. rw (e, sets-are rs h.1))

-- ---- the emitted sets

unless-are : (es : List (List ℕ)) (ss : List ScriptSet) → sets_data ss ≡ present (map stated_set ss)
    → sets_data (unless_error es ss) ≡ present (map stated_set (unless_error es ss))
unless-are [] ss h = h
unless-are (e ∷ es) ss h = refl

emitted-are : (ss : List ScriptSet) → sets_data ss ≡ present (map stated_set ss)
    → sets_data (emitted_sets ss) ≡ present (map stated_set (emitted_sets ss))
emitted-are [] h = refl
emitted-are (s ∷ ss) h = unless-are s.terminal (s ∷ ss) h

-- the values of the emitted sets of accepted records are those that their cells state
pub values-are : (st : Stage) (rs : List Item) → verdict_from st rs ≡ 0
    → sets_data (emitted_sets (sets_in rs)) ≡ present (map stated_set (emitted_sets (sets_in rs)))
values-are st rs e = emitted-are (sets_in rs) (sets-are rs (cells-shaped st rs e))
