-- A position that stands where a list of tokens stands: what it holds, and that it passes the step's tests. Assumes nothing.
use mathlib.Core.Path.{◌≡◌, refl, sym, ap, ◌∙◌}
use mathlib.Core.Bool.{Bool, true}
use mathlib.Core.List.{List, [], ◌∷◌, ◌++◌, map}
use Prim.Native.Nat.{ℕ, zero, suc, ◌+◌, ◌-◌, ◌≤◌, ◌<◌}
use native.Mathlib.Omega.{arith}
use native.Mathlib.Nat.{le_of_suc-le-suc, not-suc-le-zero}
use borrow.Author.Tests.{le-leb}
use lib.ListN.{length, take, get_or, set, length-append}
use lib.Seq.{get_or-append_seam}
use Rattle.wire.specs.Fields.{Field}
use Rattle.reader.specs.declared.Position.{Position}
use Rattle.cells.specs.Cells.{is_type}
use Rattle.reader.specs.Positions.{held, stands}
use Rattle.reader.proofs.WellFormed.{ColumnType, Phase}
use Rattle.payload.specs.Places.{Source}
use Rattle.payload.proofs.Standing.{At}

-- ---- a list whose first entries are those of some columns

module _ (g : ColumnType → ℕ) where
  -- one column more
  pub add-entry : (l : List ℕ) (cs : List ColumnType) (c : ColumnType) → length cs < length l → take (length cs) l ≡ map g cs
      → take (length (cs ++ (c ∷ []))) (set l (length cs) (g c)) ≡ map g (cs ++ (c ∷ []))
  add-entry [] cs c h e = absurd (not-suc-le-zero h)
  add-entry (x ∷ l) [] c h e = refl
  add-entry (x ∷ l) (d ∷ cs) c h e =
      let t : take (length cs) l ≡ map g cs = cc in
      let q : x ≡ g d = cc in
      rw (q, add-entry l cs c (le_of_suc-le-suc h) t)

  pub entry_at : (l : List ℕ) (cs : List ColumnType) (d : ColumnType) (i : ℕ) → i < length cs → take (length cs) l ≡ map g cs
      → get_or l i 0 ≡ g (get_or cs i d)
  entry_at l [] d i h e = absurd (not-suc-le-zero h)
  entry_at [] (c ∷ cs) d i h e = let z : ◌≡◌ {A = ℕ} 0 1 = cc in absurd (omega arith)
  entry_at (x ∷ l) (c ∷ cs) d zero h e = cc
  entry_at (x ∷ l) (c ∷ cs) d (suc i) h e =
      let t : take (length cs) l ≡ map g cs = cc in
      entry_at l cs d i (le_of_suc-le-suc h) t

-- ---- columns of types that there are

abbrev pub Good : List ColumnType → Type 0
Good [] = Unit {0}
Good (c ∷ cs) = (is_type c.code c.limit ≡ true) × Good cs

pub good_more : (cs : List ColumnType) (c : ColumnType) → Good cs → is_type c.code c.limit ≡ true → Good (cs ++ (c ∷ []))
good_more [] c g e = (e, tt)
good_more (d ∷ cs) c g e = (g.0, good_more cs c g.1 e)

pub good-at : (cs : List ColumnType) (d : ColumnType) (i : ℕ) → i < length cs → Good cs → is_type (get_or cs i d).code (get_or cs i d).limit ≡ true
good-at [] d i h g = absurd (not-suc-le-zero h)
good-at (c ∷ cs) d zero h g = g.0
good-at (c ∷ cs) d (suc i) h g = good-at cs d i (le_of_suc-le-suc h) g.1

-- ---- a position and a phase

-- a position pos, at a place of the source p, stands where a list stands, before the fields fs; over: whether the last DONE was read
pub record Holds (p : Source) (pos : Position) (at : ℕ) (over : Bool) (ph : Phase) (fs : List Field) : Type 0 where
  pub here : At p at fs
  pub count-is : pos.count ≡ length ph.columns + ph.coming
  pub count≤ : pos.count ≤ 128
  pub types# : length pos.types ≡ 128
  pub limits# : length pos.limits ≡ 128
  pub types_are : take (length ph.columns) pos.types ≡ map (λ c. c.code) ph.columns
  pub limits-are : take (length ph.columns) pos.limits ≡ map (λ c. c.limit) ph.columns
  pub good : Good ph.columns
  pub columns-are : pos.columns_left ≡ ph.coming
  pub cells_are : pos.cells_left ≡ length ph.cells
  -- the columns whose cells were read, before those whose cells are to come
  pub read : List ColumnType
  pub read_is : ph.columns ≡ read ++ ph.cells
  pub over-is : pos.over ≡ over

module _ {p : Source} {pos : Position} {at : ℕ} {over : Bool} {ph : Phase} {fs : List Field} (h : Holds p pos at over ph fs) where
  pub cells≤ : length h.read + length ph.cells ≡ length ph.columns
  cells≤ = sym (ap length h.read_is ∙ length-append h.read ph.cells)

  no-type : ColumnType
  no-type = record { code = 0; limit = 0 }

  held-ok : (n : ℕ) → n ≤ length ph.columns → held n pos.types pos.limits ≡ true
  unfolding held
  held-ok zero l = refl
  held-ok (suc n) l =
      rw (
        entry_at (λ c. c.code) pos.types ph.columns no-type n l h.types_are,
        entry_at (λ c. c.limit) pos.limits ph.columns no-type n l h.limits-are,
        good-at ph.columns no-type n l h.good,
      )
      (held-ok n (omega arith))

  pub stands-ok : stands pos ≡ true
  unfolding stands
  stands-ok =
      let n : pos.count - pos.columns_left ≡ length ph.columns = omega arith in
      rw (
        n,
        le-leb pos.count 128 h.count≤,
        le-leb pos.columns_left pos.count (omega arith),
        le-leb pos.cells_left pos.count (omega (arith, cells≤)),
      )
      (held-ok (length ph.columns) (omega arith))

-- the column whose cell is next, as the position has it
module _ {p : Source} {pos : Position} {at : ℕ} {over : Bool} {cs cells : List ColumnType} {c : ColumnType} {fs : List Field}
    (h : Holds p pos at over (record { columns = cs; coming = 0; cells = c ∷ cells }) fs) where
  pub next-index : pos.count - pos.cells_left ≡ length h.read
  next-index = omega (arith, cells≤ h)

  next-column : get_or cs (length h.read) c ≡ c
  next-column = rw h.read_is (get_or-append_seam h.read c cells c)

  pub next-code : get_or pos.types (pos.count - pos.cells_left) 0 ≡ c.code
  next-code =
      rw next-index
      (entry_at (λ c. c.code) pos.types cs c (length h.read) (omega (arith, cells≤ h)) h.types_are ∙ ap (λ (d : ColumnType). d.code) next-column)

  pub next-limit : get_or pos.limits (pos.count - pos.cells_left) 0 ≡ c.limit
  next-limit =
      rw next-index
      (entry_at (λ c. c.limit) pos.limits cs c (length h.read) (omega (arith, cells≤ h)) h.limits-are ∙ ap (λ (d : ColumnType). d.limit) next-column)

  pub next-good : is_type c.code c.limit ≡ true
  next-good = rw next-column at (good-at cs c (length h.read) (omega (arith, cells≤ h)) h.good)
