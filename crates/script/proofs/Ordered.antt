-- The order of an accepted script's records, as a structure to go by: each record with the place in its set where it stands
-- (document 01, 'The script'). Assumes nothing.
use mathlib.Core.Path.{◌≡◌, refl}
use mathlib.Core.Bool.{true, false, cond, ◌||◌}
use mathlib.Core.List.{List, [], ◌∷◌}
use Prim.Native.Nat.{ℕ, ◌≤◌, ◌<◌}
use native.Mathlib.Omega.{arith}
use lib.Dec.{eqb}
use borrow.Author.Tests.{eqb-true, eqb-false}
use Rattle.wire.specs.Le.{le_at}
use Rattle.wire.proofs.Cases.{by-test}
use Rattle.script.specs.declared.Stage.{Stage}
use Rattle.script.specs.declared.Stage.TheVariants.{Start, Columns, Leading, Infos, Rows, TextChunks, ByteChunks, Trailing}
use Rattle.script.specs.Records.{Item, item, cut}
use Rattle.script.specs.Order.{may_follow, is_one_of, allowed, cell_stage, stage_after}
use Rattle.script.specs.Verdict.{fault_of, verdict_from}
use Rattle.script.specs.Sets.{every, up_to_set}

-- The places of a set: 0 among its columns, 1 after its kind 7, 2 among its infos, 3 among its rows; 4 after all sets. A
-- kind of record, the first and the last place where it may stand, and the place after it
pub data Kind : ℕ → ℕ → ℕ → ℕ → Type 0 where
  set : Kind 1 0 3 0
  column : Kind 2 0 0 0
  leading : Kind 7 0 0 1
  terminal : Kind 8 0 1 2
  info : Kind 3 0 2 2
  row : Kind 4 0 3 3
  cell : Kind 5 3 3 3
  chunk : Kind 6 3 3 3
  trailing : Kind 9 0 4 4

-- records in their order, from a place on
pub data Ordered : ℕ → List Item → Type 0 where
  over : {n : ℕ} → Ordered n []
  next : {n k first last later : ℕ} {p : List ℕ} {rs : List Item} → Kind k first last later → first ≤ n → n ≤ last → Ordered later rs
      → Ordered n (item k p ∷ rs)

-- ---- an accepted script's records are in their order

-- the place of a stage
abbrev pub place_of : Stage → ℕ
place_of Start = 0
place_of Columns = 0
place_of Leading = 1
place_of Infos = 2
place_of Rows = 3
place_of TextChunks = 3
place_of ByteChunks = 3
place_of Trailing = 4

-- a cell of any value stands among rows
cell-place : (v : ℕ) → place_of (cell_stage v) ≡ 3
unfolding cell_stage
cell-place v = by-test (eqb v 6) (λ e. rw e) (λ e. by-test (eqb v 8 || eqb v 9) (λ f. rw (e, f)) (λ f. rw (e, f)))

-- a proof for each of some kinds
abbrev Each : (ℕ → Type 0) → List ℕ → Type 0
Each P [] = Unit {0}
Each P (j ∷ js) = P j × Each P js

-- a kind that is one of some is the first or one of the others
one-of : {X : Type 0} (k : ℕ) (js : List ℕ) → is_one_of k js ≡ true → Each (λ (j : ℕ). eqb k j ≡ true → X) js → X
one-of k [] e fs = let z : ◌≡◌ {A = ℕ} 0 1 = cc in absurd (omega arith)
one-of k (j ∷ js) e fs = by-test (eqb k j) fs.0 (λ f. one-of k js (rw f at e) fs.1)

-- a record that may stand next, with those after it in their order
module _ (st : Stage) (k : ℕ) (p : List ℕ) (rs : List Item) (o : Ordered (place_of (stage_after st k p)) rs) where
  abbrev here : ℕ
  here = place_of st

  abbrev There : Type 0
  There = Ordered here (item k p ∷ rs)

  -- its kind is j
  abbrev IsA : ℕ → Type 0
  IsA j = eqb k j ≡ true → There

  is-a : {j first last later : ℕ} → Kind j first last later → first ≤ here → here ≤ last → place_of (stage_after st j p) ≡ later → IsA j
  is-a {j} t f l b e = let same = eqb-true k j e in rw same (next t f l (rw (same, b) at o))

  -- the next row, set or trailing info
  after-rows : here ≤ 3 → Each IsA (4 ∷ 1 ∷ 9 ∷ [])
  unfolding stage_after
  after-rows h = (is-a row (omega arith) (omega arith) refl, (is-a set (omega arith) (omega arith) refl, (is-a trailing (omega arith) (omega arith) refl, tt)))

  after-info : here ≤ 2 → Each IsA (may_follow Infos)
  unfolding stage_after
  after-info h = (is-a info (omega arith) (omega arith) refl, after-rows (omega arith))

  after-leading : here ≤ 1 → Each IsA (may_follow Leading)
  unfolding stage_after
  after-leading h = (is-a terminal (omega arith) (omega arith) refl, after-info (omega arith))

  after-column : here ≤ 0 → Each IsA (may_follow Columns)
  unfolding stage_after
  after-column h = (is-a column (omega arith) (omega arith) refl, (is-a leading (omega arith) (omega arith) refl, after-leading (omega arith)))

  after-cell : here ≡ 3 → Each IsA (may_follow Rows)
  unfolding stage_after
  after-cell h = (is-a cell (omega arith) (omega arith) (cell-place (le_at 1 p)), after-rows (omega arith))

  after-chunk : here ≡ 3 → Each IsA (may_follow TextChunks)
  unfolding stage_after
  after-chunk h = (is-a chunk (omega arith) (omega arith) h, after-cell h)

-- by the stage
follow : (st : Stage) (k : ℕ) (p : List ℕ) (rs : List Item) (o : Ordered (place_of (stage_after st k p)) rs) → Each (IsA st k p rs o) (may_follow st)
unfolding stage_after
follow Start k p rs o = (is-a Start k p rs o set (omega arith) (omega arith) refl, tt)
follow Columns k p rs o = after-column Columns k p rs o (omega arith)
follow Leading k p rs o = after-leading Leading k p rs o (omega arith)
follow Infos k p rs o = after-info Infos k p rs o (omega arith)
follow Rows k p rs o = after-cell Rows k p rs o refl
follow TextChunks k p rs o = after-chunk TextChunks k p rs o refl
follow ByteChunks k p rs o = after-chunk ByteChunks k p rs o refl
follow Trailing k p rs o = (is-a Trailing k p rs o trailing (omega arith) (omega arith) refl, tt)

stands : (st : Stage) (k : ℕ) (p : List ℕ) (rs : List Item) → allowed st k ≡ true → Ordered (place_of (stage_after st k p)) rs
    → Ordered (place_of st) (item k p ∷ rs)
stands st k p rs e o = one-of k (may_follow st) e (follow st k p rs o)

-- a record of an accepted script is allowed, and those after it are accepted
module _ (st : Stage) (k : ℕ) (p : List ℕ) (rs : List Item) (e : verdict_from st (item k p ∷ rs) ≡ 0) where
  pub is-allowed : allowed st k ≡ true
  unfolding verdict_from fault_of
  is-allowed = by-test (allowed st k) (λ a. a) (λ a. absurd (omega (arith, rw a at e)))

  pub accepted-rest : verdict_from (stage_after st k p) rs ≡ 0
  unfolding verdict_from
  accepted-rest = by-test (eqb (fault_of st k p) 0) (λ f. rw f at e) (λ f. absurd (eqb-false (fault_of st k p) 0 f (rw f at e)))

-- the first record of an accepted script is a set
pub first-is : (k : ℕ) (p : List ℕ) (rs : List Item) → verdict_from Start (item k p ∷ rs) ≡ 0 → k ≡ 1
first-is k p rs e = one-of k (may_follow Start) (is-allowed Start k p rs e) (eqb-true k 1, tt)

pub ordered : (st : Stage) (rs : List Item) → verdict_from st rs ≡ 0 → Ordered (place_of st) rs
unfolding verdict_from
ordered st [] e = over
ordered st (cut ∷ rs) e = absurd (omega (arith, e))
ordered st (item k p ∷ rs) e = stands st k p rs (is-allowed st k p rs e) (ordered (stage_after st k p) rs (accepted-rest st k p rs e))

-- ---- what the order says of a set's records

-- the last place of each kind
abbrev last_of : ℕ → ℕ
last_of k = cond (eqb k 2 || eqb k 7) 0 (cond (eqb k 8) 1 (cond (eqb k 3) 2 (cond (eqb k 9) 4 3)))

last-of : {k first last later : ℕ} → Kind k first last later → last ≡ last_of k
last-of set = refl
last-of column = refl
last-of leading = refl
last-of terminal = refl
last-of info = refl
last-of row = refl
last-of cell = refl
last-of chunk = refl
last-of trailing = refl

-- within a set the places go on
onward : {k first last later : ℕ} → Kind k first last later → eqb k 1 ≡ false → last ≤ later
onward set e = let z : ◌≡◌ {A = ℕ} 0 1 = cc in absurd (omega arith)
onward column e = omega arith
onward leading e = omega arith
onward terminal e = omega arith
onward info e = omega arith
onward row e = omega arith
onward cell e = omega arith
onward chunk e = omega arith
onward trailing e = omega arith

-- a set has no more records of a kind whose last place is past
pub no_more : (j : ℕ) {n : ℕ} {rs : List Item} → last_of j < n → Ordered n rs → every j (up_to_set rs) ≡ []
unfolding every up_to_set
no_more j h over = refl
no_more j h (next {k = k} {last = last} {later = later} {rs = rs} t f l o) =
    by-test (eqb k 1) (λ e. rw e)
    (λ e. by-test (eqb k j)
    (λ g. let z : last ≡ last_of j = rw (eqb-true k j g) at (last-of t) in absurd (omega arith))
    (λ g. let m : last ≤ later = onward t e in rw (e, g) (no_more j (omega arith) o)))
