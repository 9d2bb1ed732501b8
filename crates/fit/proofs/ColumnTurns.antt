-- A turn of the walk over a set's columns: their types are those put down and those of the columns from here on. Assumes nothing.
use Rattle.std.specs.Prelude.{Some, None}
use Prim.Native.Nat.{ℕ, ◌+◌, ◌-◌, ◌≤◌, ◌<◌}
use mathlib.Core.Path.{◌≡◌, refl, sym, ap, ◌∙◌}
use mathlib.Core.Bool.{true, false}
use mathlib.Core.List.{List, [], ◌∷◌, ◌++◌, append-nil}
use native.Mathlib.Nat.{add-sub_cancel_left}
use native.Mathlib.Numerals.{add-one}
use native.Mathlib.Omega.{arith}
use lib.ListN.{length, take, drop, set, length-set, length-append, length-map}
use lib.Seq.{take-suc-set, append_snoc, length-take-le}
use lib.Dec.{eqb}
use borrow.Author.Tests.{le-leb, lt-leb}
use Rattle.wire.specs.Le.{le_at}
use Rattle.script.specs.Records.{records, record_at}
use Rattle.script.specs.declared.Found.TheVariants.{Record, Cut, End}
use Rattle.script.proofs.Walk.{turn, cuts, ends}
use Rattle.script.specs.Runs.{ahead}
use Rattle.fit.specs.Misfits.{wrong_columns, types_in}
use Rattle.fit.specs.Walks.{Skips, ColumnsWalked}
use Rattle.fit.proofs.Skip.{skips-none, skips-one}

-- ---- the columns ahead

module _ (s : List ℕ) (at : ℕ) where
  pub columns-cut : record_at s at ≡ Cut → ahead 2 (records (drop at s)) ≡ []
  unfolding ahead
  columns-cut e = rw (cuts s at e)

  pub columns-end : record_at s at ≡ End → ahead 2 (records (drop at s)) ≡ []
  unfolding ahead
  columns-end e = rw (ends s at e)

  module _ {k st n : ℕ} (e : record_at s at ≡ Record k st n) where
    pub columns-other : eqb k 2 ≡ false → ahead 2 (records (drop at s)) ≡ []
    unfolding ahead
    columns-other h = rw (turn s at e, h)

    columns-one : eqb k 2 ≡ true → ahead 2 (records (drop at s)) ≡ take n (drop st s) ∷ ahead 2 (records (drop (st + n) s))
    unfolding ahead
    columns-one h = rw (turn s at e, h)

-- ---- their types

-- a type more is put down
put-type : (types : List ℕ) (c : ℕ) (p : List ℕ) (ps : List (List ℕ)) → c < length types
    → take (c + 1) (set types c (le_at 1 p)) ++ types_in ps ≡ take c types ++ types_in (p ∷ ps)
unfolding types_in
put-type types c p ps h = rw (add-one c, take-suc-set types c (le_at 1 p) h, append_snoc)

-- as many columns as types
counted : (types : List ℕ) (c : ℕ) (ps qs : List (List ℕ)) → c ≤ length types → take c types ++ types_in ps ≡ types_in qs → length qs ≡ c + length ps
unfolding types_in
counted types c ps qs h e =
    omega (arith, ap length e, length-append (take c types) (types_in ps), length-take-le c types h, length-map ps (le_at 1), length-map qs (le_at 1))

-- ---- the walk's turns

-- what is left of the columns from a place on, at column c
abbrev pub Left : List ℕ → ℕ → ℕ → ℕ → List ℕ → Type 0
Left s from at c types =
    (length types ≡ 128)
    × (c ≤ 128)
    × (take c types ++ types_in (ahead 2 (records (drop at s))) ≡ types_in (ahead 2 (records (drop from s))))
    × Skips s from at

pub columns-start : (s : List ℕ) (from : ℕ) (types : List ℕ) → length types ≡ 128 → Left s from from 0 types
columns-start s from types h = (h, omega arith, refl, skips-none s from)

module _ (s : List ℕ) (from at c : ℕ) (types : List ℕ) (left : Left s from at c types) where
  -- all columns are those passed and those from here on
  all : length (ahead 2 (records (drop from s))) ≡ c + length (ahead 2 (records (drop at s)))
  all = counted types c (ahead 2 (records (drop at s))) (ahead 2 (records (drop from s))) (omega (arith, left.0, left.1)) left.2

  pub columns-ended : ahead 2 (records (drop at s)) ≡ [] → ColumnsWalked s from types (Some (record { count = c; next = at }))
  unfolding wrong_columns types_in
  columns-ended h =
      let few : length (ahead 2 (records (drop from s))) ≤ 128 = omega (arith, all, ap length h, left.1) in
      (omega (arith, left.0, left.1), rw (le-leb (length (ahead 2 (records (drop from s)))) 128 few), sym (rw (h, append-nil) at left.2), left.3)

  -- a column
  module _ {st n : ℕ} (e : record_at s at ≡ Record 2 st n) where
    pub columns-many : 128 ≤ c → ColumnsWalked s from types None
    unfolding wrong_columns
    columns-many h =
        let many : 128 < length (ahead 2 (records (drop from s))) = omega (arith, all, ap length (columns-one s at e refl)) in
        rw (lt-leb (length (ahead 2 (records (drop from s)))) 128 many)

    pub columns-next : c < 128 → {v : ℕ} → v ≡ le_at 1 (take (st + n - st) (drop st s)) → Left s from (st + n) (c + 1) (set types c v)
    columns-next h {v} q =
        let q' = rw (add-sub_cancel_left st n) at q in (
          length-set types c v ∙ left.0,
          omega arith,
          rw q' (put-type types c (take n (drop st s)) (ahead 2 (records (drop (st + n) s))) (omega (arith, left.0)) ∙ rw (sym (columns-one s at e refl)) left.2),
          skips-one s from at e refl refl left.3,
        )
