-- The valid counts in what is read are the script's counts of rows: by SetsRead they are those of the sets that are read, which by
-- DataRead are the script's. Assumes nothing.
use mathlib.Core.Path.{◌≡◌, refl, sym, ap, ◌∙◌}
use mathlib.Core.Bool.{Bool, true, false, not, ◌&&◌}
use mathlib.Core.List.{List, [], ◌∷◌, map}
use mathlib.Core.Option.{Option, none, some}
use Prim.Native.Nat.{ℕ, zero, suc, ◌+◌}
use native.Mathlib.Nat.{add-zero, zero-add, add-suc, suc-add}
use lib.Dec.{eqb}
use lib.ListN.{length, length-map}
use borrow.Author.Tests.{eqb-true, not-true}
use Rattle.wire.proofs.Cases.{clash}
use Rattle.payload.proofs.CodeReads.{and-true}
use Rattle.token.specs.Tokens.{Token, Value, metadata, column, row, cell, done, message}
use Rattle.script.specs.Records.{records}
use Rattle.script.specs.Sets.{ScriptSet, sets_in}
use Rattle.round_trip.specs.Reading.{count_valid, sets_end}
use Rattle.round_trip.specs.Data.{grouped, data_in, counts_in, row_data, sets_data, emitted_sets, row_count, present, RowsCounted, CountsRead}
use Rattle.round_trip.proofs.Reading.{sets-read}
use Rattle.round_trip.proofs.Data.{data-read}

-- ---- in tokens

-- a DONE within a set, and outside of one
counted : (s n rows : ℕ) (b : Bool) → (eqb n rows && count_valid s && b) ≡ true → (n ≡ rows) × (count_valid s ≡ true) × (b ≡ true)
counted s n rows b e =
    let h = and-true (eqb n rows && count_valid s) b e in
    let g = and-true (eqb n rows) (count_valid s) h.0 in
    (eqb-true n rows g.0, g.1, h.1)

uncounted : (s n : ℕ) (b : Bool) → (eqb n 0 && not (count_valid s) && b) ≡ true → (count_valid s ≡ false) × (b ≡ true)
uncounted s n b e =
    let h = and-true (eqb n 0 && not (count_valid s)) b e in
    (not-true (count_valid s) (and-true (eqb n 0) (not (count_valid s)) h.0).1, h.1)

-- outside a set no row comes before the next COLMETADATA
no_rows : (ts : List (Token Value)) → sets_end none ts ≡ true → (grouped ts).rows ≡ []
no_rows [] e = refl
no_rows (metadata n ∷ ts) e = refl
no_rows (column u f c l o n ∷ ts) e = clash (cc)
no_rows (row ∷ ts) e = clash (cc)
no_rows (cell v ∷ ts) e = clash (cc)
no_rows (done s c n ∷ ts) e = no_rows ts (uncounted s n (sets_end none ts) e).1
no_rows (message k n s c t v p l ∷ ts) e = no_rows ts e

-- the rows of the sets in some tokens; of a set that has begun, those that have come are counted too
abbrev rows_from : Option ℕ → List (Token Value) → List ℕ
rows_from none ts = map length (data_in ts)
rows_from (some rows) ts = (rows + length (grouped ts).rows) ∷ map length (data_in ts)

counted-from : (from : Option ℕ) (ts : List (Token Value)) → sets_end from ts ≡ true → counts_in ts ≡ rows_from from ts
counted-from none [] e = refl
counted-from none (metadata n ∷ ts) e = counted-from (some 0) ts e ∙ rw zero-add
counted-from none (column u f c l o n ∷ ts) e = clash (cc)
counted-from none (row ∷ ts) e = clash (cc)
counted-from none (cell v ∷ ts) e = clash (cc)
counted-from none (done s c n ∷ ts) e =
    let h = uncounted s n (sets_end none ts) e in
    rw h.0 (counted-from none ts h.1)
counted-from none (message k n s c t v p l ∷ ts) e = counted-from none ts e
counted-from (some rows) [] e = clash (cc)
counted-from (some rows) (metadata n ∷ ts) e = clash (cc)
counted-from (some rows) (column u f c l o n ∷ ts) e = counted-from (some rows) ts e
counted-from (some rows) (row ∷ ts) e = counted-from (some (suc rows)) ts e ∙ rw (add-suc, suc-add)
counted-from (some zero) (cell v ∷ ts) e = clash (cc)
counted-from (some (suc rows)) (cell v ∷ ts) e = counted-from (some (suc rows)) ts e
counted-from (some rows) (done s c n ∷ ts) e =
    let h = counted s n rows (sets_end none ts) e in
    rw (h.0, h.1, no_rows ts h.2, add-zero) (ap (λ (counts : List ℕ). rows ∷ counts) (counted-from none ts h.2))
counted-from (some rows) (message k n s c t v p l ∷ ts) e = counted-from (some rows) ts e

pub rows-counted : RowsCounted
rows-counted ts e = counted-from none ts e

-- ---- in a script

lengths-present : (sets : List (List (List Value))) → map length (present sets) ≡ map length sets
lengths-present [] = refl
lengths-present (rows ∷ sets) = rw (length-map rows (λ (values : List Value). map some values), lengths-present sets)

lengths-data : (ss : List ScriptSet) → map length (sets_data ss) ≡ map row_count ss
lengths-data [] = refl
lengths-data (s ∷ ss) = rw (length-map s.rows row_data, lengths-data ss)

pub counts-read : CountsRead
counts-read how s b n h ts r =
    rows-counted ts (sets-read how s b n h ts r)
    ∙ sym (lengths-present (data_in ts))
    ∙ ap (map length) (data-read how s b n h ts r)
    ∙ lengths-data (emitted_sets (sets_in (records s)))
