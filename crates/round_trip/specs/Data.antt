-- The sets that are read, each with its rows and the value in each cell, are those of the script's records (document 01, 'What a
-- script emits'). A script's own are said here from its records, and not by the tokens that it emits. Rests on script's records and
-- sets, token's numbers, and RoundTrip.
use Rattle.std.specs.Prelude.{ℕ, ◌≡◌, true, cond, ◌||◌, List, [], ◌∷◌, map, eqb, length, drop}
use Rattle.std.proofs.Math.Option.{Option, none, some}
use Rattle.wire.specs.Le.{le_at}
use Rattle.token.specs.Tokens.{Token, Value, metadata, column, row, cell, done, message, states}
use Rattle.token.specs.Tokens.{number, part, null, signed, joined}
use Rattle.script.specs.Records.{records}
use Rattle.script.specs.Sets.{ScriptCell, ScriptRow, ScriptSet, sets_in}
use Rattle.emission.specs.Emission.{emitted}
use Rattle.round_trip.specs.RoundTrip.{Packing, packets_left, Sent, Reads}
use Rattle.round_trip.specs.Reading.{count_valid, sets_end}

-- ---- of tokens

-- the values of the cells up to the next ROW, the rows up to the next COLMETADATA, and the sets from there on
pub record Grouped : Type 0 where
  pub cells : List Value
  pub rows : List (List Value)
  pub sets : List (List (List Value))

abbrev pub grouped : List (Token Value) → Grouped
grouped [] = record { cells = []; rows = []; sets = [] }
grouped (metadata n ∷ ts) = let g = grouped ts in record { cells = []; rows = []; sets = g.rows ∷ g.sets }
grouped (row ∷ ts) = let g = grouped ts in record { cells = []; rows = g.cells ∷ g.rows; sets = g.sets }
grouped (cell v ∷ ts) = let g = grouped ts in record { cells = v ∷ g.cells; rows = g.rows; sets = g.sets }
grouped (column u f c l o n ∷ ts) = grouped ts
grouped (done s c n ∷ ts) = grouped ts
grouped (message k n s c t v p l ∷ ts) = grouped ts

-- the sets in some tokens: a set for each COLMETADATA, a row for each ROW after it, a value for each cell after that; by SetsRead
-- (Reading) no row and no cell that is read stands elsewhere
abbrev pub data_in : List (Token Value) → List (List (List Value))
data_in ts = (grouped ts).sets

-- the counts that are valid, those of the DONEs with DONE_COUNT: what a client believes and shows
abbrev pub counts_in : List (Token Value) → List ℕ
counts_in [] = []
counts_in (metadata n ∷ ts) = counts_in ts
counts_in (column u f c l o n ∷ ts) = counts_in ts
counts_in (row ∷ ts) = counts_in ts
counts_in (cell v ∷ ts) = counts_in ts
counts_in (done s c n ∷ ts) = cond (count_valid s) (n ∷ counts_in ts) (counts_in ts)
counts_in (message k n s c t v p l ∷ ts) = counts_in ts

-- ---- of a script, by its records of kinds 1, 4, 5 and 6

-- The value of a cell: v its value byte, x what follows that byte in its kind 5, chunks the bytes of its kind 6 records joined.
-- For 1 to 4 the number, of one byte without a sign, else with it; for 5 the text's bytes; for 6, 8 and 9 all its chunks' bytes
-- joined; for 7 and 10 null. Another byte stands for no value.
unfoldable pub value_by : ℕ → List ℕ → List ℕ → Option Value
value_by v x chunks =
    cond (eqb v 1) (some (number (signed 1 (le_at 1 x))))
    (cond (eqb v 2) (some (number (signed 2 (le_at 2 x))))
    (cond (eqb v 3) (some (number (signed 4 (le_at 4 x))))
    (cond (eqb v 4) (some (number (signed 8 (le_at 8 x))))
    (cond (eqb v 5) (some (part x))
    (cond (eqb v 6 || eqb v 8 || eqb v 9) (some (part chunks))
    (cond (eqb v 7 || eqb v 10) (some null)
    none))))))

abbrev pub cell_data : ScriptCell → Option Value
cell_data c = value_by (le_at 1 c.value) (drop 1 c.value) (joined c.chunks)

-- a row as the values of its cells, a set as its rows
abbrev pub row_data : ScriptRow → List (Option Value)
row_data r = map cell_data r.cells

abbrev pub set_data : ScriptSet → List (List (Option Value))
set_data s = map row_data s.rows

abbrev pub sets_data : List ScriptSet → List (List (List (Option Value)))
sets_data [] = []
sets_data (s ∷ ss) = set_data s ∷ sets_data ss

-- none where there is an error (kind 8)
abbrev pub unless_error : List (List ℕ) → List ScriptSet → List ScriptSet
unless_error [] ss = ss
unless_error (e ∷ es) ss = []

-- the sets that are emitted ('All sets are emitted, in a terminal script none'): a terminal script has kind 8 in its first set
abbrev pub emitted_sets : List ScriptSet → List ScriptSet
emitted_sets [] = []
emitted_sets (s ∷ ss) = unless_error s.terminal (s ∷ ss)

-- the emitted sets of a script s: each with its rows, each of these with the value of each cell
abbrev pub data_of : List ℕ → List (List (List (Option Value)))
data_of s = sets_data (emitted_sets (sets_in (records s)))

-- the counts of rows of the emitted sets: the number of kind 4 records of each
abbrev pub row_count : ScriptSet → ℕ
row_count s = length s.rows

abbrev pub counts_of : List ℕ → List ℕ
counts_of s = map row_count (emitted_sets (sets_in (records s)))

-- ---- statements

-- values that are there
abbrev pub present : List (List (List Value)) → List (List (List (Option Value)))
present sets = map (λ (rows : List (List Value)). map (λ (values : List Value). map some values) rows) sets

-- Each emitted set is read with exactly its count of rows and the value in each cell, and no other set: the sets that are read are
-- those of the script's kind 1 records, their rows those of its kind 4, the values those of its kind 5 with their chunks.
abbrev pub DataRead : Type 0
DataRead =
    (how : Packing) (s b : List ℕ) (n : ℕ) → Sent how s b n → (ts : List (Token Value)) → Reads (packets_left how s b n) ts
    → present (data_in ts) ≡ data_of s

-- 'A set's rows must equal the now valid count' (document 02, 2026-03), of whatever tokens have sets_end: the valid counts are the numbers
-- of rows of the sets in them, in order.
abbrev pub RowsCounted : Type 0
RowsCounted = (ts : List (Token Value)) → sets_end none ts ≡ true → counts_in ts ≡ map length (data_in ts)

-- The valid counts are the emitted sets' counts of rows, in order, and no more: who believes a DONE's count by its bit alone is told the
-- number of kind 4 records of each emitted set. By SetsRead (Reading) these DONEs are those that end the sets.
abbrev pub CountsRead : Type 0
CountsRead =
    (how : Packing) (s b : List ℕ) (n : ℕ) → Sent how s b n → (ts : List (Token Value)) → Reads (packets_left how s b n) ts
    → counts_in ts ≡ counts_of s

-- Two scripts with equal packets agree in every token that they state, and in their sets, rows and values: nothing of these is lost on
-- the way.
abbrev pub EqualPackets : Type 0
EqualPackets =
    (how too : Packing) (s t b c : List ℕ) (n m : ℕ) → Sent how s b n → Sent too t c m → packets_left how s b n ≡ packets_left too t c m
    → (map states (emitted s) ≡ map states (emitted t)) × (data_of s ≡ data_of t)
