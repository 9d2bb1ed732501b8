-- What holds of the tokens that are read from the packets of a script that was sent (document 01, 'What a script emits'; document 02,
-- 2026-03): each set ends in a DONE whose valid count is that of its rows, MORE, the terminal error. It is said of whatever tokens are
-- read, and not by way of what the builder means to send. Rests on RoundTrip, and on script's records and sets.
use Rattle.std.specs.Prelude.{ℕ, zero, suc, ◌≡◌, Bool, true, false, cond, not, ◌&&◌, List, [], ◌∷◌, eqb, drop}
use Rattle.std.proofs.Math.Option.{Option, none, some}
use Rattle.wire.specs.Le.{le_at}
use Rattle.packet.specs.Status.{has_bit}
use Rattle.token.specs.Tokens.{Token, Value, metadata, column, row, cell, done, message}
use Rattle.script.specs.Records.{records}
use Rattle.script.specs.Sets.{ScriptSet, sets_in}
use Rattle.round_trip.specs.RoundTrip.{Packing, packets_left, Sent, Reads}

-- packets read as one list of tokens at most
abbrev pub ReadOnce : Type 0
ReadOnce = (packets : List ℕ) (ts us : List (Token Value)) → Reads packets ts → Reads packets us → ts ≡ us

-- DONE_COUNT, status bit 0010 (MS-TDS 2.2.7.6): the DONE's row count is valid
abbrev pub count_valid : ℕ → Bool
count_valid status = has_bit 0x10 status

-- Each set runs from its COLMETADATA to a DONE, whose count is valid and is the number of ROWs read since; columns, rows and cells stand
-- in a set, cells after a ROW. `some rows`: a set has begun, and so many rows of it have come. Outside a set stand messages, and DONEs
-- that count no rows and whose count is not valid.
abbrev pub sets_end : Option ℕ → List (Token Value) → Bool
sets_end none [] = true
sets_end none (metadata n ∷ ts) = sets_end (some 0) ts
sets_end none (column u f c l o n ∷ ts) = false
sets_end none (row ∷ ts) = false
sets_end none (cell v ∷ ts) = false
sets_end none (done s c n ∷ ts) = eqb n 0 && not (count_valid s) && sets_end none ts
sets_end none (message k n s c t v p l ∷ ts) = sets_end none ts
sets_end (some rows) [] = false
sets_end (some rows) (metadata n ∷ ts) = false
sets_end (some rows) (column u f c l o n ∷ ts) = sets_end (some rows) ts
sets_end (some rows) (row ∷ ts) = sets_end (some (suc rows)) ts
sets_end (some zero) (cell v ∷ ts) = false
sets_end (some (suc rows)) (cell v ∷ ts) = sets_end (some (suc rows)) ts
sets_end (some rows) (done s c n ∷ ts) = eqb n rows && count_valid s && sets_end none ts
sets_end (some rows) (message k n s c t v p l ∷ ts) = sets_end (some rows) ts

-- every set that is read ends in a DONE with the bit, carrying the number of rows read since its COLMETADATA, and no other DONE has the
-- bit; that this number is the set's count of rows in the script is CountsRead (Data)
abbrev pub SetsRead : Type 0
SetsRead = (how : Packing) (s b : List ℕ) (n : ℕ) → Sent how s b n → (ts : List (Token Value)) → Reads (packets_left how s b n) ts → sets_end none ts ≡ true

abbrev pub is_empty : {A : Type 0} → List A → Bool
is_empty [] = true
is_empty (a ∷ l) = false

-- 'MORE is status bit 0001': every DONE has it but the last token, which is a DONE without it
abbrev pub more_but_last : List (Token Value) → Bool
more_but_last [] = false
more_but_last (metadata n ∷ ts) = more_but_last ts
more_but_last (column u f c l o n ∷ ts) = more_but_last ts
more_but_last (row ∷ ts) = more_but_last ts
more_but_last (cell v ∷ ts) = more_but_last ts
more_but_last (done s c n ∷ ts) = cond (has_bit 0x01 s) (more_but_last ts) (is_empty ts)
more_but_last (message k n s c t v p l ∷ ts) = more_but_last ts

-- the reply ends with the only DONE that has no MORE
abbrev pub MoreRead : Type 0
MoreRead = (how : Packing) (s b : List ℕ) (n : ℕ) → Sent how s b n → (ts : List (Token Value)) → Reads (packets_left how s b n) ts → more_but_last ts ≡ true

-- 'Kind 8 in the first set: its ERROR, DONE 0002, nothing more': e is that record's payload, a number, a severity and a text
abbrev pub TerminalRead : Type 0
TerminalRead =
    (how : Packing) (s b : List ℕ) (n : ℕ) → Sent how s b n → (ts : List (Token Value)) → Reads (packets_left how s b n) ts
    → (e : List ℕ) (es : List (List ℕ)) (first : ScriptSet) (more : List ScriptSet)
    → sets_in (records s) ≡ first ∷ more → first.terminal ≡ e ∷ es
    → ts ≡ message 0xAA (le_at 4 e) 1 (le_at 1 (drop 4 e)) (drop 5 e) [] [] 1 ∷ done 0x0002 0xC1 0 ∷ []
