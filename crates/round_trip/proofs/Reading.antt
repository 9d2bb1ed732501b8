-- What holds of the tokens that are read: they are those that the script emits, of which it is proved set by set. Assumes nothing.
use mathlib.Core.Path.{◌≡◌, refl, sym, ◌∙◌}
use mathlib.Core.Bool.{true}
use mathlib.Core.List.{List, [], ◌∷◌, ◌++◌, map, flat_map, append_assoc, append-nil}
use mathlib.Core.Option.{none, some}
use Prim.Native.Nat.{ℕ, suc, ◌+◌}
use native.Mathlib.Nat.{add-zero, zero-add, add-suc, suc-add}
use native.Mathlib.Omega.{arith}
use lib.ListN.{length, drop}
use borrow.Author.Tests.{eq-eqb}
use Rattle.wire.specs.Le.{le_at}
use Rattle.packet.specs.Status.{has_bit}
use Rattle.token.specs.Tokens.{Token, Value, done, message, cell, states}
use Rattle.token.specs.Tokens.{EncodedCell}
use Rattle.script.specs.Records.{records}
use Rattle.script.specs.Sets.{ScriptCell, ScriptRow, ScriptSet, sets_in}
use Rattle.emission.specs.Emission.{Piece, token_piece, classification_piece, column_token, info_token, error_token, done_token, cell_of, leading_status, terminal_status, status_before, column_pieces, info_pieces, error_pieces, row_pieces, sets_pieces, or_else, emitted_by, pieces, tokens_in, emitted, column_by, column_of, column_piece, cell_pieces}
use Rattle.wire.specs.Le.{le_at}
use Rattle.token.specs.Types.{data_type_of}
use Rattle.token.specs.declared.SqlDataType.{SqlDataType}
use Rattle.std.specs.Prelude.{Option, Some, None}
use Rattle.emission.proofs.BySets.{ending, sets-are}
use Rattle.reader.proofs.WellFormed.{Phase, WF, wf-metadata, wf-column, wf-row, wf-cell, wf-message, wf-done, wf-last}
use Rattle.reader.proofs.ReadBack.{same}
use Rattle.round_trip.specs.RoundTrip.{Packing, packets_left, Sent, Reads}
use Rattle.round_trip.specs.Reading.{ReadOnce, count_valid, sets_end, SetsRead, more_but_last, MoreRead, TerminalRead}
use Rattle.round_trip.proofs.Formed.{emitted-well-formed}
use Rattle.round_trip.proofs.RoundTrip.{round_trip}

-- ---- one list of tokens

pub read-once : ReadOnce
read-once packets ts us r q = same ts us (λ k. sym (r k) ∙ q k)

-- what is read is what the script emits
pub read_is : (how : Packing) (s b : List ℕ) (n : ℕ) → Sent how s b n → (ts : List (Token Value)) → Reads (packets_left how s b n) ts → ts ≡ map states (emitted s)
read_is how s b n h ts r = read-once (packets_left how s b n) ts (map states (emitted s)) r (round_trip how s b n h)

-- ---- what pieces state

abbrev pub stated : List Piece → List (Token Value)
stated ps = map states (tokens_in ps)

-- the pieces of a cell
abbrev pub script_cell : ScriptCell → List Piece
script_cell c = cell_pieces c.value c.chunks

-- what passes over each of some tokens passes over all of them
module _ {A : Type 0} (f : List (Token Value) → A) where
  pub past : {X : Type 0} (t : X → Token EncodedCell) → ((x : X) (ts : List (Token Value)) → f (states (t x) ∷ ts) ≡ f ts)
      → (xs : List X) (qs : List Piece) → f (stated (map (λ (x : X). token_piece (t x)) xs ++ qs)) ≡ f (stated qs)
  past t h [] qs = refl
  past {X = X} t h (x ∷ xs) qs = h x (stated (map (λ (x : X). token_piece (t x)) xs ++ qs)) ∙ past t h xs qs

  -- columns and a classification, which is no token
  module _ (h : (t : SqlDataType) (p : List ℕ) (ts : List (Token Value)) → f (states (column_token t p) ∷ ts) ≡ f ts) where
    past-column : (k : Option SqlDataType) (p : List ℕ) (qs : List Piece) → f (stated (map token_piece (column_by k p) ++ qs)) ≡ f (stated qs)
    past-column (Some t) p qs = h t p (stated qs)
    past-column None p qs = refl

    past-each : (ps : List (List ℕ)) (qs : List Piece) → f (stated (column_pieces ps ++ qs)) ≡ f (stated qs)
    unfolding flat_map column_of
    past-each [] qs = refl
    past-each (p ∷ ps) qs = rw (append_assoc (column_piece p) (column_pieces ps) qs) (past-column (data_type_of (le_at 1 p)) p (column_pieces ps ++ qs) ∙ past-each ps qs)

    pub past-columns : (x : List ℕ) (ps : List (List ℕ)) (qs : List Piece) → f (stated (column_pieces ps ++ (classification_piece x ∷ []) ++ qs)) ≡ f (stated qs)
    past-columns x ps qs = rw (append_assoc (column_pieces ps) (classification_piece x ∷ []) qs) (past-each ps (classification_piece x ∷ qs))

  -- cells
  past-cells : ((c : EncodedCell) (ts : List (Token Value)) → f (states (cell c) ∷ ts) ≡ f ts)
      → (cs : List ScriptCell) (qs : List Piece) → f (stated (flat_map script_cell cs ++ qs)) ≡ f (stated qs)
  unfolding flat_map
  past-cells h [] qs = refl
  past-cells h (c ∷ cs) qs =
      rw (append_assoc (script_cell c) (flat_map script_cell cs) qs)
      (past cell h (cell_of c.value c.chunks) (flat_map script_cell cs ++ qs) ∙ past-cells h cs qs)

  -- errors, each with its DONE: before others, and alone
  module _ (status : ℕ) (h : (e : List ℕ) (ts : List (Token Value)) → f (states (error_token e) ∷ states (done_token status 0) ∷ ts) ≡ f ts) where
    pub past-errors : (es : List (List ℕ)) (qs : List Piece) → f (stated (error_pieces status es ++ qs)) ≡ f (stated qs)
    past-errors [] qs = refl
    past-errors (e ∷ es) qs = h e (stated (error_pieces status es ++ qs)) ∙ past-errors es qs

    pub errors-alone : (es : List (List ℕ)) → f (stated (error_pieces status es)) ≡ f []
    errors-alone es = rw (← append-nil (error_pieces status es)) (past-errors es [])

-- ---- sets

past-rows : (rows : ℕ) (rs : List ScriptRow) (qs : List Piece)
    → sets_end (some rows) (stated (flat_map row_pieces rs ++ qs)) ≡ sets_end (some (rows + length rs)) (stated qs)
unfolding flat_map
past-rows rows [] qs = rw add-zero
past-rows rows (r ∷ rs) qs =
    rw (append_assoc (flat_map script_cell r.cells) (flat_map row_pieces rs) qs, add-suc, ← suc-add rows (length rs))
    (past-cells (sets_end (some (suc rows))) (λ c ts. refl) r.cells (flat_map row_pieces rs ++ qs) ∙ past-rows (suc rows) rs qs)

-- the count of a set's DONE is valid, whatever sets follow
count-valid : (ss : List ScriptSet) → count_valid (status_before ss) ≡ true
unfolding has_bit
count-valid [] = refl
count-valid (s ∷ ss) = refl

no-sets : sets_end none (stated (sets_pieces [])) ≡ true
unfolding sets_pieces
no-sets = refl

sets_end_lem : (ss : List ScriptSet) → sets_end none (stated (sets_pieces ss)) ≡ true
sets_end_lem [] = no-sets
sets_end_lem (s ∷ ss) =
    let n = length s.rows in
    let last = info_pieces s.trailing ++ ending n ss in
    let rows = flat_map row_pieces s.rows ++ last in
    let e : sets_end (some n) (stated (ending n ss)) ≡ true = rw (eq-eqb n n refl, count-valid ss) (sets_end_lem ss) in
    rw (sets-are s ss)
    (past-columns (sets_end (some 0)) (λ t p ts. refl) s.classification s.columns (info_pieces s.infos ++ rows)
    ∙ past (sets_end (some 0)) info_token (λ p ts. refl) s.infos rows
    ∙ past-rows 0 s.rows last
    ∙ rw zero-add (past (sets_end (some n)) info_token (λ p ts. refl) s.trailing (ending n ss) ∙ e))

-- errors alone, where there are any
errors-end : (es : List (List ℕ)) (qs : List Piece) → sets_end none (stated qs) ≡ true
    → sets_end none (stated (or_else (error_pieces terminal_status es) qs)) ≡ true
unfolding has_bit
errors-end [] qs h = h
errors-end (e ∷ es) qs h = errors-alone (sets_end none) terminal_status (λ e ts. refl) (e ∷ es)

script-ends : (ss : List ScriptSet) → sets_end none (stated (emitted_by ss)) ≡ true
unfolding emitted_by has_bit
script-ends [] = refl
script-ends (s ∷ ss) =
    errors-end s.terminal (error_pieces leading_status s.leading ++ sets_pieces (s ∷ ss))
    (past-errors (sets_end none) leading_status (λ e ts. refl) s.leading (sets_pieces (s ∷ ss)) ∙ sets_end_lem (s ∷ ss))

pub sets-read : SetsRead
unfolding emitted pieces
sets-read how s b n h ts r = rw (read_is how s b n h ts r) (script-ends (sets_in (records s)))

-- ---- MORE

formed-more : {ph : Phase} {ts : List (Token EncodedCell)} → WF ph ts → more_but_last (map states ts) ≡ true
formed-more (wf-metadata l w) = formed-more w
formed-more (wf-column ok w) = formed-more w
formed-more (wf-row l w) = formed-more w
formed-more (wf-cell ok w) = formed-more w
formed-more (wf-message ok w) = formed-more w
formed-more (wf-done ok m w) = let r = formed-more w in rw m r
formed-more (wf-last ok m) = rw m

pub more-read : MoreRead
more-read how s b n h ts r = rw (read_is how s b n h ts r) (formed-more (emitted-well-formed s h.bytes h.fits))

-- ---- the terminal error

abbrev terminal_tokens : List ℕ → List (Token Value)
terminal_tokens e = message 0xAA (le_at 4 e) 1 (le_at 1 (drop 4 e)) (drop 5 e) [] [] 1 ∷ done 0x0002 0xC1 0 ∷ []

-- nothing follows its DONE, which is without MORE
alone : (e : List ℕ) (es : List (List ℕ)) → more_but_last (stated (error_pieces terminal_status (e ∷ es))) ≡ true
    → stated (error_pieces terminal_status (e ∷ es)) ≡ terminal_tokens e
unfolding has_bit
alone e [] m = refl
alone e (f ∷ es) m = let z : ◌≡◌ {A = ℕ} 0 1 = cc in absurd (omega arith)

emits : (s e : List ℕ) (es : List (List ℕ)) (first : ScriptSet) (more : List ScriptSet)
    → sets_in (records s) ≡ first ∷ more → first.terminal ≡ e ∷ es
    → map states (emitted s) ≡ stated (error_pieces terminal_status (e ∷ es))
unfolding emitted pieces emitted_by
emits s e es first more h g = rw (h, g)

pub terminal-read : TerminalRead
terminal-read how s b n h ts r e es first more f g =
    let is = read_is how s b n h ts r ∙ emits s e es first more f g in
    is ∙ alone e es (rw is at (more-read how s b n h ts r))
