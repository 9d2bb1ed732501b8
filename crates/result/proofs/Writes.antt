-- A turn of the loops that write: what is still to be written, and one record less of it. Assumes nothing.
use mathlib.Core.Path.{◌≡◌, refl, sym, ap, ◌∙◌}
use mathlib.Core.List.{List, [], ◌∷◌, ◌++◌, flat_map, append_assoc, append-nil}
use Prim.Native.Nat.{ℕ, ◌+◌, ◌-◌, ◌≤◌}
use native.Mathlib.Nat.{add-sub_cancel_left}
use lib.ListN.{length, take, drop}
use borrow.Author.Tests.{eq-eqb}
use Rattle.wire.specs.Le.{le}
use Rattle.wire.specs.Puts.{Puts}
use Rattle.wire.specs.declared.writer.Writer.{Writer}
use Rattle.wire.specs.Fields.{word, raw, flat}
use Rattle.wire.proofs.Puts.{then, put_as, put_nothing}
use Rattle.token.specs.Tokens.{Token, metadata, cell, EncodedCell, long, joined, token_bytes, put_chunks}
use Rattle.script.specs.declared.Found.TheVariants.{Record, Cut, End}
use Rattle.script.specs.Records.{records, record_at}
use Rattle.script.proofs.Walk.{turn, cuts, ends}
use Rattle.script.specs.Runs.{ahead}
use Rattle.emission.specs.Emission.{Piece, token_piece, classification_piece, column_piece, column_pieces, bytes_in, done_token, last_status}
use Rattle.emission.specs.Walk.{pieces_of, rows_after, emit_from}
use Rattle.emission.specs.Inner.{GoesOn}
use Rattle.emission.proofs.Sizes.{bytes-none, bytes-told, bytes-classified, bytes-cat}

-- one token, and two
pub put_one : (t : Token EncodedCell) {l m : Writer} → Puts l (token_bytes t) m → Puts l (bytes_in (token_piece t ∷ [])) m
put_one t w = put_as w (sym (bytes-told t [] ∙ rw (bytes-none, append-nil (token_bytes t))))

pub put_two : (t u : Token EncodedCell) {l m n : Writer} → Puts l (token_bytes t) m → Puts m (token_bytes u) n → Puts l (bytes_in (token_piece t ∷ token_piece u ∷ [])) n
put_two t u w v = put_as (then w (put_one u v)) (sym (bytes-told t (token_piece u ∷ [])))

-- ---- columns and chunks

module _ (s : List ℕ) (at : ℕ) where
  -- one more of the records of a kind that stand next
  ahead_more : (k st n : ℕ) → record_at s at ≡ Record k st n → ahead k (records (drop at s)) ≡ take (st + n - st) (drop st s) ∷ ahead k (records (drop (st + n) s))
  unfolding ahead
  ahead_more k st n e = rw (turn s at e, eq-eqb k k refl, add-sub_cancel_left st n)

  abbrev pub columns_left : List ℕ
  columns_left = bytes_in (column_pieces (ahead 2 (records (drop at s))))

  abbrev pub chunks_left : List ℕ
  chunks_left = flat (put_chunks (ahead 6 (records (drop at s))) [])

  pub columns-more : (st n : ℕ) → record_at s at ≡ Record 2 st n
      → columns_left ≡ bytes_in (column_piece (take (st + n - st) (drop st s))) ++ bytes_in (column_pieces (ahead 2 (records (drop (st + n) s))))
  unfolding flat_map
  columns-more st n e =
      ap (λ (ps : List (List ℕ)). bytes_in (column_pieces ps)) (ahead_more 2 st n e)
      ∙ bytes-cat (column_piece (take (st + n - st) (drop st s))) (column_pieces (ahead 2 (records (drop (st + n) s))))

  pub columns-none : ahead 2 (records (drop at s)) ≡ [] → columns_left ≡ []
  unfolding flat_map
  columns-none e = ap (λ (ps : List (List ℕ)). bytes_in (column_pieces ps)) e ∙ bytes-none

  pub chunks-more : (st n : ℕ) → record_at s at ≡ Record 6 st n
      → chunks_left ≡ flat (word 4 (length (take (st + n - st) (drop st s))) ∷ raw (take (st + n - st) (drop st s)) ∷ []) ++ flat (put_chunks (ahead 6 (records (drop (st + n) s))) [])
  unfolding flat
  chunks-more st n e =
      let p = take (st + n - st) (drop st s) in
      let rest = flat (put_chunks (ahead 6 (records (drop (st + n) s))) []) in
      ap (λ (ps : List (List ℕ)). flat (put_chunks ps [])) (ahead_more 6 st n e)
      ∙ rw (append-nil p) (sym (append_assoc (le 4 (length p)) p rest))

  pub chunks-none : ahead 6 (records (drop at s)) ≡ [] → chunks_left ≡ le 4 0
  unfolding flat
  chunks-none e = ap (λ (ps : List (List ℕ)). flat (put_chunks ps [])) e ∙ append-nil (le 4 0)

-- ---- sets and cells

-- the beginning of a set
pub put-begins : (class : List ℕ) (cs : List (List ℕ)) {l m n k : Writer} → Puts l (token_bytes (metadata (length cs))) m → Puts m (bytes_in (column_pieces cs)) n → Puts n class k
    → Puts l (bytes_in (token_piece (metadata (length cs)) ∷ column_pieces cs ++ (classification_piece class ∷ []))) k
put-begins class cs w v u =
    put_as (then w (then v u))
    (sym (bytes-told (metadata (length cs)) (column_pieces cs ++ (classification_piece class ∷ []))
    ∙ rw (bytes-cat (column_pieces cs) (classification_piece class ∷ []), bytes-classified class [], bytes-none, append-nil class)))

-- a cell in chunks
pub put-long : (cs : List (List ℕ)) {l m n : Writer} → Puts l (le 8 (length (joined cs))) m → Puts m (flat (put_chunks cs [])) n → Puts l (token_bytes (cell (long cs))) n
unfolding token_bytes flat
put-long cs w v = then w v

-- a token before pieces
pub put-before : (t : Token EncodedCell) (ps : List Piece) {l m n : Writer} → Puts l (token_bytes t) m → Puts m (bytes_in ps) n → Puts l (bytes_in (token_piece t ∷ ps)) n
put-before t ps w v = put_as (then w v) (sym (bytes-told t ps))

-- pieces before pieces
pub put-pieces : (ps qs : List Piece) {l m n : Writer} → Puts l (bytes_in ps) m → Puts m (bytes_in qs) n → Puts l (bytes_in (ps ++ qs)) n
put-pieces ps qs w v = put_as (then w v) (sym (bytes-cat ps qs))

-- no pieces
pub put-none : (m : Writer) → m.at ≤ length m.buf.now → Puts m (bytes_in []) m
put-none m h = put_as (put_nothing m h) (sym bytes-none)

-- ---- the records from a place on

module _ (s : List ℕ) (at rows : ℕ) where
  abbrev pub records_left : List ℕ
  records_left = bytes_in (emit_from rows (records (drop at s)))

  pub records-more : (k st n next : ℕ) → record_at s at ≡ Record k st n → GoesOn s (st + n) next
      → records_left ≡ bytes_in (pieces_of rows k (take (st + n - st) (drop st s)) (records (drop (st + n) s))) ++ bytes_in (emit_from (rows_after rows k) (records (drop next s)))
  unfolding emit_from
  records-more k st n next e g =
      rw (turn s at e, add-sub_cancel_left st n)
      (bytes-cat (pieces_of rows k (take n (drop st s)) (records (drop (st + n) s))) (emit_from (rows_after rows k) (records (drop (st + n) s)))
      ∙ ap (λ (ps : List Piece). bytes_in (pieces_of rows k (take n (drop st s)) (records (drop (st + n) s))) ++ bytes_in ps) (g.same (rows_after rows k)))

  last-is : emit_from rows (records (drop at s)) ≡ token_piece (done_token last_status rows) ∷ [] → records_left ≡ token_bytes (done_token last_status rows)
  last-is e = ap bytes_in e ∙ bytes-told (done_token last_status rows) [] ∙ rw (bytes-none, append-nil (token_bytes (done_token last_status rows)))

  pub records-cut : record_at s at ≡ Cut → records_left ≡ token_bytes (done_token last_status rows)
  unfolding emit_from
  records-cut e = last-is (rw (cuts s at e))

  pub records-end : record_at s at ≡ End → records_left ≡ token_bytes (done_token last_status rows)
  unfolding emit_from
  records-end e = last-is (rw (ends s at e))
