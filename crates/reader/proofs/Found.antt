-- What a step finds at each kind of token that may come next: the token, its meaning, and the position after it. Assumes nothing.
use mathlib.Core.Path.{◌≡◌, refl, sym, ap, ◌∙◌}
use mathlib.Core.Bool.{Bool, true, false, not, ◌||◌}
use mathlib.Core.List.{List, [], ◌∷◌, ◌++◌}
use Prim.Native.Nat.{ℕ, suc, ◌+◌, ◌-◌, ◌*◌, ◌%◌, ◌^◌, ◌<◌, ◌≤◌}
use native.Mathlib.Omega.{arith}
use borrow.Author.Tests.{le-leb, lt-ltb, le-ltb, eq-eqb, ne_eqb, eqb-true}
use lib.Dec.{eqb}
use lib.ListN.{length}
use Rattle.wire.specs.Fields.{Field, word, raw}
use Rattle.packet.specs.Status.{has_bit}
use Rattle.token.specs.Types.{length_width, collation_size}
use Rattle.token.specs.Tokens as sent
use Rattle.text.specs.Units.{units}
use Rattle.text.proofs.Scan.{units-half}
use Rattle.token.specs.Tokens.{EncodedCell, integer, no_integer, bounded, long, no_long, put, put_cell, message_length, states, value_of, signed}
use Rattle.reader.specs.declared.Position.{Position}
use Rattle.cells.specs.declared.Value.{Value}
use Rattle.cells.specs.declared.Value.TheVariants as value
use Rattle.reader.specs.declared.Token.{Token}
use Rattle.reader.specs.declared.Token.TheVariants.{ColMetadata, Column, Row, Cell, Done, Message}
use Rattle.payload.specs.Places.{Source, Place, whole}
use Rattle.payload.specs.Positions.{Corner}
use Rattle.cells.specs.Cells.{is_type, type_at, integer_at, bounded_at, max_at, cell_at}
use Rattle.reader.specs.ReadTokens.{column_at, metadata_at, row_at, done_at, text_at, texts_at, message_at, token_at}
use Rattle.reader.specs.Positions.{after}
use Rattle.reader.specs.Reader.{row_cell_at, next_at}
use Rattle.cells.specs.Values.{value_meaning}
use Rattle.reader.specs.Meaning.{token_meaning}
use Rattle.reader.proofs.WellFormed.{ColumnType, ColumnOk, CellOk, DoneOk, MessageOk, Phase, among, between, in_row}
use Rattle.payload.proofs.Standing.{At, past_word, past-raw, part-is, number-at, part-at, must-at, cond_yes, cond_no, then_at}
use Rattle.cells.proofs.Types.{either, code<, code-known, limit<, integer-length, max-code}
use Rattle.reader.proofs.Held.{Holds, next-code, next-limit, next-good}
use Rattle.reader.proofs.After.{after-metadata, after-column, after-row, after-cell, after-done, after-message}
use Rattle.cells.proofs.Chunks.{past-chunks, past_is, after-chunks, max-at, max-bytes}

-- the token at a place is t, after which the reader stands at the phase ph before the fields fs
pub record Finds (p : Source) (pos : Position) (at : ℕ) (t : sent.Token EncodedCell) (over : Bool) (ph : Phase) (fs : List Field) : Type 0 where
  pub found : Token
  pub place : Place
  pub is : next_at p at pos ≡ whole found place
  pub means : token_meaning p.bytes found ≡ states t
  pub holds : (c : Corner) → Holds p (after pos found c) place over ph fs

-- ---- tokens by their first byte

module _ {p : Source} {pos : Position} {at : ℕ} {cs : List ColumnType} {fs : List Field} (h : Holds p pos at false (between cs) fs) where
  first_byte : next_at p at pos ≡ token_at pos.count p at
  unfolding next_at
  first_byte = cond_no _ _ (le-ltb 0 pos.columns_left (omega arith)) ∙ cond_no _ _ (le-ltb 0 pos.cells_left (omega arith))

module _ {p : Source} {pos : Position} {at : ℕ} {cs : List ColumnType} {s : List Field} where
  pub finds-metadata : {n : ℕ} → n ≤ 128 → Holds p pos at false (between cs) (put (sent.metadata n) s) → Finds p pos at (sent.metadata n) false (among [] n) s
  unfolding token_at metadata_at
  finds-metadata {n} m h =
      let a1 = past_word h.here in
      record {
        found = ColMetadata n;
        place = at + 1 + 2;
        is = first_byte h ∙ number-at _ (omega arith) h.here ∙ number-at _ (omega arith) a1 ∙ must-at _ _ (le-leb n 128 m);
        means = refl;
        holds = λ corner. after-metadata (past_word a1) corner n m h;
      }

  pub finds-row : 0 < length cs → Holds p pos at false (between cs) (put sent.row s) → Finds p pos at sent.row false (in_row cs cs) s
  unfolding token_at row_at
  finds-row m h = record {
    found = Row;
    place = at + 1;
    is = first_byte h ∙ number-at _ (omega arith) h.here ∙ must-at _ _ (lt-ltb 0 pos.count (omega arith));
    means = refl;
    holds = λ corner. after-row (past_word h.here) corner h;
  }

  pub finds-done : {st c n : ℕ} → DoneOk st c n → Holds p pos at false (between cs) (put (sent.done st c n) s)
      → Finds p pos at (sent.done st c n) (not (has_bit 0x01 st)) (between []) s
  unfolding token_at done_at
  finds-done {st} {c} {n} ok h =
      let a1 = past_word h.here in
      let a2 = past_word a1 in
      let a3 = past_word a2 in
      record {
        found = Done st c n;
        place = at + 1 + 2 + 2 + 8;
        is =
            first_byte h ∙ number-at _ (omega arith) h.here ∙ number-at _ ok.status< a1 ∙ number-at _ ok.command< a2 ∙ number-at _ ok.count< a3;
        means = refl;
        holds = λ corner. after-done (past_word a3) corner st c n h;
      }

-- ---- messages

-- a text after its count of units
module _ {p : Source} {at : Place} {fs : List Field} where
  text_at_lem : (x : List ℕ) (k room most : ℕ) → At p at (word k (units x) ∷ raw x ∷ fs)
      → length x % 2 ≡ 0 → units x < 256 ^ k → length x ≤ room → room ≤ length x + most
      → text_at k room most p at ≡ whole (record { start = at + k; len = length x }) (at + k + length x)
  unfolding text_at
  text_at_lem x k room most a e f l m =
      let two : 2 * units x ≡ length x = omega (arith, units-half x) in
      number-at _ f a ∙ must-at _ _ (rw (two, le-leb (length x) room l, le-leb (room - length x) most (omega arith)))
      ∙ rw two (part-at (length x) _ refl (past_word a))

  -- the place past it
  past-text : {k n : ℕ} {x : List ℕ} → At p at (word k n ∷ raw x ∷ fs) → At p (at + k + length x) fs
  past-text a = past-raw _ refl (past_word a)

module _ {p : Source} {pos : Position} {at : ℕ} {cs : List ColumnType} {s : List Field} where
  -- ERROR and INFO are read alike
  message-byte : (kind : ℕ) → (eqb kind 0xAA || eqb kind 0xAB) ≡ true → Holds p pos at false (between cs) (word 1 kind ∷ s)
      → next_at p at pos ≡ message_at kind p (at + 1)
  unfolding token_at
  message-byte kind e h =
      either (eqb kind 0xAA) (eqb kind 0xAB) e
      (λ e1. let q = eqb-true kind 0xAA e1 in first_byte h ∙ number-at _ (omega arith) h.here ∙ rw q)
      (λ e1. let q = eqb-true kind 0xAB e1 in first_byte h ∙ number-at _ (omega arith) h.here ∙ rw q)

module _ {p : Source} (short : length p.bytes < 65536) {pos : Position} {at : ℕ} {cs : List ColumnType} {s : List Field} where
  pub finds-message : {k n st cl l : ℕ} {t v r : List ℕ} → MessageOk k n st cl t v r l → Holds p pos at false (between cs) (put (sent.message k n st cl t v r l) s)
      → Finds p pos at (sent.message k n st cl t v r l) false (between cs) s
  unfolding message_at texts_at message_length
  finds-message {k} {n} {st} {cl} {l} {t} {v} {r} ok h =
      let z = message_length t v r in
      let from = at + 1 + 2 + 4 + 1 + 1 in
      let a1 = past_word h.here in
      let a2 = past_word a1 in
      let a3 = past_word a2 in
      let a4 = past_word a3 in
      let a5 = past_word a4 in
      let a6 = past-text a5 in
      let a7 = past-text a6 in
      let a8 = past-text a7 in
      let end = (past_word a8).inside in
      record {
        found =
            Message k n st cl (record { start = from + 2; len = length t }) (record { start = from + 2 + length t + 1; len = length v })
            (record { start = from + 2 + length t + 1 + length v + 1; len = length r }) l;
        place = from + 2 + length t + 1 + length v + 1 + length r + 4;
        is =
            message-byte k ok.kind-is h ∙ number-at _ (omega arith) a1
            ∙ must-at _ _ (rw (le-leb 14 z (omega arith), eq-eqb (z % 2) 0 (omega arith)))
            ∙ number-at _ ok.number< a2 ∙ number-at _ ok.state< a3 ∙ number-at _ ok.class< a4
            ∙ then_at _ (then_at _ (text_at_lem t 2 (z - 14) 1020 a5 ok.text-even (omega (arith, units-half t)) (omega arith) (omega arith))
            ∙ then_at _ (text_at_lem v 1 (z - 14 - length t) 510 a6 ok.server-even (omega (arith, units-half v)) (omega arith) (omega arith))
            ∙ then_at _ (text_at_lem r 1 (z - 14 - length t - length v) 0 a7 ok.procedure-even (omega (arith, units-half r)) (omega arith) (omega arith))
            ∙ number-at _ ok.line< a8);
        means = rw (part-is (length t) refl (past_word a5), part-is (length v) refl (past_word a6), part-is (length r) refl (past_word a7));
        holds = λ corner. after-message (past_word a8) corner k n st cl _ _ _ l h;
      }

-- ---- columns

module _ {p : Source} {s : List Field} where
  type-at : {at : Place} {code limit : ℕ} {o : List ℕ} → is_type code limit ≡ true → length o ≡ collation_size code
      → At p at (word 1 code ∷ word (length_width code) limit ∷ raw o ∷ s)
      → type_at p at ≡ whole (record { code = code; limit = limit; collation = record { start = at + 1 + length_width code; len = collation_size code } })
      (at + 1 + length_width code + collation_size code)
  unfolding type_at
  type-at {at} {code} {limit} e l a =
      let a1 = past_word a in
      number-at _ (code< code limit e) a ∙ must-at _ _ (code-known code limit e) ∙ number-at _ (limit< code limit e) a1
      ∙ must-at _ _ e ∙ part-at _ _ l (past_word a1)

module _ {p : Source} {pos : Position} {at : ℕ} {cs : List ColumnType} {k : ℕ} {s : List Field} where
  pub finds-column : {u f c l : ℕ} {o n : List ℕ} → ColumnOk u f c l o n → Holds p pos at false (among cs (suc k)) (put (sent.column u f c l o n) s)
      → Finds p pos at (sent.column u f c l o n) false (among (cs ++ (record { code = c; limit = l } ∷ [])) k) s
  unfolding next_at column_at
  finds-column {u} {f} {c} {l} {o} {n} ok h =
      let a1 = past_word h.here in
      let a2 = past_word a1 in
      let a4 = past_word (past_word a2) in
      let a5 = past-raw _ ok.collation-is a4 in
      let a6 = past_word a5 in
      let to = at + 4 + 2 + 1 + length_width c in
      record {
        found = Column u f c l (record { start = to; len = collation_size c }) (record { start = to + collation_size c + 1; len = 2 * units n });
        place = to + collation_size c + 1 + 2 * units n;
        is =
            cond_yes _ _ (lt-ltb 0 pos.columns_left (omega arith)) ∙ number-at _ ok.user< h.here ∙ number-at _ ok.flags< a1
            ∙ then_at _ (type-at ok.type-is ok.collation-is a2) ∙ number-at _ ok.name< a5 ∙ part-at _ _ (sym ok.name-is) a6;
        means = rw (part-is _ ok.collation-is a4, part-is _ (sym ok.name-is) a6);
        holds = λ corner. after-column (past-raw _ (sym ok.name-is) a6) corner u f c l _ _ k ok.type-is h;
      }

-- ---- cells

-- a cell that is read at a place: its value, what that stands for, and the place after it
record Valued (p : Source) (code limit at : ℕ) (v : EncodedCell) (fs : List Field) : Type 0 where
  value : Value
  place : Place
  onward : at ≤ place
  is : cell_at code limit p at ≡ whole value place
  means : value_meaning p.bytes value ≡ value_of v
  here : At p place fs

max-type : (p : Source) (at : Place) (c : ColumnType) → is_type c.code c.limit ≡ true → c.limit ≡ 0xFFFF
    → cell_at c.code c.limit p at ≡ max_at (eqb c.code 0xE7) p at
unfolding cell_at
max-type p at c e l = must-at _ _ e ∙ cond_no _ _ (max-code c.code c.limit e l) ∙ cond_yes _ _ (eq-eqb c.limit 0xFFFF l)

module _ {p : Source} (short : length p.bytes < 65536) {at : Place} {fs : List Field} (c : ColumnType) (e : is_type c.code c.limit ≡ true) where
  valued : (v : EncodedCell) → CellOk c v → At p at (put_cell v fs) → Valued p c.code c.limit at v fs
  unfolding cell_at integer_at bounded_at max_at
  valued (integer w n) ok a =
      let l = integer-length c.code c.limit e ok.0 in
      let a1 = past_word a in
      record {
        value = value.Number (signed w n);
        place = at + 1 + w;
        onward = omega arith;
        is =
            must-at _ _ e ∙ cond_yes _ _ (eq-eqb c.code 0x26 ok.0) ∙ number-at _ (omega arith) a ∙ cond_no _ _ (ne_eqb w 0 (omega arith))
            ∙ must-at _ _ (eq-eqb w c.limit (sym ok.1)) ∙ number-at _ ok.2 a1;
        means = refl;
        here = past_word a1;
      }
  valued no_integer ok a = record {
    value = value.Null;
    place = at + 1;
    onward = omega arith;
    is = must-at _ _ e ∙ cond_yes _ _ (eq-eqb c.code 0x26 ok) ∙ number-at _ (omega arith) a;
    means = refl;
    here = past_word a;
  }
  valued (bounded x) ok a =
      let a1 = past_word a in
      record {
        value = value.Part (record { start = at + 2; len = length x });
        place = at + 2 + length x;
        onward = omega arith;
        is =
            must-at _ _ e ∙ cond_no _ _ (ne_eqb c.code 0x26 (omega arith)) ∙ cond_no _ _ (ne_eqb c.limit 0xFFFF (omega arith))
            ∙ number-at _ (omega arith) a ∙ cond_no _ _ (ne_eqb (length x) 0xFFFF (omega arith))
            ∙ must-at _ _ (rw (ok.3, le-leb (length x) c.limit ok.2)) ∙ part-at _ _ refl a1;
        means = rw (part-is (length x) refl a1);
        here = past-raw _ refl a1;
      }
  valued (long cs) ok a = record {
    value = value.Max (record { start = at + 8; len = past-chunks (at + 8) cs - (at + 8) });
    place = past-chunks (at + 8) cs;
    onward = omega (arith, past_is (at + 8) cs);
    is = max-type p at c e ok.0 ∙ max-at (omega arith) fs (eqb c.code 0xE7) cs ok.1 at a;
    means = rw (max-bytes (omega arith) fs (eqb c.code 0xE7) cs ok.1 at a);
    here = after-chunks (at + 8) cs (past_word a);
  }
  valued no_long ok a = record {
    value = value.Null;
    place = at + 8;
    onward = omega arith;
    is = max-type p at c e ok ∙ number-at _ (omega arith) a;
    means = refl;
    here = past_word a;
  }

module _ {p : Source} (short : length p.bytes < 65536) {pos : Position} {at : ℕ} {cs cells : List ColumnType} {c : ColumnType} {s : List Field} where
  pub finds-cell : (v : EncodedCell) → CellOk c v → Holds p pos at false (in_row cs (c ∷ cells)) (put (sent.cell v) s)
      → Finds p pos at (sent.cell v) false (in_row cs cells) s
  unfolding next_at row_cell_at
  finds-cell v ok h =
      let w = valued short c (next-good h) v ok h.here in
      record {
        found = Cell w.value;
        place = w.place;
        is =
            cond_no _ _ (le-ltb 0 pos.columns_left (omega arith)) ∙ cond_yes _ _ (lt-ltb 0 pos.cells_left (omega arith))
            ∙ rw (next-code h, next-limit h) (then_at _ w.is);
        means = ap sent.cell w.means;
        holds = λ corner. after-cell w.here corner w.value c cells h;
      }
