-- Each token of a script that is accepted and fits can be sent and read: its numbers are in range, its texts UTF-16, its names
-- short, and its cells of their columns' types. Assumes nothing.
use mathlib.Core.Path.{◌≡◌, refl, ap, ◌∙◌}
use mathlib.Core.Bool.{Bool, true, false, not, false≢true, ◌&&◌, ◌||◌}
use mathlib.Core.List.{List, [], ◌∷◌, map}
use Prim.Native.Nat.{ℕ, ◌%◌, ◌≤◌}
use native.Mathlib.Omega.{arith}
use lib.Dec.{eqb, leb}
use lib.ListN.{length, take, drop, length-drop}
use lib.Seq.{length-take-le}
use borrow.Author.Tests.{eqb-true, eqb-false, eq-eqb, leb-true}
use Rattle.wire.proofs.Cases.{by-test}
use Rattle.wire.specs.Le.{le_at}
use Rattle.text.specs.Units.{units_of}
use Rattle.text.specs.Units.{units}
use Rattle.text.specs.Surrogates.{surrogates, paired, well_formed}
use Rattle.token.specs.declared.SqlDataType.{SqlDataType}
use Rattle.token.specs.declared.SqlDataType.TheVariants.{TinyInt}
use Rattle.std.specs.Prelude.{Option, Some, None}
use Rattle.token.specs.declared.ColumnValue.{ColumnValue}
use Rattle.token.specs.declared.ColumnValue.TheVariants.{Null}
use Rattle.token.specs.Types.{data_types, data_type_in, data_type_of, type_code, type_length, collation_size}
use Rattle.token.specs.Tokens.{EncodedCell, cell, integer, long}
use Rattle.token.specs.Values.{column_values, column_value_in, column_value_of}
use Rattle.wire.specs.Even.{even}
use Rattle.script.specs.Shape.{column_shaped, number_width, cell_shaped, message_text, server_name, procedure_name, texts_of}
use Rattle.script.specs.Verdict.{all_well_formed}
use Rattle.emission.specs.Emission.{token_piece, column_token, column_by, column_of, column_piece, info_token, value_cell, cell_by, cell_of, cell_pieces}
use Rattle.emission.specs.Refusal.{any_empty, cell_fault, token_fault}
use Rattle.token.specs.Names.{long_name}
use Rattle.fit.proofs.Inverts.{Suits, number, text, nvarchar_max, no_max, varchar_max, varbinary_max, no_number}
use Rattle.cells.proofs.Chunks.{ChunksOk}
use Rattle.reader.proofs.WellFormed.{ColumnType, ColumnOk, CellOk, MessageOk}
use Rattle.reader.proofs.Sendable.{sent-type, even-text, column-ok, message-ok}
use Rattle.wire.specs.Octets.{Bytes}
use Rattle.wire.proofs.Octets.{in-range, bytes_drop}
use Rattle.round_trip.proofs.Values.{value-byte}
use Rattle.round_trip.proofs.Accepted.{no_test, short-name, neither, one-text, three-texts, Whole}

-- ---- columns

-- the type that a byte stands for; of a byte that stands for none, which no accepted script has, any
abbrev type_in : Option SqlDataType → SqlDataType
type_in (Some t) = t
type_in None = TinyInt

abbrev pub type_of : ℕ → SqlDataType
type_of b = type_in (data_type_of b)

-- the column of a type byte
abbrev pub column_type : ℕ → ColumnType
column_type t = record { code = type_code (type_of t); limit = type_length (type_of t) }

known-type : (b : ℕ) → 1 ≤ b → b ≤ 8 → data_type_of b ≡ Some (type_of b)
unfolding data_type_of data_types data_type_in
known-type b l m =
    by-test (eqb b 1) (λ h. rw (eqb-true b 1 h))
    (λ h1. by-test (eqb b 2) (λ h. rw (eqb-true b 2 h))
    (λ h2. by-test (eqb b 3) (λ h. rw (eqb-true b 3 h))
    (λ h3. by-test (eqb b 4) (λ h. rw (eqb-true b 4 h))
    (λ h4. by-test (eqb b 5) (λ h. rw (eqb-true b 5 h))
    (λ h5. by-test (eqb b 6) (λ h. rw (eqb-true b 6 h))
    (λ h6. by-test (eqb b 7) (λ h. rw (eqb-true b 7 h))
    (λ h7.
    let low : 5 ≤ b = omega (arith, l, eqb-false b 1 h1, eqb-false b 2 h2, eqb-false b 3 h3, eqb-false b 4 h4) in
    let eight : b ≡ 8 = omega (arith, m, low, eqb-false b 5 h5, eqb-false b 6 h6, eqb-false b 7 h7) in
    rw eight)))))))

last-of-four : (a b c d : Bool) → (a && b && c && d) ≡ true → (c ≡ true) × (d ≡ true)
last-of-four true true true true e = (refl, refl)
last-of-four true true true false e = absurd (false≢true e)
last-of-four true true false d e = absurd (false≢true e)
last-of-four true false c d e = absurd (false≢true e)
last-of-four false b c d e = absurd (false≢true e)

pub column-there : (p : List ℕ) → column_shaped p ≡ true → column_piece p ≡ token_piece (column_token (type_of (le_at 1 p)) p) ∷ []
unfolding column_shaped column_of
column-there p e =
    let b = le_at 1 p in
    let r = last-of-four (leb 6 (length p)) (even (length p)) (leb 1 b) (leb b 8) e in
    ap (λ (k : Option SqlDataType). map token_piece (column_by k p)) (known-type b (leb-true 1 b r.0) (leb-true b 8 r.1))

collation≤ : (code : ℕ) → collation_size code ≤ 5
unfolding collation_size
collation≤ code = by-test (eqb code 0xE7 || eqb code 0xA7) (λ h. rw h (omega arith)) (λ h. rw h (omega arith))

first-of-four : (a b c d : Bool) → (a && b && c && d) ≡ true → a ≡ true
first-of-four true b c d e = refl
first-of-four false b c d e = absurd (false≢true e)

column-long : (p : List ℕ) → column_shaped p ≡ true → 6 ≤ length p
unfolding column_shaped
column-long p e = leb-true 6 (length p) (first-of-four (leb 6 (length p)) (even (length p)) (leb 1 (le_at 1 p)) (leb (le_at 1 p) 8) e)

pub column_fits : (p : List ℕ) → column_shaped p ≡ true → well_formed (drop 6 p) ≡ true → units (drop 6 p) ≤ 255
    → ColumnOk 0 0 (column_type (le_at 1 p)).code (column_type (le_at 1 p)).limit (take (collation_size (column_type (le_at 1 p)).code) (drop 1 p)) (drop 6 p)
column_fits p s w u =
    let c : ℕ = (column_type (le_at 1 p)).code in
    let long = column-long p s in
    let some = collation≤ c in
    let room : collation_size c ≤ length (drop 1 p) = omega (arith, length-drop 1 p) in
    column-ok (omega arith) (omega arith) (sent-type (type_of (le_at 1 p))) (length-take-le (collation_size c) (drop 1 p) room) w u

-- ---- messages

pub info-fits : (p : List ℕ) → Bytes p → all_well_formed (texts_of 3 p) ≡ true → token_fault (info_token p) ≡ 0
    → MessageOk 0xAB (le_at 4 p) (le_at 1 (drop 4 p)) (le_at 1 (drop 5 p)) (message_text p) (server_name p) (procedure_name p) (le_at 4 (drop 6 p))
unfolding texts_of
info-fits p b t f =
    let w = three-texts (message_text p) (server_name p) (procedure_name p) t in
    let n = neither (long_name (server_name p)) (long_name (procedure_name p)) (no_test (long_name (server_name p) || long_name (procedure_name p)) 15 f) in
    message-ok refl (in-range 4 p b) (in-range 1 (drop 4 p) (bytes_drop 4 p b)) (in-range 1 (drop 5 p) (bytes_drop 5 p b)) (in-range 4 (drop 6 p) (bytes_drop 6 p b))
    w.0 w.1 (short-name (server_name p) n.0) w.2 (short-name (procedure_name p) n.1)

no-units : units [] ≤ 255
unfolding units units_of
no-units = omega arith

no_text : well_formed [] ≡ true
unfolding well_formed surrogates units_of paired
no_text = refl

pub error-fits : (p : List ℕ) → Bytes p → well_formed (drop 5 p) ≡ true → MessageOk 0xAA (le_at 4 p) 1 (le_at 1 (drop 4 p)) (drop 5 p) [] [] 1
error-fits p b w =
    message-ok refl (in-range 4 p b) (omega arith) (in-range 1 (drop 4 p) (bytes_drop 4 p b)) (omega arith) w no_text no-units no_text no-units

-- ---- cells

-- the integer types, and the Max types
integers : (t : ℕ) → 1 ≤ t → t ≤ 4 → (type_code (type_of t) ≡ 0x26) × (type_length (type_of t) ≡ number_width t)
unfolding data_type_of data_types data_type_in number_width
integers t l m =
    by-test (eqb t 1) (λ h. rw (eqb-true t 1 h) (refl, refl))
    (λ h1. by-test (eqb t 2) (λ h. rw (eqb-true t 2 h) (refl, refl))
    (λ h2. by-test (eqb t 3) (λ h. rw (eqb-true t 3 h) (refl, refl))
    (λ h3. let e : t ≡ 4 = omega (arith, eqb-false t 1 h1, eqb-false t 2 h2, eqb-false t 3 h3) in rw e (refl, refl))))

max-types : (t : ℕ) → 6 ≤ t → t ≤ 8 → type_length (type_of t) ≡ 0xFFFF
unfolding data_type_of data_types data_type_in
max-types t l m =
    by-test (eqb t 6) (λ h. rw (eqb-true t 6 h) refl)
    (λ h1. by-test (eqb t 7) (λ h. rw (eqb-true t 7 h) refl)
    (λ h2. let e : t ≡ 8 = omega (arith, eqb-false t 6 h1, eqb-false t 7 h2) in rw e refl))

-- the value that a byte stands for; of a byte that stands for none, which no accepted script has, any
abbrev value_in : Option ColumnValue → ColumnValue
value_in (Some v) = v
value_in None = Null

abbrev value_at : ℕ → ColumnValue
value_at b = value_in (column_value_of b)

-- the cell of a record
unfoldable pub cell_in : List ℕ → List (List ℕ) → EncodedCell
cell_in p cs = value_cell (value_at (le_at 1 p)) (drop 1 p) cs

known-value : (b : ℕ) → 1 ≤ b → b ≤ 10 → column_value_of b ≡ Some (value_at b)
unfolding column_value_of column_values column_value_in
known-value b l m =
    by-test (eqb b 1) (λ h. rw (eqb-true b 1 h))
    (λ h1. by-test (eqb b 2) (λ h. rw (eqb-true b 2 h))
    (λ h2. by-test (eqb b 3) (λ h. rw (eqb-true b 3 h))
    (λ h3. by-test (eqb b 4) (λ h. rw (eqb-true b 4 h))
    (λ h4. by-test (eqb b 5) (λ h. rw (eqb-true b 5 h))
    (λ h5. by-test (eqb b 6) (λ h. rw (eqb-true b 6 h))
    (λ h6. by-test (eqb b 7) (λ h. rw (eqb-true b 7 h))
    (λ h7. by-test (eqb b 8) (λ h. rw (eqb-true b 8 h))
    (λ h8. by-test (eqb b 9) (λ h. rw (eqb-true b 9 h))
    (λ h9.
    let low : 5 ≤ b = omega (arith, l, eqb-false b 1 h1, eqb-false b 2 h2, eqb-false b 3 h3, eqb-false b 4 h4) in
    let ten : b ≡ 10 = omega (arith, m, low, eqb-false b 5 h5, eqb-false b 6 h6, eqb-false b 7 h7, eqb-false b 8 h8, eqb-false b 9 h9) in
    rw ten)))))))))

pub cell-there : (p : List ℕ) (cs : List (List ℕ)) → cell_shaped p ≡ true → cell_pieces p cs ≡ token_piece (cell (cell_in p cs)) ∷ []
unfolding cell_of cell_in
cell-there p cs e =
    let r = value-byte p e in
    ap (λ (k : Option ColumnValue). map (λ (c : EncodedCell). token_piece (cell c)) (cell_by k (drop 1 p) cs)) (known-value (le_at 1 p) r.0 r.1)

number-cell : (x : List ℕ) (cs : List (List ℕ)) (v : ℕ) → 1 ≤ v → v ≤ 4 → value_cell (value_at v) x cs ≡ integer (number_width v) (le_at (number_width v) x)
unfolding column_value_of column_values column_value_in number_width
number-cell x cs v l m =
    by-test (eqb v 1) (λ h. rw (eqb-true v 1 h) refl)
    (λ h1. by-test (eqb v 2) (λ h. rw (eqb-true v 2 h) refl)
    (λ h2. by-test (eqb v 3) (λ h. rw (eqb-true v 3 h) refl)
    (λ h3. let e : v ≡ 4 = omega (arith, eqb-false v 1 h1, eqb-false v 2 h2, eqb-false v 3 h3) in rw e refl)))

chunks-ok : (units : Bool) (cs : List (List ℕ)) → any_empty cs ≡ false → (units ≡ true → Whole cs) → ChunksOk units cs
chunks-ok units [] e w = tt
chunks-ok units (c ∷ cs) e w =
    let n = neither (eqb (length c) 0) (any_empty cs) e in
    let ne = eqb-false (length c) 0 n.0 in
    (omega arith, even-in units (λ h. (w h).0), chunks-ok units cs n.1 (λ h. (w h).1))
  where
    even-in : (b : Bool) → (b ≡ true → even (length c) ≡ true) → (not b || even (length c)) ≡ true
    even-in true f = f refl
    even-in false f = refl

module _ (t : ℕ) (p : List ℕ) (cs : List (List ℕ)) (bytes : Bytes p) (texts : all_well_formed (texts_of 5 p) ≡ true) (sound : cell_fault (cell_in p cs) ≡ 0)
    (units : le_at 1 p ≡ 6 → Whole cs) where
  a-number : 1 ≤ le_at 1 p → le_at 1 p ≤ 4 → t ≡ le_at 1 p → CellOk (column_type t) (cell_in p cs)
  unfolding cell_in
  a-number l m e =
      let i = integers t (omega arith) (omega arith) in
      rw (number-cell (drop 1 p) cs (le_at 1 p) l m)
      (i.0, i.1 ∙ ap number_width e, in-range (number_width (le_at 1 p)) (drop 1 p) (bytes_drop 1 p bytes))

  a-text : le_at 1 p ≡ 5 → t ≡ 5 → length (drop 1 p) ≤ 8000 → CellOk (column_type t) (cell_in p cs)
  unfolding cell_in column_value_of column_values column_value_in data_type_of data_types data_type_in texts_of
  a-text e f l =
      let w : well_formed (drop 1 p) ≡ true = one-text (drop 1 p) (rw e at texts) in
      rw (e, f) (refl, omega arith, l, eq-eqb (length (drop 1 p) % 2) 0 (even-text (drop 1 p) w))

  no-empty : (v : ℕ) → le_at 1 p ≡ v → value_cell (value_at v) (drop 1 p) cs ≡ long cs → any_empty cs ≡ false
  unfolding cell_in
  no-empty v e g = no_test (any_empty cs) 14 (rw (e, g) at sound)

  pub cell-ok : Suits t p → CellOk (column_type t) (cell_in p cs)
  unfolding cell_in column_value_of column_values column_value_in data_type_of data_types data_type_in
  cell-ok (number l m e) = a-number l m e
  cell-ok (text e f l) = a-text e f l
  cell-ok (nvarchar_max e f) = let n = no-empty 6 e refl in rw (e, f) (refl, chunks-ok true cs n (λ h. units e))
  cell-ok (no_max e l m) = let x = max-types t l m in rw e x
  cell-ok (varchar_max e f) = let n = no-empty 8 e refl in rw (e, f) (refl, chunks-ok false cs n (λ h. absurd (false≢true h)))
  cell-ok (varbinary_max e f) = let n = no-empty 9 e refl in rw (e, f) (refl, chunks-ok false cs n (λ h. absurd (false≢true h)))
  cell-ok (no_number e l m) = let x = integers t l m in rw e x.0
