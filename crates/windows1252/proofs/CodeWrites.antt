-- What writing a label comes to, from what its text is, and the fields of a value. Assumes nothing.
use mathlib.Core.Path.{◌≡◌, refl, sym, ap, ◌∙◌}
use mathlib.Core.Bool.{Bool, true, false, cond}
use mathlib.Core.Logic.{◌≢◌}
use Rattle.std.specs.Prelude.{Result, Ok, Err}
use mathlib.Core.List.{List, [], ◌∷◌, ◌++◌, append-nil}
use Prim.Native.Nat.{ℕ, ◌+◌, ◌*◌, ◌/◌, ◌%◌, ◌≤◌, ◌<◌}
use native.Mathlib.Omega.{arith}
use borrow.Author.Tests.{eq-eqb, ne_eqb, le-leb, lt-leb, le-ltb, lt-ltb, leb-true, eqb-true}
use lib.Dec.{leb, eqb}
use lib.ListN.{length}
use Rattle.refusals.specs.Numbers.{odd_text, unit_without_byte, result_too_long, buffer_too_short}
use Rattle.wire.specs.Le.{le}
use Rattle.wire.specs.Even.{even}
use Rattle.wire.specs.Fields.{word, raw, flat}
use Rattle.wire.specs.Over.{overwrite}
use Rattle.wire.proofs.Fields.{flat-cat, size_none, size_word, size-raw}
use Rattle.wire.proofs.Cases.{by-test, clash}
use Rattle.text.specs.Units.{units_of}
use Rattle.text.proofs.Scan.{length-units}
use Rattle.token.specs.Tokens.{joined, put_chunks}
use Rattle.windows1252.specs.Table.{have_bytes, bytes_of}
use Rattle.windows1252.specs.Labels.{Writing, one_chunk, value_bytes, encoded, written_of, most_characters}
use Rattle.windows1252.specs.Answers.{written_in, value_left}
use Rattle.windows1252.specs.Code.{fault_by, value_size, chunk_fields}
use Rattle.windows1252.proofs.Texts.{length-bytes}

-- ---- a text's refusal

module _ (t : List ℕ) where
  pub fault-odd : (length t % 2 ≡ 0 → ⊥) → odd_text ≡ fault_by (written_of t)
  unfolding written_of
  fault-odd h = rw (ne_eqb (length t % 2) 0 h)

  module _ (e : length t % 2 ≡ 0) where
    pub fault-byte : have_bytes (units_of t) ≡ false → unit_without_byte ≡ fault_by (written_of t)
    unfolding written_of encoded
    fault-byte h = rw (eq-eqb (length t % 2) 0 e, h)

    pub fault-long : have_bytes (units_of t) ≡ true → 65535 < length t / 2 → result_too_long ≡ fault_by (written_of t)
    unfolding written_of encoded
    fault-long h l = rw (eq-eqb (length t % 2) 0 e, h, length-units t, lt-leb (length t / 2) 65535 l)

    pub fault-none : have_bytes (units_of t) ≡ true → length t / 2 ≤ 65535 → 0 ≡ fault_by (written_of t)
    unfolding written_of encoded
    fault-none h l = rw (eq-eqb (length t % 2) 0 e, h, length-units t, le-leb (length t / 2) 65535 l)

-- what no refusal tells
passed-by : (a b c : Bool) (v : List ℕ) → fault_by (cond a (cond b (cond c (Ok v) (Err result_too_long)) (Err unit_without_byte)) (Err odd_text)) ≡ 0
    → (a ≡ true) × (b ≡ true) × (c ≡ true)
passed-by true true true v e = (refl, refl, refl)
passed-by true true false v e = clash (omega (arith, e))
passed-by true false c v e = clash (omega (arith, e))
passed-by false b c v e = clash (omega (arith, e))

pub record Accepted (t : List ℕ) : Type 0 where
  pub whole : even (length t) ≡ true
  pub have : have_bytes (units_of t) ≡ true
  pub few : length (units_of t) ≤ 65535
  pub is : written_of t ≡ Ok (value_bytes (bytes_of (units_of t)))

pub accepted : (t : List ℕ) → fault_by (written_of t) ≡ 0 → Accepted t
unfolding written_of encoded
accepted t e =
    let p = passed-by (even (length t)) (have_bytes (units_of t)) (leb (length (units_of t)) most_characters) (value_bytes (bytes_of (units_of t))) e in
    record { whole = p.0; have = p.1; few = leb-true (length (units_of t)) most_characters p.2; is = rw (p.0, p.1, p.2) }

not_written : (x : Writing) {n : ℕ} → n ≡ fault_by x → n ≢ 0 → x ≡ Err n
not_written (Ok v) e f = absurd (f e)
not_written (Err r) e f = rw e

-- ---- the fields of a value

pub joined-one : (bs : List ℕ) → joined (one_chunk bs) ≡ bs
joined-one [] = refl
joined-one (b ∷ bs) = append-nil (b ∷ bs)

chunks-one : (bs : List ℕ) → put_chunks (one_chunk bs) [] ≡ chunk_fields bs ++ (word 4 0 ∷ [])
chunks-one [] = refl
chunks-one (b ∷ bs) = refl

pub value-is : (bs : List ℕ) → value_bytes bs ≡ le 8 (length bs) ++ (flat (chunk_fields bs) ++ le 4 0)
unfolding value_bytes flat
value-is bs = rw (joined-one bs, chunks-one bs, flat-cat (chunk_fields bs) (word 4 0 ∷ []), append-nil (le 4 0))

pub value-length : (bs : List ℕ) → length (value_bytes bs) ≡ value_size (length bs)
unfolding value_bytes
value-length [] = size_word 8 0 (word 4 0 ∷ []) ∙ omega (arith, size_word 4 0 [], size_none)
value-length (b ∷ bs) =
    let n = length (b ∷ bs) in
    let last : length (flat (word 4 0 ∷ [])) ≡ 4 = size_word 4 0 [] ∙ rw size_none in
    let chunk : length (flat (word 4 n ∷ raw (b ∷ bs) ∷ word 4 0 ∷ [])) ≡ 4 + (n + 4) =
    size_word 4 n (raw (b ∷ bs) ∷ word 4 0 ∷ []) ∙ ap (λ (m : ℕ). 4 + m) (size-raw (b ∷ bs) (word 4 0 ∷ []) ∙ ap (λ (m : ℕ). n + m) last) in
    let sized : 8 + (4 + (n + 4)) ≡ value_size n = rw (ne_eqb n 0 (omega arith)) (omega arith) in
    size_word 8 (length ((b ∷ bs) ++ [])) (word 4 n ∷ raw (b ∷ bs) ∷ word 4 0 ∷ []) ∙ ap (λ (m : ℕ). 8 + m) chunk ∙ sized

-- a total, a zero length, and between them a chunk's length where there is one
pub value-small : (bs : List ℕ) → (12 ≤ length (value_bytes bs)) × (length (value_bytes bs) ≡ 8 + 4 + 4 * length (one_chunk bs) + length bs)
value-small [] = let e = value-length [] in (omega (arith, e), omega (arith, e))
value-small (b ∷ bs) =
    let e : length (value_bytes (b ∷ bs)) ≡ length (b ∷ bs) + 16 = value-length (b ∷ bs) ∙ rw (ne_eqb (length (b ∷ bs)) 0 (omega arith)) in
    (omega (arith, e), omega (arith, e))

-- it has room for its total, a chunk's length and the bytes, or the zero length
pub size_room : (n : ℕ) {room : ℕ} → value_size n ≤ room → 8 + 4 + n ≤ room
size_room n h = by-test (eqb n 0) (λ t. let q = eqb-true n 0 t in let g = rw t at h in omega arith) (λ t. let g = rw t at h in omega arith)

-- the one chunk
pub no_chunk : (bs : List ℕ) → length bs ≡ 0 → flat (chunk_fields bs) ≡ []
unfolding flat
no_chunk [] e = refl
no_chunk (b ∷ bs) e = absurd (omega (arith, e))

pub a-chunk : (bs : List ℕ) {n : ℕ} → length bs ≡ n → (n ≡ 0 → ⊥) → le 4 n ++ bs ≡ flat (chunk_fields bs)
unfolding flat
a-chunk [] e f = absurd (f (sym e))
a-chunk (b ∷ bs) e f = rw (sym e, append-nil (b ∷ bs))

-- ---- the answers of `write_value`, and what is left in the buffer

module _ (t buf : List ℕ) where
  -- the answer r with the buffer left
  abbrev pub Write-ends : Result ℕ ℕ → List ℕ → Type 0
  Write-ends r left = (r ≡ written_in t (length buf)) × (left ≡ value_left t buf)

  pub ends-refused : {n : ℕ} → n ≡ fault_by (written_of t) → n ≢ 0 → Write-ends (Err n) buf
  unfolding written_in value_left
  ends-refused e f = let q = not_written (written_of t) e f in (rw q, rw q)

  module _ (e : fault_by (written_of t) ≡ 0) {n : ℕ} (s : n ≡ value_size (length t / 2)) where
    abbrev v : List ℕ
    v = value_bytes (bytes_of (units_of t))

    size : length v ≡ n
    size = value-length (bytes_of (units_of t)) ∙ rw (length-bytes (units_of t), length-units t) (sym s)

    pub ends-short : length buf < n → Write-ends (Err buffer_too_short) buf
    unfolding written_in value_left
    ends-short h = let q = (accepted t e).is in (rw (q, size, lt-ltb (length buf) n h), rw (q, size, lt-ltb (length buf) n h))

    pub ends-value : {left : List ℕ} → n ≤ length buf → left ≡ overwrite buf 0 v → Write-ends (Ok n) left
    unfolding written_in value_left
    ends-value h w = let q = (accepted t e).is in (rw (q, size, le-ltb (length buf) n h), w ∙ rw (q, size, le-ltb (length buf) n h))
