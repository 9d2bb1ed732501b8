-- A label is kept when it is written and read, and when it is read and written: of the definitions, and of what the calls leave in lent
-- buffers. Assumes nothing.
use mathlib.Core.Path.{◌≡◌, refl, sym, ap, ◌∙◌}
use mathlib.Core.Bool.{true, false}
use Rattle.std.specs.Prelude.{Some, None, Ok, Err}
use mathlib.Core.List.{List, [], ◌∷◌, ◌++◌}
use Prim.Native.Nat.{ℕ, zero, suc, ◌+◌, ◌*◌, ◌/◌, ◌%◌, ◌≤◌, ◌<◌}
use native.Mathlib.Omega.{arith}
use borrow.Author.Tests.{eq-eqb, le-leb, le-ltb, lt-ltb, eqb-true}
use lib.Dec.{eqb}
use lib.ListN.{length, take, drop}
use lib.Seq.{take_at, drop_at}
use lib.Arith.{digits_mod, digits_div}
use Rattle.wire.specs.Le.{le_at, le}
use Rattle.wire.specs.Even.{even}
use Rattle.wire.specs.Octets.{Bytes}
use Rattle.wire.specs.Fields.{word, flat}
use Rattle.wire.specs.Over.{overwrite}
use Rattle.wire.proofs.Le.{length-le}
use Rattle.wire.proofs.Octets.{bytes_take, bytes_drop, bytes-cat}
use Rattle.wire.proofs.Over.{over-eq}
use Rattle.wire.proofs.Cases.{split, by-test, clash}
use Rattle.text.specs.Units.{units_of}
use Rattle.token.specs.Tokens.{joined, put_chunks}
use Rattle.payload.specs.Places.{body_source}
use Rattle.payload.proofs.Standing.{At}
use Rattle.cells.specs.Values.{chunk_bytes, joined_from}
use Rattle.cells.proofs.Chunks.{ChunksOk, joined_at, past-chunks, past_is, max-at}
use Rattle.windows1252.specs.Table.{unit_of, byte_of, has_byte, have_bytes, bytes_of, text_of}
use Rattle.windows1252.specs.Labels.{Reading, chunks_joined, shown, read_of, Writing, one_chunk, value_bytes, encoded, written_of, most_characters}
use Rattle.windows1252.specs.Answers.{read_with, buffer_with, read_in, text_left, written_with, buffer_after, written_in, value_left}
use Rattle.windows1252.specs.Kept.{WriteRead, ReadWrite, WrittenRead, ReadWritten}
use Rattle.windows1252.proofs.Table.{unit-small, byte-of-unit, unit-of-byte}
use Rattle.windows1252.proofs.Texts.{length-text, length-bytes, have-both}
use Rattle.windows1252.proofs.CodeReads.{read_by, read-text}
use Rattle.windows1252.proofs.CodeWrites.{accepted, joined-one, value-small}

-- ---- bytes to text and back

-- the first unit of a text
unit-first : (u : ℕ) (rest : List ℕ) → u < 65536 → units_of (le 2 u ++ rest) ≡ u ∷ units_of rest
unfolding units_of le le_at
unit-first u rest h = let e : (0 * 256 + u / 256 % 256) * 256 + u % 256 ≡ u = omega arith in rw e

-- a unit that a byte stands for has that byte
byte-first : (b : ℕ) (us : List ℕ) → b < 256 → have_bytes us ≡ true → (have_bytes (unit_of b ∷ us) ≡ true) × (bytes_of (unit_of b ∷ us) ≡ b ∷ bytes_of us)
unfolding have_bytes has_byte bytes_of
byte-first b us h e = (rw (byte-of-unit b h, lt-ltb b 256 h, e), rw (byte-of-unit b h))

pub units-back : (bs : List ℕ) → Bytes bs → (have_bytes (units_of (text_of bs)) ≡ true) × (bytes_of (units_of (text_of bs)) ≡ bs)
unfolding text_of units_of have_bytes bytes_of
units-back [] h = (refl, refl)
units-back (b ∷ bs) h =
    let rest = units-back bs h.1 in
    let one = byte-first b (units_of (text_of bs)) h.0 rest.0 in
    rw (unit-first (unit_of b) (text_of bs) (unit-small b h.0)) (one.0, one.1 ∙ ap (λ (l : List ℕ). b ∷ l) rest.1)

-- ---- text to bytes and back

-- a unit is its two bytes
unit-bytes : (a b : ℕ) → a < 256 → b < 256 → le 2 (le_at 2 (a ∷ b ∷ [])) ≡ a ∷ b ∷ []
unfolding le le_at
unit-bytes a b h g =
    rw (digits_mod (0 * 256 + b) h, digits_div (0 * 256 + b) h, digits_mod 0 g)

two-less : (n : ℕ) → even (suc (suc n)) ≡ true → even n ≡ true
two-less n e = let q : suc (suc n) % 2 ≡ 0 = eqb-true (suc (suc n) % 2) 0 e in eq-eqb (n % 2) 0 (omega arith)

text-first : (u : ℕ) (us : List ℕ) → byte_of u < 256 → text_of (bytes_of (u ∷ us)) ≡ le 2 u ++ text_of (bytes_of us)
unfolding text_of bytes_of has_byte
text-first u us h = rw (unit-of-byte u (lt-ltb (byte_of u) 256 h)).1

pub text-back : (t : List ℕ) → Bytes t → even (length t) ≡ true → have_bytes (units_of t) ≡ true → text_of (bytes_of (units_of t)) ≡ t
unfolding text_of bytes_of units_of
text-back [] h e g = refl
text-back (a ∷ []) h e g = clash (let q = eqb-true 1 0 e in omega arith)
text-back (a ∷ b ∷ t) h e g =
    let u = le_at 2 (a ∷ b ∷ []) in
    let has = have-both u (units_of t) g in
    text-first u (units_of t) (unit-of-byte u has.0).0
    ∙ rw (unit-bytes a b h.0 h.1.0) (ap (λ (l : List ℕ). a ∷ b ∷ l) (text-back t h.1.1 (two-less (length t) e) has.1))

-- ---- a value of one chunk

one_ok : (bs : List ℕ) → ChunksOk false (one_chunk bs)
one_ok [] = tt
one_ok (b ∷ bs) = (omega arith, refl, tt)

one-most : (bs : List ℕ) → length (one_chunk bs) ≤ 1
one-most [] = omega arith
one-most (b ∷ bs) = omega arith

module _ (bs : List ℕ) (few : length bs ≤ 65535) where
  abbrev v : List ℕ
  v = value_bytes bs

  abbrev cs : List (List ℕ)
  cs = one_chunk bs

  stands : At (body_source v) 0 (word 8 (length (joined cs)) ∷ put_chunks cs [])
  unfolding value_bytes
  stands = record { inside = omega arith; is = refl }

  pub joined-value : chunks_joined v ≡ bs
  unfolding chunks_joined joined_from value_bytes flat
  joined-value =
      let small = value-small bs in
      rw (drop_at (le 8 (length (joined cs))) (flat (put_chunks cs [])) 8 (length-le 8 (length (joined cs))))
      (joined_at (length v) false cs [] (omega (arith, one-most bs, small.0)) (omega (arith, ap length (joined-one bs))) (one_ok bs) ∙ joined-one bs)

  pub value_read : read_of v ≡ Ok (Some (text_of bs))
  unfolding shown
  value_read =
      let small = value-small bs in
      let at-end : past-chunks (0 + 8) cs ≡ length v = omega (arith, past_is (0 + 8) cs, ap length (joined-one bs), small.1) in
      read_by v (max-at (omega (arith, small.1, one-most bs)) [] false cs (one_ok bs) 0 stands)
      ∙ rw (eq-eqb (past-chunks (0 + 8) cs) (length v) at-end, joined-value, le-leb (length bs) most_characters few)

-- ---- the bytes of chunks

bytes-chunks : (turns : ℕ) (l : List ℕ) → Bytes l → Bytes (chunk_bytes turns l)
unfolding chunk_bytes
bytes-chunks zero l h = tt
bytes-chunks (suc turns) l h =
    let n = le_at 4 l in
    let rest = bytes_drop 4 l h in
    by-test (eqb n 0) (λ t. rw t tt) (λ t. rw t (bytes-cat (take n (drop 4 l)) _ (bytes_take n (drop 4 l) rest) (bytes-chunks turns (drop n (drop 4 l)) (bytes_drop n (drop 4 l) rest))))

bytes-joined : (v : List ℕ) → Bytes v → Bytes (chunks_joined v)
unfolding chunks_joined joined_from
bytes-joined v h = bytes-chunks (length v) (drop 8 v) (bytes_drop 8 v h)

-- ---- the statements

pub write_read : WriteRead
write_read t v b e =
    let ok = accepted t (rw e) in
    let us = units_of t in
    let same : v ≡ value_bytes (bytes_of us) = let q = sym e ∙ ok.is in cc in
    rw same (value_read (bytes_of us) (omega (arith, ok.few, length-bytes us)) ∙ ap (λ (l : List ℕ). Ok (Some l)) (text-back t b ok.whole ok.have))

-- what is written of a text that was read
pub text-written : (bs : List ℕ) → Bytes bs → length bs ≤ 65535 → written_of (text_of bs) ≡ Ok (value_bytes bs)
unfolding written_of encoded
text-written bs b few =
    let w = units-back bs b in
    let long : length (units_of (text_of bs)) ≡ length bs = sym (length-bytes (units_of (text_of bs))) ∙ ap length w.1 in
    let whole : length (text_of bs) % 2 ≡ 0 = omega (arith, length-text bs) in
    rw (eq-eqb (length (text_of bs) % 2) 0 whole, w.0, w.1, long, le-leb (length bs) most_characters few)

pub read-write : ReadWrite
read-write v t b e =
    let w = read-text v e in
    let bs = chunks_joined v in
    (value_bytes bs, rw w.0 (text-written bs (bytes-joined v b) w.1), joined-value bs w.1)

-- ---- what the calls leave in lent buffers

-- what was written to a buffer's front stands there
front : (x buf : List ℕ) → length x ≤ length buf → take (length x) (overwrite buf 0 x) ≡ x
front x buf h = rw (over-eq x buf 0 (omega arith)) (take_at x (drop (0 + length x) buf) (length x) refl)

-- what an answer tells of a text that was written, and of a value that was read
value-told : (x : Writing) (buf : List ℕ) {n : ℕ} → written_with x (length buf) ≡ Ok n
    → (v : List ℕ) × (x ≡ Ok v) × (length v ≡ n) × (take n (buffer_after x buf) ≡ v)
value-told (Ok v) buf {n} e =
    split (length v) (length buf)
    (λ h. let q = rw (le-ltb (length buf) (length v) h) at e in let long : length v ≡ n = cc in
    (v, refl, long, rw (le-ltb (length buf) (length v) h, ← long) (front v buf h)))
    (λ h. let q = rw (lt-ltb (length buf) (length v) h) at e in clash (cc))
value-told (Err r) buf e = clash (cc)

text-told : (x : Reading) (buf : List ℕ) {n : ℕ} → read_with x (length buf) ≡ Ok (Some n)
    → (t : List ℕ) × (x ≡ Ok (Some t)) × (length t ≡ n) × (take n (buffer_with x buf) ≡ t)
text-told (Ok (Some t)) buf {n} e =
    split (length t) (length buf)
    (λ h. let q = rw (le-ltb (length buf) (length t) h) at e in let long : length t ≡ n = cc in
    (t, refl, long, rw (le-ltb (length buf) (length t) h, ← long) (front t buf h)))
    (λ h. let q = rw (lt-ltb (length buf) (length t) h) at e in clash (cc))
text-told (Ok None) buf e = clash (cc)
text-told (Err r) buf e = clash (cc)

-- where there is room
text-fits : (v t buf : List ℕ) → read_of v ≡ Ok (Some t) → length t ≤ length buf → (read_in v (length buf) ≡ Ok (Some (length t))) × (take (length t) (text_left v buf) ≡ t)
unfolding read_in text_left
text-fits v t buf e h = (rw (e, le-ltb (length buf) (length t) h), rw (e, le-ltb (length buf) (length t) h) (front t buf h))

value-fits : (t v buf : List ℕ) → written_of t ≡ Ok v → length v ≤ length buf
    → (written_in t (length buf) ≡ Ok (length v)) × (take (length v) (value_left t buf) ≡ v)
unfolding written_in value_left
value-fits t v buf e h = (rw (e, le-ltb (length buf) (length v) h), rw (e, le-ltb (length buf) (length v) h) (front v buf h))

pub written_read : WrittenRead
unfolding written_in value_left
written_read t buf panel n b e h =
    let w = value-told (written_of t) buf e in
    rw w.3 (text-fits w.0 t panel (write_read t w.0 b w.1) h)

-- a value of so many bytes has room
value-most : (bs : List ℕ) → length bs ≤ 65535 → length (value_bytes bs) ≤ 65551
value-most bs h = omega (arith, (value-small bs).1, one-most bs)

pub read-written : ReadWritten
unfolding read_in text_left
read-written v panel buf n b e h =
    let w = text-told (read_of v) panel e in
    let r = read-text v w.1 in
    let bs = chunks_joined v in
    let is : written_of w.0 ≡ Ok (value_bytes bs) = rw r.0 (text-written bs (bytes-joined v b) r.1) in
    let f = value-fits w.0 (value_bytes bs) buf is (omega (arith, value-most bs r.1, h)) in
    (length (value_bytes bs), rw w.3 f.0, rw (w.3, f.1) (joined-value bs r.1))
