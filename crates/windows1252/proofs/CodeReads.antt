-- What reading a label comes to, from what its total and chunks come to, and what an answer tells of it. Assumes nothing.
use mathlib.Core.Path.{◌≡◌, refl, sym, ap, ◌∙◌}
use mathlib.Core.Bool.{Bool, true, false, cond, not, ◌||◌}
use Rattle.std.specs.Prelude.{Option, Some, None, Result, Ok, Err}
use mathlib.Core.List.{List}
use mathlib.Core.Logic.{◌≢◌}
use Prim.Native.Nat.{ℕ, suc, ◌+◌, ◌*◌, ◌≤◌, ◌<◌}
use native.Mathlib.Omega.{arith}
use borrow.Author.Tests.{le-ltb, lt-ltb, leb-true, eq-eqb, ne_eqb}
use lib.Dec.{eqb, leb}
use lib.ListN.{length}
use Rattle.refusals.specs.declared.Refusal.{Refusal}
use Rattle.refusals.specs.Refused.{number, numbered}
use Rattle.refusals.specs.Numbers.{inner_wrong, result_too_long, buffer_too_short}
use Rattle.wire.specs.declared.Part.{Part}
use Rattle.wire.proofs.Cases.{by-test, clash}
use Rattle.wire.specs.Over.{overwrite}
use Rattle.wire.specs.Even.{even}
use Rattle.payload.specs.Places.{Source, Read, whole, refused, number_at, must, body_source}
use Rattle.payload.specs.declared.NumberAt.{NumberAt}
use Rattle.payload.specs.Answers.{number_read}
use Rattle.payload.specs.declared.frames.Frame.{Frame}
use Rattle.payload.specs.Frames.{source_from, body_frame}
use Rattle.payload.proofs.Onto.{body-read}
use Rattle.payload.proofs.CodeReads.{number_is, number-got, number-not, if-so, if-not, must-hold, then-got, then-not}
use Rattle.cells.specs.declared.Value.{Value}
use Rattle.cells.specs.declared.Value.TheVariants as cell
use Rattle.cells.specs.Cells.{is_type, cell_at, chunks_at, max_at}
use Rattle.cells.specs.declared.ChunksAt.{ChunksAt}
use Rattle.cells.specs.Answers.{chunks_read}
use Rattle.cells.proofs.CodeChunks.{chunks-is, chunks-is-not}
use Rattle.windows1252.specs.Table.{text_of}
use Rattle.windows1252.specs.Labels.{Reading, chunks_joined, shown, label_of, wholly, read_of, most_characters}
use Rattle.windows1252.specs.Answers.{size_of, read_in, text_left}
use Rattle.windows1252.specs.Code.{null_at, text_at}
use Rattle.windows1252.proofs.Texts.{length-text}

-- a cell of VARCHAR(MAX) is a Max cell that is not text of two-byte units
pub read_by : (v : List ℕ) {x : Read Value} → max_at false (body_source v) 0 ≡ x → read_of v ≡ wholly v x
unfolding read_of cell_at must is_type
read_by v e = ap (wholly v) e

-- the place after a number
next_of : (b : Bool) (n stop at : ℕ) {m : NumberAt} → cond b (whole n at) (refused stop) ≡ whole m.value m.next → m.next ≡ at
next_of true n stop at e = cc
next_of false n stop at e = clash (cc)

pub number-next : (k : ℕ) (src : Source) (at : ℕ) {r : Result NumberAt Refusal} {m : NumberAt} → numbered r ≡ number_read (number_at k src at whole) → r ≡ Ok m
    → m.next ≡ at + k
unfolding number_at
number-next k src at {m = m} e f = next_of (leb (at + k) (length src.bytes)) _ src.stop (at + k) {m = m} (number_is (number_at k src at whole) e f)

either_true : (b : Bool) → (b || true) ≡ true
either_true true = refl
either_true false = refl

-- ---- the answers of `measured`

pub null_size : (v : List ℕ) (at : ℕ) → null_at (length v) at ≡ size_of (wholly v (whole cell.Null at))
null_size v at = by-test (eqb at (length v)) (λ t. rw t) (λ t. rw t)

shown-size : (bs : List ℕ) → cond (leb (length bs) most_characters) (Ok (Some (2 * length bs))) (Err result_too_long) ≡ size_of (shown bs)
unfolding shown
shown-size bs = by-test (leb (length bs) most_characters) (λ t. rw (t, length-text bs)) (λ t. rw t)

pub text-size : (v : List ℕ) (part : Part) (at : ℕ) {count : ℕ} → count ≡ length (chunks_joined v) → text_at (length v) at count ≡ size_of (wholly v (whole (cell.Max part) at))
text-size v part at e = by-test (eqb at (length v)) (λ t. rw (t, e) (shown-size (chunks_joined v))) (λ t. rw t)

module _ (v : List ℕ) {frame : Frame} (b : frame ≡ body_frame (length v)) (r : Result NumberAt Refusal)
    (e : numbered r ≡ number_read (number_at 8 (source_from v frame) 0 whole)) where
  total-read : numbered r ≡ number_read (number_at 8 (body_source v) 0 whole)
  total-read = rw (body-read v b) at e

  -- the total is cut
  pub total-cut : {n : Refusal} → r ≡ Err n → Err (number n) ≡ size_of (read_of v)
  unfolding max_at
  total-cut f = sym (ap size_of (read_by v (number-not 8 (body_source v) 0 _ total-read f)))

  module _ {m : NumberAt} (f : r ≡ Ok m) where
    pub null-read : {a : Result (Option ℕ) ℕ} → m.value ≡ 0xFFFFFFFFFFFFFFFF → a ≡ null_at (length v) m.next → a ≡ size_of (read_of v)
    unfolding max_at
    null-read q g = g ∙ null_size v m.next ∙ sym (ap size_of (read_by v (number-got 8 (body_source v) 0 _ total-read f ∙ if-so _ _ (eq-eqb _ _ q))))

    module _ (q : m.value ≢ 0xFFFFFFFFFFFFFFFF) (k : Result ChunksAt Refusal)
        (g : numbered k ≡ chunks_read (source_from v frame) m.next (chunks_at (suc (length (source_from v frame).bytes)) false (not (eqb m.value 0xFFFFFFFFFFFFFFFE)) (source_from v frame) m.next m.value m.next)) where
      chunks-read : numbered k ≡ chunks_read (body_source v) m.next (chunks_at (suc (length v)) false (not (eqb m.value 0xFFFFFFFFFFFFFFFE)) (body_source v) m.next m.value m.next)
      chunks-read = rw (body-read v b) at g

      pub chunks-cut : {n : Refusal} → k ≡ Err n → Err (number n) ≡ size_of (read_of v)
      unfolding max_at
      chunks-cut h =
          sym (ap size_of (read_by v (number-got 8 (body_source v) 0 _ total-read f ∙ if-not _ _ (ne_eqb _ _ q) ∙ must-hold _ _ (either_true (even m.value))
          ∙ then-not _ (chunks-is-not (body_source v) _ _ chunks-read h))))

      pub text-read : {n : ChunksAt} {a : Result (Option ℕ) ℕ} → k ≡ Ok n → a ≡ text_at (length v) n.next n.count → a ≡ size_of (read_of v)
      unfolding max_at chunks_joined
      text-read {n} h w =
          let is = chunks-is (body_source v) _ _ chunks-read h in
          let eight = number-next 8 (body_source v) 0 total-read f in
          w ∙ text-size v n.part n.next (rw eight at is.1)
          ∙ sym (ap size_of (read_by v (number-got 8 (body_source v) 0 _ total-read f ∙ if-not _ _ (ne_eqb _ _ q) ∙ must-hold _ _ (either_true (even m.value))
          ∙ then-got _ is.0)))

-- ---- what `measured` tells

pub size-refused : (x : Reading) {n : ℕ} → Err n ≡ size_of x → x ≡ Err n
size-refused (Ok (Some t)) e = clash (cc)
size-refused (Ok None) e = clash (cc)
size-refused (Err m) e = cc

pub size-null : (x : Reading) → Ok None ≡ size_of x → x ≡ Ok None
size-null (Ok (Some t)) e = clash (cc)
size-null (Ok None) e = refl
size-null (Err m) e = clash (cc)

shown-text : (b : Bool) (bs : List ℕ) {t : List ℕ} → leb (length bs) most_characters ≡ b → cond b (Ok (Some (text_of bs))) (Err result_too_long) ≡ Ok (Some t)
    → (t ≡ text_of bs) × (length bs ≤ most_characters)
shown-text true bs e f = (cc, leb-true (length bs) most_characters e)
shown-text false bs e f = clash (cc)

label-text : (v : List ℕ) (x : Value) {t : List ℕ} → label_of v x ≡ Ok (Some t) → (t ≡ text_of (chunks_joined v)) × (length (chunks_joined v) ≤ most_characters)
unfolding shown
label-text v cell.Null e = clash (cc)
label-text v (cell.Max part) e = shown-text (leb (length (chunks_joined v)) most_characters) (chunks_joined v) refl e
label-text v (cell.Part part) e = clash (cc)
label-text v (cell.Number n) e = clash (cc)

all_read : (b : Bool) (x : Reading) {t : List ℕ} → cond b x (Err inner_wrong) ≡ Ok (Some t) → x ≡ Ok (Some t)
all_read true x e = e
all_read false x e = clash (cc)

wholly-text : (v : List ℕ) (x : Read Value) {t : List ℕ} → wholly v x ≡ Ok (Some t) → (t ≡ text_of (chunks_joined v)) × (length (chunks_joined v) ≤ most_characters)
wholly-text v (whole x at) e = label-text v x (all_read (eqb at (length v)) (label_of v x) e)
wholly-text v (refused r) e = clash (cc)

-- a text that is read is that of the chunks' bytes joined
pub read-text : (v : List ℕ) {t : List ℕ} → read_of v ≡ Ok (Some t) → (t ≡ text_of (chunks_joined v)) × (length (chunks_joined v) ≤ most_characters)
unfolding read_of
read-text v e = wholly-text v (cell_at 0xA7 0xFFFF (body_source v) 0) e

pub record Told (v : List ℕ) (n : ℕ) : Type 0 where
  pub is : read_of v ≡ Ok (Some (text_of (chunks_joined v)))
  pub size : length (text_of (chunks_joined v)) ≡ n
  pub room : 2 * length (chunks_joined v) ≡ n

size-told : (v : List ℕ) (x : Reading) {n : ℕ} → read_of v ≡ x → Ok (Some n) ≡ size_of x → Told v n
size-told v (Ok (Some t)) {n = n} q e =
    let w = read-text v q in
    let long : length t ≡ n = cc in
    let same : length (text_of (chunks_joined v)) ≡ n = rw w.0 at long in
    record { is = rw w.0 at q; size = same; room = omega (arith, same, length-text (chunks_joined v)) }
size-told v (Ok None) q e = clash (cc)
size-told v (Err m) q e = clash (cc)

pub size-text : (v : List ℕ) {n : ℕ} → Ok (Some n) ≡ size_of (read_of v) → Told v n
size-text v e = size-told v (read_of v) refl e

-- ---- the answers of `read_value`, and what is left in the buffer

module _ (v buf : List ℕ) where
  -- the answer r with the buffer left
  abbrev pub Read-ends : Result (Option ℕ) ℕ → List ℕ → Type 0
  Read-ends r left = (r ≡ read_in v (length buf)) × (left ≡ text_left v buf)

  pub ends-refused : {n : ℕ} → read_of v ≡ Err n → Read-ends (Err n) buf
  unfolding read_in text_left
  ends-refused e = (rw e, rw e)

  pub ends-null : read_of v ≡ Ok None → Read-ends (Ok None) buf
  unfolding read_in text_left
  ends-null e = (rw e, rw e)

  pub ends-short : {n : ℕ} → Told v n → length buf < n → Read-ends (Err buffer_too_short) buf
  unfolding read_in text_left
  ends-short {n} t h = (rw (t.is, t.size, lt-ltb (length buf) n h), rw (t.is, t.size, lt-ltb (length buf) n h))

  pub ends-text : {n : ℕ} {left : List ℕ} → Told v n → n ≤ length buf → left ≡ overwrite buf 0 (text_of (chunks_joined v)) → Read-ends (Ok (Some n)) left
  unfolding read_in text_left
  ends-text {n} t h w = (rw (t.is, t.size, le-ltb (length buf) n h), w ∙ rw (t.is, t.size, le-ltb (length buf) n h))
