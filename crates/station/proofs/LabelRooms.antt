-- How long labels are: bytes that are enough for each, and that no text has the number of null. Assumes nothing.
use Prim.Native.Nat.{ℕ, zero, suc, ◌+◌, ◌*◌, ◌≤◌}
use mathlib.Core.Path.{◌≡◌, refl, sym, ap, ◌∙◌}
use mathlib.Core.List.{List}
use Rattle.std.specs.Prelude.{Some, None, Ok, Err}
use native.Mathlib.Omega.{arith}
use lib.Dec.{eqb}
use lib.IntN.{pos}
use lib.ListN.{length, take, drop, length-append, length-drop, take-append-drop}
use borrow.Author.Tests.{lt-ltb, le-ltb}
use Rattle.wire.specs.Le.{le_at}
use Rattle.wire.proofs.Cases.{split, by-test, clash}
use Rattle.text.specs.Units.{units_of}
use Rattle.cells.specs.Values.{chunk_bytes, joined_from}
use Rattle.windows1252.specs.Table.{bytes_of}
use Rattle.windows1252.specs.Labels.{Reading, chunks_joined, read_of, Writing, value_bytes, written_of}
use Rattle.windows1252.specs.Code.{value_size}
use Rattle.windows1252.proofs.Texts.{length-text, length-bytes}
use Rattle.windows1252.proofs.CodeReads.{read-text}
use Rattle.windows1252.proofs.CodeWrites.{accepted, value-length}
use Rattle.station.specs.Answer.{number_of, lent, answer_of}
use Rattle.station.specs.Labels.{null_label, read_outcome, read_label_call, written_outcome, write_label_call, LabelsEnough, NullAlone}

-- ---- lengths

-- chunks hold no more bytes than they stand in
chunks-short : (turns : ℕ) (l : List ℕ) → length (chunk_bytes turns l) ≤ length l
unfolding chunk_bytes
chunks-short zero l = omega arith
chunks-short (suc turns) l =
    let n = le_at 4 l in
    let rest = drop 4 l in
    let whole : length (take n rest) + length (drop n rest) ≡ length rest =
    sym (length-append (take n rest) (drop n rest)) ∙ ap length (take-append-drop n rest) in
    by-test (eqb n 0) (λ t. rw t (omega arith))
    (λ t. rw (t, length-append (take n rest) (chunk_bytes turns (drop n rest)))
    (omega (arith, whole, length-drop 4 l, chunks-short turns (drop n rest))))

-- a text has two bytes for each of them
module _ (v : List ℕ) {t : List ℕ} (e : read_of v ≡ Ok (Some t)) where
  text-long : length t ≡ 2 * length (chunks_joined v)
  text-long = ap length (read-text v e).0 ∙ length-text (chunks_joined v)

  text-short : length t ≤ 2 * length v
  unfolding chunks_joined joined_from
  text-short = omega (arith, text-long, chunks-short (length v) (drop 8 v), length-drop 8 v)

  text-most : length t ≤ 131070
  text-most = omega (arith, text-long, (read-text v e).1)

size-most : (n : ℕ) → n ≤ 65535 → value_size n ≤ 65551
size-most n h = by-test (eqb n 0) (λ t. rw t (omega arith)) (λ t. rw t (omega arith))

value-most : (t : List ℕ) {v : List ℕ} → written_of t ≡ Ok v → length v ≤ 65551
value-most t {v} e =
    let ok = accepted t (rw e) in
    let bs = bytes_of (units_of t) in
    let same : v ≡ value_bytes bs = let q = sym e ∙ ok.is in cc in
    rw (same, value-length bs, length-bytes (units_of t)) (size-most (length (units_of t)) ok.few)

-- ---- enough

read-enough : (x : Reading) (buf : List ℕ) → ((t : List ℕ) → x ≡ Ok (Some t) → length t ≤ length buf) → answer_of (read_outcome x) buf ≡ number_of (read_outcome x)
unfolding answer_of lent
read-enough (Ok (Some t)) buf h = rw (le-ltb (length buf) (length t) (h t refl))
read-enough (Ok None) buf h = rw (le-ltb (length buf) 0 (omega arith))
read-enough (Err n) buf h = refl

write-enough : (x : Writing) (buf : List ℕ) → ((v : List ℕ) → x ≡ Ok v → length v ≤ length buf)
    → answer_of (written_outcome x) buf ≡ number_of (written_outcome x)
unfolding answer_of lent
write-enough (Ok v) buf h = rw (le-ltb (length buf) (length v) (h v refl))
write-enough (Err n) buf h = refl

pub labels-enough : LabelsEnough
unfolding read_label_call write_label_call
labels-enough = (
  λ v buf h. read-enough (read_of v) buf (λ t e. omega (arith, h, text-short v e)),
  λ v buf h. read-enough (read_of v) buf (λ t e. omega (arith, h, text-most v e)),
  λ t buf h. write-enough (written_of t) buf (λ v e. omega (arith, h, value-most t e)),
)

-- ---- null

null-by : (x : Reading) (buf : List ℕ) → ((t : List ℕ) → x ≡ Ok (Some t) → length t ≤ 131070) → answer_of (read_outcome x) buf ≡ pos null_label → x ≡ Ok None
unfolding answer_of lent number_of
null-by (Ok (Some t)) buf h e =
    split (length t) (length buf)
    (λ g. let q = rw (le-ltb (length buf) (length t) g) at e in let long : length t ≡ null_label = cc in absurd (omega (arith, long, h t refl)))
    (λ g. let q = rw (lt-ltb (length buf) (length t) g) at e in clash (cc))
null-by (Ok None) buf h e = refl
null-by (Err zero) buf h e = let q : zero ≡ null_label = cc in absurd (omega (arith, q))
null-by (Err (suc n)) buf h e = clash (cc)

pub null-alone : NullAlone
unfolding read_label_call
null-alone v buf e = null-by (read_of v) buf (λ t q. text-most v q) e
