-- How the exports of event labels end, by what reading and writing answered. Assumes nothing.
use Prim.Native.Nat.{ℕ, ◌≤◌}
use mathlib.Core.Path.{◌≡◌, sym}
use mathlib.Core.List.{List, []}
use Rattle.std.specs.Prelude.{Option, Some, None, Result, Ok, Err}
use lib.ListN.{length}
use native.Mathlib.Omega.{arith}
use borrow.Author.Tests.{lt-ltb, le-ltb}
use Rattle.wire.specs.Over.{overwrite}
use Rattle.wire.proofs.Cases.{split}
use Rattle.windows1252.specs.Labels.{Reading, read_of, Writing, written_of}
use Rattle.windows1252.specs.Answers.{read_with, buffer_with, read_in, text_left, written_with, buffer_after, written_in, value_left}
use Rattle.station.specs.Answer.{Outcome, answers, refuses}
use Rattle.station.specs.Labels.{null_label, read_outcome, read_label_call, written_outcome, write_label_call}
use Rattle.station.proofs.Ends.{ByCallee, lent-enough, lent-few, lent_any}

-- ---- reading

-- what an answer says of the export's outcome, of the lent buffer and of what is left in it
abbrev Read : Outcome → (buf left : List ℕ) → Result (Option ℕ) ℕ → Type 0
Read o buf left (Ok (Some n)) = (n ≤ length buf) × (t : List ℕ) × ByCallee o buf left (answers n t)
Read o buf left (Ok None) = ByCallee o buf left (answers null_label [])
Read o buf left (Err n) = ByCallee o buf left (refuses n)

reads : (x : Reading) (buf : List ℕ) → Read (read_outcome x) buf (buffer_with x buf) (read_with x (length buf))
unfolding overwrite
reads (Ok (Some t)) buf =
    split (length t) (length buf)
    (λ h. rw (le-ltb (length buf) (length t) h) (h, t, lent-enough (length t) buf t h))
    (λ h. rw (lt-ltb (length buf) (length t) h) (lent-few (length t) buf t h))
reads (Ok None) buf = lent-enough null_label buf [] (omega arith)
reads (Err n) buf = lent_any n buf

-- the same of what it answered and left
pub label-read : (v buf : List ℕ) {m : Result (Option ℕ) ℕ} {left : List ℕ} → read_in v (length buf) ≡ m → left ≡ text_left v buf → Read (read_label_call v) buf left m
unfolding read_in text_left read_label_call
label-read v buf e w = rw (sym e, w) (reads (read_of v) buf)

-- ---- writing

abbrev Wrote : Outcome → (buf left : List ℕ) → Result ℕ ℕ → Type 0
Wrote o buf left (Ok n) = (n ≤ length buf) × (v : List ℕ) × ByCallee o buf left (answers n v)
Wrote o buf left (Err n) = ByCallee o buf left (refuses n)

writes : (x : Writing) (buf : List ℕ) → Wrote (written_outcome x) buf (buffer_after x buf) (written_with x (length buf))
writes (Ok v) buf =
    split (length v) (length buf)
    (λ h. rw (le-ltb (length buf) (length v) h) (h, v, lent-enough (length v) buf v h))
    (λ h. rw (lt-ltb (length buf) (length v) h) (lent-few (length v) buf v h))
writes (Err n) buf = lent_any n buf

pub label-written : (t buf : List ℕ) {m : Result ℕ ℕ} {left : List ℕ} → written_in t (length buf) ≡ m → left ≡ value_left t buf
    → Wrote (write_label_call t) buf left m
unfolding written_in value_left write_label_call
label-written t buf e w = rw (sym e, w) (writes (written_of t) buf)
