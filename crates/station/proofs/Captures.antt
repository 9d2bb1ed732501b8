-- The marks of a capture in lent slots: what `marks` answers and leaves is what the export promises, and how many slots are enough.
-- Assumes nothing.
use Prim.Native.Nat.{ℕ, ◌≤◌}
use mathlib.Core.Path.{◌≡◌, sym}
use mathlib.Core.List.{List}
use native.Mathlib.Omega.{arith}
use lib.Dec.{eqb}
use lib.ListN.{length}
use borrow.Author.Tests.{lt-ltb, le-ltb}
use Rattle.wire.proofs.Cases.{split, by-test}
use Rattle.script.specs.Records.{records}
use Rattle.capture_marks.specs.Marks.{capture_fault, marks_of, counted_of, marks_in, slots_after}
use Rattle.std.specs.Prelude.{Result, Ok, Err}
use Rattle.capture_marks.proofs.Enough.{ten-bytes-each}
use Rattle.station.specs.Answer.{answers, refuses, lent, answer_of}
use Rattle.station.specs.Requests.{capture_call, TenthEnough}
use Rattle.station.proofs.Ends.{ByCallee, lent-enough, lent-few, lent_any}

-- what an answer of `marks` says of the lent slots and of what is left in them
abbrev Said : (s out left : List ℕ) → Result ℕ ℕ → Type 0
Said s out left (Ok n) = (n ≤ length out) × ByCallee (capture_call s) out left (answers n (marks_of s))
Said s out left (Err n) = ByCallee (capture_call s) out left (refuses n)

said : (s out : List ℕ) → Said s out (slots_after s out) (marks_in s (length out))
unfolding marks_in counted_of slots_after capture_call
said s out =
    let ms = marks_of s in
    by-test (eqb (capture_fault (records s)) 0)
    (λ e.
    split (length ms) (length out)
    (λ h. rw (e, le-ltb (length out) (length ms) h) (h, rw e (lent-enough (length ms) out ms h)))
    (λ h. rw (e, lt-ltb (length out) (length ms) h) (rw e (lent-few (length ms) out ms h))))
    (λ e. rw e (rw e (lent_any (capture_fault (records s)) out)))

-- the same of what it answered and left
pub marked : (s out : List ℕ) {m : Result ℕ ℕ} {left : List ℕ} → marks_in s (length out) ≡ m → left ≡ slots_after s out → Said s out left m
marked s out e w = rw (sym e, w) (said s out)

pub tenth-enough : TenthEnough
unfolding answer_of capture_call counted_of lent
tenth-enough s out h =
    by-test (eqb (capture_fault (records s)) 0)
    (λ e. rw (e, le-ltb (length out) (length (marks_of s)) (omega (arith, ten-bytes-each s, h))))
    (λ e. rw e)
