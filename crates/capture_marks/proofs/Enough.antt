-- A marked record has ten bytes or more, so a tenth of a capture's bytes are slots enough. Assumes nothing.
use Prim.Native.Nat.{ℕ, zero, suc, ◌+◌, ◌*◌, ◌≤◌}
use mathlib.Core.List.{List, [], ◌∷◌}
use native.Mathlib.Nat.{le_of_suc-le-suc, not-suc-le-zero}
use native.Mathlib.Omega.{arith}
use lib.Dec.{eqb, leb}
use lib.ListN.{length, take, length-append}
use lib.Seq.{length-take-le}
use borrow.Author.Tests.{leb-true, le-ltb}
use Rattle.wire.proofs.Cases.{by-test}
use Rattle.wire.specs.Le.{le_at}
use Rattle.script.specs.Records.{parse, records}
use Rattle.capture_marks.specs.Marks.{is_marked, capture_fault, mark_of, marks_from, marks_of, counted_of, marks_in}
use Rattle.capture_marks.specs.Enough.{TenBytesEach, TenthEnough}
use Rattle.capture_marks.proofs.Exactly.{marked-cannot}

-- a record has one mark at most, and none where its body is under four bytes
one : (i : ℕ) (body : List ℕ) → (length (mark_of i body) ≤ 1) × (length (mark_of i body) * 4 ≤ length body)
one i body =
    by-test (is_marked body)
    (λ e. let k = marked-cannot body e in rw e (omega arith, omega (arith, k.0)))
    (λ e. rw e (omega arith, omega arith))

-- the records of some bytes, of which the first n are passed over, have a mark for each ten of the others at most
marks-few : (i n : ℕ) (l : List ℕ) → n ≤ length l → length (marks_from i (parse n l)) * 10 + n ≤ length l
unfolding parse marks_from
marks-few i (suc n) [] h = absurd (not-suc-le-zero h)
marks-few i (suc n) (b ∷ l) h = let rest = marks-few i n l (le_of_suc-le-suc h) in omega arith
marks-few i zero [] h = omega arith
marks-few i zero (a ∷ []) h = omega arith
marks-few i zero (a ∷ b ∷ []) h = omega arith
marks-few i zero (a ∷ b ∷ c ∷ []) h = omega arith
marks-few i zero (a ∷ b ∷ c ∷ d ∷ []) h = omega arith
marks-few i zero (a ∷ b ∷ c ∷ d ∷ e ∷ []) h = omega arith
marks-few i zero (a ∷ b ∷ c ∷ d ∷ e ∷ f ∷ l) h =
    let n = le_at 4 (a ∷ b ∷ c ∷ d ∷ []) in
    by-test (leb n (length l))
    (λ t.
    let k = leb-true n (length l) t in
    let body = take n l in
    let rest = marks-few (suc i) n l k in
    rw t (omega (arith, rest, one i body, length-take-le n l k, length-append (mark_of i body) (marks_from (suc i) (parse n l)))))
    (λ t. rw t (omega arith))

pub ten-bytes-each : TenBytesEach
unfolding marks_of records
ten-bytes-each s = omega (arith, marks-few 0 0 s (omega arith))

pub tenth-enough : TenthEnough
unfolding marks_in counted_of
tenth-enough s room h =
    by-test (eqb (capture_fault (records s)) 0)
    (λ t. rw (t, le-ltb room (length (marks_of s)) (omega (arith, ten-bytes-each s, h))))
    (λ t. rw t)
