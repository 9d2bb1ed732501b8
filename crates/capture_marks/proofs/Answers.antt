-- What `marks` answers and leaves, from how many marks there are. Assumes nothing.
use Prim.Native.Nat.{ℕ, ◌<◌, ◌≤◌}
use mathlib.Core.Path.{◌≡◌, refl}
use mathlib.Core.List.{List}
use lib.Dec.{eqb}
use lib.ListN.{length}
use borrow.Author.Tests.{lt-ltb, le-ltb}
use Rattle.wire.specs.Over.{overwrite}
use Rattle.wire.proofs.Cases.{by-test, clash}
use Rattle.script.specs.Records.{records}
use Rattle.capture_marks.specs.Marks.{capture_fault, marks_of, counted_of, marks_in, slots_after}
use Rattle.std.specs.Prelude.{Result, Ok, Err}

module _ (s : List ℕ) where
  -- as many as there are
  pub count-is : {n : ℕ} → counted_of s ≡ Ok n → n ≡ length (marks_of s)
  unfolding counted_of
  count-is {n} e =
      by-test (eqb (capture_fault (records s)) 0)
      (λ t. let f : Ok (length (marks_of s)) ≡ Ok n = rw t at e in cc)
      (λ t. let f : Err (capture_fault (records s)) ≡ Ok n = rw t at e in clash (cc))

  module _ (out : List ℕ) where
    -- an answer, and what it leaves in the slots
    abbrev pub Answered : Result ℕ ℕ → List ℕ → Type 0
    Answered m left = (m ≡ marks_in s (length out)) × (left ≡ slots_after s out)

    pub answer-refused : {n : ℕ} → counted_of s ≡ Err n → Answered (Err n) out
    unfolding marks_in slots_after
    answer-refused e = rw e (refl, refl)

    module _ {n : ℕ} (e : counted_of s ≡ Ok n) where
      pub answer-few : length out < n → Answered (Err 20) out
      unfolding marks_in slots_after
      answer-few h = rw (e, lt-ltb (length out) n h) (refl, refl)

      pub answer-marks : {new : List ℕ} → n ≤ length out → new ≡ overwrite out 0 (marks_of s) → Answered (Ok n) new
      unfolding marks_in slots_after
      answer-marks h w = rw (e, le-ltb (length out) n h) (refl, w)
