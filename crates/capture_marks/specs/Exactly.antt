-- The marks of a capture rise, each stands once, and they are the numbers of exactly those records that have four bytes or more and a
-- headers length of 0 to 3 (document 02, 2026-05). Rests on Marks.
use Rattle.std.specs.Prelude.{ℕ, zero, suc, ◌<◌}
use mathlib.Core.List.{List, [], ◌∷◌, Mem, Pairwise}
use Rattle.script.specs.Records.{Item, item, cut, records}
use Rattle.request.specs.Headers.{CannotBe}
use Rattle.capture_marks.specs.Marks.{marks_of}

-- the record of a number, from 0, is there, and its headers length cannot be
unfoldable pub MarkedAt : ℕ → List Item → Type 0
MarkedAt n [] = ⊥
MarkedAt n (cut ∷ rs) = ⊥
MarkedAt zero (item k body ∷ rs) = CannotBe body
MarkedAt (suc n) (item k body ∷ rs) = MarkedAt n rs

-- each mark is below all that follow it, so that it stands once
abbrev pub MarksRise : Type 0
MarksRise = (s : List ℕ) → Pairwise ◌<◌ (marks_of s)

abbrev pub ExactlyMarked : Type 0
ExactlyMarked = (s : List ℕ) (n : ℕ) → (Mem n (marks_of s) → MarkedAt n (records s)) × (MarkedAt n (records s) → Mem n (marks_of s))
