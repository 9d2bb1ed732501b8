-- Captures with what they answer, smallest inputs first. Rests on Marks.
use Rattle.std.specs.Prelude.{◌≡◌, List, [], ◌∷◌, ◌++◌, map, ℕ, length, Result, Ok, Err}
use Rattle.wire.specs.Be.{be}
use Rattle.capture_marks.specs.Marks.{marks_in, slots_after}

-- a record of a body of headers length 0
abbrev marked : List ℕ
marked = be 10 0x04000000_2100_00000000

-- a capture, the slots that are lent, the answer, and the slots afterwards
unfoldable pub worked : List (List ℕ × List ℕ × Result ℕ ℕ × List ℕ)
worked =
    -- no record; a headers length of 0, with a slot, with more, and with none
    ([], 9 ∷ [], Ok 0, 9 ∷ [])
    ∷ (marked, 9 ∷ [], Ok 1, 0 ∷ [])
    ∷ (marked, 9 ∷ 9 ∷ [], Ok 1, 0 ∷ 9 ∷ [])
    ∷ (marked, [], Err 20, [])
    -- a body of three bytes has no headers length; 4 can be, 3 cannot
    ∷ (be 9 0x03000000_2100_000000, 9 ∷ [], Ok 0, 9 ∷ [])
    ∷ (be 20 0x04000000_2100_04000000_04000000_2100_03000000, 9 ∷ [], Ok 1, 1 ∷ [])
    -- numbers count all records
    ∷ (marked ++ (be 6 0x00000000_2100 ++ marked), 9 ∷ 9 ∷ [], Ok 2, 0 ∷ 2 ∷ [])
    -- a record that is cut, one of another kind, one that is both
    ∷ (marked ++ be 1 0x00, 9 ∷ [], Err 11, 9 ∷ [])
    ∷ (marked ++ be 6 0x00000000_2200, 9 ∷ [], Err 12, 9 ∷ [])
    ∷ (be 6 0x01000000_2200, 9 ∷ [], Err 11, 9 ∷ [])
    ∷ []

abbrev pub Worked : Type 0
Worked =
    map {B = Result ℕ ℕ × List ℕ} (λ (row : List ℕ × List ℕ × Result ℕ ℕ × List ℕ). (marks_in row.0 (length row.1), slots_after row.0 row.1)) worked
    ≡ map {B = Result ℕ ℕ × List ℕ} (λ (row : List ℕ × List ℕ × Result ℕ ℕ × List ℕ). (row.2, row.3)) worked
