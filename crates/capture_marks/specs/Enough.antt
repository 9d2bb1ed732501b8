-- How many slots are enough for the marks of a capture, whatever it holds. Rests on Marks.
use Rattle.std.specs.Prelude.{ℕ, ◌*◌, ◌/◌, ◌≤◌, ◌≡◌, List, length}
use Rattle.capture_marks.specs.Marks.{marks_of, counted_of, marks_in}

-- a marked record has ten bytes or more, the six of its head among them
abbrev pub TenBytesEach : Type 0
TenBytesEach = (s : List ℕ) → length (marks_of s) * 10 ≤ length s

-- so a tenth of the capture's bytes are slots enough: they are never too few
abbrev pub TenthEnough : Type 0
TenthEnough = (s : List ℕ) (room : ℕ) → length s / 10 ≤ room → marks_in s room ≡ counted_of s
