-- Even numbers: of a text's bytes, of its length. Rests on nothing.
use Rattle.std.specs.Prelude.{ℕ, ◌%◌, Bool, eqb}

-- a number that two divides
abbrev pub even : ℕ → Bool
even n = eqb (n % 2) 0
