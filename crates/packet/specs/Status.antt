-- The status byte of a packet header (MS-TDS 2.2.3.1.2): 01 end of message, 02 ignore. Rests on nothing.
use Rattle.std.specs.Prelude.{ℕ, ◌/◌, ◌%◌, Bool, eqb}

-- the bit of weight w in n
unfoldable pub has_bit : ℕ → ℕ → Bool
has_bit w n = eqb (n / w % 2) 1
