-- The length of a script's reply. Rests on Emission and Refusal.
use Rattle.std.specs.Prelude.{ℕ, cond, List, eqb, length, Result, Ok, Err}
use Rattle.emission.specs.Emission.{reply_of}
use Rattle.emission.specs.Refusal.{refusal_of}

-- the exact length of a script's reply, or its refusal
unfoldable pub measure_of : List ℕ → Result ℕ ℕ
measure_of s = cond (eqb (refusal_of s) 0) (Ok (length (reply_of s))) (Err (refusal_of s))
