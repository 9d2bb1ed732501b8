-- What the program writes of its input. Rests on the reply builder's answer.
use Rattle.std.specs.Prelude.{ℕ, Result, Ok, Err, cond, List, [], ◌∷◌, ◌++◌, length, leb, codes, decimal}
use Rattle.refusals.specs.Numbers.{input_too_long}
use Rattle.emission.specs.Emission.{reply_of}
use Rattle.result.specs.Built.{built_of}

-- the line `refused N`
abbrev pub line_of : ℕ → List ℕ
line_of n = codes "refused " ++ decimal n ++ 10 ∷ []

-- the reply that was built, or the line of the refusal
abbrev pub told : Result ℕ ℕ → List ℕ → List ℕ
told (Ok n) reply = reply
told (Err f) reply = line_of f

-- of a script its reply packet, or the line of its refusal
unfoldable pub reply_to : List ℕ → List ℕ
reply_to s = told (built_of s 65535) (reply_of s)

-- of an input of 65,536 bytes or fewer what is written of it as a script, and else the line of refusal 18
unfoldable pub answer_to : List ℕ → List ℕ
answer_to s = cond (leb (length s) 65536) (reply_to s) (line_of input_too_long)
