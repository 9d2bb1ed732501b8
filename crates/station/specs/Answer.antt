-- What an export answers: a number and the values of its first slots, or a refusal. Rests on wire's `overwrite`.
use Rattle.std.specs.Prelude.{ℕ, Result, Ok, Err, cond, List, [], ◌∷◌, length, ltb, ℤ, pos, neg_ℤ}
use Rattle.refusals.specs.Numbers.{buffer_too_short}
use Rattle.wire.specs.Over.{overwrite}
use Rattle.wire.specs.declared.Part.{Part}

-- a number with the values of the first slots, or the number of a refusal
pub data Outcome : Type 0 where
  answers : (number : ℕ) (slots : List ℕ) → Outcome
  refuses : (number : ℕ) → Outcome

-- a number with a part's start and length
abbrev pub answers_part : ℕ → Part → Outcome
answers_part n p = answers n (p.start ∷ p.len ∷ [])

-- a count that is told without slots, or a refusal
abbrev pub built_outcome : Result ℕ ℕ → Outcome
built_outcome (Ok n) = answers n []
built_outcome (Err n) = refuses n

-- as an i64: the number, or -N of refusal N
unfoldable pub number_of : Outcome → ℤ
number_of (answers n xs) = pos n
number_of (refuses n) = neg_ℤ (pos n)

-- with slots lent: 20 where they are too few, after all other refusals
unfoldable pub lent : Outcome → List ℕ → Outcome
lent (answers n xs) out = cond (ltb (length out) (length xs)) (refuses buffer_too_short) (answers n xs)
lent (refuses n) out = refuses n

-- the lent slots, the outcome's values first; a refusal leaves them
unfoldable pub filled : Outcome → List ℕ → List ℕ
filled (answers n xs) out = overwrite out 0 xs
filled (refuses n) out = out

-- an export's answer where out is lent
unfoldable pub answer_of : Outcome → List ℕ → ℤ
answer_of o out = number_of (lent o out)

-- what stands in out afterwards
unfoldable pub slots_of : Outcome → List ℕ → List ℕ
slots_of o out = filled (lent o out) out
