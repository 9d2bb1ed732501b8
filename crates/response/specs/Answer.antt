-- What a builder answers and what it leaves in the lent buffer, the same for all of them (document 01, 'Who causes which
-- refusal'). Rests on wire's `overwrite`.
-- docs/FORMATS.md, 'Which one comes first', has it in words.
use Rattle.std.specs.Prelude.{ℕ, Result, Ok, Err, cond, List, [], ◌∷◌, length, eqb, ltb}
use Rattle.refusals.specs.Numbers.{buffer_too_short, result_too_long}
use Rattle.wire.specs.Over.{overwrite}

-- what is to be sent: the number that refuses it before its length counts, or 0, and its bytes, a packet or bare tokens
pub data Reply : Type 0 where
  reply : (fault : ℕ) (bytes : List ℕ) → Reply

-- the first number that is not 0, or 0
unfoldable pub first_of : List ℕ → ℕ
first_of [] = 0
first_of (n ∷ ns) = cond (eqb n 0) (first_of ns) n

-- a reply's refusal, or 0: its fault, then 17 over 65,535 bytes, then 20 where the lent buffer is too short
unfoldable pub refusal_of : ℕ → ℕ → ℕ → ℕ
refusal_of fault size room = first_of (fault ∷ cond (ltb 65535 size) result_too_long 0 ∷ cond (ltb room size) buffer_too_short 0 ∷ [])

-- the answer: how many bytes were written, or the refusal
unfoldable pub built_of : Reply → List ℕ → Result ℕ ℕ
built_of (reply fault bytes) buf =
    let n = refusal_of fault (length bytes) (length buf) in
    cond (eqb n 0) (Ok (length bytes)) (Err n)

-- the lent buffer, the reply's bytes first; a refusal leaves it
unfoldable pub buffer_of : Reply → List ℕ → List ℕ
buffer_of (reply fault bytes) buf =
    cond (eqb (refusal_of fault (length bytes) (length buf)) 0) (overwrite buf 0 bytes) buf
