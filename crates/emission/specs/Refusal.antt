-- Which scripts are refused, and by which number (document 01, 'Who causes which refusal'): 11 to 14 of the script, then, in what
-- is emitted only, the first of 15 and 16, then 17. Rests on Emission, token's names and script's verdict.
-- docs/FORMATS.md, 'Refusals', has it in words.
use Rattle.std.specs.Prelude.{ℕ, ◌≤◌, ◌≡◌, Bool, false, cond, ◌||◌, List, [], ◌∷◌, eqb, ltb, length}
use Rattle.refusals.specs.Numbers.{empty_chunk, name_too_long, result_too_long}
use Rattle.script.specs.Verdict.{verdict_of}
use Rattle.token.specs.Tokens.{Token, metadata, column, row, cell, done, message, EncodedCell, integer, no_integer, bounded, long, no_long}
use Rattle.token.specs.Names.{long_name, name_fault}
use Rattle.emission.specs.Emission.{Piece, token_piece, classification_piece, pieces, reply_of}

-- an empty chunk
abbrev pub any_empty : List (List ℕ) → Bool
any_empty [] = false
any_empty (c ∷ cs) = eqb (length c) 0 || any_empty cs

abbrev pub cell_fault : EncodedCell → ℕ
cell_fault (integer w n) = 0
cell_fault no_integer = 0
cell_fault (bounded x) = 0
cell_fault (long cs) = cond (any_empty cs) empty_chunk 0
cell_fault no_long = 0

-- 16 a column, server or procedure name over 255 units, 15 an empty chunk, or 0
abbrev pub token_fault : Token EncodedCell → ℕ
token_fault (metadata n) = 0
token_fault (column u f c l o name) = name_fault name
token_fault row = 0
token_fault (cell v) = cell_fault v
token_fault (done s c n) = 0
token_fault (message k n s c t server procedure l) = cond (long_name server || long_name procedure) name_too_long 0

abbrev pub piece_fault : Piece → ℕ
piece_fault (token_piece t) = token_fault t
piece_fault (classification_piece x) = 0

-- the first fault in what is emitted, or 0
unfoldable pub fault_in : List Piece → ℕ
fault_in [] = 0
fault_in (x ∷ ps) = cond (eqb (piece_fault x) 0) (fault_in ps) (piece_fault x)

-- the script's own refusal, 11 to 17, or 0
unfoldable pub refusal_of : List ℕ → ℕ
refusal_of s =
    cond (eqb (verdict_of s) 0)
    (cond (eqb (fault_in (pieces s)) 0) (cond (ltb 65535 (length (reply_of s))) result_too_long 0) (fault_in (pieces s)))
    (verdict_of s)

-- no other number refuses a script
abbrev pub RefusedByOwn : Type 0
RefusedByOwn = (s : List ℕ) → (refusal_of s ≡ 0 → ⊥) → (11 ≤ refusal_of s) × (refusal_of s ≤ 17)
