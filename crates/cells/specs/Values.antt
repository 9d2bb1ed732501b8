-- What a cell's value stands for (document 01, 'What a script emits': a part stands for the bytes in it, a Max part for its chunks'
-- bytes joined). Rests on token's values and wire's parts.
use Rattle.std.specs.Prelude.{ℕ, zero, suc, cond, List, [], ◌++◌, eqb, length, take, drop}
use Rattle.wire.specs.Le.{le_at}
use Rattle.wire.specs.Part.{part_bytes}
use Rattle.token.specs.Tokens as sent
use Rattle.cells.specs.declared.Value.{Value}
use Rattle.cells.specs.declared.Value.TheVariants as value

-- the bytes of chunks joined, up to a zero length; a chunk is four bytes or more, so that as many turns as bytes are enough
unfoldable pub chunk_bytes : ℕ → List ℕ → List ℕ
chunk_bytes zero s = []
chunk_bytes (suc turns) s =
    let n = le_at 4 s in
    let rest = take n (drop 4 s) ++ chunk_bytes turns (drop n (drop 4 s)) in
    cond (eqb n 0) [] rest

-- the same of chunks that begin at a place of some bytes
unfoldable pub joined_from : List ℕ → ℕ → List ℕ
joined_from bytes at = chunk_bytes (length bytes) (drop at bytes)

abbrev pub value_meaning : List ℕ → Value → sent.Value
value_meaning packet (value.Number n) = sent.number n
value_meaning packet (value.Part part) = sent.part (part_bytes packet part)
value_meaning packet (value.Max part) = sent.part (chunk_bytes part.len (part_bytes packet part))
value_meaning packet value.Null = sent.null
