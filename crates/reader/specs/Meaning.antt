-- What an answer of the reader means: a token with the bytes of its parts (document 01, 'What a script emits': a part stands for the
-- bytes in it, a Max part for its chunks' bytes joined). Rests on token's tokens and wire's parts.
use Rattle.std.specs.Prelude.{ℕ, zero, suc, List, [], ◌∷◌, Some, None, Ok, Err}
use Rattle.wire.specs.Part.{part_bytes}
use Rattle.token.specs.Tokens as sent
use Rattle.cells.specs.Values.{value_meaning}
use Rattle.reader.specs.declared.Token.{Token}
use Rattle.reader.specs.declared.Token.TheVariants as read
use Rattle.reader.specs.Reader.{Answer}

-- what a token states, whose parts are those of a payload
abbrev pub token_meaning : List ℕ → Token → sent.Token sent.Value
token_meaning payload (read.ColMetadata n) = sent.metadata n
token_meaning payload (read.Column user flags code limit collation name) = sent.column user flags code limit (part_bytes payload collation) (part_bytes payload name)
token_meaning payload read.Row = sent.row
token_meaning payload (read.Cell v) = sent.cell (value_meaning payload v)
token_meaning payload (read.Done status command count) = sent.done status command count
token_meaning payload (read.Message kind n state class text server procedure line) =
    sent.message kind n state class (part_bytes payload text) (part_bytes payload server) (part_bytes payload procedure) line

-- what an answer means: a token, the end, or a refusal
pub data Meaning : Type 0 where
  token : sent.Token sent.Value → Meaning
  ended : Meaning
  refusal : ℕ → Meaning

abbrev pub meaning_of : List ℕ → Answer → Meaning
meaning_of payload (Ok (Some t)) = token (token_meaning payload t)
meaning_of payload (Ok None) = ended
meaning_of payload (Err n) = refusal n

-- the k-th of some tokens, from 0, and the end from then on
abbrev pub kth : List (sent.Token sent.Value) → ℕ → Meaning
kth [] k = ended
kth (t ∷ ts) zero = token t
kth (t ∷ ts) (suc k) = kth ts k
