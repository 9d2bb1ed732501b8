-- The reader's step and a run of steps (document 01, 'The reply reader'; document 02, 2026-02). Rests on ReadTokens, Positions and
-- payload's packets.
use Rattle.std.specs.Prelude.{ℕ, zero, suc, ◌-◌, cond, List, eqb, ltb, length, get_or, Option, Some, None, Result, Ok, Err}
use Rattle.refusals.specs.Numbers.{cut_short, inner_wrong}
use Rattle.reader.specs.declared.Position.{Position}
use Rattle.reader.specs.declared.Token.{Token}
use Rattle.reader.specs.declared.Token.TheVariants.{Cell}
use Rattle.payload.specs.Places.{Source, Place, Read, whole, refused, then}
use Rattle.payload.specs.Packets.{Packets, packets_in, source_of}
use Rattle.payload.specs.Positions as positions
use Rattle.payload.specs.Positions.{Placed, place_in, corner_of}
use Rattle.cells.specs.Cells.{cell_at}
use Rattle.reader.specs.ReadTokens.{column_at, token_at}
use Rattle.reader.specs.Positions.{stands, after}

-- what a step answers: a token, the end, or the number of a refusal
abbrev pub Answer : Type 0
Answer = Result (Option Token) ℕ

-- a step: its answer, and the position that it hands back
pub record StepOf : Type 0 where
  pub answer : Answer
  pub next : Position

-- a refusal hands back the same position
abbrev pub refused_at : Position → ℕ → StepOf
refused_at pos n = record { answer = Err n; next = pos }

-- what was read of some packets, as a step
abbrev pub settled : Packets → Position → Read Token → StepOf
settled ps pos (whole token at) = record { answer = Ok (Some token); next = after pos token (corner_of ps at) }
settled ps pos (refused n) = refused_at pos n

-- the next cell of the current row, of its column's type
unfoldable pub row_cell_at : Source → Place → Position → Read Token
row_cell_at src at pos =
    let i = pos.count - pos.cells_left in
    then (cell_at (get_or pos.types i 0) (get_or pos.limits i 0) src at) λ v to. whole (Cell v) to

-- the token at a place: a column or a cell that is to be read, else one by its first byte
unfoldable pub next_at : Source → Place → Position → Read Token
next_at src at pos =
    cond (ltb 0 pos.columns_left) (column_at src at)
    (cond (ltb 0 pos.cells_left) (row_cell_at src at pos)
    (token_at pos.count src at))

-- after the last DONE the payload must end: bytes left are 26, and a refusal of reading on is given. That of packets that end as they
-- should is 24, and is the end
abbrev pub ending : Source → Place → Answer
ending src at = cond (ltb at (length src.bytes)) (Err inner_wrong) (cond (eqb src.stop cut_short) (Ok None) (Err src.stop))

-- at the end the same position comes back
abbrev pub end_at : Source → Place → Position → StepOf
end_at src at pos = record { answer = ending src at; next = pos }

-- a step from a payload place: 24 for a position that is refused, then the end or the next token
abbrev pub step_from : Packets → Position → Placed → StepOf
step_from ps pos (positions.refused n) = refused_at pos n
step_from ps pos (positions.at n) =
    cond (stands pos)
    (cond pos.over (end_at (source_of ps) n pos) (settled ps pos (next_at (source_of ps) n pos)))
    (refused_at pos cut_short)

-- a step over lent packets: the refusals of the headers up to the position's packet, then of the position
unfoldable pub step_of : List ℕ → Position → StepOf
step_of lent pos = step_from (packets_in lent) pos (place_in (packets_in lent) pos.packet pos.place)

-- ---- a run: each step gets the position that the last one handed back

-- the position after n steps
unfoldable pub run_of : ℕ → List ℕ → Position → Position
run_of zero lent pos = pos
run_of (suc n) lent pos = run_of n lent (step_of lent pos).next

-- the n-th answer of a run, from 0
unfoldable pub answer_of : ℕ → List ℕ → Position → Answer
answer_of n lent pos = (step_of lent (run_of n lent pos)).answer
