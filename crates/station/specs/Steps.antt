-- The reply reader for C: a position as slots, a token as slots, and what the two calls answer. Rests on the definitions of `reader`.
use Rattle.std.specs.Prelude.{ℕ, zero, suc, ◌+◌, ◌-◌, ◌*◌, ◌/◌, ◌%◌, ◌^◌, cond, ◌||◌, List, [], ◌∷◌, eqb, leb, ltb, length, get_or, set, replicate, ℤ, pos, negsuc, Some, None, Ok, Err}
use Rattle.refusals.specs.Numbers.{buffer_too_short}
use Rattle.wire.specs.Over.{overwrite}
use Rattle.cells.specs.declared.Value.{Value}
use Rattle.cells.specs.declared.Value.TheVariants as value
use Rattle.reader.specs.declared.Position.{Position}
use Rattle.reader.specs.declared.Spot.{Spot}
use Rattle.reader.specs.declared.Token.{Token}
use Rattle.reader.specs.declared.Token.TheVariants.{ColMetadata, Column, Row, Cell, Done, Message}
use Rattle.reader.specs.Reader.{Answer, step_of}
use Rattle.reader.specs.Spots.{spot_of}
use Rattle.station.specs.Answer.{Outcome, answers, refuses}

-- ---- a position as 134 slots: place in its packet, columns of the set, columns left, cells left, 1 where the last DONE was read, else 0,
-- the packet from 1; then for each of 128 columns its type's code * 65536 + its length. A slot that is not there counts 0

-- the type of a column in its slot: one of 2^24 or more stands for no type, which is code 0
unfoldable pub code_of : ℕ → ℕ
code_of slot = cond (ltb slot (2 ^ 24)) (slot / 65536) 0

unfoldable pub length_of : ℕ → ℕ
length_of slot = slot % 65536

unfoldable pub type_slot : (code limit : ℕ) → ℕ
type_slot code limit = code * 65536 + limit

-- 128 values, the first n each from its column's slot, the others 0
unfoldable pub first_of : (ℕ → ℕ) → ℕ → List ℕ → List ℕ
first_of value zero slots = replicate 128 0
first_of value (suc n) slots = set (first_of value n slots) n (value (get_or slots (6 + n) 0))

-- the place; 0, which lies in the header, so that a step answers 24, where slot 4 is neither 0 nor 1
unfoldable pub place_of : List ℕ → ℕ
place_of slots = cond (leb (get_or slots 4 0) 1) (get_or slots 0 0) 0

-- the position that slots stand for, whatever they are
unfoldable pub position_of : List ℕ → Position
position_of slots = record {
  packet = get_or slots 5 0;
  place = place_of slots;
  count = get_or slots 1 0;
  types = first_of code_of 128 slots;
  limits = first_of length_of 128 slots;
  columns_left = get_or slots 2 0;
  cells_left = get_or slots 3 0;
  over = eqb (get_or slots 4 0) 1;
}

-- the slots of a position that has read nothing
abbrev pub fresh_slots : List ℕ
fresh_slots = 8 ∷ 0 ∷ 0 ∷ 0 ∷ 0 ∷ 1 ∷ replicate 128 0

unfoldable pub fresh_call : Outcome
fresh_call = answers 0 fresh_slots

-- ---- a token as 11 slots: its kind, its fields, and 0 in the others

-- the 64 bits of a number, in two's complement
unfoldable pub bits_of : ℤ → ℕ
bits_of (pos n) = n
bits_of (negsuc n) = 2 ^ 64 - suc n

-- the slots of a token that has no more than a kind and three fields
abbrev pub four_slots : (kind x y z : ℕ) → List ℕ
four_slots kind x y z = kind ∷ x ∷ y ∷ z ∷ 0 ∷ 0 ∷ 0 ∷ 0 ∷ 0 ∷ 0 ∷ 0 ∷ []

-- a cell: its case (0 null, 1 a number, 2 a part, 3 chunks) and its value
abbrev pub cell_slots : Value → List ℕ
cell_slots value.Null = four_slots 2 0 0 0
cell_slots (value.Number n) = four_slots 2 1 (bits_of n) 0
cell_slots (value.Part p) = four_slots 2 2 p.start p.len
cell_slots (value.Max p) = four_slots 2 3 p.start p.len

abbrev pub token_slots : Token → List ℕ
token_slots (ColMetadata n) = four_slots 0x81 n 0 0
token_slots (Column user flags code limit collation name) =
    1 ∷ user ∷ flags ∷ code ∷ limit ∷ collation.start ∷ collation.len ∷ name.start ∷ name.len ∷ 0 ∷ 0 ∷ []
token_slots Row = four_slots 0xD1 0 0 0
token_slots (Cell v) = cell_slots v
token_slots (Done status command count) = four_slots 0xFD status command count
token_slots (Message kind number state class text server procedure line) =
    kind ∷ number ∷ state ∷ class ∷ line ∷ text.start ∷ text.len ∷ server.start ∷ server.len ∷ procedure.start ∷ procedure.len ∷ []

-- ---- a step

-- 1 with the token's slots, where room slots are lent for the position: 20 where they are too few. 0 at the end, and no slot is asked for
abbrev pub step_outcome : (room : ℕ) → Answer → Outcome
step_outcome room (Ok (Some t)) = cond (ltb room 134) (refuses buffer_too_short) (answers 1 (token_slots t))
step_outcome room (Ok None) = answers 0 []
step_outcome room (Err n) = refuses n

unfoldable pub step_call : (packets position : List ℕ) → Outcome
step_call packets position = step_outcome (length position) (step_of packets (position_of position)).answer

-- the slots of a position but its columns' types
abbrev pub spot_slots : Spot → List ℕ
spot_slots p = p.place ∷ p.count ∷ p.columns_left ∷ p.cells_left ∷ cond p.over 1 0 ∷ p.packet ∷ []

-- slots after a token, which was read when n columns of its set were: a column's type stands in its slot
unfoldable pub with_type : ℕ → Token → List ℕ → List ℕ
with_type n (ColMetadata count) slots = slots
with_type n (Column user flags code limit collation name) slots = set slots (6 + n) (type_slot code limit)
with_type n Row slots = slots
with_type n (Cell v) slots = slots
with_type n (Done status command count) slots = slots
with_type n (Message kind number state class text server procedure line) slots = slots

-- what stands in the slots lent for a position after a step: after a token those of the next position, where enough slots of it and of
-- out are lent; else they are as they were
unfoldable pub slots_after : ℕ → Answer → (next : Spot) → (position out : List ℕ) → List ℕ
slots_after n (Ok (Some t)) next position out =
    cond (ltb (length position) 134 || ltb (length out) 11) position (with_type n t (overwrite position 0 (spot_slots next)))
slots_after n (Ok None) next position out = position
slots_after n (Err r) next position out = position

unfoldable pub position_left : (packets position out : List ℕ) → List ℕ
position_left packets position out =
    let p = position_of position in
    let step = step_of packets p in
    slots_after (p.count - p.columns_left) step.answer (spot_of step.next) position out
