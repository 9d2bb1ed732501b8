-- A position taken apart, as the code hands it on: the spot, and what a step asks of the types that are held. Rests on Positions and
-- Reader.
use Rattle.std.specs.Prelude.{◌≡◌, Bool, cond, ◌&&◌, List, [], ℕ, ◌+◌, ◌-◌, leb, ltb, get_or, Option, Some, None, Result, Ok, Err}
use Rattle.refusals.specs.Numbers.{cut_short}
use Rattle.reader.specs.declared.Got.{Got}
use Rattle.reader.specs.declared.HeldTypes.{HeldTypes}
use Rattle.reader.specs.declared.Position.{Position}
use Rattle.reader.specs.declared.Spot.{Spot}
use Rattle.reader.specs.declared.Token.{Token}
use Rattle.reader.specs.declared.Token.TheVariants.{Cell}
use Rattle.cells.specs.declared.Value.{Value}
use Rattle.payload.specs.declared.frames.Frame.{Frame}
use Rattle.payload.specs.Places.{Source, Place, Read, whole, refused, then}
use Rattle.payload.specs.Packets.{Packets, packets_in, source_of}
use Rattle.payload.specs.Positions as positions
use Rattle.payload.specs.Positions.{Placed, place_in, corner_of}
use Rattle.cells.specs.Cells.{cell_at}
use Rattle.reader.specs.ReadTokens.{column_at, token_at}
use Rattle.reader.specs.Positions.{held, after}
use Rattle.reader.specs.Reader.{Answer, StepOf, refused_at, ending, step_of}

-- the position at a spot that holds types
abbrev pub holding : Spot → List ℕ → List ℕ → Position
holding at types limits =
    record { packet = at.packet; place = at.place; count = at.count; types = types; limits = limits; columns_left = at.columns_left; cells_left = at.cells_left; over = at.over }

abbrev pub spot_of : Position → Spot
spot_of pos = record { packet = pos.packet; place = pos.place; count = pos.count; columns_left = pos.columns_left; cells_left = pos.cells_left; over = pos.over }

-- what a step asks of the types that a position holds: whether those of the columns read are column types, and the type of the column
-- whose cell is next
abbrev pub held_in : Position → HeldTypes
held_in pos =
    let i = pos.count - pos.cells_left in
    record { sound = held (pos.count - pos.columns_left) pos.types pos.limits; code = get_or pos.types i 0; limit = get_or pos.limits i 0 }

-- the spot after a token, which goes by no type that is held
abbrev pub spot_after : Spot → Token → ℕ → ℕ → Spot
spot_after at token number place = spot_of (after (holding at [] []) token (record { packet = number; place = place }))

-- what is found: a token with the packet and the place after it, the end, or the number of a refusal
abbrev pub Found : Type 0
Found = Result (Option Got) ℕ

-- what was found at a position, as a step
abbrev pub step_by : Position → Found → StepOf
step_by pos (Ok (Some got)) = record { answer = Ok (Some got.token); next = after pos got.token (record { packet = got.packet; place = got.place }) }
step_by pos (Ok None) = record { answer = Ok None; next = pos }
step_by pos (Err n) = refused_at pos n

-- a token after which the reader stands at a payload place of a frame
abbrev pub got_in : Frame → Token → ℕ → Got
got_in f token n = record { token = token; packet = f.number; place = 8 + (n - f.base) }

-- the end as it is found
abbrev pub got_end : Answer → Found
got_end (Ok (Some t)) = Ok None
got_end (Ok None) = Ok None
got_end (Err n) = Err n

-- a cell as a token
abbrev pub cell_token : Read Value → Read Token
cell_token read = then read λ v at. whole (Cell v) at

-- whether a step goes on from a spot, where the types held are sound
abbrev pub stands_by : Spot → Bool → Bool
stands_by at sound = leb at.count 128 && leb at.columns_left at.count && leb at.cells_left at.count && sound

-- the token at a payload place
abbrev pub next_by : Source → Place → Spot → HeldTypes → Read Token
next_by src n at held =
    cond (ltb 0 at.columns_left) (column_at src n)
    (cond (ltb 0 at.cells_left) (cell_token (cell_at held.code held.limit src n))
    (token_at at.count src n))

-- what was read of some packets
abbrev pub got_read : Packets → Read Token → Found
got_read ps (whole token n) = let to = corner_of ps n in Ok (Some (record { token = token; packet = to.packet; place = to.place }))
got_read ps (refused n) = Err n

-- what is found from a payload place, as `step_from` has it
abbrev pub got_from : Packets → Spot → HeldTypes → Placed → Found
got_from ps at held (positions.refused n) = Err n
got_from ps at held (positions.at n) =
    cond (stands_by at held.sound)
    (cond at.over (got_end (ending (source_of ps) n)) (got_read ps (next_by (source_of ps) n at held)))
    (Err cut_short)

-- what is found from a spot over lent packets
unfoldable pub got_of : List ℕ → Spot → HeldTypes → Found
got_of lent at held = got_from (packets_in lent) at held (place_in (packets_in lent) at.packet at.place)

-- a step of a position is what is found from its spot and the types that it holds
abbrev pub GotStep : Type 0
GotStep = (lent : List ℕ) (pos : Position) → step_by pos (got_of lent (spot_of pos) (held_in pos)) ≡ step_of lent pos
