-- Calls with what they answer, smallest inputs first: each refusal by each of its causes, and each kind of answer. Rests on Rpc.
use Rattle.std.specs.Prelude.{◌≡◌, List, [], ◌∷◌, ◌++◌, map, ℕ, ◌-◌, pos, Option, Some, None, Result, Ok, Err}
use Rattle.wire.specs.Be.{be}
use Rattle.wire.specs.declared.Part.{Part}
use Rattle.cells.specs.declared.Value.{Value}
use Rattle.cells.specs.declared.Value.TheVariants as value
use Rattle.rpc.specs.declared.Procedure.{Procedure}
use Rattle.rpc.specs.declared.Procedure.TheVariants.{Name, Number}
use Rattle.rpc.specs.declared.Parameter.{Parameter}
use Rattle.rpc.specs.declared.Call.{Call}
use Rattle.rpc.specs.Rpc.{rpc_of}

-- a part by its start and its length
abbrev part : ℕ → ℕ → Part
part start len = record { start = start; len = len }

-- a call with flags 0
abbrev call : Procedure → Option Part → Option Parameter → Result Call ℕ
call procedure statement asked = Ok (record { procedure = procedure; flags = 0; asked = asked; statement = statement })

-- an integer parameter without a name: its status, the length of its type, the place after that, which is where its collation would
-- stand, and its value
abbrev integer : (status limit at : ℕ) → Value → Option Parameter
integer status limit at value = Some (record {
  name = part (at - 3) 0;
  status = status;
  info = record { code = 0x26; limit = limit; collation = part at 0 };
  value = value;
})

-- sp_executesql with some bytes for parameters, which stand from place 10 on
abbrev executed : List ℕ → List ℕ
executed parameters = be 10 0x04000000_FFFF_0A00_0000 ++ parameters

-- the number that is asked for, the request, and the answer
unfoldable pub worked : List (ℕ × List ℕ × Result Call ℕ)
worked =
    -- the head cut: in the headers, the name's length, the flags, the number
    (0, [], Err 29)
    ∷ (0, be 4 0x04000000, Err 29)
    ∷ (0, be 4 0x05000000, Err 29)
    ∷ (0, be 6 0x04000000_0000, Err 29)
    ∷ (0, be 7 0x04000000_FFFF_0A, Err 29)
    -- a headers length that cannot be, whatever follows; of three bytes the length is cut
    ∷ (0, be 4 0x00000000, Err 35)
    ∷ (0, be 4 0x03000000, Err 35)
    ∷ (0, be 8 0x03000000_0000_0000, Err 35)
    ∷ (0, be 3 0x000000, Err 29)
    -- an empty name and no parameter
    ∷ (0, be 8 0x04000000_0000_0000, call (Name (part 6 0)) None None)
    -- sp_executesql without a parameter; where a second call would follow
    ∷ (0, executed [], Err 30)
    ∷ (0, executed (be 1 0xFF), Err 31)
    ∷ (0, be 11 0x04000000_FFFF_0B00_0000_FE, Err 31)
    -- an encrypted parameter, an unknown type, a type with a wrong length, the same cut, and a value of a wrong length
    ∷ (0, executed (be 2 0x00_08), Err 31)
    ∷ (0, executed (be 3 0x00_00_68), Err 31)
    ∷ (0, executed (be 4 0x00_00_26_03), Err 31)
    ∷ (0, executed (be 3 0x00_00_26), Err 30)
    ∷ (0, executed (be 5 0x00_00_26_04_07), Err 30)
    -- an integer, which is asked for and not, and null
    ∷ (0, executed (be 9 0x00_00_26_04_04_07000000), call (Number 10) (Some (part 15 4)) (integer 0 4 14 (value.Number (pos 7))))
    ∷ (1, executed (be 9 0x00_00_26_04_04_07000000), call (Number 10) (Some (part 15 4)) None)
    ∷ (0, executed (be 5 0x00_00_26_04_00), call (Number 10) (Some (part 15 0)) (integer 0 4 14 value.Null))
    -- a text: its collation cut; an odd total, even where the request ends there
    ∷ (0, executed (be 9 0x00_00_E7_FFFF_0904D000), Err 30)
    ∷ (0, executed (be 18 0x00_00_E7_FFFF_0904D00034_0300000000000000), Err 30)
    -- MS-TDS 4.8, 'RPC Client Request', without the packet's header: foo3 with a default value
    ∷ (
      0,
      be 39 0x16000000_12000000_0200_0000000000000001_00000000_0400_66006F006F003300_0000_00_02_26_02_00,
      call (Name (part 24 8)) None (integer 2 2 38 value.Null),
    )
    ∷ []

abbrev pub Worked : Type 0
Worked =
    map (λ (row : ℕ × List ℕ × Result Call ℕ). rpc_of row.1 row.0) worked
    ≡ map (λ (row : ℕ × List ℕ × Result Call ℕ). row.2) worked
