-- What the export that reads a stored procedure call answers. Rests on the definitions of `rpc`.
use Rattle.std.specs.Prelude.{ℕ, List, [], ◌∷◌, Option, Some, None, Result, Ok, Err}
use Rattle.wire.specs.declared.Part.{Part}
use Rattle.cells.specs.declared.Value.{Value}
use Rattle.cells.specs.declared.Value.TheVariants as value
use Rattle.rpc.specs.declared.Procedure.{Procedure}
use Rattle.rpc.specs.declared.Procedure.TheVariants.{Name, Number}
use Rattle.rpc.specs.declared.Parameter.{Parameter}
use Rattle.rpc.specs.declared.Call.{Call}
use Rattle.rpc.specs.Rpc.{rpc_of}
use Rattle.station.specs.Answer.{Outcome, answers, refuses}
use Rattle.station.specs.Steps.{bits_of}

-- what does not apply is 0 in its slots
abbrev pub no_part : Part
no_part = record { start = 0; len = 0 }

-- ---- the procedure: 1 by its name, 0 by its number

abbrev pub named_slot : Procedure → ℕ
named_slot (Name name) = 1
named_slot (Number n) = 0

abbrev pub name_part : Procedure → Part
name_part (Name name) = name
name_part (Number n) = no_part

abbrev pub number_slot : Procedure → ℕ
number_slot (Name name) = 0
number_slot (Number n) = n

-- ---- the statement; where there is none a start of 2^64 - 1, which no part has, and a length of 0

abbrev pub statement_part : Option Part → Part
statement_part (Some part) = part
statement_part None = record { start = 0xFFFF_FFFF_FFFF_FFFF; len = 0 }

-- ---- the parameter: 1 where there is one of the number, else 0

abbrev pub found_slot : Option Parameter → ℕ
found_slot (Some p) = 1
found_slot None = 0

abbrev pub parameter_of : Option Parameter → Parameter
parameter_of (Some p) = p
parameter_of None =
    record { name = no_part; status = 0; info = record { code = 0; limit = 0; collation = no_part }; value = value.Null }

-- ---- its value, by case: 0 null, 1 a number, 2 a part, 3 a Max part

abbrev pub case_slot : Value → ℕ
case_slot (value.Number n) = 1
case_slot (value.Part part) = 2
case_slot (value.Max part) = 3
case_slot value.Null = 0

abbrev pub bits_slot : Value → ℕ
bits_slot (value.Number n) = bits_of n
bits_slot (value.Part part) = 0
bits_slot (value.Max part) = 0
bits_slot value.Null = 0

abbrev pub value_part : Value → Part
value_part (value.Number n) = no_part
value_part (value.Part part) = part
value_part (value.Max part) = part
value_part value.Null = no_part

-- the 19 slots of a call: its procedure (by name or not, the name's start and length, the number), flags, start and length of the
-- statement; whether there is a parameter of the number, start and length of its name, status, type's code and length, start and length
-- of the collation, the value's case, its number, start and length of its part
unfoldable pub call_slots : Call → List ℕ
call_slots call =
    let name = name_part call.procedure in
    let run = statement_part call.statement in
    let parameter = parameter_of call.asked in
    let collation = parameter.info.collation in
    let held = value_part parameter.value in
    named_slot call.procedure ∷ name.start ∷ name.len ∷ number_slot call.procedure
    ∷ call.flags
    ∷ run.start ∷ run.len
    ∷ found_slot call.asked
    ∷ parameter.name.start ∷ parameter.name.len
    ∷ parameter.status
    ∷ parameter.info.code ∷ parameter.info.limit ∷ collation.start ∷ collation.len
    ∷ case_slot parameter.value ∷ bits_slot parameter.value ∷ held.start ∷ held.len
    ∷ []

abbrev pub rpc_outcome : Result Call ℕ → Outcome
rpc_outcome (Ok call) = answers 0 (call_slots call)
rpc_outcome (Err n) = refuses n

-- where the parameter of a number is asked for
unfoldable pub rpc_call : List ℕ → (number : ℕ) → Outcome
rpc_call body number = rpc_outcome (rpc_of body number)
