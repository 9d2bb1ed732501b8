-- Every part that a request answers lies in it. Rests on Rpc and on cells' parts.
use Rattle.std.specs.Prelude.{ℕ, List, length, Option, Some, None, Result, Ok, Err}
use Rattle.wire.specs.declared.Part.{Part}
use Rattle.cells.specs.Inside.{PartIn, ValueIn}
use Rattle.rpc.specs.declared.Procedure.{Procedure}
use Rattle.rpc.specs.declared.Procedure.TheVariants.{Name, Number}
use Rattle.rpc.specs.declared.Parameter.{Parameter}
use Rattle.rpc.specs.declared.Call.{Call}
use Rattle.rpc.specs.Rpc.{rpc_of}

-- ---- what is answered, where the request has n bytes

abbrev pub ProcedureIn : ℕ → Procedure → Type 0
ProcedureIn n (Name name) = PartIn n name
ProcedureIn n (Number number) = Unit {0}

-- a parameter's name, collation and value
abbrev pub ParameterIn : ℕ → Parameter → Type 0
ParameterIn n p = PartIn n p.name × PartIn n p.info.collation × ValueIn n p.value

abbrev pub AskedIn : ℕ → Option Parameter → Type 0
AskedIn n (Some p) = ParameterIn n p
AskedIn n None = Unit {0}

abbrev pub StatementIn : ℕ → Option Part → Type 0
StatementIn n (Some part) = PartIn n part
StatementIn n None = Unit {0}

abbrev pub AnswerIn : ℕ → Result Call ℕ → Type 0
AnswerIn n (Ok call) = ProcedureIn n call.procedure × AskedIn n call.asked × StatementIn n call.statement
AnswerIn n (Err number) = Unit {0}

-- whatever the request and the number: a caller may take each part's bytes from the request without a test
abbrev pub PartsInside : Type 0
PartsInside = (body : List ℕ) (number : ℕ) → AnswerIn (length body) (rpc_of body number)
