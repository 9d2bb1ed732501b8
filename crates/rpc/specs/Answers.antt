-- What private functions answer, from what reading comes to. Rests on Rpc.
use Rattle.std.specs.Prelude.{ℕ, Bool, cond, List, Option, Some, None, Result, Ok, Err}
use Rattle.refusals.specs.Numbers.{parameter_cut}
use Rattle.wire.specs.declared.Part.{Part}
use Rattle.payload.specs.Places.{Read, Place, whole, refused}
use Rattle.rpc.specs.declared.Head.{Head}
use Rattle.rpc.specs.declared.Parameter.{Parameter}
use Rattle.rpc.specs.declared.ParameterAt.{ParameterAt}
use Rattle.rpc.specs.declared.Seen.{Seen}
use Rattle.rpc.specs.declared.Call.{Call}
use Rattle.rpc.specs.Rpc.{runs_statement, asked_in, value_bytes, first_in}

-- a procedure, a head or metadata, with the place after it
abbrev pub placed : {A : Type 0} → Read A → Result (A × Place) ℕ
placed (whole a at) = Ok (a, at)
placed (refused n) = Err n

abbrev pub parameter_read : Read Parameter → Result ParameterAt ℕ
parameter_read (whole p at) = Ok (record { parameter = p; next = at })
parameter_read (refused n) = Err n

-- of parameters: the one of a number, and the first one's value
abbrev pub seen_in : ℕ → List ParameterAt → Seen
seen_in number ps = record { asked = asked_in number ps; first = first_in ps }

abbrev pub parameters_read : ℕ → Read (List ParameterAt) → Result Seen ℕ
parameters_read number (whole ps at) = Ok (seen_in number ps)
parameters_read number (refused n) = Err n

-- with a parameter more, which is the one that was asked for or not, and the first or not
abbrev pub seen_with : Seen → (is_asked is_first : Bool) → ParameterAt → Seen
seen_with seen is_asked is_first p = record {
  asked = cond is_asked (Some p.parameter) seen.asked;
  first = cond is_first (Some (value_bytes p)) seen.first;
}

-- a call whose head and parameters were read, with its statement
abbrev pub call_of : Head → Seen → Option Part → Result Call ℕ
call_of head seen run = Ok (record { procedure = head.procedure; flags = head.flags; asked = seen.asked; statement = run })

-- one that runs a statement, with its first parameter's value
abbrev pub run_of : Head → Seen → Option Part → Result Call ℕ
run_of head seen None = Err parameter_cut
run_of head seen (Some part) = call_of head seen (Some part)

abbrev pub told_of : Head → Seen → Result Call ℕ
told_of head seen = cond (runs_statement head.procedure) (run_of head seen seen.first) (call_of head seen None)
