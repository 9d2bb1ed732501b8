-- Which parameter is asked for changes nothing else (document 02, 2026-01: 'a fault anywhere refuses the request'). Rests on Rpc.
use Rattle.std.specs.Prelude.{ℕ, ◌≡◌, List, None, Result, Ok, Err}
use Rattle.rpc.specs.declared.Call.{Call}
use Rattle.rpc.specs.Rpc.{rpc_of}

-- an answer but for the parameter that was asked for
abbrev pub without_asked : Result Call ℕ → Result Call ℕ
without_asked (Ok call) = Ok (record { procedure = call.procedure; flags = call.flags; asked = None; statement = call.statement })
without_asked (Err n) = Err n

-- a request that is asked for another number answers another parameter and nothing else: the refusal, the procedure, the flags and the
-- statement are the same
abbrev pub AskedAlone : Type 0
AskedAlone = (body : List ℕ) (i j : ℕ) → without_asked (rpc_of body i) ≡ without_asked (rpc_of body j)
