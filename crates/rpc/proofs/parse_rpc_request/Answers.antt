-- `rpc::parse_rpc_request` meets its contract. Assumes nothing.
use mathlib.Core.Path.{sym, ◌∙◌}
use Rattle.rpc.specs.Rpc.{rpc_of}
use Rattle.rpc.proofs.parse_rpc_request.Goals as goal

pub returns-in-Err-Short : goal.returns-in-Err-Short
unfolding rpc_of
returns-in-Err-Short c = simp (← c.all_headers.ensures, c.in-Err-Short.is, c.in-Err-Short.field-0-is)

pub returns-in-Err-TooSmall : goal.returns-in-Err-TooSmall
unfolding rpc_of
returns-in-Err-TooSmall c = simp (← c.all_headers.ensures, c.in-Err-TooSmall.is, c.in-Err-TooSmall.field-0-is)

pub returns-in-Err-PastEnd : goal.returns-in-Err-PastEnd
unfolding rpc_of
returns-in-Err-PastEnd c = simp (← c.all_headers.ensures, c.in-Err-PastEnd.is, c.in-Err-PastEnd.field-0-is)

pub returns-in-Ok : goal.returns-in-Ok
unfolding rpc_of
returns-in-Ok c = c.call_at.ensures ∙ rw (sym c.all_headers.ensures ∙ c.in-Ok.is)
