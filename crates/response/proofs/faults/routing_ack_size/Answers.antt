-- `response::faults::routing_ack_size` meets its contract. Assumes nothing.
use mathlib.Core.Path.{sym}
use Rattle.response.proofs.Lengths.{routing-ack-size}
use borrow.Author.Rules.{rules}
use Rattle.response.proofs.faults.routing_ack_size.Goals as goal

pub returns-in-Some : goal.returns-in-Some
returns-in-Some c = rw c.in-Some.is (sym (routing-ack-size _), search rules)
