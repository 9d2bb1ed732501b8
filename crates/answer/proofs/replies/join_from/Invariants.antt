-- The packet lies in the lent bytes.
use Rattle.std.proofs.Common.{◌≡◌, true}
use Rattle.payload.specs.Frames.{lies}
use Rattle.answer.proofs.replies.join_from.Given as goal

abbrev pub invariant-loop : goal.invariant-loop
invariant-loop l = lies l.packets l.frame ≡ true
