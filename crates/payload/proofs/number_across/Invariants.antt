-- `payload::number_across` meets its contract. Assumes nothing.
use Rattle.payload.proofs.CodeNumbers.{Across}
use Rattle.payload.proofs.number_across.Given as goal

abbrev pub invariant-loop-i : goal.invariant-loop-i
invariant-loop-i l = Across l.lent l.initial.here l.at l.k l.here l.value l.i
