-- What is left to read gets less.
use Rattle.answer.proofs.runs.pass_over.Given as goal

abbrev pub decreases-loop-left : goal.decreases-loop-left
decreases-loop-left g l = l.left
