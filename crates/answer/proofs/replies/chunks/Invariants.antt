-- Each turn passes over the length of a chunk.
use Rattle.std.proofs.Common.{◌-◌, length}
use Rattle.answer.proofs.replies.chunks.Given as goal

abbrev pub decreases-loop-len : goal.decreases-loop-len
decreases-loop-len g l = length l.initial.held - l.start
