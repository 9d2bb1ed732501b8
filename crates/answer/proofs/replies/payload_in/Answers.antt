-- The packet lies in the lent bytes, so its end, after the headers before it, is a place of them.
use Rattle.std.proofs.Common.{arith}
use Rattle.payload.proofs.Onto.{lying}
use Rattle.answer.proofs.replies.payload_in.Goals as goal

pub overflow_mul-frame : goal.overflow_mul-frame
overflow_mul-frame c = omega (arith, lying c.args.packets.now c.args.frame c.requires)

pub overflow_add-frame : goal.overflow_add-frame
overflow_add-frame c = omega (arith, lying c.args.packets.now c.args.frame c.requires)
