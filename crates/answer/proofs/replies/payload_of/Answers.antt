-- The first packet lies in the lent bytes.
use Rattle.std.proofs.Common.{sym}
use Rattle.payload.proofs.Spots.{stood}
use Rattle.answer.proofs.replies.payload_of.Goals as goal

pub join_from-requires : goal.join_from-requires
join_from-requires c = (stood c.args.packets.now 8 _ 1 (sym c.in-Ok.ensures)).lies
