-- `packet::write_reply_header` meets its contract. Assumes nothing.
use Rattle.wire.proofs.Puts.{put_as}
use Rattle.packet.proofs.Sizes.{reply-header}
use Rattle.packet.proofs.write_reply_header.Goals as goal

pub returns : goal.returns
returns c = put_as (rw c.new.ensures at c.write.ensures) (reply-header c.args.length)
