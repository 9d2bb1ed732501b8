-- `response::put::put_routing_ack` meets its contract. Assumes nothing.
use Rattle.response.specs.Replies.{feature_ack}
use Rattle.script.specs.Records.{records, parse}
use Rattle.wire.specs.Le.{le_at}
use Rattle.wire.proofs.Puts.{put_nothing}
use Rattle.response.proofs.put.put_routing_ack.Goals as goal

pub returns-then-not-sent : goal.returns-then-not-sent
returns-then-not-sent c = rw c.if-not-sent.true (put_nothing c.args.w.now c.requires)

pub returns-in-Some : goal.returns-in-Some
unfolding feature_ack records parse le_at
returns-in-Some c = rw (c.if-not-sent.false, c.in-Some.is) c.put_feature_ext_ack.ensures

pub returns-in-None : goal.returns-in-None
returns-in-None c = rw (c.if-not-sent.false, c.in-None.is) (put_nothing c.args.w.now c.requires)
