-- `response::put::put_routing_tokens` meets its contract. Assumes nothing.
use Rattle.wire.proofs.Puts.{then, place_in}
use Rattle.response.specs.Replies.{routing_tokens}
use Rattle.response.proofs.put.put_routing_tokens.Goals as goal

pub put_login_ack-requires : goal.put_login_ack-requires
put_login_ack-requires c = c.requires

pub put_routing_ack-requires : goal.put_routing_ack-requires
put_routing_ack-requires c = place_in c.put_login_ack.ensures

pub put_records-requires : goal.put_records-requires
put_records-requires c = place_in c.put_routing_ack.ensures

pub put_routing_ack-requires-2 : goal.put_routing_ack-requires-2
put_routing_ack-requires-2 c = place_in c.put_records.ensures

pub returns : goal.returns
unfolding routing_tokens
returns c = then (then (then (then c.put_login_ack.ensures c.put_routing_ack.ensures) c.put_records.ensures) c.put_routing_ack-2.ensures) c.put_done.ensures
