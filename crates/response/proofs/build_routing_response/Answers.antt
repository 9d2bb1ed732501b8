-- `response::build_routing_response` meets its contract. Assumes nothing.
use Rattle.script.specs.Records.{records, parse}
use Rattle.wire.specs.Le.{le_at}
use Rattle.response.specs.Replies.{routing_reply}
use Rattle.response.proofs.build_routing_response.Goals as goal

pub returns : goal.returns
unfolding routing_reply records parse le_at
returns c = record { value = c.build_routing_login_response.ensures.value; buf_after = c.build_routing_login_response.ensures.buf_after }
