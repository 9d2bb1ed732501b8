-- `response::build_routing_envchange_token` meets its contract. Assumes nothing.
use Rattle.response.proofs.Firsts.{no_more}
use Rattle.text.specs.Arguments.{text_fault}
use Rattle.response.specs.Lists.{route_bytes}
use Rattle.response.specs.Replies.{route_reply}
use Rattle.response.proofs.build_routing_envchange_token.Goals as goal

pub returns : goal.returns
unfolding route_reply route_bytes
returns c = record { value = rw (no_more (text_fault c.args.redirect_host.now)) at c.route_token.ensures.value; buf_after = rw (no_more (text_fault c.args.redirect_host.now)) at c.route_token.ensures.buf_after }
