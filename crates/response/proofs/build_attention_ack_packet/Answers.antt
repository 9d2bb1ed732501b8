-- `response::build_attention_ack_packet` meets its contract. Assumes nothing.
use Rattle.wire.specs.Le.{le}
use Rattle.wire.specs.Be.{be}
use Rattle.wire.specs.Fields.{flat}
use Rattle.packet.specs.Reply.{packet_of, reply_header}
use Rattle.token.specs.Tokens.{token_bytes}
use Rattle.response.specs.Replies.{attention_reply}
use Rattle.response.proofs.build_attention_ack_packet.Goals as goal

pub returns : goal.returns
unfolding attention_reply packet_of reply_header token_bytes flat le be
returns c = record { value = c.fixed.ensures.value; buf_after = c.fixed.ensures.buf_after }
