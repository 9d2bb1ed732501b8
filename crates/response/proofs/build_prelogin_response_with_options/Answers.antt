-- `response::build_prelogin_response_with_options` meets its contract. Assumes nothing.
use Rattle.wire.specs.Le.{le}
use Rattle.wire.specs.Be.{be}
use Rattle.wire.specs.Fields.{flat}
use Rattle.packet.specs.Reply.{packet_of, reply_header}
use Rattle.response.specs.Replies.{prelogin_reply}
use Rattle.response.proofs.build_prelogin_response_with_options.Goals as goal

pub returns-in-true-true : goal.returns-in-true-true
unfolding prelogin_reply packet_of reply_header flat le be
returns-in-true-true c = rw (c.in-true-true.is-0, c.in-true-true.is-1) (record { value = c.fixed.ensures.value; buf_after = c.fixed.ensures.buf_after })

pub returns-in-true-false : goal.returns-in-true-false
unfolding prelogin_reply packet_of reply_header flat le be
returns-in-true-false c = rw (c.in-true-false.is-0, c.in-true-false.is-1) (record { value = c.fixed-in-true-false.ensures.value; buf_after = c.fixed-in-true-false.ensures.buf_after })

pub returns-in-false-true : goal.returns-in-false-true
unfolding prelogin_reply packet_of reply_header flat le be
returns-in-false-true c = rw (c.in-false-true.is-0, c.in-false-true.is-1) (record { value = c.fixed-in-false-true.ensures.value; buf_after = c.fixed-in-false-true.ensures.buf_after })

pub returns-in-false-false : goal.returns-in-false-false
unfolding prelogin_reply packet_of reply_header flat le be
returns-in-false-false c = rw (c.in-false-false.is-0, c.in-false-false.is-1) (record { value = c.fixed-in-false-false.ensures.value; buf_after = c.fixed-in-false-false.ensures.buf_after })
