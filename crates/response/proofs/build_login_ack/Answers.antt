-- `response::build_login_ack` meets its contract. Assumes nothing.
use Rattle.response.specs.Replies.{login_ack_reply}
use Rattle.wire.specs.Le.{le}
use Rattle.wire.specs.Be.{be}
use Rattle.wire.specs.Fields.{flat}
use Rattle.text.specs.Units.{units_of, units}
use Rattle.response.specs.Login.{login_ack_token, wide}
use Rattle.response.proofs.build_login_ack.Goals as goal

pub returns : goal.returns
unfolding login_ack_reply login_ack_token wide le be flat units_of units
returns c = record { value = c.fixed.ensures.value; buf_after = c.fixed.ensures.buf_after }
