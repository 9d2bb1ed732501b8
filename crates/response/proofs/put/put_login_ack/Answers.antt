-- `response::put::put_login_ack` meets its contract. Assumes nothing.
use Rattle.wire.specs.Le.{le}
use Rattle.wire.specs.Be.{be}
use Rattle.wire.specs.Fields.{flat}
use Rattle.wire.proofs.Puts.{put_nothing}
use Rattle.text.specs.Units.{units_of, units}
use Rattle.response.specs.Login.{login_ack_token, wide}
use Rattle.response.proofs.put.put_login_ack.Goals as goal

pub returns-then-not-sent : goal.returns-then-not-sent
returns-then-not-sent c = rw c.if-not-sent.true (put_nothing c.args.w.now c.requires)

pub returns : goal.returns
unfolding login_ack_token wide le be flat units_of units
returns c = rw c.if-not-sent.false c.put_slice.ensures
