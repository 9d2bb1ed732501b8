-- `response::build_feature_ext_ack_fedauth` meets its contract. Assumes nothing.
use Rattle.wire.specs.Le.{le, le_at}
use Rattle.wire.specs.Fields.{flat}
use Rattle.response.specs.Lists.{feature_ext_ack, all_bytes, feature_bytes}
use Rattle.response.specs.Replies.{fedauth_ack_reply, feature_ack}
use Rattle.response.proofs.build_feature_ext_ack_fedauth.Goals as goal

pub returns : goal.returns
unfolding fedauth_ack_reply feature_ack feature_ext_ack all_bytes feature_bytes flat le le_at
returns c = record { value = c.fixed.ensures.value; buf_after = c.fixed.ensures.buf_after }
