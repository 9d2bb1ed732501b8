-- `response::build_feature_ext_ack_enhanced_routing` meets its contract. Assumes nothing.
use Rattle.response.specs.Lists.{first_fault, feature_fault}
use Rattle.script.specs.Records.{records, parse}
use Rattle.wire.specs.Le.{le_at}
use Rattle.response.specs.Replies.{routing_ack_reply, features_reply, feature_ack}
use Rattle.response.proofs.build_feature_ext_ack_enhanced_routing.Goals as goal

pub returns : goal.returns
unfolding routing_ack_reply features_reply feature_ack first_fault feature_fault records parse le_at
returns c = record { value = c.build_feature_ext_ack.ensures.value; buf_after = c.build_feature_ext_ack.ensures.buf_after }
