-- `response::put::put_feature_ext_ack` meets its contract. Assumes nothing.
use Rattle.wire.proofs.Puts.{then, place_in}
use Rattle.response.proofs.Writing.{alone}
use Rattle.wire.specs.Fields.{flat}
use Rattle.response.specs.Lists.{feature_ext_ack}
use Rattle.response.proofs.put.put_feature_ext_ack.Goals as goal

pub put_records-requires : goal.put_records-requires
put_records-requires c = place_in c.put_u8.ensures

pub returns : goal.returns
unfolding feature_ext_ack flat
returns c = then c.put_u8.ensures (then c.put_records.ensures (alone c.put_u8-2.ensures))
