-- `response::put::put_info_option` meets its contract. Assumes nothing.
use Rattle.wire.proofs.Puts.{then}
use Rattle.response.proofs.Writing.{alone, low}
use Rattle.wire.specs.Fields.{flat}
use native.Mathlib.Omega.{arith}
use Rattle.response.proofs.put.put_info_option.Goals as goal

pub returns : goal.returns
unfolding flat
returns c = let a = c.args in
    then c.put_u8.ensures (then (low 4 _ a.size (omega arith) c.put_u32_le.ensures) (alone (low 4 _ a.offset (omega arith) c.put_u32_le-2.ensures)))
