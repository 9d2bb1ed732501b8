-- `response::put::put_fedauth_info` meets its contract. Assumes nothing.
use Rattle.wire.proofs.Puts.{then, put_as}
use Rattle.response.proofs.Writing.{informed}
use Rattle.response.proofs.put.put_fedauth_info.Goals as goal

pub returns : goal.returns
returns c = let a = c.args in
    put_as (then c.put_info_head.ensures (then c.put_slice.ensures c.put_slice-2.ensures)) (informed a.sts_url.now a.spn.now)
