-- `response::put::put_plain_route` meets its contract. Assumes nothing.
use Rattle.response.proofs.Writing.{routed}
use native.Mathlib.Omega.{arith}
use mathlib.Core.List.{[]}
use Rattle.response.proofs.Lengths.{target-size}
use Rattle.response.specs.Routing.{target}
use Rattle.response.proofs.put.put_plain_route.Goals as goal

pub returns : goal.returns
returns c = let a = c.args in
    let host = a.host.now in
    let long = target-size host a.port in
    routed 20 _ (target host a.port []) (omega (arith, long)) c.put_routing_head.ensures c.put_target.ensures c.put_u16_le.ensures
