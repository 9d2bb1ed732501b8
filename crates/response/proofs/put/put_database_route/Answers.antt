-- `response::put::put_database_route` meets its contract. Assumes nothing.
use Rattle.response.proofs.Writing.{routed, counted-low}
use native.Mathlib.Omega.{arith}
use Rattle.text.specs.Units.{units}
use Rattle.text.proofs.Scan.{units-half}
use mathlib.Core.List.{[]}
use Rattle.wire.proofs.Puts.{then-fields}
use Rattle.response.proofs.Lengths.{database-target-size}
use Rattle.response.specs.Routing.{target}
use Rattle.token.specs.Tokens.{us_varchar}
use Rattle.response.proofs.put.put_database_route.Goals as goal

pub returns : goal.returns
returns c = let a = c.args in
    let host = a.host.now in
    let database = a.database.now in
    let long = database-target-size host a.port database in
    let value = then-fields (target host a.port []) (us_varchar database []) c.put_target.ensures (counted-low (units database) database (rw (← units-half database) at c.put_text.ensures)) in
    routed 21 _ (target host a.port (us_varchar database [])) (omega (arith, long)) c.put_routing_head.ensures value c.put_u16_le.ensures
