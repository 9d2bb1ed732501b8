-- `response::put::put_target` meets its contract. Assumes nothing.
use Rattle.response.proofs.Writing.{counted-low}
use Rattle.wire.proofs.Puts.{then}
use Rattle.wire.specs.Fields.{flat}
use Rattle.text.specs.Units.{units}
use Rattle.text.proofs.Scan.{units-half}
use Rattle.response.proofs.put.put_target.Goals as goal

pub returns : goal.returns
unfolding flat
returns c = let host = c.args.host.now in
    then c.put_u8.ensures (then c.put_u16_le.ensures (counted-low (units host) host (rw (← units-half host) at c.put_text.ensures)))
