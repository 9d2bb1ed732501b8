-- What stops the packets, and what a walk over them answers, with the numbers of refusals. Rests on Packets.
use Rattle.std.specs.Prelude.{Result, Ok, Err}
use Rattle.refusals.specs.Refused.{number}
use Rattle.payload.specs.declared.frames.Stop.{Stop}
use Rattle.payload.specs.declared.frames.Stop.TheVariants as stop
use Rattle.payload.specs.Packets.{bad, broken, over}
use Rattle.payload.specs.Packets as packets

-- what stops the packets
abbrev pub stop_by : Stop → packets.Stop
stop_by stop.Over = over
stop_by stop.Broken = broken
stop_by (stop.Bad r) = bad (number r)

-- what a walk answers: a value, or what stops the packets
abbrev pub stopped : {A : Type 0} → Result A Stop → Result A packets.Stop
stopped (Ok a) = Ok a
stopped (Err s) = Err (stop_by s)
