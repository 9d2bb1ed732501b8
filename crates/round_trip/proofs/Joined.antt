-- Packets that were cut are joined again. Assumes nothing.
use Rattle.payload.proofs.Joined as payload
use Rattle.round_trip.specs.Joined.{Joined}

pub joined : Joined
joined size p some short h = let w = payload.joined size p some short h in (w.payload, w.ends)
