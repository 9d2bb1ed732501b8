-- `station::station_write_header` meets its contract. Assumes nothing.
use mathlib.Core.Path.{◌≡◌}
use native.Mathlib.Omega.{arith}
use Rattle.std.specs.Prelude.{Some, None}
use Rattle.refusals.specs.declared.Refusal.TheVariants.{UnknownPacketType}
use Rattle.packet.specs.Types.{type_of}
use Rattle.station.proofs.Ends.{passed, stopped}
use Rattle.station.specs.Calls.{write_header_call}
use Rattle.station.proofs.station_write_header.Goals as goal

pub returns-in-Ok : goal.returns-in-Ok
unfolding write_header_call
returns-in-Ok c = let a = c.args in
    let known : type_of a.packet_type ≡ Some c.in-Ok.known = grind (arith, c.in-Ok.ensures) in
    let w = passed a.buf.now c.write_header.type_inv (c.write_header.ensures.value, c.write_header.ensures.buf_after) (rw known) in record { value = w.0; buf_after = w.1 }

pub returns-in-Err : goal.returns-in-Err
unfolding write_header_call
returns-in-Err c = let a = c.args in
    let unknown : type_of a.packet_type ≡ None = grind (arith, c.in-Err.ensures) in
    let refusal : c.in-Err.refusal ≡ UnknownPacketType = grind (arith, c.in-Err.ensures) in
    let w = stopped a.buf.now c.refused.type_inv (rw c.number.ensures at c.refused.ensures) (rw (unknown, refusal)) in record { value = w.0; buf_after = w.1 }
