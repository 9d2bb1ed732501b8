-- `station::write_header` meets its contract. Assumes nothing.
use mathlib.Core.Path.{◌≡◌}
use native.Mathlib.Omega.{arith}
use borrow.Author.Rules.{rules}
use Rattle.packet.proofs.Sizes.{length-header}
use Rattle.packet.specs.Header.{header_bytes}
use Rattle.station.proofs.Ends.{too_few, written}
use Rattle.station.specs.Calls.{written_header}
use Rattle.station.proofs.write_header.Goals as goal

pub returns-then-buf-lt-PACKET_HEADER_SIZE : goal.returns-then-buf-lt-PACKET_HEADER_SIZE
unfolding written_header
returns-then-buf-lt-PACKET_HEADER_SIZE c = let a = c.args in
    let size = length-header a.header in
    let w = too_few 8 a.buf.now (header_bytes a.header) (omega (arith, size, c.if-buf-lt-PACKET_HEADER_SIZE.true)) c.refused.type_inv (rw c.number.ensures at c.refused.ensures) in record { value = w.0; buf_after = w.1 }

pub returns : goal.returns
unfolding written_header
returns c = let a = c.args in
    let size = length-header a.header in
    let room = c.if-buf-lt-PACKET_HEADER_SIZE.false in
    let eight : c.write.new.w.at ≡ 8 = omega (arith, size, room, c.write.ensures.wrote.1.place) in
    let w = written 8 a.buf.now (header_bytes a.header) _ (omega (arith, size, room)) (omega arith) c.write.ensures.wrote.0 in
    record { value = rw eight w.0; buf_after = search (rules, w.1) }
