-- `response::cut_payload` meets its contract. Assumes nothing.
use mathlib.Core.Path.{sym, ◌∙◌}
use native.Mathlib.Omega.{arith}
use Rattle.response.proofs.InPackets.{wrong_size, too_long, too_short, written}
use Rattle.wire.proofs.Over.{wrote}
use Rattle.response.proofs.cut_payload.Goals as goal

pub returns-then-not-is_packet_size : goal.returns-then-not-is_packet_size
returns-then-not-is_packet_size c = let a = c.args in
    let w = wrong_size a.size a.payload.now a.buf.now (sym c.is_packet_size.ensures ∙ c.if-not-is_packet_size.true) in record { value = w.0; buf_after = w.1 }

pub returns-then-payload-gt-MOST_PAYLOAD : goal.returns-then-payload-gt-MOST_PAYLOAD
returns-then-payload-gt-MOST_PAYLOAD c = let a = c.args in
    let w = too_long a.size a.payload.now a.buf.now (sym c.is_packet_size.ensures ∙ c.if-not-is_packet_size.false) c.if-payload-gt-MOST_PAYLOAD.true in record { value = w.0; buf_after = w.1 }

pub returns-then-buf-total : goal.returns-then-buf-total
returns-then-buf-total c = let a = c.args in
    let w = too_short a.size a.payload.now a.buf.now (sym c.is_packet_size.ensures ∙ c.if-not-is_packet_size.false) (omega arith) _ c.packets_length-total.ensures c.if-buf-total.true in record { value = w.0; buf_after = w.1 }

pub returns : goal.returns
returns c = let a = c.args in
    let w = written a.size a.payload.now a.buf.now (sym c.is_packet_size.ensures ∙ c.if-not-is_packet_size.false) (omega arith) _ c.packets_length-total.ensures (omega arith) (wrote c.put_packets.ensures.buf_after c.put_packets.ensures.place_after) in record { value = w.0; buf_after = w.1 }
