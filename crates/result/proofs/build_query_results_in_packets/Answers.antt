-- `result::build_query_results_in_packets` meets its contract. Assumes nothing.
use mathlib.Core.Path.{sym, ◌∙◌}
use native.Mathlib.Omega.{arith}
use Rattle.std.proofs.lemmas.Result.{err_from_is_err_and}
use Rattle.packet.proofs.Counts.{size-bounds}
use Rattle.result.proofs.InPackets
use borrow.Author.Rules.{rules}
use Rattle.result.proofs.build_query_results_in_packets.Goals as goal

pub returns-then-not-is_packet_size : goal.returns-then-not-is_packet_size
returns-then-not-is_packet_size c = let a = c.args in
    let w = InPackets.wrong_size a.size a.script.now a.buf.now (sym c.is_packet_size.ensures ∙ c.if-not-is_packet_size.true) in record { value = w.0; buf_after = w.1 }

pub overflow_cast-size : goal.overflow_cast-size
overflow_cast-size c = let b = (size-bounds c.args.size (sym c.is_packet_size.ensures ∙ c.if-not-is_packet_size.false)) in search rules

pub overflow_sub-length : goal.overflow_sub-length
overflow_sub-length c = let b = (InPackets.least_size c.args.size c.args.script.now c.args.buf.now (sym c.is_packet_size.ensures ∙ c.if-not-is_packet_size.false) _ (sym c.in_ok-length.ensures)) in search rules

pub overflow_cast-length : goal.overflow_cast-length
overflow_cast-length c = let b = (InPackets.most-size c.args.size c.args.script.now c.args.buf.now (sym c.is_packet_size.ensures ∙ c.if-not-is_packet_size.false) _ (sym c.in_ok-length.ensures)) in search rules

pub put_in_packets-requires : goal.put_in_packets-requires
put_in_packets-requires c = (omega (arith, (size-bounds c.args.size (sym c.is_packet_size.ensures ∙ c.if-not-is_packet_size.false))), InPackets.payload-size c.args.size c.args.script.now c.args.buf.now (sym c.is_packet_size.ensures ∙ c.if-not-is_packet_size.false) _ (sym c.in_ok-length.ensures))

pub returns-in_err-length : goal.returns-in_err-length
returns-in_err-length c = let a = c.args in
    let p = err_from_is_err_and c.from_residual.result c.from_residual.ensures.1 in
    let w = InPackets.refused a.size a.script.now a.buf.now
    (sym c.is_packet_size.ensures ∙ c.if-not-is_packet_size.false) _
    (sym c.in_err-length.ensures) in record { value = rw (p.1, p.2) w.0; buf_after = w.1 }

pub returns : goal.returns
returns c = let w = InPackets.sent c.args.size c.args.script.now c.args.buf.now (sym c.is_packet_size.ensures ∙ c.if-not-is_packet_size.false) _ (sym c.in_ok-length.ensures) c.put_in_packets.ensures.value c.put_in_packets.ensures.buf_after in record { value = w.0; buf_after = w.1 }
