-- `result::room_in_packets` meets its contract. Assumes nothing.
use mathlib.Core.Path.{sym, ◌∙◌}
use mathlib.Core.List.{[]}
use Rattle.std.proofs.lemmas.Result.{err_from_is_err_and}
use Rattle.packet.proofs.Counts.{size-bounds}
use Rattle.result.proofs.InPackets
use borrow.Author.Rules.{rules}
use Rattle.result.proofs.room_in_packets.Goals as goal

pub returns-then-not-is_packet_size : goal.returns-then-not-is_packet_size
returns-then-not-is_packet_size c = let a = c.args in
    InPackets.wrong-room a.size a.script.now [] (sym c.is_packet_size.ensures ∙ c.if-not-is_packet_size.true)

pub overflow_cast-size : goal.overflow_cast-size
overflow_cast-size c = let b = size-bounds c.args.size (sym c.is_packet_size.ensures ∙ c.if-not-is_packet_size.false) in search rules

pub overflow_sub-length : goal.overflow_sub-length
overflow_sub-length c = let b = InPackets.least_size c.args.size c.args.script.now [] (sym c.is_packet_size.ensures ∙ c.if-not-is_packet_size.false) _ (sym c.in_ok-length.ensures) in search rules

pub overflow_cast-length : goal.overflow_cast-length
overflow_cast-length c = let b = InPackets.most-size c.args.size c.args.script.now [] (sym c.is_packet_size.ensures ∙ c.if-not-is_packet_size.false) _ (sym c.in_ok-length.ensures) in search rules

pub returns-in_err-length : goal.returns-in_err-length
returns-in_err-length c = let a = c.args in
    let p = err_from_is_err_and c.from_residual.result c.from_residual.ensures.1 in
    rw (p.1, p.2) (InPackets.refused-room a.size a.script.now []
    (sym c.is_packet_size.ensures ∙ c.if-not-is_packet_size.false) _
    (sym c.in_err-length.ensures))

pub returns : goal.returns
returns c = InPackets.room-sum c.args.size c.args.script.now [] (sym c.is_packet_size.ensures ∙ c.if-not-is_packet_size.false) _ (sym c.in_ok-length.ensures) c.packets_length.ensures
