-- `result::put_in_packets` meets its contract. Assumes nothing.
use native.Mathlib.Omega.{arith}
use Rattle.emission.specs.Emission.{bytes_in}
use Rattle.emission.specs.Walk.{walked}
use Rattle.result.proofs.InPackets.{short, above, cut}
use Rattle.result.proofs.put_in_packets.Goals as goal

pub returns-then-buf-total : goal.returns-then-buf-total
returns-then-buf-total c = let w = short c.args.size (bytes_in (walked c.args.script.now)) c.args.buf.now c.requires.0 _ c.args.n c.packets_length-total.ensures c.requires.1 c.if-buf-total.true in record { value = w.0; buf_after = w.1 }

pub overflow_sub-total : goal.overflow_sub-total
overflow_sub-total c = above c.args.size (bytes_in (walked c.args.script.now)) c.args.buf.now c.requires.0 _ c.args.n c.packets_length-total.ensures c.requires.1

pub returns : goal.returns
returns c = let w = cut c.args.size (bytes_in (walked c.args.script.now)) c.args.buf.now c.requires.0 _ c.args.n c.packets_length-total.ensures c.requires.1
    (omega arith) c.put_payload.ensures c.cut_in_place.ensures.buf_after in record { value = w.0; buf_after = w.1 }
