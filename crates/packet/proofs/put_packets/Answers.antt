-- `packet::put_packets` meets its contract. Assumes nothing.
use native.Mathlib.Omega.{arith}
use borrow.Author.Rules.{rules}
use Rattle.wire.proofs.Over.{wrote_as}
use Rattle.packet.proofs.Cutting.{whole-parts, none-whole}
use Rattle.packet.proofs.put_packets.Goals as goal

pub put_parts-requires : goal.put_parts-requires
put_parts-requires c = (omega arith, omega arith, omega arith)

pub returns-then-size-le8 : goal.returns-then-size-le8
returns-then-size-le8 c = let a = c.args in
    let w = none-whole a.size a.payload.now a.buf.now (omega arith) in record { buf_after = w.0; place_after = w.1 }

pub returns : goal.returns
returns c = let a = c.args in
    let w = wrote_as c.put_parts.ensures.wrote (whole-parts a.size a.payload.now (omega arith)) in
    record { buf_after = search (rules, w.0); place_after = w.1 }
