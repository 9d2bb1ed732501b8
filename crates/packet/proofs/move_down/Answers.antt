-- `packet::move_down` meets its contract. Assumes nothing.
use mathlib.Core.Path.{refl}
use native.Mathlib.Omega.{arith}
use Rattle.packet.proofs.Moved.{moved_nowhere, moved}
use Rattle.packet.proofs.move_down.Goals as goal
use Rattle.packet.proofs.move_down.Goals.{then-w-from, else-w-from}

pub returns : goal.returns
returns c = let a = c.args in
    let l = a.w.now in
    elim c.if-w-from.branch [
      | then-w-from w ↦ rw w.w-is (record { same = refl; wrote = moved l.buf.now l.at a.from (omega arith) _ a.len (omega arith) w.move_bytes.ensures })
      | else-w-from w ↦ rw w.w-is (record { same = refl; wrote = rw w.if-w-from.false (moved_nowhere l.buf.now a.from a.len (omega arith)) })
    ]
