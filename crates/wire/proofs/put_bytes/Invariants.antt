-- `wire::put_bytes` meets its contract. The loop's invariant: the first i bytes are written, and what comes next goes after them.
-- Assumes nothing.
use lib.ListN.{take}
use Rattle.wire.specs.Over.{Wrote}
use Rattle.wire.proofs.put_bytes.Given as goal

abbrev pub invariant-loop-i : goal.invariant-loop-i
invariant-loop-i g l = Wrote l.initial.buf l.at (take l.i l.bytes) l.buf l.next
