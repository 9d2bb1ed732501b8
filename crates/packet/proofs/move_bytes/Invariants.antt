-- `packet::move_bytes` meets its contract: the bytes go up, by blocks and then one by one, and what is still to be moved stands at or
-- after what was written. Assumes nothing.
use Prim.Native.Nat.{◌*◌}
use mathlib.Core.Path.{◌≡◌}
use lib.ListN.{take, drop}
use Rattle.wire.specs.Over.{overwrite}
use Rattle.packet.proofs.move_bytes.Given as goal

abbrev pub invariant-loop-n : goal.invariant-loop-n
invariant-loop-n l = l.buf ≡ overwrite l.initial.buf l.to (take (l.n * 32) (drop l.from l.initial.buf))

abbrev pub invariant-loop-i : goal.invariant-loop-i
invariant-loop-i l = l.buf ≡ overwrite l.fn.buf l.to (take l.i (drop l.from l.fn.buf))
