-- `wire::put_slice` meets its contract: the first i bytes of src stand in the buffer. Assumes nothing.
use mathlib.Core.Path.{◌≡◌}
use lib.ListN.{take}
use Rattle.wire.specs.Over.{overwrite}
use Rattle.wire.proofs.put_slice.Given as goal

abbrev pub invariant-loop-i : goal.invariant-loop-i
invariant-loop-i l = l.buf ≡ overwrite l.initial.buf l.at (take l.i l.src)
