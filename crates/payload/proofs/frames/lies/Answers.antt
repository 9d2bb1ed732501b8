-- `payload::frames::lies` meets its contract. Assumes nothing.
use mathlib.Core.Path.{sym}
use Prim.Native.Nat.{◌+◌, ◌*◌, ◌<◌}
use native.Mathlib.Omega.{arith}
use lib.ListN.{length}
use borrow.Author.Tests.{lt-leb}
use Rattle.payload.specs.Frames.{lies}
use Rattle.payload.proofs.CodeReads.{eighths}
use Rattle.payload.proofs.frames.lies.Goals as goal

pub returns-then-lent-frame : goal.returns-then-lent-frame
unfolding lies
returns-then-lent-frame c = let a = c.args in let h : length a.lent.now < a.frame.end + 8 * a.frame.number = omega arith in sym (lt-leb _ _ h)

pub returns : goal.returns
unfolding lies
returns c = let a = c.args in eighths a.frame.end a.frame.number (length a.lent.now) (omega arith)
