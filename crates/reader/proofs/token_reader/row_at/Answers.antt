-- `reader::token_reader::row_at` meets its contract. Assumes nothing.
use mathlib.Core.Path.{sym, ap}
use native.Mathlib.Omega.{arith}
use borrow.Author.Tests.{le-ltb, lt-ltb}
use Prim.Native.Nat.{◌≤◌, ◌<◌}
use Rattle.payload.proofs.CodeReads.{must-hold, must-not}
use Rattle.reader.specs.Code.{token_read}
use Rattle.reader.specs.ReadTokens.{row_at}
use Rattle.reader.proofs.token_reader.row_at.Goals as goal

pub returns-then-columns-eq0 : goal.returns-then-columns-eq0
unfolding row_at
returns-then-columns-eq0 c = let h : c.args.columns ≤ 0 = omega arith in sym (ap token_read (must-not _ _ (le-ltb 0 _ h)))

pub returns : goal.returns
unfolding row_at
returns c = let h : 0 < c.args.columns = omega arith in sym (ap token_read (must-hold _ _ (lt-ltb 0 _ h)))
