-- `script::record_at` meets its contract. Assumes nothing.
use mathlib.Core.Path.{sym, ◌∙◌}
use native.Mathlib.Omega.{arith}
use Prim.Native.Nat.{◌+◌}
use Rattle.wire.proofs.Le.{le_bytes}
use Rattle.script.proofs.Walk.{is-left, too_long, record_is}
use Rattle.script.proofs.record_at.Goals as goal

pub returns-then-heads-at : goal.returns-then-heads-at
returns-then-heads-at c = c.short_at.ensures ∙ is-left c.args.s.now c.args.at (omega arith)

pub returns-then-heads-at-2 : goal.returns-then-heads-at-2
returns-then-heads-at-2 c = too_long c.args.s.now c.args.at ((c.u32_from_le_bytes-len.ensures ∙ sym (le_bytes 3 c.args.at c.args.s.now (omega arith)))) (omega arith) (omega arith)

pub returns : goal.returns
returns c = record_is c.args.s.now c.args.at ((c.u32_from_le_bytes-len.ensures ∙ sym (le_bytes 3 c.args.at c.args.s.now (omega arith)))) (omega arith) ((c.u16_from_le_bytes-kind.ensures ∙ sym (le_bytes 1 (c.args.at + 4) c.args.s.now (omega arith)))) (omega arith)
