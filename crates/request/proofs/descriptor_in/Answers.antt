-- `request::descriptor_in` meets its contract. The loop's invariant: the block has the descriptor that its headers from `at` on have.
-- Assumes nothing.
use Rattle.request.proofs.Blocks.{header_at, cut_at, small_at, long-at}
use mathlib.Core.Path.{refl, sym, ◌∙◌}
use native.Mathlib.Omega.{arith}
use borrow.Author.Rules.{rules}
use Rattle.request.proofs.descriptor_in.Goals as goal

pub loop-at-init : goal.loop-at-init
loop-at-init c = (search rules, refl)

pub returns-then-len-lt6 : goal.returns-then-len-lt6
returns-then-len-lt6 c = let s = c.args.block.now in
    sym (small_at s c.loop-at.at (omega arith) c.get_u32_le-len.ensures (omega arith)) ∙ c.loop-at.invariant.1

pub returns-then-block-at : goal.returns-then-block-at
returns-then-block-at c = let s = c.args.block.now in
    sym (long-at s c.loop-at.at (omega arith) c.get_u32_le-len.ensures (omega arith) (omega arith)) ∙ c.loop-at.invariant.1

pub returns-then-kind-len : goal.returns-then-kind-len
returns-then-kind-len c = let s = c.args.block.now in
    rw (c.get_u64_le.ensures, c.get_u32_le.ensures)
    (sym (header_at s c.loop-at.at (omega arith) (omega arith) (omega arith) c.get_u32_le-len.ensures c.get_u16_le-kind.ensures c.if-kind-len.true) ∙ c.loop-at.invariant.1)

pub loop-at-preserved : goal.loop-at-preserved
loop-at-preserved c = let s = c.args.block.now in (
  search rules,
  sym (header_at s c.loop-at.at (omega arith) (omega arith) (omega arith) c.get_u32_le-len.ensures c.get_u16_le-kind.ensures c.if-kind-len.false) ∙ c.loop-at.invariant.1,
)

pub returns : goal.returns
returns c = let s = c.args.block.now in
    sym (cut_at s c.loop-at.at (omega arith)) ∙ c.loop-at.invariant.1
