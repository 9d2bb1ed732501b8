-- `wire::put_bytes` meets its contract. The loop's invariant: the first i bytes are written, and what comes next goes after them.
-- Assumes nothing.
use Rattle.std.proofs.Common.{rules, ℕ, ◌<◌, get_or, arith, refl, sym, take_all}
use Rattle.std.proofs.lemmas.List.{take_more}
use native.Mathlib.Nat.{mod-eq_of_lt}
use Rattle.wire.specs.Le.{le}
use Rattle.wire.specs.Over.{overwrite}
use Rattle.wire.proofs.Std.{mid-over}
use Rattle.wire.proofs.Over.{then, wrote, wrote_as}
use Rattle.wire.proofs.put_bytes.Goals as goal

pub loop-i-init : goal.loop-i-init
unfolding overwrite
loop-i-init g c = (refl, record { place = omega arith })

pub loop-i-preserved : goal.loop-i-preserved
unfolding le
loop-i-preserved g c = let a = c.args in
    let i : ℕ = c.loop-i.i in
    let small : get_or a.bytes i 0 < 256 = search rules in
    wrote_as (then c.loop-i.invariant (wrote c.put_u8-next.ensures.buf_after c.put_u8-next.ensures.place_after))
    (rw (mod-eq_of_lt small) (sym (take_more a.bytes i 0 (omega arith))))

pub returns-then-left : goal.returns-then-left
returns-then-left g c = let a = c.args in
    let w = wrote_as c.loop-i.invariant (take_all c.loop-i.i a.bytes (omega arith)) in record { buf_after = w.0; place_after = w.1 }

pub returns-clause-buf_after : goal.returns-clause-buf_after
returns-clause-buf_after g c = let a = c.args in
    rw c.copy_from_slice.ensures.after (mid-over a.bytes a.buf.now a.at _ (omega arith) (omega arith))
