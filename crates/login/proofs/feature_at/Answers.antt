-- `login::feature_at` meets its contract. Assumes nothing.
use Rattle.login.proofs.Walk.{no_more, terminated, found}
use mathlib.Core.Path.{refl}
use Rattle.login.specs.Inner.{follow, Lies}
use Prim.Native.Nat.{◌-◌, ◌≤◌}
use lib.ListN.{length}
use native.Mathlib.Omega.{arith}
use Rattle.login.proofs.feature_at.Goals as goal

pub returns-then-left-lt-FEATURE_HEAD : goal.returns-then-left-lt-FEATURE_HEAD
unfolding follow Lies
returns-then-left-lt-FEATURE_HEAD c = let a = c.args in
    record { at_value = no_more a.body.now a.at (rw c.left.ensures at c.if-left-lt-FEATURE_HEAD.true); lies = tt }

pub returns-then-id : goal.returns-then-id
unfolding follow Lies
returns-then-id c = let a = c.args in
    let h : 5 ≤ length a.body.now - a.at = omega (arith, c.left.ensures) in
    record { at_value = terminated a.body.now a.at h c.if-id.true; lies = tt }

pub returns : goal.returns
unfolding Lies
returns c = let a = c.args in
    let s = a.body.now in
    let h : 5 ≤ length s - a.at = omega (arith, c.left.ensures) in
    record { at_value = rw c.get_u32_le-len.ensures (found s a.at h c.if-id.false); lies = (refl, omega arith) }
