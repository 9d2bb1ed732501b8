-- `response::lists::FeaturesListed::put` meets its contract. Assumes nothing.
use Rattle.wire.proofs.Puts.{then, put_as}
use Rattle.response.proofs.Writing.{alone, low}
use Rattle.wire.specs.Fields.{flat}
use Rattle.response.specs.Lists.{feature_bytes}
use native.Mathlib.Omega.{arith}
use mathlib.Core.Path.{◌≡◌}
use lib.ListN.{length, drop, length-drop}
use Prim.Native.Nat.{◌%◌, ◌^◌}
use Rattle.wire.proofs.Le.{le-mod}
use Rattle.response.proofs.lists.FeaturesListed.put.Goals as goal

pub returns : goal.returns
unfolding flat feature_bytes
returns c = let p = c.args.p.now in
    let size : c.left.result % 256 ^ 4 ≡ length (drop 1 p) % 256 ^ 4 = omega (arith, length-drop 1 p) in
    then (rw c.get_u8.ensures at c.put_u8.ensures)
    (then (low 4 _ (length (drop 1 p)) size (put_as c.put_u32_le.ensures (le-mod 4 _))) (alone (rw c.rest_after.ensures at c.put_slice.ensures)))
