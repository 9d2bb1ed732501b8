-- `response::put::put_info_head` meets its contract. Assumes nothing.
use Rattle.wire.proofs.Puts.{then}
use Rattle.response.proofs.Writing.{low, low_same}
use Rattle.wire.specs.Fields.{flat}
use native.Mathlib.Omega.{arith}
use mathlib.Core.Path.{◌≡◌}
use Prim.Native.Nat.{◌+◌, ◌%◌}
use Rattle.wire.specs.Le.{le}
use mathlib.Core.List.{[]}
use Rattle.wire.proofs.Puts.{then-fields}
use Rattle.response.specs.Login.{info_option}
use Rattle.response.proofs.put.put_info_head.Goals as goal

pub returns : goal.returns
unfolding flat
returns c = let sts = c.args.sts in
    let spn = c.args.spn in
    let offset : le 4 (22 + sts % 0x100000000) ≡ le 4 (22 + sts) = low_same 4 (22 + sts % 0x100000000) (22 + sts) (omega arith) in
    then c.put_u8.ensures
    (then (low 4 _ (22 + sts + spn) (omega arith) c.put_u32_le.ensures)
    (then c.put_u32_le-2.ensures
    (then-fields (info_option 0x01 sts 22 []) (info_option 0x02 spn (22 + sts) []) c.put_info_option.ensures (rw offset at c.put_info_option-2.ensures))))
