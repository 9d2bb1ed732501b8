-- `packet::packet_count` meets its contract. Assumes nothing.
use mathlib.Core.Path.{◌≡◌, sym}
use Prim.Native.Nat.{◌+◌, ◌-◌}
use native.Mathlib.Omega.{arith}
use native.Mathlib.Nat.{div-le_self}
use Rattle.packet.specs.Agreed.{part_count, packet_count}
use Rattle.packet.proofs.Counts.{rounded-up}
use borrow.Author.Rules.{rules}
use Rattle.packet.proofs.packet_count.Goals as goal

pub returns-then-size-le8 : goal.returns-then-size-le8
unfolding packet_count part_count
returns-then-size-le8 c = let none : c.args.size - 8 ≡ 0 = omega arith in (rw none, search rules)

pub returns : goal.returns
unfolding packet_count
returns c = let a = c.args in
    (sym (rounded-up (a.size - 8) a.n (omega arith)), omega (arith, div-le_self (a.n + (a.size - 8 - 1)) (a.size - 8)))
