-- `wire::part_of` meets its contract. Assumes nothing.
use Rattle.wire.proofs.Parts.{part-past, part-rest, rest-is}
use native.Mathlib.Nat.{add-sub_cancel_left}
use mathlib.Core.Path.{sym, ◌∙◌}
use native.Mathlib.Omega.{arith}
use Rattle.wire.specs.Part.{part_bytes}
use Rattle.wire.proofs.part_of.Goals as goal

pub returns-then-rest-eq0 : goal.returns-then-rest-eq0
returns-then-rest-eq0 c = let a = c.args in sym (part-past a.s.now a.part (omega arith))

pub returns-then-rest-len : goal.returns-then-rest-len
returns-then-rest-len c = let a = c.args in
    rest-is a.s.now a.part.start ∙ sym (part-rest a.s.now a.part (omega arith))

pub returns : goal.returns
unfolding part_bytes
returns c = rw (add-sub_cancel_left)
