-- `packet::put_parts` meets its contract: with the packets of what is left of the payload still owed, a turn puts the first of
-- them. Assumes nothing.
use Prim.Native.Nat.{◌+◌, ◌-◌}
use mathlib.Core.Path.{◌≡◌, refl, ap, ◌∙◌}
use mathlib.Core.List.{◌++◌}
use lib.Dec.{eqb}
use lib.ListN.{length, length-append}
use native.Mathlib.Omega.{arith}
use Rattle.wire.proofs.Puts.{owes-less, owes-last, put_nothing, put_as, place_in}
use Rattle.packet.specs.Cut.{part_bytes, packets_of}
use Rattle.packet.proofs.Cutting.{packets_left, left-turn, left-none, left-parts}
use Rattle.packet.proofs.put_parts.Goals as goal

pub loop-i-init : goal.loop-i-init
loop-i-init c = let a = c.args in
    rw (c.into_iter-i-iterator.ensures.into_iter_gives, c.enumerate-i-items.ensures.source, c.enumerate-i-items.ensures.count, c.chunks.ensures.rest, c.chunks.ensures.size) (record {
      size = refl;
      left = refl;
      within = omega arith;
      owed = λ n w. put_as w (left-parts a.room a.payload.now);
    })

pub loop-i-preserved : goal.loop-i-preserved
loop-i-preserved c = let a = c.args in
    let l = c.loop-i in
    let steps = c.in-Some.ensures.steps in
    let rest = l.i-iterator.iter.rest.now in
    let after = c.next.new.self.iter.rest.now in
    let number : 1 + c.next.new.self.count ≡ 1 + c.in-Some.i + 1 = omega (arith, steps.1, steps.2) in
    let more : packets_left a.room rest (1 + l.i-iterator.count)
    ≡ part_bytes (1 + c.in-Some.i) (eqb (l.left - length c.in-Some.part.now) 0) c.in-Some.part.now ++ packets_left a.room after (1 + c.in-Some.i + 1) =
    rw (l.invariant.left, ← steps.1) (left-turn a.room (1 + c.in-Some.i) rest c.in-Some.part.now after (omega arith) steps.0.1.0 (rw l.invariant.size at steps.0.1.1) (omega (arith, steps.0.1.2))) in
    record {
      size = steps.0.0 ∙ l.invariant.size;
      left = omega (arith, l.invariant.left, simp length-append at (ap length steps.0.1.0));
      within = place_in c.put_part.ensures;
      owed = rw number (owes-less a.w.now (packets_of (8 + a.room) a.payload.now) l.w _ _ l.invariant.owed more c.put_part.ensures);
    }

pub returns : goal.returns
returns c = let a = c.args in
    let l = c.loop-i in
    let none : length l.i-iterator.iter.rest.now ≡ 0 = c.in-None.ensures.steps.0.1.0 in
    owes-last a.w.now (packets_of (8 + a.room) a.payload.now) l.w _ l.invariant.owed
    (left-none a.room l.i-iterator.iter.rest.now (1 + l.i-iterator.count) none)
    (put_nothing l.w l.invariant.within)
