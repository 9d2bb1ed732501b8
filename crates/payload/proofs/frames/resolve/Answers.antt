-- `payload::frames::resolve` meets its contract. Assumes nothing.
use mathlib.Core.Path.{sym}
use native.Mathlib.Omega.{arith}
use Rattle.std.proofs.lemmas.Result.{err_from_is_err_and}
use Rattle.payload.proofs.Spots.{walking-first, walking_end, walking-fits, walking_on, walk-stop, walk_ends, walk_none, held-of, lost-of}
use Rattle.payload.proofs.Onto.{lying, first-is, none-is}
use Rattle.payload.proofs.frames.resolve.Goals as goal

pub returns-in_err-front : goal.returns-in_err-front
returns-in_err-front c = let a = c.args in
    let p = err_from_is_err_and c.from_residual.result c.from_residual.ensures.1 in
    let m = lost-of c.first.result c.map_err.ensures.cases c.in_err-front.was in
    rw (p.1, p.2, m.2) (walk_none a.lent.now _ _ (none-is _ c.first.ensures m.1))

pub overflow_add-at : goal.overflow_add-at
overflow_add-at c = let o = first-is _ c.first.ensures (held-of _ c.map_err.ensures.cases c.in_ok-front.was) in omega (arith, lying _ _ o.lies, o.number)

pub loop-number-init : goal.loop-number-init
loop-number-init c = walking-first _ _ (first-is _ c.first.ensures (held-of _ c.map_err.ensures.cases c.in_ok-front.was))

pub returns-in_err-next : goal.returns-in_err-next
returns-in_err-next c =
    let p = err_from_is_err_and c.from_residual-in_err-next.result c.from_residual-in_err-next.ensures.1 in
    let m = lost-of c.packet_at.result c.map_err-in-loop-number.ensures.cases c.in_err-next.was in
    rw (p.1, p.2, m.2)
    (walk-stop _ _ c.loop-number.invariant.walked c.loop-number-test.true (walking_end c.loop-number.invariant (sym (rw m.1 at c.packet_at.ensures))))

pub overflow_add-at-in-loop-number : goal.overflow_add-at-in-loop-number
overflow_add-at-in-loop-number c =
    let e = held-of c.packet_at.result c.map_err-in-loop-number.ensures.cases c.in_ok-next.was in
    omega (arith, walking-fits c.loop-number.invariant (sym (rw e at c.packet_at.ensures)))

pub overflow_add-at-in-loop-number-2 : goal.overflow_add-at-in-loop-number-2
overflow_add-at-in-loop-number-2 c =
    let e = held-of c.packet_at.result c.map_err-in-loop-number.ensures.cases c.in_ok-next.was in
    omega (arith, walking-fits c.loop-number.invariant (sym (rw e at c.packet_at.ensures)))

pub loop-number-preserved : goal.loop-number-preserved
loop-number-preserved c =
    let e = held-of c.packet_at.result c.map_err-in-loop-number.ensures.cases c.in_ok-next.was in
    walking_on c.loop-number.invariant c.loop-number-test.true (sym (rw e at c.packet_at.ensures))

pub returns : goal.returns
returns c = walk_ends _ _ c.loop-number.invariant.walked c.loop-number-test.false c.if-packet-eq0.false c.within.ensures
