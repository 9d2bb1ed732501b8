-- `payload::frames::onward` meets its contract. Assumes nothing.
use mathlib.Core.Path.{sym}
use Prim.Native.Nat.{◌+◌, ◌*◌}
use native.Mathlib.Omega.{arith}
use lib.ListN.{drop, length-drop}
use Rattle.std.proofs.lemmas.Result.{err_from_is_err_and}
use Rattle.payload.proofs.Onto.{lying, moved_by_lem}
use Rattle.payload.proofs.Walk.{fits}
use Rattle.payload.proofs.frames.onward.Goals as goal

pub returns-in_err-next : goal.returns-in_err-next
returns-in_err-next c =
    let p = err_from_is_err_and c.from_residual.result c.from_residual.ensures.1 in
    rw (p.1, p.2) (moved_by_lem _ _ (rw c.in_err-next.was at c.packet_at.ensures))

pub overflow_add-result : goal.overflow_add-result
overflow_add-result c = let a = c.args in
    let f = a.frame in
    let l = a.lent.now in
    let m = fits (f.number + 1) f.last (drop (f.end + 8 * f.number) l) (sym (rw c.in_ok-next.was at c.packet_at.ensures)) in
    omega (arith, m.1, length-drop (f.end + 8 * f.number) l, lying l f c.requires)

pub returns : goal.returns
returns c = moved_by_lem _ _ (rw c.in_ok-next.was at c.packet_at.ensures)
