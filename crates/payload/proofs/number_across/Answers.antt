-- `payload::number_across` meets its contract. Assumes nothing.
use mathlib.Core.Path.{sym, ◌∙◌}
use native.Mathlib.Omega.{arith}
use Rattle.std.proofs.lemmas.Result.{err_from_is_err_and}
use Rattle.payload.proofs.Reach.{byte-within}
use Rattle.payload.proofs.CodeNumbers.{across-nowhere, across-begins, across-past, across-more, across-room, across-ends}
use Rattle.payload.proofs.number_across.Goals as goal

pub returns-then-not-lies : goal.returns-then-not-lies
returns-then-not-lies c = (across-nowhere _ _ _ _ (sym c.lies.ensures ∙ c.if-not-lies.true) c.requires.0, tt)

pub loop-i-init : goal.loop-i-init
loop-i-init c = across-begins _ _ _ _ (sym c.lies.ensures ∙ c.if-not-lies.false) (omega arith)

pub returns-in_err-here : goal.returns-in_err-here
returns-in_err-here c =
    let p = err_from_is_err_and c.from_residual.result c.from_residual.ensures.1 in
    rw (p.1, p.2) (across-past c.loop-i.invariant c.loop-i-test.true (rw c.in_err-here.was at (sym c.walk.ensures)), tt)

pub overflow_mul-here : goal.overflow_mul-here
overflow_mul-here c = omega (arith, byte-within _ _ _ (rw c.in_ok-here.was at (sym c.walk.ensures)))

pub overflow_add-at-in-loop-i-2 : goal.overflow_add-at-in-loop-i-2
overflow_add-at-in-loop-i-2 c = omega (arith, byte-within _ _ _ (rw c.in_ok-here.was at (sym c.walk.ensures)))

pub bounds-lent-at : goal.bounds-lent-at
bounds-lent-at c = byte-within _ _ _ (rw c.in_ok-here.was at (sym c.walk.ensures))

pub overflow_add-value : goal.overflow_add-value
overflow_add-value c = omega (arith, across-room c.loop-i.invariant c.loop-i-test.true (rw c.in_ok-here.was at (sym c.walk.ensures)) c.worth-value.ensures.0 c.worth-value.ensures.1 c.requires.1)

pub loop-i-preserved : goal.loop-i-preserved
loop-i-preserved c = across-more c.loop-i.invariant c.loop-i-test.true (rw c.in_ok-here.was at (sym c.walk.ensures)) c.worth-value.ensures.0 c.worth-value.ensures.1 (omega arith)

pub returns : goal.returns
returns c = across-ends c.loop-i.invariant c.requires.0 c.loop-i-test.false
