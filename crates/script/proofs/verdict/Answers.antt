-- `script::verdict` meets its contract. Assumes nothing.
use Rattle.script.specs.declared.Stage.{Stage}
use Rattle.std.proofs.Common.{Err}
use Rattle.refusals.specs.declared.Refusal.TheVariants.{RecordCut}
use Rattle.std.proofs.lemmas.Result.{err_from_is_err_and}
use Rattle.refusals.proofs.Numbers.{number-not-0}
use Rattle.script.specs.Records.{records}
use Rattle.script.specs.Verdict.{verdict_from, verdict_of}
use Rattle.script.proofs.Walk
use Rattle.script.proofs.Verdicts.{answer_is, verdict-cut, verdict-end, verdict-bad, verdict-next}
use Prim.Native.Nat.{◌+◌}
use mathlib.Core.Path.{refl, sym, ap, ◌∙◌}
use lib.ListN.{drop}
use native.Mathlib.Omega.{arith}
use borrow.Author.Rules.{rules}
use Rattle.script.proofs.verdict.Goals as goal

pub loop-kind-init : goal.loop-kind-init
unfolding verdict_of
loop-kind-init c = (search rules, refl)

pub overflow_add-next : goal.overflow_add-next
overflow_add-next c = omega (arith, (Walk.lies c.args.s.now c.loop-kind.at (sym c.record_at.ensures ∙ c.in-Record.is)))

pub slice_bounds-payload-start : goal.slice_bounds-payload-start
slice_bounds-payload-start c = omega (arith, (Walk.lies c.args.s.now c.loop-kind.at (sym c.record_at.ensures ∙ c.in-Record.is)))

pub slice_bounds-payload-end : goal.slice_bounds-payload-end
slice_bounds-payload-end c = omega (arith, (Walk.lies c.args.s.now c.loop-kind.at (sym c.record_at.ensures ∙ c.in-Record.is)))

pub loop-kind-smaller : goal.loop-kind-smaller
loop-kind-smaller c = omega (arith, (Walk.lies c.args.s.now c.loop-kind.at (sym c.record_at.ensures ∙ c.in-Record.is)))

pub returns-in-Cut : goal.returns-in-Cut
returns-in-Cut c = answer_is c.args.s.now (Err RecordCut) (sym (verdict-cut _ _ _ (sym c.record_at.ensures ∙ c.in-Cut.is)) ∙ c.loop-kind.invariant.1)

pub returns-in-End : goal.returns-in-End
returns-in-End c = answer_is c.args.s.now c.end_fault.result (c.end_fault.ensures ∙ sym (verdict-end _ _ _ (sym c.record_at.ensures ∙ c.in-End.is)) ∙ c.loop-kind.invariant.1)

pub returns-in_err-fault-in-Record : goal.returns-in_err-fault-in-Record
returns-in_err-fault-in-Record c =
    let p = err_from_is_err_and c.from_residual.result c.from_residual.ensures.1 in
    let r = c.in_err-fault-in-Record.field-0.0 in
    rw (p.1, p.2)
    (answer_is c.args.s.now (Err r)
    (sym (verdict-bad c.args.s.now c.loop-kind.at _ _ c.in-Record.start c.in-Record.len _ (sym c.record_at.ensures ∙ c.in-Record.is) c.in_err-fault-in-Record.ensures (number-not-0 r)) ∙ c.loop-kind.invariant.1))

pub loop-kind-preserved : goal.loop-kind-preserved
loop-kind-preserved c = let l = (Walk.lies c.args.s.now c.loop-kind.at (sym c.record_at.ensures ∙ c.in-Record.is)) in (
  l.1,
  ap (λ (st : Stage). verdict_from st (records (drop (c.in-Record.start + c.in-Record.len) c.args.s.now))) c.stage_after-stage.ensures
      ∙ sym (verdict-next c.args.s.now c.loop-kind.at _ _ c.in-Record.start c.in-Record.len _ (sym c.record_at.ensures ∙ c.in-Record.is) c.in_ok-fault-in-Record.ensures refl) ∙ c.loop-kind.invariant.1,
)
