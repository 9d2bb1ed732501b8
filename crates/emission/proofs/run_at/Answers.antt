-- `emission::run_at` meets its contract. Assumes nothing.
use lib.ListN.{length-take, drop}
use Rattle.emission.specs.Inner.{longer_run}
use Rattle.script.specs.declared.Found.TheVariants.{Record}
use Rattle.script.specs.Records.{record_at}
use Rattle.script.proofs.Walk
use Rattle.emission.specs.Runs.{NumberedRun, numbered_run}
use Rattle.script.proofs.Stops.{no_record}
use Rattle.emission.proofs.Aheads.{reached-start, reached-next, none_left, ahead-other, ahead-cut, ahead-end}
use Prim.Native.Nat.{ℕ, ◌+◌, ◌-◌}
use mathlib.Core.Path.{◌≡◌, sym, ap, ◌∙◌}
use native.Mathlib.Omega.{arith}
use Rattle.emission.proofs.run_at.Goals as goal

pub loop-k-init : goal.loop-k-init
loop-k-init c = reached-start _ _ _

pub returns-then-k-kind : goal.returns-then-k-kind
returns-then-k-kind c = none_left c.args.s.now _ _ (numbered_run c.loop-k.run) (ahead-other c.args.s.now c.loop-k.run.next _ (sym c.record_at.ensures ∙ c.in-Record.is) c.if-k-kind.true) c.loop-k.invariant

pub overflow_add-after : goal.overflow_add-after
overflow_add-after c = omega (arith, (Walk.lies c.args.s.now c.loop-k.run.next (sym c.record_at.ensures ∙ c.in-Record.is)))

pub slice_bounds-longer-start : goal.slice_bounds-longer-start
slice_bounds-longer-start c = omega (arith, (Walk.lies c.args.s.now c.loop-k.run.next (sym c.record_at.ensures ∙ c.in-Record.is)))

pub slice_bounds-longer-end : goal.slice_bounds-longer-end
slice_bounds-longer-end c = omega (arith, (Walk.lies c.args.s.now c.loop-k.run.next (sym c.record_at.ensures ∙ c.in-Record.is)))

pub longer-run-requires : goal.longer-run-requires
longer-run-requires c = let l = (Walk.lies c.args.s.now c.loop-k.run.next (sym c.record_at.ensures ∙ c.in-Record.is)) in
    let to = c.loop-k.invariant.next in
    let n = length-take (c.in-Record.start + c.in-Record.len - c.in-Record.start) (drop c.in-Record.start c.args.s.now) in
    (omega (arith, l, to), omega (arith, l, to, n))

pub loop-k-smaller : goal.loop-k-smaller
unfolding longer_run
loop-k-smaller c = let e : c.longer-run.result.next ≡ c.in-Record.start + c.in-Record.len = ap (λ (x : NumberedRun). x.next) c.longer-run.ensures in
    omega (arith, (Walk.lies c.args.s.now c.loop-k.run.next (sym c.record_at.ensures ∙ c.in-Record.is)), e)

pub loop-k-preserved : goal.loop-k-preserved
loop-k-preserved c = let k = c.args.kind in
    let e : record_at c.args.s.now c.loop-k.run.next ≡ Record k c.in-Record.start c.in-Record.len = (sym c.record_at.ensures ∙ c.in-Record.is) ∙ ap (λ (j : ℕ). Record j c.in-Record.start c.in-Record.len) c.if-k-kind.false in
    rw c.longer-run.ensures (reached-next c.args.s.now _ k (numbered_run c.loop-k.run) c.in-Record.start c.in-Record.len e c.loop-k.invariant)

pub returns-in_default : goal.returns-in_default
returns-in_default c = let s = c.args.s.now in
    let run = c.loop-k.run in
    let e = no_record c.record_at.ensures c.in_default.not-Record (ahead-cut s run.next _) (ahead-end s run.next _) in
    none_left s _ _ (numbered_run run) e c.loop-k.invariant
