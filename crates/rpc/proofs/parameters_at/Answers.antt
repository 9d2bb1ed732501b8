-- `rpc::parameters_at` meets its contract. The loop's invariant: the parameters up to the place were passed, and what is left of the
-- parameters is read from there. The measure is what is left of the body. Assumes nothing.
use mathlib.Core.Path.{◌≡◌, ap, ◌∙◌}
use mathlib.Core.List.{List}
use Rattle.payload.specs.Places.{Source, body_source}
use Rattle.payload.specs.declared.frames.Frame.{Frame}
use Rattle.payload.specs.Frames.{source_from, body_frame}
use Rattle.payload.proofs.Onto.{body-read}
use Rattle.std.specs.Prelude.{Result}
use Rattle.std.proofs.lemmas.Result.{err_from_is_err_and}
use Rattle.refusals.specs.declared.Refusal.{Refusal}
use Rattle.refusals.specs.Refused.{numbered}
use Rattle.rpc.specs.declared.ParameterAt.{ParameterAt}
use Rattle.rpc.specs.Rpc.{parameter_at}
use Rattle.rpc.specs.Answers.{parameter_read}
use Rattle.rpc.proofs.Told.{parameter-told}
use Rattle.rpc.proofs.Inside.{parameter-onward}
use Rattle.rpc.proofs.Walk.{begins, moves, passes, stops, falls}
use Prim.Native.Nat.{ℕ}
use lib.ListN.{length}
use native.Mathlib.Omega.{arith}
use Rattle.rpc.proofs.parameters_at.Goals as goal
use Rattle.rpc.proofs.parameters_at.Goals.{then-count-number, else-count-number}

-- what the frame of the whole body reads is the body
read : (body : List ℕ) {frame : Frame} (at : ℕ) (r : Result ParameterAt Refusal) → frame ≡ body_frame (length body)
    → numbered r ≡ parameter_read (parameter_at (source_from body frame) at) → numbered r ≡ parameter_read (parameter_at (body_source body) at)
read body at r e q = q ∙ ap (λ (s : Source). parameter_read (parameter_at s at)) (body-read body e)

pub loop-at-init : goal.loop-at-init
loop-at-init c = let a = c.args in begins (body_source a.body.now) a.start a.number

pub returns-in_err-read : goal.returns-in_err-read
returns-in_err-read c = let a = c.args in
    let r = read a.body.now c.loop-at.at _ c.body-frame.ensures c.parameter_at.ensures in
    let p = err_from_is_err_and c.from_residual.result c.from_residual.ensures.1 in
    rw (p.1, p.2) (falls (body_source a.body.now) a.start a.number c.loop-at.invariant _ (omega arith) (parameter-told _ r c.in_err-read.was))

pub overflow_add-count : goal.overflow_add-count
overflow_add-count c = omega (arith, c.loop-at.invariant.below)

pub loop-at-smaller : goal.loop-at-smaller
loop-at-smaller c = let a = c.args in
    let r = read a.body.now c.loop-at.at _ c.body-frame.ensures c.parameter_at.ensures in
    let onto = parameter-onward (body_source a.body.now) c.loop-at.at (parameter-told _ r c.in_ok-read.was) in
    omega arith

pub loop-at-preserved : goal.loop-at-preserved
loop-at-preserved c = let a = c.args in
    let r = read a.body.now c.loop-at.at _ c.body-frame.ensures c.parameter_at.ensures in
    let told = parameter-told _ r c.in_ok-read.was in
    elim c.if-count-number.branch [
      | then-count-number w ↦
          rw (w.seen-is ∙ w.seen_with-seen.ensures) (moves (body_source a.body.now) a.start a.number c.loop-at.invariant c.in_ok-read.read (omega arith) told)
      | else-count-number w ↦
          rw w.seen-is (passes (body_source a.body.now) a.start a.number c.loop-at.invariant c.in_ok-read.read (omega arith) told w.if-count-number.false)
    ]

pub returns : goal.returns
returns c = let a = c.args in stops (body_source a.body.now) a.start a.number c.loop-at.invariant (omega arith)
