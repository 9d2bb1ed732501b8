-- `rpc::call_at` meets its contract. Assumes nothing.
use mathlib.Core.Path.{◌≡◌, sym, ap, ◌∙◌}
use mathlib.Core.List.{List}
use Prim.Native.Nat.{ℕ}
use lib.ListN.{length}
use borrow.Author.Rules.{rules}
use Rattle.std.specs.Prelude.{Result}
use Rattle.std.proofs.lemmas.Result.{err_from_is_err_and}
use Rattle.refusals.specs.declared.Refusal.{Refusal}
use Rattle.refusals.specs.declared.Refusal.TheVariants.{CallCut}
use Rattle.refusals.specs.Refused.{numbered}
use Rattle.payload.specs.Places.{Source, Place, body_source}
use Rattle.payload.specs.declared.frames.Frame.{Frame}
use Rattle.payload.specs.Frames.{source_from, body_frame}
use Rattle.payload.proofs.Onto.{body-read}
use Rattle.payload.proofs.CodeReads.{then-got, then-not}
use Rattle.rpc.specs.declared.Head.{Head}
use Rattle.rpc.specs.Rpc.{in_head, head_at, call_at, told}
use Rattle.rpc.specs.Answers.{placed}
use Rattle.rpc.proofs.Told.{mapped-ok, mapped-err, renamed-got, renamed-not, placed-told}
use Rattle.rpc.proofs.Calls.{parameters-got, parameters-not}
use Rattle.rpc.proofs.call_at.Goals as goal

-- what the frame of the whole body reads is the body
read : (body : List ℕ) {frame : Frame} (at : ℕ) (r : Result (Head × Place) Refusal) → frame ≡ body_frame (length body)
    → numbered r ≡ placed (head_at (source_from body frame) at) → numbered r ≡ placed (head_at (body_source body) at)
read body at r e q = q ∙ ap (λ (s : Source). placed (head_at s at)) (body-read body e)

pub returns-in_err-head : goal.returns-in_err-head
unfolding call_at
returns-in_err-head c = let a = c.args in
    let r = read a.body.now a.at _ c.body-frame.ensures c.head_at.ensures in
    let p = err_from_is_err_and c.from_residual.result c.from_residual.ensures.1 in
    let m = mapped-err _ c.head_at.result c.map_err.ensures.cases c.in_err-head.was in
    let is : c.in_err-head.field-0.0 ≡ CallCut = let h = m.2 in search rules in
    rw (p.1, p.2, is) (sym (ap (told a.number) (then-not _ (renamed-not in_head (placed-told _ r m.1)))))

pub returns-in_err-seen : goal.returns-in_err-seen
unfolding call_at
returns-in_err-seen c = let a = c.args in
    let r = read a.body.now a.at _ c.body-frame.ensures c.head_at.ensures in
    let p = err_from_is_err_and c.from_residual-in_err-seen.result c.from_residual-in_err-seen.ensures.1 in
    let m = mapped-ok _ c.head_at.result c.map_err.ensures.cases c.in_ok-head.was in
    rw (p.1, p.2)
    (sym (ap (told a.number) (then-got _ (renamed-got in_head (placed-told _ r m))) ∙ parameters-not a.number c.in_ok-head.head _ c.parameters_at.ensures c.in_err-seen.was))

pub returns : goal.returns
unfolding call_at
returns c = let a = c.args in
    let r = read a.body.now a.at _ c.body-frame.ensures c.head_at.ensures in
    let m = mapped-ok _ c.head_at.result c.map_err.ensures.cases c.in_ok-head.was in
    c.tell.ensures
    ∙ sym (ap (told a.number) (then-got _ (renamed-got in_head (placed-told _ r m))) ∙ parameters-got a.number c.in_ok-head.head _ c.parameters_at.ensures c.in_ok-seen.was)
