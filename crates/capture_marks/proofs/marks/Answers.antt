-- `capture_marks::marks` meets its contract. Assumes nothing.
use mathlib.Core.Path.{sym}
use native.Mathlib.Omega.{arith}
use Rattle.std.proofs.lemmas.Result.{err_from_is_err_and}
use Rattle.capture_marks.proofs.Answers.{count-is, answer-refused, answer-few, answer-marks}
use Rattle.capture_marks.proofs.marks.Goals as goal

pub returns-then-out-count : goal.returns-then-out-count
returns-then-out-count c = let w = answer-few _ _ (sym c.in_ok-count.ensures) c.if-out-count.true in record { value = w.0; out_after = w.1 }

pub put_marks-requires : goal.put_marks-requires
put_marks-requires c = let w = count-is _ (sym c.in_ok-count.ensures) in record { marked_value = omega (arith, w); marked_in_bounds = omega (arith, w) }

pub returns-in_err-count : goal.returns-in_err-count
returns-in_err-count c = let p = err_from_is_err_and c.from_residual.result c.from_residual.ensures.1 in
    let w = answer-refused _ _ (sym c.in_err-count.ensures) in record { value = rw (p.1, p.2) w.0; out_after = w.1 }

pub returns : goal.returns
returns c = let w = answer-marks _ _ (sym c.in_ok-count.ensures) c.if-out-count.false c.put_marks.ensures in record { value = w.0; out_after = w.1 }
