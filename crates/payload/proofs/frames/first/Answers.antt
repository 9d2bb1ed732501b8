-- `payload::frames::first` meets its contract. Assumes nothing.
use mathlib.Core.Path.{sym, ◌∙◌}
use Rattle.std.proofs.lemmas.Result.{err_from_is_err_and}
use Rattle.payload.proofs.Onto.{first-empty, first_some, first-packet}
use Rattle.payload.proofs.frames.first.Goals as goal

pub returns-then-is_empty : goal.returns-then-is_empty
returns-then-is_empty c = first-empty _ (sym c.is_empty.ensures ∙ c.if-is_empty.true)

pub returns-in_err-next : goal.returns-in_err-next
returns-in_err-next c =
    let p = err_from_is_err_and c.from_residual.result c.from_residual.ensures.1 in
    rw (p.1, p.2) (first_some _ (sym c.is_empty.ensures ∙ c.if-is_empty.false) (rw c.in_err-next.was at c.packet_at.ensures))

pub returns : goal.returns
returns c = first-packet _ (sym c.is_empty.ensures ∙ c.if-is_empty.false) (rw c.in_ok-next.was at c.packet_at.ensures)
