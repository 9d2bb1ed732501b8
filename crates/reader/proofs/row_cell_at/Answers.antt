-- `reader::row_cell_at` meets its contract. Assumes nothing.
use mathlib.Core.Path.{refl, sym, ap}
use Rattle.payload.proofs.CodeReads.{then-got, then-not}
use Rattle.cells.proofs.CodeReads.{cell-is, cell-is-not}
use Rattle.reader.specs.Code.{token_read}
use Rattle.reader.proofs.CodeTokens.{handed-on}
use Rattle.reader.proofs.row_cell_at.Goals as goal

pub returns-in_err-cell : goal.returns-in_err-cell
returns-in_err-cell c = handed-on token_read (λ n. refl) _ _ c.from_residual.ensures.1 (then-not _ (cell-is-not _ c.cell_at.ensures c.in_err-cell.was))

pub returns : goal.returns
returns c = sym (ap token_read (then-got _ (cell-is _ c.cell_at.ensures c.in_ok-cell.was)))
