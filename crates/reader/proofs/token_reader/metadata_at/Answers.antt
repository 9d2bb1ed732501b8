-- `reader::token_reader::metadata_at` meets its contract. Assumes nothing.
use mathlib.Core.Path.{refl, sym, ap, ◌∙◌}
use borrow.Author.Tests.{le-leb, lt-leb}
use Rattle.payload.proofs.CodeReads.{number-got, number-not, must-hold, must-not}
use Rattle.reader.proofs.CodeTokens.{handed-on}
use Rattle.reader.specs.Code.{token_read}
use Rattle.reader.specs.ReadTokens.{metadata_at}
use Rattle.reader.proofs.token_reader.metadata_at.Goals as goal

pub returns-in_err-count : goal.returns-in_err-count
unfolding metadata_at
returns-in_err-count c = handed-on token_read (λ n. refl) _ _ c.from_residual.ensures.1 (number-not _ _ _ _ c.u16_at.ensures.0 c.in_err-count.was)

pub returns-then-count : goal.returns-then-count
unfolding metadata_at
returns-then-count c = sym (ap token_read (number-got _ _ _ _ c.u16_at.ensures.0 c.in_ok-count.was ∙ must-not _ _ (lt-leb _ _ c.if-count.true)))

pub returns : goal.returns
unfolding metadata_at
returns c = sym (ap token_read (number-got _ _ _ _ c.u16_at.ensures.0 c.in_ok-count.was ∙ must-hold _ _ (le-leb _ _ c.if-count.false)))
