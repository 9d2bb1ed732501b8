-- `reader::next_at` meets its contract. Assumes nothing.
use mathlib.Core.Path.{sym, ap, ◌∙◌}
use borrow.Author.Tests.{le-ltb, lt-ltb}
use Rattle.payload.proofs.CodeReads.{if-so, if-not}
use Rattle.reader.specs.Code.{token_read}
use Rattle.reader.proofs.next_at.Goals as goal

pub returns-then-at-gt0 : goal.returns-then-at-gt0
returns-then-at-gt0 c = c.column_at.ensures ∙ sym (ap token_read (if-so _ _ (lt-ltb _ _ c.if-at-gt0.true)))

pub returns-then-at-gt0-2 : goal.returns-then-at-gt0-2
returns-then-at-gt0-2 c = c.row_cell_at.ensures ∙ sym (ap token_read (if-not _ _ (le-ltb _ _ c.if-at-gt0.false) ∙ if-so _ _ (lt-ltb _ _ c.if-at-gt0-2.true)))

pub returns : goal.returns
returns c = c.token_at.ensures ∙ sym (ap token_read (if-not _ _ (le-ltb _ _ c.if-at-gt0.false) ∙ if-not _ _ (le-ltb _ _ c.if-at-gt0-2.false)))
