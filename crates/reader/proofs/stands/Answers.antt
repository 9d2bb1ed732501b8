-- `reader::stands` meets its contract. Assumes nothing.
use mathlib.Core.Path.{sym}
use borrow.Author.Tests.{lt-leb, le-leb}
use Rattle.reader.proofs.stands.Goals as goal

pub returns-then-at-gt-MAX_COLUMNS : goal.returns-then-at-gt-MAX_COLUMNS
returns-then-at-gt-MAX_COLUMNS c = let a = c.args.at in sym (simp (lt-leb a.count 128 c.if-at-gt-MAX_COLUMNS.true))

pub returns-then-at : goal.returns-then-at
returns-then-at c = let a = c.args.at in sym (simp (le-leb a.count 128 c.if-at-gt-MAX_COLUMNS.false, lt-leb a.columns_left a.count c.if-at.true))

pub returns-then-at-2 : goal.returns-then-at-2
returns-then-at-2 c = let a = c.args.at in sym (simp (le-leb a.count 128 c.if-at-gt-MAX_COLUMNS.false, le-leb a.columns_left a.count c.if-at.false, lt-leb a.cells_left a.count c.if-at-2.true))

pub returns : goal.returns
returns c = let a = c.args.at in sym (simp (le-leb a.count 128 c.if-at-gt-MAX_COLUMNS.false, le-leb a.columns_left a.count c.if-at.false, le-leb a.cells_left a.count c.if-at-2.false))
