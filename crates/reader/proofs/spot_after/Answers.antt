-- `reader::spot_after` meets its contract. Assumes nothing.
use Rattle.reader.specs.Positions.{after}
use Rattle.reader.proofs.spot_after.Goals as goal

pub returns-in-ColMetadata : goal.returns-in-ColMetadata
unfolding after
returns-in-ColMetadata c = rw c.in-ColMetadata.is

pub returns-in-Column : goal.returns-in-Column
unfolding after
returns-in-Column c = rw (c.in-Column.is, c.saturating_sub.ensures)

pub returns-in-Row : goal.returns-in-Row
unfolding after
returns-in-Row c = rw c.in-Row.is

pub returns-in-Cell : goal.returns-in-Cell
unfolding after
returns-in-Cell c = rw (c.in-Cell.is, c.saturating_sub-in-Cell.ensures)

pub returns-in-Done : goal.returns-in-Done
unfolding after
returns-in-Done c = rw (c.in-Done.is, c.has_more.ensures)

pub returns-in-Message : goal.returns-in-Message
unfolding after
returns-in-Message c = rw c.in-Message.is
