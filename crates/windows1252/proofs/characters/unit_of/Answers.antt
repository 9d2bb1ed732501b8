-- `windows1252::characters::unit_of` meets its contract. Assumes nothing.
use borrow.Author.Rules.{rules}
use Rattle.windows1252.proofs.Table.{lent-table}
use Rattle.windows1252.proofs.characters.unit_of.Goals as goal

pub bounds-units-b : goal.bounds-units-b
bounds-units-b c = (lent-table c.args.units.now c.args.b c.requires (search rules)).0

pub returns : goal.returns
returns c = (lent-table c.args.units.now c.args.b c.requires (search rules)).1
