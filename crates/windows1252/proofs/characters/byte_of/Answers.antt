-- `windows1252::characters::byte_of` meets its contract. Assumes nothing.
use mathlib.Core.Path.{sym, ◌∙◌}
use Rattle.windows1252.proofs.Table.{own-byte, found_has}
use Rattle.windows1252.proofs.characters.byte_of.Goals as goal

pub returns-then-is_itself : goal.returns-then-is_itself
returns-then-is_itself c = sym (own-byte c.args.u (sym c.is_itself.ensures ∙ c.if-is_itself.true))

pub unwrap-requires : goal.unwrap-requires
unwrap-requires c = rw (c.find.ensures, found_has c.args.u c.requires.u_value)

pub returns : goal.returns
returns c = let found = found_has c.args.u c.requires.u_value in cc (found, c.find.ensures, c.unwrap.ensures)
