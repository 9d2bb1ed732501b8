-- `windows1252::characters::has_byte` meets its contract. Assumes nothing.
use mathlib.Core.Path.{sym, ◌∙◌}
use Rattle.windows1252.proofs.Table.{own-has, has-found}
use Rattle.windows1252.proofs.characters.has_byte.Goals as goal

pub returns-then-is_itself : goal.returns-then-is_itself
returns-then-is_itself c = sym (own-has c.args.u (sym c.is_itself.ensures ∙ c.if-is_itself.true))

pub returns : goal.returns
returns c = rw (c.is_some.ensures, c.find.ensures) (has-found c.args.u)
