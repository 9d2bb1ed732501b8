-- `login::database` meets its contract. Assumes nothing.
use mathlib.Core.Path.{sym, ◌∙◌}
use Rattle.login.specs.Login.{database_of}
use Rattle.login.proofs.database.Goals as goal

pub returns-in-Some : goal.returns-in-Some
unfolding database_of
returns-in-Some c = simp (sym c.database_part.ensures ∙ c.in-Some.is) c.part_of.ensures

pub returns-in-None : goal.returns-in-None
unfolding database_of
returns-in-None c = simp (sym c.database_part.ensures ∙ c.in-None.is)
