-- `login::database_part` meets its contract. Assumes nothing.
use Rattle.login.specs.Login.{database_part}
use Rattle.login.proofs.database_part.Goals as goal

pub returns : goal.returns
unfolding database_part
returns c = c.read_login7_string.ensures
