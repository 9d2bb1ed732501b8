-- `login::head` meets its contract. Assumes nothing.
use Rattle.login.specs.Login.{head_of, database_part}
use Rattle.login.proofs.head.Goals as goal

pub returns : goal.returns
unfolding head_of database_part
returns c = cc
