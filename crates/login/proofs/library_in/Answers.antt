-- `login::library_in` meets its contract. Assumes nothing.
use Rattle.login.specs.Rules.{library_in}
use Rattle.login.proofs.library_in.Goals as goal

pub returns : goal.returns
unfolding library_in
returns c = cc
