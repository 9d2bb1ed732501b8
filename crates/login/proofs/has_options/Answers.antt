-- `login::has_options` meets its contract. Assumes nothing.
use Rattle.login.specs.Rules.{has_options}
use Rattle.login.proofs.has_options.Goals as goal

pub returns : goal.returns
unfolding has_options
returns c = cc
