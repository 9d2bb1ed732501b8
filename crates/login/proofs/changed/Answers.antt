-- `login::changed` meets its contract. Assumes nothing.
use Rattle.login.specs.Login.{after}
use Rattle.login.proofs.changed.Goals as goal

pub returns : goal.returns
unfolding after
returns c = rw (c.fedauth_after.ensures, c.token_after.ensures, c.library_after.ensures, c.workflow_after.ensures, c.user_agent_after.ensures, c.version_after.ensures, c.session_after.ensures, c.part_of-held.ensures)
