-- `reader::token_reader::leaves` meets its contract. Assumes nothing.
use Rattle.reader.proofs.token_reader.leaves.Goals as goal

pub returns : goal.returns
returns c = rw c.saturating_sub.ensures
