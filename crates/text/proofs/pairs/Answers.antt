-- `text::pairs` meets its contract. Assumes nothing.
use Rattle.text.proofs.Twos.{units-pairs}
use Rattle.text.proofs.pairs.Goals as goal

pub returns-clause-value : goal.returns-clause-value
returns-clause-value c = rw c.as_chunks.ensures.front (units-pairs c.args.s.now)
