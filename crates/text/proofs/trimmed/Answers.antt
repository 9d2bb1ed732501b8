-- `text::trimmed` meets its contract. Assumes nothing.
use Rattle.text.proofs.Trims.{trims}
use Rattle.text.proofs.trimmed.Goals as goal

pub returns : goal.returns
returns c = trims c.args.s.now c.trim_start-start.result c.trim_start-start.ensures.0 c.trim_end-len.ensures
