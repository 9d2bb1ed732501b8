-- `text::unit` meets its contract. Assumes nothing.
use mathlib.Core.Path.{◌∙◌}
use Rattle.text.proofs.Twos.{two}
use Rattle.text.proofs.unit.Goals as goal

pub returns : goal.returns
returns c = c.from_le_bytes.ensures ∙ two c.args.pair.now
