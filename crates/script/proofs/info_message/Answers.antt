-- `script::info_message` meets its contract. Assumes nothing.
use mathlib.Core.Path.{◌∙◌}
use Rattle.wire.specs.Part.{part_bytes}
use Rattle.script.proofs.info_message.Goals as goal

pub returns : goal.returns
unfolding part_bytes
returns c = c.part_of.ensures ∙ rw c.get_u16_le.ensures
