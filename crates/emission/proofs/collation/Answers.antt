-- `emission::collation` meets its contract. Assumes nothing.
use mathlib.Core.Path.{◌∙◌}
use Rattle.wire.specs.Part.{part_bytes}
use Rattle.emission.proofs.collation.Goals as goal

pub returns : goal.returns
unfolding part_bytes
returns c = c.part_of.ensures ∙ rw (c.collation_size-len.ensures, c.tds_type_code.ensures)
