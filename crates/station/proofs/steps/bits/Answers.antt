-- `station::steps::bits` meets its contract. Assumes nothing.
use mathlib.Core.Path.{ap, ◌∙◌}
use mir.Syntax.{w64}
use mir.Val.{of_z}
use mir.Facts.{to_z-of_z}
use Rattle.station.proofs.Twos.{bits-are}
use Rattle.station.proofs.steps.bits.Goals as goal

pub returns : goal.returns
returns c = c.cast_unsigned.ensures ∙ ap (of_z w64) (to_z-of_z {w = w64} c.ranges.n) ∙ bits-are c.args.n
