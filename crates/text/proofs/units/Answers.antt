-- `text::units` meets its contract. Assumes nothing.
use mathlib.Core.Path.{sym}
use Rattle.text.specs.Units.{units}
use Rattle.text.proofs.Scan.{length-units}
use Rattle.text.proofs.units.Goals as goal

pub returns : goal.returns
unfolding units
returns c = sym (length-units c.args.s.now)
