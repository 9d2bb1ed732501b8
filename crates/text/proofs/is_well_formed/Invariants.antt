-- `text::is_well_formed` meets its contract. The loop's invariant: the text is UTF-16 if the surrogates that are left, after a high
-- one where `high` says so, are in pairs. Assumes nothing.
use Rattle.text.proofs.Scan.{after}
use Rattle.text.specs.Surrogates.{paired, surrogate_of, well_formed}
use Rattle.wire.specs.Le.{le_at}
use mathlib.Core.Path.{◌≡◌}
use mathlib.Core.List.{map}
use lib.ListN.{drop}
use Rattle.text.proofs.is_well_formed.Given as goal

abbrev pub invariant-loop-pair : goal.invariant-loop-pair
invariant-loop-pair l = paired (after l.high (map surrogate_of (map (le_at 2) (drop l.pair-index l.units)))) ≡ well_formed l.s
