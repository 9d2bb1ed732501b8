-- `text::has_pair` meets its contract. The loop's invariant: a high surrogate stands in the text if one stands among the units that are
-- left. Assumes nothing.
use Rattle.text.specs.Surrogates.{any_high, surrogate_of, has_pair}
use Rattle.wire.specs.Le.{le_at}
use mathlib.Core.Path.{◌≡◌}
use mathlib.Core.List.{map}
use lib.ListN.{drop}
use Rattle.text.proofs.has_pair.Given as goal

abbrev pub invariant-loop-pair : goal.invariant-loop-pair
invariant-loop-pair l = any_high (map surrogate_of (map (le_at 2) (drop l.pair-index l.units))) ≡ has_pair l.s
