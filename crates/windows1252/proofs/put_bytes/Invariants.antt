-- `windows1252::put_bytes` meets its contract. The loop's invariant: the bytes of the pairs from a place on are still to be written.
-- Assumes nothing.
use mathlib.Core.Path.{◌≡◌}
use mathlib.Core.Bool.{true}
use lib.ListN.{drop}
use Rattle.text.specs.Units.{units_of}
use Rattle.windows1252.specs.Table.{table, have_bytes, bytes_of}
use Rattle.windows1252.proofs.Texts.{units_in}
use Rattle.windows1252.proofs.Owing.{Owing}
use Rattle.windows1252.proofs.put_bytes.Given as goal

abbrev pub invariant-loop-pair : goal.invariant-loop-pair
invariant-loop-pair l =
    (l.units ≡ table)
    × (have_bytes (units_in (drop l.pair-index l.pairs)) ≡ true)
    × Owing l.initial.buf l.at (bytes_of (units_of l.text)) l.buf l.to (bytes_of (units_in (drop l.pair-index l.pairs)))
