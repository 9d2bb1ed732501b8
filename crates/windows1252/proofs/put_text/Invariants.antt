-- `windows1252::put_text` meets its contract. The loop's invariant: the text of the chunks from a place on is still to be written.
-- Assumes nothing.
use Prim.Native.Nat.{◌-◌}
use mathlib.Core.Path.{◌≡◌}
use lib.ListN.{length}
use Rattle.cells.specs.Values.{joined_from}
use Rattle.windows1252.specs.Table.{table, text_of}
use Rattle.windows1252.specs.Labels.{chunks_joined}
use Rattle.windows1252.proofs.Owing.{Owing}
use Rattle.windows1252.proofs.put_text.Given as goal

abbrev pub invariant-loop-at : goal.invariant-loop-at
invariant-loop-at l = (l.units ≡ table) × Owing l.initial.buf 0 (text_of (chunks_joined l.value)) l.buf l.to (text_of (joined_from l.value l.at))

abbrev pub decreases-loop-at : goal.decreases-loop-at
decreases-loop-at l = length l.value - l.at
