-- `wire::bytes_at` meets its contract. The loop's invariant: the first i bytes are those at the place, or 0. Assumes nothing.
use Rattle.std.proofs.Common.{◌≡◌, ℕ, ◌<◌, length, get_or}
use Rattle.wire.proofs.bytes_at.Given as goal

abbrev pub invariant-loop-i : goal.invariant-loop-i
invariant-loop-i g l = (length l.bytes ≡ g.row.N) × ((k : ℕ) → k < l.i → get_or l.bytes k 0 ≡ get_or l.rest k 0)
