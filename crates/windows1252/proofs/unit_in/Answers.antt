-- `windows1252::unit_in` meets its contract. Assumes nothing.
use mathlib.Core.Path.{◌≡◌, ◌∙◌}
use mathlib.Core.List.{List, [], ◌∷◌}
use Prim.Native.Nat.{ℕ, ◌+◌, ◌*◌}
use native.Mathlib.Omega.{arith}
use lib.ListN.{length}
use Rattle.std.specs.List.{slice_index}
use Rattle.wire.specs.Le.{le_at}
use Rattle.windows1252.proofs.unit_in.Goals as goal

two : (pair : List ℕ) → length pair ≡ 2 → slice_index pair 0 + slice_index pair 1 * 256 ≡ le_at 2 pair
unfolding le_at
two [] e = absurd (omega arith)
two (a ∷ []) e = absurd (omega arith)
two (a ∷ b ∷ pair) e = omega arith

pub returns : goal.returns
returns c = c.from_le_bytes.ensures ∙ two c.args.pair.now c.told-pair
