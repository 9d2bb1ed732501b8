-- How the exports that build replies end: one law for all of them, over the reply and the lent buffer. Assumes nothing.
use Prim.Native.Nat.{ℕ, ◌^◌, ◌<◌}
use mathlib.Core.Path.{◌≡◌, sym, ap, ◌∙◌}
use mathlib.Core.List.{List}
use native.Mathlib.Omega.{arith}
use lib.ListN.{length}
use lib.IntN.{ℤ}
use lib.Signed.{mag}
use mir.Syntax.{w64}
use mir.Val.{to_z, of_z}
use Rattle.std.specs.Prelude.{Result, Ok}
use Rattle.refusals.specs.declared.Refusal.{Refusal}
use Rattle.refusals.specs.Refused.{numbered}
use Rattle.response.specs.Answer.{Reply, built_of, buffer_of}
use Rattle.response.specs.Packets.{cut_built, cut_buffer}
use Rattle.response.proofs.Ends.{small}
use Rattle.station.specs.Answer.{number_of, built_outcome}
use Rattle.station.specs.Builds.{built_number, cut_number}
use Rattle.station.proofs.Ends.{handed}

-- a builder's answer is small
pub fits : {b : Result ℕ Refusal} (p : Reply) (buf : List ℕ) → numbered b ≡ built_of p buf → (n : ℕ) → b ≡ Ok n → n < 2 ^ 63
fits p buf e n q = omega (arith, small p buf n (sym e ∙ ap numbered q))

-- and its number is told
pub built : {b : Result ℕ ℕ} {r : ℤ} {left : List ℕ} (p : Reply) (buf : List ℕ) → mag r < 2 ^ 63 → (b ≡ built_of p buf) × (left ≡ buffer_of p buf)
    → r ≡ number_of (built_outcome b) → (to_z w64 (of_z w64 r) ≡ built_number p buf) × (left ≡ buffer_of p buf)
unfolding built_number
built p buf fit e q = (handed built_outcome fit e.0 q, e.1)

-- the same of a payload that is cut
pub cut-built : {b : Result ℕ ℕ} {r : ℤ} {left : List ℕ} (size : ℕ) (payload buf : List ℕ) → mag r < 2 ^ 63
    → (b ≡ cut_built size payload (length buf)) × (left ≡ cut_buffer size payload buf)
    → r ≡ number_of (built_outcome b) → (to_z w64 (of_z w64 r) ≡ cut_number size payload (length buf)) × (left ≡ cut_buffer size payload buf)
unfolding cut_number
cut-built size payload buf fit e q = (handed built_outcome fit e.0 q, e.1)
