-- A number with its sign, at any width. Assumes nothing.
use mathlib.Core.Path.{◌≡◌}
use Prim.Native.Nat.{ℕ, suc, ◌+◌, ◌-◌, ◌/◌, ◌^◌, ◌≤◌, ◌<◌}
use native.Mathlib.Omega.{arith}
use borrow.Author.Tests.{lt-ltb, le-ltb, ne_eqb}
use mir.Syntax.{Width, w64}
use mir.Val.{to_z, bits, hbits}
use mir.Facts.{to_z_pos}
use Rattle.wire.proofs.Cases.{split}
use Rattle.token.specs.Tokens.{signed}

-- one byte has no sign
pub one_byte : (n : ℕ) → n < 2 ^ 63 → to_z w64 n ≡ signed 1 n
unfolding signed
one_byte n h = to_z_pos w64 h

-- any other width has the sign that the library reads
pub wider : (w : Width) (k n : ℕ) → (k ≡ 1 → ⊥) → 256 ^ k ≡ 2 ^ bits w → 256 ^ k / 2 ≡ 2 ^ hbits w → to_z w n ≡ signed k n
unfolding signed
wider w k n f e h =
    split (n + 1) (2 ^ hbits w)
    (λ l. let low : n < 2 ^ hbits w = omega arith in rw (ne_eqb k 1 f, h, lt-ltb n (2 ^ hbits w) low))
    (λ l. let high : 2 ^ hbits w ≤ n = omega arith in
    let m : 2 ^ bits w - suc n ≡ 2 ^ bits w - 1 - n = omega arith in
    rw (ne_eqb k 1 f, h, le-ltb n (2 ^ hbits w) high, e, m))
