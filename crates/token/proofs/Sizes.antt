-- The sizes of tokens that replies of every kind have. Assumes nothing.
use mathlib.Core.Path.{◌≡◌}
use mathlib.Core.List.{List}
use Prim.Native.Nat.{ℕ, ◌+◌}
use native.Mathlib.Omega.{arith}
use lib.ListN.{length}
use Rattle.wire.proofs.Fields.{size_none, size_word, size-raw}
use Rattle.token.specs.Tokens.{done, message, token_bytes}

pub size-done : (s c n : ℕ) → length (token_bytes (done s c n)) ≡ 13
unfolding token_bytes
size-done s c n = simp (size_word, size_none)

pub size-message : (k n s c : ℕ) (t v p : List ℕ) (l : ℕ) → length (token_bytes (message k n s c t v p l)) ≡ 17 + length t + length v + length p
unfolding token_bytes
size-message k n s c t v p l = simp (size_word, size-raw, size_none) (omega arith)
