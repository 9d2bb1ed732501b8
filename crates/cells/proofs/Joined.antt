-- The bytes of chunks joined, one chunk after another. Assumes nothing.
use mathlib.Core.Path.{◌≡◌, refl, ap, ◌∙◌}
use mathlib.Core.Bool.{false, cond}
use mathlib.Core.List.{List, [], ◌++◌}
use Prim.Native.Nat.{ℕ, zero, suc, ◌+◌, ◌≤◌}
use native.Mathlib.Omega.{arith}
use lib.Dec.{eqb}
use lib.ListN.{length, take, drop, length-drop}
use lib.Seq.{drop-drop}
use Rattle.wire.specs.Le.{le_at}
use Rattle.wire.proofs.Le.{le-past}
use Rattle.cells.specs.Values.{chunk_bytes, joined_from}

-- as many turns as bytes are enough
pub enough_turns : (k j : ℕ) (l : List ℕ) → length l ≤ k → length l ≤ j → chunk_bytes k l ≡ chunk_bytes j l
unfolding chunk_bytes
enough_turns zero zero l h g = refl
enough_turns zero (suc j) l h g = rw (le-past 4 0 l h)
enough_turns (suc k) zero l h g = rw (le-past 4 0 l g)
enough_turns (suc k) (suc j) l h g =
    let n = le_at 4 l in
    let short : length (drop n (drop 4 l)) ≤ k = omega (arith, length-drop n (drop 4 l), length-drop 4 l) in
    let shorter : length (drop n (drop 4 l)) ≤ j = omega (arith, length-drop n (drop 4 l), length-drop 4 l) in
    ap (λ (rest : List ℕ). cond {A = List ℕ} (eqb n 0) [] (take n (drop 4 l) ++ rest)) (enough_turns k j (drop n (drop 4 l)) short shorter)

module _ (bytes : List ℕ) (at : ℕ) where
  one_more : joined_from bytes at ≡ chunk_bytes (suc (length bytes)) (drop at bytes)
  unfolding joined_from
  one_more = enough_turns (length bytes) (suc (length bytes)) (drop at bytes) (omega (arith, length-drop at bytes)) (omega (arith, length-drop at bytes))

  -- a chunk's bytes stand before those of the chunks after it
  pub joined-turn : {n : ℕ} → le_at 4 (drop at bytes) ≡ n → eqb n 0 ≡ false → joined_from bytes at ≡ take n (drop (at + 4) bytes) ++ joined_from bytes (at + 4 + n)
  unfolding chunk_bytes joined_from
  joined-turn {n} e f = one_more ∙ rw (e, f, drop-drop 4 at bytes, drop-drop n (at + 4) bytes)

  -- the zero length ends them
  pub joined_end : le_at 4 (drop at bytes) ≡ 0 → joined_from bytes at ≡ []
  unfolding chunk_bytes
  joined_end e = one_more ∙ rw e
