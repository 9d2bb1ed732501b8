-- The laws of `be_at` and `be`, at any width, from those of `le_at` and `le`: the upper part comes first.
-- Assumes nothing.
use mathlib.Core.Path.{◌≡◌, refl, sym, ap, ◌∙◌}
use mathlib.Core.List.{List, [], ◌∷◌, ◌++◌, reverse, reverse-append}
use Prim.Native.Nat.{ℕ, zero, suc, ◌+◌, ◌*◌, ◌/◌, ◌%◌, ◌^◌, ◌≤◌}
use native.Mathlib.Nat.{zero-add, suc-add, add_comm, zero-mul}
use native.Mathlib.Omega.{arith}
use lib.ListN.{length, drop, drop_of_length-le, length-reverse}
use lib.Seq.{drop-drop, drop-nil, drop_at}
use Rattle.wire.specs.Le.{le_at, le}
use Rattle.wire.specs.Be.{first, be_at, be}
use Rattle.wire.proofs.Le.{le-cat, le_split, length-le}

pub length-first : (k : ℕ) (l : List ℕ) → length (first k l) ≡ k
unfolding first
length-first zero l = refl
length-first (suc k) [] = ap suc (length-first k [])
length-first (suc k) (b ∷ l) = ap suc (length-first k l)

first-cat : (j k : ℕ) (l : List ℕ) → first (j + k) l ≡ first j l ++ first k (drop j l)
unfolding first
first-cat zero k l = rw zero-add
first-cat (suc j) k [] = rw suc-add (ap (λ (m : List ℕ). 0 ∷ m) (first-cat j k [] ∙ rw (drop-nil j)))
first-cat (suc j) k (b ∷ l) = rw suc-add (ap (λ (m : List ℕ). b ∷ m) (first-cat j k l))

-- a number at the front of more bytes
le-front : (k : ℕ) (xs ys : List ℕ) → k ≤ length xs → le_at k (xs ++ ys) ≡ le_at k xs
unfolding le_at
le-front zero xs ys h = refl
le-front (suc k) [] ys h = absurd (omega arith)
le-front (suc k) (x ∷ xs) ys h = rw (le-front k xs ys (omega arith))

be-cat : (j k : ℕ) (l : List ℕ) → be_at (j + k) l ≡ be_at j l * 256 ^ k + be_at k (drop j l)
unfolding be_at
be-cat j k l =
    let lo : List ℕ = reverse (first k (drop j l)) in
    let hi : List ℕ = reverse (first j l) in
    let n : length lo ≡ k = length-reverse (first k (drop j l)) ∙ length-first k (drop j l) in
    rw (first-cat j k l, reverse-append, add_comm j k, le-cat k j, drop_at lo hi k n, le-front k lo hi (omega arith))

-- the lower part of a number follows the upper
pub be-join : (j k at : ℕ) (l : List ℕ) → be_at j (drop at l) * 256 ^ k + be_at k (drop (at + j) l) ≡ be_at (j + k) (drop at l)
be-join j k at l = sym (be-cat j k (drop at l) ∙ rw (drop-drop j at l))

-- one byte
pub be-one : (l : List ℕ) → be_at 1 l ≡ le_at 1 l
unfolding be_at first le_at
be-one [] = refl
be-one (b ∷ l) = refl

be-nil : (k : ℕ) → be_at k [] ≡ 0
unfolding be_at first le_at
be-nil zero = refl
be-nil (suc k) =
    let q : suc k ≡ 1 + k = omega arith in
    let e : be_at (1 + k) [] ≡ 0 * 256 ^ k + be_at k [] = be-cat 1 k [] in
    ap (λ (n : ℕ). be_at n []) q ∙ e ∙ omega (arith, be-nil k, zero-mul (256 ^ k))

-- past the end there is nothing
pub be-past : (k at : ℕ) (l : List ℕ) → length l ≤ at → be_at k (drop at l) ≡ 0
be-past k at l h = rw (drop_of_length-le l h) (be-nil k)

-- the upper part of a number before the lower
pub be-split : (j k v : ℕ) → be (j + k) v ≡ be j (v / 256 ^ k) ++ be k (v % 256 ^ k)
unfolding be
be-split j k v = rw (add_comm j k, le_split k j v, reverse-append)

pub length-be : (k v : ℕ) → length (be k v) ≡ k
unfolding be
length-be k v = length-reverse (le k v) ∙ length-le k v
