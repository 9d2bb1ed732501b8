-- The laws of `le_at` and `le`, at any width: a number of j + k bytes is one of j bytes and one of k.
-- Assumes nothing.
use mathlib.Core.Path.{◌≡◌, refl, sym, ap, ◌∙◌}
use mathlib.Core.List.{List, [], ◌∷◌, ◌++◌, append-nil}
use Prim.Native.Nat.{ℕ, zero, suc, ◌+◌, ◌*◌, ◌/◌, ◌%◌, ◌^◌, ◌≤◌, ◌<◌}
use native.Mathlib.Nat.{zero-add, suc-add, zero-mul, add-mul, mul_assoc, add_assoc, pow-suc, one-le-pow, div-one, div-div-eq-div-mul, mul_comm, mod-lt, zero-lt-suc, mul-one, add-zero, mod-one, mod-eq_of_lt}
use native.Mathlib.Omega.{arith}
use lib.ListN.{length, drop, get_or, drop_of_length-le}
use lib.Seq.{drop-drop, drop-cons}
use lib.Arith.{mod-mul, digits_mod, digits_div}
use Rattle.wire.specs.Le.{le_at, le}

-- ---- reading

pub le-nil : (k : ℕ) → le_at k [] ≡ 0
unfolding le_at
le-nil zero = refl
le-nil (suc k) = refl

pub le-cat : (j k : ℕ) (l : List ℕ) → le_at (j + k) l ≡ le_at k (drop j l) * 256 ^ j + le_at j l
unfolding le_at
le-cat zero k l = rw zero-add (sym (add-zero _ ∙ mul-one _))
le-cat (suc j) k [] = rw (suc-add, le-nil k) (sym (add-zero _ ∙ zero-mul _))
le-cat (suc j) k (b ∷ l) = rw (suc-add, le-cat j k l, add-mul, mul_assoc, ← pow-suc 256 j) (add_assoc _ _ b)

-- past the end there is nothing
pub le-past : (k at : ℕ) (l : List ℕ) → length l ≤ at → le_at k (drop at l) ≡ 0
le-past k at l h = rw (drop_of_length-le l h) (le-nil k)

-- the upper part of a number follows the lower
pub le_join : (j k at : ℕ) (l : List ℕ) → le_at k (drop (at + j) l) * 256 ^ j + le_at j (drop at l) ≡ le_at (j + k) (drop at l)
le_join j k at l = sym (le-cat j k (drop at l) ∙ rw (drop-drop j at l))

-- a number whose upper part lies past the end
pub le-short : (j k at : ℕ) (l : List ℕ) → length l ≤ at + j → le_at (j + k) (drop at l) ≡ le_at j (drop at l)
le-short j k at l h = sym (le_join j k at l) ∙ rw (le-past k (at + j) l h, zero-mul, zero-add)

-- one byte
pub le-one : (at : ℕ) (l : List ℕ) → at < length l → le_at 1 (drop at l) ≡ get_or l at 0
unfolding le_at
le-one at l h = rw (drop-cons l at 0 h) (omega arith)

-- the bytes at k places, one after another, i after at
abbrev pub bytes_from : ℕ → ℕ → ℕ → List ℕ → List ℕ
bytes_from zero at i l = []
bytes_from (suc k) at i l = get_or l (at + i) 0 ∷ bytes_from k at (suc i) l

le_from : (k at i : ℕ) (l : List ℕ) → at + i + k ≤ length l → le_at k (drop (at + i) l) ≡ le_at k (bytes_from k at i l)
unfolding le_at
le_from zero at i l h = refl
le_from (suc k) at i l h =
    let here : at + i < length l = omega arith in
    let next : suc (at + i) ≡ at + suc i = omega arith in
    rw (drop-cons l (at + i) 0 here, next, le_from k at (suc i) l (omega arith))

-- a number that lies whole in a list is that of its bytes
pub le_bytes : (k at : ℕ) (l : List ℕ) → at + suc k ≤ length l → le_at (suc k) (drop at l) ≡ le_at (suc k) (get_or l at 0 ∷ bytes_from k at 1 l)
unfolding le_at
le_bytes k at l h =
    let here : at < length l = omega arith in
    let next : suc at ≡ at + 1 = omega arith in
    rw (drop-cons l at 0 here, next, le_from k at 1 l (omega arith))

-- ---- writing

pub length-le : (k v : ℕ) → length (le k v) ≡ k
unfolding le
length-le zero v = refl
length-le (suc k) v = ap suc (length-le k (v / 256))

pub le_split : (j k v : ℕ) → le (j + k) v ≡ le j (v % 256 ^ j) ++ le k (v / 256 ^ j)
unfolding le
le_split zero k v = rw zero-add (ap (le k) (sym (div-one v)))
le_split (suc j) k v =
    let m : ℕ = 256 ^ j in
    let e : v % (m * 256) ≡ (v / 256 % m) * 256 + v % 256 = mod-mul v (one-le-pow j 256 (zero-lt-suc 255)) (zero-lt-suc 255) in
    let lo : v % (m * 256) % 256 ≡ v % 256 = ap (λ (x : ℕ). x % 256) e ∙ digits_mod _ (mod-lt v (zero-lt-suc 255)) in
    let hi : v % (m * 256) / 256 ≡ v / 256 % m = ap (λ (x : ℕ). x / 256) e ∙ digits_div _ (mod-lt v (zero-lt-suc 255)) in
    let up : v / (m * 256) ≡ v / 256 / m = ap (λ (x : ℕ). v / x) (mul_comm m 256) ∙ sym (div-div-eq-div-mul v 256 m) in
    rw (suc-add, le_split j k (v / 256), pow-suc 256 j, lo, hi, up)

-- only the k low bytes count
pub le-mod : (k v : ℕ) → le k (v % 256 ^ k) ≡ le k v
unfolding le
le-mod k v =
    let e = le_split k 0 v in
    sym (append-nil (le k (v % 256 ^ k))) ∙ sym (rw add-zero at e)

-- what was written is read back
pub le-back : (k v : ℕ) (rest : List ℕ) → le_at k (le k v ++ rest) ≡ v % 256 ^ k
unfolding le_at le
le-back zero v rest = sym (mod-one v)
le-back (suc k) v rest =
    rw (le-back k (v / 256) rest, pow-suc 256 k) (sym (mod-mul v (one-le-pow k 256 (zero-lt-suc 255)) (zero-lt-suc 255)))

pub le-exact : (k v : ℕ) (rest : List ℕ) → v < 256 ^ k → le_at k (le k v ++ rest) ≡ v
le-exact k v rest h = le-back k v rest ∙ mod-eq_of_lt h
