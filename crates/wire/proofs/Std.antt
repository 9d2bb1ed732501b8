-- The numbers and bytes of std are those of `le_at`, `le`, `be_at` and `be`; a copy to the middle is `overwrite`. Assumes nothing.
use mathlib.Core.Path.{◌≡◌, refl, sym, ap, ◌∙◌}
use mathlib.Core.List.{List, [], ◌∷◌}
use Prim.Native.Nat.{ℕ, zero, suc, ◌+◌, ◌*◌, ◌/◌, ◌%◌, ◌^◌, ◌≤◌, ◌<◌, ◌-◌, min}
use native.Mathlib.Nat.{pow-suc, div-one, div-div-eq-div-mul}
use native.Mathlib.Omega.{arith}
use lib.ListN.{length, drop, take, get_or, set, replicate, drop_of_length-le}
use lib.Seq.{take_all}
use borrow.Rule.Slice.PartMut.{put_mid}
use Rattle.std.specs.Int.{sum_through, byte_worth, byte_at, bytes_low_first, to_be_bytes, from_be_bytes, w16}
use Rattle.std.proofs.lemmas.List.{get_or_past}
use Rattle.std.proofs.lemmas.Slice.{put_mid-paste}
use Rattle.wire.specs.Le.{le_at, le}
use Rattle.wire.specs.Be.{first, be_at, be}
use Rattle.wire.specs.Over.{overwrite}
use Rattle.wire.proofs.Be.{length-first}
use Rattle.wire.proofs.Le.{le-nil, le-cat, le-one, le-past}
use Rattle.wire.proofs.Cases.{split}
use Rattle.wire.proofs.Parts.{rest-is}
use Rattle.wire.proofs.Over.{over-eq}

-- ---- reading

le-first : (k : ℕ) (l : List ℕ) → le_at k (first k l) ≡ le_at k l
unfolding le_at first
le-first zero l = refl
le-first (suc k) [] = rw (le-first k [], le-nil k)
le-first (suc k) (b ∷ l) = rw (le-first k l)

worths : (k : ℕ) (l : List ℕ) → k < length l → sum_through (λ i. byte_worth i (get_or l i 0)) k ≡ le_at (suc k) l
worths zero l h = sym (le-one 0 l h)
worths (suc k) l h =
    let e : le_at (suc k + 1) l ≡ le_at 1 (drop (suc k) l) * 256 ^ suc k + le_at (suc k) l = le-cat (suc k) 1 l in
    let q : suc k + 1 ≡ suc (suc k) = omega arith in
    rw (worths k l (omega arith)) (sym (rw (q, le-one (suc k) l h) at e ∙ omega arith))

-- the number that k + 1 bytes of a list are
pub le-std : (k : ℕ) (l : List ℕ) → sum_through (λ i. byte_worth i (get_or (first (suc k) l) i 0)) k ≡ le_at (suc k) l
le-std k l = worths k (first (suc k) l) (omega (arith, length-first (suc k) l)) ∙ le-first (suc k) l

pub be-std : (l : List ℕ) → from_be_bytes w16 (first 2 l) ≡ be_at 2 l
unfolding be_at first le_at
be-std [] = refl
be-std (a ∷ []) = omega arith
be-std (a ∷ b ∷ l) = omega arith

-- the whole of them are there
pub first-take : (k : ℕ) (l : List ℕ) → k ≤ length l → take k l ≡ first k l
unfolding first
first-take zero l h = refl
first-take (suc k) [] h = absurd (omega arith)
first-take (suc k) (b ∷ l) h = ap (λ (m : List ℕ). b ∷ m) (first-take k l (omega arith))

-- ---- writing

byte_is : (i v : ℕ) → byte_at i v ≡ v / 256 ^ i % 256
byte_is zero v = rw (div-one v)
byte_is (suc i) v = refl

-- the low bytes of a number, from byte i on
low_bytes : (i k v : ℕ) → bytes_low_first i k v ≡ le k (v / 256 ^ i)
unfolding le
low_bytes i zero v = refl
low_bytes i (suc k) v =
    let up : v / 256 ^ suc i ≡ v / 256 ^ i / 256 = rw (pow-suc 256 i) (sym (div-div-eq-div-mul v (256 ^ i) 256)) in
    rw (low_bytes (suc i) k v, up, byte_is i v)

pub bytes-std : (k v : ℕ) → bytes_low_first 0 k v ≡ le k v
bytes-std k v = low_bytes 0 k v ∙ ap (le k) (div-one v)

pub be_bytes-std : (v : ℕ) → to_be_bytes w16 v ≡ be 2 v
unfolding be le
be_bytes-std v = refl

-- xs copied to the middle
pub mid-over : (xs l : List ℕ) (at k : ℕ) → k ≡ length xs → at + length xs ≤ length l → put_mid at k l xs ≡ overwrite l at xs
mid-over xs l at k e h =
    put_mid-paste at k l xs xs (length xs) refl (sym e) refl ∙ rw (take_all (length xs) xs (omega arith)) (sym (over-eq xs l at h))

-- no byte of xs
pub none-over : (l : List ℕ) (at : ℕ) (xs : List ℕ) → l ≡ overwrite l at (take 0 xs)
unfolding overwrite
none-over l at xs = refl

-- ---- bytes at a place

over-cons : (xs l : List ℕ) (b at : ℕ) → overwrite (b ∷ l) (suc at) xs ≡ b ∷ overwrite l at xs
unfolding overwrite
over-cons [] l b at = refl
over-cons (x ∷ xs) l b at = over-cons xs (set l at x) b (suc at)

-- a list that is too short, over as many zeros
pub first-over : (k : ℕ) (xs : List ℕ) → length xs ≤ k → overwrite (replicate k 0) 0 xs ≡ first k xs
unfolding overwrite first
first-over zero [] h = refl
first-over zero (x ∷ xs) h = absurd (omega arith)
first-over (suc k) [] h = ap (λ (m : List ℕ). 0 ∷ m) (first-over k [] (omega arith))
first-over (suc k) (x ∷ xs) h = over-cons xs (replicate k 0) x 0 ∙ ap (λ (m : List ℕ). x ∷ m) (first-over k xs (omega arith))

-- the bytes from a place on, or none
pub rest-min : (s : List ℕ) (at from : ℕ) → from ≡ min at (length s) → take (length s - from) (drop from s) ≡ drop at s
rest-min s at from e =
    rest-is s from ∙ split at (length s)
    (λ h. let q : from ≡ at = omega arith in rw q)
    (λ h. let q : length s ≤ from = omega arith in
    let r : length s ≤ at = omega arith in
    drop_of_length-le s q ∙ sym (drop_of_length-le s r))

-- one byte, or 0 past the end
pub le-get : (at : ℕ) (l : List ℕ) → le_at 1 (drop at l) ≡ get_or l at 0
le-get at l =
    split (length l) at
    (λ h. le-past 1 at l h ∙ sym (get_or_past l at 0 h))
    (λ h. le-one at l h)

-- as many bytes, each of which is that of the list, or 0
pub first-each : (k : ℕ) (bytes l : List ℕ) → length bytes ≡ k → ((i : ℕ) → i < k → get_or bytes i 0 ≡ get_or l i 0) → bytes ≡ first k l
unfolding first
first-each zero [] l e each = refl
first-each zero (b ∷ bytes) l e each = absurd (omega arith)
first-each (suc k) [] l e each = absurd (omega arith)
first-each (suc k) (b ∷ bytes) [] e each =
    rw (each 0 (omega arith)) (ap (λ (m : List ℕ). 0 ∷ m) (first-each k bytes [] (omega arith) (λ i h. each (suc i) (omega arith) ∙ sym (get_or_past [] i 0 (omega arith)))))
first-each (suc k) (b ∷ bytes) (x ∷ l) e each =
    rw (each 0 (omega arith)) (ap (λ (m : List ℕ). x ∷ m) (first-each k bytes l (omega arith) (λ i h. each (suc i) (omega arith))))
