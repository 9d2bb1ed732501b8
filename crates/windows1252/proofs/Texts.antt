-- The text of bytes and the bytes of units: one after another, their lengths, and that each is the other way round. Assumes nothing.
use mathlib.Core.Path.{◌≡◌, refl, sym, ap, ◌∙◌}
use mathlib.Core.Bool.{Bool, true, ◌&&◌}
use mathlib.Core.List.{List, [], ◌∷◌, ◌++◌, append_assoc, map}
use Prim.Native.Nat.{ℕ, suc, ◌+◌, ◌*◌, ◌/◌, ◌%◌, ◌≤◌, ◌<◌}
use native.Mathlib.Omega.{arith}
use native.Mathlib.Numerals.{add-one}
use borrow.Author.Tests.{ne_eqb}
use lib.ListN.{length, take, drop, get_or, length-append, drop_of_length-le}
use lib.Seq.{drop-cons}
use Rattle.std.specs.Simd.{first_chunks}
use Rattle.std.specs.List.{list_all}
use Rattle.text.specs.Units.{units_of}
use Rattle.wire.specs.Le.{le_at, le}
use Rattle.wire.proofs.Le.{length-le}
use Rattle.cells.specs.Values.{joined_from}
use Rattle.cells.proofs.Joined.{joined-turn, joined_end}
use Rattle.payload.proofs.CodeReads.{and-true}
use Rattle.windows1252.specs.Table.{unit_of, byte_of, has_byte, have_bytes, bytes_of, text_of}

-- ---- text

pub text-cat : (xs ys : List ℕ) → text_of (xs ++ ys) ≡ text_of xs ++ text_of ys
unfolding text_of
text-cat [] ys = refl
text-cat (x ∷ xs) ys = rw (text-cat xs ys) (sym (append_assoc (le 2 (unit_of x)) (text_of xs) (text_of ys)))

pub length-text : (bs : List ℕ) → length (text_of bs) ≡ 2 * length bs
unfolding text_of
length-text [] = refl
length-text (b ∷ bs) = length-append (le 2 (unit_of b)) (text_of bs) ∙ omega (arith, length-le 2 (unit_of b), length-text bs)

-- a unit's two bytes
pub two_bytes : (u : ℕ) → le 2 u ≡ u % 256 ∷ u / 256 % 256 ∷ []
unfolding le
two_bytes u = refl

-- a byte's character stands before the text of the bytes after it
pub text-turn : (bs : List ℕ) (i : ℕ) → i < length bs → text_of (drop i bs) ≡ le 2 (unit_of (get_or bs i 0)) ++ text_of (drop (i + 1) bs)
unfolding text_of
text-turn bs i h = rw (add-one, drop-cons bs i 0 h)

pub text-over : (bs : List ℕ) (i : ℕ) → length bs ≤ i → text_of (drop i bs) ≡ []
unfolding text_of
text-over bs i h = rw (drop_of_length-le bs h)

-- ---- bytes

pub length-bytes : (us : List ℕ) → length (bytes_of us) ≡ length us
unfolding bytes_of
length-bytes [] = refl
length-bytes (u ∷ us) = ap suc (length-bytes us)

-- the units of pairs of bytes, and those of a text
abbrev pub units_in : List (List ℕ) → List ℕ
units_in pairs = map (le_at 2) pairs

pub units-in-pairs : (s : List ℕ) → units_of s ≡ units_in (first_chunks 2 (length s / 2) s)
unfolding units_of
units-in-pairs [] = refl
units-in-pairs (a ∷ []) = refl
units-in-pairs (a ∷ b ∷ s) =
    let half : suc (suc (length s)) / 2 ≡ suc (length s / 2) = omega arith in
    rw half (ap (λ (us : List ℕ). le_at 2 (a ∷ b ∷ []) ∷ us) (units-in-pairs s))

-- a pair's byte stands before the bytes of the pairs after it
pub bytes-turn : (pairs : List (List ℕ)) (i : ℕ) → i < length pairs
    → bytes_of (units_in (drop i pairs)) ≡ (byte_of (le_at 2 (get_or pairs i [])) ∷ []) ++ bytes_of (units_in (drop (i + 1) pairs))
unfolding bytes_of
bytes-turn pairs i h = rw (add-one, drop-cons pairs i [] h)

pub bytes-over : (pairs : List (List ℕ)) (i : ℕ) → length pairs ≤ i → bytes_of (units_in (drop i pairs)) ≡ []
unfolding bytes_of
bytes-over pairs i h = rw (drop_of_length-le pairs h)

-- ---- whether units have bytes

pub have-all : (pairs : List (List ℕ)) → list_all (λ pair. has_byte (le_at 2 pair)) pairs ≡ have_bytes (units_in pairs)
unfolding have_bytes
have-all [] = refl
have-all (pair ∷ pairs) = ap (λ (b : Bool). has_byte (le_at 2 pair) && b) (have-all pairs)

pub have-both : (u : ℕ) (us : List ℕ) → have_bytes (u ∷ us) ≡ true → (has_byte u ≡ true) × (have_bytes us ≡ true)
unfolding have_bytes
have-both u us e = and-true (has_byte u) (have_bytes us) e

pub have-turn : (pairs : List (List ℕ)) (i : ℕ) → i < length pairs → have_bytes (units_in (drop i pairs)) ≡ true
    → (has_byte (le_at 2 (get_or pairs i [])) ≡ true) × (have_bytes (units_in (drop (i + 1) pairs)) ≡ true)
have-turn pairs i h e = rw add-one (have-both (le_at 2 (get_or pairs i [])) (units_in (drop (suc i) pairs)) (rw (drop-cons pairs i [] h) at e))

-- ---- the text of chunks, from a place on

pub chunk-turn : (v : List ℕ) (at : ℕ) {n : ℕ} → le_at 4 (drop at v) ≡ n → (n ≡ 0 → ⊥)
    → text_of (joined_from v at) ≡ text_of (take n (drop (at + 4) v)) ++ text_of (joined_from v (at + 4 + n))
chunk-turn v at {n} e f = ap text_of (joined-turn v at e (ne_eqb n 0 f)) ∙ text-cat (take n (drop (at + 4) v)) (joined_from v (at + 4 + n))

pub chunk_end : (v : List ℕ) (at : ℕ) → le_at 4 (drop at v) ≡ 0 → text_of (joined_from v at) ≡ []
unfolding text_of
chunk_end v at e = ap text_of (joined_end v at e)
