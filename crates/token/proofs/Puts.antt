-- Laws of tokens' fields: a token before others, and a number written by its low bytes. Assumes nothing.
use mathlib.Core.Path.{◌≡◌, refl, ap, ◌∙◌}
use mathlib.Core.List.{List, [], ◌∷◌, ◌++◌}
use Prim.Native.Nat.{ℕ, ◌%◌, ◌^◌}
use lib.ListN.{length}
use Rattle.wire.specs.Le.{le}
use Rattle.wire.specs.Puts.{Puts}
use Rattle.wire.specs.declared.writer.Writer.{Writer}
use Rattle.wire.specs.Fields.{Field, word, raw, flat}
use Rattle.wire.proofs.Puts.{then, ended, put_as}
use Rattle.wire.proofs.Le.{le-mod}
use Rattle.wire.proofs.Fields.{flat-cat}
use Rattle.token.specs.Tokens.{Token, metadata, column, row, cell, done, message, EncodedCell, integer, no_integer, bounded, long, no_long, put_chunks, put, token_bytes, joined, message_head, type_fields}
use Rattle.token.specs.Types.{length_width}
use borrow.Author.Tests.{ne_eqb}

-- the low bytes of a number are all that is written
pub put-low : (k v : ℕ) {l m : Writer} → Puts l (le k (v % 256 ^ k)) m → Puts l (le k v) m
put-low k v w = put_as w (le-mod k v)

-- a count by its low bytes, and the bytes after it
pub put-counted : (k v : ℕ) {l m n : Writer} {xs : List ℕ} → Puts l (le k (v % 256 ^ k)) m → Puts m xs n → Puts l (flat (word k v ∷ raw xs ∷ [])) n
unfolding flat
put-counted k v w u = then (put-low k v w) (then u (ended u))

-- fields before others
pub chunks-before : (cs : List (List ℕ)) (fs : List Field) → put_chunks cs fs ≡ put_chunks cs [] ++ fs
chunks-before [] fs = refl
chunks-before (c ∷ cs) fs = ap (λ (r : List Field). word 4 (length c) ∷ raw c ∷ r) (chunks-before cs fs)

pub put-before : (t : Token EncodedCell) (fs : List Field) → put t fs ≡ put t [] ++ fs
put-before (metadata n) fs = refl
put-before (column u f c l o n) fs = refl
put-before row fs = refl
put-before (cell (integer w n)) fs = refl
put-before (cell no_integer) fs = refl
put-before (cell (bounded x)) fs = refl
put-before (cell (long cs)) fs = ap (λ (r : List Field). word 8 (length (joined cs)) ∷ r) (chunks-before cs fs)
put-before (cell no_long) fs = refl
put-before (done s c n) fs = refl
put-before (message k n s c t v p l) fs = refl

-- a token's bytes before others
pub bytes-before : (t : Token EncodedCell) (fs : List Field) → flat (put t fs) ≡ token_bytes t ++ flat fs
unfolding token_bytes
bytes-before t fs = ap flat (put-before t fs) ∙ flat-cat (put t []) fs

-- a message's length by its low bytes
pub head-size : (k size n state class : ℕ) → flat (message_head k (size % 65536) n state class []) ≡ flat (message_head k size n state class [])
unfolding flat
head-size k size n state class = rw (le-mod 2 size)

-- a type's length in its number of bytes
pub type-fields : (code limit w : ℕ) {l m : Writer} → length_width code ≡ w → Puts l (le 4 0 ++ (le 2 0 ++ (le 1 code ++ (le w limit ++ [])))) m
    → Puts l (flat (type_fields 0 0 code limit [])) m
unfolding flat
type-fields code limit w e u = rw e u

pub width_one : (code : ℕ) → code ≡ 0x26 → length_width code ≡ 1
unfolding length_width
width_one code e = rw e

pub width_two : (code : ℕ) → (code ≡ 0x26 → ⊥) → length_width code ≡ 2
unfolding length_width
width_two code f = rw (ne_eqb _ _ f)
