-- A Max value: the walk over its chunks, and their bytes joined. Assumes nothing.
use mathlib.Core.Path.{◌≡◌, refl, ap, ◌∙◌}
use mathlib.Core.Bool.{Bool, true, false, not, ◌||◌}
use mathlib.Core.List.{List, [], ◌∷◌, ◌++◌}
use Prim.Native.Nat.{ℕ, zero, suc, ◌+◌, ◌-◌, ◌*◌, ◌%◌, ◌^◌, ◌<◌}
use native.Mathlib.Omega.{arith}
use native.Mathlib.Nat.{not-suc-le-zero}
use borrow.Author.Tests.{le-leb, eq-eqb, ne_eqb, eqb-true}
use lib.Dec.{eqb}
use lib.ListN.{length, length-append}
use lib.Seq.{take_at, drop_at}
use Rattle.wire.specs.Le.{le}
use Rattle.wire.specs.Fields.{Field, word, raw, flat}
use Rattle.wire.specs.Part.{part_bytes}
use Rattle.wire.proofs.Le.{length-le, le-exact}
use Rattle.wire.proofs.Fields.{flat-cat, size_word, size-raw}
use Rattle.token.specs.Tokens.{joined, put_chunks}
use Rattle.token.proofs.Puts.{chunks-before}
use Rattle.cells.specs.declared.Value.TheVariants as value
use Rattle.wire.specs.Even.{even}
use Rattle.payload.specs.Places.{Source, Place, whole, part_to}
use Rattle.cells.specs.Cells.{is_chunk, is_last, chunk_at, chunks_at, max_at}
use Rattle.cells.specs.Values.{chunk_bytes}
use Rattle.payload.proofs.Standing.{At, past_word, past-raw, number-at, part-at, must-at, cond_no, then_at}

-- chunks that are not empty, in text even
abbrev pub ChunksOk : Bool → List (List ℕ) → Type 0
ChunksOk text [] = Unit {0}
ChunksOk text (c ∷ cs) = (0 < length c) × ((not text || even (length c)) ≡ true) × ChunksOk text cs

-- the place past chunks
abbrev pub past-chunks : Place → List (List ℕ) → Place
past-chunks at [] = at + 4
past-chunks at (c ∷ cs) = past-chunks (at + 4 + length c) cs

pub past_is : (at : Place) (cs : List (List ℕ)) → past-chunks at cs ≡ at + 4 + 4 * length cs + length (joined cs)
past_is at [] = omega arith
past_is at (c ∷ cs) = omega (arith, past_is (at + 4 + length c) cs, length-append c (joined cs))

pub after-chunks : {p : Source} {fs : List Field} (at : Place) (cs : List (List ℕ)) → At p at (put_chunks cs fs) → At p (past-chunks at cs) fs
after-chunks at [] a = past_word a
after-chunks at (c ∷ cs) a = after-chunks (at + 4 + length c) cs (past-raw _ refl (past_word a))

or_turned : (a b : Bool) → (a || b) ≡ true → (b || a) ≡ true
or_turned true true e = refl
or_turned true false e = refl
or_turned false true e = refl
or_turned false false e = e

module _ {p : Source} (short : length p.bytes < 256 ^ 4) (fs : List Field) (text known : Bool) (start : Place) where
  pub chunks-at : (turns : ℕ) (cs : List (List ℕ)) (left at : ℕ) → length cs < turns → ChunksOk text cs → left ≡ length (joined cs) → At p at (put_chunks cs fs)
      → chunks_at turns text known p start left at ≡ whole (part_to start (past-chunks at cs)) (past-chunks at cs)
  unfolding chunks_at chunk_at is_chunk is_last
  chunks-at zero cs left at h ok e a = absurd (not-suc-le-zero h)
  chunks-at (suc turns) [] left at h ok e a =
      then_at _ (number-at _ (omega arith) a ∙ must-at _ _ (rw (eq-eqb left 0 e)))
  chunks-at (suc turns) (c ∷ cs) left at h ok e a =
      let a1 = past_word a in
      let a2 = past-raw (length c) refl a1 in
      let g : left ≡ length c + length (joined cs) = e ∙ length-append c (joined cs) in
      let n : length c < 256 ^ 4 = omega (arith, a2.inside) in
      then_at _ (number-at _ n a ∙ cond_no _ _ (ne_eqb (length c) 0 (omega arith))
      ∙ must-at _ _ (rw (or_turned (not text) (even (length c)) ok.1, le-leb (length c) left (omega arith))) ∙ part-at _ _ refl a1)
      ∙ cond_no _ _ (ne_eqb (length c) 0 (omega arith)) ∙ chunks-at turns cs (left - length c) (at + 4 + length c) (omega arith) ok.2 (omega arith) a2

-- the chunks' bytes, whatever follows them
pub joined_at : (turns : ℕ) (text : Bool) (cs : List (List ℕ)) (fs : List Field) → length cs < turns → length (joined cs) < 256 ^ 4 → ChunksOk text cs
    → chunk_bytes turns (flat (put_chunks cs fs)) ≡ joined cs
unfolding chunk_bytes flat
joined_at zero text cs fs h l ok = absurd (not-suc-le-zero h)
joined_at (suc turns) text [] fs h l ok = rw (le-exact 4 0 (flat fs) (omega arith))
joined_at (suc turns) text (c ∷ cs) fs h l ok =
    let n = length c in
    let m = rw (length-append c (joined cs)) at l in
    rw (
      le-exact 4 n (c ++ flat (put_chunks cs fs)) (omega arith),
      ne_eqb n 0 (omega arith),
      drop_at (le 4 n) (c ++ flat (put_chunks cs fs)) 4 (length-le 4 n),
      take_at c (flat (put_chunks cs fs)) n refl,
      drop_at c (flat (put_chunks cs fs)) n refl,
    )
    (ap (λ (l : List ℕ). c ++ l) (joined_at turns text cs fs (omega arith) (omega arith) ok.2))

length-chunks : (cs : List (List ℕ)) → length (flat (put_chunks cs [])) ≡ 4 + 4 * length cs + length (joined cs)
unfolding flat
length-chunks [] = size_word 4 0 []
length-chunks (c ∷ cs) =
    size_word 4 (length c) (raw c ∷ put_chunks cs []) ∙ ap (λ (n : ℕ). 4 + n) (size-raw c (put_chunks cs []))
    ∙ omega (arith, length-chunks cs, length-append c (joined cs))

-- the part that they are
part-chunks : {p : Source} (fs : List Field) (at : Place) (cs : List (List ℕ)) → At p at (put_chunks cs fs)
    → part_bytes p.bytes (part_to at (past-chunks at cs)) ≡ flat (put_chunks cs [])
unfolding part_bytes
part-chunks {p} fs at cs a =
    rw (a.is, chunks-before cs fs, flat-cat (put_chunks cs []) fs)
    (take_at (flat (put_chunks cs [])) (flat fs) (past-chunks at cs - at) (omega (arith, past_is at cs, length-chunks cs)))

even_sum : (text : Bool) (cs : List (List ℕ)) → ChunksOk text cs → (even (length (joined cs)) || not text) ≡ true
even_sum text [] ok = refl
even_sum false (c ∷ cs) ok = or_turned true (even (length (joined (c ∷ cs)))) refl
even_sum true (c ∷ cs) ok =
    let e1 : length c % 2 ≡ 0 = eqb-true _ _ ok.1 in
    let e2 : length (joined cs) % 2 ≡ 0 = eqb-true _ _ (or_turned _ false (even_sum true cs ok.2)) in
    rw (eq-eqb (length (c ++ joined cs) % 2) 0 (simp length-append (omega arith)))

module _ {p : Source} (short : length p.bytes < 256 ^ 4) (fs : List Field) (text : Bool) (cs : List (List ℕ)) (ok : ChunksOk text cs) (at : Place)
    (a : At p at (word 8 (length (joined cs)) ∷ put_chunks cs fs)) where
  few : (length cs < suc (length p.bytes)) × (length (joined cs) < 256 ^ 4)
  few = (omega (arith, past_is (at + 8) cs, (after-chunks (at + 8) cs (past_word a)).inside), omega (arith, past_is (at + 8) cs, (after-chunks (at + 8) cs (past_word a)).inside))

  pub max-at : max_at text p at ≡ whole (value.Max (part_to (at + 8) (past-chunks (at + 8) cs))) (past-chunks (at + 8) cs)
  unfolding max_at
  max-at =
      let n = length (joined cs) in
      let l = few in
      number-at _ (omega arith) a ∙ cond_no _ _ (ne_eqb n 0xFFFFFFFFFFFFFFFF (omega arith)) ∙ must-at _ _ (even_sum text cs ok)
      ∙ then_at _ (chunks-at short fs text (not (eqb n 0xFFFFFFFFFFFFFFFE)) (at + 8) (suc (length p.bytes)) cs n (at + 8) l.0 ok refl (past_word a))

  pub max-bytes : chunk_bytes (past-chunks (at + 8) cs - (at + 8)) (part_bytes p.bytes (part_to (at + 8) (past-chunks (at + 8) cs))) ≡ joined cs
  max-bytes =
      rw (part-chunks fs (at + 8) cs (past_word a))
      (joined_at (past-chunks (at + 8) cs - (at + 8)) text cs [] (omega (arith, past_is (at + 8) cs)) few.1 ok)
