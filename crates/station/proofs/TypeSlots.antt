-- A column type in one slot, code * 65536 + length: which slots are those of column types. Assumes nothing.
use Prim.Native.Nat.{ℕ, ◌+◌, ◌*◌, ◌/◌, ◌%◌, ◌≤◌, ◌<◌}
use mathlib.Core.Path.{◌≡◌, refl, sym, ◌∙◌}
use mathlib.Core.Bool.{Bool, true, false, ◌&&◌}
use mathlib.Core.List.{[], ◌∷◌}
use mathlib.Core.Logic.{inl, inr}
use native.Mathlib.Omega.{arith}
use native.Mathlib.Decide.{dec_le}
use native.Mathlib.Nat.{lt_of_not-le}
use lib.Dec.{eqb, leb}
use types.Run.{OneOf}
use borrow.Author.Tests.{lt-ltb, le-ltb, le-leb, lt-leb, eqb-true, eqb-false, ne_eqb}
use Rattle.wire.proofs.Cases.{by-test}
use Rattle.cells.specs.Cells.{is_type}
use Rattle.station.specs.Steps.{code_of, length_of}

-- a slot is that of a column type
abbrev pub IsTyped : ℕ → Type 0
IsTyped slot = true ≡ is_type (code_of slot) (length_of slot)

-- integers of 4 and 8 bytes; the three Max types
pub int-typed : (slot : ℕ) → OneOf (0x260004 ∷ 0x260008 ∷ []) slot → IsTyped slot
unfolding is_type code_of length_of
int-typed slot (inl e) = rw e
int-typed slot (inr e) = rw e

pub max-typed : (slot : ℕ) → OneOf (0xA5FFFF ∷ 0xA7FFFF ∷ 0xE7FFFF ∷ []) slot → IsTyped slot
unfolding is_type code_of length_of
max-typed slot (inl e) = rw e
max-typed slot (inr (inl e)) = rw e
max-typed slot (inr (inr e)) = rw e

-- integers of 1 and 2
pub small-typed : (slot : ℕ) → 0x260001 ≤ slot → slot < 0x260003 → IsTyped slot
unfolding is_type code_of length_of
small-typed slot h k =
    elim (dec_le slot 0x260001) [
      | yes l ↦ let e : slot ≡ 0x260001 = omega arith in rw e
      | no l ↦ let g = lt_of_not-le l in let e : slot ≡ 0x260002 = omega (arith, g) in rw e
    ]

-- all others are bounded texts
module _ (code limit slot : ℕ) (whole : slot ≡ code * 65536 + limit) (low : limit < 65536) (int : OneOf (0x260004 ∷ 0x260008 ∷ []) slot → ⊥)
    (max : OneOf (0xA5FFFF ∷ 0xA7FFFF ∷ 0xE7FFFF ∷ []) slot → ⊥) (small : 0x260001 ≤ slot → 0x260003 ≤ slot) where
  no-integer : code ≡ 0x26 → is_type code limit ≡ false
  unfolding is_type
  no-integer c =
      rw (
        c,
        ne_eqb limit 1 (λ e. let s = small (omega (arith, whole, c, e)) in omega (arith, whole, c, e, s)),
        ne_eqb limit 2 (λ e. let s = small (omega (arith, whole, c, e)) in omega (arith, whole, c, e, s)),
        ne_eqb limit 4 (λ e. int (inl (omega (arith, whole, c, e)))),
        ne_eqb limit 8 (λ e. int (inr (omega (arith, whole, c, e)))),
      )

  no-max : (code ≡ 0x26 → ⊥) → (code ≡ 0xE7 → ⊥) → is_type code limit ≡ false
  unfolding is_type
  no-max n t =
      rw (ne_eqb code 0x26 n, ne_eqb code 0xE7 t)
      (by-test (eqb code 0xA7)
      (λ a. let c = eqb-true code 0xA7 a in rw (a, ne_eqb limit 0xFFFF (λ e. max (inr (inl (omega (arith, whole, c, e)))))))
      (λ a. by-test (eqb code 0xA5)
      (λ b. let c = eqb-true code 0xA5 b in rw (a, b, ne_eqb limit 0xFFFF (λ e. max (inl (omega (arith, whole, c, e))))))
      (λ b. rw (a, b))))

  abbrev Bounded : Bool
  Bounded = leb 0xE70001 slot && leb slot 0xE71F40

  texts : code ≡ 0xE7 → Bounded ≡ is_type code limit
  unfolding is_type
  texts c =
      let m = ne_eqb limit 0xFFFF (λ e. max (inr (inr (omega (arith, whole, c, e))))) in
      elim (dec_le 1 limit) [
        | yes h ↦ elim (dec_le limit 8000) [
          | yes k ↦ rw (le-leb 0xE70001 slot (omega arith), le-leb slot 0xE71F40 (omega arith), c, m, le-leb 1 limit h, le-leb limit 8000 k)
          | no k ↦ let g = lt_of_not-le k in rw (le-leb 0xE70001 slot (omega arith), lt-leb slot 0xE71F40 (omega (arith, g)), c, m, le-leb 1 limit h, lt-leb limit 8000 g)
        ]
        | no h ↦ let g = lt_of_not-le h in rw (lt-leb 0xE70001 slot (omega (arith, g)), c, m, lt-leb 1 limit g)
      ]

  out : (code ≡ 0xE7 → ⊥) → Bounded ≡ false
  out n =
      elim (dec_le code 0xE6) [
        | yes h ↦ rw (lt-leb 0xE70001 slot (omega arith))
        | no h ↦ let g = lt_of_not-le h in
            let k : 0xE8 ≤ code = elim (dec_le 0xE8 code) [
              | yes k ↦ k
              | no k ↦ let j = lt_of_not-le k in absurd (n (omega (arith, g, j)))
            ] in
            rw (le-leb 0xE70001 slot (omega (arith, k)), lt-leb slot 0xE71F40 (omega (arith, k)))
      ]

  bounded : Bounded ≡ is_type code limit
  bounded =
      by-test (eqb code 0xE7) (λ t. texts (eqb-true code 0xE7 t))
      (λ t. let n = eqb-false code 0xE7 t in
      out n ∙ sym (by-test (eqb code 0x26) (λ i. no-integer (eqb-true code 0x26 i)) (λ i. no-max (eqb-false code 0x26 i) n)))

-- no code is no type
pub no_code : (limit : ℕ) → false ≡ is_type 0 limit
unfolding is_type
no_code limit = refl

pub text-typed : (slot : ℕ) → (OneOf (0x260004 ∷ 0x260008 ∷ []) slot → ⊥) → (OneOf (0xA5FFFF ∷ 0xA7FFFF ∷ 0xE7FFFF ∷ []) slot → ⊥) → (0x260001 ≤ slot → 0x260003 ≤ slot)
    → (leb 0xE70001 slot && leb slot 0xE71F40) ≡ is_type (code_of slot) (length_of slot)
unfolding code_of length_of
text-typed slot int max small =
    elim (dec_le 16777216 slot) [
      | yes h ↦ rw (le-ltb slot 16777216 h, le-leb 0xE70001 slot (omega arith), lt-leb slot 0xE71F40 (omega arith)) (no_code (slot % 65536))
      | no h ↦ let g = lt_of_not-le h in rw (lt-ltb slot 16777216 g) (bounded (slot / 65536) (slot % 65536) slot (omega arith) (omega arith) int max small)
    ]
