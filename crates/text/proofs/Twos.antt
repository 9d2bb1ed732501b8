-- The units of a text are those of its pairs of bytes, and what one turn of a loop over them leaves to be said. Assumes nothing.
use mathlib.Core.Path.{◌≡◌, refl, sym, ap, ◌∙◌}
use mathlib.Core.List.{List, [], ◌∷◌, ◌++◌, map}
use Prim.Native.Nat.{ℕ, suc, ◌+◌, ◌/◌, ◌≤◌, ◌<◌}
use native.Mathlib.Nat.{add_assoc, add-zero}
use native.Mathlib.Omega.{arith}
use native.Mathlib.Numerals.{add-one}
use lib.ListN.{length, drop, get_or, drop_of_length-le}
use lib.Seq.{drop-cons}
use Rattle.std.specs.Int.{from_le_bytes, w16}
use Rattle.std.specs.Simd.{first_chunks}
use Rattle.std.specs.List.{AllWithin, HoldsAt}
use Rattle.std.specs.Option.{MatchOption, unwrap_or}
use Rattle.std.proofs.Common.{Option}
use Rattle.std.proofs.lemmas.Iterator.{index_from_first}
use Rattle.text.specs.Space.{is_whitespace}
use Rattle.text.specs.Trim.{leading, trailing, kept}
use Rattle.text.proofs.Trims.{kept-last}
use Rattle.std.proofs.lemmas.List.{map-append, length-map}
use Rattle.wire.specs.Le.{le_at}
use Rattle.text.specs.Units.{units_of, total}
use Rattle.text.specs.Surrogates.{surrogate_of, paired, any_high}
use Rattle.text.specs.declared.Surrogate.{Surrogate}
use Rattle.text.specs.declared.Surrogate.TheVariants.{Plain, High, Low}
use mathlib.Core.Logic.{inl, inr, ◌⊎◌}
use Rattle.text.proofs.Scan.{after, after-all}
use mathlib.Core.Bool.{Bool, true, false, not, cond}

-- two bytes
pub two : (p : List ℕ) → from_le_bytes w16 p ≡ le_at 2 p
unfolding le_at
two [] = refl
two (a ∷ []) = omega arith
two (a ∷ b ∷ l) = omega arith

pub units-pairs : (s : List ℕ) → map (le_at 2) (first_chunks 2 (length s / 2) s) ≡ units_of s
unfolding units_of le_at
units-pairs [] = refl
units-pairs (a ∷ []) = refl
units-pairs (a ∷ b ∷ l) = let e : suc (suc (length l)) / 2 ≡ suc (length l / 2) = omega arith in rw e (rw (units-pairs l))

-- the unit at a number before the rest, or none
pub turn : (ps : List (List ℕ)) (i : ℕ) {u : ℕ} → i < length ps → u ≡ le_at 2 (get_or ps i []) → map (le_at 2) (drop i ps) ≡ u ∷ map (le_at 2) (drop (i + 1) ps)
turn ps i h e = rw (add-one, drop-cons ps i [] h) (ap (λ v. v ∷ map (le_at 2) (drop (suc i) ps)) (sym e))

pub done : (ps : List (List ℕ)) (i : ℕ) → length ps ≤ i → map (le_at 2) (drop i ps) ≡ []
done ps i h = rw (drop_of_length-le ps h)

-- a sum over units
pub summed : (count : ℕ → ℕ) (n : ℕ) {u w t : ℕ} {us vs : List ℕ} → us ≡ u ∷ vs → w ≡ count u → n + total count us ≡ t → n + w + total count vs ≡ t
unfolding total
summed count n e f g = rw (f, add_assoc n) (rw e at g)

pub summed-all : (count : ℕ → ℕ) (n : ℕ) {t : ℕ} {us : List ℕ} → us ≡ [] → n + total count us ≡ t → n ≡ t
unfolding total
summed-all count n e g = rw add-zero at (rw e at g)

-- ---- surrogates

-- what units are
abbrev pub kinds : List ℕ → List Surrogate
kinds us = map surrogate_of us

-- what the unit before the rest is
pub kind_of : {u : ℕ} {k v : Surrogate} {us vs : List ℕ} → us ≡ u ∷ vs → k ≡ surrogate_of u → k ≡ v → kinds us ≡ v ∷ kinds vs
kind_of e f g = rw (e, ← f, g)

-- none is left
pub ends : (high : Bool) {us : List ℕ} {w : Bool} → us ≡ [] → paired (after high (kinds us)) ≡ w → not high ≡ w
ends high e inv = sym (after-all high) ∙ rw e at inv

-- a high surrogate among them
pub any-first : {ks all : List Surrogate} {w : Bool} → all ≡ High ∷ ks → any_high all ≡ w → true ≡ w
unfolding any_high
any-first e inv = rw e at inv

other : (v : Surrogate) (ks : List Surrogate) → (v ≡ Plain) ⊎ (v ≡ Low) → any_high (v ∷ ks) ≡ any_high ks
unfolding any_high
other Plain ks k = refl
other High ks (inl e) = cc
other High ks (inr e) = cc
other Low ks k = refl

pub any-next : {v : Surrogate} {ks all : List Surrogate} {w : Bool} → all ≡ v ∷ ks → (v ≡ Plain) ⊎ (v ≡ Low) → any_high all ≡ w → any_high ks ≡ w
any-next {v} {ks} e k inv = sym (other v ks k) ∙ rw e at inv

pub any-none : {us : List ℕ} {w : Bool} → us ≡ [] → any_high (kinds us) ≡ w → false ≡ w
unfolding any_high
any-none e inv = rw e at inv

-- ---- white space

-- as many units at the start as come before the first that is none
pub leads : (ps : List (List ℕ)) (r : Option ℕ)
    → MatchOption r (AllWithin (λ p. is_whitespace (le_at 2 p) ≡ true) ps 0 (length ps)) (λ i. (i < length ps) × HoldsAt (λ p. is_whitespace (le_at 2 p) ≡ false) ps i × AllWithin (λ p. is_whitespace (le_at 2 p) ≡ true) ps 0 i)
    → leading (map (le_at 2) ps) ≡ unwrap_or r (length ps)
unfolding leading
leads =
    index_from_first (λ ps. leading (map (le_at 2) ps)) (λ p. is_whitespace (le_at 2 p) ≡ false) (λ p. is_whitespace (le_at 2 p) ≡ true) refl
    (λ p ps e. rw e)
    (λ p ps e. rw (e, add-one))

-- what is kept of units before a last one
pub kept-turn : (before : List (List ℕ)) (p : List ℕ) {ps : List (List ℕ)} {u w : ℕ} {b t : Bool} → ps ≡ before ++ (p ∷ []) → u ≡ le_at 2 p → b ≡ is_whitespace u → b ≡ t
    → kept (map (le_at 2) ps) ≡ w → cond t (kept (map (le_at 2) before)) (length before + 1) ≡ w
kept-turn before p {t = t} e f g h inv =
    let last : kept (map (le_at 2) before ++ (le_at 2 p ∷ [])) ≡ cond t (kept (map (le_at 2) before)) (length before + 1) = kept-last (map (le_at 2) before) (le_at 2 p) ∙ rw (← f, ← g, h, length-map before (le_at 2)) in
    sym last ∙ rw (e, map-append (le_at 2) before (p ∷ [])) at inv

pub kept-none : (ps : List (List ℕ)) {w : ℕ} → length ps ≡ 0 → kept (map (le_at 2) ps) ≡ w → 0 ≡ w
unfolding kept trailing leading
kept-none [] h inv = inv
kept-none (p ∷ ps) h inv = absurd (omega arith)
