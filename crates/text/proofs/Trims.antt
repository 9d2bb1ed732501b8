-- One turn of trimming, at the start and at the end. Assumes nothing.
use mathlib.Core.Path.{◌≡◌}
use mathlib.Core.List.{List, [], ◌∷◌, ◌++◌, reverse, reverse-append}
use mathlib.Core.Bool.{Bool, true, false, cond}
use Prim.Native.Nat.{ℕ, suc, ◌+◌, ◌-◌, ◌*◌, ◌≤◌}
use native.Mathlib.Omega.{arith}
use lib.ListN.{length, take, drop, length-append, length-drop}
use Rattle.wire.specs.declared.Part.{Part}
use Rattle.wire.proofs.Parts.{rest-is}
use Rattle.text.specs.Units.{units_of}
use Rattle.text.specs.Space.{is_whitespace}
use Rattle.text.specs.Trim.{leading, trailing, kept, trimmed}
use Rattle.text.proofs.Scan.{units-from, length-units}

-- ---- at the end

-- of units before a last one
pub kept-last : (us : List ℕ) (u : ℕ) → kept (us ++ (u ∷ [])) ≡ cond (is_whitespace u) (kept us) (length us + 1)
unfolding kept trailing leading
kept-last us u = rw (reverse-append us (u ∷ []), length-append us (u ∷ [])) (by-case (is_whitespace u))
  where
    by-case : (b : Bool) → length us + 1 - cond b (suc (leading (reverse us))) 0 ≡ cond b (length us - leading (reverse us)) (length us + 1)
    by-case true = omega arith
    by-case false = omega arith

-- ---- at both ends

pub trims : (s : List ℕ) (start : ℕ) {len : ℕ} → start ≡ 2 * leading (units_of s) → len ≡ 2 * kept (units_of (take (length s - start) (drop start s)))
    → ◌≡◌ {A = Part} (record { start = start; len = len }) (trimmed s)
unfolding trimmed
trims s start e f =
    let rest : units_of (take (length s - start) (drop start s)) ≡ drop (leading (units_of s)) (units_of s) = rw (rest-is s start, e, units-from (leading (units_of s)) s) in
    rw (f, rest, e)

-- the part lies in the text
most : (b : Bool) (m n : ℕ) → m ≤ n → cond b (suc m) 0 ≤ suc n
most true m n h = omega arith
most false m n h = omega arith

pub lead-most : (us : List ℕ) → leading us ≤ length us
unfolding leading
lead-most [] = omega arith
lead-most (u ∷ us) = most (is_whitespace u) (leading us) (length us) (lead-most us)

pub trimmed-in : (s : List ℕ) → (trimmed s).start + (trimmed s).len ≤ length s
unfolding trimmed kept
trimmed-in s =
    let us : List ℕ = units_of s in
    omega (arith, lead-most us, length-drop (leading us) us, length-units s)
