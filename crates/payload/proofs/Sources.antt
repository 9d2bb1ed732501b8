-- Sources that are the same from a place on. Assumes nothing.
use mathlib.Core.Path.{◌≡◌, refl, sym, ap, ◌∙◌}
use mathlib.Core.List.{List, [], ◌∷◌}
use Prim.Native.Nat.{ℕ, zero, suc, ◌+◌, ◌-◌, ◌≤◌}
use native.Mathlib.Omega.{arith}
use lib.ListN.{length, take, drop, length-drop}
use lib.Seq.{drop-drop, take-nil}
use Rattle.payload.specs.Places.{Source}

-- the rest of some first bytes
pub drop-take : (k m : ℕ) (l : List ℕ) → drop k (take m l) ≡ take (m - k) (drop k l)
drop-take zero m l = let a : m - 0 ≡ m = omega arith in rw a
drop-take (suc k) zero [] = let a : 0 - suc k ≡ 0 = omega arith in rw a
drop-take (suc k) zero (x ∷ l) = let a : 0 - suc k ≡ 0 = omega arith in rw a
drop-take (suc k) (suc m) [] = sym (take-nil (suc m - suc k))
drop-take (suc k) (suc m) (x ∷ l) = let a : suc m - suc k ≡ m - k = omega arith in rw a (drop-take k m l)

-- two sources have the same bytes from a place on, as many in all, and the same refusal after them
pub record Same (a b : Source) (at : ℕ) : Type 0 where
  pub rest : (n : ℕ) → at ≤ n → drop n a.bytes ≡ drop n b.bytes
  pub size : length a.bytes ≡ length b.bytes
  pub stops : a.stop ≡ b.stop

module _ {a b : Source} (at : ℕ) where
  pub same_at : drop at a.bytes ≡ drop at b.bytes → at ≤ length a.bytes → at ≤ length b.bytes → a.stop ≡ b.stop → Same a b at
  same_at e h g s = record {
    rest = λ n k.
        let m : at + (n - at) ≡ n = omega arith in
        ap (λ (i : ℕ). drop i a.bytes) (sym m) ∙ sym (drop-drop (n - at) at a.bytes) ∙ ap (drop (n - at)) e ∙ drop-drop (n - at) at b.bytes
        ∙ ap (λ (i : ℕ). drop i b.bytes) m;
    size = omega (arith, length-drop at a.bytes, length-drop at b.bytes, ap length e);
    stops = s;
  }

  pub same-later : {to : ℕ} → at ≤ to → Same a b at → Same a b to
  same-later l s = record { rest = λ n k. s.rest n (omega arith); size = s.size; stops = s.stops }

pub same_self : (a : Source) (at : ℕ) → Same a a at
same_self a at = record { rest = λ n k. refl; size = refl; stops = refl }

pub same-is : {a b : Source} (at : ℕ) → a ≡ b → Same a b at
same-is {a} at e = rw (sym e) (same_self a at)

pub same_then : {a b c : Source} {at : ℕ} → Same a b at → Same b c at → Same a c at
same_then s t = record { rest = λ n k. s.rest n k ∙ t.rest n k; size = s.size ∙ t.size; stops = s.stops ∙ t.stops }
