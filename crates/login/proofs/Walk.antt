-- The features from a place on: what the head at the place says of them, and where the next one stands. Assumes nothing.
use mathlib.Core.Path.{◌≡◌, refl, sym, ap, ◌∙◌}
use mathlib.Core.List.{List, [], ◌∷◌}
use mathlib.Core.Bool.{cond}
use Prim.Native.Nat.{ℕ, zero, suc, ◌+◌, ◌-◌, ◌≤◌, ◌<◌, min}
use native.Mathlib.Nat.{zero-add, add-zero, add-suc, suc-add}
use native.Mathlib.Omega.{arith}
use lib.ListN.{length, drop, get_or, length-drop}
use lib.Seq.{drop-drop, get_or-drop}
use lib.Dec.{eqb}
use borrow.Author.Tests.{eq-eqb, ne_eqb}
use Rattle.wire.proofs.Cases.{split}
use Rattle.wire.specs.Le.{le_at}
use Rattle.login.specs.declared.Feature.{Feature}
use Rattle.std.proofs.Common.{Option, Some, None}
use Rattle.login.specs.Body.{features_at}
use Rattle.login.specs.Features.{walk, features}
use Rattle.login.specs.Inner.{features_from, follow, Lies}

-- bytes that are passed over, as far as they are there
pass : (n at : ℕ) (l : List ℕ) → walk at n l ≡ walk (at + n) 0 (drop n l)
unfolding walk
pass zero at l = rw add-zero
pass (suc n) at [] = refl
pass (suc n) at (b ∷ l) = rw (add-suc, ← suc-add at n) (pass n (suc at) l)

-- fewer than five bytes
few : (at : ℕ) (l : List ℕ) → length l < 5 → walk at 0 l ≡ []
unfolding walk
few at [] h = refl
few at (a ∷ []) h = refl
few at (a ∷ b ∷ []) h = refl
few at (a ∷ b ∷ c ∷ []) h = refl
few at (a ∷ b ∷ c ∷ d ∷ []) h = refl
few at (a ∷ b ∷ c ∷ d ∷ e ∷ l) h = absurd (omega arith)

-- the feature that a head at a place stands for
abbrev pub feature_of : List ℕ → ℕ → Feature
feature_of s at = record { id = get_or s at 0; part = record { start = at + 5; len = le_at 4 (drop (at + 1) s) } }

-- a head of five bytes
head : (at : ℕ) (l : List ℕ) → 5 ≤ length l
    → walk at 0 l ≡ cond (eqb (get_or l 0 0) 0xff) [] (record { id = get_or l 0 0; part = record { start = at + 5; len = le_at 4 (drop 1 l) } } ∷ walk (at + 5) (le_at 4 (drop 1 l)) (drop 5 l))
unfolding walk le_at
head at [] h = absurd (omega arith)
head at (a ∷ []) h = absurd (omega arith)
head at (a ∷ b ∷ []) h = absurd (omega arith)
head at (a ∷ b ∷ c ∷ []) h = absurd (omega arith)
head at (a ∷ b ∷ c ∷ d ∷ []) h = absurd (omega arith)
head at (a ∷ b ∷ c ∷ d ∷ e ∷ l) h = refl

module _ (s : List ℕ) (at : ℕ) where
  pub no_more : length s - at < 5 → features_from s at ≡ []
  unfolding features_from
  no_more h = few at (drop at s) (simp length-drop h)

  first : get_or (drop at s) 0 0 ≡ get_or s at 0
  first = get_or-drop at s 0 0 ∙ rw add-zero

  pub terminated : 5 ≤ length s - at → get_or s at 0 ≡ 0xff → features_from s at ≡ []
  unfolding features_from
  terminated h e = rw (head at (drop at s) (simp length-drop h), first, eq-eqb _ _ e)

  pub found : 5 ≤ length s - at → (get_or s at 0 ≡ 0xff → ⊥) → features_from s at ≡ follow s (Some (feature_of s at))
  unfolding features_from follow
  found h e = rw (head at (drop at s) (simp length-drop h), first, ne_eqb _ _ e, drop-drop 1 at s, drop-drop 5 at s) (ap (◌∷◌ (feature_of s at)) (pass (le_at 4 (drop (at + 1) s)) (at + 5) (drop (at + 5) s) ∙ rw drop-drop))

pub past : (s : List ℕ) (at : ℕ) → features_from s (min at (length s)) ≡ features_from s at
past s at =
    split at (length s)
    (λ h. let e : min at (length s) ≡ at = omega arith in rw e)
    (λ h. no_more s (min at (length s)) (omega arith) ∙ sym (no_more s at (omega arith)))

-- What a loop over features needs, from the answer of `feature_at`: no feature, or where the feature lies, and the features
-- from the place on, where the next one is looked for after its data.
pub ends : (s : List ℕ) (at : ℕ) {r : Option Feature} → features_from s at ≡ follow s r → r ≡ None → features_from s at ≡ []
unfolding follow
ends s at e h = e ∙ ap (follow s) h

pub record Stands (s : List ℕ) (at : ℕ) (f : Feature) : Type 0 where
  pub start : f.part.start ≡ at + 5
  pub whole : at + 5 ≤ length s
  pub turn : {next : ℕ} → next ≡ min (f.part.start + f.part.len) (length s) → features_from s at ≡ f ∷ features_from s next

pub stands : (s : List ℕ) (at : ℕ) {r : Option Feature} {f : Feature} → features_from s at ≡ follow s r → Lies s at r → r ≡ Some f → Stands s at f
unfolding follow Lies
stands s at {f = f} e l h =
    let lies = rw h at l in
    record {
      start = lies.0;
      whole = lies.1;
      turn = λ n. e ∙ ap (follow s) h ∙ ap (◌∷◌ f) (sym (rw n (past s (f.part.start + f.part.len))));
    }

-- the features of a login are those from their start on
pub from_start : (s : List ℕ) → features s ≡ features_from s (features_at s)
unfolding features features_from
from_start s = pass (features_at s) 0 s ∙ rw zero-add
