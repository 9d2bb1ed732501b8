-- Numbers that rise from one on, as a walk hands them out that counts up and takes some of the numbers. Assumes nothing.
use Prim.Native.Nat.{ℕ, suc, ◌<◌, ◌≤◌}
use mathlib.Core.Bool.{Bool, true, false, cond}
use mathlib.Core.Logic.{inl, inr, ∥∥₁_elim}
use mathlib.Core.List.Memᴰ
use mathlib.Core.List.{List, [], ◌∷◌, Memᴰ, Pairwise}
use native.Mathlib.Bridge.{le_prop}
use native.Mathlib.Omega.{arith}

pub record RiseFrom (n : ℕ) (ns : List ℕ) : Type 0 where
  pub from : (m : ℕ) → Memᴰ m ns → n ≤ m
  pub rising : Pairwise ◌<◌ ns

pub none-rises : (n : ℕ) → RiseFrom n []
none-rises n = record { from = λ m d. absurd (Memᴰ.not-nil d); rising = Pairwise.nil }

-- those after a number, where a test passes it over, or with it
pub rises : (passed : Bool) (n : ℕ) (ns : List ℕ) → RiseFrom (suc n) ns → RiseFrom n (cond passed ns (n ∷ ns))
rises true n ns h = record { from = λ m d. omega (arith, h.from m d); rising = h.rising }
rises false n ns h =
    record {
      from = λ m d. elim (Memᴰ.cases_cons d) [ inl e ↦ omega (arith, e) | inr c ↦ omega (arith, h.from m c) ];
      rising = Pairwise.cons (λ m d. ∥∥₁_elim d le_prop (h.from m)) h.rising;
    }
