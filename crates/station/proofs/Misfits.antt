-- Where `station_fit` answers 1, it tells the script's first misfit. Assumes nothing.
use Prim.Native.Nat.{ℕ, zero, suc}
use mathlib.Core.Path.{◌≡◌, refl}
use mathlib.Core.List.{List}
use native.Mathlib.Omega.{arith}
use lib.Dec.{ltb}
use lib.IntN.{pos, neg_ℤ}
use lib.ListN.{length}
use borrow.Author.Tests.{le-ltb}
use Rattle.wire.specs.Over.{overwrite}
use Rattle.wire.proofs.Cases.{by-test, clash}
use Rattle.fit.specs.declared.Misfit.{Misfit}
use Rattle.std.specs.Prelude.{Option, Some, None, Result, Ok, Err}
use Rattle.fit.specs.Misfits.{fit_of}
use Rattle.fit.specs.First.{IsFirst}
use Rattle.fit.proofs.First.{first-misfit}
use Rattle.station.specs.Answer.{number_of, lent, filled, answer_of, slots_of}
use Rattle.station.specs.Results.{misfit_slots, fit_outcome, fit_call, FirstTold}

never-one : (n : ℕ) → neg_ℤ (pos n) ≡ pos 1 → ⊥
never-one zero e = clash (cc)
never-one (suc n) e = clash (cc)

module _ (s out : List ℕ) where
  told : (f : Result (Option Misfit) ℕ) → fit_of s ≡ f → answer_of (fit_outcome f) out ≡ pos 1
      → (m : Misfit) × IsFirst s m × (slots_of (fit_outcome f) out ≡ overwrite out 0 (misfit_slots m))
  unfolding answer_of slots_of lent filled number_of
  told (Ok None) q e = let c = rw (le-ltb (length out) 0 (omega arith)) at e in clash (cc)
  told (Err n) q e = absurd (never-one n e)
  told (Ok (Some m)) q e =
      by-test (ltb (length out) (length (misfit_slots m)))
      (λ t. absurd (never-one 20 (rw t at e)))
      (λ t. (m, first-misfit s m q, rw t))

pub first-told : FirstTold
unfolding fit_call
first-told s out e = told s out (fit_of s) refl e
