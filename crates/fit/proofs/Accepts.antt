-- What a script's measure says of the fit check's answer: its refusal, or that the misfits decide. Assumes nothing.
use Rattle.std.specs.Prelude.{Ok, Err}
use Prim.Native.Nat.{ℕ}
use mathlib.Core.Path.{◌≡◌}
use mathlib.Core.List.{List}
use native.Mathlib.Omega.{arith}
use lib.Dec.{eqb}
use borrow.Author.Tests.{eqb-true}
use Rattle.wire.proofs.Cases.{by-test}
use Rattle.script.specs.Records.{records}
use Rattle.emission.specs.Refusal.{refusal_of}
use Rattle.emission.specs.Length.{measure_of}
use Rattle.fit.specs.Misfits.{first_of, fit_of}
use Rattle.fit.specs.Records.{misfits_in}
use Rattle.emission.proofs.BySets.{no-verdict}
use Rattle.fit.proofs.BySets.{by-sets}

module _ (s : List ℕ) {n : ℕ} where
  pub refused : measure_of s ≡ Err n → Err n ≡ fit_of s
  unfolding measure_of fit_of
  refused e =
      by-test (eqb (refusal_of s) 0)
      (λ h. let c = rw h at e in let z : ◌≡◌ {A = ℕ} 0 1 = cc in absurd (omega arith))
      (λ h. let c = rw h at e in let z : refusal_of s ≡ n = cc in rw (h, z))

  pub accepted : measure_of s ≡ Ok n → Ok (first_of (misfits_in (records s))) ≡ fit_of s
  unfolding measure_of fit_of
  accepted e =
      by-test (eqb (refusal_of s) 0)
      (λ h. rw (h, by-sets s (no-verdict s (eqb-true (refusal_of s) 0 h))))
      (λ h. let c = rw h at e in let z : ◌≡◌ {A = ℕ} 0 1 = cc in absurd (omega arith))
