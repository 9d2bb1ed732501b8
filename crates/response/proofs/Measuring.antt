-- A turn over a list's records: its refusal, and its size so far. Assumes nothing.
use Prim.Native.Nat.{ℕ, ◌+◌, ◌-◌, ◌≤◌}
use mathlib.Core.Path.{◌≡◌, refl, sym, ap, ◌∙◌}
use mathlib.Core.List.{List, ◌∷◌}
use native.Mathlib.Nat.{add-sub_cancel_left}
use native.Mathlib.Omega.{arith}
use lib.ListN.{take, drop}
use lib.Dec.{eqb}
use borrow.Author.Tests.{ne_eqb}
use Rattle.std.proofs.lemmas.Bool.{eqb-true}
use Rattle.std.specs.Prelude.{Result, Ok, Err}
use Rattle.refusals.specs.declared.Refusal.{Refusal}
use Rattle.refusals.specs.Refused.{number, numbered}
use Rattle.refusals.proofs.Numbers.{number-not-0}
use Rattle.std.specs.Result.{IsErrAnd}
use Rattle.wire.proofs.Cases.{by-test}
use Rattle.script.specs.declared.Found.TheVariants.{Record, Cut, End}
use Rattle.script.specs.Records.{item, records, record_at}
use Rattle.script.proofs.Walk.{turn, cuts, ends}
use Rattle.response.proofs.Firsts.{handed-on}
use Rattle.response.specs.Lists.{first_fault}
use Rattle.response.specs.Inner.{capped, all_sizes, measured}

-- ---- what is known of a list

module _ (fault size : ℕ) where
  pub fault-of : (e : Refusal) → Err (number e) ≡ measured fault size → number e ≡ fault
  unfolding measured
  fault-of e h =
      by-test (eqb fault 0)
      (λ z. let w = simp z at h in cc)
      (λ z. let w = simp z at h in cc)

  pub size_of : {n : ℕ} → Ok n ≡ measured fault size → (0 ≡ fault) × (n ≡ capped size)
  unfolding measured
  size_of {n} h =
      by-test (eqb fault 0)
      (λ z. let w = simp z at h in (sym (eqb-true fault 0 z), cc))
      (λ z. let w = simp z at h in absurd (cc))

  -- a refusal that a `?` hands on
  pub measured-fault : (e : Refusal) (r : Result ℕ Refusal) → IsErrAnd r (λ y. y ≡ e) → number e ≡ fault → numbered r ≡ measured fault size
  unfolding measured
  measured-fault e r from of = rw (handed-on e r from, ← of) (simp (ne_eqb _ _ (number-not-0 e)))

-- ---- the loop

-- of a list s, what is left at a place refuses as the whole does, and has the size that the whole has more than n
pub record Measuring (fault size : ℕ → List ℕ → ℕ) (s : List ℕ) (at n : ℕ) : Type 0 where
  pub refuses : first_fault fault (records (drop at s)) ≡ first_fault fault (records s)
  pub small : n ≤ 65536
  pub long : capped (n + all_sizes size (records (drop at s))) ≡ capped (all_sizes size (records s))

pub measuring : (fault size : ℕ → List ℕ → ℕ) (s : List ℕ) → Measuring fault size s 0 0
measuring fault size s = record { refuses = refl; small = omega arith; long = omega arith }

module _ (fault size : ℕ → List ℕ → ℕ) (s : List ℕ) (at n : ℕ) (m : Measuring fault size s at n) where
  abbrev known : Result ℕ ℕ
  known = measured (first_fault fault (records s)) (all_sizes size (records s))

  pub measured-cut : record_at s at ≡ Cut → Err 11 ≡ known
  unfolding first_fault measured
  measured-cut e =
      let bad : first_fault fault (records s) ≡ 11 = sym m.refuses ∙ ap (first_fault fault) (cuts s at e) in
      rw bad refl

  pub measured-end : record_at s at ≡ End → Ok n ≡ known
  unfolding first_fault all_sizes measured
  measured-end e =
      let good : first_fault fault (records s) ≡ 0 = sym m.refuses ∙ ap (first_fault fault) (ends s at e) in
      let all : n ≡ capped (all_sizes size (records s)) = omega (arith, m.small, m.long, ap (all_sizes size) (ends s at e)) in
      rw good (ap Ok all)

  -- a record, whose payload is the slice from its start on
  module _ (k st len : ℕ) (e : record_at s at ≡ Record k st len) where
    abbrev payload : List ℕ
    payload = take (st + len - st) (drop st s)

    here : records (drop at s) ≡ item k payload ∷ records (drop (st + len) s)
    here = rw (add-sub_cancel_left st len) (turn s at e)

    pub measured-bad : (f : Refusal) (r : Result ℕ Refusal) → IsErrAnd r (λ y. y ≡ f) → number f ≡ fault k payload → numbered r ≡ known
    unfolding first_fault measured
    measured-bad f r from g =
        let now : first_fault fault (records (drop at s)) ≡ number f = rw (here, ← g) (simp (ne_eqb _ _ (number-not-0 f))) in
        let bad : first_fault fault (records s) ≡ number f = sym m.refuses ∙ now in
        rw (handed-on f r from, bad) (simp (ne_eqb _ _ (number-not-0 f)))

    pub measured-next : (z : ℕ) {n' : ℕ} → 0 ≡ fault k payload → z ≡ capped (size k payload) → n' ≡ capped (n + z) → Measuring fault size s (st + len) n'
    unfolding first_fault all_sizes
    measured-next z g q w =
        let none : fault k payload ≡ 0 = sym g in
        let rest : first_fault fault (records (drop at s)) ≡ first_fault fault (records (drop (st + len) s)) = rw here (simp none) in
        record {
          refuses = sym rest ∙ m.refuses;
          small = omega arith;
          long = omega (arith, m.long, ap (all_sizes size) here);
        }
