-- What the answers of private functions tell of what was read, and refusals under another name. Assumes nothing.
use mathlib.Core.Path.{◌≡◌, refl, sym, ap, ◌∙◌}
use Prim.Native.Nat.{ℕ}
use Rattle.std.specs.Prelude.{Result, Ok, Err}
use Rattle.std.specs.Result.{MatchResult, IsErrAnd}
use Rattle.refusals.specs.declared.Refusal.{Refusal}
use Rattle.refusals.specs.Refused.{numbered}
use Rattle.payload.specs.Places.{Read, Place, whole, refused}
use Rattle.rpc.specs.declared.Parameter.{Parameter}
use Rattle.rpc.specs.declared.ParameterAt.{ParameterAt}
use Rattle.rpc.specs.Rpc.{renamed}
use Rattle.rpc.specs.Answers.{placed, parameter_read}

-- an answer that loses nothing tells what was read
told-by : {A R : Type 0} (answer : Read A → Result R ℕ) (back : Result R ℕ → Read A) → ((x : Read A) → back (answer x) ≡ x)
    → (x : Read A) {r s : Result R Refusal} → numbered r ≡ answer x → r ≡ s → x ≡ back (numbered s)
told-by answer back inverse x e f = sym (inverse x) ∙ ap back (sym e ∙ ap numbered f)

-- ---- a procedure, a head, metadata, a parameter

abbrev place_of : {A : Type 0} → Result (A × Place) ℕ → Read A
place_of (Ok p) = whole p.0 p.1
place_of (Err n) = refused n

pub placed-told : {A : Type 0} (x : Read A) {r s : Result (A × Place) Refusal} → numbered r ≡ placed x → r ≡ s → x ≡ place_of (numbered s)
placed-told = told-by placed place_of (λ x. elim x as (λ y. place_of (placed y) ≡ y) [ whole a to ↦ refl | refused n ↦ refl ])

abbrev parameter_of : Result ParameterAt ℕ → Read Parameter
parameter_of (Ok p) = whole p.parameter p.next
parameter_of (Err n) = refused n

pub parameter-told : (x : Read Parameter) {r s : Result ParameterAt Refusal} → numbered r ≡ parameter_read x → r ≡ s → x ≡ parameter_of (numbered s)
parameter-told = told-by parameter_read parameter_of (λ x. elim x as (λ y. parameter_of (parameter_read y) ≡ y) [ whole p to ↦ refl | refused n ↦ refl ])

-- ---- refusals under another name

-- what `map_err` tells of what it was called on
module _ {T D E : Type 0} (P : D → E → Type 0) where
  pub mapped-ok : (r : Result T D) {s : Result T E} {a : T} → MatchResult r (λ x. s ≡ Ok x) (λ e. IsErrAnd s (P e)) → s ≡ Ok a → r ≡ Ok a
  mapped-ok (Ok x) h f = ap (λ (v : T). Ok v) (cc)
  mapped-ok (Err e) h f = absurd (rw f at h)

  pub mapped-err : (r : Result T D) {s : Result T E} {d : E} → MatchResult r (λ x. s ≡ Ok x) (λ e. IsErrAnd s (P e)) → s ≡ Err d → (e : D) × (r ≡ Err e) × P e d
  mapped-err (Ok x) h f = absurd (cc)
  mapped-err (Err e) h f = (e, refl, rw f at h)

module _ {A : Type 0} (name : ℕ → ℕ) where
  pub renamed-got : {x : Read A} {a : A} {to : ℕ} → x ≡ whole a to → renamed name x ≡ whole a to
  unfolding renamed
  renamed-got e = rw e

  pub renamed-not : {x : Read A} {n : ℕ} → x ≡ refused n → renamed name x ≡ refused (name n)
  unfolding renamed
  renamed-not e = rw e
