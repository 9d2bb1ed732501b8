-- The laws of `first_of`: the first refusal is found, or the rest decides. Assumes nothing.
use Prim.Native.Nat.{ℕ, zero, suc}
use mathlib.Core.Path.{◌≡◌, refl, ap, ◌∙◌}
use mathlib.Core.List.{List, [], ◌∷◌}
use native.Mathlib.Omega.{arith}
use borrow.Author.Tests.{ne_eqb}
use Rattle.std.specs.Prelude.{Result, Err}
use Rattle.std.specs.Result.{IsErrAnd}
use Rattle.std.proofs.lemmas.Result.{err_from_is_err_and}
use Rattle.refusals.specs.declared.Refusal.{Refusal}
use Rattle.refusals.specs.Refused.{number, refused_by}
use Rattle.refusals.proofs.Numbers.{number-not-0}
use Rattle.text.specs.Units.{units_of}
use Rattle.text.specs.Surrogates.{paired, surrogates, well_formed}
use Rattle.response.specs.Answer.{first_of}
use Rattle.text.specs.Arguments.{text_fault}

-- what a `?` hands on is the refusal that it met
pub handed-on : {T : Type 0} (e : Refusal) (r : Result T Refusal) → IsErrAnd r (λ y. y ≡ e) → r ≡ Err e
handed-on e r from = let p = err_from_is_err_and r from in p.1 ∙ ap Err p.2

pub first : (e : Refusal) {a : ℕ} (rest : List ℕ) → number e ≡ a → number e ≡ first_of (a ∷ rest)
unfolding first_of
first e rest of = rw (← of) (simp (ne_eqb _ _ (number-not-0 e)))

pub found : {T : Type 0} (e : Refusal) (r : Result T Refusal) {a : ℕ} (rest : List ℕ) → IsErrAnd r (λ y. y ≡ e) → number e ≡ a → refused_by r ≡ first_of (a ∷ rest)
found e r rest from of = rw (handed-on e r from) (first e rest of)

pub passed : {a : ℕ} (rest : List ℕ) → 0 ≡ a → first_of (a ∷ rest) ≡ first_of rest
unfolding first_of
passed rest of = rw (← of)

-- a last one decides by itself
pub last : (a : ℕ) → first_of (a ∷ []) ≡ a
unfolding first_of
last zero = refl
last (suc a) = simp (ne_eqb (suc a) 0 (λ q. omega arith))

-- two before others
pub pair : (a b : ℕ) (rest : List ℕ) → first_of (first_of (a ∷ b ∷ []) ∷ rest) ≡ first_of (a ∷ b ∷ rest)
unfolding first_of
pair zero zero rest = refl
pair zero (suc b) rest = let e = ne_eqb (suc b) 0 (λ q. omega arith) in simp (e, e)
pair (suc a) b rest = let e = ne_eqb (suc a) 0 (λ q. omega arith) in simp (e, e)

-- no text refuses nothing
pub no_more : (a : ℕ) → first_of (a ∷ text_fault [] ∷ []) ≡ a
unfolding first_of text_fault well_formed surrogates paired units_of
no_more zero = refl
no_more (suc a) = simp (ne_eqb (suc a) 0 (λ q. omega arith))
