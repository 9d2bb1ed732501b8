-- A request is refused with 35, or with 29, 30 or 31: field by field, in the order in which they are read. Assumes nothing.
use mathlib.Core.Path.{◌≡◌, refl}
use mathlib.Core.Bool.{Bool, true, false, cond}
use mathlib.Core.Logic.{◌⊎◌, inl, inr}
use Prim.Native.Nat.{ℕ, zero, suc}
use lib.Dec.{eqb, leb}
use Rattle.std.specs.Prelude.{Result, Ok, Err}
use native.Mathlib.Omega.{arith}
use lib.ListN.{length}
use Rattle.wire.proofs.Cases.{clash}
use Rattle.request.specs.Headers.{all_headers}
use Rattle.request.proofs.TooSmall.{by-headers}
use Rattle.request.specs.declared.HeadersFault.{HeadersFault}
use Rattle.request.specs.declared.HeadersFault.TheVariants.{Short, TooSmall, PastEnd}
use Rattle.payload.specs.Places.{body_source, Source, Place, Read, whole, refused, must, then}
use Rattle.rpc.specs.Rpc.{renamed, in_metadata, value_at, parameter_at, parameters_at, Sent, call_at, call_after, told, rpc_of}
use Rattle.rpc.specs.Refusals.{CallNumber, RefusedByOwn, CallTooSmall}

-- what is read, or is refused with a number of the call itself
data Own {A : Type 0} : Read A → Type 0 where
  read : {a : A} {to : ℕ} → Own (whole a to)
  number : {n : ℕ} → CallNumber n → Own (refused n)

module _ {A : Type 0} where
  renamed-own : (name : ℕ → ℕ) (x : Read A) → ((n : ℕ) → CallNumber (name n)) → Own (renamed name x)
  unfolding renamed
  renamed-own name (whole a to) f = read
  renamed-own name (refused n) f = number (f n)

  cond-own : (b : Bool) (x y : Read A) → Own x → Own y → Own (cond b x y)
  cond-own true x y f g = f
  cond-own false x y f g = g

  must-own : (b : Bool) (n : ℕ) (x : Read A) → CallNumber n → Own x → Own (must b n x)
  unfolding must
  must-own b n x f g = cond-own b x (refused n) g (number f)

then-own : {A B : Type 0} (x : Read A) (go : A → Place → Read B) → Own x → ((a : A) (to : ℕ) → Own (go a to)) → Own (then x go)
unfolding then
then-own (whole a to) go f g = g a to
then-own (refused n) go (number f) g = number f

metadata-own : (n : ℕ) → CallNumber (in_metadata n)
metadata-own n = go (eqb n 24)
  where
    go : (b : Bool) → CallNumber (cond b 30 31)
    go true = inr (inl refl)
    go false = inr (inr refl)

module _ (b : Source) where
  parameter-own : (at : Place) → Own (parameter_at b at)
  unfolding parameter_at value_at
  parameter-own at =
      then-own _ _ (renamed-own in_metadata _ metadata-own) (λ m a1.
      then-own _ _ (renamed-own _ _ (λ n. inr (inl refl))) (λ v a2. read))

  parameters-own : (turns : ℕ) (at : Place) → Own (parameters_at turns b at)
  unfolding parameters_at
  parameters-own zero at = number (inr (inl refl))
  parameters-own (suc turns) at =
      cond-own (leb (length b.bytes) at) _ _ read
      (then-own _ _ (parameter-own at) (λ p a1. then-own _ _ (parameters-own turns a1) (λ ps a2. read)))

  call-own : (at : Place) → Own (call_at b at)
  unfolding call_at
  call-own at =
      then-own _ _ (renamed-own _ _ (λ n. inl refl)) (λ h a1.
      then-own _ _ (parameters-own _ a1) (λ ps a2. must-own _ _ _ (inr (inl refl)) read))

module _ (number m : ℕ) where
  own_of : (x : Read Sent) → Own x → told number x ≡ Err m → CallNumber m
  own_of (whole s to) f e = clash (cc)
  own_of (refused n) (Own.number f) e = let g : n ≡ m = cc in rw g at f

  after-own : (b : Source) (h : Result ℕ HeadersFault) → told number (call_after b h) ≡ Err m → ((h ≡ Err TooSmall) × (m ≡ 35)) ⊎ CallNumber m
  after-own b (Err Short) e = inr (own_of (refused 29) (Own.number (inl refl)) e)
  after-own b (Err TooSmall) e = inl (refl, cc)
  after-own b (Err PastEnd) e = inr (own_of (refused 29) (Own.number (inl refl)) e)
  after-own b (Ok n) e = inr (own_of (call_at b n) (call-own b n) e)

-- 35 is no number of the call itself
not-of-call : CallNumber 35 → ⊥
not-of-call (inl e) = omega arith
not-of-call (inr (inl e)) = omega arith
not-of-call (inr (inr e)) = omega arith

pub refused-by-own : RefusedByOwn
unfolding rpc_of
refused-by-own b asked n e = elim (after-own asked n (body_source b) (all_headers b) e) [ inl h ↦ inl h.1 | inr f ↦ inr f ]

pub call-too-small : CallTooSmall
unfolding rpc_of
call-too-small asked =
    by-headers (Err 35) (λ body h. told asked (call_after (body_source body) h))
    (λ body k. refl)
    (λ body h e. elim (after-own asked 35 (body_source body) h e) [ inl f ↦ f.0 | inr f ↦ absurd (not-of-call f) ])
