-- 35 refuses the requests whose headers length cannot be, and no others. Assumes nothing.
use mathlib.Core.Path.{◌≡◌, refl}
use mathlib.Core.List.{List}
use mathlib.Core.Bool.{cond}
use Prim.Native.Nat.{ℕ, ◌-◌}
use native.Mathlib.Omega.{arith}
use lib.Dec.{eqb, ltb}
use lib.ListN.{length}
use borrow.Author.Tests.{ne_eqb}
use Rattle.wire.proofs.Cases.{by-test, clash}
use Rattle.text.specs.Surrogates.{well_formed}
use Rattle.request.specs.Headers.{all_headers, CannotBe, OfThoseThatCannotBe}
use Rattle.request.specs.Batch.{sql_from, batch_text, batch_after, sql_batch}
use Rattle.request.specs.Transaction.{type_after, transaction_request, transaction_descriptor}
use Rattle.request.specs.TooSmall.{HeadersTooSmall, BatchTooSmall, TypeTooSmall, DescriptorTooSmall}
use Rattle.request.specs.declared.HeadersFault.{HeadersFault}
use Rattle.request.specs.declared.HeadersFault.TheVariants.{Short, TooSmall, PastEnd}
use Rattle.wire.specs.declared.Part.{Part}
use Rattle.std.specs.Prelude.{Result, Ok, Err}
use Rattle.request.proofs.Blocks.{is-small, cannot-be}

-- An answer that is made of the headers' answer is `a` of the requests that cannot be alone, where it is `a` after `TooSmall` alone.
pub by-headers : {A : Type 0} (a : A) (after : List ℕ → Result ℕ HeadersFault → A) → ((body : List ℕ) → CannotBe body → after body (Err TooSmall) ≡ a)
    → ((body : List ℕ) (h : Result ℕ HeadersFault) → after body h ≡ a → h ≡ Err TooSmall) → OfThoseThatCannotBe (λ body. after body (all_headers body) ≡ a)
by-headers a after so only body = (
  λ e. cannot-be body (only body (all_headers body) e),
  λ k. rw (is-small body k.0 k.1) (so body k),
)

pub headers-too-small : HeadersTooSmall
headers-too-small = by-headers (Err TooSmall) (λ body h. h) (λ body k. refl) (λ body h e. e)

-- ---- batches

abbrev batch_of : List ℕ → Result ℕ HeadersFault → Result Part ℕ
batch_of body h = cond (eqb (length body) 0) (Err 1) (batch_after body h)

-- a text is not refused with 35
text-not : (body : List ℕ) (at : ℕ) {X : Type 0} → batch_text body at ≡ Err 35 → X
unfolding batch_text
text-not body at e =
    by-test (well_formed (sql_from body at))
    (λ t. let z = rw t at e in clash (cc))
    (λ t. let z : Err 4 ≡ Err 35 = rw t at e in let y : ◌≡◌ {A = ℕ} 4 35 = cc in absurd (omega arith))

batch-only : (body : List ℕ) (h : Result ℕ HeadersFault) → batch_after body h ≡ Err 35 → h ≡ Err TooSmall
batch-only body (Ok n) e = text-not body n e
batch-only body (Err Short) e = let y : ◌≡◌ {A = ℕ} 2 35 = cc in absurd (omega arith)
batch-only body (Err TooSmall) e = refl
batch-only body (Err PastEnd) e = let y : ◌≡◌ {A = ℕ} 3 35 = cc in absurd (omega arith)

pub batch-too-small : BatchTooSmall
unfolding sql_batch
batch-too-small =
    by-headers (Err 35) batch_of
    (λ body k. let n : length body ≡ 0 → ⊥ = λ z. omega arith in rw (ne_eqb (length body) 0 n))
    (λ body h e.
    by-test (eqb (length body) 0)
    (λ t. let z : Err 1 ≡ Err 35 = rw t at e in let y : ◌≡◌ {A = ℕ} 1 35 = cc in absurd (omega arith))
    (λ t. batch-only body h (rw t at e)))

-- ---- transaction requests

type-only : (body : List ℕ) (h : Result ℕ HeadersFault) → type_after body h ≡ Err 35 → h ≡ Err TooSmall
type-only body (Ok n) e =
    by-test (ltb (length body - n) 2)
    (λ t. let z : Err 10 ≡ Err 35 = rw t at e in let y : ◌≡◌ {A = ℕ} 10 35 = cc in absurd (omega arith))
    (λ t. let z = rw t at e in clash (cc))
type-only body (Err Short) e = let y : ◌≡◌ {A = ℕ} 10 35 = cc in absurd (omega arith)
type-only body (Err TooSmall) e = refl
type-only body (Err PastEnd) e = let y : ◌≡◌ {A = ℕ} 10 35 = cc in absurd (omega arith)

pub type-too-small : TypeTooSmall
unfolding transaction_request
type-too-small = by-headers (Err 35) type_after (λ body k. refl) type-only

pub descriptor-too-small : DescriptorTooSmall
unfolding transaction_descriptor
descriptor-too-small body k = rw (is-small body k.0 k.1)
