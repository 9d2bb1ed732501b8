-- The marks of a capture rise and are exactly the numbers of the records whose headers length cannot be. Assumes nothing.
use Prim.Native.Nat.{ℕ, zero, suc, ◌+◌}
use mathlib.Core.Path.{◌≡◌, refl}
use mathlib.Core.Bool.{true, false}
use mathlib.Core.Logic.{inl, inr, ∥∥₁_elim}
use mathlib.Core.HLevel.{⊥_prop, ×_prop}
use mathlib.Core.List.Memᴰ
use mathlib.Core.List.{List, [], ◌∷◌, Memᴰ}
use native.Mathlib.Bridge.{le_prop}
use native.Mathlib.Nat.{zero-add}
use native.Mathlib.Omega.{arith}
use Rattle.wire.proofs.Cases.{by-test, clash}
use Rattle.wire.proofs.Rising.{RiseFrom, none-rises, rises}
use Rattle.script.specs.Records.{Item, item, cut, records}
use Rattle.request.specs.Headers.{all_headers, CannotBe}
use Rattle.std.specs.Prelude.{Result, Ok, Err}
use Rattle.request.specs.declared.HeadersFault.{HeadersFault}
use Rattle.request.specs.declared.HeadersFault.TheVariants.{Short, TooSmall, PastEnd}
use Rattle.request.proofs.TooSmall.{headers-too-small}
use Rattle.capture_marks.specs.Marks.{too_small, is_marked, marks_from, marks_of}
use Rattle.capture_marks.specs.Exactly.{MarkedAt, MarksRise, ExactlyMarked}

-- ---- one record

small : (h : Result ℕ HeadersFault) → too_small h ≡ true → h ≡ Err TooSmall
small (Err Short) e = clash (cc)
small (Err TooSmall) e = refl
small (Err PastEnd) e = clash (cc)
small (Ok n) e = clash (cc)

module _ (body : List ℕ) where
  pub marked-cannot : is_marked body ≡ true → CannotBe body
  unfolding is_marked
  marked-cannot e = (headers-too-small body).0 (small (all_headers body) e)

  pub cannot-marked : CannotBe body → is_marked body ≡ true
  unfolding is_marked
  cannot-marked k = rw ((headers-too-small body).1 k)

-- ---- they rise

marks-from : (n : ℕ) (rs : List Item) → RiseFrom n (marks_from n rs)
unfolding marks_from
marks-from n [] = none-rises n
marks-from n (cut ∷ rs) = none-rises n
marks-from n (item k body ∷ rs) =
    let rest = marks-from (suc n) rs in
    by-test (is_marked body) (λ e. rw e (rises false n (marks_from (suc n) rs) rest)) (λ e. rw e (rises true n (marks_from (suc n) rs) rest))

pub marks-rise : MarksRise
unfolding marks_of
marks-rise s = (marks-from 0 (records s)).rising

-- ---- they are those of the marked records

marked-there : (n i : ℕ) (rs : List Item) → MarkedAt i rs → Memᴰ (n + i) (marks_from n rs)
unfolding marks_from MarkedAt
marked-there n i [] h = absurd h
marked-there n i (cut ∷ rs) h = absurd h
marked-there n zero (item k body ∷ rs) h = let e : n + zero ≡ n = omega arith in rw (cannot-marked body h) (Memᴰ.head e)
marked-there n (suc i) (item k body ∷ rs) h =
    let e : n + suc i ≡ suc n + i = omega arith in
    let rest = Memᴰ.cast e (marked-there (suc n) i rs h) in
    by-test (is_marked body) (λ t. rw t (Memᴰ.tail rest)) (λ t. rw t rest)

there-marked : (n m : ℕ) (rs : List Item) → Memᴰ m (marks_from n rs) → (i : ℕ) × (m ≡ n + i) × MarkedAt i rs
unfolding marks_from MarkedAt
there-marked n m [] d = absurd (Memᴰ.not-nil d)
there-marked n m (cut ∷ rs) d = absurd (Memᴰ.not-nil d)
there-marked n m (item k body ∷ rs) d =
    let later : Memᴰ m (marks_from (suc n) rs) → (i : ℕ) × (m ≡ n + i) × MarkedAt i (item k body ∷ rs) =
    λ c. let r = there-marked (suc n) m rs c in (suc r.0, omega (arith, r.1), r.2) in
    by-test (is_marked body)
    (λ t. elim (Memᴰ.cases_cons (rw t at d)) [ inl e ↦ (zero, omega (arith, e), marked-cannot body t) | inr c ↦ later c ])
    (λ t. later (rw t at d))

marked-prop : (n : ℕ) (rs : List Item) → IsProp (MarkedAt n rs)
unfolding MarkedAt
marked-prop n [] = ⊥_prop
marked-prop n (cut ∷ rs) = ⊥_prop
marked-prop zero (item k body ∷ rs) = ×_prop le_prop le_prop
marked-prop (suc n) (item k body ∷ rs) = marked-prop n rs

pub exactly-marked : ExactlyMarked
unfolding marks_of
exactly-marked s n = (
  λ h. ∥∥₁_elim h (marked-prop n (records s))
      (λ d. let r = there-marked 0 n (records s) d in let e : r.0 ≡ n = omega (arith, r.1) in rw e at r.2),
  λ h. ∣ (simp zero-add at (marked-there 0 n (records s) h)) ∣₁,
)
