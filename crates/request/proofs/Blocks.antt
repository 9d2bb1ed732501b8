-- The headers block of a request, and one turn of the walk over its headers. Assumes nothing.
use mathlib.Core.Path.{◌≡◌, refl, sym, ap, ◌∙◌}
use mathlib.Core.List.{List, [], ◌∷◌}
use mathlib.Core.Bool.{Bool, true, cond, ◌&&◌}
use Prim.Native.Nat.{ℕ, zero, suc, ◌+◌, ◌-◌, ◌≤◌, ◌<◌}
use native.Mathlib.Omega.{arith}
use lib.ListN.{length, drop, length-drop}
use lib.Seq.{drop-drop}
use lib.Dec.{leb, eqb}
use borrow.Author.Tests.{le-ltb, lt-ltb}
use Rattle.std.specs.Prelude.{Result, Ok, Err, Some, None}
use Rattle.wire.specs.Le.{le_at}
use Rattle.wire.proofs.Cases.{split}
use Rattle.request.specs.Headers.{all_headers, CannotBe}
use Rattle.request.specs.Transaction.{broken, is_descriptor, descriptor_in}
use Rattle.request.specs.declared.HeadersFault.{HeadersFault}
use Rattle.request.specs.declared.HeadersFault.TheVariants.{Short, TooSmall, PastEnd}

-- ---- the headers length, by its cases

module _ (body : List ℕ) where
  abbrev N : ℕ
  N = le_at 4 body

  pub is-short : length body < 4 → all_headers body ≡ Err Short
  unfolding all_headers
  is-short h = rw (lt-ltb (length body) 4 h)

  module _ (h : 4 ≤ length body) where
    pub is-small : N < 4 → all_headers body ≡ Err TooSmall
    unfolding all_headers
    is-small k = rw (le-ltb (length body) 4 h, lt-ltb N 4 k)

    module _ (k : 4 ≤ N) where
      pub is-past : length body < N → all_headers body ≡ Err PastEnd
      unfolding all_headers
      is-past l = rw (le-ltb (length body) 4 h, le-ltb N 4 k, lt-ltb (length body) N l)

      pub is-length : N ≤ length body → all_headers body ≡ Ok N
      unfolding all_headers
      is-length l = rw (le-ltb (length body) 4 h, le-ltb N 4 k, le-ltb (length body) N l)

  -- what each says of the request
  abbrev Says : Result ℕ HeadersFault → Type 0
  Says (Err Short) = Unit {0}
  Says (Err TooSmall) = CannotBe body
  Says (Err PastEnd) = Unit {0}
  Says (Ok n) = (4 ≤ n) × (n ≤ length body)

  says : Says (all_headers body)
  says =
      split 4 (length body)
      (λ h.
      split 4 N
      (λ k. split N (length body) (λ l. rw (is-length h k l) (k, l)) (λ l. rw (is-past h k l) tt))
      (λ k. rw (is-small h k) (h, k)))
      (λ h. rw (is-short h) tt)

  -- the block holds its own length and lies in the request
  pub block_in : {n : ℕ} → all_headers body ≡ Ok n → (4 ≤ n) × (n ≤ length body)
  block_in e = rw e at says

  pub cannot-be : all_headers body ≡ Err TooSmall → CannotBe body
  cannot-be e = rw e at says

-- ---- the walk

-- the bytes that are passed over are there
passed : (n : ℕ) (l : List ℕ) → n ≤ length l → descriptor_in n l ≡ descriptor_in 0 (drop n l)
unfolding descriptor_in
passed zero l h = refl
passed (suc n) [] h = absurd (omega arith)
passed (suc n) (b ∷ l) h = passed n l (omega arith)

-- a header at the front of a block
front : (l : List ℕ) → 6 ≤ length l → 6 ≤ le_at 4 l → le_at 4 l ≤ length l
    → descriptor_in 0 l ≡ cond (is_descriptor (le_at 4 l) l) (Some (record { descriptor = le_at 8 (drop 6 l); count = le_at 4 (drop 14 l) })) (descriptor_in 0 (drop (le_at 4 l) l))
unfolding descriptor_in
front [] h j k = absurd (omega arith)
front (b ∷ l) h j k =
    let n : ℕ = le_at 4 (b ∷ l) in
    let e : n ≡ suc (n - 1) = omega arith in
    let rest : descriptor_in (n - 1) l ≡ descriptor_in 0 (drop n (b ∷ l)) = passed (n - 1) l (omega arith) ∙ ap (λ (i : ℕ). descriptor_in 0 (drop i (b ∷ l))) (sym e) in
    simp (le-ltb (suc (length l)) 6 h, le-ltb n 6 j, le-ltb (suc (length l)) n k, rest)

broken-front : (l : List ℕ) → broken (le_at 4 l) l ≡ true → descriptor_in 0 l ≡ None
unfolding descriptor_in
broken-front [] h = refl
broken-front (b ∷ l) h = rw h

module _ (s : List ℕ) (at : ℕ) where
  -- the header at a place, and the headers after it
  pub header_at : {n kind : ℕ} {t : Bool} → 6 ≤ length s - at → 6 ≤ n → n ≤ length s - at → n ≡ le_at 4 (drop at s) → kind ≡ le_at 2 (drop (at + 4) s)
      → (eqb kind 2 && leb 18 n) ≡ t
      → descriptor_in 0 (drop at s) ≡ cond t (Some (record { descriptor = le_at 8 (drop (at + 6) s); count = le_at 4 (drop (at + 14) s) })) (descriptor_in 0 (drop (at + n) s))
  header_at h j k e f g =
      front (drop at s) (simp length-drop h) (rw e at j) (simp length-drop (rw e at k)) ∙ simp (drop-drop, ← e, ← f, g)

  -- a header that is broken
  pub cut_at : length s - at < 6 → descriptor_in 0 (drop at s) ≡ None
  cut_at h = broken-front (drop at s) (simp (length-drop, lt-ltb (length s - at) 6 h))

  pub small_at : {n : ℕ} → 6 ≤ length s - at → n ≡ le_at 4 (drop at s) → n < 6 → descriptor_in 0 (drop at s) ≡ None
  small_at {n} h e k = broken-front (drop at s) (simp (length-drop, le-ltb (length s - at) 6 h, ← e, lt-ltb n 6 k))

  pub long-at : {n : ℕ} → 6 ≤ length s - at → n ≡ le_at 4 (drop at s) → 6 ≤ n → length s - at < n → descriptor_in 0 (drop at s) ≡ None
  long-at {n} h e j k = broken-front (drop at s) (simp (length-drop, le-ltb (length s - at) 6 h, ← e, le-ltb n 6 j, lt-ltb (length s - at) n k))
