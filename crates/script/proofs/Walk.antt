-- What the record at a place says of the records from there on, and of the next place: what every loop over records uses.
-- Assumes nothing.
use mathlib.Core.Path.{◌≡◌, refl, sym, ap, ◌∙◌}
use mathlib.Core.List.{List, [], ◌∷◌}
use mathlib.Core.Bool.{cond}
use Prim.Native.Nat.{ℕ, zero, suc, ◌+◌, ◌-◌, ◌≤◌, ◌<◌}
use native.Mathlib.Nat.{le_of_suc-le-suc, not-suc-le-zero}
use native.Mathlib.Omega.{arith}
use lib.ListN.{length, take, drop, length-drop, drop_of_length-le}
use lib.Seq.{drop-drop, length-take-le}
use lib.Dec.{leb}
use borrow.Author.Tests.{le-leb, lt-leb}
use Rattle.wire.proofs.Cases.{split}
use Rattle.wire.specs.Le.{le_at}
use Rattle.script.specs.Records.{Item, item, cut, parse, records, record_at}
use Rattle.script.specs.declared.Found.{Found}
use Rattle.script.specs.declared.Found.TheVariants.{Record, Cut, End}

-- what a record at a place makes of the records after it
unfoldable pub follow : List ℕ → Found → List Item
follow s End = []
follow s Cut = cut ∷ []
follow s (Record k st n) = item k (take n (drop st s)) ∷ records (drop (st + n) s)

-- where a record that stands at a place lies
unfoldable pub Within : List ℕ → ℕ → Found → Type 0
Within s at End = Unit {0}
Within s at Cut = Unit {0}
Within s at (Record k st n) = (st ≡ at + 6) × (st + n ≤ length s)

-- the bytes passed over are there
parse-skip : (n : ℕ) (l : List ℕ) → n ≤ length l → parse n l ≡ parse 0 (drop n l)
unfolding parse
parse-skip zero l h = refl
parse-skip (suc n) [] h = absurd (not-suc-le-zero h)
parse-skip (suc n) (b ∷ l) h = parse-skip n l (le_of_suc-le-suc h)

-- a head of six bytes
parse-head : (l : List ℕ) → 6 ≤ length l
    → parse 0 l ≡ cond (leb (le_at 4 l) (length (drop 6 l))) (item (le_at 2 (drop 4 l)) (take (le_at 4 l) (drop 6 l)) ∷ parse (le_at 4 l) (drop 6 l)) (cut ∷ [])
unfolding parse le_at
parse-head [] h = absurd (omega arith)
parse-head (a ∷ []) h = absurd (omega arith)
parse-head (a ∷ b ∷ []) h = absurd (omega arith)
parse-head (a ∷ b ∷ c ∷ []) h = absurd (omega arith)
parse-head (a ∷ b ∷ c ∷ d ∷ []) h = absurd (omega arith)
parse-head (a ∷ b ∷ c ∷ d ∷ e ∷ []) h = absurd (omega arith)
parse-head (a ∷ b ∷ c ∷ d ∷ e ∷ f ∷ l) h = refl

parse-cut : (l : List ℕ) → 0 < length l → length l < 6 → parse 0 l ≡ cut ∷ []
unfolding parse
parse-cut [] g h = absurd (omega arith)
parse-cut (a ∷ []) g h = refl
parse-cut (a ∷ b ∷ []) g h = refl
parse-cut (a ∷ b ∷ c ∷ []) g h = refl
parse-cut (a ∷ b ∷ c ∷ d ∷ []) g h = refl
parse-cut (a ∷ b ∷ c ∷ d ∷ e ∷ []) g h = refl
parse-cut (a ∷ b ∷ c ∷ d ∷ e ∷ f ∷ l) g h = absurd (omega arith)

module _ (s : List ℕ) (at : ℕ) where
  abbrev N : ℕ
  N = le_at 4 (drop at s)

  -- the head that stands at the place
  head_at_lem : at + 6 ≤ length s → records (drop at s) ≡ cond (leb N (length s - (at + 6))) (item (le_at 2 (drop (at + 4) s)) (take N (drop (at + 6) s)) ∷ parse N (drop (at + 6) s)) (cut ∷ [])
  unfolding records
  head_at_lem h = parse-head (drop at s) (simp length-drop (omega arith)) ∙ simp (drop-drop, length-drop)

  -- no byte, a cut head, a cut payload, a whole record
  no_byte : length s ≤ at → records (drop at s) ≡ []
  unfolding records parse
  no_byte h = rw (drop_of_length-le s h)

  cut-head : at < length s → length s < at + 6 → records (drop at s) ≡ cut ∷ []
  unfolding records
  cut-head g h = parse-cut (drop at s) (simp length-drop (omega arith)) (simp length-drop (omega arith))

  module _ (h : at + 6 ≤ length s) where
    cut-payload : length s < at + 6 + N → records (drop at s) ≡ cut ∷ []
    cut-payload k = rw (head_at_lem h, lt-leb N (length s - (at + 6)) (omega arith))

    whole : at + 6 + N ≤ length s → records (drop at s) ≡ item (le_at 2 (drop (at + 4) s)) (take N (drop (at + 6) s)) ∷ records (drop (at + 6 + N) s)
    unfolding records
    whole k = rw (head_at_lem h, le-leb N (length s - (at + 6)) (omega arith), parse-skip N (drop (at + 6) s) (simp length-drop (omega arith)), drop-drop)

  -- `record_at` in these cases
  pub is-end : length s ≤ at → record_at s at ≡ End
  unfolding record_at
  is-end h = rw (no_byte h)

  is_cut : at < length s → length s < at + 6 → record_at s at ≡ Cut
  unfolding record_at
  is_cut g h = rw (cut-head g h)

  -- fewer bytes than a head has
  pub is-left : length s < at + 6 → cond (leb (length s) at) End Cut ≡ record_at s at
  is-left h =
      split (length s) at
      (λ l. rw (le-leb (length s) at l) (sym (is-end l)))
      (λ g. rw (lt-leb (length s) at g) (sym (is_cut g h)))

  is-short : at + 6 ≤ length s → length s < at + 6 + N → record_at s at ≡ Cut
  unfolding record_at
  is-short h k = rw (cut-payload h k)

  is_whole : at + 6 ≤ length s → at + 6 + N ≤ length s → record_at s at ≡ Record (le_at 2 (drop (at + 4) s)) (at + 6) N
  unfolding record_at
  is_whole h k = rw (whole h k, length-take-le N (drop (at + 6) s) (simp length-drop (omega arith)))

  -- with the length and the kind as they were read
  module _ {n : ℕ} (e : n ≡ N) (h : at + 6 ≤ length s) where
    pub too_long : length s < at + 6 + n → Cut ≡ record_at s at
    too_long k = sym (is-short h (rw e at k))

    pub record_is : {k : ℕ} → k ≡ le_at 2 (drop (at + 4) s) → at + 6 + n ≤ length s → Record k (at + 6) n ≡ record_at s at
    record_is f k = rw (f, e) (sym (is_whole h (rw e at k)))

  -- for all of them
  cases {ℓ} : {X : Type ℓ} → (length s ≤ at → X) → (at < length s → length s < at + 6 → X) → (at + 6 ≤ length s → length s < at + 6 + N → X)
      → (at + 6 ≤ length s → at + 6 + N ≤ length s → X) → X
  cases e c p w = split (length s) at e (λ g. split (at + 6) (length s) (λ h. split (at + 6 + N) (length s) (w h) (p h)) (c g))

  -- where a record at the place lies
  pub within : Within s at (record_at s at)
  unfolding Within
  within = cases (λ h. rw (is-end h) tt) (λ g h. rw (is_cut g h) tt) (λ h k. rw (is-short h k) tt) (λ h k. rw (is_whole h k) (refl, k))

  pub follows : records (drop at s) ≡ follow s (record_at s at)
  unfolding follow
  follows =
      cases
      (λ h. no_byte h ∙ sym (ap (follow s) (is-end h)))
      (λ g h. cut-head g h ∙ sym (ap (follow s) (is_cut g h)))
      (λ h k. cut-payload h k ∙ sym (ap (follow s) (is-short h k)))
      (λ h k. whole h k ∙ sym (ap (follow s) (is_whole h k)))

-- What a loop over records needs, from the answer of `record_at`: where the record lies, and the records from there on.
module _ (s : List ℕ) (at : ℕ) where
  pub lies : {k st n : ℕ} → record_at s at ≡ Record k st n → (st ≡ at + 6) × (st + n ≤ length s)
  unfolding Within
  lies e = rw e at (within s at)

  pub turn : {k st n : ℕ} → record_at s at ≡ Record k st n → records (drop at s) ≡ item k (take n (drop st s)) ∷ records (drop (st + n) s)
  unfolding follow
  turn e = follows s at ∙ ap (follow s) e

  pub cuts : record_at s at ≡ Cut → records (drop at s) ≡ cut ∷ []
  unfolding follow
  cuts e = follows s at ∙ ap (follow s) e

  pub ends : record_at s at ≡ End → records (drop at s) ≡ []
  unfolding follow
  ends e = follows s at ∙ ap (follow s) e
