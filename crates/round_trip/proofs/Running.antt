-- The round trip of running code, from what the builder and the steps answer. Assumes nothing.
use mathlib.Core.Path.{◌≡◌, refl, sym, ap, ◌∙◌}
use mathlib.Core.List.{List, [], ◌∷◌}
use Prim.Native.Nat.{ℕ, zero, suc, ◌-◌, ◌<◌}
use native.Mathlib.Omega.{arith}
use lib.ListN.{length, take, get_or}
use Rattle.wire.specs.Part.{part_bytes}
use Rattle.std.specs.Prelude.{Result, Ok, Err}
use Rattle.round_trip.specs.RoundTrip.{Packing, built_by, buffer_by}
use Rattle.reader.specs.declared.Position.{Position}
use Rattle.reader.specs.Positions.{fresh_position}
use Rattle.reader.specs.Reader.{Answer, step_of, answer_of}
use Rattle.reader.proofs.Runs.{answer-first, answer-next}
use Rattle.wire.specs.Octets.{Bytes}
use Rattle.round_trip.specs.Running.{kth_of, ReadBack}
use Rattle.round_trip.proofs.RoundTrip.{round_trip}

-- a list whose every element is a byte
pub bytes-known : (l : List ℕ) → ((i : ℕ) → get_or l i 0 < 256) → Bytes l
bytes-known [] h = tt
bytes-known (b ∷ l) h = (h 0, bytes-known l (λ i. h (suc i)))

-- ---- steps

-- one step more
pub stepped : (p : List ℕ) (pos next : Position) (n : ℕ) {a : Answer} → next ≡ (step_of p pos).next → 0 < n → answer_of n p pos ≡ a → answer_of (n - 1) p next ≡ a
stepped p pos next zero e h g = absurd (omega arith)
stepped p pos next (suc n) e h g = let one : suc n - 1 ≡ n = omega arith in rw (one, e) (sym (answer-next p pos refl n) ∙ g)

-- the step that answers, over the first bytes of a buffer
pub last-answer : (buf p : List ℕ) (pos : Position) (len n k : ℕ) {a : Answer} → p ≡ part_bytes buf (record { start = 0; len = len }) → a ≡ (step_of p pos).answer → n ≡ 0
    → answer_of n p pos ≡ answer_of k p fresh_position → a ≡ answer_of k (take len buf) fresh_position
unfolding part_bytes
last-answer buf p pos len n k part e z g =
    let first : answer_of n p pos ≡ _ = ap (λ (m : ℕ). answer_of m p pos) z ∙ answer-first p pos refl in
    e ∙ sym first ∙ g ∙ ap (λ (l : List ℕ). answer_of k l fresh_position) part

-- ---- the script's reply

module _ (how : Packing) (s b : List ℕ) (k : ℕ) {r : Result ℕ ℕ} (e : r ≡ built_by how s (length b)) where
  module _ {f : ℕ} (h : r ≡ Err f) where
    pub refused-is : Err f ≡ kth_of (built_by how s (length b)) (buffer_by how s b) k
    unfolding kth_of
    refused-is = rw (← e, h)

    pub refused-back : ReadBack how s b k (Err f)
    refused-back n w y =
        let c = sym h ∙ e ∙ w in
        let z : ◌≡◌ {A = ℕ} 0 1 = cc in absurd (omega arith)

  module _ {n : ℕ} {m : List ℕ} {a : Answer} (h : r ≡ Ok n) (g : m ≡ buffer_by how s b) (x : a ≡ answer_of k (take n m) fresh_position) where
    pub answered-is : Ok a ≡ kth_of (built_by how s (length b)) (buffer_by how s b) k
    unfolding kth_of
    answered-is = rw (← e, h, x, g)

    pub answered-back : Bytes s → ReadBack how s b k (Ok a)
    answered-back known l w y =
        let c = sym h ∙ e ∙ w in
        let same : n ≡ l = cc in
        rw (x, g, same) (round_trip how s b l (record { bytes = known; built = w; fits = y }) k)
