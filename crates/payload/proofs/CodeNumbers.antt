-- A number of k bytes summed from its lowest byte up: what a byte is worth, what each turn of the loop adds, and what it ends with.
-- Assumes nothing.
use mathlib.Core.Path.{◌≡◌, refl, sym, ap, ◌∙◌}
use mathlib.Core.Bool.{true, false}
use mathlib.Core.List.{List, []}
use Prim.Native.Nat.{ℕ, zero, suc, ◌+◌, ◌*◌, ◌%◌, ◌<◌, ◌≤◌, ◌^◌}
use native.Mathlib.Nat.{pow-le-pow_right, lt_of_lt_of_le, pow-suc, mul-le-mul_left, mul-add, mul_comm}
use native.Mathlib.Numerals.{add-one}
use native.Mathlib.Omega.{arith}
use lib.ListN.{length, drop, get_or}
use lib.Pow.{pow-add, shl_exact}
use borrow.Author.Tests.{le-leb, lt-leb}
use Rattle.wire.specs.Le.{le_at}
use Rattle.wire.proofs.Le.{le_join, le-one}
use Rattle.payload.specs.declared.frames.Frame.{Frame}
use Rattle.std.specs.Prelude.{Ok, Err}
use Rattle.payload.specs.Places.{whole, number_at}
use Rattle.payload.specs.Answers.{number_read}
use Rattle.payload.specs.Frames.{lies, source_from, reach_of}
use Rattle.payload.proofs.CodeReads.{number-stands, number_cut}
use Rattle.payload.proofs.Sources.{Same, same_self, same-later, same_then}
use Rattle.payload.proofs.Reach.{nothing-there, reach-past, reach-long, reach-lies, reach-same, byte-is}

-- ---- a byte's worth

eights : (i : ℕ) → 2 ^ (8 * i) ≡ 256 ^ i
eights zero = refl
eights (suc i) = let m : 8 * suc i ≡ 8 * i + 8 = omega arith in rw (m, pow-add 2 (8 * i) 8, eights i, pow-suc 256 i)

pub shifted : (b i : ℕ) → b < 256 → i < 8 → (b * 2 ^ (8 * i)) % 2 ^ 64 ≡ b * 256 ^ i
shifted b i h g = shl_exact {a = b} 8 (8 * i) 64 h (omega arith) ∙ ap (λ (p : ℕ). b * p) (eights i)

-- one more byte above a number
digit : (p n b : ℕ) → n < p → b < 256 → n + b * p < p * 256
digit p n b h g = let up : p * (b + 1) ≤ p * 256 = mul-le-mul_left p (omega arith) in omega (arith, up, mul-add p b 1, mul_comm p b)

-- ---- the sum

-- the first i of a number's k bytes are summed in n
pub record Summed (s : List ℕ) (at k i n : ℕ) : Type 0 where
  pub within : i ≤ k
  pub held : (1 ≤ i → at + i ≤ length s)
  pub sum : n ≡ le_at i (drop at s)
  pub below : n < 256 ^ i

begin : (s : List ℕ) (at k : ℕ) → Summed s at k 0 0
unfolding le_at
begin s at k = record { within = omega arith; held = λ h. absurd (omega arith); sum = refl; below = omega arith }

more : (s : List ℕ) (at k i n b : ℕ) → Summed s at k i n → i < k → at + i < length s → b ≡ get_or s (at + i) 0 → b < 256 → Summed s at k (i + 1) (n + b * 256 ^ i)
more s at k i n b v h g e l =
    let one : le_at 1 (drop (at + i) s) ≡ b = le-one (at + i) s g ∙ sym e in
    let q : b * 256 ^ i + le_at i (drop at s) ≡ le_at (i + 1) (drop at s) = rw one at (le_join i 1 at s) in
    record {
      within = omega arith;
      held = λ j. omega arith;
      sum = omega (arith, q, v.sum);
      below = rw (add-one i, pow-suc 256 i) (digit (256 ^ i) n b v.below l);
    }

-- ---- the bytes of a number, each from the packet of the one before it

-- the first i are summed in n; the lent bytes have the frame here, and what is read from it on is the same
pub record Across (l : List ℕ) (f : Frame) (at k : ℕ) (here : Frame) (n i : ℕ) : Type 0 where
  pub lies : lies l here ≡ true
  pub summed : Summed (source_from l f).bytes at k i n
  pub same : Same (source_from l f) (source_from l here) (at + i)
  pub fits : at + i < 2 ^ 64

-- from a frame that the lent bytes do not have there are none
pub across-nowhere : (l : List ℕ) (f : Frame) (at k : ℕ) → lies l f ≡ false → 1 ≤ k → Err 24 ≡ number_read (number_at k (source_from l f) at whole)
across-nowhere l f at k e o = rw (nothing-there l f 0 e) (number_cut k (record { bytes = []; stop = 24 }) at (lt-leb (at + k) 0 (omega arith)))

pub across-begins : (l : List ℕ) (f : Frame) (at k : ℕ) → lies l f ≡ true → at < 2 ^ 64 → Across l f at k f 0 0
across-begins l f at k e h = record { lies = e; summed = begin (source_from l f).bytes at k; same = same_self (source_from l f) (at + 0); fits = omega arith }

module _ {l : List ℕ} {f here : Frame} {at k n i : ℕ} (a : Across l f at k here n i) where
  -- the payload ends before the next one
  pub across-past : {r : ℕ} → i < k → reach_of l here (at + i + 1) ≡ Err r → Err r ≡ number_read (number_at k (source_from l f) at whole)
  across-past h q =
      let p = reach-past l here (at + i + 1) q in
      let short : length (source_from l f).bytes < at + k = omega (arith, p.0, a.same.size) in
      ap Err (p.1 ∙ sym a.same.stops) ∙ number_cut k (source_from l f) at (lt-leb (at + k) (length (source_from l f).bytes) short)

  -- the next one stands in a packet
  module _ {g : Frame} (h : i < k) (q : reach_of l here (at + i + 1) ≡ Ok g) where
    next-held : at + i < length (source_from l f).bytes
    next-held = omega (arith, (reach-long l here (at + i + 1) q).0, a.same.size)

    next-is : get_or l (at + i + 8 * g.number) 0 ≡ get_or (source_from l f).bytes (at + i) 0
    next-is =
        byte-is l here (at + i) q ∙ sym (le-one (at + i) (source_from l here).bytes (omega (arith, next-held, a.same.size)))
        ∙ ap (le_at 1) (sym (a.same.rest (at + i) (omega arith))) ∙ le-one (at + i) (source_from l f).bytes next-held

    module _ {w : ℕ} (e : w ≡ get_or l (at + i + 8 * g.number) 0 * 256 ^ i) (b : get_or l (at + i + 8 * g.number) 0 < 256) where
      next-summed : Summed (source_from l f).bytes at k (i + 1) (n + w)
      next-summed = rw e (more (source_from l f).bytes at k i n (get_or l (at + i + 8 * g.number) 0) a.summed h next-held next-is b)

      pub across-more : length l < 2 ^ 64 → Across l f at k g (n + w) (i + 1)
      across-more m =
          let s = same-later (at + i) {to = at + (i + 1)} (omega arith) a.same in
          record {
            lies = reach-lies l here (at + i + 1) a.lies q;
            summed = next-summed;
            same = same_then s (reach-same l here (at + i + 1) q (at + (i + 1)) (omega arith));
            fits = omega (arith, (reach-long l here (at + i + 1) q).1);
          }

      -- and the sum has room for it
      pub across-room : k ≤ 8 → n + w < 2 ^ 64
      across-room m =
          let p : 256 ^ (i + 1) ≤ 256 ^ 8 = let j : i + 1 ≤ 8 = omega arith in pow-le-pow_right (omega arith) j in
          lt_of_lt_of_le next-summed.below p

  pub across-ends : 1 ≤ k → k ≤ i → (Ok (record { value = n; next = at + k }) ≡ number_read (number_at k (source_from l f) at whole)) × (n < 256 ^ k)
  across-ends o h =
      let e : i ≡ k = omega (arith, a.summed.within) in
      let long : at + k ≤ length (source_from l f).bytes = omega (arith, a.summed.held (omega arith)) in
      (number-stands k (source_from l f) at (le-leb (at + k) (length (source_from l f).bytes) long) (rw e at a.summed.sum), rw e at a.summed.below)
