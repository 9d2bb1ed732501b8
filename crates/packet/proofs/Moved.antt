-- Bytes moved down in a buffer: what is still to be moved stands at or after what was written. Assumes nothing.
use mathlib.Core.Path.{◌≡◌, sym, ap, ◌∙◌}
use mathlib.Core.List.{List, ◌++◌, append_assoc}
use Prim.Native.Nat.{ℕ, ◌+◌, ◌-◌, ◌≤◌, ◌<◌}
use native.Mathlib.Nat.{add-zero}
use native.Mathlib.Omega.{arith}
use lib.ListN.{length, take, drop, set, get_or, length-drop, take-append-drop}
use lib.Seq.{length-take-le, get_or-drop, take-add, drop_at, drop-drop}
use Rattle.wire.specs.Over.{overwrite, Wrote}
use Rattle.wire.proofs.Over.{over-more, over-cat, over-eq, drop-over}

-- a byte at or after what was written is as it was
read-after : (xs l : List ℕ) (at n : ℕ) → at + length xs ≤ n → get_or (overwrite l at xs) n 0 ≡ get_or l n 0
read-after xs l at n h =
    let e : get_or (drop n (overwrite l at xs)) 0 0 ≡ get_or (drop n l) 0 0 = ap (λ (m : List ℕ). get_or m 0 0) (drop-over xs l at n h) in
    simp (get_or-drop, add-zero) at e

-- bytes that are moved to where they stand
pub moved_nowhere : (l : List ℕ) (at n : ℕ) → at + n ≤ length l → Wrote l at (take n (drop at l)) l (at + n)
moved_nowhere l at n h =
    let long : length (take n (drop at l)) ≡ n = length-take-le n (drop at l) (omega (arith, length-drop at l)) in
    let rest : take n (drop at l) ++ drop (at + n) l ≡ drop at l = rw (← drop-drop n at l) (take-append-drop n (drop at l)) in
    let e : overwrite l at (take n (drop at l)) ≡ take at l ++ take n (drop at l) ++ drop (at + length (take n (drop at l))) l = over-eq (take n (drop at l)) l at (omega arith) in
    let f : take at l ++ take n (drop at l) ++ drop (at + n) l ≡ l = append_assoc (take at l) (take n (drop at l)) (drop (at + n) l) ∙ ap (λ (q : List ℕ). take at l ++ q) rest ∙ take-append-drop at l in
    (sym (rw long at e ∙ f), record { place = omega arith })

module _ (l : List ℕ) (to from : ℕ) (down : to ≤ from) where
  -- a run of what was moved, and more of it
  pub moved_more : (m : List ℕ) (i n : ℕ) {k : List ℕ} → from + i + n ≤ length l → m ≡ overwrite l to (take i (drop from l))
      → k ≡ overwrite m (to + i) (take n (drop (from + i) m)) → k ≡ overwrite l to (take (i + n) (drop from l))
  moved_more m i n {k} h e w =
      let long : length (take i (drop from l)) ≡ i = length-take-le i (drop from l) (omega (arith, length-drop from l)) in
      let same : drop (from + i) m ≡ drop (from + i) l = ap (drop (from + i)) e ∙ drop-over (take i (drop from l)) l to (from + i) (omega arith) in
      let put : k ≡ overwrite m (to + i) (take n (drop (from + i) l)) = w ∙ ap (λ (q : List ℕ). overwrite m (to + i) (take n q)) same in
      let cat : overwrite (overwrite l to (take i (drop from l))) (to + length (take i (drop from l))) (take n (drop i (drop from l))) ≡ overwrite l to (take i (drop from l) ++ take n (drop i (drop from l))) =
      over-cat (take i (drop from l)) (take n (drop i (drop from l))) l to in
      put ∙ rw (e, ← drop-drop i from l, take-add i n (drop from l)) (rw long at cat)

  -- and one byte more
  pub move-more : (m : List ℕ) (i : ℕ) → from + i < length l → m ≡ overwrite l to (take i (drop from l))
      → set m (to + i) (get_or m (from + i) 0) ≡ overwrite l to (take (i + 1) (drop from l))
  move-more m i h e =
      let long : length (take i (drop from l)) ≡ i = length-take-le i (drop from l) (omega (arith, length-drop from l)) in
      let read : get_or m (from + i) 0 ≡ get_or (drop from l) i 0 =
      ap (λ (k : List ℕ). get_or k (from + i) 0) e ∙ read-after (take i (drop from l)) l to (from + i) (omega arith) ∙ sym (get_or-drop from l i 0) in
      rw (read, e) (over-more (drop from l) l to i (omega (arith, length-drop from l)))

  -- all of them
  pub moved : (m : List ℕ) (n : ℕ) → from + n ≤ length l → m ≡ overwrite l to (take n (drop from l)) → Wrote l to (take n (drop from l)) m (to + n)
  moved m n h e =
      let long : length (take n (drop from l)) ≡ n = length-take-le n (drop from l) (omega (arith, length-drop from l)) in
      (e, record { place = omega arith })

-- a part of a list, without its first bytes
pub drop-take : (m n : ℕ) (l : List ℕ) → m ≤ n → m ≤ length l → drop m (take n l) ≡ take (n - m) (drop m l)
drop-take m n l h g =
    let e : n ≡ m + (n - m) = omega arith in
    ap (λ (k : ℕ). drop m (take k l)) e ∙ ap (drop m) (take-add m (n - m) l) ∙ drop_at (take m l) (take (n - m) (drop m l)) m (length-take-le m l g)
