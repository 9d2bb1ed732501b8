-- A turn of the count of marks over a capture's records. Assumes nothing.
use Prim.Native.Nat.{ℕ, ◌+◌, ◌-◌, ◌≤◌}
use mathlib.Core.Path.{◌≡◌, refl, sym, ap, ◌∙◌}
use mathlib.Core.Bool.{Bool, true, false, cond}
use mathlib.Core.List.{List, [], ◌∷◌, ◌++◌}
use native.Mathlib.Omega.{arith}
use lib.ListN.{length, take, drop}
use borrow.Author.Tests.{ne_eqb}
use Rattle.script.specs.Records.{records, record_at}
use Rattle.script.specs.declared.Found.TheVariants.{Record, Cut, End}
use Rattle.script.proofs.Walk.{lies}
use Rattle.capture_marks.specs.Marks.{is_marked, capture_fault, marks_from, marks_of, counted_of}
use Rattle.std.specs.Prelude.{Ok, Err}
use Rattle.capture_marks.proofs.Turns.{same_count, fault-cut, fault-end, fault-kind, fault-next, marks-end, marks-next}

-- of a capture s, the marks of the records before a place are counted: the records from the place on decide the refusal, and have the
-- marks that are left
abbrev pub Counting : (s : List ℕ) (at count : ℕ) → Type 0
Counting s at count =
    (at ≤ length s)
    × (count ≤ at)
    × (capture_fault (records (drop at s)) ≡ capture_fault (records s))
    × (count + length (marks_from 0 (records (drop at s))) ≡ length (marks_of s))

module _ (s : List ℕ) where
  pub counting-start : Counting s 0 0
  unfolding marks_of
  counting-start = (omega arith, omega arith, refl, omega arith)

  refused-by : (f : ℕ) → (f ≡ 0 → ⊥) → capture_fault (records s) ≡ f → Err f ≡ counted_of s
  unfolding counted_of
  refused-by f h e = rw (e, ne_eqb f 0 h)

  module _ (at count : ℕ) (m : Counting s at count) where
    pub counting-cut : record_at s at ≡ Cut → Err 11 ≡ counted_of s
    counting-cut e = refused-by 11 (λ z. omega arith) (sym m.2 ∙ fault-cut s at e)

    pub counting-end : record_at s at ≡ End → Ok count ≡ counted_of s
    unfolding counted_of
    counting-end e =
        let all : count ≡ length (marks_of s) = omega (arith, m.3, ap length (marks-end s at 0 e)) in
        rw (sym m.2 ∙ fault-end s at e, all)

    -- a record, whose body is the slice from its start on
    module _ {k st n : ℕ} (e : record_at s at ≡ Record k st n) where
      pub counting-kind : (k ≡ 0x0021 → ⊥) → Err 12 ≡ counted_of s
      counting-kind h = refused-by 12 (λ z. omega arith) (sym m.2 ∙ fault-kind s at e h)

      -- one mark more where its body is marked
      more : (b : Bool) → is_marked (take (st + n - st) (drop st s)) ≡ b
          → length (marks_from 0 (records (drop at s))) ≡ cond b 1 0 + length (marks_from 0 (records (drop (st + n) s)))
      more b t = ap length (marks-next s at e 0) ∙ rw (t, ← same_count 1 0 (records (drop (st + n) s))) (go b)
        where
          go : (b : Bool) → length (cond b (0 ∷ []) [] ++ marks_from 1 (records (drop (st + n) s))) ≡ cond b 1 0 + length (marks_from 1 (records (drop (st + n) s)))
          go true = omega arith
          go false = omega arith

      pub counting-next : k ≡ 0x0021 → (b : Bool) → is_marked (take (st + n - st) (drop st s)) ≡ b → {to : ℕ} → to ≡ count + cond b 1 0
          → Counting s (st + n) to
      counting-next h b t f = ((lies s at e).1, bound b f, sym (fault-next s at e h) ∙ m.2, omega (arith, m.3, more b t, f))
        where
          bound : (b : Bool) {to : ℕ} → to ≡ count + cond b 1 0 → to ≤ st + n
          bound true f = omega (arith, lies s at e, m.1)
          bound false f = omega (arith, lies s at e, m.1)
