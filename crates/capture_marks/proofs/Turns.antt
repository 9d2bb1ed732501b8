-- What the record at a place of a capture says of its refusal and of its marks. Assumes nothing.
use Prim.Native.Nat.{ℕ, suc, ◌+◌, ◌-◌}
use mathlib.Core.Path.{◌≡◌, refl, ap}
use mathlib.Core.List.{List, [], ◌∷◌, ◌++◌}
use native.Mathlib.Nat.{add-sub_cancel_left}
use lib.ListN.{length, take, drop}
use borrow.Author.Tests.{eq-eqb, ne_eqb}
use Rattle.wire.proofs.Cases.{by-test}
use Rattle.script.specs.Records.{Item, item, cut, records, record_at}
use Rattle.script.specs.declared.Found.TheVariants.{Record, Cut, End}
use Rattle.script.proofs.Walk.{turn, cuts, ends}
use Rattle.capture_marks.specs.Marks.{is_marked, capture_fault, mark_of, marks_from}

-- ---- how many marks there are does not depend on the first number

pub same_count : (i j : ℕ) (rs : List Item) → length (marks_from i rs) ≡ length (marks_from j rs)
unfolding marks_from
same_count i j [] = refl
same_count i j (cut ∷ rs) = refl
same_count i j (item k body ∷ rs) =
    let rest = same_count (suc i) (suc j) rs in by-test (is_marked body) (λ e. rw e (ap suc rest)) (λ e. rw e rest)

-- ---- the record at a place

module _ (s : List ℕ) (at : ℕ) where
  pub fault-cut : record_at s at ≡ Cut → capture_fault (records (drop at s)) ≡ 11
  unfolding capture_fault
  fault-cut e = rw (cuts s at e)

  pub fault-end : record_at s at ≡ End → capture_fault (records (drop at s)) ≡ 0
  unfolding capture_fault
  fault-end e = rw (ends s at e)

  -- no record, no mark
  pub marks-cut : (i : ℕ) → record_at s at ≡ Cut → marks_from i (records (drop at s)) ≡ []
  unfolding marks_from
  marks-cut i e = rw (cuts s at e)

  pub marks-end : (i : ℕ) → record_at s at ≡ End → marks_from i (records (drop at s)) ≡ []
  unfolding marks_from
  marks-end i e = rw (ends s at e)

  -- a record, whose body is the slice from its start on
  module _ {k st n : ℕ} (e : record_at s at ≡ Record k st n) where
    pub fault-kind : (k ≡ 0x0021 → ⊥) → capture_fault (records (drop at s)) ≡ 12
    unfolding capture_fault
    fault-kind h = rw (turn s at e, ne_eqb k 0x0021 h)

    pub fault-next : k ≡ 0x0021 → capture_fault (records (drop at s)) ≡ capture_fault (records (drop (st + n) s))
    unfolding capture_fault
    fault-next h = rw (turn s at e, eq-eqb k 0x0021 h)

    pub marks-next : (i : ℕ) → marks_from i (records (drop at s)) ≡ mark_of i (take (st + n - st) (drop st s)) ++ marks_from (suc i) (records (drop (st + n) s))
    unfolding marks_from
    marks-next i = rw (add-sub_cancel_left st n, turn s at e)
