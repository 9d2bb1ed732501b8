-- A turn of the verdict over the records, what its answer says, and its numbers. Assumes nothing.
use mathlib.Core.Path.{◌≡◌, refl, sym, ap, ◌∙◌}
use mathlib.Core.List.{List, [], ◌∷◌}
use mathlib.Core.Bool.{Bool, true, false, cond}
use Prim.Native.Nat.{ℕ, ◌+◌, ◌-◌, ◌≤◌}
use native.Mathlib.Nat.{add-sub_cancel_left}
use lib.ListN.{take, drop}
use native.Mathlib.Omega.{arith}
use lib.Dec.{eqb}
use borrow.Author.Tests.{ne_eqb, eqb-true}
use Rattle.wire.proofs.Cases.{by-test}
use Rattle.std.specs.Prelude.{Result, Ok, Err, ⊤}
use Rattle.refusals.specs.declared.Refusal.{Refusal}
use Rattle.refusals.specs.Refused.{number, numbered, refused_by}
use Rattle.refusals.proofs.Numbers.{number-not-0}
use Rattle.script.specs.declared.Found.TheVariants.{Record, Cut, End}
use Rattle.script.specs.declared.Stage.{Stage}
use Rattle.script.specs.declared.Stage.TheVariants.{Start, Columns, Leading, Infos, Rows, TextChunks, ByteChunks, Trailing}
use Rattle.script.specs.Records.{Item, item, cut, records, record_at}
use Rattle.script.specs.Order.{allowed, stage_after}
use Rattle.script.specs.Shape.{shaped, texts_of}
use Rattle.script.specs.Verdict.{all_well_formed, fault_of, end_fault, verdict_from, verdict_of, checked_of}
use Rattle.script.proofs.Walk.{turn, cuts, ends}

module _ (s : List ℕ) (at : ℕ) (stage : Stage) where
  pub verdict-cut : record_at s at ≡ Cut → verdict_from stage (records (drop at s)) ≡ 11
  unfolding verdict_from
  verdict-cut e = rw (cuts s at e)

  pub verdict-end : record_at s at ≡ End → verdict_from stage (records (drop at s)) ≡ end_fault stage
  unfolding verdict_from
  verdict-end e = rw (ends s at e)

  -- a record, whose payload is the slice from its start on
  module _ (k st n f : ℕ) (e : record_at s at ≡ Record k st n) (g : f ≡ fault_of stage k (take (st + n - st) (drop st s))) where
    pub verdict-bad : (f ≡ 0 → ⊥) → verdict_from stage (records (drop at s)) ≡ f
    unfolding verdict_from
    verdict-bad h = let g' = rw (add-sub_cancel_left st n) at g in rw (turn s at e, ← g', ne_eqb f 0 h)

    pub verdict-next : f ≡ 0 → verdict_from stage (records (drop at s)) ≡ verdict_from (stage_after stage k (take (st + n - st) (drop st s))) (records (drop (st + n) s))
    unfolding verdict_from
    verdict-next h = let g' = rw (add-sub_cancel_left st n) at g in rw (add-sub_cancel_left st n, turn s at e, sym g' ∙ h)

-- ---- the answer, by the script's refusal

module _ (s : List ℕ) where
  -- the refusal of a record or of the end, and none at the end
  pub answer_is : (x : Result ⊤ Refusal) → refused_by x ≡ verdict_of s → numbered x ≡ checked_of s
  unfolding checked_of
  answer_is (Ok tt) e = rw (← e)
  answer_is (Err r) e = rw (← e, ne_eqb (number r) 0 (number-not-0 r))

-- what it says of the refusal

abbrev number_in : Result ⊤ ℕ → ℕ
number_in (Ok u) = 0
number_in (Err n) = n

module _ (s : List ℕ) where
  number_is : number_in (checked_of s) ≡ verdict_of s
  unfolding checked_of
  number_is = by-test (eqb (verdict_of s) 0) (λ e. rw e (sym (eqb-true (verdict_of s) 0 e))) (λ e. rw e)

  pub accepted-none : {u : ⊤} → checked_of s ≡ Ok u → verdict_of s ≡ 0
  accepted-none e = sym number_is ∙ ap number_in e

  module _ {n : ℕ} (e : checked_of s ≡ Err n) where
    pub refused-by : n ≡ verdict_of s
    refused-by = sym (ap number_in e) ∙ number_is

    pub refused-some : n ≡ 0 → ⊥
    unfolding checked_of
    refused-some z =
        let v : verdict_of s ≡ 0 = sym refused-by ∙ z in
        let a : ◌≡◌ {A = Result ⊤ ℕ} (Ok tt) (Err n) = rw v at e in cc

-- ---- the numbers that refuse a script

-- 0, or one of 11 to 17
abbrev pub Own : ℕ → Type 0
Own n = (n ≡ 0 → ⊥) → (11 ≤ n) × (n ≤ 17)

pub own-none : Own 0
own-none z = absurd (z refl)

-- by a test, one of two such numbers
pub own-either : (t : Bool) {m n : ℕ} → Own m → Own n → Own (cond t m n)
own-either true a b = a
own-either false a b = b

fault-own : (st : Stage) (k : ℕ) (p : List ℕ) → Own (fault_of st k p)
unfolding fault_of
fault-own st k p =
    own-either (allowed st k)
    (own-either (shaped st k p)
    (own-either (all_well_formed (texts_of k p)) own-none (λ z. (omega arith, omega arith)))
    (λ z. (omega arith, omega arith)))
    (λ z. (omega arith, omega arith))

end-own : (st : Stage) → Own (end_fault st)
end-own Start = λ z. (omega arith, omega arith)
end-own Columns = own-none
end-own Leading = own-none
end-own Infos = own-none
end-own Rows = own-none
end-own TextChunks = own-none
end-own ByteChunks = own-none
end-own Trailing = own-none

from-own : (st : Stage) (rs : List Item) → Own (verdict_from st rs)
unfolding verdict_from
from-own st [] = end-own st
from-own st (cut ∷ rs) = λ z. (omega arith, omega arith)
from-own st (item k p ∷ rs) = own-either (eqb (fault_of st k p) 0) (from-own (stage_after st k p) rs) (fault-own st k p)

pub verdict-own : (s : List ℕ) → Own (verdict_of s)
unfolding verdict_of
verdict-own s = from-own Start (records s)
