-- A loop over the records of one kind that stand next: what it has reached, one record more, and its end; and what stands at the
-- place after them. Assumes nothing.
use mathlib.Core.Path.{◌≡◌, refl, sym, ap, ◌∙◌}
use mathlib.Core.Bool.{cond}
use mathlib.Core.List.{List, [], ◌∷◌}
use Prim.Native.Nat.{ℕ, zero, suc, ◌+◌, ◌-◌, ◌*◌, ◌≤◌, ◌<◌}
use native.Mathlib.Nat.{add-sub_cancel_left, add-zero, zero-add}
use native.Mathlib.Omega.{arith}
use lib.Dec.{eqb, eqb-suc-zero}
use lib.ListN.{length, take, drop, length-append, length-drop}
use lib.Seq.{length-take-le}
use borrow.Author.Tests.{eq-eqb, ne_eqb, eqb-true}
use Rattle.token.specs.Tokens.{joined}
use Rattle.script.specs.declared.Found.{Found}
use Rattle.script.specs.declared.Found.TheVariants.{Record, Cut, End}
use Rattle.script.specs.Records.{Item, records, record_at}
use Rattle.wire.proofs.Cases.{by-test}
use Rattle.script.proofs.Walk.{is-end, lies, turn, cuts, ends}
use Rattle.script.specs.Runs.{ahead}
use Rattle.script.proofs.Runs.{past_run}
use Rattle.emission.specs.Runs.{capped, record_size, record_fault, NumberedRun, run_size, run_fault, run_of}
use Rattle.emission.specs.Inner.{longer_run}
use Rattle.emission.proofs.Sizes.{cap-left, cap-three, cap-small, cap-of, first-of-three}

module _ (s : List ℕ) (at k : ℕ) where
  -- the records that the loop still has before it
  abbrev pub rest : NumberedRun → List Item
  rest r = records (drop r.next s)

  -- with those that it still has before it, what the loop has gathered is what there is
  pub record Reached (r : NumberedRun) : Type 0 where
    pub next : r.next ≡ at + 6 * r.count + r.bytes
    pub count : r.count + length (ahead k (rest r)) ≡ length (ahead k (records (drop at s)))
    pub bytes : r.bytes + length (joined (ahead k (rest r))) ≡ length (joined (ahead k (records (drop at s))))
    pub small : r.size ≤ 65536
    pub size : capped (r.size + run_size k (ahead k (rest r))) ≡ capped (run_size k (ahead k (records (drop at s))))
    pub fault : cond (eqb r.fault 0) (run_fault k (ahead k (rest r))) r.fault ≡ run_fault k (ahead k (records (drop at s)))

  pub reached-start : Reached (record { count = 0; bytes = 0; size = 0; fault = 0; next = at })
  reached-start = record {
    next = omega arith;
    count = omega arith;
    bytes = omega arith;
    small = omega arith;
    size = ap capped (zero-add (run_size k (ahead k (records (drop at s)))));
    fault = refl;
  }

  -- one record more
  module _ (r : NumberedRun) (st n : ℕ) (e : record_at s r.next ≡ Record k st n) where
    abbrev p : List ℕ
    p = take n (drop st s)

    abbrev later : List Item
    later = records (drop (st + n) s)

    ahead-is : ahead k (rest r) ≡ p ∷ ahead k later
    unfolding ahead
    ahead-is = rw (turn s r.next e, eq-eqb k k refl)

    part_length : length p ≡ n
    part_length = let place = lies s r.next e in length-take-le n (drop st s) (simp length-drop (omega arith))

    more_bytes : length (joined (ahead k (rest r))) ≡ length p + length (joined (ahead k later))
    more_bytes = ap (λ (ps : List (List ℕ)). length (joined ps)) ahead-is ∙ length-append p (joined (ahead k later))

    more-size : run_size k (ahead k (rest r)) ≡ record_size k p + run_size k (ahead k later)
    unfolding run_size
    more-size = ap (run_size k) ahead-is

    more-fault : run_fault k (ahead k (rest r)) ≡ cond (eqb (record_fault k p) 0) (run_fault k (ahead k later)) (record_fault k p)
    unfolding run_fault
    more-fault = ap (run_fault k) ahead-is

    pub reached-next : Reached r → Reached (longer_run r k (take (st + n - st) (drop st s)) (st + n))
    unfolding longer_run
    reached-next h =
        let place = lies s r.next e in
        let added : ℕ = record_size k p in
        let left : ℕ = run_size k (ahead k later) in
        rw (add-sub_cancel_left st n)
        (record {
          next = omega (arith, h.next, part_length);
          count = omega (arith, h.count, ap length ahead-is);
          bytes = omega (arith, h.bytes, more_bytes);
          small = cap-small (r.size + capped added);
          size =
              cap-left (r.size + capped added) left ∙ cap-three r.size added left
              ∙ ap (λ (m : ℕ). capped (r.size + m)) (sym more-size) ∙ h.size;
          fault =
              sym (first-of-three r.fault (record_fault k p) (run_fault k (ahead k later)))
              ∙ ap (λ (m : ℕ). cond (eqb r.fault 0) m r.fault) (sym more-fault) ∙ h.fault;
        })

  -- no record more
  module _ (r : NumberedRun) (e : ahead k (rest r) ≡ []) where
    none-size : run_size k (ahead k (rest r)) ≡ 0
    unfolding run_size
    none-size = ap (run_size k) e

    none-fault : (g : ℕ) → cond (eqb g 0) (run_fault k (ahead k (rest r))) g ≡ g
    unfolding run_fault
    none-fault zero = ap (run_fault k) e
    none-fault (suc g) = rw (eqb-suc-zero g)

    pub none_left : Reached r → r ≡ run_of s at k
    unfolding run_of
    none_left h =
        let count : r.count ≡ length (ahead k (records (drop at s))) = omega (arith, h.count, ap length e) in
        let bytes : r.bytes ≡ length (joined (ahead k (records (drop at s)))) = omega (arith, h.bytes, ap (λ (ps : List (List ℕ)). length (joined ps)) e) in
        let size : r.size ≡ capped (run_size k (ahead k (records (drop at s)))) =
        sym (cap-of r.size h.small) ∙ ap capped (sym (add-zero r.size) ∙ ap (λ (m : ℕ). r.size + m) (sym none-size)) ∙ h.size in
        let fault : r.fault ≡ run_fault k (ahead k (records (drop at s))) = sym (none-fault r.fault) ∙ h.fault in
        rw (← count, ← bytes, ← size, ← fault, ← h.next)

  -- the run ends at a record of another kind, and where there is none
  pub ahead-other : {j st n : ℕ} → record_at s at ≡ Record j st n → (j ≡ k → ⊥) → ahead k (records (drop at s)) ≡ []
  unfolding ahead
  ahead-other e f = rw (turn s at e, ne_eqb _ _ f)

  pub ahead-cut : record_at s at ≡ Cut → ahead k (records (drop at s)) ≡ []
  unfolding ahead
  ahead-cut e = rw (cuts s at e)

  pub ahead-end : record_at s at ≡ End → ahead k (records (drop at s)) ≡ []
  unfolding ahead
  ahead-end e = rw (ends s at e)

-- ---- the place after a run

module _ (s : List ℕ) (k : ℕ) where
  -- the records from there on are those after the run, and the place lies in the script where the run's does
  pub record Past (at : ℕ) : Type 0 where
    pub rest : records (drop (run_of s at k).next s) ≡ past_run k (records (drop at s))
    pub lies : at ≤ length s → (run_of s at k).next ≤ length s

  past-none : (at : ℕ) → ahead k (records (drop at s)) ≡ [] → past_run k (records (drop at s)) ≡ records (drop at s) → Past at
  unfolding run_of
  past-none at e f =
      let ps = ahead k (records (drop at s)) in
      let to : at + 6 * length ps + length (joined ps) ≡ at = omega (arith, ap length e, ap (λ (qs : List (List ℕ)). length (joined qs)) e) in
      record { rest = rw to (sym f); lies = λ h. rw to h }

  past_more : (at st m : ℕ) → record_at s at ≡ Record k st m → Past (st + m) → Past at
  unfolding run_of ahead past_run
  past_more at st m e more =
      let place = lies s at e in
      let p = take m (drop st s) in
      let ps = ahead k (records (drop at s)) in
      let qs = ahead k (records (drop (st + m) s)) in
      let one : ps ≡ p ∷ qs = rw (turn s at e, eq-eqb k k refl) in
      let over : past_run k (records (drop at s)) ≡ past_run k (records (drop (st + m) s)) = rw (turn s at e, eq-eqb k k refl) in
      let long : length p ≡ m = length-take-le m (drop st s) (simp length-drop (omega (arith, place))) in
      let bytes : length (joined ps) ≡ length p + length (joined qs) = ap (λ (xs : List (List ℕ)). length (joined xs)) one ∙ length-append p (joined qs) in
      let to : at + 6 * length ps + length (joined ps) ≡ st + m + 6 * length qs + length (joined qs) = omega (arith, place, long, ap length one, bytes) in
      record { rest = rw to (more.rest ∙ sym over); lies = λ h. rw to (more.lies place.1) }

  past-at : (at : ℕ) → ((to : ℕ) → at < to → Past to) → (f : Found) → record_at s at ≡ f → Past at
  unfolding ahead past_run
  past-at at later Cut e = past-none at (rw (cuts s at e)) (rw (cuts s at e))
  past-at at later End e = past-none at (rw (ends s at e)) (rw (ends s at e))
  past-at at later (Record j st m) e =
      by-test (eqb j k)
      (λ t. let same = rw (eqb-true j k t) at e in past_more at st m same (later (st + m) (omega (arith, lies s at e))))
      (λ t. past-none at (rw (turn s at e, t)) (rw (turn s at e, t)))

  past_by : (n at : ℕ) → length s ≤ at + n → Past at
  unfolding ahead past_run
  past_by zero at h = let e = is-end s at (omega (arith, h)) in past-none at (rw (ends s at e)) (rw (ends s at e))
  past_by (suc n) at h = past-at at (λ to l. past_by n to (omega (arith, h, l))) (record_at s at) refl

  pub past : (at : ℕ) → Past at
  past at = past_by (length s) at (omega arith)
