-- The parameters of a call, one after another: what was passed, and what is left from a place on. Enough turns are as good as more.
-- Assumes nothing.
use mathlib.Core.Path.{◌≡◌, refl, sym, ap, ◌∙◌}
use mathlib.Core.Bool.{Bool, true, false, cond, ◌||◌}
use mathlib.Core.List.{List, [], ◌∷◌, ◌++◌, append_assoc, append-nil}
use Prim.Native.Nat.{ℕ, zero, suc, ◌+◌, ◌-◌, ◌≤◌, ◌<◌}
use native.Mathlib.Omega.{arith}
use Rattle.std.specs.Prelude.{Some, None, Ok, Err}
use lib.Dec.{eqb, leb, eqb-zero-suc, eqb-suc-zero, eqb-suc-suc}
use lib.ListN.{length, length-append}
use borrow.Author.Tests.{le-leb, lt-leb, leb-false}
use Rattle.wire.proofs.Cases.{by-test, clash}
use Rattle.payload.specs.Places.{Source, Place, Read, whole, refused, then}
use Rattle.payload.proofs.CodeReads.{then-got, then-not, then_same, if-so, if-not}
use Rattle.rpc.specs.declared.Parameter.{Parameter}
use Rattle.rpc.specs.declared.ParameterAt.{ParameterAt}
use Rattle.rpc.specs.declared.Seen.{Seen}
use Rattle.rpc.specs.Rpc.{parameter_at, parameters_at, asked_in}
use Rattle.rpc.specs.Answers.{seen_in, seen_with, parameters_read}
use Rattle.rpc.proofs.Inside.{parameter-onward}

-- parameters that were passed, then what is read
abbrev pub after : List ParameterAt → Read (List ParameterAt) → Read (List ParameterAt)
after ps (whole qs at) = whole (ps ++ qs) at
after ps (refused n) = refused n

after_none : (x : Read (List ParameterAt)) → after [] x ≡ x
after_none (whole qs at) = refl
after_none (refused n) = refl

pub after-after : (ps qs : List ParameterAt) (x : Read (List ParameterAt)) → after ps (after qs x) ≡ after (ps ++ qs) x
after-after ps qs (whole rs at) = ap (λ (l : List ParameterAt). whole l at) (sym (append_assoc ps qs rs))
after-after ps qs (refused n) = refl

module _ (b : Source) where
  -- how the parameters go on from one
  abbrev onward : ℕ → Parameter → Place → Read (List ParameterAt)
  onward turns p to = then (parameters_at turns b to) (λ (ps : List ParameterAt) (end : Place). whole (record { parameter = p; next = to } ∷ ps) end)

  onward-is : (turns : ℕ) (p : Parameter) (to : Place) → onward turns p to ≡ after (record { parameter = p; next = to } ∷ []) (parameters_at turns b to)
  unfolding then
  onward-is turns p to = go (parameters_at turns b to)
    where
      go : (x : Read (List ParameterAt))
          → then x (λ (ps : List ParameterAt) (end : Place). whole (record { parameter = p; next = to } ∷ ps) end) ≡ after (record { parameter = p; next = to } ∷ []) x
      go (whole ps end) = refl
      go (refused n) = refl

  turn : (turns : ℕ) (at : Place) → parameters_at (suc turns) b at ≡ cond (leb (length b.bytes) at) (whole [] at) (then (parameter_at b at) (onward turns))
  unfolding parameters_at
  turn turns at = refl

  -- a run that has enough turns does not depend on how many
  enough : (k j : ℕ) (at : Place) → length b.bytes - at < k → length b.bytes - at < j → parameters_at k b at ≡ parameters_at j b at
  enough zero j at hk hj = absurd (omega arith)
  enough (suc k) zero at hk hj = absurd (omega arith)
  enough (suc k) (suc j) at hk hj =
      turn k at
      ∙ by-test (leb (length b.bytes) at)
      (λ e. if-so _ _ e ∙ sym (if-so _ _ e))
      (λ e.
      let l : at < length b.bytes = leb-false (length b.bytes) at e in
      if-not _ _ e
      ∙ then_same (parameter_at b at) (onward k) (onward j) (λ p to f.
      let m = parameter-onward b at f in
      onward-is k p to ∙ ap (after (record { parameter = p; next = to } ∷ [])) (enough k j to (omega arith) (omega arith)) ∙ sym (onward-is j p to))
      ∙ sym (if-not _ _ e))
      ∙ sym (turn j at)

  -- from a parameter, from the end, and from a refusal
  pub goes_on_lem : (at : Place) (q : ParameterAt) → at < length b.bytes → parameter_at b at ≡ whole q.parameter q.next
      → parameters_at (suc (length b.bytes)) b at ≡ after (q ∷ []) (parameters_at (suc (length b.bytes)) b q.next)
  goes_on_lem at q l e =
      let m = parameter-onward b at e in
      turn (length b.bytes) at ∙ if-not _ _ (lt-leb (length b.bytes) at l) ∙ then-got (onward (length b.bytes)) e ∙ onward-is (length b.bytes) q.parameter q.next
      ∙ ap (after (q ∷ [])) (enough (length b.bytes) (suc (length b.bytes)) q.next (omega arith) (omega arith))

  pub ends : (at : Place) → length b.bytes ≤ at → parameters_at (suc (length b.bytes)) b at ≡ whole [] at
  ends at l = turn (length b.bytes) at ∙ if-so _ _ (le-leb (length b.bytes) at l)

  pub breaks : (at n : ℕ) → at < length b.bytes → parameter_at b at ≡ refused n → parameters_at (suc (length b.bytes)) b at ≡ refused n
  breaks at n l e = turn (length b.bytes) at ∙ if-not _ _ (lt-leb (length b.bytes) at l) ∙ then-not (onward (length b.bytes)) e

-- ---- what is answered of one parameter more

asked-snoc : (number : ℕ) (ps : List ParameterAt) (q : ParameterAt)
    → asked_in number (ps ++ (q ∷ [])) ≡ cond (eqb (length ps) number) (Some q.parameter) (asked_in number ps)
unfolding asked_in
asked-snoc zero [] q = refl
asked-snoc (suc number) [] q = rw (eqb-zero-suc number)
asked-snoc zero (p ∷ ps) q = rw (eqb-suc-zero (length ps))
asked-snoc (suc number) (p ∷ ps) q = rw (eqb-suc-suc (length ps) number) (asked-snoc number ps q)

pub seen-snoc : (number : ℕ) (ps : List ParameterAt) (q : ParameterAt)
    → seen_in number (ps ++ (q ∷ [])) ≡ seen_with (seen_in number ps) (eqb (length ps) number) (eqb (length ps) 0) q
seen-snoc number [] q = rw (asked-snoc number [] q)
seen-snoc number (p ∷ ps) q = rw (asked-snoc number (p ∷ ps) q, eqb-suc-zero (length ps))

kept : (is_asked is_first : Bool) (seen : Seen) (q : ParameterAt) → (is_asked || is_first) ≡ false → seen_with seen is_asked is_first q ≡ seen
kept true is_first seen q e = clash (cc)
kept false true seen q e = clash (cc)
kept false false seen q e = refl

-- ---- the walk: parameters were passed from start up to a place

pub record Walked (b : Source) (start number at count : ℕ) (seen : Seen) : Type 0 where
  pub passed : List ParameterAt
  pub left : parameters_at (suc (length b.bytes)) b start ≡ after passed (parameters_at (suc (length b.bytes)) b at)
  pub counted : count ≡ length passed
  pub below : count ≤ at
  pub answers : seen ≡ seen_in number passed

module _ (b : Source) (start number : ℕ) where
  abbrev turns : ℕ
  turns = suc (length b.bytes)

  pub begins : Walked b start number start 0 (record { asked = None; first = None })
  unfolding asked_in
  begins = record { passed = []; left = sym (after_none (parameters_at turns b start)); counted = refl; below = omega arith; answers = refl }

  module _ {at count : ℕ} {seen : Seen} (w : Walked b start number at count seen) where
    -- over a parameter
    pub moves : (q : ParameterAt) → at < length b.bytes → parameter_at b at ≡ whole q.parameter q.next
        → Walked b start number q.next (count + 1) (seen_with seen (eqb count number) (eqb count 0) q)
    moves q l e =
        let onto = parameter-onward b at e in
        record {
          passed = w.passed ++ (q ∷ []);
          left = w.left ∙ ap (after w.passed) (goes_on_lem b at q l e) ∙ after-after w.passed (q ∷ []) (parameters_at turns b q.next);
          counted = rw (length-append w.passed (q ∷ [])) (omega (arith, w.counted));
          below = omega (arith, w.below);
          answers = rw (w.answers, w.counted) (sym (seen-snoc number w.passed q));
        }

    -- the same of one that is neither asked for nor the first, of which nothing is kept
    pub passes : (q : ParameterAt) → at < length b.bytes → parameter_at b at ≡ whole q.parameter q.next → (eqb count number || eqb count 0) ≡ false
        → Walked b start number q.next (count + 1) seen
    passes q l e f = rw (kept (eqb count number) (eqb count 0) seen q f) at (moves q l e)

    -- to the end, and to a refusal
    pub stops : length b.bytes ≤ at → Ok seen ≡ parameters_read number (parameters_at turns b start)
    stops l = sym (ap (parameters_read number) (w.left ∙ ap (after w.passed) (ends b at l)) ∙ rw (append-nil, w.answers))

    pub falls : (n : ℕ) → at < length b.bytes → parameter_at b at ≡ refused n → Err n ≡ parameters_read number (parameters_at turns b start)
    falls n l e = sym (ap (parameters_read number) (w.left ∙ ap (after w.passed) (breaks b at n l e)))
