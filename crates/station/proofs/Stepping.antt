-- How the reply reader's step ends for C: the answer, the position's slots and out, for each way. Assumes nothing.
use Rattle.std.specs.Prelude.{Some, None, Ok, Err}
use Prim.Native.Nat.{ℕ, zero, suc, ◌+◌, ◌-◌, ◌%◌, ◌^◌, ◌≤◌, ◌<◌}
use mathlib.Core.Path.{◌≡◌, refl, sym, ap, ◌∙◌}
use mathlib.Core.Bool.{Bool, true, false, true≢false, cond}
use mathlib.Core.List.{List}
use native.Mathlib.Omega.{arith}
use native.Mathlib.Decide.{dec_le}
use native.Mathlib.Nat.{lt_of_not-le}
use lib.Dec.{ltb}
use lib.Seq.{get_or-set_same, get_or-set_other}
use lib.ListN.{length, get_or, set, length-set, get_or-eq_default}
use lib.IntN.{ℤ}
use lib.Signed.{mag}
use mir.Syntax.{w64}
use mir.Val.{to_z, of_z}
use borrow.Author.Tests.{lt-ltb, le-ltb}
use Rattle.wire.specs.Over.{overwrite}
use Rattle.wire.proofs.Cases.{by-test}
use Rattle.payload.specs.Packets.{packets_in}
use Rattle.payload.specs.Positions as positions
use Rattle.payload.specs.Positions.{Placed, place_in}
use Rattle.cells.specs.declared.Value.TheVariants as value
use Rattle.reader.specs.declared.HeldTypes.{HeldTypes}
use Rattle.reader.specs.declared.Position.{Position}
use Rattle.reader.specs.declared.Spot.{Spot}
use Rattle.reader.specs.declared.Token.{Token}
use Rattle.reader.specs.declared.Token.TheVariants.{ColMetadata, Column, Row, Cell, Done, Message}
use Rattle.cells.specs.Cells.{is_type}
use Rattle.reader.specs.Positions.{held, stands, after}
use Rattle.reader.specs.Reader.{Answer, StepOf, step_from, step_of}
use Rattle.reader.specs.Spots.{Found, spot_of, held_in, spot_after, step_by, got_of}
use Rattle.reader.proofs.CodeSteps.{stepped}
use Rattle.reader.proofs.CodeSpots.{after-spot}
use Rattle.reader.proofs.CodePositions.{held_next, held-each, held-past, standing}
use Rattle.station.specs.Answer.{answers, refuses, number_of, answer_of, slots_of}
use Rattle.station.specs.Steps.{code_of, length_of, first_of, position_of, token_slots, step_outcome, step_call, spot_slots, with_type, slots_after, position_left}
use Rattle.station.proofs.Ends.{Ended, stopped, too_few}
use Rattle.station.proofs.TypeSlots.{no_code}

-- ---- a position in slots

-- one turn of the loop that reads types
pub first_next : (f : ℕ → ℕ) (n : ℕ) (slots : List ℕ) → first_of f (n + 1) slots ≡ set (first_of f n slots) n (f (get_or slots (6 + n) 0))
unfolding first_of
first_next f n slots = let e : n + 1 ≡ suc n = omega arith in ap (λ (k : ℕ). first_of f k slots) e

pub first-length : (f : ℕ → ℕ) (n : ℕ) (slots : List ℕ) → length (first_of f n slots) ≡ 128
unfolding first_of
first-length f zero slots = refl
first-length f (suc n) slots = length-set (first_of f n slots) n _ ∙ first-length f n slots

-- the values that were read
pub first-at : (f : ℕ → ℕ) (n i : ℕ) (slots : List ℕ) → i < n → n ≤ 128 → get_or (first_of f n slots) i 0 ≡ f (get_or slots (6 + i) 0)
unfolding first_of
first-at f zero i slots h k = absurd (omega arith)
first-at f (suc n) i slots h k =
    elim (dec_le n i) [
      | yes l ↦ let e : i ≡ n = omega arith in rw e (get_or-set_same (first_of f n slots) n _ 0 (rw (first-length f n slots) (omega arith)))
      | no l ↦ let g : i < n = lt_of_not-le l in get_or-set_other (first_of f n slots) n i _ 0 (λ (q : i ≡ n). omega arith) ∙ first-at f n i slots g (omega arith)
    ]

pub code-none : code_of 0 ≡ 0
unfolding code_of
code-none = refl

pub length_none : length_of 0 ≡ 0
unfolding length_of
length_none = refl

-- a column's value is that of its slot; one that has no slot has 0
pub first-each : (f : ℕ → ℕ) (i : ℕ) (slots : List ℕ) → f 0 ≡ 0 → get_or (first_of f 128 slots) i 0 ≡ f (cond (ltb i 128) (get_or slots (6 + i) 0) 0)
first-each f i slots e =
    elim (dec_le 128 i) [
      | yes l ↦ get_or-eq_default (first_of f 128 slots) 0 {n = i} (rw (first-length f 128 slots) l) ∙ sym (ap (λ b. f (cond b (get_or slots (6 + i) 0) 0)) (le-ltb i 128 l) ∙ e)
      | no l ↦ let h : i < 128 = lt_of_not-le l in first-at f 128 i slots h (omega arith) ∙ sym (ap (λ b. f (cond b (get_or slots (6 + i) 0) 0)) (lt-ltb i 128 h))
    ]

-- the test of the types in their slots: one turn, a slot that is none, slots that are not there
module _ (slots : List ℕ) where
  abbrev pub held_to : ℕ → Bool
  held_to n = held n (first_of code_of 128 slots) (first_of length_of 128 slots)

  at-column : (i : ℕ) → i < 128 → is_type (get_or (first_of code_of 128 slots) i 0) (get_or (first_of length_of 128 slots) i 0) ≡ is_type (code_of (get_or slots (6 + i) 0)) (length_of (get_or slots (6 + i) 0))
  at-column i h = rw (first-at code_of 128 i slots h (omega arith), first-at length_of 128 i slots h (omega arith))

  pub held-turn : (i : ℕ) → i < 128 → held_to i ≡ true → is_type (code_of (get_or slots (6 + i) 0)) (length_of (get_or slots (6 + i) 0)) ≡ true → held_to (i + 1) ≡ true
  held-turn i h e k = held_next i (first_of code_of 128 slots) (first_of length_of 128 slots) ∙ rw (at-column i h, k, e)

  pub held-fails : (n i : ℕ) → i < n → i < 128 → is_type (code_of (get_or slots (6 + i) 0)) (length_of (get_or slots (6 + i) 0)) ≡ false → false ≡ held_to n
  held-fails n i h k e =
      by-test (held_to n)
      (λ t. absurd (true≢false (sym (held-each n (first_of code_of 128 slots) (first_of length_of 128 slots) i t h) ∙ at-column i k ∙ e)))
      (λ t. sym t)

  pub held-short : (n : ℕ) → n ≤ 128 → length slots - 6 < n → false ≡ held_to n
  held-short n h k =
      let e : get_or slots (6 + (n - 1)) 0 ≡ 0 = get_or-eq_default slots 0 {n = 6 + (n - 1)} (omega arith) in
      held-fails n (n - 1) (omega arith) (omega arith) (rw (e, code-none) (sym (no_code (length_of 0))))

  pub held-over : (n : ℕ) → 128 < n → false ≡ held_to n
  held-over n h = sym (held-past n (first_of code_of 128 slots) (first_of length_of 128 slots) (rw (first-length code_of 128 slots) (omega arith)) h)

-- what a step asks of the types, as it is found in the slots
pub held-slots : (slots : List ℕ) {at : Spot} {i j slot code : ℕ} {sound : Bool} → at ≡ spot_of (position_of slots) → j ≡ at.count - at.cells_left
    → slot ≡ cond (ltb j 128) (get_or slots (6 + j) 0) 0 → i ≡ at.count - at.columns_left → sound ≡ held_to slots i → code ≡ code_of slot
    → record { sound = sound; code = code; limit = slot % 65536 } ≡ held_in (position_of slots)
unfolding position_of length_of
held-slots slots {j} {slot} p q e r s c =
    let column : j ≡ get_or slots 1 0 - get_or slots 3 0 = q ∙ ap (λ (a : Spot). a.count - a.cells_left) p in
    let sound' = s ∙ ap (held_to slots) (r ∙ ap (λ (a : Spot). a.count - a.columns_left) p) in
    let code' = c ∙ ap code_of e ∙ sym (first-each code_of j slots code-none) ∙ ap (λ (k : ℕ). get_or (first_of code_of 128 slots) k 0) column in
    let limit' : slot % 65536 ≡ get_or (first_of length_of 128 slots) (get_or slots 1 0 - get_or slots 3 0) 0 =
    ap length_of e ∙ sym (first-each length_of j slots length_none) ∙ ap (λ (k : ℕ). get_or (first_of length_of 128 slots) k 0) column in
    rw (sound', code', limit')

-- ---- a step that answers a token

abbrev tokens : Answer → ℕ
tokens (Ok (Some t)) = 1
tokens (Ok None) = 0
tokens (Err n) = 0

-- from a position that is refused none
none : (p : List ℕ) (pos : Position) (at : Placed) → stands pos ≡ false → tokens (step_from (packets_in p) pos at).answer ≡ 0
none p pos (positions.refused n) s = refl
none p pos (positions.at n) s = rw s refl

-- the set has at most 128 columns
pub few : (p : List ℕ) (pos : Position) {t : Token} → (step_of p pos).answer ≡ Ok (Some t) → pos.count ≤ 128
unfolding step_of
few p pos e =
    by-test (stands pos) (λ s. (standing pos s).few)
    (λ s. let z : ◌≡◌ {A = ℕ} 0 1 = sym (none p pos (place_in (packets_in p) pos.packet pos.place) s) ∙ ap tokens e in absurd (omega arith))

-- a token has 11 slots
pub eleven : (t : Token) → length (token_slots t) ≡ 11
eleven (ColMetadata n) = refl
eleven (Column user flags code limit collation name) = refl
eleven Row = refl
eleven (Cell value.Null) = refl
eleven (Cell (value.Number n)) = refl
eleven (Cell (value.Part p)) = refl
eleven (Cell (value.Max p)) = refl
eleven (Done status command count) = refl
eleven (Message kind number state class text server procedure line) = refl

-- ---- how it ends

module _ (position out : List ℕ) where
  -- what is left after an answer: r, the position's slots and out
  abbrev pub Left : ℕ → Answer → Spot → (position' out' : List ℕ) → ℤ → Type 0
  Left n a next position' out' r =
      let o = step_outcome (length position) a in (r ≡ answer_of o out) × ((position' ≡ slots_after n a next position out) × (out' ≡ slots_of o out))

  module _ (n : ℕ) (t : Token) (next : Spot) {r : ℤ} where
    -- too few slots for the position
    pub no-position : length position < 134 → mag r < 2 ^ 63 → r ≡ number_of (refuses 20) → Left n (Ok (Some t)) next position out (to_z w64 (of_z w64 r))
    unfolding slots_after
    no-position h fits e = let s = stopped {p = refuses 20} out fits e refl in simp (lt-ltb _ _ h) (s.0, (refl, s.1))

    -- too few slots of out
    pub no-out : 134 ≤ length position → length out < 11 → mag r < 2 ^ 63 → r ≡ number_of (refuses 20)
        → Left n (Ok (Some t)) next position out (to_z w64 (of_z w64 r))
    unfolding slots_after
    no-out h k fits e =
        let l : length out < length (token_slots t) = rw (eleven t) k in
        let s = too_few 1 out (token_slots t) l fits e in
        simp (le-ltb _ _ h, lt-ltb _ _ k) (s.0, (refl, s.1))

    -- enough of both
    pub moved : {position' out' : List ℕ} → 134 ≤ length position → 11 ≤ length out → position' ≡ with_type n t (overwrite position 0 (spot_slots next))
        → Ended (answers 1 (token_slots t)) out out' r → Left n (Ok (Some t)) next position' out' r
    unfolding slots_after
    moved h k e s = simp (le-ltb _ _ h, le-ltb _ _ k) (s.0, (e, s.1))

  module _ (packet : List ℕ) where
    -- what the call promises
    abbrev pub Told : (position' out' : List ℕ) → ℤ → Type 0
    Told position' out' r =
        let call = step_call packet position in (r ≡ answer_of call out) × ((position' ≡ position_left packet position out) × (out' ≡ slots_of call out))

    -- what was found, as a step of the position in the slots
    pub found : {at : Spot} {types : HeldTypes} {g h : Found} → at ≡ spot_of (position_of position) → types ≡ held_in (position_of position) → g ≡ got_of packet at types → g ≡ h
        → step_by (position_of position) h ≡ step_of packet (position_of position)
    found {types} p q f e = ap (step_by (position_of position)) (sym e) ∙ stepped packet (position_of position) q (f ∙ ap (λ (a : Spot). got_of packet a types) p)

    -- and the spot after a token
    pub after-found : {at next : Spot} (t : Token) (number place : ℕ) → at ≡ spot_of (position_of position) → next ≡ spot_after at t number place
        → next ≡ spot_of (after (position_of position) t (record { packet = number; place = place }))
    after-found t number place p e = e ∙ ap (λ (a : Spot). spot_after a t number place) p ∙ sym (after-spot (position_of position) t number place)

    pub told : {s : StepOf} {a : Answer} {next : Spot} {n : ℕ} {position' out' : List ℕ} {r : ℤ} → s ≡ step_of packet (position_of position) → s.answer ≡ a
        → next ≡ spot_of s.next → n ≡ (position_of position).count - (position_of position).columns_left → Left n a next position' out' r → Told position' out' r
    unfolding step_call position_left
    told {a} {next} {n} f g h k l =
        let q : (step_of packet (position_of position)).answer ≡ a = sym (ap (λ (s : StepOf). s.answer) f) ∙ g in
        let w : next ≡ spot_of (step_of packet (position_of position)).next = h ∙ ap (λ (s : StepOf). spot_of s.next) f in
        rw (q, ← k, ← w) (l.0, (l.1.0, l.1.1))
