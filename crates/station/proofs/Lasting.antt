-- The slots of a position stand for the reader's position from call to call, and a run of calls is the reader's run. Assumes nothing.
use Rattle.std.specs.Prelude.{Some, None, Ok, Err}
use Prim.Native.Nat.{ℕ, zero, suc, ◌+◌, ◌-◌, ◌*◌, ◌≤◌, ◌<◌, ◌/◌}
use mathlib.Core.Path.{◌≡◌, refl, sym, ap, ◌∙◌}
use mathlib.Core.Bool.{Bool, true, false, cond}
use mathlib.Core.List.{List, [], ◌∷◌, ◌++◌, append-nil}
use native.Mathlib.Omega.{arith}
use native.Mathlib.Decide.{dec_le}
use native.Mathlib.Nat.{lt_of_not-le}
use lib.ListN.{length, get_or, set, drop, length-set}
use lib.IntN.{pos, neg_ℤ, nat_abs, pos-ne-negsuc}
use lib.Seq.{get_or-drop, get_or-set_same, get_or-set_other, ext_get_or}
use borrow.Author.Tests.{lt-ltb, le-ltb}
use Rattle.wire.specs.Over.{overwrite}
use Rattle.wire.proofs.Over.{length_over, over-eq}
use Rattle.cells.specs.Cells.{is_type}
use Rattle.cells.proofs.Types.{type-cases}
use Rattle.payload.specs.Positions.{Corner}
use Rattle.reader.specs.declared.Position.{Position}
use Rattle.reader.specs.declared.Spot.{Spot}
use Rattle.reader.specs.declared.Token.{Token}
use Rattle.reader.specs.declared.Token.TheVariants.{ColMetadata, Column, Row, Cell, Done, Message}
use Rattle.reader.specs.Positions.{fresh_position, after}
use Rattle.reader.specs.Reader.{Answer, step_of, run_of, answer_of as nth_answer}
use Rattle.station.specs.Answer.{number_of, lent, filled, answer_of, slots_of}
use Rattle.reader.specs.Spots.{spot_of}
use Rattle.station.specs.Steps.{code_of, length_of, type_slot, first_of, place_of, position_of, fresh_slots, fresh_call, token_slots, step_outcome, step_call, spot_slots, with_type, slots_after, position_left}
use Rattle.station.specs.Stepping.{FreshStands, NextStands, after_calls, RunStands}
use Rattle.station.proofs.Stepping.{first-length, first-at, few, eleven}
use Rattle.station.proofs.Typed.{Typed, Following, following}

-- ---- the fresh position

fresh-tail : (tail : List ℕ) → position_of (fresh_slots ++ tail) ≡ fresh_position
unfolding position_of place_of first_of code_of length_of
fresh-tail tail = refl

pub fresh-stands : FreshStands
fresh-stands = ap position_of (sym (append-nil fresh_slots)) ∙ fresh-tail []

-- in more slots than it needs, too
fresh-lent : (slots : List ℕ) → 134 ≤ length slots → slots_of fresh_call slots ≡ fresh_slots ++ drop 134 slots
unfolding slots_of lent filled fresh_call
fresh-lent slots k = simp (le-ltb (length slots) 134 k) (over-eq fresh_slots slots 0 k)

fresh-length : (slots : List ℕ) → 134 ≤ length slots → length (slots_of fresh_call slots) ≡ length slots
unfolding slots_of lent filled fresh_call
fresh-length slots k = simp (le-ltb (length slots) 134 k) (length_over fresh_slots slots 0)

-- ---- the types of columns in their slots

-- they go by the slots from the seventh on
first_by : (f : ℕ → ℕ) (n : ℕ) (s t : List ℕ) → drop 6 s ≡ drop 6 t → first_of f n s ≡ first_of f n t
unfolding first_of
first_by f zero s t e = refl
first_by f (suc n) s t e =
    let g : get_or s (6 + n) 0 ≡ get_or t (6 + n) 0 = sym (get_or-drop 6 s n 0) ∙ ap (λ (l : List ℕ). get_or l n 0) e ∙ get_or-drop 6 t n 0 in
    rw (g, first_by f n s t e) refl

-- a slot that is written holds its column's type
first-set : (f : ℕ → ℕ) (n w : ℕ) (s : List ℕ) → n ≤ 128 → 134 ≤ length s → first_of f 128 (set s (6 + n) w) ≡ set (first_of f 128 s) n (f w)
first-set f n w s h k =
    let l = first-length f 128 in
    ext_get_or 0 (first_of f 128 (set s (6 + n) w)) (set (first_of f 128 s) n (f w)) (l _ ∙ sym (length-set (first_of f 128 s) n (f w) ∙ l s)) (λ i g. each i (rw (l (set s (6 + n) w)) at g))
  where
    other : (i : ℕ) → i < 128 → (i ≡ n → ⊥) → get_or (first_of f 128 (set s (6 + n) w)) i 0 ≡ get_or (set (first_of f 128 s) n (f w)) i 0
    other i g d =
        first-at f 128 i (set s (6 + n) w) g (omega arith) ∙ ap f (get_or-set_other s (6 + n) (6 + i) w 0 (λ (q : 6 + i ≡ 6 + n). d (omega arith)))
        ∙ sym (get_or-set_other (first_of f 128 s) n i (f w) 0 d ∙ first-at f 128 i s g (omega arith))

    each : (i : ℕ) → i < 128 → get_or (first_of f 128 (set s (6 + n) w)) i 0 ≡ get_or (set (first_of f 128 s) n (f w)) i 0
    each i g =
        elim (dec_le n i) [
          | yes a ↦ elim (dec_le i n) [
            | yes b ↦ let q : i ≡ n = omega arith in
                first-at f 128 i (set s (6 + n) w) g (omega arith)
                ∙ ap f (ap (λ (k : ℕ). get_or (set s (6 + n) w) (6 + k) 0) q ∙ get_or-set_same s (6 + n) w 0 (omega arith))
                ∙ sym (ap (λ (k : ℕ). get_or (set (first_of f 128 s) n (f w)) k 0) q ∙ get_or-set_same (first_of f 128 s) n (f w) 0 (rw (first-length f 128 s) (omega arith)))
            | no b ↦ other i g (λ (q : i ≡ n). b (omega arith))
          ]
          | no a ↦ other i g (λ (q : i ≡ n). a (omega arith))
        ]

-- a column type's slot has its code and its length
code-back : (code limit : ℕ) → is_type code limit ≡ true → code_of (type_slot code limit) ≡ code
unfolding code_of type_slot
code-back code limit e =
    let c : code < 256 = type-cases code limit e (λ c l m. omega arith) (λ c l. omega arith) (λ c l. omega arith) (λ c l. omega arith) (λ c l. omega arith) in
    let m : limit < 65536 = type-cases code limit e (λ c l m. omega arith) (λ c l. omega arith) (λ c l. omega arith) (λ c l. omega arith) (λ c l. omega arith) in
    let h : code * 65536 + limit < 16777216 = omega arith in
    let d : (code * 65536 + limit) / 65536 ≡ code = omega arith in
    simp (lt-ltb (code * 65536 + limit) 16777216 h) d

length_back : (code limit : ℕ) → is_type code limit ≡ true → length_of (type_slot code limit) ≡ limit
unfolding length_of type_slot
length_back code limit e =
    let m : limit < 65536 = type-cases code limit e (λ c l m. omega arith) (λ c l. omega arith) (λ c l. omega arith) (λ c l. omega arith) (λ c l. omega arith) in
    omega arith

-- ---- the slots after a token

-- six slots before the others stand for a spot
stood : (place count left cells : ℕ) (over : Bool) (number : ℕ) (types limits rest : List ℕ)
    → (let s = place ∷ count ∷ left ∷ cells ∷ cond over 1 0 ∷ number ∷ rest in (first_of code_of 128 s ≡ types) × (first_of length_of 128 s ≡ limits))
    → position_of (place ∷ count ∷ left ∷ cells ∷ cond over 1 0 ∷ number ∷ rest)
    ≡ record { packet = number; place = place; count = count; types = types; limits = limits; columns_left = left; cells_left = cells; over = over }
unfolding position_of place_of
stood place count left cells true number types limits rest e = rw (e.0, e.1) refl
stood place count left cells false number types limits rest e = rw (e.0, e.1) refl

set_past : (x0 x1 x2 x3 x4 x5 : ℕ) (rest : List ℕ) (n w : ℕ) → set (x0 ∷ x1 ∷ x2 ∷ x3 ∷ x4 ∷ x5 ∷ rest) (6 + n) w ≡ x0 ∷ x1 ∷ x2 ∷ x3 ∷ x4 ∷ x5 ∷ set rest n w
set_past x0 x1 x2 x3 x4 x5 rest n w =
    let e : 6 + n ≡ suc (suc (suc (suc (suc (suc n))))) = omega arith in ap (λ (k : ℕ). set (x0 ∷ x1 ∷ x2 ∷ x3 ∷ x4 ∷ x5 ∷ rest) k w) e

module _ (x0 x1 x2 x3 x4 x5 : ℕ) (rest : List ℕ) where
  abbrev s : List ℕ
  s = x0 ∷ x1 ∷ x2 ∷ x3 ∷ x4 ∷ x5 ∷ rest

  -- no type is written
  kept : (next : Position) → next.types ≡ first_of code_of 128 s → next.limits ≡ first_of length_of 128 s → position_of (overwrite s 0 (spot_slots (spot_of next))) ≡ next
  unfolding overwrite
  kept next t l =
      stood next.place next.count next.columns_left next.cells_left next.over next.packet next.types next.limits rest
      (first_by code_of 128 _ s refl ∙ sym t, first_by length_of 128 _ s refl ∙ sym l)

  -- a column's type is
  typed : (next : Position) (n code limit : ℕ) → n ≤ 128 → 134 ≤ length s → is_type code limit ≡ true → next.types ≡ set (first_of code_of 128 s) n code
      → next.limits ≡ set (first_of length_of 128 s) n limit → position_of (set (overwrite s 0 (spot_slots (spot_of next))) (6 + n) (type_slot code limit)) ≡ next
  unfolding overwrite
  typed next n code limit h k e t l =
      let w : ℕ = type_slot code limit in
      let g : (f : ℕ → ℕ) → first_of f 128 (next.place ∷ next.count ∷ next.columns_left ∷ next.cells_left ∷ cond next.over 1 0 ∷ next.packet ∷ set rest n w) ≡ set (first_of f 128 s) n (f w) =
      λ (f : ℕ → ℕ). first_by f 128 _ (x0 ∷ x1 ∷ x2 ∷ x3 ∷ x4 ∷ x5 ∷ set rest n w) refl ∙ ap (first_of f 128) (sym (set_past x0 x1 x2 x3 x4 x5 rest n w)) ∙ first-set f n w s h k in
      ap position_of (set_past next.place next.count next.columns_left next.cells_left (cond next.over 1 0) next.packet rest n w)
      ∙ stood next.place next.count next.columns_left next.cells_left next.over next.packet next.types next.limits (set rest n w)
      (g code_of ∙ ap (set (first_of code_of 128 s) n) (code-back code limit e) ∙ sym t, g length_of ∙ ap (set (first_of length_of 128 s) n) (length_back code limit e) ∙ sym l)

  -- and so the slots stand for the position after the token
  after-token : (t : Token) (at : Corner) → 134 ≤ length s → x1 ≤ 128 → Typed t
      → (let p = position_of s in position_of (with_type (x1 - x2) t (overwrite s 0 (spot_slots (spot_of (after p t at))))) ≡ after p t at)
  unfolding with_type after position_of
  after-token (ColMetadata n) at k h g = kept _ refl refl
  after-token (Column user flags code limit collation name) at k h g = typed _ (x1 - x2) code limit (omega arith) k g refl refl
  after-token Row at k h g = kept _ refl refl
  after-token (Cell v) at k h g = kept _ refl refl
  after-token (Done status command count) at k h g = kept _ refl refl
  after-token (Message kind number state class text server procedure line) at k h g = kept _ refl refl

token-length : (position : List ℕ) (n : ℕ) (t : Token) (next : Spot) → length (with_type n t (overwrite position 0 (spot_slots next))) ≡ length position
unfolding with_type
token-length position n (ColMetadata count) next = length_over (spot_slots next) position 0
token-length position n (Column user flags code limit collation name) next =
    length-set (overwrite position 0 (spot_slots next)) (6 + n) (type_slot code limit) ∙ length_over (spot_slots next) position 0
token-length position n Row next = length_over (spot_slots next) position 0
token-length position n (Cell v) next = length_over (spot_slots next) position 0
token-length position n (Done status command count) next = length_over (spot_slots next) position 0
token-length position n (Message kind number state class text server procedure line) next = length_over (spot_slots next) position 0

-- ---- the slots after a call

at-token : (position : List ℕ) (t : Token) (at : Corner) → 134 ≤ length position → (position_of position).count ≤ 128 → Typed t
    → (let p = position_of position in
    position_of (with_type (p.count - p.columns_left) t (overwrite position 0 (spot_slots (spot_of (after p t at))))) ≡ after p t at)
unfolding position_of
at-token [] t at k h g = absurd (omega arith)
at-token (x0 ∷ []) t at k h g = absurd (omega arith)
at-token (x0 ∷ x1 ∷ []) t at k h g = absurd (omega arith)
at-token (x0 ∷ x1 ∷ x2 ∷ []) t at k h g = absurd (omega arith)
at-token (x0 ∷ x1 ∷ x2 ∷ x3 ∷ []) t at k h g = absurd (omega arith)
at-token (x0 ∷ x1 ∷ x2 ∷ x3 ∷ x4 ∷ []) t at k h g = absurd (omega arith)
at-token (x0 ∷ x1 ∷ x2 ∷ x3 ∷ x4 ∷ x5 ∷ rest) t at k h g = after-token x0 x1 x2 x3 x4 x5 rest t at k h g

module _ (packet position out : List ℕ) (k : 134 ≤ length position) (l : 11 ≤ length out) where
  abbrev p : Position
  p = position_of position

  by_answer : (a : Answer) (next : Position) → (step_of packet p).answer ≡ a → Following p a next
      → position_of (slots_after (p.count - p.columns_left) a (spot_of next) position out) ≡ next
  unfolding slots_after
  by_answer (Ok (Some t)) next e f =
      simp (le-ltb _ _ k, le-ltb _ _ l) (rw f.1.0 (at-token position t f.0 k (few packet p e) f.1.1))
  by_answer (Ok None) next e f = sym f
  by_answer (Err n) next e f = sym f

  pub left-stands : position_of (position_left packet position out) ≡ (step_of packet p).next
  unfolding position_left
  left-stands = by_answer (step_of packet p).answer (step_of packet p).next refl (following packet p)

  answer-length : (n : ℕ) (a : Answer) (next : Spot) → length (slots_after n a next position out) ≡ length position
  unfolding slots_after
  answer-length n (Ok (Some t)) next = simp (le-ltb _ _ k, le-ltb _ _ l) (token-length position n t next)
  answer-length n (Ok None) next = refl
  answer-length n (Err r) next = refl

  pub left-length : length (position_left packet position out) ≡ length position
  unfolding position_left
  left-length = answer-length (p.count - p.columns_left) (step_of packet p).answer (spot_of (step_of packet p).next)

-- ---- a run of calls

runs : (n : ℕ) (packet position : List ℕ) (outs : ℕ → List ℕ) → 134 ≤ length position → ((k : ℕ) → 11 ≤ length (outs k))
    → (let left = after_calls n packet position outs in (position_of left ≡ run_of n packet (position_of position)) × (length left ≡ length position))
unfolding run_of
runs zero packet position outs k l = (refl, refl)
runs (suc n) packet position outs k l =
    let next = position_left packet position (outs 0) in
    let e : length next ≡ length position = left-length packet position (outs 0) k (l 0) in
    let h = runs n packet next (λ (i : ℕ). outs (suc i)) (omega arith) (λ i. l (suc i)) in
    (h.0 ∙ ap (run_of n packet) (left-stands packet position (outs 0) k (l 0)), h.1 ∙ e)

room-enough : (a : Answer) (room : ℕ) → 134 ≤ room → step_outcome room a ≡ step_outcome 134 a
room-enough (Ok (Some t)) room h = rw (le-ltb room 134 h) refl
room-enough (Ok None) room h = refl
room-enough (Err n) room h = refl

pub run-stands : RunStands
unfolding step_call nth_answer
run-stands packet slots outs k l n =
    let s = slots_of fresh_call slots in
    let left = after_calls n packet s outs in
    let e : length s ≡ length slots = fresh-length slots k in
    let h = runs n packet s outs (omega arith) l in
    let f : position_of s ≡ fresh_position = ap position_of (fresh-lent slots k) ∙ fresh-tail (drop 134 slots) in
    ap (λ (q : Position). step_outcome (length left) (step_of packet q).answer) (h.0 ∙ ap (run_of n packet) f)
    ∙ room-enough (step_of packet (run_of n packet fresh_position)).answer (length left) (omega (arith, h.1, e))

-- ---- a call that answers 1

not-one : (n : ℕ) → neg_ℤ (pos n) ≡ pos 1 → ⊥
not-one zero e = let z : ◌≡◌ {A = ℕ} 0 1 = ap nat_abs e in omega (arith, z)
not-one (suc n) e = pos-ne-negsuc 1 n (sym e)

-- was lent enough slots
room_of_lem : (a : Answer) (room : ℕ) (out : List ℕ) → answer_of (step_outcome room a) out ≡ pos 1 → (134 ≤ room) × (11 ≤ length out)
unfolding answer_of lent number_of
room_of_lem (Ok (Some t)) room out e =
    elim (dec_le 134 room) [
      | yes k ↦ elim (dec_le 11 (length out)) [
        | yes l ↦ (k, l)
        | no l ↦ let h : length out < length (token_slots t) = rw (eleven t) (lt_of_not-le l) in
            absurd (not-one 20 (rw (le-ltb room 134 k, lt-ltb (length out) (length (token_slots t)) h) at e))
      ]
      | no k ↦ absurd (not-one 20 (rw (lt-ltb room 134 (lt_of_not-le k)) at e))
    ]
room_of_lem (Ok None) room out e = let z : ◌≡◌ {A = ℕ} 0 1 = ap nat_abs (rw (le-ltb (length out) 0 (omega arith)) at e) in absurd (omega (arith, z))
room_of_lem (Err n) room out e = absurd (not-one n e)

pub next-stands : NextStands
unfolding step_call
next-stands packet position out e =
    let r = room_of_lem (step_of packet (position_of position)).answer (length position) out e in left-stands packet position out r.0 r.1
