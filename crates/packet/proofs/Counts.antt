-- The bounds of a packet size, the laws of `part_count`, and how long packets are: one part more, and one header more, for each
-- room of bytes. Assumes nothing.
use mathlib.Core.Path.{◌≡◌, refl, ap, ◌∙◌}
use mathlib.Core.Bool.{Bool, true, false, ◌&&◌}
use mathlib.Core.List.{List, ◌++◌, append-nil}
use Prim.Native.Nat.{ℕ, zero, suc, ◌+◌, ◌-◌, ◌*◌, ◌/◌, ◌≤◌, ◌<◌, min}
use native.Mathlib.Nat.{div-eq_of_lt, div-eq_of_lt-le, add-div_right, div-le_self}
use native.Mathlib.Omega.{arith}
use lib.Dec.{leb}
use lib.ListN.{length, take, drop, length-append, length-drop}
use lib.Seq.{length-take-le, take_all}
use borrow.Author.Tests.{leb-true, le-leb, lt-leb}
use Rattle.wire.proofs.Cases.{split}
use Rattle.packet.specs.Header.{header_bytes}
use Rattle.packet.specs.Cut.{part_header, part_bytes, cut_from, packets_of}
use Rattle.packet.specs.Agreed.{is_packet_size, part_count, packet_count, packets_length, LengthInPackets}
use Rattle.packet.proofs.Sizes.{length-header}

-- two tests that both hold
pub both : (a b : Bool) → a && b ≡ true → (a ≡ true) × (b ≡ true)
both true b h = (refl, h)
both false b h = let z : ◌≡◌ {A = ℕ} 0 1 = cc in absurd (omega arith)

pub size-bounds : (size : ℕ) → is_packet_size size ≡ true → (512 ≤ size) × (size ≤ 32767)
size-bounds size h = let q = both (leb 512 size) (leb size 32767) h in (leb-true 512 size q.0, leb-true size 32767 q.1)

pub length_part : (number : ℕ) (last : Bool) (p : List ℕ) → length (part_bytes number last p) ≡ 8 + length p
unfolding part_bytes
length_part number last p =
    length-append (header_bytes (part_header number last (length p))) p ∙ ap (λ (n : ℕ). n + length p) (length-header (part_header number last (length p)))

-- rounded up, by the room
pub rounded-up : (room n : ℕ) → 1 ≤ room → part_count room n ≡ (n + (room - 1)) / room
unfolding part_count
rounded-up zero n h = absurd (omega arith)
rounded-up (suc less) n h = let e : suc less - 1 ≡ less = omega arith in rw e

-- no more parts than bytes and rooms
pub count-bound : (room n : ℕ) → part_count room n ≤ n + (room - 1)
unfolding part_count
count-bound zero n = omega arith
count-bound (suc less) n = omega (arith, div-le_self (n + less) (suc less))

module _ (room : ℕ) (some : 1 ≤ room) where
  pub count_none : part_count room 0 ≡ 0
  count_none = rounded-up room 0 some ∙ div-eq_of_lt {n = 0 + (room - 1)} {m = room} (omega arith)

  pub count-one : (n : ℕ) → 1 ≤ n → n ≤ room → part_count room n ≡ 1
  count-one n h f = rounded-up room n some ∙ div-eq_of_lt-le {k = 1} room {m = n + (room - 1)} (omega arith) (omega arith)

  pub count-more : (n : ℕ) → room ≤ n → part_count room n ≡ part_count room (n - room) + 1
  count-more n h =
      let e : n + (room - 1) ≡ n - room + (room - 1) + room = omega arith in
      rw (rounded-up room n some, rounded-up room (n - room) some, e) (add-div_right (n - room + (room - 1)) {k = room} (omega arith))

  -- as many turns as bytes are enough
  enough : (turns more number : ℕ) (p : List ℕ) → 1 ≤ length p → length p ≤ turns → length p ≤ more
      → cut_from turns number room p ≡ cut_from more number room p
  unfolding cut_from
  enough zero more number p l h g = absurd (omega arith)
  enough (suc turns) zero number p l h g = absurd (omega arith)
  enough (suc turns) (suc more) number p l h g =
      split (length p) room
      (λ f. rw (le-leb (length p) room f))
      (λ f. rw (lt-leb (length p) room f)
      (ap (λ (q : List ℕ). part_bytes number false (take room p) ++ q)
      (enough turns more (number + 1) (drop room p) (omega (arith, length-drop room p)) (omega (arith, length-drop room p)) (omega (arith, length-drop room p)))))

  -- the last packet
  pub cut-last : (turns number : ℕ) (p : List ℕ) → 1 ≤ length p → length p ≤ turns → length p ≤ room
      → cut_from turns number room p ≡ part_bytes number true p
  unfolding cut_from
  cut-last zero number p l h f = absurd (omega arith)
  cut-last (suc turns) number p l h f = rw (le-leb (length p) room f)

  -- a packet that is not the last
  pub cut-more : (turns number : ℕ) (p : List ℕ) → length p ≤ turns → room < length p
      → cut_from turns number room p ≡ part_bytes number false (take room p) ++ cut_from (length p - room) (number + 1) room (drop room p)
  unfolding cut_from
  cut-more zero number p h f = absurd (omega arith)
  cut-more (suc turns) number p h f =
      rw (lt-leb (length p) room f)
      (ap (λ (q : List ℕ). part_bytes number false (take room p) ++ q)
      (enough turns (length p - room) (number + 1) (drop room p) (omega (arith, length-drop room p)) (omega (arith, length-drop room p)) (omega (arith, length-drop room p))))

  -- either: a packet and those after it
  pub cut-turn : (number n len : ℕ) (p : List ℕ) → length p ≡ n → 1 ≤ n → len ≡ min n room
      → cut_from n number room p ≡ part_bytes number (leb n room) (take len p) ++ cut_from (n - len) (number + 1) room (drop len p)
  unfolding cut_from
  cut-turn number n len p e l m =
      split n room
      (λ f. let z : n - len ≡ 0 = omega arith in
      rw (z, le-leb n room f, take_all len p (omega arith), append-nil (part_bytes number true p))
      (cut-last n number p (omega arith) (omega arith) (omega arith)))
      (λ f. let r : len ≡ room = omega arith in
      rw (r, lt-leb n room f, ← e) (cut-more (length p) number p (omega arith) (omega arith)))

  length_cut : (turns number : ℕ) (p : List ℕ) → 1 ≤ length p → length p ≤ turns
      → length (cut_from turns number room p) ≡ length p + part_count room (length p) * 8
  unfolding cut_from
  length_cut zero number p l h = absurd (omega arith)
  length_cut (suc turns) number p l h =
      split (length p) room
      (λ f. rw (le-leb (length p) room f) (omega (arith, length_part number true p, count-one (length p) l f)))
      (λ f. let t : length (take room p) ≡ room = length-take-le room p (omega arith) in
      let d : length (drop room p) ≡ length p - room = length-drop room p in
      let r = rw d at (length_cut turns (number + 1) (drop room p) (omega arith) (omega arith)) in
      rw (lt-leb (length p) room f)
      (length-append (part_bytes number false (take room p)) (cut_from turns (number + 1) room (drop room p))
      ∙ omega (arith, length_part number false (take room p), count-more (length p) (omega arith))))

-- the length of the packets of a payload at a size
pub length-packets : LengthInPackets
unfolding packets_of packets_length packet_count cut_from
length-packets size p h =
    split 1 (length p)
    (λ l. length_cut (size - 8) (omega arith) (length p) 1 p l (omega arith))
    (λ l. let z : length p ≡ 0 = omega arith in rw (z, count_none (size - 8) (omega arith)))

-- a rough bound: nine bytes for each byte of the payload, and eight for each of a packet
pub length-bound : (size n : ℕ) → packets_length size n ≤ n + (n + size) * 8
unfolding packets_length packet_count
length-bound size n = omega (arith, count-bound (size - 8) n)

-- at the borders: a packet's payload, one byte more, and the longest payload at the least and at the most size
bordering : (packets_length 512 504 ≡ 512) × (packets_length 512 505 ≡ 521) × (packets_length 512 65527 ≡ 66575) × (packets_length 32767 65527 ≡ 65551)
unfolding packets_length packet_count part_count
bordering = (refl, refl, refl, refl)
