-- A payload that was cut into packets is joined again, whatever the size. Assumes nothing.
use mathlib.Core.Path.{◌≡◌, refl, sym, ap, ◌∙◌}
use mathlib.Core.Bool.{Bool, true, false, cond}
use mathlib.Core.List.{List, [], ◌∷◌, ◌++◌, append_assoc, append-nil}
use Prim.Native.Nat.{ℕ, zero, suc, ◌+◌, ◌-◌, ◌≤◌, ◌<◌}
use native.Mathlib.Omega.{arith}
use lib.ListN.{length, take, drop, length-append, length-drop, take-append-drop}
use lib.Seq.{take_at, drop_at, drop-drop, length-take-le}
use borrow.Author.Tests.{le-leb, lt-leb}
use Rattle.wire.proofs.Cases.{split}
use Rattle.wire.specs.Le.{le}
use Rattle.wire.specs.Be.{be}
use Rattle.packet.specs.declared.PacketHeader.{PacketHeader}
use Rattle.packet.specs.Status.{has_bit}
use Rattle.packet.specs.Header.{parsed_of, header_bytes}
use Rattle.packet.specs.Reply.{reply_header, packet_of}
use Rattle.packet.proofs.Back.{header-back}
use Rattle.packet.proofs.Sizes.{reply-header}
use Rattle.std.specs.Prelude.{Ok}
use Rattle.packet.specs.Cut.{part_header, part_bytes, cut_from, packets_of}
use Rattle.payload.specs.Packets.{Packets, packet, stop, over, is_part, next_of, packets_from, packets_in, payload_of, stop_of}
use Rattle.payload.proofs.Walk.{is-headed, is-packet, turn}

status-is : (last : Bool) → has_bit 0x01 (cond last 0x01 0x00) ≡ last
unfolding has_bit
status-is true = refl
status-is false = refl

status< : (last : Bool) → cond last 0x01 0x00 < 256
status< true = omega arith
status< false = omega arith

-- a packet that was written is the next one
module _ (number : ℕ) (last : Bool) (p rest : List ℕ) where
  abbrev h : PacketHeader
  h = part_header number last (length p)

  abbrev whole : List ℕ
  whole = header_bytes h ++ (p ++ rest)

  eight : drop 8 whole ≡ p ++ rest
  unfolding header_bytes le be
  eight = refl

  long : length whole ≡ 8 + length p + length rest
  unfolding header_bytes le be
  long = omega (arith, length-append p rest)

  is-part : 1 ≤ length p → is_part h (length whole) ≡ true
  unfolding is_part
  is-part some = let n = long in rw (le-leb 9 (8 + length p) (omega arith), le-leb (8 + length p) (length whole) (omega arith))

  is-next : 1 ≤ length p → 8 + length p < 65536 → next_of number false whole ≡ Ok (record { len = length p; last = last })
  is-next some short =
      let e : parsed_of whole ≡ Ok h = header-back h (p ++ rest) (status< last) short (omega arith) (omega arith) (omega arith) in
      let m : 8 + length p - 8 ≡ length p = omega arith in
      let n = long in
      is-headed whole 0 number (omega arith) refl ∙ is-packet number (length whole) e (is-part some) refl ∙ rw (m, status-is last)

  same : part_bytes number last p ++ rest ≡ whole
  unfolding part_bytes
  same = append_assoc (header_bytes h) p rest

  one : 1 ≤ length p → 8 + length p < 65536
      → packets_from 0 number false (part_bytes number last p ++ rest) ≡ packet p last (packets_from 0 (number + 1) last rest)
  one some short =
      let d : drop (8 + length p) whole ≡ rest = sym (drop-drop (length p) 8 whole) ∙ ap (drop (length p)) eight ∙ drop_at p rest (length p) refl in
      let t : take (length p) (drop 8 whole) ≡ p = ap (take (length p)) eight ∙ take_at p rest (length p) refl in
      ap (packets_from 0 number false) same ∙ turn number false whole (is-next some short)
      ∙ ap (λ (q : List ℕ). packet q last (packets_from 0 (number + 1) last (drop (8 + length p) whole))) t
      ∙ ap (λ (q : List ℕ). packet p last (packets_from 0 (number + 1) last q)) d

-- ---- all packets of a payload

-- packets whose payloads joined are p, the last with the end bit and nothing after it
pub record Whole (ps : Packets) (p : List ℕ) : Type 0 where
  pub payload : payload_of ps ≡ p
  pub ends : stop_of ps ≡ over

module _ (room : ℕ) (some : 1 ≤ room) (short : room + 8 < 65536) where
  joins : (turns number : ℕ) (p : List ℕ) → 1 ≤ length p → length p ≤ turns → Whole (packets_from 0 number false (cut_from turns number room p)) p
  unfolding cut_from payload_of stop_of packets_from
  joins zero number p l h = absurd (omega arith)
  joins (suc turns) number p l h =
      split (length p) room
      (λ f. let e : packets_from 0 number false (part_bytes number true p ++ []) ≡ packet p true (stop over) = one number true p [] l (omega arith) in
      rw (le-leb (length p) room f)
      (let d = rw append-nil at e in record { payload = ap payload_of d ∙ append-nil p; ends = ap stop_of d }))
      (λ f. let cut = cut_from turns (number + 1) room (drop room p) in
      let t : length (take room p) ≡ room = length-take-le room p (omega arith) in
      let r = joins turns (number + 1) (drop room p) (omega (arith, length-drop room p)) (omega (arith, length-drop room p)) in
      let e = one number false (take room p) cut (omega (arith, t)) (omega (arith, t)) in
      rw (lt-leb (length p) room f)
      (record { payload = ap payload_of e ∙ ap (λ (q : List ℕ). take room p ++ q) r.payload ∙ take-append-drop room p; ends = ap stop_of e ∙ r.ends }))

whole_in : (l p : List ℕ) → 1 ≤ length p → Whole (packets_from 0 1 false l) p → Whole (packets_in l) p
unfolding packets_in packets_from payload_of
whole_in [] p h w = absurd (omega (arith, ap length w.payload))
whole_in (b ∷ l) p h w = w

pub joined : (size : ℕ) (p : List ℕ) → 9 ≤ size → size < 65536 → 1 ≤ length p → Whole (packets_in (packets_of size p)) p
unfolding packets_of
joined size p some short h = whole_in (packets_of size p) p h (joins (size - 8) (omega arith) (omega arith) (length p) 1 p h (omega arith))

-- one packet is a case of it
pub one-packet : (p : List ℕ) → 1 ≤ length p → packet_of p ≡ packets_of (8 + length p) p
unfolding packet_of packets_of cut_from part_bytes
one-packet p h = go (length p) refl
  where
    go : (n : ℕ) → n ≡ length p → reply_header (8 + length p) ++ p ≡ cut_from n 1 (8 + length p - 8) p
    go zero e = absurd (omega arith)
    go (suc n) e =
        let a : 8 + length p - 8 ≡ length p = omega arith in
        rw (a, le-leb (length p) (length p) (omega arith)) (ap (λ (x : List ℕ). x ++ p) (sym (reply-header (8 + length p))))
