-- What stands where a packet may begin, and the packets from there on: what every loop over packets uses. Assumes nothing.
use mathlib.Core.Path.{◌≡◌, refl, sym, ap, ◌∙◌}
use mathlib.Core.List.{List, [], ◌∷◌}
use mathlib.Core.Bool.{Bool, true, false, cond, ◌&&◌}
use Prim.Native.Nat.{ℕ, zero, suc, ◌+◌, ◌-◌, ◌≤◌, ◌<◌, ◌%◌}
use native.Mathlib.Omega.{arith}
use lib.Dec.{eqb, leb, ltb}
use lib.ListN.{length, take, drop, drop_of_length-le}
use lib.Seq.{drop-cons}
use borrow.Author.Tests.{leb-true, eqb-true, le-leb, le-ltb, ltb-false, eq-eqb}
use Rattle.wire.proofs.Cases.{clash}
use Rattle.wire.proofs.Parts.{rest-is}
use Rattle.wire.specs.Le.{le_at}
use Rattle.wire.specs.Be.{be_at}
use Rattle.refusals.specs.declared.Refusal.{Refusal}
use Rattle.refusals.specs.Refused.{number, numbered}
use Rattle.packet.specs.declared.PacketHeader.{PacketHeader}
use Rattle.packet.specs.declared.PacketType.{PacketType}
use Rattle.std.specs.Prelude.{Option, Some, None, Result, Ok, Err}
use Rattle.packet.specs.Types.{byte_of, types, type_in, type_of}
use Rattle.packet.specs.Status.{has_bit}
use Rattle.packet.specs.Header.{header_for, parsed_of}
use Rattle.payload.specs.declared.frames.Next.{Next}
use Rattle.payload.specs.Packets.{packet, stop, Stop, bad, broken, over, is_part, headed, next_of, packets_from, packets_in}
use Rattle.payload.specs.Frames.{is_next, next_length, fault_in, fault_of}
use Rattle.payload.proofs.CodeReads.{and-true}

-- a packet that passes has a payload byte or more, and its bytes are lent
is-part : (h : PacketHeader) (n : ℕ) → is_part h n ≡ true → (9 ≤ h.length) × (h.length ≤ n)
unfolding is_part
is-part h n e =
    let a = and-true (eqb (byte_of h.packet_type) 0x04 && leb 9 h.length) (leb h.length n) e in
    let b = and-true (eqb (byte_of h.packet_type) 0x04) (leb 9 h.length) a.0 in
    (leb-true 9 h.length b.1, leb-true h.length n a.1)

-- by its tests
tested : (t u : Bool) (p q : Next) → cond t (cond u (Ok p) (Err (bad 33))) (Err (bad 23)) ≡ Ok q → (t ≡ true) × (p ≡ q)
tested true true p q e = (refl, cc)
tested true false p q e = clash (cc)
tested false u p q e = clash (cc)

of-header : (p : Result PacketHeader ℕ) (number len : ℕ) (q : Next) → headed p number len ≡ Ok q → (1 ≤ q.len) × (8 + q.len ≤ len)
unfolding headed
of-header (Err r) number len q e = clash (cc)
of-header (Ok h) number len q e =
    let t = tested (is_part h len) (eqb h.packet_id (number % 256)) (record { len = h.length - 8; last = has_bit 0x01 h.status.0 }) q e in
    let z = ap (λ (x : Next). x.len) t.1 in
    let l = is-part h len t.0 in
    (omega arith, omega arith)

-- ---- from what stands there to the packets

-- the bytes passed over
skip : (rest number : ℕ) (ended : Bool) (l : List ℕ) → packets_from rest number ended l ≡ packets_from 0 number ended (drop rest l)
unfolding packets_from
skip zero number ended l = refl
skip (suc n) number ended [] = refl
skip (suc n) number ended (b ∷ l) = skip n number ended l

module _ (number : ℕ) where
  pub fits : (ended : Bool) (l : List ℕ) {p : Next} → next_of number ended l ≡ Ok p → (1 ≤ p.len) × (8 + p.len ≤ length l)
  unfolding next_of
  fits ended [] e = clash (cc)
  fits true (b ∷ l) e = clash (cc)
  fits false (b ∷ l) e = of-header (parsed_of (b ∷ l)) number (length (b ∷ l)) _ e

  pub turn : (ended : Bool) (l : List ℕ) {p : Next} → next_of number ended l ≡ Ok p
      → packets_from 0 number ended l ≡ packet (take p.len (drop 8 l)) p.last (packets_from 0 (number + 1) p.last (drop (8 + p.len) l))
  unfolding next_of packets_from
  turn ended [] e = clash (cc)
  turn true (b ∷ l) e = clash (cc)
  turn false (b ∷ l) {p} e =
      let m : 8 + p.len ≡ suc (p.len + 7) = omega arith in
      rw (e, m, skip (p.len + 7) (number + 1) p.last l)

  pub stops : (ended : Bool) (l : List ℕ) {s : Stop} → next_of number ended l ≡ Err s → packets_from 0 number ended l ≡ stop s
  unfolding next_of packets_from
  stops ended [] e = let z : cond ended over broken ≡ _ = cc in ap stop z
  stops true (b ∷ l) e = let z : broken ≡ _ = cc in ap stop z
  stops false (b ∷ l) e = rw e

-- ---- the first packet

pub begins : (l : List ℕ) → 0 < length l → packets_in l ≡ packets_from 0 1 false l
unfolding packets_in
begins [] h = absurd (omega arith)
begins (b ∷ l) h = refl

pub none_lent : (l : List ℕ) → length l ≡ 0 → packets_in l ≡ stop (bad 8)
unfolding packets_in
none_lent [] h = refl
none_lent (b ∷ l) h = absurd (omega arith)

-- ---- what stands at an index, by tests

module _ (l : List ℕ) (at number : ℕ) {ended : Bool} where
  pub is-over : length l ≤ at → ended ≡ true → next_of number ended (drop at l) ≡ Err over
  unfolding next_of
  is-over h e = rw (drop_of_length-le l h, e)

  pub is-short : length l ≤ at → ended ≡ false → next_of number ended (drop at l) ≡ Err broken
  unfolding next_of
  is-short h e = rw (drop_of_length-le l h, e)

  pub is-more : at < length l → ended ≡ true → next_of number ended (drop at l) ≡ Err broken
  unfolding next_of
  is-more h e = rw (drop-cons l at 0 h, e)

  pub is-headed : at < length l → ended ≡ false → next_of number ended (drop at l) ≡ headed (parsed_of (drop at l)) number (length (drop at l))
  unfolding next_of
  is-headed h e = rw (drop-cons l at 0 h, e)

-- ---- a header by its bytes

one_type : (t : PacketType) (ts : List PacketType) (b : ℕ) (test : Bool) → eqb b (byte_of t) ≡ test → {u : PacketType} → (type_in ts b ≡ Some u → b ≡ byte_of u)
    → cond test (Some t) (type_in ts b) ≡ Some u → b ≡ byte_of u
one_type t ts b true q {u} later f = let z : t ≡ u = cc in eqb-true b (byte_of t) q ∙ ap byte_of z
one_type t ts b false q later f = later f

type-is : (ts : List PacketType) (b : ℕ) {t : PacketType} → type_in ts b ≡ Some t → b ≡ byte_of t
unfolding type_in
type-is [] b e = clash (cc)
type-is (t ∷ ts) b e = one_type t ts b (eqb b (byte_of t)) refl (type-is ts b) e

-- what the fields of a header that was read are
record Fields (s : List ℕ) (h : PacketHeader) : Type 0 where
  long : 8 ≤ length s
  type : byte_of h.packet_type ≡ le_at 1 s
  size : h.length ≡ be_at 2 (drop 2 s)
  id : h.packet_id ≡ le_at 1 (drop 6 s)

fields-by : (s : List ℕ) (short : Bool) (k : Option PacketType) {h : PacketHeader} → ltb (length s) 8 ≡ short → type_of (le_at 1 s) ≡ k
    → cond short (Err 8) (header_for k s) ≡ Ok h → Fields s h
unfolding type_of
fields-by s true k q e f = clash (cc)
fields-by s false None q e f = clash (cc)
fields-by s false (Some t) {h} q e f =
    let z : record { packet_type = t; status = record { 0 = le_at 1 (drop 1 s) }; length = be_at 2 (drop 2 s); spid = be_at 2 (drop 4 s); packet_id = le_at 1 (drop 6 s); window = le_at 1 (drop 7 s) } ≡ h = cc in
    record {
      long = ltb-false (length s) 8 q;
      type = sym (ap (λ (x : PacketHeader). byte_of x.packet_type) z) ∙ sym (type-is types (le_at 1 s) e);
      size = sym (ap (λ (x : PacketHeader). x.length) z);
      id = sym (ap (λ (x : PacketHeader). x.packet_id) z);
    }

fields-of : (s : List ℕ) {h : PacketHeader} → parsed_of s ≡ Ok h → Fields s h
unfolding parsed_of
fields-of s e = fields-by s (ltb (length s) 8) (type_of (le_at 1 s)) refl refl e

-- the next packet's header
module _ (number : ℕ) (s : List ℕ) where
  abbrev size : ℕ
  size = be_at 2 (drop 2 s)

  record Passes : Type 0 where
    long : 8 ≤ length s
    type : le_at 1 s ≡ 0x04
    id : le_at 1 (drop 6 s) ≡ number % 256
    some : 9 ≤ size
    within : size ≤ length s

  passes : is_next number s ≡ true → Passes
  unfolding is_next
  passes e =
      let a = and-true (leb 8 (length s)) _ e in
      let b = and-true (eqb (le_at 1 s) 0x04 && eqb (le_at 1 (drop 6 s)) (number % 256) && leb 9 size) (leb size (length s)) a.1 in
      let d = and-true (eqb (le_at 1 s) 0x04 && eqb (le_at 1 (drop 6 s)) (number % 256)) (leb 9 size) b.0 in
      let f = and-true (eqb (le_at 1 s) 0x04) (eqb (le_at 1 (drop 6 s)) (number % 256)) d.0 in
      record {
        long = leb-true 8 (length s) a.0;
        type = eqb-true (le_at 1 s) 0x04 f.0;
        id = eqb-true (le_at 1 (drop 6 s)) (number % 256) f.1;
        some = leb-true 9 size d.1;
        within = leb-true size (length s) b.1;
      }

  pub is-next : is_next number s ≡ true → headed (parsed_of s) number (length s) ≡ Ok (record { len = size - 8; last = has_bit 0x01 (le_at 1 (drop 1 s)) })
  unfolding parsed_of type_of types type_in headed is_part
  is-next e =
      let p = passes e in
      rw (
        le-ltb (length s) 8 p.long,
        p.type,
        eq-eqb (le_at 1 (drop 6 s)) (number % 256) p.id,
        le-leb 9 size p.some,
        le-leb size (length s) p.within,
      )

  -- where it is not the next, the header is at fault
  next-by : {h : PacketHeader} → Fields s h → is_part h (length s) ≡ true → h.packet_id ≡ number % 256 → is_next number s ≡ true
  unfolding is_next is_part
  next-by {h} f t u =
      let a = and-true (eqb (byte_of h.packet_type) 0x04 && leb 9 h.length) (leb h.length (length s)) t in
      let b = and-true (eqb (byte_of h.packet_type) 0x04) (leb 9 h.length) a.0 in
      let x : eqb (le_at 1 s) 0x04 ≡ true = rw (sym f.type) b.0 in
      let y : leb 9 size ≡ true = rw (sym f.size) b.1 in
      let z : leb size (length s) ≡ true = rw (sym f.size) a.1 in
      rw (le-leb 8 (length s) f.long, x, eq-eqb (le_at 1 (drop 6 s)) (number % 256) (sym f.id ∙ u), y, z)

  fault-by : (p : Result PacketHeader ℕ) → parsed_of s ≡ p → is_next number s ≡ false → headed p number (length s) ≡ Err (bad (fault_in p (length s)))
  unfolding headed
  fault-by (Err r) e f = refl
  fault-by (Ok h) e f = go (is_part h (length s)) (eqb h.packet_id (number % 256)) refl refl
    where
      go : (t u : Bool) → is_part h (length s) ≡ t → eqb h.packet_id (number % 256) ≡ u
          → cond {A = Result Next Stop} t (cond u (Ok (record { len = h.length - 8; last = has_bit 0x01 h.status.0 })) (Err (bad 33))) (Err (bad 23)) ≡ Err (bad (cond t 33 23))
      go true true q v = let z = next-by (fields-of s e) q (eqb-true h.packet_id (number % 256) v) in clash (cc)
      go true false q v = refl
      go false u q v = refl

  pub is-fault : is_next number s ≡ false → headed (parsed_of s) number (length s) ≡ Err (bad (fault_of s))
  unfolding fault_of
  is-fault e = fault-by (parsed_of s) refl e

  -- by the length that was told
  none-by : (b : Bool) {o : Option ℕ} → is_next number s ≡ b → o ≡ cond b (Some size) None → o ≡ None → is_next number s ≡ false
  none-by true e q z = clash (cc)
  none-by false e q z = e

  some-by : (b : Bool) {o : Option ℕ} {n : ℕ} → is_next number s ≡ b → o ≡ cond b (Some size) None → o ≡ Some n → (is_next number s ≡ true) × (n ≡ size)
  some-by true e q z = (e, cc)
  some-by false e q z = clash (cc)

  told_none : {o : Option ℕ} → o ≡ next_length number s → o ≡ None → is_next number s ≡ false
  unfolding next_length
  told_none q z = none-by (is_next number s) refl q z

  told-some : {o : Option ℕ} {n : ℕ} → o ≡ next_length number s → o ≡ Some n → (is_next number s ≡ true) × (n ≡ size)
  unfolding next_length
  told-some q z = some-by (is_next number s) refl q z

  -- a packet's length is 9 or more
  pub next-size : {o : Option ℕ} {n : ℕ} → o ≡ next_length number s → o ≡ Some n → 9 ≤ n
  next-size q z = let t = told-some q z in omega (arith, (passes t.0).some, t.1)

-- the fault by what was read
module _ (s : List ℕ) {r : Result PacketHeader Refusal} (q : numbered r ≡ parsed_of s) where
  pub fault-none : {x : Refusal} → r ≡ Err x → number x ≡ fault_of s
  unfolding fault_of
  fault-none e = rw (sym q, e)

  pub fault-next : {h : PacketHeader} → r ≡ Ok h → is_part h (length s) ≡ true → 33 ≡ fault_of s
  unfolding fault_of
  fault-next e t = rw (sym q, e, t)

  pub fault-no-part : {h : PacketHeader} → r ≡ Ok h → is_part h (length s) ≡ false → 23 ≡ fault_of s
  unfolding fault_of
  fault-no-part e t = rw (sym q, e, t)

-- a header that passes, by its fields
pub is-packet : (number n : ℕ) {p : Result PacketHeader ℕ} {h : PacketHeader} → p ≡ Ok h → is_part h n ≡ true → h.packet_id ≡ number % 256
    → headed p number n ≡ Ok (record { len = h.length - 8; last = has_bit 0x01 h.status.0 })
unfolding headed
is-packet number n {h = h} e t u = rw (e, t, eq-eqb h.packet_id (number % 256) u)

-- ---- what stands at an index, where the bytes from there on were tested

module _ (l : List ℕ) (at number : ℕ) {ended : Bool} (h : at < length l) (e : ended ≡ false) where
  abbrev from : List ℕ
  from = take (length l - at) (drop at l)

  pub index-fault : {o : Option ℕ} {r : ℕ} → o ≡ next_length number from → o ≡ None → r ≡ fault_of from → Err (bad r) ≡ next_of number ended (drop at l)
  index-fault t k q = let z = rest-is l at in sym (is-headed l at number h e ∙ is-fault number (drop at l) (rw (sym z) (told_none number from t k)) ∙ rw (sym z, sym q))

  pub index-next : {o : Option ℕ} {n : ℕ} {last : Bool} → o ≡ next_length number from → o ≡ Some n → last ≡ has_bit 0x01 (le_at 1 (drop 1 from))
      → Ok (record { len = n - 8; last = last }) ≡ next_of number ended (drop at l)
  index-next t k b =
      let z = rest-is l at in
      let u = told-some number from t k in
      sym (is-headed l at number h e ∙ is-next number (drop at l) (rw (sym z) u.0) ∙ rw (sym z, sym u.1, sym b))
