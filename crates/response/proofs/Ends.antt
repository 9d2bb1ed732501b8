-- How builders end: one law for each way, over the fault, the size that was worked out, the bytes and the lent buffer.
-- A size may be cut off at 65,536: it refuses all the same. Assumes nothing.
use Prim.Native.Nat.{ℕ, zero, suc, ◌+◌, ◌≤◌, ◌<◌, min}
use mathlib.Core.Path.{◌≡◌, refl, sym, ap, ◌∙◌}
use mathlib.Core.Bool.{cond}
use Rattle.std.specs.Prelude.{Result, Ok, Err}
use mathlib.Core.List.{List}
use native.Mathlib.Omega.{arith}
use lib.ListN.{length}
use lib.Dec.{eqb}
use borrow.Author.Tests.{ne_eqb, lt-ltb, le-ltb}
use Rattle.refusals.specs.declared.Refusal.{Refusal}
use Rattle.refusals.specs.Refused.{number, numbered}
use Rattle.refusals.proofs.Numbers.{number-not-0}
use Rattle.std.specs.Result.{IsErrAnd}
use Rattle.wire.proofs.Cases.{split}
use Rattle.wire.specs.Over.{Wrote}
use Rattle.wire.proofs.Over.{then}
use Rattle.packet.specs.Reply.{reply_header, packet_of}
use Rattle.packet.proofs.Sizes.{length-packet}
use Rattle.response.proofs.Firsts.{handed-on}
use Rattle.response.specs.Answer.{Reply, reply, first_of, refusal_of, built_of, buffer_of}

-- two sizes that count the same: equal, or both over 65,535
abbrev pub Same : ℕ → ℕ → Type 0
Same m n = min m 65536 ≡ min n 65536

-- a builder's two promises: its answer r and what it left in the buffer
abbrev pub Ended : Reply → List ℕ → List ℕ → Result ℕ Refusal → Type 0
Ended p buf left r = (numbered r ≡ built_of p buf) × (left ≡ buffer_of p buf)

-- sizes that count the same are refused alike
same-refusal : (m n room : ℕ) → Same m n → refusal_of 0 m room ≡ refusal_of 0 n room
unfolding refusal_of first_of
same-refusal m n room e =
    split m 65535
    (λ h. let q : m ≡ n = omega (arith, e) in rw q)
    (λ h. let g : 65535 < n = omega (arith, e) in simp (lt-ltb _ _ h, lt-ltb _ _ g))

-- with no refusal a size is not too large for a packet, nor for the buffer
none : (size room : ℕ) → 0 ≡ refusal_of 0 size room → (size ≤ 65535) × (size ≤ room)
unfolding refusal_of first_of
none size room e =
    split size 65535
    (λ g. split size room (λ h. (g, h)) (λ h. absurd (omega (arith, simp (le-ltb _ _ g, lt-ltb _ _ h) at e))))
    (λ g. absurd (omega (arith, simp (lt-ltb _ _ g) at e)))

pub within : (size room : ℕ) → 0 ≡ refusal_of 0 size room → size ≤ 65535
within size room e = (none size room e).0

-- a fault of the arguments, before the size counts
pub faulted : {fault : ℕ} (bytes buf : List ℕ) (e : Refusal) (r : Result ℕ Refusal) → IsErrAnd r (λ y. y ≡ e) → number e ≡ fault → Ended (reply fault bytes) buf buf r
unfolding built_of buffer_of refusal_of first_of
faulted bytes buf e r from of = rw (handed-on e r from, ← of) (simp (ne_eqb _ _ (number-not-0 e)) (refl, refl))

module _ {fault : ℕ} (size : ℕ) (bytes buf : List ℕ) (of : 0 ≡ fault) (same : Same size (length bytes)) where
  is : {n : ℕ} → n ≡ refusal_of 0 size (length buf) → n ≡ refusal_of fault (length bytes) (length buf)
  is found = found ∙ same-refusal size (length bytes) (length buf) same ∙ ap (λ (f : ℕ). refusal_of f (length bytes) (length buf)) of

  pub refused : (e : Refusal) (r : Result ℕ Refusal) → IsErrAnd r (λ y. y ≡ e) → number e ≡ refusal_of 0 size (length buf) → Ended (reply fault bytes) buf buf r
  unfolding built_of buffer_of
  refused e r from found = rw (handed-on e r from, ← is found) (simp (ne_eqb _ _ (number-not-0 e)) (refl, refl))

  pub wrote : {left : List ℕ} {to : ℕ} → 0 ≡ refusal_of 0 size (length buf) → Wrote buf 0 bytes left to → Ended (reply fault bytes) buf left (Ok to)
  unfolding built_of buffer_of
  wrote found w = rw (← is found) (ap Ok (omega (arith, w.1.place, none size (length buf) found, same)), w.0)

-- a packet: its header, and its payload after it
module _ {fault : ℕ} (size : ℕ) (payload buf : List ℕ) (of : 0 ≡ fault) (same : Same size (8 + length payload)) where
  whole : Same size (length (packet_of payload))
  whole = rw (length-packet payload) same

  pub unsent : (e : Refusal) (r : Result ℕ Refusal) → IsErrAnd r (λ y. y ≡ e) → number e ≡ refusal_of 0 size (length buf) → Ended (reply fault (packet_of payload)) buf buf r
  unsent e r from found = refused size (packet_of payload) buf of whole e r from found

  pub sent : {m left : List ℕ} {a to : ℕ} → 0 ≡ refusal_of 0 size (length buf) → Wrote buf 0 (reply_header size) m a → Wrote m a payload left to → Ended (reply fault (packet_of payload)) buf left (Ok to)
  unfolding packet_of
  sent found w v =
      let exact : size ≡ 8 + length payload = omega (arith, within size (length buf) found, same) in
      wrote size (packet_of payload) buf of whole found (then (rw exact at w) v)

-- what is written is no longer than a packet
small_of : (r size n : ℕ) → (r ≡ 0 → size ≤ 65535) → cond (eqb r 0) (Ok size) (Err r) ≡ Ok n → n ≤ 65535
small_of zero size n f e = let q : size ≡ n = cc in omega (arith, f refl)
small_of (suc r) size n f e = let w = simp (ne_eqb (suc r) 0 (λ q. omega arith)) at e in let z : ◌≡◌ {A = ℕ} 0 1 = cc in absurd (omega arith)

-- a refusal's number is 0 where neither the fault nor the size refuses
short : (fault size room : ℕ) → refusal_of fault size room ≡ 0 → size ≤ 65535
unfolding refusal_of first_of
short zero size room e = (none size room (sym e)).0
short (suc fault) size room e = absurd (omega (arith, simp (ne_eqb (suc fault) 0 (λ q. omega arith)) at e))

pub small : (p : Reply) (buf : List ℕ) (n : ℕ) → built_of p buf ≡ Ok n → n ≤ 65535
unfolding built_of
small (reply fault bytes) buf n e = small_of (refusal_of fault (length bytes) (length buf)) (length bytes) n (short fault (length bytes) (length buf)) e
