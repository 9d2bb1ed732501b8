-- The loops that measure and copy the payload of a reply's packets: one turn, and their ends. Assumes nothing.
use mathlib.Core.Path.{◌≡◌, refl, sym, ap, ◌∙◌}
use mathlib.Core.List.{List, ◌++◌}
use mathlib.Core.Bool.{Bool, true}
use Prim.Native.Nat.{ℕ, suc, ◌+◌, ◌-◌, ◌≤◌, ◌<◌}
use native.Mathlib.Omega.{arith}
use lib.Dec.{ltb}
use borrow.Author.Tests.{ltb-false, le-ltb}
use Rattle.wire.proofs.Cases.{by-test}
use lib.ListN.{length, length-append}
use Rattle.wire.specs.Over.{overwrite}
use Rattle.wire.proofs.Over.{over-cat, length_over}
use Rattle.payload.specs.declared.frames.Frame.{Frame}
use Rattle.std.specs.Prelude.{Result, Ok, Err}
use Rattle.payload.specs.Packets.{Packets, packet, stop, Stop, bad, broken, over, packets_in, payload_of, stop_of}
use Rattle.payload.specs.declared.frames.Stop as code
use Rattle.payload.specs.Stopped.{stop_by, stopped}
use Rattle.payload.specs.Frames.{lies, beyond, first_of, moved_of}
use Rattle.payload.specs.Join.{joined_by, joined_of, joined_buffer}
use Rattle.packet.specs.Cut.{packets_of}
use Rattle.payload.proofs.Onto.{here, lying, Onto, First, first-is, none-is, onto-by, end-by}
use Rattle.payload.proofs.Joined.{joined}

-- ---- measuring

-- the packets up to a frame's are measured
pub record Measuring (l : List ℕ) (f : Frame) : Type 0 where
  pub lies : lies l f ≡ true
  pub size : length (payload_of (packets_in l)) ≡ f.end + length (payload_of (beyond l f))
  pub stops : stop_of (packets_in l) ≡ stop_of (beyond l f)

-- a packet and those after it
one_more : {ps qs : Packets} {p : List ℕ} {last : Bool} → ps ≡ packet p last qs
    → (length (payload_of ps) ≡ length p + length (payload_of qs)) × (stop_of ps ≡ stop_of qs)
unfolding payload_of stop_of
one_more {qs = qs} {p = p} e = (ap (λ (x : Packets). length (payload_of x)) e ∙ length-append p (payload_of qs), ap stop_of e)

module _ {l : List ℕ} {f : Frame} where
  measure-first : First l f → Measuring l f
  measure-first o =
      let m = one_more o.is in
      record { lies = o.lies; size = omega (arith, m.0, o.size, o.base); stops = m.1 }

  module _ (m : Measuring l f) where
    measure-on : {g : Frame} → Onto l f g → Measuring l g
    measure-on o =
        let n = one_more o.is in
        record { lies = o.lies; size = omega (arith, m.size, n.0, o.size, o.base, o.some); stops = m.stops ∙ n.1 }

    -- what stands after the last packet is what stops them
    measure-stop : {s : Stop} → beyond l f ≡ stop s → (stop_of (packets_in l) ≡ s) × (length (payload_of (packets_in l)) ≡ f.end)
    unfolding payload_of stop_of
    measure-stop e = (m.stops ∙ ap stop_of e, m.size ∙ ap (λ (ps : Packets). f.end + length (payload_of ps)) e ∙ omega arith)

-- no packet begins the lent bytes
measure-none : (l : List ℕ) {s : Stop} → packets_in l ≡ stop s → (stop_of (packets_in l) ≡ s) × (length (payload_of (packets_in l)) ≡ 0)
unfolding payload_of stop_of
measure-none l e = (ap stop_of e, ap (λ (ps : Packets). length (payload_of ps)) e)

-- the packets before one are measured, the last of them ends at a place; or all are, and it is what stops them
abbrev pub MeasuringTo : (l : List ℕ) (end : ℕ) → Result Frame code.Stop → Type 0
MeasuringTo l end (Ok f) = Measuring l f
MeasuringTo l end (Err s) = (stop_of (packets_in l) ≡ stop_by s) × (length (payload_of (packets_in l)) ≡ end)

-- how many bytes are left to walk over
abbrev pub left_after : List ℕ → Result Frame code.Stop → ℕ
left_after l (Ok f) = suc (length l - f.end)
left_after l (Err s) = 0

pub measuring-begins : (l : List ℕ) (r : Result Frame code.Stop) → stopped r ≡ first_of l → MeasuringTo l 0 r
measuring-begins l (Ok f) q = measure-first (first-is l q refl)
measuring-begins l (Err s) q = measure-none l (none-is l q refl)

pub measuring-on : {l : List ℕ} {f : Frame} (r : Result Frame code.Stop) → Measuring l f → stopped r ≡ moved_of l f → MeasuringTo l f.end r
measuring-on {l} {f} (Ok g) m q = measure-on m (onto-by l f m.lies q refl)
measuring-on {l} {f} (Err s) m q = measure-stop m (end-by l f m.lies q refl)

-- each packet ends after the one before it
pub left-falls : (l : List ℕ) (f : Frame) (r : Result Frame code.Stop) → lies l f ≡ true → stopped r ≡ moved_of l f → left_after l r < left_after l (Ok f)
left-falls l f (Ok g) e q = let o = onto-by l f e q refl in omega (arith, o.some, lying l g o.lies)
left-falls l f (Err s) e q = omega arith

-- the answer by what stops them
pub answered : (l : List ℕ) (room : ℕ) {s : Stop} {n : ℕ} {r : Result ℕ ℕ} → r ≡ joined_by s n room
    → (stop_of (packets_in l) ≡ s) × (length (payload_of (packets_in l)) ≡ n) → r ≡ joined_of l room
unfolding joined_of
answered l room q m = rw (m.0, m.1) q

-- ---- copying

-- the payloads before a frame are copied: whoever copies those from it on has copied the whole
pub record Copying (l old buf : List ℕ) (f : Frame) : Type 0 where
  pub lies : lies l f ≡ true
  pub some : f.base ≤ f.end
  pub ends : f.base + length (here l f) ≡ f.end
  pub long : length buf ≡ length old
  pub is : overwrite old 0 (payload_of (packets_in l)) ≡ overwrite buf f.base (here l f ++ payload_of (beyond l f))

copied-by : {ps qs : Packets} {p : List ℕ} {last : Bool} {at to : ℕ} (buf : List ℕ) → ps ≡ packet p last qs → at ≡ to
    → overwrite buf to (payload_of ps) ≡ overwrite buf at (p ++ payload_of qs)
unfolding payload_of
copied-by buf e q = rw (e, q)

module _ {l : List ℕ} {f : Frame} where
  copy-first : (buf : List ℕ) → First l f → Copying l buf buf f
  copy-first buf o = let b = o.base in let s = o.some in record {
    lies = o.lies;
    some = omega arith;
    ends = omega (arith, o.size);
    long = refl;
    is = copied-by buf o.is b;
  }

  module _ {old buf : List ℕ} (c : Copying l old buf f) {new : List ℕ} (w : new ≡ overwrite buf f.base (here l f)) where
    -- the frame's own is copied too
    copied : overwrite old 0 (payload_of (packets_in l)) ≡ overwrite new f.end (payload_of (beyond l f))
    copied = c.is ∙ sym (over-cat (here l f) (payload_of (beyond l f)) buf f.base) ∙ rw (c.ends, w)

    pub copy-long : length new ≡ length old
    copy-long = ap length w ∙ length_over (here l f) buf f.base ∙ c.long

    copy-on : {g : Frame} → Onto l f g → Copying l old new g
    copy-on o = let b = o.base in let s = o.some in record {
      lies = o.lies;
      some = omega arith;
      ends = omega (arith, o.size);
      long = copy-long;
      is = copied ∙ copied-by new o.is b;
    }

    copy-stop : {s : Stop} → beyond l f ≡ stop s → new ≡ overwrite old 0 (payload_of (packets_in l))
    unfolding payload_of overwrite
    copy-stop e = sym (copied ∙ ap (λ (ps : Packets). overwrite new f.end (payload_of ps)) e)

-- there is nothing to copy
copy-none : (l : List ℕ) {s : Stop} (buf : List ℕ) → packets_in l ≡ stop s → buf ≡ overwrite buf 0 (payload_of (packets_in l))
unfolding payload_of overwrite
copy-none l buf e = sym (ap (λ (ps : Packets). overwrite buf 0 (payload_of ps)) e)

-- the packets before one are copied; or all are
abbrev pub CopyingTo : (l old buf : List ℕ) → Result Frame code.Stop → Type 0
CopyingTo l old buf (Ok f) = Copying l old buf f
CopyingTo l old buf (Err s) = buf ≡ overwrite old 0 (payload_of (packets_in l))

pub copying-begins : (l buf : List ℕ) (r : Result Frame code.Stop) → stopped r ≡ first_of l → CopyingTo l buf buf r
copying-begins l buf (Ok f) q = copy-first buf (first-is l q refl)
copying-begins l buf (Err s) q = copy-none l buf (none-is l q refl)

pub copying-on : {l old buf new : List ℕ} {f : Frame} (r : Result Frame code.Stop) → Copying l old buf f → new ≡ overwrite buf f.base (here l f)
    → stopped r ≡ moved_of l f → CopyingTo l old new r
copying-on {l} {f = f} (Ok g) c w q = copy-on c w (onto-by l f c.lies q refl)
copying-on {l} {f = f} (Err s) c w q = copy-stop c w (end-by l f c.lies q refl)

-- ---- the buffer

module _ (l buf : List ℕ) where
  pub left : {n : ℕ} → Err n ≡ joined_of l (length buf) → buf ≡ joined_buffer l buf
  unfolding joined_buffer
  left q = rw (sym q)

  pub filled : {n : ℕ} {new : List ℕ} → Ok n ≡ joined_of l (length buf) → new ≡ overwrite buf 0 (payload_of (packets_in l)) → new ≡ joined_buffer l buf
  unfolding joined_buffer
  filled q w = rw (sym q) w

-- no more is written than the bytes that are lent
abbrev Within : ℕ → Result ℕ ℕ → Type 0
Within room (Ok n) = n ≤ room
Within room (Err r) = room ≡ room

within_by : (s : Stop) (n room : ℕ) → Within room (joined_by s n room)
within_by over n room = by-test (ltb room n) (λ t. rw t refl) (λ t. rw t (ltb-false room n t))
within_by broken n room = refl
within_by (bad r) n room = refl

within-joined : (l : List ℕ) (room : ℕ) {j : Result ℕ ℕ} → j ≡ joined_of l room → Within room j
unfolding joined_of
within-joined l room e = rw e (within_by (stop_of (packets_in l)) (length (payload_of (packets_in l))) room)

pub within : (l : List ℕ) (room : ℕ) {n : ℕ} → Ok n ≡ joined_of l room → n ≤ room
within l room e = within-joined l room e

-- ---- a payload that was cut is joined again, whatever the size

pub join-cut : (size : ℕ) (p buf : List ℕ) → 9 ≤ size → size < 65536 → 1 ≤ length p → length p ≤ length buf
    → (joined_of (packets_of size p) (length buf) ≡ Ok (length p)) × (joined_buffer (packets_of size p) buf ≡ overwrite buf 0 p)
unfolding joined_buffer
join-cut size p buf some short h room =
    let w = joined size p some short h in
    let a : Ok (length p) ≡ joined_of (packets_of size p) (length buf) =
    answered (packets_of size p) (length buf) (simp (le-ltb (length buf) (length p) room)) (w.ends, ap length w.payload) in
    (sym a, rw (sym a, w.payload))
