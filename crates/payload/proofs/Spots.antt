-- A position's place in the payload: the walk to its packet, and that what is read there is the payload. Assumes nothing.
use mathlib.Core.Path.{◌≡◌, refl, sym, ap, ◌∙◌}
use mathlib.Core.List.{List, []}
use mathlib.Core.Bool.{Bool, true, false, cond, ◌&&◌}
use Prim.Native.Nat.{ℕ, zero, suc, ◌+◌, ◌-◌, ◌*◌, ◌≤◌, ◌<◌}
use native.Mathlib.Omega.{arith}
use lib.Dec.{leb}
use lib.ListN.{length, drop, length-append, length-drop}
use borrow.Author.Tests.{le-leb, lt-leb, leb-true}
use Rattle.wire.proofs.Cases.{split, clash}
use Rattle.payload.specs.declared.frames.Frame.{Frame}
use Rattle.payload.specs.declared.frames.Next.{Next}
use Rattle.payload.specs.declared.frames.Spotted.{Spotted}
use Rattle.std.specs.Prelude.{Result, Ok, Err}
use Rattle.std.specs.Result.{MatchResult, IsErrAnd}
use Rattle.refusals.specs.declared.Refusal.{Refusal}
use Rattle.refusals.specs.Refused.{number}
use Rattle.payload.specs.declared.frames.Stop as code
use Rattle.payload.specs.Stopped.{stop_by}
use Rattle.payload.specs.Packets.{Packets, packet, stop, Stop, next_of, packets_in, payload_of, source_of}
use Rattle.payload.specs.Positions.{Placed, at, refused, lost_at, place_from, place_in, Corner, corner_from, corner_of}
use Rattle.payload.specs.Frames.{lies, beyond, source_from, framed, frame_of, within_frame, spot_from, spot_in, reach_from, reach_of}
use Rattle.payload.proofs.Sources.{Same, same-later, same_then}
use Rattle.payload.proofs.Onto.{here, Onto, After, goes, ends, after, after-by, onto-of, end-of, onto_same, First, Begins, first, none, begun-by, first-same}
use Rattle.payload.proofs.Walk.{fits}
use Rattle.payload.proofs.Reach.{corner-reached, frame_is}

-- ---- the walk to packet n

-- it has come to a frame
pub record Walked (l : List ℕ) (n place : ℕ) (f : Frame) : Type 0 where
  pub lies : lies l f ≡ true
  pub some : f.base ≤ f.end
  pub size : length (here l f) ≡ f.end - f.base
  pub ahead : (1 ≤ n → f.number ≤ n)
  pub none : (n ≡ 0 → spot_in (packets_in l) n place ≡ Err 24)
  pub spot : (1 ≤ n → spot_in (packets_in l) n place ≡ spot_from f.base f.number (packet (here l f) f.last (beyond l f)) (n - f.number) place)

spot-one : (p : List ℕ) (last : Bool) (ps : Packets) (n place : ℕ) → 1 ≤ n → spot_in (packet p last ps) n place ≡ spot_from 0 1 (packet p last ps) (n - 1) place
unfolding spot_in
spot-one p last ps zero place h = absurd (omega arith)
spot-one p last ps (suc n) place h = let a : suc n - 1 ≡ n = omega arith in rw a

spot-none : (p : List ℕ) (last : Bool) (ps : Packets) (n place : ℕ) → n ≡ 0 → spot_in (packet p last ps) n place ≡ Err 24
unfolding spot_in
spot-none p last ps n place e = rw e

pub walk_first : {l : List ℕ} {f : Frame} (n place : ℕ) → First l f → Walked l n place f
walk_first {l} {f} n place o =
    let b = o.base in
    let k = o.number in
    record {
      lies = o.lies;
      some = omega arith;
      size = o.size;
      ahead = λ h. omega arith;
      none = λ e. ap (λ (ps : Packets). spot_in ps n place) o.is ∙ spot-none (here l f) f.last (beyond l f) n place e;
      spot = λ h. ap (λ (ps : Packets). spot_in ps n place) o.is ∙ spot-one (here l f) f.last (beyond l f) n place h ∙ rw (b, k);
    }

spot-next : (base number : ℕ) (p : List ℕ) (last : Bool) (ps : Packets) (i place : ℕ) → 0 < i → spot_from base number (packet p last ps) i place ≡ spot_from (base + length p) (number + 1) ps (i - 1) place
unfolding spot_from
spot-next base number p last ps zero place h = absurd (omega arith)
spot-next base number p last ps (suc i) place h = let a : suc i - 1 ≡ i = omega arith in rw a

pub walk-on : {l : List ℕ} {f g : Frame} (n place : ℕ) → Walked l n place f → f.number < n → Onto l f g → Walked l n place g
walk-on {l} {f} {g} n place w h o =
    let b = o.base in
    let k = o.number in
    let s = o.some in
    let t = w.some in
    record {
      lies = o.lies;
      some = omega arith;
      size = o.size;
      ahead = λ j. omega arith;
      none = w.none;
      spot = λ j.
          let a : f.base + length (here l f) ≡ g.base = omega (arith, w.size) in
          let d : n - f.number - 1 ≡ n - g.number = omega arith in
          w.spot j ∙ spot-next f.base f.number (here l f) f.last (beyond l f) (n - f.number) place (omega arith)
          ∙ ap (λ (ps : Packets). spot_from (f.base + length (here l f)) (f.number + 1) ps (n - f.number - 1) place) o.is
          ∙ rw (a, d, sym k);
    }

-- the packets end before packet n
spot-stop : (base number : ℕ) (s : Stop) (i place : ℕ) → spot_from base number (stop s) i place ≡ Err (lost_at s)
unfolding spot_from
spot-stop base number s i place = refl

pub walk-stop : {l : List ℕ} {f : Frame} (n place : ℕ) {s : Stop} → Walked l n place f → f.number < n → beyond l f ≡ stop s
    → Err (lost_at s) ≡ spot_in (packets_in l) n place
walk-stop {l} {f} n place {s} w h e =
    sym (w.spot (omega arith) ∙ spot-next f.base f.number (here l f) f.last (beyond l f) (n - f.number) place (omega arith)
    ∙ ap (λ (ps : Packets). spot_from (f.base + length (here l f)) (f.number + 1) ps (n - f.number - 1) place) e
    ∙ spot-stop (f.base + length (here l f)) (f.number + 1) s (n - f.number - 1) place)

-- it is the frame's
pub walk_ends : {l : List ℕ} {f : Frame} (n place : ℕ) {r : Result Spotted ℕ} → Walked l n place f → n ≤ f.number → (n ≡ 0 → ⊥) → r ≡ within_frame f place → r ≡ spot_in (packets_in l) n place
unfolding spot_from
walk_ends {l} {f} zero place w h z e = absurd (z refl)
walk_ends {l} {f} (suc n) place w h z e =
    let t = w.some in
    let k = w.ahead (omega arith) in
    let a : suc n - f.number ≡ 0 = omega arith in
    let q : frame_of f.base f.number (here l f) f.last ≡ f = frame_is f refl (omega (arith, w.size)) refl in
    e ∙ sym (w.spot (omega arith) ∙ ap (λ (i : ℕ). spot_from f.base f.number (packet (here l f) f.last (beyond l f)) i place) a ∙ ap (λ (x : Frame). within_frame x place) q)

-- there is no first packet
pub walk_none : (l : List ℕ) {s : Stop} (n place : ℕ) → packets_in l ≡ stop s → Err (lost_at s) ≡ spot_in (packets_in l) n place
unfolding spot_in spot_from
walk_none l zero place e = rw e
walk_none l (suc n) place e = rw e

-- ---- the walk by the indexes of headers

-- the frame of a packet, by where its header begins and where the next one is to
abbrev pub between : ℕ → ℕ → ℕ → Bool → Frame
between start to number last = record { base = start - 8 * (number - 1); end = to - 8 * number; number = number; last = last }

-- it has come to the frame between two indexes
pub record Walking (l : List ℕ) (n place start to number : ℕ) (last : Bool) : Type 0 where
  pub some : 1 ≤ number
  pub from : 8 * (number - 1) ≤ start
  pub past : 8 * number ≤ to
  pub walked : Walked l n place (between start to number last)

pub walking-first : {l : List ℕ} {f : Frame} (n place : ℕ) → First l f → Walking l n place 0 (f.end + 8) 1 f.last
walking-first {l} {f} n place o =
    let b = o.base in
    let q : between 0 (f.end + 8) 1 f.last ≡ f = frame_is f (omega arith) (omega arith) (sym o.number) in
    record { some = omega arith; from = omega arith; past = omega arith; walked = rw q (walk_first n place o) }

module _ {l : List ℕ} {n place start to number : ℕ} {last : Bool} (w : Walking l n place start to number last) where
  -- what stands at the next header's index follows the frame
  walking_after : {x : Result Next Stop} → next_of (number + 1) last (drop to l) ≡ x → After l (between start to number last) (framed (to - 8 * number) (number + 1) x)
  walking_after {x} q =
      let z : to - 8 * number + 8 * number ≡ to = omega (arith, w.past) in
      after-by l (between start to number last) w.walked.lies x (ap (λ (i : ℕ). next_of (number + 1) last (drop i l)) z ∙ q)

  pub walking_end : {s : Stop} → next_of (number + 1) last (drop to l) ≡ Err s → beyond l (between start to number last) ≡ stop s
  walking_end q = end-of (walking_after q)

  -- a packet there ends within the lent bytes
  pub walking-fits : {p : Next} → next_of (number + 1) last (drop to l) ≡ Ok p → to + 8 + p.len ≤ length l
  walking-fits q = let m = fits (number + 1) last (drop to l) q in omega (arith, m.0, m.1, length-drop to l)

  pub walking_on : {p : Next} → number < n → next_of (number + 1) last (drop to l) ≡ Ok p → Walking l n place to (to + 8 + p.len) (number + 1) p.last
  walking_on {p} h q =
      let b = w.past in
      let g : Frame = record { base = to - 8 * number; end = to - 8 * number + p.len; number = number + 1; last = p.last } in
      let e : between to (to + 8 + p.len) (number + 1) p.last ≡ g = frame_is g (omega arith) (omega arith) refl in
      record { some = omega arith; from = omega arith; past = omega arith; walked = rw e (walk-on n place w.walked h (onto-of (walking_after q))) }

-- ---- the refusal of a position past what stops the packets

abbrev Lost : code.Stop → Refusal → Type 0
Lost s r = number r ≡ lost_at (stop_by s)

module _ {A : Type 0} {m : Result A Refusal} where
  pub held-of : (r : Result A code.Stop) {x : A} → MatchResult r (λ a. m ≡ Ok a) (λ s. IsErrAnd m (Lost s)) → m ≡ Ok x → r ≡ Ok x
  held-of (Ok a) h e = cc
  held-of (Err s) h e = absurd (rw e at h)

  pub lost-of : (r : Result A code.Stop) {y : Refusal} → MatchResult r (λ a. m ≡ Ok a) (λ s. IsErrAnd m (Lost s)) → m ≡ Err y
      → (s : code.Stop) × (r ≡ Err s) × (number y ≡ lost_at (stop_by s))
  lost-of (Ok a) h e = clash (cc)
  lost-of (Err s) h e = (s, refl, rw e at h)

-- ---- what stands at a position

-- what is read at a place of a frame is the payload, and the packets of the places after it are found from there
pub record Stood (l : List ℕ) (f : Frame) (n : ℕ) : Type 0 where
  pub lies : lies l f ≡ true
  pub from : f.base ≤ n
  pub to : n ≤ f.end
  pub same : Same (source_of (packets_in l)) (source_from l f) n
  pub corner : (m : ℕ) (g : Frame) → n < m → reach_of l f m ≡ Ok g → corner_of (packets_in l) m ≡ record { packet = g.number; place = 8 + (m - g.base) }

-- a frame of the lent bytes
record Valid (l : List ℕ) (f : Frame) : Type 0 where
  lies : lies l f ≡ true
  some : f.base ≤ f.end
  size : length (here l f) ≡ f.end - f.base
  same : Same (source_of (packets_in l)) (source_from l f) f.base
  corner : (m : ℕ) → f.base < m → corner_of (packets_in l) m ≡ corner_from f.base f.number (packet (here l f) f.last (beyond l f)) m

valid-first : {l : List ℕ} {f : Frame} → First l f → Valid l f
unfolding corner_of
valid-first {l} {f} o =
    let b = o.base in
    let k = o.number in
    record {
      lies = o.lies;
      some = omega arith;
      size = o.size;
      same = same-later 0 (omega arith) (first-same o);
      corner = λ m h. ap (λ (ps : Packets). corner_from 0 1 ps m) o.is ∙ rw (b, k);
    }

corner-next : (base number : ℕ) (p : List ℕ) (last : Bool) (ps : Packets) (m : ℕ) → base + length p < m
    → corner_from base number (packet p last ps) m ≡ corner_from (base + length p) (number + 1) ps m
unfolding corner_from
corner-next base number p last ps m h = rw (lt-leb m (base + length p) h)

valid-on : {l : List ℕ} {f g : Frame} → Valid l f → Onto l f g → Valid l g
valid-on {l} {f} {g} v o =
    let b = o.base in
    let s = o.some in
    let t = v.some in
    record {
      lies = o.lies;
      some = omega arith;
      size = o.size;
      same = same_then (same-later f.base (omega arith) v.same) (same-later f.end (omega arith) (onto_same v.lies o));
      corner = λ m h.
          let a : f.base + length (here l f) ≡ g.base = omega (arith, v.size) in
          v.corner m (omega arith) ∙ corner-next f.base f.number (here l f) f.last (beyond l f) m (omega arith)
          ∙ ap (λ (ps : Packets). corner_from (f.base + length (here l f)) (f.number + 1) ps m) o.is ∙ rw (a, sym o.number);
    }

-- a place of a valid frame
reach-lies : (l : List ℕ) (f : Frame) (m : ℕ) → lies l f ≡ true → reach_of l f m ≡ reach_from f (beyond l f) m
unfolding reach_of
reach-lies l f m e = rw e

valid-stands : {l : List ℕ} {f : Frame} (n : ℕ) → Valid l f → f.base ≤ n → n ≤ f.end → Stood l f n
valid-stands {l} {f} n v a b =
    let t = v.some in
    record {
      lies = v.lies;
      from = a;
      to = b;
      same = same-later f.base a v.same;
      corner = λ m g h r.
          v.corner m (omega arith) ∙ corner-reached (beyond l f) f g (here l f) f.last m (omega (arith, v.size)) (sym (reach-lies l f m v.lies) ∙ r);
    }

within_by : (a b : Bool) (f : Frame) (k : ℕ) {s : Spotted} → cond {A = Result Spotted ℕ} (a && b) (Ok (record { frame = f; place = k })) (Err 24) ≡ Ok s → (a ≡ true) × (b ≡ true) × (f ≡ s.frame) × (k ≡ s.place)
within_by true true f k {s} e = let z : record { frame = f; place = k } ≡ s = cc in (refl, refl, ap (λ (x : Spotted). x.frame) z, ap (λ (x : Spotted). x.place) z)
within_by true false f k e = clash (cc)
within_by false b f k e = clash (cc)

stood-here : {l : List ℕ} {f : Frame} (place : ℕ) {s : Spotted} → Valid l f → within_frame f place ≡ Ok s → Stood l s.frame s.place
stood-here {l} {f} place v e =
    let w = within_by (leb 8 place) (leb place (8 + (f.end - f.base))) f (f.base + (place - 8)) e in
    let x = leb-true 8 place w.0 in
    let y = leb-true place (8 + (f.end - f.base)) w.1 in
    let t = v.some in
    rw (sym w.2, sym w.3) (valid-stands (f.base + (place - 8)) v (omega arith) (omega arith))

module _ (l : List ℕ) (place : ℕ) (s : Spotted) where
  abbrev Spot : Frame → ℕ → Packets → Type 0
  Spot f i ps = spot_from f.base f.number (packet (here l f) f.last ps) i place ≡ Ok s

  stood-by : (f : Frame) (i : ℕ) {m : Result Frame Stop} → Valid l f → After l f m → ((x : Frame) → Valid l x → Spot x i (beyond l x) → Stood l s.frame s.place)
      → spot_from (f.base + length (here l f)) (f.number + 1) (beyond l f) i place ≡ Ok s → Stood l s.frame s.place
  stood-by f i v (goes {g = x} o) later e =
      let b = o.base in
      let t = v.some in
      let a : f.base + length (here l f) ≡ x.base = omega (arith, v.size) in
      later x (valid-on v o) (sym (ap (λ (ps : Packets). spot_from (f.base + length (here l f)) (f.number + 1) ps i place) o.is ∙ rw (a, sym o.number)) ∙ e)
  stood-by f i v (ends {s = x} z) later e = let q = spot-stop (f.base + length (here l f)) (f.number + 1) x i place in clash (cc)

  stood-from : (i : ℕ) (f : Frame) → Valid l f → Spot f i (beyond l f) → Stood l s.frame s.place
  unfolding spot_from
  stood-from zero f v e =
      let t = v.some in
      let q : frame_of f.base f.number (here l f) f.last ≡ f = frame_is f refl (omega (arith, v.size)) refl in
      stood-here place v (sym (ap (λ (x : Frame). within_frame x place) q) ∙ e)
  stood-from (suc i) f v e = stood-by f i v (after l f v.lies) (stood-from i) e

  stood-in : (i : ℕ) {m : Result Frame Stop} → Begins l m → spot_in (packets_in l) i place ≡ Ok s → Stood l s.frame s.place
  stood-in i (first {f = f} o) e = go i e
    where
      go : (i : ℕ) → spot_in (packets_in l) i place ≡ Ok s → Stood l s.frame s.place
      go zero e = let q = ap (λ (ps : Packets). spot_in ps 0 place) o.is in let z = spot-none (here l f) f.last (beyond l f) 0 place refl in clash (cc)
      go (suc i) e =
          let w = walk_first (suc i) place o in
          let k = o.number in
          let a : suc i - f.number ≡ i = omega arith in
          stood-from i f (valid-first o) (sym (w.spot (omega arith) ∙ rw a) ∙ e)
  stood-in i (none {s = x} z) e = let q = walk_none l {s = x} i place z in clash (cc)

  pub stood : (i : ℕ) → spot_in (packets_in l) i place ≡ Ok s → Stood l s.frame s.place
  stood i e = stood-in i (begun-by l) e

-- ---- the place alone

abbrev pub placed : Result Spotted ℕ → Placed
placed (Ok s) = at s.place
placed (Err r) = refused r

placed-within : (b : Bool) (f : Frame) (n : ℕ) → placed (cond {A = Result Spotted ℕ} b (Ok (record { frame = f; place = n })) (Err 24)) ≡ cond b (at n) (refused 24)
placed-within true f n = refl
placed-within false f n = refl

placed-from : (base number : ℕ) (ps : Packets) (i place : ℕ) → placed (spot_from base number ps i place) ≡ place_from base ps i place
unfolding spot_from place_from
placed-from base number (packet p last ps) zero place =
    let a : base + length p - base ≡ length p = omega arith in
    rw a (placed-within (leb 8 place && leb place (8 + length p)) (frame_of base number p last) (base + (place - 8)))
placed-from base number (packet p last ps) (suc i) place = placed-from (base + length p) (number + 1) ps i place
placed-from base number (stop s) i place = refl

pub placed-in : (ps : Packets) (i place : ℕ) → placed (spot_in ps i place) ≡ place_in ps i place
unfolding spot_in place_in
placed-in (packet p last ps) zero place = refl
placed-in (packet p last ps) (suc i) place = placed-from 0 1 (packet p last ps) i place
placed-in (stop s) zero place = refl
placed-in (stop s) (suc i) place = placed-from 0 1 (stop s) i place

-- ---- back: the place of the corner of a payload place is that place

record Back (ps : Packets) (number base n : ℕ) (c : Corner) : Type 0 where
  ahead : number ≤ c.packet
  place : place_from base ps (c.packet - number) c.place ≡ at n

back-here : (p : List ℕ) (last : Bool) (ps : Packets) (number base n : ℕ) → base ≤ n → n ≤ base + length p
    → Back (packet p last ps) number base n (record { packet = number; place = 8 + (n - base) })
unfolding place_from
back-here p last ps number base n g h =
    let a : number - number ≡ 0 = omega arith in
    let b : base + (8 + (n - base) - 8) ≡ n = omega arith in
    record {
      ahead = omega arith;
      place = rw (a, le-leb 8 (8 + (n - base)) (omega arith), le-leb (8 + (n - base)) (8 + length p) (omega arith), b);
    }

back_more : (p : List ℕ) (last : Bool) (ps : Packets) (number base n : ℕ) {c : Corner} → Back ps (number + 1) (base + length p) n c → Back (packet p last ps) number base n c
unfolding place_from
back_more p last ps number base n {c} k =
    let f = k.ahead in
    let a : c.packet - number ≡ suc (c.packet - (number + 1)) = omega arith in
    record { ahead = omega arith; place = rw a k.place }

back_from : (p : List ℕ) (last : Bool) (ps : Packets) (number base n : ℕ) → base ≤ n → n ≤ base + length (payload_of (packet p last ps))
    → Back (packet p last ps) number base n (corner_from base number (packet p last ps) n)
unfolding corner_from payload_of
back_from p last (stop s) number base n g h =
    let l : n ≤ base + length p = omega (arith, length-append p []) in
    rw (le-leb n (base + length p) l) (back-here p last (stop s) number base n g l)
back_from p last (packet q more qs) number base n g h =
    split n (base + length p)
    (λ l. rw (le-leb n (base + length p) l) (back-here p last (packet q more qs) number base n g l))
    (λ l.
    let m : n ≤ base + length p + length (payload_of (packet q more qs)) = omega (arith, length-append p (payload_of (packet q more qs))) in
    rw (lt-leb n (base + length p) l) (back_more p last (packet q more qs) number base n (back_from q more qs (number + 1) (base + length p) n (omega arith) m)))

place-from : (p : List ℕ) (last : Bool) (ps : Packets) (m place : ℕ) → 1 ≤ m → place_in (packet p last ps) m place ≡ place_from 0 (packet p last ps) (m - 1) place
unfolding place_in
place-from p last ps zero place h = absurd (omega arith)
place-from p last ps (suc m) place h = let a : suc m - 1 ≡ m = omega arith in rw a

pub corner-back : (p : List ℕ) (last : Bool) (ps : Packets) (n : ℕ) → n ≤ length (payload_of (packet p last ps))
    → place_in (packet p last ps) (corner_of (packet p last ps) n).packet (corner_of (packet p last ps) n).place ≡ at n
unfolding corner_of
corner-back p last ps n h = let b = back_from p last ps 1 0 n (omega arith) (omega arith) in place-from p last ps _ _ b.ahead ∙ b.place
