-- The packet of a payload place, from a frame on: what it tells of the bytes that are read there. Assumes nothing.
use mathlib.Core.Path.{◌≡◌, refl, sym, ap, ◌∙◌}
use mathlib.Core.List.{List, [], ◌∷◌, ◌++◌}
use mathlib.Core.Bool.{Bool, true, false, cond, ◌&&◌}
use Prim.Native.Nat.{ℕ, zero, suc, ◌+◌, ◌-◌, ◌*◌, ◌≤◌, ◌<◌}
use native.Mathlib.Omega.{arith}
use lib.Dec.{leb, eqb}
use lib.ListN.{length, take, drop, get_or, length-drop}
use borrow.Author.Tests.{le-leb, lt-leb, leb-true, leb-false, eqb-true}
use Rattle.wire.proofs.Cases.{split, by-test, clash}
use Rattle.wire.specs.Le.{le_at}
use Rattle.wire.proofs.Le.{le-one}
use Rattle.payload.specs.declared.frames.Frame.{Frame}
use Rattle.std.specs.Prelude.{Result, Ok, Err}
use Rattle.std.specs.Result.{result_unwrap_or}
use Rattle.refusals.specs.declared.Refusal.{Refusal}
use Rattle.refusals.specs.Refused.{numbered}
use Rattle.payload.specs.Packets.{Packets, packet, stop, Stop, payload_of, stop_of, refusal_at}
use Rattle.payload.specs.Places.{whole, number_at, part_at}
use Rattle.payload.specs.Answers.{number_read, part_read}
use Rattle.payload.specs.Positions.{corner_from}
use Rattle.payload.specs.Frames.{lies, beyond, source_from, frame_of, reach_from, nowhere_of, reach_of, frame_by, frame_at}
use Rattle.payload.proofs.CodeReads.{and-true, number-stands, part-stands, part_cut}
use Rattle.payload.proofs.Sources.{Same, same_self, same-later, same_then}
use Rattle.payload.proofs.Onto.{here, lying, source-from, source-length, source-stop, Onto, After, goes, ends, after, onto_same}

-- a frame by its fields
pub frame_is : (g : Frame) {b e n : ℕ} → b ≡ g.base → e ≡ g.end → n ≡ g.number → record { base = b; end = e; number = n; last = g.last } ≡ g
frame_is g p q r = rw (p, q, r)

pub onto-frame : {l : List ℕ} {f g : Frame} → Onto l f g → frame_of f.end (f.number + 1) (here l g) g.last ≡ g
onto-frame {g = g} o = let b = o.base in let s = o.some in frame_is g (sym b) (omega (arith, o.size)) (sym o.number)

-- ---- the walk

module _ (n : ℕ) where
  pub reach_here : (f : Frame) (ps : Packets) → n ≤ f.end → reach_from f ps n ≡ Ok f
  unfolding reach_from
  reach_here f (packet p last ps) h = rw (le-leb n f.end h)
  reach_here f (stop s) h = rw (le-leb n f.end h)

  reach-on : (f : Frame) (p : List ℕ) (last : Bool) (ps : Packets) → f.end < n → reach_from f (packet p last ps) n ≡ reach_from (frame_of f.end (f.number + 1) p last) ps n
  unfolding reach_from
  reach-on f p last ps h = rw (lt-leb n f.end h)

  pub reach-stop : (f : Frame) {ps : Packets} {s : Stop} → ps ≡ stop s → f.end < n → reach_from f ps n ≡ Err (refusal_at s)
  unfolding reach_from
  reach-stop f e h = rw (e, lt-leb n f.end h)

  pub reach-moves : {l : List ℕ} {f g : Frame} → Onto l f g → f.end < n → reach_from f (beyond l f) n ≡ reach_from g (beyond l g) n
  reach-moves {l} {f} {g} o h =
      ap (λ (ps : Packets). reach_from f ps n) o.is ∙ reach-on f (here l g) g.last (beyond l g) h ∙ ap (λ (x : Frame). reach_from x (beyond l g) n) (onto-frame o)

  -- ---- what it found

  pub record Found (l : List ℕ) (f g : Frame) : Type 0 where
    pub lies : lies l g ≡ true
    pub to : n ≤ g.end
    pub long : n ≤ length (source_from l f).bytes
    pub same : (m : ℕ) → n ≤ m + 1 → Same (source_from l f) (source_from l g) m

  abbrev pub Past : List ℕ → Frame → ℕ → Type 0
  Past l f r = (length (source_from l f).bytes < n) × (r ≡ (source_from l f).stop)

  module _ (l : List ℕ) where
    found_here : (f g : Frame) → lies l f ≡ true → n ≤ f.end → f ≡ g → Found l f g
    found_here f g e h q =
        rw (sym q) (record { lies = e; to = h; long = omega (arith, source-length l f e); same = λ m k. same_self (source_from l f) m })

    found-on : {f g h : Frame} → lies l f ≡ true → f.end < n → Onto l f g → Found l g h → Found l f h
    found-on {f} {g} e k o d =
        let s = onto_same e o in
        let t = d.long in
        record { lies = d.lies; to = d.to; long = omega (arith, s.size); same = λ m j. same_then (same-later f.end (omega arith) s) (d.same m j) }

    found-by : (f g : Frame) {m : Result Frame Stop} (p : List ℕ) (last : Bool) (qs : Packets) → lies l f ≡ true → f.end < n → beyond l f ≡ packet p last qs → After l f m
        → ((x : Frame) → lies l x ≡ true → beyond l x ≡ qs → reach_from x qs n ≡ Ok g → Found l x g)
        → reach_from f (packet p last qs) n ≡ Ok g → Found l f g
    found-by f g p last qs e h q (goes {g = x} o) later r =
        let u : packet p last qs ≡ packet (here l x) x.last (beyond l x) = sym q ∙ o.is in
        let v : beyond l x ≡ qs = cc in
        found-on e h o (later x o.lies v (ap (λ (ps : Packets). reach_from x ps n) (sym v) ∙ sym (reach-moves o h) ∙ ap (λ (ps : Packets). reach_from f ps n) q ∙ r))
    found-by f g p last qs e h q (ends z) later r = clash (cc)

    pub found : (ps : Packets) (f g : Frame) → lies l f ≡ true → beyond l f ≡ ps → reach_from f ps n ≡ Ok g → Found l f g
    found (stop s) f g e q r =
        split n f.end
        (λ h. let z = reach_here f (stop s) h in found_here f g e h (cc))
        (λ h. let z = reach-stop f {s = s} refl h in clash (cc))
    found (packet p last qs) f g e q r =
        split n f.end
        (λ h. let z = reach_here f (packet p last qs) h in found_here f g e h (cc))
        (λ h. found-by f g p last qs e h q (after l f e) (λ x. found qs x g) r)

    -- ---- past the payload

    past_by : (f : Frame) {m : Result Frame Stop} (p : List ℕ) (last : Bool) (qs : Packets) {r : ℕ} → lies l f ≡ true → f.end < n → beyond l f ≡ packet p last qs → After l f m
        → ((x : Frame) → lies l x ≡ true → beyond l x ≡ qs → reach_from x qs n ≡ Err r → Past l x r)
        → reach_from f (packet p last qs) n ≡ Err r → Past l f r
    past_by f p last qs e h q (goes {g = x} o) later r =
        let u : packet p last qs ≡ packet (here l x) x.last (beyond l x) = sym q ∙ o.is in
        let v : beyond l x ≡ qs = cc in
        let s = onto_same e o in
        let d = later x o.lies v (ap (λ (ps : Packets). reach_from x ps n) (sym v) ∙ sym (reach-moves o h) ∙ ap (λ (ps : Packets). reach_from f ps n) q ∙ r) in
        (omega (arith, s.size, d.0), d.1 ∙ sym s.stops)
    past_by f p last qs e h q (ends z) later r = clash (cc)

    pub past : (ps : Packets) (f : Frame) {r : ℕ} → lies l f ≡ true → beyond l f ≡ ps → reach_from f ps n ≡ Err r → Past l f r
    unfolding payload_of stop_of
    past (stop s) f e q r =
        split n f.end
        (λ h. let z = reach_here f (stop s) h in clash (cc))
        (λ h.
        let z = reach-stop f {s = s} refl h in
        let a : length (payload_of (beyond l f)) ≡ 0 = rw q in
        let b : refusal_at (stop_of (beyond l f)) ≡ refusal_at s = rw q in
        let d : refusal_at s ≡ _ = cc in
        (omega (arith, source-length l f e), sym d ∙ sym (source-stop l f e ∙ b)))
    past (packet p last qs) f e q r =
        split n f.end
        (λ h. let z = reach_here f (packet p last qs) h in clash (cc))
        (λ h. past_by f p last qs e h q (after l f e) (λ x. past qs x) r)

-- ---- the loop: the walk for place n has come to a frame

pub record Reaching (l : List ℕ) (f here : Frame) (n : ℕ) : Type 0 where
  pub lies : lies l here ≡ true
  pub is : reach_of l f n ≡ reach_from here (beyond l here) n

pub reach-nowhere : (l : List ℕ) (f : Frame) (n : ℕ) {r : Result Frame ℕ} → lies l f ≡ false → r ≡ nowhere_of f n → r ≡ reach_of l f n
unfolding reach_of
reach-nowhere l f n e q = rw e q

pub reach-begins : (l : List ℕ) (f : Frame) (n : ℕ) → lies l f ≡ true → Reaching l f f n
unfolding reach_of
reach-begins l f n e = record { lies = e; is = rw e }

module _ {l : List ℕ} {f g : Frame} {n : ℕ} (r : Reaching l f g n) where
  pub reach-again : {h : Frame} → leb n g.end ≡ false → Onto l g h → Reaching l f h n
  reach-again t o = record { lies = o.lies; is = r.is ∙ reach-moves n o (leb-false n g.end t) }

  pub reach-stops : {s : Stop} → leb n g.end ≡ false → beyond l g ≡ stop s → Err (refusal_at s) ≡ reach_of l f n
  reach-stops t e = sym (r.is ∙ reach-stop n g e (leb-false n g.end t))

  pub reach-ends : leb n g.end ≡ true → Ok g ≡ reach_of l f n
  reach-ends t = sym (r.is ∙ reach_here n g (beyond l g) (leb-true n g.end t))

-- ---- from any frame

module _ (l : List ℕ) (f : Frame) (n : ℕ) where
  -- the frame lies in the lent bytes, or is read as nothing
  reach-by : {X : Type 0} (b : Bool) {x : Result Frame ℕ} → lies l f ≡ b → cond b (reach_from f (beyond l f) n) (nowhere_of f n) ≡ x
      → (lies l f ≡ true → reach_from f (beyond l f) n ≡ x → X) → (lies l f ≡ false → nowhere_of f n ≡ x → X) → X
  reach-by true e q here none = here e q
  reach-by false e q here none = none e q

  reach-cases : {X : Type 0} {x : Result Frame ℕ} → reach_of l f n ≡ x
      → (lies l f ≡ true → reach_from f (beyond l f) n ≡ x → X) → (lies l f ≡ false → nowhere_of f n ≡ x → X) → X
  unfolding reach_of
  reach-cases q here none = reach-by (lies l f) refl q here none

  nowhere-in : (b : Bool) {g : Frame} → eqb n 0 ≡ b → cond {A = Result Frame ℕ} b (Ok f) (Err 24) ≡ Ok g → (n ≡ 0) × (f ≡ g)
  nowhere-in true e q = (eqb-true n 0 e, cc)
  nowhere-in false e q = clash (cc)

  nowhere-past : (b : Bool) {r : ℕ} → eqb n 0 ≡ b → cond {A = Result Frame ℕ} b (Ok f) (Err 24) ≡ Err r → (0 < n) × (r ≡ 24)
  nowhere-past true e q = clash (cc)
  nowhere-past false e q = (eqb-not n e, cc)
    where
      eqb-not : (k : ℕ) → eqb k 0 ≡ false → 0 < k
      eqb-not zero h = clash (cc)
      eqb-not (suc k) h = omega arith

  pub nothing-there : lies l f ≡ false → source_from l f ≡ record { bytes = []; stop = 24 }
  unfolding source_from
  nothing-there e = rw e

  -- n bytes stand there
  pub reach-long : {g : Frame} → reach_of l f n ≡ Ok g → (n ≤ length (source_from l f).bytes) × (n ≤ length l)
  reach-long {g} q =
      reach-cases q
      (λ e r. let d = found n l (beyond l f) f g e refl r in let w = lying l g d.lies in let t = d.to in (d.long, omega arith))
      (λ e r. let d = nowhere-in (eqb n 0) refl r in (omega (arith, d.0), omega (arith, d.0)))

  -- or they do not
  pub reach-past : {r : ℕ} → reach_of l f n ≡ Err r → Past n l f r
  reach-past q =
      reach-cases q
      (λ e r. past n l (beyond l f) f e refl r)
      (λ e r.
      let d = nowhere-past (eqb n 0) refl r in
      let z = nothing-there e in
      (rw z d.0, rw z d.1))

  -- the frame lies in the lent bytes, where the first one does
  pub reach-lies : {g : Frame} → lies l f ≡ true → reach_of l f n ≡ Ok g → lies l g ≡ true
  reach-lies {g} h q =
      reach-cases q
      (λ e r. (found n l (beyond l f) f g e refl r).lies)
      (λ e r. rw (sym (nowhere-in (eqb n 0) refl r).1) h)

  -- what is read from there on is the same
  pub reach-same : {g : Frame} → reach_of l f n ≡ Ok g → (m : ℕ) → n ≤ m + 1 → Same (source_from l f) (source_from l g) m
  reach-same {g} q m h =
      reach-cases q
      (λ e r. (found n l (beyond l f) f g e refl r).same m h)
      (λ e r. rw (sym (nowhere-in (eqb n 0) refl r).1) (same_self (source_from l f) m))

-- ---- the frame of a place

module _ (l : List ℕ) (f : Frame) (n : ℕ) where
  pub frame-by : (r : Result Frame Refusal) → numbered r ≡ reach_of l f n → result_unwrap_or r f ≡ frame_at l f n
  unfolding frame_at
  frame-by (Ok g) e = rw (sym e)
  frame-by (Err x) e = rw (sym e)

  -- in the frame itself, and of a frame that the lent bytes do not have
  within_by : (b : Bool) → lies l f ≡ b → n ≤ f.end → frame_by f (cond b (reach_from f (beyond l f) n) (nowhere_of f n)) ≡ f
  within_by true e h = ap (frame_by f) (reach_here n f (beyond l f) h)
  within_by false e h = by-test (eqb n 0) (λ z. rw z refl) (λ z. rw z refl)

  pub frame-within : n ≤ f.end → f ≡ frame_at l f n
  unfolding frame_at reach_of
  frame-within h = sym (within_by (lies l f) refl h)

  pub at_place : reach_of l f (n + 0) ≡ reach_of l f n
  at_place = let z : n + 0 ≡ n = omega arith in rw z

  same_by : (x : Result Frame ℕ) → reach_of l f n ≡ x → Same (source_from l f) (source_from l (frame_by f x)) n
  same_by (Ok g) e = reach-same l f n e n (omega arith)
  same_by (Err r) e = same_self (source_from l f) n

  -- what is read from the place on is the same there
  pub frame_same : Same (source_from l f) (source_from l (frame_at l f n)) n
  unfolding frame_at
  frame_same = same_by (reach_of l f n) refl

  reached-by : (x : Result Frame ℕ) → reach_of l f n ≡ x → n ≤ length (source_from l f).bytes → reach_of l f n ≡ Ok (frame_by f x)
  reached-by (Ok g) e h = e
  reached-by (Err r) e h = absurd (omega (arith, (reach-past l f n e).0))

  -- it is the one reached, where the payload has the place
  pub frame-reached : n ≤ length (source_from l f).bytes → reach_of l f n ≡ Ok (frame_at l f n)
  unfolding frame_at
  frame-reached h = reached-by (reach_of l f n) refl h

-- ---- numbers

-- a number is that of its own bytes
le-first : (k m : ℕ) (x r : List ℕ) → k ≤ m → m ≤ length x → le_at k (take m x ++ r) ≡ le_at k x
unfolding le_at
le-first zero m x r h g = refl
le-first (suc k) zero x r h g = absurd (omega arith)
le-first (suc k) (suc m) [] r h g = absurd (omega arith)
le-first (suc k) (suc m) (b ∷ x) r h g = ap (λ (n : ℕ). n * 256 + b) (le-first k m x r (omega arith) (omega arith))

-- one that a frame holds whole
pub number-here : (l : List ℕ) (f : Frame) (k at : ℕ) → lies l f ≡ true → at + k ≤ f.end
    → (at + k ≤ length (source_from l f).bytes) × (le_at k (drop at (source_from l f).bytes) ≡ le_at k (drop (at + 8 * f.number) l))
number-here l f k at e h =
    let w = lying l f e in
    let g : f.end - at ≤ length (drop (at + 8 * f.number) l) = omega (arith, length-drop (at + 8 * f.number) l) in (
      omega (arith, source-length l f e),
      ap (le_at k) (source-from l f e at (omega arith)) ∙ le-first k (f.end - at) (drop (at + 8 * f.number) l) (payload_of (beyond l f)) (omega arith) g,
    )

-- the byte that was found
module _ (l : List ℕ) (f : Frame) (at : ℕ) {g : Frame} (q : reach_of l f (at + 1) ≡ Ok g) where
  byte-found : Found (at + 1) l f g
  byte-found =
      reach-cases l f (at + 1) q
      (λ e r. found (at + 1) l (beyond l f) f g e refl r)
      (λ e r. absurd (omega (arith, (nowhere-in l f (at + 1) (eqb (at + 1) 0) refl r).0)))

  pub byte-within : at + 8 * g.number < length l
  byte-within = let d = byte-found in let w = lying l g d.lies in let t = d.to in omega arith

  pub byte-is : get_or l (at + 8 * g.number) 0 ≡ get_or (source_from l f).bytes at 0
  byte-is =
      let d = byte-found in
      let t = d.to in
      let long = d.long in
      sym (le-one (at + 8 * g.number) l byte-within) ∙ sym (number-here l g 1 at d.lies t).1 ∙ ap (le_at 1) (sym ((d.same at (omega arith)).rest at (omega arith)))
      ∙ le-one at (source_from l f).bytes (omega arith)

-- ---- the corner of what was reached

-- the packet that was reached, and the place in it, are those of the payload place
pub corner-reached : (ps : Packets) (f g : Frame) (p : List ℕ) (last : Bool) (n : ℕ) → f.end ≡ f.base + length p → reach_from f ps n ≡ Ok g
    → corner_from f.base f.number (packet p last ps) n ≡ record { packet = g.number; place = 8 + (n - g.base) }
unfolding corner_from
corner-reached (stop s) f g p last n e r =
    split n f.end
    (λ h. let z = reach_here n f (stop s) h in let q : f ≡ g = cc in rw (le-leb n (f.base + length p) (omega arith), q))
    (λ h. let z = reach-stop n f {s = s} refl h in clash (cc))
corner-reached (packet x last' qs) f g p last n e r =
    split n f.end
    (λ h. let z = reach_here n f (packet x last' qs) h in let q : f ≡ g = cc in rw (le-leb n (f.base + length p) (omega arith), q))
    (λ h.
    rw (lt-leb n (f.base + length p) (omega arith), sym e)
    (corner-reached qs (frame_of f.end (f.number + 1) x last') g x last' n refl (sym (reach-on n f x last' qs h) ∙ r)))

-- ---- numbers and parts, by what was reached

module _ (l : List ℕ) (f : Frame) (k at : ℕ) where
  pub part-past : {r : ℕ} → reach_of l f (at + k) ≡ Err r → Err r ≡ part_read (part_at k (source_from l f) at whole)
  part-past q =
      let p = reach-past l f (at + k) q in
      ap Err p.1 ∙ part_cut k (source_from l f) at (lt-leb (at + k) (length (source_from l f).bytes) p.0)

  pub part-reached : {g : Frame} → reach_of l f (at + k) ≡ Ok g
      → Ok (record { part = record { start = at; len = k }; next = at + k }) ≡ part_read (part_at k (source_from l f) at whole)
  part-reached q = part-stands k (source_from l f) at (le-leb (at + k) (length (source_from l f).bytes) (reach-long l f (at + k) q).0)

-- in the frame itself, where a test b says that the frame holds them
module _ (l : List ℕ) (f : Frame) (k at : ℕ) {b : Bool} (e : b ≡ (lies l f && leb (at + k) f.end)) (t : b ≡ true) where
  tested : (lies l f ≡ true) × (at + k ≤ f.end)
  tested = let w = and-true (lies l f) (leb (at + k) f.end) (sym e ∙ t) in (w.0, leb-true (at + k) f.end w.1)

  -- its bytes are lent
  pub held-within : at + k + 8 * f.number ≤ length l
  held-within = let w = tested in let x = lying l f w.0 in let y = w.1 in omega arith

  pub number-held : {v : ℕ} → v ≡ le_at k (drop (at + 8 * f.number) l)
      → Ok (record { value = v; next = at + k }) ≡ number_read (number_at k (source_from l f) at whole)
  number-held q =
      let w = tested in
      let h = number-here l f k at w.0 w.1 in
      number-stands k (source_from l f) at (le-leb (at + k) (length (source_from l f).bytes) h.0) (q ∙ sym h.1)

  pub part_held : Ok (record { part = record { start = at; len = k }; next = at + k }) ≡ part_read (part_at k (source_from l f) at whole)
  part_held =
      let w = tested in
      part-stands k (source_from l f) at (le-leb (at + k) (length (source_from l f).bytes) (number-here l f k at w.0 w.1).0)
