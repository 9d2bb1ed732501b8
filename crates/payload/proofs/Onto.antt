-- From one packet to the next: what the walk finds after a frame, and that what is read from there on is the same. Assumes nothing.
use mathlib.Core.Path.{◌≡◌, refl, sym, ap, ◌∙◌}
use mathlib.Core.List.{List, [], ◌∷◌, ◌++◌, append-nil}
use mathlib.Core.Bool.{true, false}
use Prim.Native.Nat.{ℕ, ◌+◌, ◌-◌, ◌*◌, ◌≤◌, ◌<◌}
use native.Mathlib.Omega.{arith}
use lib.Dec.{eqb}
use lib.ListN.{length, take, drop, length-append, length-drop}
use lib.Seq.{drop-append-le, drop-drop, length-take-le, take_all, drop-length}
use borrow.Author.Tests.{le-leb, leb-true, eqb-true}
use Rattle.wire.proofs.Cases.{clash}
use Rattle.payload.specs.declared.frames.Frame.{Frame}
use Rattle.payload.specs.declared.frames.Next.{Next}
use Rattle.payload.specs.declared.frames.Stop as code
use Rattle.std.specs.Prelude.{Result, Ok, Err}
use Rattle.payload.specs.Stopped.{stop_by, stopped}
use Rattle.payload.specs.Packets.{Packets, packet, stop, Stop, bad, next_of, packets_from, packets_in, payload_of, stop_of, refusal_at, source_of}
use Rattle.payload.specs.Places.{Source, body_source}
use Rattle.payload.specs.Frames.{lies, beyond, source_from, body_frame, framed, first_of, moved_of}
use Rattle.payload.proofs.Sources.{Same, same_at, drop-take}
use Rattle.payload.proofs.Walk.{fits, turn, stops, begins, none_lent}

-- the payload of a frame's packet
abbrev pub here : List ℕ → Frame → List ℕ
here l f = take (f.end - f.base) (drop (f.base + 8 * f.number) l)

-- a frame that the lent bytes have
pub lying : (l : List ℕ) (f : Frame) → lies l f ≡ true → f.end + 8 * f.number ≤ length l
unfolding lies
lying l f e = leb-true (f.end + 8 * f.number) (length l) e

pub source_is : (l : List ℕ) (f : Frame) → lies l f ≡ true
    → source_from l f ≡ record { bytes = take f.end (drop (8 * f.number) l) ++ payload_of (beyond l f); stop = refusal_at (stop_of (beyond l f)) }
unfolding source_from
source_is l f e = rw e

module _ (l : List ℕ) (f : Frame) (e : lies l f ≡ true) where
  abbrev front : List ℕ
  front = take f.end (drop (8 * f.number) l)

  front_length : length front ≡ f.end
  front_length = length-take-le f.end (drop (8 * f.number) l) (omega (arith, lying l f e, length-drop (8 * f.number) l))

  pub source-length : length (source_from l f).bytes ≡ f.end + length (payload_of (beyond l f))
  source-length = ap (λ (s : Source). length s.bytes) (source_is l f e) ∙ length-append front (payload_of (beyond l f)) ∙ omega (arith, front_length)

  pub source-stop : (source_from l f).stop ≡ refusal_at (stop_of (beyond l f))
  source-stop = ap (λ (s : Source). s.stop) (source_is l f e)

  -- from a place of its packet on
  pub source-from : (n : ℕ) → n ≤ f.end → drop n (source_from l f).bytes ≡ take (f.end - n) (drop (n + 8 * f.number) l) ++ payload_of (beyond l f)
  source-from n h =
      let a : 8 * f.number + n ≡ n + 8 * f.number = omega arith in
      let y = drop-take n f.end (drop (8 * f.number) l) in
      let z : drop n front ≡ take (f.end - n) (drop (n + 8 * f.number) l) = y ∙ rw (drop-drop n (8 * f.number) l, a) in
      ap (λ (s : Source). drop n s.bytes) (source_is l f e)
      ∙ drop-append-le n front (payload_of (beyond l f)) (omega (arith, front_length))
      ∙ ap (λ (x : List ℕ). x ++ payload_of (beyond l f)) z

-- ---- after a frame

-- the packet g is the one after f's
pub record Onto (l : List ℕ) (f g : Frame) : Type 0 where
  pub lies : lies l g ≡ true
  pub base : g.base ≡ f.end
  pub number : g.number ≡ f.number + 1
  pub some : f.end < g.end
  pub size : length (here l g) ≡ g.end - g.base
  pub is : beyond l f ≡ packet (here l g) g.last (beyond l g)

pub data After (l : List ℕ) (f : Frame) : Result Frame Stop → Type 0 where
  goes : {g : Frame} → Onto l f g → After l f (Ok g)
  ends : {s : Stop} → beyond l f ≡ stop s → After l f (Err s)

module _ (l : List ℕ) (f : Frame) (e : lies l f ≡ true) where
  abbrev rest : List ℕ
  rest = drop (f.end + 8 * f.number) l

  onto : {p : Next} → next_of (f.number + 1) f.last rest ≡ Ok p
      → Onto l f (record { base = f.end; end = f.end + p.len; number = f.number + 1; last = p.last })
  unfolding beyond lies
  onto {p} q =
      let m = fits (f.number + 1) f.last rest q in
      let d = length-drop (f.end + 8 * f.number) l in
      let w : f.end + p.len + 8 * (f.number + 1) ≤ length l = omega (arith, lying l f e, m.1) in
      let a : f.end + 8 * f.number + 8 ≡ f.end + 8 * (f.number + 1) = omega arith in
      let b : f.end + p.len - f.end ≡ p.len = omega arith in
      let g : f.end + 8 * f.number + (8 + p.len) ≡ f.end + p.len + 8 * (f.number + 1) = omega arith in
      record {
        lies = le-leb (f.end + p.len + 8 * (f.number + 1)) (length l) w;
        base = refl;
        number = refl;
        some = omega (arith, m.0);
        size = length-take-le (f.end + p.len - f.end) (drop (f.end + 8 * (f.number + 1)) l) (omega (arith, length-drop (f.end + 8 * (f.number + 1)) l));
        is = turn (f.number + 1) f.last rest q ∙ rw (drop-drop 8 (f.end + 8 * f.number) l, drop-drop (8 + p.len) (f.end + 8 * f.number) l, a, b, g);
      }

  pub after-by : (x : Result Next Stop) → next_of (f.number + 1) f.last rest ≡ x → After l f (framed f.end (f.number + 1) x)
  unfolding beyond
  after-by (Ok p) q = goes (onto q)
  after-by (Err s) q = ends (stops (f.number + 1) f.last rest q)

  pub after : After l f (moved_of l f)
  unfolding moved_of
  after = after-by (next_of (f.number + 1) f.last rest) refl

-- what it tells
module _ {l : List ℕ} {f : Frame} where
  pub onto-of : {g : Frame} → After l f (Ok g) → Onto l f g
  onto-of (goes o) = o

  pub end-of : {s : Stop} → After l f (Err s) → beyond l f ≡ stop s
  end-of (ends e) = e

-- the same of what the code answers
module _ (l : List ℕ) (f : Frame) (e : lies l f ≡ true) {r : Result Frame code.Stop} (q : stopped r ≡ moved_of l f) where
  pub onto-by : {g : Frame} → r ≡ Ok g → Onto l f g
  onto-by t = onto-of (rw (sym q, t) at (after l f e))

  pub end-by : {s : code.Stop} → r ≡ Err s → beyond l f ≡ stop (stop_by s)
  end-by t = end-of (rw (sym q, t) at (after l f e))

-- what is read from the next packet on is the same
pub onto_same : {l : List ℕ} {f g : Frame} → lies l f ≡ true → Onto l f g → Same (source_from l f) (source_from l g) f.end
unfolding payload_of stop_of
onto_same {l} {f} {g} e o =
    let b = o.base in
    let s = o.some in
    let z : f.end - f.end ≡ 0 = omega arith in
    let q : take 0 (drop (f.end + 8 * f.number) l) ≡ [] = refl in
    let left : drop f.end (source_from l f).bytes ≡ payload_of (beyond l f) = source-from l f e f.end (omega arith) ∙ rw z in
    let right : drop f.end (source_from l g).bytes ≡ here l g ++ payload_of (beyond l g) = rw (sym b) (source-from l g o.lies g.base (omega arith)) in
    same_at f.end
    (left ∙ ap payload_of o.is ∙ sym right)
    (omega (arith, source-length l f e))
    (omega (arith, source-length l g o.lies))
    (source-stop l f e ∙ ap (λ (ps : Packets). refusal_at (stop_of ps)) o.is ∙ sym (source-stop l g o.lies))

-- by what stands there
pub moved_by_lem : (l : List ℕ) (f : Frame) {x : Result Next Stop} → x ≡ next_of (f.number + 1) f.last (drop (f.end + 8 * f.number) l) → framed f.end (f.number + 1) x ≡ moved_of l f
unfolding moved_of
moved_by_lem l f e = rw e

pub first-empty : (l : List ℕ) → eqb (length l) 0 ≡ true → Err (bad 8) ≡ first_of l
unfolding first_of
first-empty [] h = refl
first-empty (b ∷ l) h = absurd (omega (arith, eqb-true (length (b ∷ l)) 0 h))

pub first_some : (l : List ℕ) {x : Result Next Stop} → eqb (length l) 0 ≡ false → x ≡ next_of 1 false l → framed 0 1 x ≡ first_of l
unfolding first_of
first_some [] h e = clash (cc)
first_some (b ∷ l) h e = rw e

pub first-packet : (l : List ℕ) {p : Next} → eqb (length l) 0 ≡ false → Ok p ≡ next_of 1 false l → Ok (record { base = 0; end = p.len; number = 1; last = p.last }) ≡ first_of l
first-packet l {p} h e =
    let z : p.len ≡ 0 + p.len = omega arith in
    ap (λ (n : ℕ). Ok (record { base = 0; end = n; number = 1; last = p.last })) z ∙ first_some l h e

-- ---- the first packet, and a request's body

pub record First (l : List ℕ) (f : Frame) : Type 0 where
  pub lies : lies l f ≡ true
  pub base : f.base ≡ 0
  pub number : f.number ≡ 1
  pub some : 0 < f.end
  pub size : length (here l f) ≡ f.end - f.base
  pub is : packets_in l ≡ packet (here l f) f.last (beyond l f)

-- what begins the lent bytes: a packet, or what stops them
pub data Begins (l : List ℕ) : Result Frame Stop → Type 0 where
  first : {f : Frame} → First l f → Begins l (Ok f)
  none : {s : Stop} → packets_in l ≡ stop s → Begins l (Err s)

first_by : (l : List ℕ) (x : Result Next Stop) → 0 < length l → next_of 1 false l ≡ x → Begins l (framed 0 1 x)
unfolding beyond lies
first_by l (Ok p) h q =
    let m = fits 1 false l q in
    let a : 0 + p.len - 0 ≡ p.len = omega arith in
    let d : 8 + p.len ≡ 0 + p.len + 8 = omega arith in
    first {f = record { base = 0; end = 0 + p.len; number = 1; last = p.last }} (record {
      lies = le-leb (0 + p.len + 8) (length l) (omega (arith, m.1));
      base = refl;
      number = refl;
      some = omega (arith, m.0);
      size = length-take-le (0 + p.len - 0) (drop 8 l) (omega (arith, length-drop 8 l, m.1));
      is = begins l h ∙ turn 1 false l q ∙ rw (a, d);
    })
first_by l (Err s) h q = none (begins l h ∙ stops 1 false l q)

pub begun-by : (l : List ℕ) → Begins l (first_of l)
unfolding first_of
begun-by [] = none (none_lent [] refl)
begun-by (b ∷ l) = first_by (b ∷ l) (next_of 1 false (b ∷ l)) (omega arith) refl

module _ {l : List ℕ} where
  first-of : {f : Frame} → Begins l (Ok f) → First l f
  first-of (first o) = o

  none-of : {s : Stop} → Begins l (Err s) → packets_in l ≡ stop s
  none-of (none e) = e

-- the same of what the code answers
module _ (l : List ℕ) {r : Result Frame code.Stop} (q : stopped r ≡ first_of l) where
  pub first-is : {f : Frame} → r ≡ Ok f → First l f
  first-is t = first-of (rw (sym q, t) at (begun-by l))

  pub none-is : {s : code.Stop} → r ≡ Err s → packets_in l ≡ stop (stop_by s)
  none-is t = none-of (rw (sym q, t) at (begun-by l))

-- from the first packet on stands the whole payload
pub first-same : {l : List ℕ} {f : Frame} → First l f → Same (source_of (packets_in l)) (source_from l f) 0
unfolding source_of payload_of stop_of
first-same {l} {f} o =
    let b = o.base in
    let z : drop 0 (source_from l f).bytes ≡ here l f ++ payload_of (beyond l f) = rw (sym b) (source-from l f o.lies f.base (omega arith)) in
    same_at 0
    (ap payload_of o.is ∙ sym z)
    (omega arith)
    (omega arith)
    (ap (λ (ps : Packets). refusal_at (stop_of ps)) o.is ∙ sym (source-stop l f o.lies))

-- a request's body is read whole
pub body-source : (body : List ℕ) → source_from body (body_frame (length body)) ≡ body_source body
unfolding beyond packets_from payload_of stop_of lies
body-source body =
    let a : length body + 8 * 0 ≡ length body = omega arith in
    source_is body (body_frame (length body)) (le-leb (length body + 0) (length body) (omega arith)) ∙ rw (a, drop-length body, take_all (length body) body (omega arith), append-nil body)

pub body-read : (body : List ℕ) {f : Frame} → f ≡ body_frame (length body) → source_from body f ≡ body_source body
body-read body e = rw e (body-source body)
