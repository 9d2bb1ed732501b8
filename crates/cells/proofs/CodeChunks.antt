-- The chunks of a Max value, one turn after another, and that enough turns are as good as more. Assumes nothing.
use mathlib.Core.Path.{◌≡◌, refl, sym, ap, ◌∙◌}
use mathlib.Core.Bool.{Bool, true, false, cond}
use mathlib.Core.List.{List, ◌++◌}
use Prim.Native.Nat.{ℕ, zero, suc, ◌+◌, ◌-◌, ◌≤◌, ◌<◌}
use native.Mathlib.Omega.{arith}
use lib.Dec.{eqb, leb}
use lib.ListN.{length, take, drop, length-drop, length-append}
use lib.Seq.{length-take-le}
use borrow.Author.Tests.{leb-true, eqb-true}
use Rattle.wire.proofs.Cases.{clash}
use Rattle.wire.specs.Le.{le_at}
use Rattle.wire.specs.declared.Part.{Part}
use Rattle.std.specs.Prelude.{Result, Ok, Err}
use Rattle.refusals.specs.declared.Refusal.{Refusal}
use Rattle.refusals.specs.Refused.{number, numbered}
use Rattle.cells.specs.declared.Chunk.{Chunk}
use Rattle.cells.specs.declared.Chunk.TheVariants as chunk
use Rattle.payload.specs.Places.{Source, Place, Read, whole, refused, number_at, part_at, must, then, part_to}
use Rattle.cells.specs.Cells.{is_chunk, is_last, chunk_at, chunks_at}
use Rattle.cells.specs.Code.{chunk_read}
use Rattle.cells.specs.declared.ChunksAt.{ChunksAt}
use Rattle.cells.specs.Answers.{chunks_read}
use Rattle.cells.specs.Values.{joined_from}
use Rattle.cells.proofs.Joined.{joined-turn, joined_end}
use Rattle.payload.specs.declared.frames.Frame.{Frame}
use Rattle.payload.specs.Frames.{source_from, frame_at}
use Rattle.payload.proofs.Sources.{Same, same_self, same-later, same_then}
use Rattle.payload.proofs.Agree.{agree-is}
use Rattle.payload.proofs.Reach.{frame_same}
use Rattle.cells.proofs.Agree.{chunk-agree}
use Rattle.payload.proofs.CodeReads.{then_same, then-got, then-not, if-not}

-- ---- what the answer for a chunk tells

more_of : (b : Bool) (m at n to : ℕ) → eqb m 0 ≡ b → cond b (chunk.Last at) (chunk.More m at) ≡ chunk.More n to → (whole m at ≡ whole n to) × (eqb n 0 ≡ false)
more_of true m at n to q e = clash (cc)
more_of false m at n to q e = let f : m ≡ n = cc in (cc, rw f at q)

last-of : (b : Bool) (m at to : ℕ) → eqb m 0 ≡ b → cond b (chunk.Last at) (chunk.More m at) ≡ chunk.Last to → whole m at ≡ whole 0 to
last-of true m at to q e = let f : m ≡ 0 = eqb-true m 0 q in cc
last-of false m at to q e = clash (cc)

pub more-is : (x : Read ℕ) {r : Result Chunk Refusal} {n to : ℕ} → numbered r ≡ chunk_read x → r ≡ Ok (chunk.More n to) → (x ≡ whole n to) × (eqb n 0 ≡ false)
more-is x {n = n} {to = to} e f = go x (rw f at e)
  where
    go : (x : Read ℕ) → Ok (chunk.More n to) ≡ chunk_read x → (x ≡ whole n to) × (eqb n 0 ≡ false)
    go (whole m at) e = more_of (eqb m 0) m at n to refl (cc)
    go (refused m) e = clash (cc)

pub last-is : (x : Read ℕ) {r : Result Chunk Refusal} {to : ℕ} → numbered r ≡ chunk_read x → r ≡ Ok (chunk.Last to) → x ≡ whole 0 to
last-is x {to = to} e f = go x (rw f at e)
  where
    go : (x : Read ℕ) → Ok (chunk.Last to) ≡ chunk_read x → x ≡ whole 0 to
    go (whole m at) e = last-of (eqb m 0) m at to refl (cc)
    go (refused m) e = clash (cc)

pub chunk-is-not : (x : Read ℕ) {r : Result Chunk Refusal} {m : Refusal} → numbered r ≡ chunk_read x → r ≡ Err m → x ≡ refused (number m)
chunk-is-not x {m = m} e f = go x (rw f at e)
  where
    go : (x : Read ℕ) → Err (number m) ≡ chunk_read x → x ≡ refused (number m)
    go (whole n at) e = clash (cc)
    go (refused n) e = cc

-- ---- what the answer for chunks tells

pub chunks-is : (src : Source) (start : Place) (x : Read Part) {r : Result ChunksAt Refusal} {n : ChunksAt} → numbered r ≡ chunks_read src start x → r ≡ Ok n
    → (x ≡ whole n.part n.next) × (n.count ≡ length (joined_from src.bytes start))
chunks-is src start x {n = n} e f = go x (rw f at e)
  where
    go : (x : Read Part) → Ok n ≡ chunks_read src start x → (x ≡ whole n.part n.next) × (n.count ≡ length (joined_from src.bytes start))
    go (whole v to) e =
        let q : n ≡ record { part = v; count = length (joined_from src.bytes start); next = to } = cc in
        (rw q, rw q)
    go (refused m) e = clash (cc)

pub chunks-is-not : (src : Source) (start : Place) (x : Read Part) {r : Result ChunksAt Refusal} {m : Refusal} → numbered r ≡ chunks_read src start x → r ≡ Err m
    → x ≡ refused (number m)
chunks-is-not src start x {m = m} e f = go x (rw f at e)
  where
    go : (x : Read Part) → Err (number m) ≡ chunks_read src start x → x ≡ refused (number m)
    go (whole v to) e = clash (cc)
    go (refused n) e = cc

-- ---- a chunk that was read lies in the packet

module _ {A : Type 0} where
  passed : (b : Bool) (x : Read A) (n : ℕ) {a : A} {to : ℕ} → cond b x (refused n) ≡ whole a to → (b ≡ true) × (x ≡ whole a to)
  passed true x n e = (refl, e)
  passed false x n e = clash (cc)

-- by the tests that it passed
says_of : (b : Bool) (len stop at m n to : ℕ) (last more : Bool) → eqb m 0 ≡ b
    → cond b (cond last (whole 0 at) (refused 26)) (cond more (cond (leb (at + m) len) (whole m (at + m)) (refused stop)) (refused 26)) ≡ whole n to
    → at ≤ len → (m ≡ n) × (at + n ≡ to) × (to ≤ len)
says_of true len stop at m n to last more q e h =
    let w = passed last _ 26 e in
    let f : at ≡ to = cc in
    let g : n ≡ 0 = cc in
    (omega (arith, eqb-true m 0 q), omega arith, omega arith)
says_of false len stop at m n to last more q e h =
    let w = passed more _ 26 e in
    let v = passed (leb (at + m) len) _ stop w.1 in
    let f : at + m ≡ to = cc in
    let g : m ≡ n = cc in
    let l : at + m ≤ len = leb-true (at + m) len v.0 in
    (g, omega arith, omega arith)

module _ (text known : Bool) (p : Source) where
  pub chunk-says : (left at n to : ℕ) → chunk_at text known p left at ≡ whole n to
      → (le_at 4 (drop at p.bytes) ≡ n) × (at + 4 + n ≡ to) × (to ≤ length p.bytes)
  unfolding chunk_at number_at part_at must
  chunk-says left at n to e =
      let w = passed (leb (at + 4) (length p.bytes)) _ p.stop e in
      let l : at + 4 ≤ length p.bytes = leb-true (at + 4) (length p.bytes) w.0 in
      let m : ℕ = le_at 4 (drop at p.bytes) in
      says_of (eqb m 0) (length p.bytes) p.stop (at + 4) m n to (is_last known left) (is_chunk text known left m) refl w.1 l

  pub chunk-fits : (left at n to : ℕ) → chunk_at text known p left at ≡ whole n to → (at < to) × (to ≤ length p.bytes)
  chunk-fits left at n to e = let s = chunk-says left at n to e in (omega (arith, s.1), s.2)

  -- ---- turns

  module _ (start : ℕ) where
    -- how the chunks go on from one
    abbrev onward : ℕ → ℕ → ℕ → Place → Read Part
    onward turns left n at = cond (eqb n 0) (whole (part_to start at) at) (chunks_at turns text known p start (left - n) at)

    turn : (turns left at : ℕ) → chunks_at (suc turns) text known p start left at ≡ then (chunk_at text known p left at) (onward turns left)
    unfolding chunks_at
    turn turns left at = refl

    -- a run that has enough turns does not depend on how many
    enough : (k j left at : ℕ) → length p.bytes - at < k → length p.bytes - at < j → chunks_at k text known p start left at ≡ chunks_at j text known p start left at
    enough zero j left at hk hj = absurd (omega arith)
    enough (suc k) zero left at hk hj = absurd (omega arith)
    enough (suc k) (suc j) left at hk hj =
        turn k left at
        ∙ then_same (chunk_at text known p left at) (onward k left) (onward j left) (λ n to e.
        let l = chunk-fits left at n to e in
        ap (cond (eqb n 0) (whole (part_to start to) to)) (enough k j (left - n) to (omega arith) (omega arith)))
        ∙ sym (turn j left at)

    -- from a chunk, from the zero length, and from a refusal
    pub goes_on_lem : (left at n to : ℕ) → (chunk_at text known p left at ≡ whole n to) × (eqb n 0 ≡ false)
        → chunks_at (suc (length p.bytes)) text known p start left at ≡ chunks_at (suc (length p.bytes)) text known p start (left - n) to
    goes_on_lem left at n to (e, f) =
        let l = chunk-fits left at n to e in
        turn (length p.bytes) left at ∙ then-got (onward (length p.bytes) left) e ∙ if-not _ _ f
        ∙ enough (length p.bytes) (suc (length p.bytes)) (left - n) to (omega arith) (omega arith)

    pub ends : (left at to : ℕ) → chunk_at text known p left at ≡ whole 0 to → chunks_at (suc (length p.bytes)) text known p start left at ≡ whole (part_to start to) to
    ends left at to e = turn (length p.bytes) left at ∙ then-got (onward (length p.bytes) left) e

    pub breaks : (left at n : ℕ) → chunk_at text known p left at ≡ refused n → chunks_at (suc (length p.bytes)) text known p start left at ≡ refused n
    breaks left at n e = turn (length p.bytes) left at ∙ then-not (onward (length p.bytes) left) e

-- ---- the loop: the chunks of a value from start on have been read up to a place of a frame, and their bytes counted

-- what the chunks from start on come to
abbrev chunks_from : List ℕ → Frame → Bool → Bool → ℕ → ℕ → ℕ → Read Part
chunks_from l f text known start left at = chunks_at (suc (length (source_from l f).bytes)) text known (source_from l f) start left at

pub record Chunking (l : List ℕ) (f here : Frame) (text known : Bool) (start total at left count : ℕ) : Type 0 where
  pub from : start ≤ at
  pub most : count ≤ at
  pub same : Same (source_from l f) (source_from l here) at
  pub is : chunks_from l f text known start total start ≡ chunks_from l f text known start left at
  pub counted : count + length (joined_from (source_from l f).bytes at) ≡ length (joined_from (source_from l f).bytes start)

pub chunking-begins : (l : List ℕ) (f : Frame) (text known : Bool) (start total : ℕ) → Chunking l f f text known start total start total 0
chunking-begins l f text known start total =
    record { from = omega arith; most = omega arith; same = same_self (source_from l f) start; is = refl; counted = omega arith }

module _ {l : List ℕ} {f here : Frame} {text known : Bool} {start total at left count : ℕ} (c : Chunking l f here text known start total at left count) where
  -- the chunk is that of the first frame's source
  same-chunk : chunk_at text known (source_from l f) left at ≡ chunk_at text known (source_from l here) left at
  same-chunk = agree-is (chunk-agree text known left at c.same)

  module _ {r : Result Chunk Refusal} (e : numbered r ≡ chunk_read (chunk_at text known (source_from l here) left at)) where
    pub chunking-breaks : {m : Refusal} → r ≡ Err m → Err (number m) ≡ chunks_read (source_from l f) start (chunks_from l f text known start total start)
    chunking-breaks q =
        sym (ap (chunks_read (source_from l f) start) (c.is ∙ breaks text known (source_from l f) start left at _ (same-chunk ∙ chunk-is-not _ e q)))

    pub chunking-ends : {to : ℕ} → r ≡ Ok (chunk.Last to)
        → Ok (record { part = part_to start to; count = count; next = to }) ≡ chunks_read (source_from l f) start (chunks_from l f text known start total start)
    chunking-ends {to} q =
        let last = same-chunk ∙ last-is _ e q in
        let all : count ≡ length (joined_from (source_from l f).bytes start) =
        omega (arith, c.counted, ap length (joined_end (source_from l f).bytes at (chunk-says text known (source_from l f) left at _ _ last).0)) in
        rw all (sym (ap (chunks_read (source_from l f) start) (c.is ∙ ends text known (source_from l f) start left at _ last)))

    pub chunking-last : {to : ℕ} → r ≡ Ok (chunk.Last to) → start ≤ to
    chunking-last q = let h = c.from in omega (arith, (chunk-fits text known (source_from l f) left at _ _ (same-chunk ∙ last-is _ e q)).0)

    pub chunking-says : {n to : ℕ} → r ≡ Ok (chunk.More n to)
        → (le_at 4 (drop at (source_from l f).bytes) ≡ n) × (at + 4 + n ≡ to) × (to ≤ length (source_from l f).bytes)
    chunking-says q = chunk-says text known (source_from l f) left at _ _ (same-chunk ∙ (more-is _ e q).0)

    -- a chunk's bytes are counted
    one-counted : {n to : ℕ} → r ≡ Ok (chunk.More n to) → length (joined_from (source_from l f).bytes at) ≡ n + length (joined_from (source_from l f).bytes to)
    one-counted {n} {to} q =
        let bytes = (source_from l f).bytes in
        let s = chunking-says q in
        let piece = take n (drop (at + 4) bytes) in
        let long : length piece ≡ n = length-take-le n (drop (at + 4) bytes) (omega (arith, s.1, s.2, length-drop (at + 4) bytes)) in
        let turned : joined_from bytes at ≡ piece ++ joined_from bytes to = joined-turn bytes at s.0 (more-is (chunk_at text known (source_from l here) left at) e q).1 ∙ rw s.1 in
        ap length turned ∙ length-append piece (joined_from bytes to) ∙ rw long

    pub chunking-on : {n to rest sum : ℕ} {next : Frame} → r ≡ Ok (chunk.More n to) → rest ≡ left - n → sum ≡ count + n → next ≡ frame_at l here to
        → Chunking l f next text known start total to rest sum
    chunking-on {n} {to} q b d g =
        let m = more-is (chunk_at text known (source_from l here) left at) e q in
        let h = chunking-says q in
        let k = c.from in
        record {
          from = omega (arith, h.1);
          most = omega (arith, h.1, c.most);
          same = rw g (same_then (same-later at (omega (arith, h.1)) c.same) (frame_same l here to));
          is = c.is ∙ goes_on_lem text known (source_from l f) start left at n to (same-chunk ∙ m.0, m.1) ∙ rw b;
          counted = omega (arith, c.counted, one-counted q);
        }
