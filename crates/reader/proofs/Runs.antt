-- A run over the packets of a well-formed list, from any position that stands where the list does: by induction over the list.
-- Assumes nothing.
use Rattle.std.specs.Prelude.{Some, None, Ok}
use mathlib.Core.Path.{◌≡◌, refl, sym, ap, ◌∙◌}
use mathlib.Core.Bool.{Bool, true, false, cond}
use mathlib.Core.List.{List, [], ◌∷◌, ◌++◌, map}
use Prim.Native.Nat.{ℕ, zero, suc, ◌+◌, ◌≤◌, ◌<◌}
use native.Mathlib.Omega.{arith}
use borrow.Author.Tests.{eq-eqb, le-ltb, le-leb}
use lib.ListN.{length, length-drop}
use Rattle.wire.specs.Fields.{Field, flat}
use Rattle.payload.specs.Places.{Source}
use Rattle.payload.specs.Packets.{Packets, packet, stop, over, packets_in, payload_of, stop_of, refusal_at, source_of}
use Rattle.payload.specs.Positions.{at, place_from, place_in, Corner, corner_of}
use Rattle.payload.proofs.Spots.{corner-back}
use Rattle.payload.proofs.Joined.{Whole}
use Rattle.token.specs.Tokens.{Token, EncodedCell, put, token_bytes, joined, states}
use Rattle.token.proofs.Puts.{bytes-before}
use Rattle.reader.specs.declared.Position.{Position}
use Rattle.reader.specs.declared.Token as read
use Rattle.reader.specs.declared.Token.TheVariants.{ColMetadata, Column, Row, Cell, Done, Message}
use Rattle.reader.specs.Positions.{fresh_position, stands, after}
use Rattle.reader.specs.Reader.{StepOf, settled, next_at, end_at, step_from, step_of, run_of, answer_of}
use Rattle.reader.specs.Meaning.{token, meaning_of, kth}
use Rattle.reader.proofs.WellFormed.{Phase, between, WF, wf-metadata, wf-column, wf-row, wf-cell, wf-message, wf-done, wf-last}
use Rattle.reader.proofs.Held.{Holds, stands-ok}
use Rattle.reader.proofs.Found.{Finds, finds-metadata, finds-column, finds-row, finds-cell, finds-done, finds-message}

-- the fields of tokens, one after another
abbrev pub put_all : List (Token EncodedCell) → List Field
put_all [] = []
put_all (t ∷ ts) = put t (put_all ts)

-- are their bytes
pub payload-fields : (ts : List (Token EncodedCell)) → joined (map token_bytes ts) ≡ flat (put_all ts)
unfolding flat
payload-fields [] = refl
payload-fields (t ∷ ts) = ap (λ (l : List ℕ). token_bytes t ++ l) (payload-fields ts) ∙ sym (bytes-before t (put_all ts))

-- ---- the answers of a run

module _ (p : List ℕ) (pos : Position) {s : StepOf} (e : step_of p pos ≡ s) where
  pub answer-first : answer_of 0 p pos ≡ s.answer
  unfolding answer_of run_of
  answer-first = ap (λ (s : StepOf). s.answer) e

  pub answer-next : (n : ℕ) → answer_of (suc n) p pos ≡ answer_of n p s.next
  unfolding answer_of run_of
  answer-next n = ap (λ (s : StepOf). answer_of n p s.next) e

-- packets that end as they should, of a payload that one packet could have
pub record Headed (l : List ℕ) : Type 0 where
  pub first : List ℕ
  pub last : Bool
  pub more : Packets
  pub some : packets_in l ≡ packet first last more
  pub ends : stop_of (packets_in l) ≡ over
  pub short : length (source_of (packets_in l)).bytes < 65536

-- the end, and a token, at a payload place
chosen : {b : Bool} (x y : StepOf) → b ≡ true → cond b x y ≡ x
chosen x y e = rw e

passed : {b : Bool} (x y : StepOf) → b ≡ false → cond b x y ≡ y
passed x y e = rw e

module _ (l : List ℕ) (pos : Position) where
  -- a position is at a payload place
  abbrev pub Placed : ℕ → Type 0
  Placed n = place_in (packets_in l) pos.packet pos.place ≡ at n

  -- past the tests
  stepped : (n : ℕ) → Placed n → stands pos ≡ true
      → step_of l pos ≡ cond pos.over (end_at (source_of (packets_in l)) n pos) (settled (packets_in l) pos (next_at (source_of (packets_in l)) n pos))
  unfolding step_of
  stepped n q e = ap (step_from (packets_in l) pos) q ∙ chosen _ _ e

  going : (n : ℕ) → Placed n → stands pos ≡ true → pos.over ≡ false → step_of l pos ≡ settled (packets_in l) pos (next_at (source_of (packets_in l)) n pos)
  going n q e o = stepped n q e ∙ passed _ _ o

after-placed : (l : List ℕ) (pos : Position) (t : read.Token) (c : Corner) {n : ℕ} → place_in (packets_in l) c.packet c.place ≡ at n → Placed l (after pos t c) n
unfolding after
after-placed l pos (ColMetadata n) c e = e
after-placed l pos (Column user flags code limit collation name) c e = e
after-placed l pos Row c e = e
after-placed l pos (Cell v) c e = e
after-placed l pos (Done status command count) c e = e
after-placed l pos (Message kind number state class text server procedure line) c e = e

module _ {l : List ℕ} (g : Headed l) where
  abbrev ps : Packets
  ps = packets_in l

  abbrev src : Source
  src = source_of (packets_in l)

  -- a place of the payload, as a position and back
  back : (n : ℕ) → n ≤ length src.bytes → place_in ps (corner_of ps n).packet (corner_of ps n).place ≡ at n
  unfolding source_of
  back n h = rw g.some (corner-back g.first g.last g.more n (rw g.some at h))

  stops : src.stop ≡ 24
  unfolding source_of
  stops = ap refusal_at g.ends

  module _ {pos : Position} {n : ℕ} {ph : Phase} where
    -- at the payload's end, past the last DONE, the end, and again
    ends : Placed l pos n → Holds src pos n true ph [] → step_of l pos ≡ record { answer = Ok None; next = pos }
    unfolding flat
    ends q h =
        let e : n ≡ length src.bytes = omega (arith, sym (length-drop n src.bytes) ∙ ap length h.here.is, h.here.inside) in
        stepped l pos n q (stands-ok h) ∙ chosen _ _ h.over-is ∙ rw (le-ltb n (length src.bytes) (omega arith), eq-eqb src.stop 24 stops)

    stays : Placed l pos n → Holds src pos n true ph [] → (k : ℕ) → answer_of k l pos ≡ Ok None
    stays q h zero = answer-first l pos (ends q h)
    stays q h (suc k) = answer-next l pos (ends q h) k ∙ stays q h k

    -- a token, and what the run means from after it
    goes_on_lem : {fs gs : List Field} {t : Token EncodedCell} {over : Bool} {next : Phase} (ts : List (Token EncodedCell)) → Placed l pos n → Holds src pos n false ph fs
        → (f : Finds src pos n t over next gs) → ((k : ℕ) → meaning_of src.bytes (answer_of k l (after pos f.found (corner_of ps f.place))) ≡ kth (map states ts) k)
        → (k : ℕ) → meaning_of src.bytes (answer_of k l pos) ≡ kth (map states (t ∷ ts)) k
    goes_on_lem {t = t} ts q h f rest k = from (going l pos n q (stands-ok h) h.over-is ∙ ap (settled ps pos) f.is) k
      where
        from : step_of l pos ≡ record { answer = Ok (Some f.found); next = after pos f.found (corner_of ps f.place) } → (k : ℕ)
            → meaning_of src.bytes (answer_of k l pos) ≡ kth (map states (t ∷ ts)) k
        from e zero = ap (meaning_of src.bytes) (answer-first l pos e) ∙ ap token f.means
        from e (suc k) = ap (meaning_of src.bytes) (answer-next l pos e k) ∙ rest k

  -- the position after a token that was found is at its place
  next-placed : {pos : Position} {n : ℕ} {gs : List Field} {t : Token EncodedCell} {over : Bool} {next : Phase} (f : Finds src pos n t over next gs)
      → Placed l (after pos f.found (corner_of ps f.place)) f.place
  next-placed {pos} f = after-placed l pos f.found (corner_of ps f.place) (back f.place (f.holds (corner_of ps f.place)).here.inside)

  -- from any position
  pub run-from : {pos : Position} {n : ℕ} {ph : Phase} {ts : List (Token EncodedCell)} → Placed l pos n → WF ph ts → Holds src pos n false ph (put_all ts)
      → (k : ℕ) → meaning_of src.bytes (answer_of k l pos) ≡ kth (map states ts) k
  run-from {pos = pos} {n = n} q (wf-metadata {ts = ts} m w) h k = let f = finds-metadata m h in goes_on_lem ts q h f (λ i. run-from {pos = after pos f.found (corner_of ps f.place)} {n = f.place} (next-placed f) w (f.holds _) i) k
  run-from {pos = pos} {n = n} q (wf-column {ts = ts} ok w) h k = let f = finds-column ok h in goes_on_lem ts q h f (λ i. run-from {pos = after pos f.found (corner_of ps f.place)} {n = f.place} (next-placed f) w (f.holds _) i) k
  run-from {pos = pos} {n = n} q (wf-row {ts = ts} m w) h k = let f = finds-row m h in goes_on_lem ts q h f (λ i. run-from {pos = after pos f.found (corner_of ps f.place)} {n = f.place} (next-placed f) w (f.holds _) i) k
  run-from {pos = pos} {n = n} q (wf-cell {v = v} {ts = ts} ok w) h k = let f = finds-cell g.short v ok h in goes_on_lem ts q h f (λ i. run-from {pos = after pos f.found (corner_of ps f.place)} {n = f.place} (next-placed f) w (f.holds _) i) k
  run-from {pos = pos} {n = n} q (wf-message {ts = ts} ok w) h k = let f = finds-message g.short ok h in goes_on_lem ts q h f (λ i. run-from {pos = after pos f.found (corner_of ps f.place)} {n = f.place} (next-placed f) w (f.holds _) i) k
  run-from {pos = pos} {n = n} q (wf-done {ts = ts} ok m w) h k =
      let f = finds-done ok h in
      goes_on_lem ts q h f (λ i. run-from {pos = after pos f.found (corner_of ps f.place)} {n = f.place} (next-placed f) w (rw m at (f.holds (corner_of ps f.place))) i) k
  run-from {pos = pos} {n = n} q (wf-last ok m) h k =
      let f = finds-done ok h in
      goes_on_lem [] q h f (λ i. ap (meaning_of src.bytes) (stays (next-placed f) (rw m at (f.holds (corner_of ps f.place))) i)) k

-- ---- the packets of some tokens

module _ (l : List ℕ) (ts : List (Token EncodedCell)) (w : Whole (packets_in l) (joined (map token_bytes ts))) where
  -- packets that hold something begin with one
  some-by : (qs : Packets) → packets_in l ≡ qs → 1 ≤ length (joined (map token_bytes ts)) → length (joined (map token_bytes ts)) < 65536 → Headed l
  unfolding source_of payload_of
  some-by (stop s) e h m = absurd (omega (arith, ap length (sym w.payload ∙ ap payload_of e)))
  some-by (packet p last qs) e h m = record { first = p; last = last; more = qs; some = e; ends = w.ends; short = rw w.payload m }

  pub headed : 1 ≤ length (joined (map token_bytes ts)) → length (joined (map token_bytes ts)) < 65536 → Headed l
  headed h m = some-by (packets_in l) refl h m

  -- a run starts where the list does
  pub starts : Holds (source_of (packets_in l)) fresh_position 0 false (between []) (put_all ts)
  unfolding source_of
  starts = record {
    here = record { inside = omega arith; is = w.payload ∙ payload-fields ts };
    count-is = refl;
    count≤ = omega arith;
    types# = refl;
    limits# = refl;
    types_are = refl;
    limits-are = refl;
    good = tt;
    columns-are = refl;
    cells_are = refl;
    read = [];
    read_is = refl;
    over-is = refl;
  }

-- the fresh position is at the payload's first place
pub fresh-placed : {l : List ℕ} → Headed l → Placed l fresh_position 0
unfolding place_in place_from
fresh-placed g = rw (g.some, le-leb 8 (8 + length g.first) (omega arith)) refl
