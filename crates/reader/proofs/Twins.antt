-- What is read of packets depends on their payload and on the refusal after it alone: over other packets with the same payload each
-- answer of a run is the same. Positions differ in packet and place, and stand at one payload place. Assumes nothing.
use Prim.Native.Nat.{ℕ, zero, suc, ◌+◌, ◌≤◌}
use mathlib.Core.Path.{◌≡◌, refl, sym, ap, ◌∙◌}
use mathlib.Core.Bool.{Bool, true, false, cond}
use mathlib.Core.List.{List}
use native.Mathlib.Omega.{arith}
use lib.ListN.{length}
use borrow.Author.Tests.{le-leb}
use Rattle.payload.specs.Places.{Source, Read, whole, refused}
use Rattle.payload.specs.Packets.{Packets, packet, packets_in, source_of}
use Rattle.payload.specs.Positions.{at, place_from, place_in, Corner, corner_of}
use Rattle.payload.proofs.Sources.{same_self}
use Rattle.payload.proofs.Agree.{agree-to}
use Rattle.payload.proofs.Spots.{corner-back}
use Rattle.reader.specs.declared.Position.{Position}
use Rattle.reader.specs.declared.Token.{Token}
use Rattle.reader.specs.declared.Token.TheVariants.{ColMetadata, Column, Row, Cell, Done, Message}
use Rattle.reader.specs.Positions.{fresh_position, stands, after}
use Rattle.reader.specs.Reader.{StepOf, refused_at, settled, row_cell_at, next_at, ending, end_at, step_from, step_of, run_of, answer_of}
use Rattle.reader.proofs.Agree.{next_agree}

-- packets that begin with one
pub record Begun (l : List ℕ) : Type 0 where
  pub first : List ℕ
  pub last : Bool
  pub more : Packets
  pub is : packets_in l ≡ packet first last more

-- a position at another packet and place
abbrev moved : Position → Corner → Position
moved pos c =
    record { packet = c.packet; place = c.place; count = pos.count; types = pos.types; limits = pos.limits; columns_left = pos.columns_left; cells_left = pos.cells_left; over = pos.over }

-- a payload place of some packets, by a position's packet and place
abbrev Stands : List ℕ → Corner → ℕ → Type 0
Stands l c n = place_in (packets_in l) c.packet c.place ≡ at n

module _ (l m : List ℕ) where
  -- two steps with one answer, after which the positions stand at one payload place
  record Twins (s t : StepOf) : Type 0 where
    answers : s.answer ≡ t.answer
    base : Position
    here : Corner
    there : Corner
    place : ℕ
    next_here : s.next ≡ moved base here
    next-there : t.next ≡ moved base there
    stands_here : Stands l here place
    stands-there : Stands m there place

  twins-cond : (b : Bool) (x y u v : StepOf) → Twins x u → Twins y v → Twins (cond b x y) (cond b u v)
  twins-cond true x y u v f g = f
  twins-cond false x y u v f g = g

  module _ (pos : Position) (c d : Corner) (n : ℕ) (p : Stands l c n) (q : Stands m d n) where
    -- the positions stay
    stay : {s t : StepOf} → s.answer ≡ t.answer → s.next ≡ moved pos c → t.next ≡ moved pos d → Twins s t
    stay e f g = record { answers = e; base = pos; here = c; there = d; place = n; next_here = f; next-there = g; stands_here = p; stands-there = q }

-- after a token nothing of a position stays but what it holds
after-moved : (pos : Position) (c : Corner) (t : Token) (to : Corner) → after (moved pos c) t to ≡ moved (after pos t (record { packet = 0; place = 0 })) to
unfolding after
after-moved pos c (ColMetadata n) to = refl
after-moved pos c (Column user flags code limit collation name) to = refl
after-moved pos c Row to = refl
after-moved pos c (Cell v) to = refl
after-moved pos c (Done status command count) to = refl
after-moved pos c (Message kind number state class text server procedure line) to = refl

-- a place of the payload, as a position and back
back : {l : List ℕ} → Begun l → (n : ℕ) → n ≤ length (source_of (packets_in l)).bytes → Stands l (corner_of (packets_in l) n) n
unfolding source_of
back g n h = rw g.is (corner-back g.first g.last g.more n (rw g.is at h))

fresh-stands : {l : List ℕ} → Begun l → Stands l (record { packet = 1; place = 8 }) 0
unfolding place_in place_from
fresh-stands g = rw (g.is, le-leb 8 (8 + length g.first) (omega arith)) refl

same-stands : (pos : Position) (c d : Corner) → stands (moved pos c) ≡ stands (moved pos d)
unfolding stands
same-stands pos c d = refl

same_next : (a b : Source) (n : ℕ) (pos : Position) (c d : Corner) → a ≡ b → next_at a n (moved pos c) ≡ next_at b n (moved pos d)
unfolding next_at row_cell_at
same_next a b n pos c d e = rw e refl

module _ {l m : List ℕ} (g : Begun l) (h : Begun m) (same : source_of (packets_in l) ≡ source_of (packets_in m)) where
  abbrev src : Source
  src = source_of (packets_in l)

  module _ (pos : Position) (c d : Corner) (n : ℕ) (p : Stands l c n) (q : Stands m d n) where
    -- what was read, as a step
    settled-twins : (r : Read Token) → ((t : Token) (to : ℕ) → r ≡ whole t to → to ≤ length src.bytes)
        → Twins l m (settled (packets_in l) (moved pos c) r) (settled (packets_in m) (moved pos d) r)
    settled-twins (refused n) f = stay l m pos c d _ p q refl refl refl
    settled-twins (whole t to) f =
        let k = f t to refl in
        record {
          answers = refl;
          base = after pos t (record { packet = 0; place = 0 });
          here = corner_of (packets_in l) to;
          there = corner_of (packets_in m) to;
          place = to;
          next_here = after-moved pos c t (corner_of (packets_in l) to);
          next-there = after-moved pos d t (corner_of (packets_in m) to);
          stands_here = back g to k;
          stands-there = back h to (rw (sym same) k);
        }

    next-twins : Twins l m (settled (packets_in l) (moved pos c) (next_at src n (moved pos c))) (settled (packets_in m) (moved pos d) (next_at (source_of (packets_in m)) n (moved pos d)))
    next-twins =
        rw (sym (same_next src (source_of (packets_in m)) n pos c d same))
        (settled-twins (next_at src n (moved pos c)) (λ t to e. (agree-to (next_agree (moved pos c) n (same_self src n)) e).1))

    end-twins : Twins l m (end_at src n (moved pos c)) (end_at (source_of (packets_in m)) n (moved pos d))
    end-twins = stay l m pos c d n p q (ap (λ (s : Source). ending s n) same) refl refl

    from-twins : Twins l m (step_from (packets_in l) (moved pos c) (at n)) (step_from (packets_in m) (moved pos d) (at n))
    from-twins =
        rw (sym (same-stands pos c d))
        (twins-cond l m (stands (moved pos c)) _ _ _ _ (twins-cond l m pos.over _ _ _ _ end-twins next-twins)
        (stay l m pos c d n p q {s = refused_at (moved pos c) 24} {t = refused_at (moved pos d) 24} refl refl refl))

    step-twins : Twins l m (step_of l (moved pos c)) (step_of m (moved pos d))
    unfolding step_of
    step-twins = rw (p, q) from-twins

  -- from positions that stand at one payload place
  run-twins : (k : ℕ) (pos : Position) (c d : Corner) (n : ℕ) → Stands l c n → Stands m d n → answer_of k l (moved pos c) ≡ answer_of k m (moved pos d)
  unfolding answer_of run_of
  run-twins zero pos c d n p q = (step-twins pos c d n p q).answers
  run-twins (suc k) pos c d n p q =
      let t = step-twins pos c d n p q in
      ap (answer_of k l) t.next_here ∙ run-twins k t.base t.here t.there t.place t.stands_here t.stands-there ∙ sym (ap (answer_of k m) t.next-there)

  pub same-answers : (k : ℕ) → answer_of k l fresh_position ≡ answer_of k m fresh_position
  same-answers k = run-twins k fresh_position (record { packet = 1; place = 8 }) (record { packet = 1; place = 8 }) 0 (fresh-stands g) (fresh-stands h)
