-- What is found from a spot, by what is known of its packets; and a position's step as what is found from its parts. Assumes nothing.
use Rattle.std.specs.Prelude.{Some, None, Ok, Err}
use mathlib.Core.Path.{◌≡◌, refl, sym, ap, ◌∙◌}
use mathlib.Core.Bool.{Bool, true, false, cond}
use mathlib.Core.List.{List}
use Prim.Native.Nat.{ℕ, ◌+◌, ◌≤◌}
use native.Mathlib.Omega.{arith}
use lib.Dec.{eqb, ltb}
use lib.ListN.{length}
use borrow.Author.Tests.{lt-ltb, le-ltb, eq-eqb, ne_eqb}
use Rattle.payload.specs.declared.frames.Frame.{Frame}
use Rattle.payload.specs.declared.frames.Spotted.{Spotted}
use Rattle.payload.specs.Places.{Source, Read, whole, refused}
use Rattle.payload.specs.Packets.{Packets, packets_in, source_of}
use Rattle.payload.specs.Positions as positions
use Rattle.payload.specs.Positions.{Placed, place_in, Corner}
use Rattle.payload.specs.Frames.{source_from, spot_in, reach_of, frame_at}
use Rattle.payload.proofs.Agree.{agree-is, agree-to}
use Rattle.payload.proofs.Reach.{reach-long, reach-past, frame-reached}
use Rattle.payload.proofs.Spots.{Stood, stood, placed, placed-in}
use Rattle.reader.specs.declared.Got.{Got}
use Rattle.reader.specs.declared.HeldTypes.{HeldTypes}
use Rattle.reader.specs.declared.Position.{Position}
use Rattle.reader.specs.declared.Spot.{Spot}
use Rattle.reader.specs.declared.Token.{Token}
use Rattle.reader.specs.Positions.{stands}
use Rattle.reader.specs.Reader.{settled, row_cell_at, next_at, ending, end_at, step_from, step_of}
use Rattle.reader.specs.Spots.{Found, spot_of, held_in, step_by, got_in, got_end, stands_by, next_by, got_read, got_from, got_of, GotStep}
use Rattle.reader.proofs.Agree.{next-by-agree}

-- after the last DONE, by the byte that was looked for
module _ (l : List ℕ) (f : Frame) (n : ℕ) where
  pub end-left : {g : Frame} → reach_of l f (n + 1) ≡ Ok g → Err 26 ≡ got_end (ending (source_from l f) n)
  end-left e = let h = reach-long l f (n + 1) e in rw (lt-ltb n (length (source_from l f).bytes) (omega (arith, h.0)))

  module _ {r : ℕ} (e : reach_of l f (n + 1) ≡ Err r) where
    pub end-over : r ≡ 24 → Ok None ≡ got_end (ending (source_from l f) n)
    end-over q =
        let h = reach-past l f (n + 1) e in
        rw (le-ltb n (length (source_from l f).bytes) (omega (arith, h.0)), eq-eqb (source_from l f).stop 24 (sym h.1 ∙ q))

    pub end-stopped : (r ≡ 24 → ⊥) → Err r ≡ got_end (ending (source_from l f) n)
    end-stopped q =
        let h = reach-past l f (n + 1) e in
        rw (le-ltb n (length (source_from l f).bytes) (omega (arith, h.0)), ne_eqb (source_from l f).stop 24 (λ z. q (h.1 ∙ z)), sym h.1)

-- the end as a step
by_end : (src : Source) (n : ℕ) (pos : Position) → step_by pos (got_end (ending src n)) ≡ end_at src n pos
by_end src n pos = go (ltb n (length src.bytes)) (eqb src.stop 24)
  where
    go : (b c : Bool) → step_by pos (got_end (cond b (Err 26) (cond c (Ok None) (Err src.stop))))
        ≡ record { answer = cond b (Err 26) (cond c (Ok None) (Err src.stop)); next = pos }
    go true c = refl
    go false true = refl
    go false false = refl

-- ---- a position's step

by_cond : (pos : Position) (b : Bool) (x y : Found) → step_by pos (cond b x y) ≡ cond b (step_by pos x) (step_by pos y)
by_cond pos true x y = refl
by_cond pos false x y = refl

by_read : (ps : Packets) (pos : Position) (r : Read Token) → step_by pos (got_read ps r) ≡ settled ps pos r
by_read ps pos (whole t n) = refl
by_read ps pos (refused n) = refl

stands-is : (pos : Position) → stands_by (spot_of pos) (held_in pos).sound ≡ stands pos
unfolding stands
stands-is pos = refl

next-is : (src : Source) (n : ℕ) (pos : Position) → next_by src n (spot_of pos) (held_in pos) ≡ next_at src n pos
unfolding next_at row_cell_at
next-is src n pos = refl

by-from : (ps : Packets) (pos : Position) (at : Placed) → step_by pos (got_from ps (spot_of pos) (held_in pos) at) ≡ step_from ps pos at
by-from ps pos (positions.refused n) = refl
by-from ps pos (positions.at n) =
    rw (
      by_cond pos (stands_by (spot_of pos) (held_in pos).sound) (cond pos.over (got_end (ending (source_of ps) n)) (got_read ps (next_by (source_of ps) n (spot_of pos) (held_in pos)))) (Err 24),
      by_cond pos pos.over (got_end (ending (source_of ps) n)) (got_read ps (next_by (source_of ps) n (spot_of pos) (held_in pos))),
      by_end (source_of ps) n pos,
      by_read ps pos (next_by (source_of ps) n (spot_of pos) (held_in pos)),
      next-is (source_of ps) n pos,
      stands-is pos,
    )

-- the step of a position is what is found from its spot and the types that it holds
pub got-step : GotStep
unfolding got_of step_of
got-step l pos = by-from (packets_in l) pos (place_in (packets_in l) pos.packet pos.place)

pub stepped : (l : List ℕ) (pos : Position) {held : HeldTypes} {g : Found} → held ≡ held_in pos → g ≡ got_of l (spot_of pos) held → step_by pos g ≡ step_of l pos
stepped l pos e f = ap (step_by pos) (f ∙ ap (got_of l (spot_of pos)) e) ∙ got-step l pos

-- ---- what is found

chosen : {b : Bool} (x y : Found) → b ≡ true → cond b x y ≡ x
chosen x y e = rw e

passed : {b : Bool} (x y : Found) → b ≡ false → cond b x y ≡ y
passed x y e = rw e

module _ (l : List ℕ) (at : Spot) (held : HeldTypes) where
  -- the refusals of headers, and of a position unlike them
  pub no_place : {n : ℕ} → spot_in (packets_in l) at.packet at.place ≡ Err n → Err n ≡ got_of l at held
  unfolding got_of
  no_place {n} e =
      let q : place_in (packets_in l) at.packet at.place ≡ positions.refused n = sym (placed-in (packets_in l) at.packet at.place) ∙ ap placed e in
      sym (ap (got_from (packets_in l) at held) q)

  module _ {s : Spotted} (e : spot_in (packets_in l) at.packet at.place ≡ Ok s) where
    abbrev f : Frame
    f = s.frame

    abbrev n : ℕ
    n = s.place

    here : Stood l f n
    here = stood l at.place s at.packet e

    from : got_of l at held ≡ got_from (packets_in l) at held (positions.at n)
    unfolding got_of
    from =
        let q : place_in (packets_in l) at.packet at.place ≡ positions.at n = sym (placed-in (packets_in l) at.packet at.place) ∙ ap placed e in
        ap (got_from (packets_in l) at held) q

    pub no-stand : stands_by at held.sound ≡ false → Err 24 ≡ got_of l at held
    no-stand b = sym (from ∙ passed _ _ b)

    -- the end, as it is found from the frame
    same_end : got_end (ending (source_of (packets_in l)) n) ≡ got_end (ending (source_from l f) n)
    same_end = let h = here.same in rw (h.size, h.stops)

    pub at-end : stands_by at held.sound ≡ true → at.over ≡ true → {g : Found} → g ≡ got_end (ending (source_from l f) n) → g ≡ got_of l at held
    at-end b o q = q ∙ sym (from ∙ chosen _ _ b ∙ chosen _ _ o ∙ same_end)

    -- the token, as it is read from the frame
    same_next : next_by (source_of (packets_in l)) n at held ≡ next_by (source_from l f) n at held
    same_next = agree-is (next-by-agree at held n here.same)

    at_next : stands_by at held.sound ≡ true → at.over ≡ false → got_of l at held ≡ got_read (packets_in l) (next_by (source_from l f) n at held)
    at_next b o = from ∙ chosen _ _ b ∙ passed _ _ o ∙ ap (got_read (packets_in l)) same_next

    pub at-refusal : stands_by at held.sound ≡ true → at.over ≡ false → {r : ℕ} → next_by (source_from l f) n at held ≡ refused r → Err r ≡ got_of l at held
    at-refusal b o q = sym (at_next b o ∙ ap (got_read (packets_in l)) q)

    module _ {t : Token} {to : ℕ} (q : next_by (source_from l f) n at held ≡ whole t to) where
      onward : (n + 1 ≤ to) × (to ≤ length (source_of (packets_in l)).bytes)
      onward = agree-to (next-by-agree at held n here.same) (same_next ∙ q)

      onward-here : to ≤ length (source_from l f).bytes
      onward-here = omega (arith, onward.1, here.same.size)

      pub token-within : to ≤ length l
      token-within = (reach-long l f to (frame-reached l f to onward-here)).1

      pub at-token : stands_by at held.sound ≡ true → at.over ≡ false → {g : Got} → g ≡ got_in (frame_at l f to) t to → Ok (Some g) ≡ got_of l at held
      at-token b o k =
          ap (λ (g : Got). Ok (Some g)) k
          ∙ sym (at_next b o ∙ ap (got_read (packets_in l)) q
          ∙ ap (λ (c : Corner). Ok (Some (record { token = t; packet = c.packet; place = c.place }))) (here.corner to (frame_at l f to) (omega (arith, onward.0)) (frame-reached l f to onward-here)))
