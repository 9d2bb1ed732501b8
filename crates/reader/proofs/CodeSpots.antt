-- A position taken apart into its spot and the types that it holds: what was found there as a step, and the position after a
-- token put together again. Assumes nothing.
use Rattle.std.specs.Prelude.{Some, Ok}
use mathlib.Core.Path.{◌≡◌, refl, ap, ◌∙◌}
use mathlib.Core.List.{List}
use Prim.Native.Nat.{ℕ, ◌-◌, ◌≤◌}
use lib.ListN.{length, set}
use lib.Seq.{set_out}
use Rattle.wire.specs.declared.Part.{Part}
use Rattle.reader.specs.declared.Got.{Got}
use Rattle.reader.specs.declared.Position.{Position}
use Rattle.reader.specs.declared.Spot.{Spot}
use Rattle.reader.specs.declared.Token.{Token}
use Rattle.reader.specs.declared.Token.TheVariants.{ColMetadata, Column, Row, Cell, Done, Message}
use Rattle.reader.specs.Positions.{after}
use Rattle.reader.specs.Reader.{StepOf, step_of}
use Rattle.reader.specs.Spots.{holding, spot_of, spot_after, step_by}

-- a step by its token and the position after it
abbrev step_to : Token → Position → StepOf
step_to token next = record { answer = Ok (Some token); next = next }

pub by_token : (l : List ℕ) (pos : Position) (g : Got) {next : Position} → step_by pos (Ok (Some g)) ≡ step_of l pos
    → next ≡ after pos g.token (record { packet = g.packet; place = g.place }) → step_to g.token next ≡ step_of l pos
by_token l pos g e h = ap (step_to g.token) h ∙ e

-- the spot after a token goes by the spot alone
pub after-spot : (pos : Position) (token : Token) (number place : ℕ) → spot_of (after pos token (record { packet = number; place = place })) ≡ spot_after (spot_of pos) token number place
unfolding after
after-spot pos (ColMetadata n) number place = refl
after-spot pos (Column user flags code limit collation name) number place = refl
after-spot pos Row number place = refl
after-spot pos (Cell v) number place = refl
after-spot pos (Done status command count) number place = refl
after-spot pos (Message kind n state class text server procedure line) number place = refl

module _ (pos : Position) (number place : ℕ) {spot : Spot} where
  -- a token that is no column leaves the types as they are
  pub kept : (token : Token) → ((user flags code limit : ℕ) (collation name : Part) → token ≡ Column user flags code limit collation name → ⊥)
      → spot ≡ spot_after (spot_of pos) token number place → holding spot pos.types pos.limits ≡ after pos token (record { packet = number; place = place })
  unfolding after
  kept (ColMetadata n) k e = rw e
  kept (Column user flags code limit collation name) k e = absurd (k user flags code limit collation name refl)
  kept Row k e = rw e
  kept (Cell v) k e = rw e
  kept (Done status command count) k e = rw e
  kept (Message kind number state class text server procedure line) k e = rw e

  module _ (user flags code limit : ℕ) (collation name : Part) {i : ℕ} {read : Token}
      (k : read ≡ Column user flags code limit collation name) (q : i ≡ pos.count - pos.columns_left) (e : spot ≡ spot_after (spot_of pos) read number place) where
    -- a column's type is held at its place
    pub placed : holding spot (set pos.types i code) (set pos.limits i limit) ≡ after pos read (record { packet = number; place = place })
    unfolding after
    placed = rw (e, k, q)

    -- past the places there is nothing to hold
    pub past : length pos.types ≤ i → length pos.limits ≤ i → holding spot pos.types pos.limits ≡ after pos read (record { packet = number; place = place })
    unfolding after
    past t l = rw (e, k, ← q, set_out pos.types i code t, set_out pos.limits i limit l)
