-- `station::steps::put_type` meets its contract. Assumes nothing.
use mathlib.Core.Path.{◌≡◌, refl}
use mathlib.Core.List.{List}
use Prim.Native.Nat.{ℕ}
use Rattle.wire.specs.declared.Part.{Part}
use Rattle.reader.specs.declared.Token.{Token}
use Rattle.reader.specs.declared.Token.TheVariants.{ColMetadata, Column, Row, Cell, Done, Message}
use Rattle.station.specs.Steps.{type_slot, with_type}
use Rattle.station.proofs.steps.put_type.Goals as goal

-- a token that is no column leaves the slots
left_so : (n : ℕ) (t : Token) (slots : List ℕ) → ((user flags code limit : ℕ) (collation name : Part) → t ≡ Column user flags code limit collation name → ⊥)
    → slots ≡ with_type n t slots
unfolding with_type
left_so n (ColMetadata count) slots h = refl
left_so n (Column user flags code limit collation name) slots h = absurd (h user flags code limit collation name refl)
left_so n Row slots h = refl
left_so n (Cell v) slots h = refl
left_so n (Done status command count) slots h = refl
left_so n (Message kind number state class text server procedure line) slots h = refl

pub returns-in-Column : goal.returns-in-Column
unfolding with_type type_slot
returns-in-Column c = rw c.in-Column.is c.put.ensures

pub returns-in_default : goal.returns-in_default
returns-in_default c = let a = c.args in left_so a.columns a.token a.slots.now c.in_default.not-Column
