-- A type and a cell that are read lie in the packet, and so do their parts. Assumes nothing.
use mathlib.Core.Bool.{Bool}
use Prim.Native.Nat.{ℕ, zero, suc, ◌+◌, ◌-◌, ◌≤◌, ◌<◌}
use native.Mathlib.Omega.{arith}
use lib.Dec.{eqb}
use lib.ListN.{length, drop}
use Rattle.wire.specs.Le.{le_at}
use Rattle.wire.specs.declared.Part.{Part}
use Rattle.payload.specs.Places.{Source, Place}
use Rattle.payload.proofs.Each.{Each, got, none, cond-each, must-each, number-each, part-each, then-each, each_more}
use Rattle.cells.specs.declared.TypeInfo.{TypeInfo}
use Rattle.cells.specs.declared.Value.{Value}
use Rattle.cells.specs.Inside.{PartIn, ValueIn}
use Rattle.cells.specs.Cells.{type_at, integer_at, bounded_at, chunk_at, chunks_at, max_at, cell_at}

module _ (p : Source) where
  -- what is read from a place on ends after it, and within the packet
  abbrev pub Onward : Place → Place → Type 0
  Onward at to = (at < to) × (to ≤ length p.bytes)

  abbrev OnwardOf : Place → ℕ → Place → Type 0
  OnwardOf at n to = Onward at to

  abbrev ChunksTo : Place → Part → Place → Type 0
  ChunksTo at q to = Onward at to × PartIn (length p.bytes) q

  abbrev pub TypeTo : Place → TypeInfo → Place → Type 0
  TypeTo at t to = Onward at to × PartIn (length p.bytes) t.collation

  abbrev pub ValueTo : Place → Value → Place → Type 0
  ValueTo at v to = Onward at to × ValueIn (length p.bytes) v

  pub type-in : (at : Place) → Each (TypeTo at) (type_at p at)
  unfolding type_at
  type-in at =
      number-each _ 1 p at _ (λ h1.
      must-each _ _ _ _ (λ e.
      number-each _ _ p (at + 1) _ (λ h2.
      must-each _ _ _ _ (λ e.
      part-each _ _ p _ _ (λ h3.
      got ((omega arith, h3), h3))))))

  integer-in : (limit : ℕ) (at : Place) → Each (ValueTo at) (integer_at limit p at)
  unfolding integer_at
  integer-in limit at =
      number-each _ 1 p at _ (λ h1.
      cond-each _ (eqb (le_at 1 (drop at p.bytes)) 0) _ _ (λ e. got ((omega arith, h1), tt)) (λ e.
      must-each _ _ _ _ (λ e.
      number-each _ _ p (at + 1) _ (λ h2.
      got ((omega arith, h2), tt)))))

  bounded-in : (limit : ℕ) (at : Place) → Each (ValueTo at) (bounded_at limit p at)
  unfolding bounded_at
  bounded-in limit at =
      number-each _ 2 p at _ (λ h1.
      cond-each _ (eqb (le_at 2 (drop at p.bytes)) 0xFFFF) _ _ (λ e. got ((omega arith, h1), tt)) (λ e.
      must-each _ _ _ _ (λ e.
      part-each _ _ p (at + 2) _ (λ h2.
      got ((omega arith, h2), h2)))))

  module _ (text known : Bool) where
    chunk_in : (left : ℕ) (at : Place) → Each (OnwardOf at) (chunk_at text known p left at)
    unfolding chunk_at
    chunk_in left at =
        number-each _ 4 p at _ (λ h1.
        cond-each _ (eqb (le_at 4 (drop at p.bytes)) 0) _ _
        (λ e. must-each _ _ _ _ (λ e. got (omega arith, h1)))
        (λ e. must-each _ _ _ _ (λ e. part-each _ _ p (at + 4) _ (λ h2. got (omega arith, h2)))))

    chunks-in : (turns : ℕ) (start : Place) (left : ℕ) (at : Place) → start ≤ at → Each (ChunksTo at) (chunks_at turns text known p start left at)
    unfolding chunks_at
    chunks-in zero start left at h = none
    chunks-in (suc turns) start left at h =
        then-each (OnwardOf at) _ (chunk_at text known p left at) _ (chunk_in left at) (λ n to i.
        cond-each _ (eqb n 0) _ _
        (λ e. got (i, omega arith))
        (λ e. each_more (ChunksTo to) _ _ (λ q end j. ((omega arith, j.0.1), j.1)) (chunks-in turns start (left - n) to (omega arith))))

  max-in : (text : Bool) (at : Place) → Each (ValueTo at) (max_at text p at)
  unfolding max_at
  max-in text at =
      number-each _ 8 p at _ (λ h1.
      cond-each _ (eqb (le_at 8 (drop at p.bytes)) 0xFFFFFFFFFFFFFFFF) _ _ (λ e. got ((omega arith, h1), tt)) (λ e.
      must-each _ _ _ _ (λ e.
      then-each (ChunksTo (at + 8)) _ _ _ (chunks-in text _ _ (at + 8) _ (at + 8) (omega arith)) (λ q to i.
      got ((omega arith, i.0.1), i.1)))))

  pub cell_in_lem : (code limit : ℕ) (at : Place) → Each (ValueTo at) (cell_at code limit p at)
  unfolding cell_at
  cell_in_lem code limit at =
      must-each _ _ _ _ (λ e.
      cond-each _ (eqb code 0x26) _ _ (λ e. integer-in limit at) (λ e.
      cond-each _ (eqb limit 0xFFFF) _ _ (λ e. max-in _ at) (λ e. bounded-in limit at)))
