-- Bytes read at a place, field by field, so that the earliest byte at fault decides (document 01, 'Who causes which refusal',
-- Sender). A place counts payload bytes: nothing here knows a header. No other definition makes a place out of another. Rests on
-- wire's numbers and parts.
use Rattle.std.specs.Prelude.{ℕ, ◌+◌, ◌-◌, Bool, cond, List, leb, length, drop}
use Rattle.refusals.specs.Numbers.{cut_short}
use Rattle.wire.specs.Le.{le_at}
use Rattle.wire.specs.declared.Part.{Part}

-- bytes to read, and the refusal of reading past them
pub record Source : Type 0 where
  pub bytes : List ℕ
  pub stop : ℕ

-- a request's body: past it comes 24
abbrev pub body_source : List ℕ → Source
body_source body = record { bytes = body; stop = cut_short }

-- how many bytes stand before it
abbrev pub Place : Type 0
Place = ℕ

-- what reading comes to: a value with the place after it, or a refusal
pub data Read (A : Type 0) : Type 0 where
  whole : A → Place → Read A
  refused : ℕ → Read A

module _ {A : Type 0} where
  -- a number of k bytes, the lowest first, from which to go on: the source's refusal where it ends within them
  unfoldable pub number_at : ℕ → Source → Place → (ℕ → Place → Read A) → Read A
  number_at k src at go =
      let rest = go (le_at k (drop at src.bytes)) (at + k) in
      cond (leb (at + k) (length src.bytes)) rest (refused src.stop)

  -- a part of n bytes, likewise
  unfoldable pub part_at : ℕ → Source → Place → (Part → Place → Read A) → Read A
  part_at n src at go =
      let rest = go (record { start = at; len = n }) (at + n) in
      cond (leb (at + n) (length src.bytes)) rest (refused src.stop)

  -- a test that must hold to go on, and the refusal where it does not
  unfoldable pub must : Bool → ℕ → Read A → Read A
  must test n rest = cond test rest (refused n)

-- a value that was read, from which to go on
unfoldable pub then : {A B : Type 0} → Read A → (A → Place → Read B) → Read B
then (whole a at) go = go a at
then (refused n) go = refused n

-- the part from one place to another
abbrev pub part_to : Place → Place → Part
part_to from to = record { start = from; len = to - from }
