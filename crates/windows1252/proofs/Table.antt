-- The table of Windows-1252: one test that no two of its entries are the same, one of each entry, and what follows. Assumes nothing.
use mathlib.Core.Path.{◌≡◌, refl, sym, ap, ◌∙◌}
use mathlib.Core.Bool.{Bool, true, false, not, ◌&&◌, ◌||◌}
use mathlib.Core.List.{List}
use mathlib.Core.Logic.{◌≢◌}
use Rattle.std.specs.Prelude.{Option, Some, None}
use Rattle.std.specs.Option.{MatchOption, is_some}
use Prim.Native.Nat.{ℕ, ◌<◌, ◌≤◌}
use native.Mathlib.Omega.{arith}
use borrow.Author.Tests.{ne_eqb, eqb-true, ltb-true, lt-ltb, le-ltb, le-leb, lt-leb}
use lib.Dec.{eqb, ltb, leb}
use lib.ListN.{length, get_or}
use Rattle.wire.proofs.Cases.{split, by-test, clash}
use Rattle.payload.proofs.CodeReads.{and-true}
use Rattle.windows1252.specs.Table.{table, unit_of, place_of, byte_of, has_byte}
use Rattle.windows1252.specs.Code.{is_itself, byte_found}
use Rattle.windows1252.specs.Kept.{Distinct}
use Rattle.windows1252.proofs.Places.{every, every-at, distinct, place-of-entry, one_place, found, no_place}

all-entries : length table ≡ 256
unfolding table
all-entries = refl

-- the one test over the whole table
no-two : distinct table ≡ true
unfolding table
no-two = refl

pub no-two-share : Distinct
no-two-share i j h g e = one_place table no-two i j (omega (arith, all-entries)) (omega (arith, all-entries)) e

-- an entry is a unit, and below 80 and from A0 on it is the byte itself
is_entry : ℕ → ℕ → Bool
is_entry b u = ltb u 65536 && (not (is_itself b) || eqb u b)

each-entry : every is_entry 0 table ≡ true
unfolding table is_entry
each-entry = refl

module _ (b : ℕ) (h : b < 256) where
  entry_at : is_entry b (unit_of b) ≡ true
  unfolding unit_of
  entry_at = every-at is_entry table each-entry b (omega (arith, all-entries))

  pub unit-small : unit_of b < 65536
  unfolding is_entry
  unit-small = ltb-true (unit_of b) 65536 (and-true (ltb (unit_of b) 65536) (not (is_itself b) || eqb (unit_of b) b) entry_at).0

  pub itself : is_itself b ≡ true → unit_of b ≡ b
  unfolding is_entry
  itself e = eqb-true (unit_of b) b (rw e at (and-true (ltb (unit_of b) 65536) (not (is_itself b) || eqb (unit_of b) b) entry_at).1)

  -- the byte of a byte's unit is that byte
  pub byte-of-unit : byte_of (unit_of b) ≡ b
  unfolding byte_of unit_of
  byte-of-unit = place-of-entry table no-two b (omega (arith, all-entries))

-- the table where it is lent
pub lent-table : (units : List ℕ) (b : ℕ) → units ≡ table → b < 256 → (b < length units) × (get_or units b 0 ≡ unit_of b)
unfolding unit_of
lent-table units b e h = (omega (arith, ap length e, all-entries), rw e)

-- the unit of a unit's byte is that unit
pub unit-of-byte : (u : ℕ) → has_byte u ≡ true → (byte_of u < 256) × (unit_of (byte_of u) ≡ u)
unfolding has_byte byte_of unit_of
unit-of-byte u e =
    let h : place_of u table < 256 = ltb-true (place_of u table) 256 e in
    (h, found u table (omega (arith, all-entries)))

-- what is found of a unit that has a byte, and that no other has one
pub found_has : (u : ℕ) → has_byte u ≡ true → byte_found u ≡ Some (byte_of u)
unfolding byte_found
found_has u e = rw e

pub has-found : (u : ℕ) → is_some (byte_found u) ≡ has_byte u
unfolding byte_found
has-found u = by-test (has_byte u) (λ t. rw t) (λ t. rw t)

-- a unit that stands for no byte
pub no_byte : (u : ℕ) → ((b : ℕ) → b < 256 → eqb (unit_of b) u ≡ false) → byte_of u ≡ 256
unfolding byte_of unit_of
no_byte u f = no_place u table (λ k h. f k (omega (arith, all-entries))) ∙ all-entries

-- ---- units that are their own bytes, and those that are searched

and_none : (b : Bool) → (b && false) ≡ false
and_none true = refl
and_none false = refl

module _ (u : ℕ) where
  own-small : is_itself u ≡ true → u < 256
  own-small e =
      split u 0xFF (λ h. omega arith)
      (λ h. let a : ltb u 0x80 ≡ false = le-ltb u 0x80 (omega arith) in let b : leb u 0xFF ≡ false = lt-leb u 0xFF h in
      clash (let z : is_itself u ≡ false = rw (a, b) (and_none (leb 0xA0 u)) in cc))

  pub own-byte : is_itself u ≡ true → byte_of u ≡ u
  own-byte e = ap byte_of (sym (itself u (own-small e) e)) ∙ byte-of-unit u (own-small e)

  pub own-has : is_itself u ≡ true → has_byte u ≡ true
  unfolding has_byte
  own-has e = rw (own-byte e) (lt-ltb u 256 (own-small e))

-- of the bytes only 80 to 9F are not their own units
between : (u : ℕ) → u < 256 → is_itself u ≡ false → (0x80 ≤ u) × (u < 0xA0)
between u h e =
    split 0x80 u
    (λ l. split 0xA0 u
    (λ g. let a : leb 0xA0 u ≡ true = le-leb 0xA0 u g in let b : leb u 0xFF ≡ true = le-leb u 0xFF (omega arith) in
    clash (let z : is_itself u ≡ true = rw (le-ltb u 0x80 l, a, b) in cc))
    (λ g. (l, g)))
    (λ l. clash (let z : is_itself u ≡ true = rw (lt-ltb u 0x80 l) in cc))

-- none of those stands for a unit that is not its own byte: then no byte does
pub searched : (u : ℕ) → is_itself u ≡ false → ((k : ℕ) → 0x80 ≤ k → k < 0xA0 → eqb (unit_of k) u ≡ false) → byte_of u ≡ 256
searched u e f = no_byte u (λ k h. by-test (is_itself k)
    (λ t. ne_eqb (unit_of k) u (λ q. let p : is_itself u ≡ true = ap is_itself (sym q ∙ itself k h t) ∙ t in clash (cc)))
    (λ t. let l = between k h t in f k l.0 l.1))

-- what the search over those bytes finds
pub byte-searched : (u : ℕ) (r : Option ℕ) → is_itself u ≡ false
    → MatchOption r ((k : ℕ) → 0x80 ≤ k → k < 0xA0 → unit_of k ≢ u) (λ b. (0x80 ≤ b) × (b < 0xA0) × (unit_of b ≡ u) × ((k : ℕ) → 0x80 ≤ k → k < b → unit_of k ≢ u))
    → r ≡ byte_found u
unfolding byte_found has_byte
byte-searched u None e f = rw (searched u e (λ k h g. ne_eqb (unit_of k) u (f k h g)))
byte-searched u (Some b) e f =
    let small : b < 256 = omega (arith, f.1) in
    let is : byte_of u ≡ b = ap byte_of (sym f.2) ∙ byte-of-unit b small in
    rw (is, lt-ltb b 256 small)
