-- Wrong replies that the statements refuse, by the tokens that would be read of them: a set without its DONE, a DONE with an invented
-- count, one whose count is not valid, a leading DONE whose count is, and all rows in the first set with later sets empty. Assumes nothing.
use mathlib.Core.Path.{◌≡◌, refl, sym, ap, ◌∙◌}
use mathlib.Core.Bool.{true, false}
use mathlib.Core.List.{List, [], ◌∷◌}
use mathlib.Core.Option.{Option, none}
use Prim.Native.Nat.{ℕ}
use native.Mathlib.Omega.{arith}
use lib.IntN.{pos}
use lib.ListN.{length}
use Rattle.wire.proofs.Cases.{clash}
use Rattle.packet.specs.Status.{has_bit}
use Rattle.token.specs.Tokens.{Token, Value, metadata, column, row, cell, done, number, null}
use Rattle.round_trip.specs.RoundTrip.{Packing, packets_left, Sent, Reads}
use Rattle.round_trip.specs.Reading.{sets_end, more_but_last}
use Rattle.round_trip.specs.Data.{data_in, data_of, present}
use Rattle.round_trip.proofs.Reading.{sets-read}
use Rattle.round_trip.proofs.Data.{data-read}
use Rattle.round_trip.proofs.Witness.{two_sets, two-sets-data}

-- ---- by SetsRead

-- the first set ends without a DONE, and none counts its row
abbrev pub lost : List (Token Value)
lost = metadata 1 ∷ row ∷ cell null ∷ metadata 0 ∷ done 0x0010 0xC1 0 ∷ []

pub not-ended : sets_end none lost ≡ false
not-ended = refl

-- a DONE with an invented count: one row, and 5
abbrev pub invented : List (Token Value)
invented = metadata 1 ∷ row ∷ cell null ∷ done 0x0010 0xC1 5 ∷ []

pub not-counted : sets_end none invented ≡ false
not-counted = refl

-- the reply of a set of one row that ends in a DONE of a status, after a leading error's DONE
abbrev pub ended : (leading status : ℕ) → List (Token Value)
ended leading status = done leading 0xC1 0 ∷ metadata 1 ∷ row ∷ cell null ∷ done status 0xC1 1 ∷ []

-- as it is sent, last or before another set; with 0000 on the last, with 0001 for 0011, with 0013 on the leading DONE
pub counts-valid : (sets_end none (ended 0x0003 0x0010) ≡ true) × (sets_end none (ended 0x0003 0x0011) ≡ true)
unfolding has_bit
counts-valid = (refl, refl)

pub not_valid : (sets_end none (ended 0x0003 0x0000) ≡ false) × (sets_end none (ended 0x0003 0x0001) ≡ false) × (sets_end none (ended 0x0013 0x0010) ≡ false)
unfolding has_bit
not_valid = (refl, refl, refl)

-- ---- by DataRead

-- The reply to the script `two_sets`, which has a row in each set, with all rows in the first set: the first has both rows and a DONE
-- that counts 2, the later one is there and empty (81, its column, DONE count 0).
abbrev pub gathered : List (Token Value)
gathered =
    metadata 1
    ∷ column 0 0 0x26 1 [] (0x61 ∷ 0x00 ∷ [])
    ∷ row
    ∷ cell (number (pos 255))
    ∷ row
    ∷ cell null
    ∷ done 0x0011 0xC1 2
    ∷ metadata 1
    ∷ column 0 0 0x26 1 [] (0x62 ∷ 0x00 ∷ [])
    ∷ done 0x0010 0xC1 0
    ∷ []

-- it ends each set in a DONE that counts the rows since COLMETADATA, and has MORE as it must be
pub gathered-ends : (sets_end none gathered ≡ true) × (more_but_last gathered ≡ true)
unfolding has_bit
gathered-ends = (refl, refl)

-- the rows of the first set
abbrev rows_of_first : List (List (List (Option Value))) → ℕ
rows_of_first [] = 0
rows_of_first (rows ∷ sets) = length rows

-- but its rows are not those of the script's sets
pub not-the-data : present (data_in gathered) ≡ data_of two_sets → ⊥
not-the-data e = let two-is-one : ◌≡◌ {A = ℕ} 2 1 = ap rows_of_first (e ∙ two-sets-data) in absurd (omega arith)

-- so no packets that the builder leaves for the script read as this reply
pub never-gathered : (how : Packing) (b : List ℕ) (n : ℕ) → Sent how two_sets b n → Reads (packets_left how two_sets b n) gathered → ⊥
never-gathered how b n h r = not-the-data (data-read how two_sets b n h gathered r)

-- ---- by SetsRead, of what the builder leaves

-- Of whatever script, no packets that it leaves read as tokens in which a set does not end in a DONE with its valid count: not as
-- `lost`, not as `invented`, and not as `ended` with one of the statuses above.
pub never-miscounted : (how : Packing) (s b : List ℕ) (n : ℕ) → Sent how s b n → (ts : List (Token Value)) → sets_end none ts ≡ false
    → Reads (packets_left how s b n) ts → ⊥
never-miscounted how s b n h ts wrong r = let never : false ≡ true = sym wrong ∙ sets-read how s b n h ts r in clash (cc)

pub never-invented : (how : Packing) (s b : List ℕ) (n : ℕ) → Sent how s b n → Reads (packets_left how s b n) invented → ⊥
never-invented how s b n h = never-miscounted how s b n h invented not-counted
