-- The theorem's hypothesis can be met: a list with every kind of token and of cell is well formed, and so comes back at every
-- step. Assumes nothing.
use mathlib.Core.Path.{◌≡◌, refl}
use mathlib.Core.List.{List, [], ◌∷◌, map}
use Prim.Native.Nat.{ℕ}
use native.Mathlib.Omega.{arith}
use Rattle.wire.specs.Le.{le_at, le}
use Rattle.wire.specs.Fields.{flat}
use Rattle.packet.specs.Status.{has_bit}
use Rattle.wire.specs.Be.{be}
use Rattle.text.specs.Units.{units_of, units}
use Rattle.text.specs.Surrogates.{surrogate_of, surrogates, paired, well_formed}
use Rattle.token.specs.Types.{length_width, collation_size}
use Rattle.token.specs.Tokens.{Token, metadata, column, row, cell, done, message, EncodedCell, integer, no_integer, bounded, long, no_long, message_length, token_bytes, joined, states}
use Rattle.cells.specs.Cells.{is_type}
use Rattle.reader.specs.Positions.{fresh_position}
use Rattle.reader.specs.Reader.{answer_of}
use Rattle.reader.specs.Meaning.{meaning_of, kth}
use Rattle.payload.specs.Packets.{packets_in, payload_of}
use Rattle.payload.proofs.Joined.{Whole}
use Rattle.reader.proofs.WellFormed.{WellFormed}
use Rattle.reader.proofs.Sendable.{column-ok, done_ok, message-ok, metadata-then, column-then, row-then, cell-then, message-then, done-then, done-last}
use Rattle.reader.proofs.ReadBack.{reads-back}

abbrev a : List ℕ
a = 0x41 ∷ 0 ∷ []

-- a surrogate pair
abbrev pair : List ℕ
pair = 0x3D ∷ 0xD8 ∷ 0 ∷ 0xDE ∷ []

abbrev collation : List ℕ
collation = 9 ∷ 4 ∷ 0xD0 ∷ 0 ∷ 0x34 ∷ []

abbrev pub every-kind : List (Token EncodedCell)
every-kind =
    message 0xAA 5 1 16 a [] [] 1 ∷ done 3 0xC1 0 ∷ metadata 4
    ∷ column 0 0 0x26 2 [] a ∷ column 0 0 0xE7 8000 collation pair ∷ column 0 0 0xE7 0xFFFF collation [] ∷ column 0 0 0xA5 0xFFFF [] []
    ∷ message 0xAB 5701 2 0 a a a 3
    ∷ row ∷ cell (integer 2 0x8000) ∷ cell (bounded a) ∷ cell (long (a ∷ a ∷ [])) ∷ cell (long ((7 ∷ []) ∷ []))
    ∷ row ∷ cell no_integer ∷ cell (bounded []) ∷ cell (long []) ∷ cell no_long
    ∷ done 1 0xC1 2 ∷ metadata 0 ∷ done 0 0xC1 0 ∷ []

pub well-formed : WellFormed every-kind
unfolding is_type has_bit collation_size well_formed surrogates surrogate_of paired units_of units le_at
well-formed =
    message-then (message-ok refl (omega arith) (omega arith) (omega arith) (omega arith) refl refl (omega arith) refl (omega arith))
    (done-then (done_ok (omega arith) (omega arith) (omega arith)) refl
    (metadata-then (omega arith)
    (column-then (column-ok (omega arith) (omega arith) refl refl refl (omega arith))
    (column-then (column-ok (omega arith) (omega arith) refl refl refl (omega arith))
    (column-then (column-ok (omega arith) (omega arith) refl refl refl (omega arith))
    (column-then (column-ok (omega arith) (omega arith) refl refl refl (omega arith))
    (message-then (message-ok refl (omega arith) (omega arith) (omega arith) (omega arith) refl refl (omega arith) refl (omega arith))
    (row-then (omega arith)
    (cell-then (refl, refl, omega arith)
    (cell-then (refl, omega arith, omega arith, refl)
    (cell-then (refl, (omega arith, refl, (omega arith, refl, tt)))
    (cell-then (refl, (omega arith, refl, tt))
    (row-then (omega arith)
    (cell-then refl
    (cell-then (refl, omega arith, omega arith, refl)
    (cell-then (refl, tt)
    (cell-then refl
    (done-then (done_ok (omega arith) (omega arith) (omega arith)) refl
    (metadata-then (omega arith)
    (done-last (done_ok (omega arith) (omega arith) (omega arith)) refl))))))))))))))))))))

-- its payload
abbrev pub payload : List ℕ
payload = joined (map token_bytes every-kind)

-- over whatever packets have its bytes: one, or as many as a size makes
pub comes_back : (l : List ℕ) → Whole (packets_in l) payload → (k : ℕ) → meaning_of (payload_of (packets_in l)) (answer_of k l fresh_position) ≡ kth (map states every-kind) k
unfolding be le flat token_bytes length_width message_length units_of units
comes_back l w k = reads-back l every-kind well-formed w (omega arith) (omega arith) k
