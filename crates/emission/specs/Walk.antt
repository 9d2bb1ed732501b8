-- What the reply builder's loops go by: what the records of a script emit, one after another. Of an accepted script it is what its
-- sets emit (proofs/BySets). Rests on Emission.
use Rattle.std.specs.Prelude.{ℕ, suc, cond, ◌||◌, List, [], ◌∷◌, ◌++◌, eqb, length}
use Rattle.std.proofs.Math.Option.{Option, none, some}
use Rattle.script.specs.Records.{Item, item, cut, records}
use Rattle.token.specs.Tokens.{metadata, row}
use Rattle.script.specs.Runs.{ahead}
use Rattle.emission.specs.Emission.{Piece, token_piece, classification_piece, info_token, error_token, done_token, more_status, last_status, leading_status, terminal_status, column_pieces, cell_pieces}

-- a set's beginning: 81 with the number of its columns, the columns, its classification bytes
abbrev pub begin_pieces : List ℕ → List Item → List Piece
begin_pieces p rs = token_piece (metadata (length (ahead 2 rs))) ∷ column_pieces (ahead 2 rs) ++ (classification_piece p ∷ [])

-- what a record emits after the first set's; rs are the records after it, rows the rows of the set so far. A set ends
-- the one before. Columns stand with their set and chunks with their cell; the errors of later sets are ignored
unfoldable pub pieces_of : ℕ → ℕ → List ℕ → List Item → List Piece
pieces_of rows k p rs =
    cond (eqb k 1) (token_piece (done_token more_status rows) ∷ begin_pieces p rs)
    (cond (eqb k 3 || eqb k 9) (token_piece (info_token p) ∷ [])
    (cond (eqb k 4) (token_piece row ∷ [])
    (cond (eqb k 5) (cell_pieces p (ahead 6 rs)) [])))

-- the count of a set's rows after a record
unfoldable pub rows_after : ℕ → ℕ → ℕ
rows_after rows k = cond (eqb k 1) 0 (cond (eqb k 4) (suc rows) rows)

-- what the records after the first set's emit; at the end the last set's DONE
unfoldable pub emit_from : ℕ → List Item → List Piece
emit_from rows [] = token_piece (done_token last_status rows) ∷ []
emit_from rows (cut ∷ rs) = token_piece (done_token last_status rows) ∷ []
emit_from rows (item k p ∷ rs) = pieces_of rows k p rs ++ emit_from (rows_after rows k) rs

-- the error of kind k of the set that rs goes on, after its columns
unfoldable pub error_in : ℕ → List Item → Option (List ℕ)
error_in k [] = none
error_in k (cut ∷ rs) = none
error_in k (item j p ∷ rs) = cond (eqb j k) (some p) (cond (eqb j 2 || eqb j 7) (error_in k rs) none)

-- an error with its DONE
abbrev pub lead_pieces : ℕ → Option (List ℕ) → List Piece
lead_pieces status none = []
lead_pieces status (some p) = token_piece (error_token p) ∷ token_piece (done_token status 0) ∷ []

-- kind 8 in the first set: its ERROR and DONE, nothing more; else what the sets emit
abbrev pub or_sets : Option (List ℕ) → List Piece → List Piece
or_sets none ps = ps
or_sets (some e) ps = lead_pieces terminal_status (some e)

-- what a script emits whose first set has the classification p and goes on with rs: the sets stand after the ERROR and DONE of a kind 7
abbrev pub sets_of : List ℕ → List Item → List Piece
sets_of p rs = or_sets (error_in 8 rs) (lead_pieces leading_status (error_in 7 rs) ++ (begin_pieces p rs ++ emit_from 0 rs))

-- the first record is the first set's
unfoldable pub walked_by : List Item → List Piece
walked_by [] = []
walked_by (cut ∷ rs) = []
walked_by (item k p ∷ rs) = sets_of p rs

-- what a script's records emit
unfoldable pub walked : List ℕ → List Piece
walked s = walked_by (records s)
