-- A script is refused with 11 to 17: 15 and 16 by what it emits, 17 by the reply's length. Assumes nothing.
use mathlib.Core.Bool.{◌||◌}
use mathlib.Core.List.{List, [], ◌∷◌}
use native.Mathlib.Omega.{arith}
use lib.Dec.{eqb, ltb}
use lib.ListN.{length}
use Rattle.token.specs.Tokens.{Token, metadata, column, row, cell, done, message, EncodedCell, integer, no_integer, bounded, long, no_long}
use Rattle.token.specs.Names.{long_name, name_fault}
use Rattle.script.specs.Verdict.{verdict_of}
use Rattle.script.proofs.Verdicts.{Own, own-none, own-either, verdict-own}
use Rattle.emission.specs.Emission.{Piece, token_piece, classification_piece, pieces, reply_of}
use Rattle.emission.specs.Refusal.{any_empty, cell_fault, token_fault, piece_fault, fault_in, refusal_of, RefusedByOwn}

cell-own : (c : EncodedCell) → Own (cell_fault c)
cell-own (integer w n) = own-none
cell-own no_integer = own-none
cell-own (bounded x) = own-none
cell-own (long cs) = own-either (any_empty cs) (λ z. (omega arith, omega arith)) own-none
cell-own no_long = own-none

token-own : (t : Token EncodedCell) → Own (token_fault t)
unfolding name_fault
token-own (metadata n) = own-none
token-own (column u f c l o name) = own-either (long_name name) (λ z. (omega arith, omega arith)) own-none
token-own row = own-none
token-own (cell v) = cell-own v
token-own (done s c n) = own-none
token-own (message k n s c t server procedure l) = own-either (long_name server || long_name procedure) (λ z. (omega arith, omega arith)) own-none

piece-own : (x : Piece) → Own (piece_fault x)
piece-own (token_piece t) = token-own t
piece-own (classification_piece x) = own-none

fault-own : (ps : List Piece) → Own (fault_in ps)
unfolding fault_in
fault-own [] = own-none
fault-own (x ∷ ps) = own-either (eqb (piece_fault x) 0) (fault-own ps) (piece-own x)

pub refused-by-own : RefusedByOwn
unfolding refusal_of
refused-by-own s =
    own-either (eqb (verdict_of s) 0)
    (own-either (eqb (fault_in (pieces s)) 0)
    (own-either (ltb 65535 (length (reply_of s))) (λ z. (omega arith, omega arith)) own-none)
    (fault-own (pieces s)))
    (verdict-own s)
