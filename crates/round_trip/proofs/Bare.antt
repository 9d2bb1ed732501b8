-- The reply of a script that fits is the packet of its tokens: no classification has bytes. Assumes nothing.
use mathlib.Core.Path.{◌≡◌, ap, ◌∙◌}
use mathlib.Core.Bool.{◌||◌}
use mathlib.Core.List.{List, [], ◌∷◌, ◌++◌, map, flat_map}
use mathlib.Core.Option.{Option, none, some}
use Prim.Native.Nat.{ℕ, suc}
use lib.Dec.{eqb}
use borrow.Author.Tests.{eqb-true}
use Rattle.wire.proofs.Cases.{by-test}
use Rattle.token.specs.Tokens.{Token, EncodedCell, cell, token_bytes, joined}
use Rattle.script.specs.Records.{Item, item, cut, records}
use Rattle.script.specs.Runs.{ahead}
use Rattle.emission.specs.Emission.{Piece, token_piece, classification_piece, leading_status, column_of, column_piece, column_pieces, cell_of, cell_pieces, tokens_in, pieces, emitted, bytes_in}
use Rattle.emission.specs.Walk.{walked, begin_pieces, pieces_of, rows_after, emit_from, error_in, lead_pieces, walked_by}
use Rattle.emission.proofs.BySets.{by-sets, no-verdict}
use Rattle.emission.proofs.Sizes.{bytes-none, bytes-told, bytes-classified}
use Rattle.std.specs.Prelude.{Ok, None}
use Rattle.fit.specs.Misfits.{types_in, fit_of}
use Rattle.fit.specs.Records.{begin_misfits, misfits_from, misfits_in}
use Rattle.fit.proofs.Inverts.{set-fits, fits-set, fits-row, fits-other, fits-first, fits-yes}
use Rattle.round_trip.proofs.Accepted.{by-error}

-- pieces without bytes that are no token's
abbrev Bare : List Piece → Type 0
Bare [] = Unit {0}
Bare (token_piece t ∷ ps) = Bare ps
Bare (classification_piece x ∷ ps) = (x ≡ []) × Bare ps

bare-bytes : (ps : List Piece) → Bare ps → bytes_in ps ≡ joined (map token_bytes (tokens_in ps))
bare-bytes [] h = bytes-none
bare-bytes (token_piece t ∷ ps) h = bytes-told t ps ∙ ap (λ (l : List ℕ). token_bytes t ++ l) (bare-bytes ps h)
bare-bytes (classification_piece x ∷ ps) h = bytes-classified x ps ∙ rw h.0 (bare-bytes ps h.1)

bare-cat : (ps qs : List Piece) → Bare ps → Bare qs → Bare (ps ++ qs)
bare-cat [] qs h g = g
bare-cat (token_piece t ∷ ps) qs h g = bare-cat ps qs h g
bare-cat (classification_piece x ∷ ps) qs h g = (h.0, bare-cat ps qs h.1 g)

bare-tokens : (ts : List (Token EncodedCell)) → Bare (map token_piece ts)
bare-tokens [] = tt
bare-tokens (t ∷ ts) = bare-tokens ts

bare-cells : (cs : List EncodedCell) → Bare (map (λ (c : EncodedCell). token_piece (cell c)) cs)
bare-cells [] = tt
bare-cells (c ∷ cs) = bare-cells cs

bare-columns : (ps : List (List ℕ)) → Bare (column_pieces ps)
unfolding flat_map
bare-columns [] = tt
bare-columns (p ∷ ps) = bare-cat (column_piece p) (column_pieces ps) (bare-tokens (column_of p)) (bare-columns ps)

bare-error : (status : ℕ) (o : Option (List ℕ)) → Bare (lead_pieces status o)
bare-error status none = tt
bare-error status (some e) = tt

bare_set : (set : ℕ) (p : List ℕ) (rs : List Item) → begin_misfits set p rs ≡ [] → Bare (begin_pieces p rs)
bare_set set p rs e = bare-cat (column_pieces (ahead 2 rs)) (classification_piece p ∷ []) (bare-columns (ahead 2 rs)) ((set-fits set p rs e).0, tt)

bare-from : (set row rows : ℕ) (types : List ℕ) (rs : List Item) → misfits_from set row types rs ≡ [] → Bare (emit_from rows rs)
unfolding emit_from pieces_of rows_after
bare-from set row rows types [] e = tt
bare-from set row rows types (cut ∷ rs) e = tt
bare-from set row rows types (item k p ∷ rs) e =
    by-test (eqb k 1)
    (λ h. let f = fits-set set row types k p rs e h in
    rw h (bare-cat (begin_pieces p rs) (emit_from 0 rs) (bare_set (suc set) p rs f.0) (bare-from (suc set) 0 0 (types_in (ahead 2 rs)) rs f.1)))
    (λ h1. by-test (eqb k 4)
    (λ h. let w = bare-from set (suc row) (suc rows) types rs (fits-row set row types k p rs e h1 h).1 in rw (eqb-true k 4 h) w)
    (λ h4. let w = bare-from set row rows types rs (fits-other set row types k p rs e h1 h4) in
    by-test (eqb k 3 || eqb k 9) (λ h. rw (h1, h, h4) w)
    (λ h3. by-test (eqb k 5)
    (λ h. let cs = ahead 6 rs in rw (h1, h3, h4, h) (bare-cat (cell_pieces p cs) (emit_from rows rs) (bare-cells (cell_of p cs)) w))
    (λ h. rw (h1, h3, h4, h) w))))

bare-script : (rs : List Item) → misfits_in rs ≡ [] → Bare (walked_by rs)
unfolding walked_by
bare-script [] e = tt
bare-script (cut ∷ rs) e = tt
bare-script (item k p ∷ rs) e =
    by-error (error_in 8 rs)
    (λ h. let f = fits-first k p rs e h in
    let sets = bare-cat (begin_pieces p rs) (emit_from 0 rs) (bare_set 0 p rs f.0) (bare-from 0 0 0 (types_in (ahead 2 rs)) rs f.1) in
    rw h (bare-cat (lead_pieces leading_status (error_in 7 rs)) (begin_pieces p rs ++ emit_from 0 rs) (bare-error leading_status (error_in 7 rs)) sets))
    (λ x h. rw h tt)

-- the payload of a script that fits is that of its tokens
pub payload-is : (s : List ℕ) → fit_of s ≡ Ok None → bytes_in (pieces s) ≡ joined (map token_bytes (emitted s))
unfolding emitted walked
payload-is s f =
    let y = fits-yes s f in
    rw (by-sets s (no-verdict s y.0)) (bare-bytes (walked_by (records s)) (bare-script (records s) y.1))
