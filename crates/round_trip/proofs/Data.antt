-- The sets, rows and values that are read are those of the script's records: what the script emits is grouped set by set, and its
-- cells state the values of their records (Values). Assumes nothing.
use mathlib.Core.Path.{◌≡◌, refl, sym, ap, ◌∙◌}
use mathlib.Core.List.{List, [], ◌∷◌, ◌++◌, map, flat_map, append_assoc, append-nil}
use Prim.Native.Nat.{ℕ}
use lib.ListN.{length}
use Rattle.token.specs.Tokens.{Token, Value, EncodedCell, cell, value_of, states}
use Rattle.script.specs.declared.Stage.TheVariants.{Start}
use Rattle.script.specs.Records.{records}
use Rattle.script.specs.Verdict.{verdict_of}
use Rattle.script.specs.Sets.{ScriptCell, ScriptRow, ScriptSet, sets_in}
use Rattle.emission.specs.Emission.{Piece, token_piece, info_token, cell_of, leading_status, terminal_status}
use Rattle.emission.specs.Emission.{info_pieces, error_pieces, row_pieces, sets_pieces, or_else, emitted_by, pieces, emitted}
use Rattle.emission.proofs.BySets.{ending, sets-are}
use Rattle.fit.proofs.Inverts.{fits-yes}
use Rattle.round_trip.specs.RoundTrip.{Packing, packets_left, Sent, Reads}
use Rattle.round_trip.specs.Data.{Grouped, grouped, data_in, unless_error, emitted_sets, data_of, present, DataRead, EqualPackets}
use Rattle.round_trip.proofs.Formed.{not-refused}
use Rattle.round_trip.proofs.RoundTrip.{round_trip}
use Rattle.round_trip.proofs.Reading.{read-once, read_is, stated, script_cell, past, past-columns, past-errors, errors-alone}
use Rattle.round_trip.proofs.Values.{stated_cell, stated_row, stated_set, values-are}

-- what some cells and some rows are, before what follows; and sets, with nothing before them
abbrev cells_then : List ScriptCell → Grouped → Grouped
cells_then cs g = record { cells = stated_row (record { cells = cs }) ++ g.cells; rows = g.rows; sets = g.sets }

abbrev rows_then : List ScriptRow → Grouped → Grouped
rows_then [] g = g
rows_then (r ∷ rs) g =
    let h = cells_then r.cells (rows_then rs g) in
    record { cells = []; rows = h.cells ∷ h.rows; sets = h.sets }

abbrev only : List ScriptSet → Grouped
only ss = record { cells = []; rows = []; sets = map stated_set ss }

one-group : (es : List EncodedCell) (qs : List Piece)
    → grouped (stated (map (λ (e : EncodedCell). token_piece (cell e)) es ++ qs))
    ≡ (let g = grouped (stated qs) in record { cells = map value_of es ++ g.cells; rows = g.rows; sets = g.sets })
one-group [] qs = refl
one-group (e ∷ es) qs = rw (one-group es qs)

cells-group : (cs : List ScriptCell) (qs : List Piece) → grouped (stated (flat_map script_cell cs ++ qs)) ≡ cells_then cs (grouped (stated qs))
unfolding flat_map
cells-group [] qs = refl
cells-group (c ∷ cs) qs =
    rw (append_assoc (script_cell c) (flat_map script_cell cs) qs, one-group (cell_of c.value c.chunks) (flat_map script_cell cs ++ qs), cells-group cs qs, append_assoc (stated_cell c) (flat_map stated_cell cs) (grouped (stated qs)).cells)

rows-group : (rs : List ScriptRow) (qs : List Piece) → grouped (stated (flat_map row_pieces rs ++ qs)) ≡ rows_then rs (grouped (stated qs))
unfolding flat_map
rows-group [] qs = refl
rows-group (r ∷ rs) qs =
    rw (append_assoc (flat_map script_cell r.cells) (flat_map row_pieces rs) qs, cells-group r.cells (flat_map row_pieces rs ++ qs), rows-group rs qs)

-- a set's rows, before the sets after it
rows-only : (rs : List ScriptRow) (ss : List ScriptSet)
    → rows_then rs (only ss) ≡ record { cells = []; rows = map stated_row rs; sets = map stated_set ss }
rows-only [] ss = refl
rows-only (r ∷ rs) ss = rw (rows-only rs ss, append-nil (stated_row r))

no-sets : grouped (stated (sets_pieces [])) ≡ only []
unfolding sets_pieces
no-sets = refl

sets-group : (ss : List ScriptSet) → grouped (stated (sets_pieces ss)) ≡ only ss
sets-group [] = no-sets
sets-group (s ∷ ss) =
    let end = ending (length s.rows) ss in
    let last = info_pieces s.trailing ++ end in
    let rows = flat_map row_pieces s.rows ++ last in
    let e : grouped (stated last) ≡ only ss = past grouped info_token (λ p ts. refl) s.trailing end ∙ sets-group ss in
    let g : grouped (stated rows) ≡ rows_then s.rows (only ss) = rows-group s.rows last ∙ ap (rows_then s.rows) e in
    let i = past grouped info_token (λ p ts. refl) s.infos rows ∙ g ∙ rows-only s.rows ss in
    let c = past-columns grouped (λ t p ts. refl) s.classification s.columns (info_pieces s.infos ++ rows) ∙ i in
    rw (sets-are s ss, c)

-- errors alone, where there are any
errors-group : (es : List (List ℕ)) (qs : List Piece) (ss : List ScriptSet) → grouped (stated qs) ≡ only ss
    → grouped (stated (or_else (error_pieces terminal_status es) qs)) ≡ only (unless_error es ss)
errors-group [] qs ss h = h
errors-group (e ∷ es) qs ss h = errors-alone grouped terminal_status (λ e ts. refl) (e ∷ es)

script-groups : (ss : List ScriptSet) → grouped (stated (emitted_by ss)) ≡ only (emitted_sets ss)
unfolding emitted_by
script-groups [] = refl
script-groups (s ∷ ss) =
    errors-group s.terminal (error_pieces leading_status s.leading ++ sets_pieces (s ∷ ss)) (s ∷ ss)
    (past-errors grouped leading_status (λ e ts. refl) s.leading (sets_pieces (s ∷ ss)) ∙ sets-group (s ∷ ss))

in-emitted : (s : List ℕ) → data_in (map states (emitted s)) ≡ map stated_set (emitted_sets (sets_in (records s)))
unfolding emitted pieces
in-emitted s = ap (λ (g : Grouped). g.sets) (script-groups (sets_in (records s)))

-- the values of a script that was sent, in what it emits
data-emitted : (how : Packing) (s b : List ℕ) (n : ℕ) → Sent how s b n → present (data_in (map states (emitted s))) ≡ data_of s
unfolding verdict_of
data-emitted how s b n h =
    let accepted = (not-refused s (fits-yes s h.fits).0).0 in
    ap present (in-emitted s) ∙ sym (values-are Start (records s) accepted)

pub data-read : DataRead
data-read how s b n h ts r = ap (λ (us : List (Token Value)). present (data_in us)) (read_is how s b n h ts r) ∙ data-emitted how s b n h

-- ---- equal packets

pub equal-packets : EqualPackets
equal-packets how too s t b c n m h g e =
    let r : Reads (packets_left how s b n) (map states (emitted t)) = rw e (round_trip too t c m g) in
    let same = read-once (packets_left how s b n) (map states (emitted s)) (map states (emitted t)) (round_trip how s b n h) r in
    (same, sym (data-emitted how s b n h) ∙ ap (λ (us : List (Token Value)). present (data_in us)) same ∙ data-emitted too t c m g)
