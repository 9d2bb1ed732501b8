-- What a script of bytes emits that is accepted and fits is well formed: by induction over the records, with the stage of their
-- order, the types of the set's columns and those whose cells are to come in hand. Assumes nothing.
use mathlib.Core.Path.{◌≡◌, refl}
use mathlib.Core.Bool.{true, false, cond, ◌||◌}
use mathlib.Core.List.{List, [], ◌∷◌, ◌++◌, map, flat_map, append-nil}
use mathlib.Core.Option.{Option, none, some}
use Prim.Native.Nat.{ℕ, suc, ◌+◌, ◌^◌, ◌≤◌, ◌<◌}
use native.Mathlib.Omega.{arith}
use lib.Dec.{eqb, ltb}
use lib.ListN.{length, drop, length-map}
use lib.Seq.{append_snoc}
use borrow.Author.Tests.{eqb-true, ltb-false}
use Rattle.wire.proofs.Cases.{by-test}
use Rattle.wire.specs.Le.{le_at}
use Rattle.packet.specs.Status.{has_bit}
use Rattle.packet.proofs.Sizes.{length-packet}
use Rattle.text.specs.Units.{units}
use Rattle.token.specs.Tokens.{metadata, row, cell}
use Rattle.script.specs.declared.Stage.{Stage}
use Rattle.script.specs.declared.Stage.TheVariants.{Start, Columns, Rows}
use Rattle.script.specs.Records.{Item, item, cut, records}
use Rattle.script.specs.Order.{allowed, stage_after, cell_stage}
use Rattle.script.proofs.Ordered.{first-is}
use Rattle.script.specs.Shape.{shaped, texts_of}
use Rattle.script.specs.Verdict.{verdict_from, verdict_of}
use Rattle.script.specs.Runs.{ahead}
use Rattle.emission.specs.Emission.{Piece, token_piece, classification_piece, column_token, info_token, done_token, more_status, leading_status, terminal_status, cell_pieces, column_pieces, pieces, tokens_in, emitted, bytes_in, reply_of}
use Rattle.emission.specs.Walk.{walked, begin_pieces, pieces_of, rows_after, emit_from, error_in, lead_pieces, sets_of, walked_by}
use Rattle.emission.specs.Refusal.{fault_in, refusal_of}
use Rattle.token.specs.Names.{long_name, name_fault}
use Rattle.emission.proofs.BySets.{by-sets}
use Rattle.emission.proofs.Sizes.{size-told, size-row, size-cat}
use Rattle.std.specs.Prelude.{Ok, None}
use Rattle.fit.specs.Misfits.{types_in, fit_of}
use Rattle.fit.specs.Records.{cells_in, begin_misfits, misfits_from, misfits_in}
use Rattle.fit.proofs.Inverts.{Match, no_cell, match-cell, match-chunk, match-over, match-end, suits, set-fits, row_fits, fits-set, fits-row, fits-other, fits-first, fits-yes}
use Rattle.reader.proofs.WellFormed.{ColumnType, among, between, in_row, WF, WellFormed}
use Rattle.reader.proofs.Sendable.{done_ok, metadata-then, column-then, row-then, cell-then, message-then, done-then, done-last}
use Rattle.wire.specs.Octets.{Bytes}
use Rattle.round_trip.proofs.Ranges.{Payloads, payloads}
use Rattle.round_trip.proofs.Accepted.{no-fault, no_test, fault-first, fault-parts, short-name, taken, no_cells, Columned, columned, whole, ErrorOk, leading-error, terminal-error, by-error}
use Rattle.round_trip.proofs.Fields.{type_of, column_type, column-there, column_fits, cell_in, cell-there, info-fits, error-fits, cell-ok}

-- the columns of type bytes
abbrev typed : List ℕ → List ColumnType
typed ts = map column_type ts

-- what follows is no longer than the whole
later : (ps qs : List Piece) → length (bytes_in qs) ≤ length (bytes_in (ps ++ qs))
later ps qs = omega (arith, size-cat ps qs)

-- ---- the columns of a set

-- a set's columns and its classification, and what follows
abbrev columns_then : List ℕ → List (List ℕ) → List Piece → List Piece
columns_then x ps qs = (column_pieces ps ++ (classification_piece x ∷ [])) ++ qs

-- names of at most 255 units
abbrev Named : List (List ℕ) → Type 0
Named [] = Unit {0}
Named (p ∷ ps) = (units (drop 6 p) ≤ 255) × Named ps

named : (x : List ℕ) (ps : List (List ℕ)) (qs : List Piece) → Columned ps → fault_in (columns_then x ps qs) ≡ 0 → Named ps × (fault_in qs ≡ 0)
unfolding name_fault flat_map
named x [] qs c e = (tt, (fault-first (classification_piece x) qs e).1)
named x (p ∷ ps) qs c e =
    let f = fault-first (token_piece (column_token (type_of (le_at 1 p)) p)) (columns_then x ps qs) (rw (column-there p c.0) at e) in
    let r = named x ps qs c.2 f.1 in
    ((short-name (drop 6 p) (no_test (long_name (drop 6 p)) 15 f.0), r.0), r.1)

columns-formed : (x : List ℕ) (ps : List (List ℕ)) (qs : List Piece) (cs : List ColumnType) → Columned ps → Named ps
    → WF (between (cs ++ typed (types_in ps))) (tokens_in qs) → WF (among cs (length ps)) (tokens_in (columns_then x ps qs))
unfolding types_in flat_map
columns-formed x [] qs cs c n w = rw append-nil at w
columns-formed x (p ∷ ps) qs cs c n w =
    rw (column-there p c.0)
    (column-then (column_fits p c.0 c.1 n.0)
    (columns-formed x ps qs (cs ++ (column_type (le_at 1 p) ∷ [])) c.2 n.1 (rw append_snoc w)))

-- ---- where the records go on

-- Records from a stage on, of a set whose columns have some types, in a row of which the cells of `left` are to come: bytes,
-- accepted, fitting, with no fault in what they emit, which is short
pub record Going (set nth rows : ℕ) (types left : List ℕ) (st : Stage) (rs : List Item) : Type 0 where
  pub bytes : Payloads rs
  pub accepted : verdict_from st rs ≡ 0
  pub fits : misfits_from set nth types rs ≡ []
  pub cells : Match left (cells_in rs)
  pub sound : fault_in (emit_from rows rs) ≡ 0
  pub short : rows + length (bytes_in (emit_from rows rs)) < 256 ^ 8

-- emit well-formed tokens
abbrev Formed : ℕ → List ℕ → List ℕ → List Item → Type 0
Formed rows types left rs = WF (in_row (typed types) (typed left)) (tokens_in (emit_from rows rs))

abbrev Claim : List Item → Type 0
Claim rs = (set nth rows : ℕ) (types left : List ℕ) (st : Stage) → Going set nth rows types left st rs → Formed rows types left rs

-- a set's beginning, and what follows
begins : (set : ℕ) (p : List ℕ) (rs : List Item) {cs : List ColumnType} → Claim rs → Payloads rs → verdict_from Columns rs ≡ 0
    → begin_misfits set p rs ≡ [] → misfits_from set 0 (types_in (ahead 2 rs)) rs ≡ []
    → fault_in (begin_pieces p rs ++ emit_from 0 rs) ≡ 0 → length (bytes_in (begin_pieces p rs ++ emit_from 0 rs)) < 256 ^ 8
    → WF (between cs) (tokens_in (begin_pieces p rs ++ emit_from 0 rs))
begins set p rs rest b v m f e l =
    let s = set-fits set p rs m in
    let h = fault-first (token_piece (metadata (length (ahead 2 rs)))) (columns_then p (ahead 2 rs) (emit_from 0 rs)) e in
    let n = named p (ahead 2 rs) (emit_from 0 rs) (columned Columns rs v) h.1 in
    let go : Going set 0 0 (types_in (ahead 2 rs)) [] Columns rs = record {
      bytes = b;
      accepted = v;
      fits = f;
      cells = rw (no_cells Columns rs refl refl v) no_cell;
      sound = n.1;
      short = omega (arith, later (begin_pieces p rs) (emit_from 0 rs));
    } in
    metadata-then s.1
    (columns-formed p (ahead 2 rs) (emit_from 0 rs) [] (columned Columns rs v) n.0 (rest set 0 0 (types_in (ahead 2 rs)) [] Columns go))

-- after a record that is no row, cell or chunk no cell follows
outside : (st : Stage) (k : ℕ) (p : List ℕ) → eqb k 4 ≡ false → eqb k 5 ≡ false → eqb k 6 ≡ false
    → (allowed (stage_after st k p) 5 ≡ false) × (allowed (stage_after st k p) 6 ≡ false)
unfolding stage_after
outside st k p h4 h5 h6 =
    by-test (eqb k 1 || eqb k 2) (λ a. rw a (refl, refl))
    (λ a. by-test (eqb k 3 || eqb k 8) (λ b. rw (a, b) (refl, refl))
    (λ b. by-test (eqb k 7) (λ c. rw (a, b, h4, h5, h6, c) (refl, refl)) (λ c. rw (a, b, h4, h5, h6, c) (refl, refl))))

-- ---- a record, and those after it

module _ (p : List ℕ) (rs : List Item) (rest : Claim rs) (set nth rows : ℕ) (types left : List ℕ) (st : Stage) where
  abbrev At : ℕ → Type 0
  At k = Going set nth rows types left st (item k p ∷ rs) → Formed rows types left (item k p ∷ rs)

  set_at : At 1
  unfolding emit_from pieces_of rows_after stage_after has_bit
  set_at g =
      let t = taken st 1 p rs g.accepted in
      let f = fits-set set nth types 1 p rs g.fits refl in
      let d = fault-first (token_piece (done_token more_status rows)) (begin_pieces p rs ++ emit_from 0 rs) g.sound in
      let l : length (bytes_in (begin_pieces p rs ++ emit_from 0 rs)) < 256 ^ 8 = omega (arith, g.short, later (token_piece (done_token more_status rows) ∷ []) (begin_pieces p rs ++ emit_from 0 rs)) in
      let w : WF (between []) (tokens_in (begin_pieces p rs ++ emit_from 0 rs)) = begins (suc set) p rs rest g.bytes.1 t.rest f.0 f.1 d.1 l in
      let over : left ≡ [] = match-over left 1 p rs g.cells refl refl in
      rw over (done-then (done_ok (omega arith) (omega arith) (omega (arith, g.short))) refl w)

  -- past a record that is no set, row, cell or chunk
  past : (k : ℕ) → Going set nth rows types left st (item k p ∷ rs) → eqb k 1 ≡ false → eqb k 4 ≡ false → eqb k 5 ≡ false → eqb k 6 ≡ false
      → fault_in (emit_from rows rs) ≡ 0 → rows + length (bytes_in (emit_from rows rs)) < 256 ^ 8 → WF (between (typed types)) (tokens_in (emit_from rows rs))
  past k g h1 h4 h5 h6 s l =
      let t = taken st k p rs g.accepted in
      let o = outside st k p h4 h5 h6 in
      rest set nth rows types [] (stage_after st k p) (record {
        bytes = g.bytes.1;
        accepted = t.rest;
        fits = fits-other set nth types k p rs g.fits h1 h4;
        cells = rw (no_cells (stage_after st k p) rs o.0 o.1 t.rest) no_cell;
        sound = s;
        short = l;
      })

  info-of : (k : ℕ) → Going set nth rows types left st (item k p ∷ rs) → eqb k 1 ≡ false → eqb k 4 ≡ false → eqb k 5 ≡ false → eqb k 6 ≡ false
      → texts_of k p ≡ texts_of 3 p → emit_from rows (item k p ∷ rs) ≡ token_piece (info_token p) ∷ emit_from rows rs → Formed rows types left (item k p ∷ rs)
  info-of k g h1 h4 h5 h6 same e =
      let t = taken st k p rs g.accepted in
      let s : fault_in (token_piece (info_token p) ∷ emit_from rows rs) ≡ 0 = rw e at g.sound in
      let l : rows + length (bytes_in (token_piece (info_token p) ∷ emit_from rows rs)) < 256 ^ 8 = rw e at g.short in
      let f = fault-first (token_piece (info_token p)) (emit_from rows rs) s in
      let over : left ≡ [] = match-over left k p rs g.cells h5 h6 in
      let w = past k g h1 h4 h5 h6 f.1 (omega (arith, l, later (token_piece (info_token p) ∷ []) (emit_from rows rs))) in
      rw (over, e) (message-then (info-fits p g.bytes.0 (rw same at t.texts) f.0) w)

  info-at : (k : ℕ) → (eqb k 3 || eqb k 9) ≡ true → At k
  unfolding emit_from pieces_of rows_after texts_of
  info-at k h =
      by-test (eqb k 3)
      (λ a. rw (eqb-true k 3 a) (λ g. info-of 3 g refl refl refl refl refl refl))
      (λ a. let b : eqb k 9 ≡ true = rw a at h in rw (eqb-true k 9 b) (λ g. info-of 9 g refl refl refl refl refl refl))

  row_at : At 4
  unfolding emit_from pieces_of rows_after stage_after
  row_at g =
      let t = taken st 4 p rs g.accepted in
      let f = fits-row set nth types 4 p rs g.fits refl refl in
      let r = row_fits set nth types rs f.0 in
      let s = fault-first (token_piece row) (emit_from (suc rows) rs) g.sound in
      let over : left ≡ [] = match-over left 4 p rs g.cells refl refl in
      let go : Going set (suc nth) (suc rows) types types Rows rs = record {
        bytes = g.bytes.1;
        accepted = t.rest;
        fits = f.1;
        cells = r.1;
        sound = s.1;
        short = omega (arith, g.short, size-told row (emit_from (suc rows) rs), size-row);
      } in
      let some : 0 < length (typed types) = omega (arith, r.0, length-map types column_type) in
      rw over (row-then some (rest set (suc nth) (suc rows) types types Rows go))

  cell_at : At 5
  unfolding emit_from pieces_of rows_after stage_after cell_stage shaped
  cell_at g =
      let t = taken st 5 p rs g.accepted in
      let m = match-cell left 5 p rs g.cells refl in
      let there = cell-there p (ahead 6 rs) t.shape in
      let f = fault-first (token_piece (cell (cell_in p (ahead 6 rs)))) (emit_from rows rs) (rw there at g.sound) in
      let next : verdict_from (stage_after st 5 p) rs ≡ 0 = t.rest in
      let go : Going set nth rows types m.1 (stage_after st 5 p) rs = record {
        bytes = g.bytes.1;
        accepted = next;
        fits = fits-other set nth types 5 p rs g.fits refl refl;
        cells = m.4;
        sound = f.1;
        short = omega (arith, g.short, later (cell_pieces p (ahead 6 rs)) (emit_from rows rs));
      } in
      let ok = cell-ok m.0 p (ahead 6 rs) g.bytes.0 t.texts f.0 (λ e. whole rs (rw e at next)) (suits m.0 p t.shape m.3) in
      rw (m.2, there) (cell-then ok (rest set nth rows types m.1 (stage_after st 5 p) go))

  chunk-at : At 6
  unfolding emit_from pieces_of rows_after stage_after
  chunk-at g =
      let t = taken st 6 p rs g.accepted in
      rest set nth rows types left st (record {
        bytes = g.bytes.1;
        accepted = t.rest;
        fits = fits-other set nth types 6 p rs g.fits refl refl;
        cells = match-chunk left 6 p rs g.cells refl refl;
        sound = g.sound;
        short = g.short;
      })

  -- any other record emits nothing
  silent : (k : ℕ) → eqb k 1 ≡ false → (eqb k 3 || eqb k 9) ≡ false → eqb k 4 ≡ false → eqb k 5 ≡ false → emit_from rows (item k p ∷ rs) ≡ emit_from rows rs
  unfolding emit_from pieces_of rows_after
  silent k h1 h3 h4 h5 = rw (h1, h3, h4, h5)

  other_at : (k : ℕ) → eqb k 1 ≡ false → (eqb k 3 || eqb k 9) ≡ false → eqb k 4 ≡ false → eqb k 5 ≡ false → eqb k 6 ≡ false → At k
  other_at k h1 h3 h4 h5 h6 g =
      let e = silent k h1 h3 h4 h5 in
      let over : left ≡ [] = match-over left k p rs g.cells h5 h6 in
      rw (over, e) (past k g h1 h4 h5 h6 (rw e at g.sound) (rw e at g.short))

  item-at : (k : ℕ) → At k
  item-at k =
      by-test (eqb k 1) (λ h. rw (eqb-true k 1 h) set_at)
      (λ h1. by-test (eqb k 3 || eqb k 9) (λ h. info-at k h)
      (λ h3. by-test (eqb k 4) (λ h. rw (eqb-true k 4 h) row_at)
      (λ h4. by-test (eqb k 5) (λ h. rw (eqb-true k 5 h) cell_at)
      (λ h5. by-test (eqb k 6) (λ h. rw (eqb-true k 6 h) chunk-at)
      (λ h6. other_at k h1 h3 h4 h5 h6)))))

-- the last DONE
ended : (set nth rows : ℕ) (types left : List ℕ) (st : Stage) → Going set nth rows types left st [] → Formed rows types left []
unfolding emit_from cells_in has_bit
ended set nth rows types left st g =
    let over : left ≡ [] = match-end g.cells in
    rw over (done-last (done_ok (omega arith) (omega arith) (omega (arith, g.short))) refl)

-- no accepted record is cut
never-cut : {X : Type 0} (st : Stage) (rs : List Item) → verdict_from st (cut ∷ rs) ≡ 0 → X
unfolding verdict_from
never-cut st rs e = absurd (omega (arith, e))

formed : (rs : List Item) → Claim rs
formed [] set nth rows types left st g = ended set nth rows types left st g
formed (cut ∷ rs) set nth rows types left st g = never-cut st rs g.accepted
formed (item k p ∷ rs) set nth rows types left st g = item-at p rs (formed rs) set nth rows types left st k g

-- ---- the script

-- a leading error
leads : (o : Option (List ℕ)) (qs : List Piece) → ErrorOk o → WF (between []) (tokens_in qs) → WF (between []) (tokens_in (lead_pieces leading_status o ++ qs))
unfolding has_bit
leads none qs ok w = w
leads (some e) qs ok w =
    message-then (error-fits e ok.0 ok.1) (done-then (done_ok (omega arith) (omega arith) (omega arith)) refl w)

-- a terminal error
stops : (e : List ℕ) → ErrorOk (some e) → WF (between []) (tokens_in (lead_pieces terminal_status (some e)))
unfolding has_bit
stops e ok = message-then (error-fits e ok.0 ok.1) (done-last (done_ok (omega arith) (omega arith) (omega arith)) refl)

-- no accepted script is without a set
never-none : {X : Type 0} → verdict_from Start [] ≡ 0 → X
unfolding verdict_from
never-none e = absurd (omega (arith, e))

first-set : (k : ℕ) (p : List ℕ) (rs : List Item) → verdict_from Start (item k p ∷ rs) ≡ 0 → verdict_from Columns rs ≡ 0
unfolding stage_after
first-set k p rs e =
    let v : verdict_from (stage_after Start k p) rs ≡ 0 = (taken Start k p rs e).rest in
    rw (first-is k p rs e) at v

sets-formed : (k : ℕ) (p : List ℕ) (rs : List Item) → Payloads rs → verdict_from Columns rs ≡ 0 → misfits_in (item k p ∷ rs) ≡ []
    → fault_in (sets_of p rs) ≡ 0 → length (bytes_in (sets_of p rs)) < 256 ^ 8 → WellFormed (tokens_in (sets_of p rs))
sets-formed k p rs b v m s l =
    by-error (error_in 8 rs)
    (λ h.
    let sets : List Piece = begin_pieces p rs ++ emit_from 0 rs in
    let f = fits-first k p rs m h in
    let s' : fault_in (lead_pieces leading_status (error_in 7 rs) ++ sets) ≡ 0 = rw h at s in
    let l' : length (bytes_in (lead_pieces leading_status (error_in 7 rs) ++ sets)) < 256 ^ 8 = rw h at l in
    let w = begins 0 p rs (formed rs) b v f.0 f.1 (fault-parts (lead_pieces leading_status (error_in 7 rs)) sets s').1 (omega (arith, l', later (lead_pieces leading_status (error_in 7 rs)) sets)) in
    rw h (leads (error_in 7 rs) sets (leading-error Columns rs b v) w))
    (λ e h. let ok : ErrorOk (some e) = rw h at (terminal-error Columns rs b v) in rw h (stops e ok))

script-formed : (rs : List Item) → Payloads rs → verdict_from Start rs ≡ 0 → misfits_in rs ≡ [] → fault_in (walked_by rs) ≡ 0
    → length (bytes_in (walked_by rs)) < 256 ^ 8 → WellFormed (tokens_in (walked_by rs))
unfolding walked_by
script-formed [] b v m s l = never-none v
script-formed (cut ∷ rs) b v m s l = never-cut Start rs v
script-formed (item k p ∷ rs) b v m s l = sets-formed k p rs b.1 (first-set k p rs v) m s l

-- what it says that a script is not refused
pub not-refused : (s : List ℕ) → refusal_of s ≡ 0 → (verdict_of s ≡ 0) × (fault_in (pieces s) ≡ 0) × (length (reply_of s) ≤ 65535)
unfolding refusal_of
not-refused s e =
    let v = no-fault (verdict_of s) (cond (eqb (fault_in (pieces s)) 0) (cond (ltb 65535 (length (reply_of s))) 17 0) (fault_in (pieces s))) e in
    let f = no-fault (fault_in (pieces s)) (cond (ltb 65535 (length (reply_of s))) 17 0) v.1 in
    (v.0, f.0, ltb-false 65535 (length (reply_of s)) (no_test (ltb 65535 (length (reply_of s))) 16 f.1))

pub emitted-well-formed : (s : List ℕ) → Bytes s → fit_of s ≡ Ok None → WellFormed (emitted s)
unfolding emitted walked verdict_of reply_of
emitted-well-formed s b f =
    let y = fits-yes s f in
    let r = not-refused s y.0 in
    let same = by-sets s r.0 in
    let l : length (bytes_in (pieces s)) < 256 ^ 8 = omega (arith, r.2, length-packet (bytes_in (pieces s))) in
    rw same (script-formed (records s) (payloads s b) r.0 y.1 (rw same at r.1) (rw same at l))
