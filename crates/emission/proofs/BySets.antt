-- What the sets of an accepted script emit is what its records emit one after another. Assumes nothing.
use mathlib.Core.Path.{◌≡◌, refl, sym, ap, ◌∙◌}
use mathlib.Core.List.{List, [], ◌∷◌, ◌++◌, flat_map, append_assoc}
use mathlib.Core.Option.{Option, none, some}
use Prim.Native.Nat.{ℕ, suc, ◌+◌, ◌<◌}
use native.Mathlib.Nat.{add-zero, zero-add, add-suc, suc-add}
use native.Mathlib.Omega.{arith}
use lib.Dec.{eqb}
use lib.ListN.{length}
use borrow.Author.Tests.{eqb-true}
use Rattle.wire.proofs.Cases.{by-test}
use Rattle.token.specs.Tokens.{metadata, row}
use Rattle.script.specs.declared.Stage.TheVariants.{Start, Columns}
use Rattle.script.specs.Records.{Item, item, cut, records}
use Rattle.script.specs.Order.{stage_after}
use Rattle.script.specs.Verdict.{verdict_from, verdict_of}
use Rattle.script.specs.Runs.{ahead}
use Rattle.script.specs.Sets.{every, cells_in, rows_in, up_to_set, ScriptCell, ScriptSet, set_of, sets_in}
use Rattle.emission.specs.Emission.{Piece, token_piece, classification_piece, info_token, done_token, more_status, leading_status, terminal_status}
use Rattle.emission.specs.Emission.{column_pieces, info_pieces, error_pieces, cell_pieces, row_pieces, set_pieces, status_before, sets_pieces, or_else, emitted_by, pieces}
use Rattle.emission.specs.Walk.{begin_pieces, pieces_of, rows_after, emit_from, error_in, lead_pieces, or_sets, sets_of, walked_by, walked}
use Rattle.emission.specs.Refusal.{refusal_of}
use Rattle.script.proofs.Ordered.{Ordered, over, next, Kind, ordered, first-is, accepted-rest, no_more}
use Rattle.script.proofs.Ordered.Kind.{set, column, leading, terminal, info, chunk, trailing}

-- ---- the parts of a set

-- its columns stand after it
pub columns-are : {n : ℕ} {rs : List Item} → Ordered n rs → every 2 (up_to_set rs) ≡ ahead 2 rs
unfolding every up_to_set ahead
columns-are over = refl
columns-are (next set f l o) = refl
columns-are (next {p = p} column f l o) = ap (λ (ps : List (List ℕ)). p ∷ ps) (columns-are o)
columns-are (next leading f l o) = no_more 2 (omega arith) o
columns-are (next terminal f l o) = no_more 2 (omega arith) o
columns-are (next info f l o) = no_more 2 (omega arith) o
columns-are (next Kind.row f l o) = no_more 2 (omega arith) o
columns-are (next Kind.cell f l o) = no_more 2 (omega arith) o
columns-are (next chunk f l o) = no_more 2 (omega arith) o
columns-are (next trailing f l o) = no_more 2 (omega arith) o

-- the chunks of a cell stand in its set
chunks-are : (rs : List Item) → ahead 6 (up_to_set rs) ≡ ahead 6 rs
unfolding up_to_set ahead
chunks-are [] = refl
chunks-are (cut ∷ rs) = refl
chunks-are (item k p ∷ rs) =
    by-test (eqb k 1)
    (λ e. let same = eqb-true k 1 e in rw same)
    (λ e. by-test (eqb k 6) (λ f. rw (e, f, chunks-are rs)) (λ f. rw (e, f)))

-- its errors: at most one of each kind, after its columns
abbrev pub list_of : Option (List ℕ) → List (List ℕ)
list_of none = []
list_of (some p) = p ∷ []

leading-is : {n : ℕ} {rs : List Item} → Ordered n rs → every 7 (up_to_set rs) ≡ list_of (error_in 7 rs)
unfolding every up_to_set error_in
leading-is over = refl
leading-is (next set f l o) = refl
leading-is (next column f l o) = leading-is o
leading-is (next {p = p} leading f l o) = ap (λ (ps : List (List ℕ)). p ∷ ps) (no_more 7 (omega arith) o)
leading-is (next terminal f l o) = no_more 7 (omega arith) o
leading-is (next info f l o) = no_more 7 (omega arith) o
leading-is (next Kind.row f l o) = no_more 7 (omega arith) o
leading-is (next Kind.cell f l o) = no_more 7 (omega arith) o
leading-is (next chunk f l o) = no_more 7 (omega arith) o
leading-is (next trailing f l o) = no_more 7 (omega arith) o

pub terminal-is : {n : ℕ} {rs : List Item} → Ordered n rs → every 8 (up_to_set rs) ≡ list_of (error_in 8 rs)
unfolding every up_to_set error_in
terminal-is over = refl
terminal-is (next set f l o) = refl
terminal-is (next column f l o) = terminal-is o
terminal-is (next leading f l o) = terminal-is o
terminal-is (next {p = p} terminal f l o) = ap (λ (ps : List (List ℕ)). p ∷ ps) (no_more 8 (omega arith) o)
terminal-is (next info f l o) = no_more 8 (omega arith) o
terminal-is (next Kind.row f l o) = no_more 8 (omega arith) o
terminal-is (next Kind.cell f l o) = no_more 8 (omega arith) o
terminal-is (next chunk f l o) = no_more 8 (omega arith) o
terminal-is (next trailing f l o) = no_more 8 (omega arith) o

-- but among rows no cell stands next
no_cells : {n : ℕ} {rs : List Item} → (n ≡ 3 → ⊥) → Ordered n rs → cells_in (up_to_set rs) ≡ []
unfolding cells_in up_to_set
no_cells h over = refl
no_cells h (next set f l o) = refl
no_cells h (next column f l o) = refl
no_cells h (next leading f l o) = refl
no_cells h (next terminal f l o) = refl
no_cells h (next info f l o) = refl
no_cells h (next Kind.row f l o) = refl
no_cells h (next Kind.cell f l o) = absurd (h (omega arith))
no_cells h (next chunk f l o) = absurd (h (omega arith))
no_cells h (next trailing f l o) = refl

-- after all sets no row
no_rows : {n : ℕ} {rs : List Item} → 3 < n → Ordered n rs → rows_in (up_to_set rs) ≡ []
unfolding rows_in up_to_set
no_rows h over = refl
no_rows h (next set f l o) = refl
no_rows h (next column f l o) = absurd (omega arith)
no_rows h (next leading f l o) = absurd (omega arith)
no_rows h (next terminal f l o) = absurd (omega arith)
no_rows h (next info f l o) = absurd (omega arith)
no_rows h (next Kind.row f l o) = absurd (omega arith)
no_rows h (next Kind.cell f l o) = absurd (omega arith)
no_rows h (next chunk f l o) = absurd (omega arith)
no_rows h (next trailing f l o) = no_rows (omega arith) o

-- ---- a set and those after it

-- a set's DONE, and the sets after it
abbrev pub ending : ℕ → List ScriptSet → List Piece
ending rows ss = token_piece (done_token (status_before ss) rows) ∷ sets_pieces ss

regroup : (a b i r n d qs : List Piece) → a ++ (b ++ i) ++ r ++ n ++ d ++ qs ≡ a ++ b ++ (i ++ (r ++ (n ++ (d ++ qs))))
regroup a b i r n d qs = simp append_assoc

pub sets-are : (s : ScriptSet) (ss : List ScriptSet)
    → sets_pieces (s ∷ ss)
    ≡ token_piece (metadata (length s.columns))
    ∷ column_pieces s.columns
    ++ (classification_piece s.classification ∷ [])
    ++ (info_pieces s.infos ++ (flat_map row_pieces s.rows ++ (info_pieces s.trailing ++ ending (length s.rows) ss)))
unfolding sets_pieces set_pieces
sets-are s ss =
    let c : List Piece = classification_piece s.classification ∷ [] in
    let d : List Piece = token_piece (done_token (status_before ss) (length s.rows)) ∷ [] in
    ap (λ (ps : List Piece). token_piece (metadata (length s.columns)) ∷ ps)
    (regroup (column_pieces s.columns) c (info_pieces s.infos) (flat_map row_pieces s.rows) (info_pieces s.trailing) d (sets_pieces ss))

-- ---- the records one after another

-- the last INFOs of their set, its DONE, which counts some rows before, and the sets after it; its rows before that; and before these
-- the cells of a row that has begun
abbrev last_part : ℕ → List Item → List Piece
last_part rows rs = info_pieces (every 9 (up_to_set rs)) ++ ending (rows + length (rows_in (up_to_set rs))) (sets_in rs)

abbrev rows_part : ℕ → List Item → List Piece
rows_part rows rs = flat_map row_pieces (rows_in (up_to_set rs)) ++ last_part rows rs

abbrev script_cell : ScriptCell → List Piece
script_cell c = cell_pieces c.value c.chunks

abbrev cells_part : ℕ → List Item → List Piece
cells_part rows rs = flat_map script_cell (cells_in (up_to_set rs)) ++ rows_part rows rs

-- what they emit: the rest of their set and the sets after it
abbrev Goes : ℕ → List Item → Type 0
Goes rows rs = emit_from rows rs ≡ info_pieces (every 3 (up_to_set rs)) ++ cells_part rows rs

-- the same where no cell stands next
abbrev Passes : ℕ → List Item → Type 0
Passes rows rs = emit_from rows rs ≡ info_pieces (every 3 (up_to_set rs)) ++ rows_part rows rs

passes : {n : ℕ} {rs : List Item} (rows : ℕ) → (n ≡ 3 → ⊥) → Ordered n rs → Goes rows rs → Passes rows rs
unfolding flat_map
passes rows h o e = rw (no_cells h o) at e

-- a set, with those after it
set-goes : (p : List ℕ) {rs : List Item} → Ordered 0 rs → Goes 0 rs → sets_pieces (set_of p (up_to_set rs) ∷ sets_in rs) ≡ begin_pieces p rs ++ emit_from 0 rs
set-goes p {rs = rs} o e = sets-are (set_of p (up_to_set rs)) (sets_in rs) ∙ rw (columns-are o, passes 0 (λ h. omega arith) o e, zero-add)

-- one piece more, after what is empty
one_more : (x : Piece) {i ps : List Piece} (qs : List Piece) → i ≡ [] → ps ≡ i ++ qs → x ∷ ps ≡ i ++ x ∷ qs
one_more x qs e h = rw e (ap (λ (ps : List Piece). x ∷ ps) (rw e at h))

-- and some
some_more : (xs : List Piece) {i ps : List Piece} (qs : List Piece) → i ≡ [] → ps ≡ i ++ qs → xs ++ ps ≡ i ++ (xs ++ qs)
some_more xs qs e h = rw e (ap (λ (ps : List Piece). xs ++ ps) (rw e at h))

goes : (rows : ℕ) {n : ℕ} {rs : List Item} → Ordered n rs → Goes rows rs
unfolding emit_from pieces_of rows_after every up_to_set cells_in rows_in sets_in flat_map sets_pieces
goes rows over = rw add-zero
goes rows (next {p = p} set f l o) = rw add-zero (ap (λ (qs : List Piece). token_piece (done_token more_status rows) ∷ qs) (sym (set-goes p o (goes 0 o))))
goes rows (next column f l o) = passes rows (λ h. omega arith) o (goes rows o)
goes rows (next leading f l o) = passes rows (λ h. omega arith) o (goes rows o)
goes rows (next terminal f l o) = passes rows (λ h. omega arith) o (goes rows o)
goes rows (next {p = p} info f l o) = ap (λ (qs : List Piece). token_piece (info_token p) ∷ qs) (passes rows (λ h. omega arith) o (goes rows o))
goes rows (next {rs = rs} Kind.row f l o) =
    let is = up_to_set rs in
    let cs = flat_map script_cell (cells_in is) in
    let e : emit_from (suc rows) rs ≡ info_pieces (every 3 is) ++ (cs ++ flat_map row_pieces (rows_in is) ++ last_part (suc rows) rs) =
    rw (append_assoc cs (flat_map row_pieces (rows_in is)) (last_part (suc rows) rs)) (goes (suc rows) o) in
    rw (add-suc, ← suc-add rows (length (rows_in is)))
    (one_more (token_piece row) (cs ++ flat_map row_pieces (rows_in is) ++ last_part (suc rows) rs) (ap info_pieces (no_more 3 (omega arith) o)) e)
goes rows (next {p = p} {rs = rs} Kind.cell f l o) =
    let c = cell_pieces p (ahead 6 rs) in
    let cs = flat_map script_cell (cells_in (up_to_set rs)) in
    rw (chunks-are rs, append_assoc c cs (rows_part rows rs)) (some_more c (cells_part rows rs) (ap info_pieces (no_more 3 (omega arith) o)) (goes rows o))
goes rows (next chunk f l o) = goes rows o
goes rows (next {p = p} {rs = rs} trailing f l o) =
    let i : info_pieces (every 3 (up_to_set rs)) ≡ [] = ap info_pieces (no_more 3 (omega arith) o) in
    let r : flat_map row_pieces (rows_in (up_to_set rs)) ≡ [] = ap (flat_map row_pieces) (no_rows (omega arith) o) in
    rw i (one_more (token_piece (info_token p)) (last_part rows rs) r (rw i at (passes rows (λ h. omega arith) o (goes rows o))))

-- ---- the script

-- an error that is there or not
error-is : (status : ℕ) (o : Option (List ℕ)) → error_pieces status (list_of o) ≡ lead_pieces status o
error-is status none = refl
error-is status (some p) = refl

or_is : (o : Option (List ℕ)) (ps : List Piece) → or_else (error_pieces terminal_status (list_of o)) ps ≡ or_sets o ps
or_is none ps = refl
or_is (some p) ps = refl

first-set : (p : List ℕ) {rs : List Item} → Ordered 0 rs → emitted_by (sets_in (item 1 p ∷ rs)) ≡ sets_of p rs
unfolding emitted_by sets_in
first-set p {rs = rs} o =
    rw (set-goes p o (goes 0 o), terminal-is o, leading-is o, error-is leading_status (error_in 7 rs))
    (or_is (error_in 8 rs) (lead_pieces leading_status (error_in 7 rs) ++ (begin_pieces p rs ++ emit_from 0 rs)))

by-records : (rs : List Item) → verdict_from Start rs ≡ 0 → emitted_by (sets_in rs) ≡ walked_by rs
unfolding walked_by verdict_from stage_after
by-records [] e = absurd (omega (arith, e))
by-records (cut ∷ rs) e = absurd (omega (arith, e))
by-records (item k p ∷ rs) e =
    let same = first-is k p rs e in
    let v : verdict_from Columns rs ≡ 0 = rw same at (accepted-rest Start k p rs e) in
    rw same (first-set p (ordered Columns rs v))

pub by-sets : (s : List ℕ) → verdict_of s ≡ 0 → pieces s ≡ walked s
unfolding pieces walked verdict_of
by-sets s e = by-records (records s) e

-- a script that is not refused is accepted
pub no-verdict : (s : List ℕ) → refusal_of s ≡ 0 → verdict_of s ≡ 0
unfolding refusal_of
no-verdict s e = by-test (eqb (verdict_of s) 0) (λ t. eqb-true (verdict_of s) 0 t) (λ t. rw t at e)
