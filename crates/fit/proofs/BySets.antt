-- The misfits of an accepted script's sets are those of its records one after another. Assumes nothing.
use mathlib.Core.Path.{◌≡◌, refl, sym, ap, ◌∙◌}
use mathlib.Core.Bool.{cond}
use mathlib.Core.List.{List, [], ◌∷◌, ◌++◌, map, append_assoc}
use mathlib.Core.Option.{Option, none, some}
use Prim.Native.Nat.{ℕ, suc}
use native.Mathlib.Omega.{arith}
use lib.Dec.{eqb}
use borrow.Author.Tests.{eqb-true}
use Rattle.wire.proofs.Cases.{by-test}
use Rattle.script.specs.declared.Stage.TheVariants.{Start, Columns}
use Rattle.script.specs.Records.{Item, item, cut, records}
use Rattle.script.specs.Order.{stage_after}
use Rattle.script.specs.Verdict.{verdict_from, verdict_of}
use Rattle.script.specs.Runs.{ahead}
use Rattle.script.specs.Sets.{ScriptCell, rows_in, up_to_set, set_of, sets_in}
use Rattle.script.specs.Sets.{cells_in as row_cells}
use Rattle.emission.specs.Walk.{rows_after, error_in}
use Rattle.script.proofs.Ordered.{Ordered, over, next, Kind, ordered, first-is, accepted-rest}
use Rattle.script.proofs.Ordered.Kind.{set, column, leading, info, row, cell, chunk, trailing}
use Rattle.emission.proofs.BySets.{list_of, columns-are, terminal-is}
use Rattle.fit.specs.declared.Misfit.{Misfit}
use Rattle.fit.specs.declared.Misfit.TheVariants.{Cell}
use Rattle.fit.specs.Misfits.{wrong_in_row, types_in, row_misfits, rows_misfits, set_misfits, sets_misfits, unless, misfits}
use Rattle.fit.specs.Records.{cells_in, begin_misfits, cell_misfits, misfits_at, misfits_from, set_from, sets_from, is_there, terminal, misfits_in}

-- the cells of a row stand in its set
values-are : (rs : List Item) → cells_in rs ≡ map (λ (c : ScriptCell). c.value) (row_cells (up_to_set rs))
unfolding cells_in row_cells up_to_set
values-are [] = refl
values-are (cut ∷ rs) = refl
values-are (item k p ∷ rs) =
    by-test (eqb k 1)
    (λ e. let same = eqb-true k 1 e in rw same)
    (λ e. by-test (eqb k 5)
    (λ f. rw (e, f) (ap (λ (ps : List (List ℕ)). p ∷ ps) (values-are rs)))
    (λ f. by-test (eqb k 6) (λ g. rw (e, f, g) (values-are rs)) (λ g. rw (e, f, g))))

row_is : (n nth : ℕ) (types : List ℕ) (rs : List Item)
    → cell_misfits n nth types rs ≡ row_misfits n nth types (record { cells = row_cells (up_to_set rs) })
unfolding cell_misfits
row_is n nth types rs = ap (λ (ps : List (List ℕ)). map (Cell n nth) (wrong_in_row types ps)) (values-are rs)

-- ---- the records one after another

-- the misfits of the rest of their set, and of the sets after it
abbrev in_rows : ℕ → ℕ → List ℕ → List Item → List Misfit
in_rows n nth types rs = rows_misfits n nth types (rows_in (up_to_set rs))

abbrev in_sets : ℕ → List Item → List Misfit
in_sets n rs = sets_misfits n (sets_in rs)

abbrev Goes : ℕ → ℕ → List ℕ → List Item → Type 0
Goes n nth types rs = misfits_from n nth types rs ≡ in_rows n nth types rs ++ in_sets (suc n) rs

-- a set, with those after it
set-goes : (n : ℕ) (p : List ℕ) {m : ℕ} {rs : List Item} → Ordered m rs → Goes n 0 (types_in (ahead 2 rs)) rs
    → set_from n p rs ≡ sets_misfits n (set_of p (up_to_set rs) ∷ sets_in rs)
unfolding sets_misfits set_misfits begin_misfits
set-goes n p {rs = rs} o e =
    rw (e, columns-are o) (sym (append_assoc (begin_misfits n p rs) (in_rows n 0 (types_in (ahead 2 rs)) rs) (in_sets (suc n) rs)))

-- a row
row_goes : (n nth : ℕ) (types : List ℕ) (p : List ℕ) (rs : List Item) → Goes n (suc nth) types rs → Goes n nth types (item 4 p ∷ rs)
unfolding misfits_from misfits_at rows_after rows_misfits rows_in up_to_set sets_in
row_goes n nth types p rs e =
    let r : List Misfit = row_misfits n nth types (record { cells = row_cells (up_to_set rs) }) in
    ap (λ (ms : List Misfit). cell_misfits n nth types rs ++ ms) e
    ∙ ap (λ (ms : List Misfit). ms ++ (in_rows n (suc nth) types rs ++ in_sets (suc n) rs)) (row_is n nth types rs)
    ∙ sym (append_assoc r (in_rows n (suc nth) types rs) (in_sets (suc n) rs))

goes : (n nth : ℕ) (types : List ℕ) {m : ℕ} {rs : List Item} → Ordered m rs → Goes n nth types rs
unfolding misfits_from misfits_at rows_after rows_misfits sets_misfits rows_in up_to_set sets_in
goes n nth types over = refl
goes n nth types (next {p = p} {rs = rs} set f l o) = set-goes (suc n) p o (goes (suc n) 0 (types_in (ahead 2 rs)) o)
goes n nth types (next column f l o) = goes n nth types o
goes n nth types (next leading f l o) = goes n nth types o
goes n nth types (next Kind.terminal f l o) = goes n nth types o
goes n nth types (next info f l o) = goes n nth types o
goes n nth types (next {p = p} {rs = rs} row f l o) = row_goes n nth types p rs (goes n (suc nth) types o)
goes n nth types (next cell f l o) = goes n nth types o
goes n nth types (next chunk f l o) = goes n nth types o
goes n nth types (next trailing f l o) = goes n nth types o

-- ---- the script

unless-is : (o : Option (List ℕ)) (ms : List Misfit) → unless (list_of o) ms ≡ cond (is_there o) [] ms
unless-is none ms = refl
unless-is (some p) ms = refl

first-set : (p : List ℕ) {n : ℕ} {rs : List Item} → Ordered n rs → misfits (sets_in (item 1 p ∷ rs)) ≡ misfits_in (item 1 p ∷ rs)
unfolding misfits misfits_in sets_in terminal sets_from
first-set p {rs = rs} o =
    rw (← set-goes 0 p o (goes 0 0 (types_in (ahead 2 rs)) o), terminal-is o) (unless-is (error_in 8 rs) (set_from 0 p rs))

by-records : (rs : List Item) → verdict_from Start rs ≡ 0 → misfits (sets_in rs) ≡ misfits_in rs
unfolding verdict_from stage_after
by-records [] e = absurd (omega (arith, e))
by-records (cut ∷ rs) e = absurd (omega (arith, e))
by-records (item k p ∷ rs) e =
    let same = first-is k p rs e in
    let v : verdict_from Columns rs ≡ 0 = rw same at (accepted-rest Start k p rs e) in
    rw same (first-set p (ordered Columns rs v))

-- an accepted script's misfits
pub by-sets : (s : List ℕ) → verdict_of s ≡ 0 → misfits (sets_in (records s)) ≡ misfits_in (records s)
unfolding verdict_of
by-sets s e = by-records (records s) e
