-- The misfits of a script stand in the order of document 02, so that the fit check's answer is the first. Assumes nothing.
use Rattle.std.specs.Prelude.{Option, Some, None, Ok}
use Prim.Native.Nat.{ℕ, suc, ◌+◌, ◌<◌}
use mathlib.Core.Path.{◌≡◌, refl, sym, ap, ◌∙◌}
use mathlib.Core.Bool.{true, false, Bool-set}
use mathlib.Core.Logic.{inl, inr, ∥∥₁_elim}
use mathlib.Core.List.Memᴰ
use mathlib.Core.List.{List, [], ◌∷◌, ◌++◌, map, Mem, Memᴰ}
use mathlib.Core.List.{not-mem-nil}
use mathlib.Core.List.Pairwise
use mathlib.Core.List.{Pairwise, Pairwise-singleton, Pairwise-append, rel_of_Pairwise-cons}
use native.Mathlib.Omega.{arith}
use lib.Dec.{eqb, leb}
use lib.ListN.{length}
use Rattle.wire.proofs.Cases.{by-test, clash}
use Rattle.wire.proofs.Rising.{RiseFrom, none-rises, rises}
use Rattle.script.specs.Records.{records}
use Rattle.script.specs.Sets.{ScriptCell, ScriptRow, ScriptSet, sets_in}
use Rattle.emission.specs.Refusal.{refusal_of}
use Rattle.fit.specs.declared.Misfit.{Misfit}
use Rattle.fit.specs.declared.Misfit.TheVariants.{Classification, Column, Cell}
use Rattle.fit.specs.Misfits.{cell_fits, wrong_cells, wrong_in_row, wrong_columns, types_in}
use Rattle.fit.specs.Misfits.{classification_misfits, row_misfits, rows_misfits, set_misfits, sets_misfits, unless, misfits, first_of, fit_of}
use Rattle.fit.specs.First.{place, earlier, before, FirstMisfit, FirstAnswered, FitsWithout}
use Rattle.fit.proofs.Order.{less-head, more-head, same_head, between, not_earlier, not-self, not_back, in_order}

-- ---- numbers of wrong cells and columns rise

cells-rise : (c : ℕ) (ts : List ℕ) (ps : List (List ℕ)) → RiseFrom c (wrong_cells c ts ps)
unfolding wrong_cells
cells-rise c [] [] = none-rises c
cells-rise c [] (p ∷ ps) = rises false c [] (none-rises (suc c))
cells-rise c (t ∷ ts) [] = rises false c [] (none-rises (suc c))
cells-rise c (t ∷ ts) (p ∷ ps) = rises (cell_fits t p) c (wrong_cells (suc c) ts ps) (cells-rise (suc c) ts ps)

row-rises : (ts : List ℕ) (ps : List (List ℕ)) → RiseFrom 0 (wrong_in_row ts ps)
unfolding wrong_in_row
row-rises [] ps = rises false 0 [] (none-rises 1)
row-rises (t ∷ ts) ps = cells-rise 0 (t ∷ ts) ps

columns-rise : (ps : List (List ℕ)) → RiseFrom 128 (wrong_columns ps)
unfolding wrong_columns
columns-rise ps = rises (leb (length ps) 128) 128 [] (none-rises 129)

-- ---- misfits in order, from one place on and before another

abbrev Before : Misfit → Misfit → Type 0
Before m o = before m o ≡ true

before-prop : (m o : Misfit) → IsProp (Before m o)
before-prop m o = Bool-set (before m o) true

record Stand (p q : List ℕ) (ms : List Misfit) : Type 0 where
  rising : Pairwise Before ms
  placed : (o : Misfit) → Memᴰ o ms → (earlier (place o) p ≡ false) × (earlier (place o) q ≡ true)

none-stand : (p q : List ℕ) → Stand p q []
none-stand p q = record { rising = Pairwise.nil; placed = λ o m. absurd (Memᴰ.not-nil m) }

one-stands : (p q : List ℕ) (m : Misfit) → earlier (place m) p ≡ false → earlier (place m) q ≡ true → Stand p q (m ∷ [])
one-stands p q m e f = record { rising = Pairwise-singleton Before m; placed = λ o d. rw (Memᴰ.eq_of_singleton d) (e, f) }

-- some, and others that do not stand before where these end
all-stand : {p q r : List ℕ} {ms ns : List Misfit} → earlier q p ≡ false → earlier r q ≡ false → Stand p q ms → Stand q r ns → Stand p r (ms ++ ns)
unfolding before
all-stand {p} {q} {r} {ms} e f g h =
    record {
      rising =
          (Pairwise-append before-prop).1 (
            g.rising,
            h.rising,
            λ m x o y. ∥∥₁_elim x (before-prop m o)
                (λ d. ∥∥₁_elim y (before-prop m o) (λ c. between (place m) q (place o) (g.placed m d).1 (h.placed o c).0)),
          );
      placed = λ o m. elim (Memᴰ.append_cases ms m) [
        | inl d ↦ ((g.placed o d).0, between (place o) q r (g.placed o d).1 f)
        | inr d ↦ (not_earlier (place o) q p (h.placed o d).0 e, (h.placed o d).1)
      ];
    }

-- ---- misfits that differ in their last number

within : (front xs : List ℕ) → earlier (front ++ xs) front ≡ false
unfolding earlier
within [] xs = refl
within (a ∷ front) xs = same_head a (front ++ xs) front ∙ within front xs

last_less : (front : List ℕ) (a b : ℕ) → a < b → earlier (front ++ a ∷ []) (front ++ b ∷ []) ≡ true
last_less [] a b h = less-head a b [] [] h
last_less (c ∷ front) a b h = same_head c (front ++ a ∷ []) (front ++ b ∷ []) ∙ last_less front a b h

numbered : (front q : List ℕ) (of : ℕ → Misfit) → ((n : ℕ) → place (of n) ≡ front ++ n ∷ []) → ((xs : List ℕ) → earlier (front ++ xs) q ≡ true)
    → (c : ℕ) (ns : List ℕ) → RiseFrom c ns → Stand front q (map of ns)
unfolding before
numbered front q of at f c ns h =
    record {
      rising = Pairwise.map before-prop of (λ a b l. rw (at a, at b) (last_less front a b l)) h.rising;
      placed = λ o m. let r = Memᴰ.of_map of ns m in
          let e : place o ≡ front ++ r.0 ∷ [] = ap place (sym r.2) ∙ at r.0 in
          rw e (within front (r.0 ∷ []), f (r.0 ∷ []));
    }

-- ---- the parts of a set

classification-stands : (set : ℕ) (p : List ℕ) → Stand (set ∷ []) (set ∷ 2 ∷ 0 ∷ []) (classification_misfits set p)
unfolding place earlier
classification-stands set [] = none-stand (set ∷ []) (set ∷ 2 ∷ 0 ∷ [])
classification-stands set (b ∷ p) =
    one-stands (set ∷ []) (set ∷ 2 ∷ 0 ∷ []) (Classification set) (same_head set (1 ∷ 0 ∷ 0 ∷ []) []) (same_head set (1 ∷ 0 ∷ 0 ∷ []) (2 ∷ 0 ∷ []))

columns-stand : (set : ℕ) (ps : List (List ℕ)) → Stand (set ∷ 2 ∷ 0 ∷ []) (set ∷ 3 ∷ 0 ∷ []) (map (Column set) (wrong_columns ps))
unfolding place earlier
columns-stand set ps =
    numbered (set ∷ 2 ∷ 0 ∷ []) (set ∷ 3 ∷ 0 ∷ []) (Column set) (λ n. refl) (λ xs. same_head set (2 ∷ 0 ∷ xs) (3 ∷ 0 ∷ []))
    128 (wrong_columns ps) (columns-rise ps)

row-stands : (set row : ℕ) (types : List ℕ) (r : ScriptRow) → Stand (set ∷ 3 ∷ row ∷ []) (set ∷ 3 ∷ suc row ∷ []) (row_misfits set row types r)
unfolding place earlier
row-stands set row types r =
    let ns = wrong_in_row types (map (λ (c : ScriptCell). c.value) r.cells) in
    numbered (set ∷ 3 ∷ row ∷ []) (set ∷ 3 ∷ suc row ∷ []) (Cell set row) (λ n. refl)
    (λ xs. same_head set (3 ∷ row ∷ xs) (3 ∷ suc row ∷ []) ∙ less-head row (suc row) xs [] (omega arith))
    0 ns (row-rises types (map (λ (c : ScriptCell). c.value) r.cells))

rows-stand : (set row : ℕ) (types : List ℕ) (rs : List ScriptRow) → Stand (set ∷ 3 ∷ row ∷ []) (suc set ∷ []) (rows_misfits set row types rs)
unfolding earlier rows_misfits
rows-stand set row types [] = none-stand (set ∷ 3 ∷ row ∷ []) (suc set ∷ [])
rows-stand set row types (r ∷ rs) =
    all-stand
    (same_head set (3 ∷ suc row ∷ []) (3 ∷ row ∷ []) ∙ more-head (suc row) row [] [] (omega arith))
    (more-head (suc set) set [] (3 ∷ suc row ∷ []) (omega arith))
    (row-stands set row types r)
    (rows-stand set (suc row) types rs)

-- ---- sets

set-stands : (set : ℕ) (s : ScriptSet) → Stand (set ∷ []) (suc set ∷ []) (set_misfits set s)
unfolding earlier set_misfits
set-stands set s =
    all-stand (same_head set (3 ∷ 0 ∷ []) []) (more-head (suc set) set [] (3 ∷ 0 ∷ []) (omega arith))
    (all-stand (same_head set (2 ∷ 0 ∷ []) []) (same_head set (3 ∷ 0 ∷ []) (2 ∷ 0 ∷ []))
    (classification-stands set s.classification)
    (columns-stand set s.columns))
    (rows-stand set 0 (types_in s.columns) s.rows)

sets-stand : (set : ℕ) (ss : List ScriptSet) → Stand (set ∷ []) (suc (set + length ss) ∷ []) (sets_misfits set ss)
unfolding sets_misfits
sets-stand set [] = none-stand (set ∷ []) (suc (set + 0) ∷ [])
sets-stand set (s ∷ ss) =
    let more : suc set + length ss ≡ set + suc (length ss) = omega arith in
    let rest = rw more at (sets-stand (suc set) ss) in
    all-stand (more-head (suc set) set [] [] (omega arith)) (more-head (suc (set + suc (length ss))) (suc set) [] [] (omega arith)) (set-stands set s) rest

-- all misfits of a script stand in order, each once
pub in-turn : (ss : List ScriptSet) → Pairwise Before (misfits ss)
unfolding misfits
in-turn [] = Pairwise.nil
in-turn (s ∷ ss) = kept s.terminal
  where
    kept : (errors : List (List ℕ)) → Pairwise Before (unless errors (sets_misfits 0 (s ∷ ss)))
    kept [] = (sets-stand 0 (s ∷ ss)).rising
    kept (p ∷ ps) = Pairwise.nil

-- ---- the first of misfits in order

module _ (m : Misfit) where
  first-has : (ms : List Misfit) → first_of ms ≡ Some m → Mem m ms
  first-has [] e = clash (cc)
  first-has (x ∷ ms) e = let q : m ≡ x = cc in ∣ Memᴰ.head q ∣₁

  first-least : (ms : List Misfit) → Pairwise Before ms → first_of ms ≡ Some m → (o : Misfit) → Mem o ms → before o m ≡ false
  unfolding before
  first-least [] p e o h = clash (cc)
  first-least (x ∷ ms) p e o h =
      let q : x ≡ m = cc in
      ∥∥₁_elim h (Bool-set (before o m) false) (λ d. elim (Memᴰ.cases_cons d) [
        | inl f ↦ rw (f, q) (not-self (place m))
        | inr f ↦ not_back (place m) (place o) (rw q at (rel_of_Pairwise-cons p ∣ f ∣₁))
      ])

  least_first : (ms : List Misfit) → Pairwise Before ms → Mem m ms → ((o : Misfit) → Mem o ms → before o m ≡ false) → first_of ms ≡ Some m
  unfolding before
  least_first [] p h f = absurd (not-mem-nil h)
  least_first (x ∷ ms) p h f =
      let back : before m x ≡ false = ∥∥₁_elim h (Bool-set (before m x) false) (λ d. elim (Memᴰ.cases_cons d) [
        | inl e ↦ rw e (not-self (place x))
        | inr e ↦ not_back (place x) (place m) (rel_of_Pairwise-cons p ∣ e ∣₁)
      ]) in
      ap Some (in_order.2 x m (f x ∣ Memᴰ.head refl ∣₁) back)

-- ---- of a script

module _ (s : List ℕ) where
  answered : {m : Misfit} → fit_of s ≡ Ok (Some m) → first_of (misfits (sets_in (records s))) ≡ Some m
  unfolding fit_of
  answered e = by-test (eqb (refusal_of s) 0) (λ h. let c = rw h at e in cc) (λ h. let c = rw h at e in clash (cc))

pub first-misfit : FirstMisfit
first-misfit s m e =
    let f = answered s e in
    (first-has m (misfits (sets_in (records s))) f, first-least m (misfits (sets_in (records s))) (in-turn (sets_in (records s))) f)

pub first-answered : FirstAnswered
unfolding fit_of
first-answered s m e h = rw e (ap (λ (o : Option Misfit). Ok o) (least_first m (misfits (sets_in (records s))) (in-turn (sets_in (records s))) h.0 h.1))

-- ---- a script that fits

none-there : (ms : List Misfit) → first_of ms ≡ None → (m : Misfit) → Mem m ms → ⊥
none-there [] e m h = not-mem-nil h
none-there (x ∷ ms) e m h = clash (cc)

pub fits-without : FitsWithout
unfolding fit_of
fits-without s e =
    by-test (eqb (refusal_of s) 0)
    (λ h. let c = rw h at e in none-there (misfits (sets_in (records s))) (cc))
    (λ h. let c = rw h at e in clash (cc))
