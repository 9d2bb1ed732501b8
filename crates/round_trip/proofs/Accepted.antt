-- What it says of records that the script is accepted: each is allowed, shaped and of UTF-16 texts, and so are those after it;
-- and what it says of emitted pieces that they have no fault. Assumes nothing.
use mathlib.Core.Path.{◌≡◌, refl, sym, ◌∙◌}
use mathlib.Core.Bool.{Bool, true, false, cond, and-eq-true_iff, ◌&&◌, ◌||◌}
use mathlib.Core.List.{List, [], ◌∷◌, ◌++◌}
use mathlib.Core.Option.{Option, none, some}
use Prim.Native.Nat.{ℕ, zero, suc, ◌≤◌}
use native.Mathlib.Omega.{arith}
use lib.Dec.{eqb, eqb-suc-zero}
use lib.ListN.{length, drop}
use borrow.Author.Tests.{eqb-true, ltb-false}
use Rattle.wire.proofs.Cases.{by-test}
use Rattle.text.specs.Units.{units}
use Rattle.text.specs.Surrogates.{well_formed}
use Rattle.script.specs.declared.Stage.{Stage}
use Rattle.script.specs.declared.Stage.TheVariants.{TextChunks}
use Rattle.script.specs.Records.{Item, item, cut}
use Rattle.script.specs.Order.{allowed, stage_after}
use Rattle.wire.specs.Even.{even}
use Rattle.script.specs.Shape.{shaped, column_shaped, chunk_shaped, texts_of}
use Rattle.script.specs.Verdict.{all_well_formed, fault_of, verdict_from}
use Rattle.script.specs.Runs.{ahead}
use Rattle.emission.specs.Emission.{Piece}
use Rattle.emission.specs.Walk.{error_in}
use Rattle.emission.specs.Refusal.{piece_fault, fault_in}
use Rattle.token.specs.Names.{long_name}
use Rattle.emission.proofs.Sizes.{fault-cat}
use Rattle.fit.specs.Records.{cells_in}
use Rattle.wire.specs.Octets.{Bytes}
use Rattle.round_trip.proofs.Ranges.{Payloads}

-- ---- faults

-- no first fault, and none after it
pub no-fault : (f v : ℕ) → cond (eqb f 0) v f ≡ 0 → (f ≡ 0) × (v ≡ 0)
no-fault zero v e = (refl, e)
no-fault (suc f) v e = let g : suc f ≡ 0 = rw (eqb-suc-zero f) at e in absurd (omega arith)

-- a fault that is not found
pub no_test : (b : Bool) (n : ℕ) → cond b (suc n) 0 ≡ 0 → b ≡ false
no_test true n e = absurd (omega (arith, e))
no_test false n e = refl

three-tests : (a b c : Bool) → ◌≡◌ {A = ℕ} (cond a (cond b (cond c 0 14) 13) 12) 0 → (a ≡ true) × (b ≡ true) × (c ≡ true)
three-tests true true true e = (refl, refl, refl)
three-tests true true false e = absurd (omega (arith, e))
three-tests true false c e = absurd (omega (arith, e))
three-tests false b c e = absurd (omega (arith, e))

pub fault-first : (x : Piece) (ps : List Piece) → fault_in (x ∷ ps) ≡ 0 → (piece_fault x ≡ 0) × (fault_in ps ≡ 0)
unfolding fault_in
fault-first x ps e = no-fault (piece_fault x) (fault_in ps) e

pub fault-parts : (ps qs : List Piece) → fault_in (ps ++ qs) ≡ 0 → (fault_in ps ≡ 0) × (fault_in qs ≡ 0)
fault-parts ps qs e = no-fault (fault_in ps) (fault_in qs) (sym (fault-cat ps qs) ∙ e)

pub short-name : (name : List ℕ) → long_name name ≡ false → units name ≤ 255
short-name name e = ltb-false 255 (units name) e

-- neither of two
pub neither : (a b : Bool) → (a || b) ≡ false → (a ≡ false) × (b ≡ false)
neither true b e = let z : ◌≡◌ {A = ℕ} 0 1 = cc in absurd (omega arith)
neither false b e = (refl, e)

-- ---- a record of an accepted script

pub record Taken (st : Stage) (k : ℕ) (p : List ℕ) (rs : List Item) : Type 0 where
  pub order : allowed st k ≡ true
  pub shape : shaped st k p ≡ true
  pub texts : all_well_formed (texts_of k p) ≡ true
  pub rest : verdict_from (stage_after st k p) rs ≡ 0

pub taken : (st : Stage) (k : ℕ) (p : List ℕ) (rs : List Item) → verdict_from st (item k p ∷ rs) ≡ 0 → Taken st k p rs
unfolding verdict_from fault_of
taken st k p rs e =
    let f = no-fault (fault_of st k p) (verdict_from (stage_after st k p) rs) e in
    let t = three-tests (allowed st k) (shaped st k p) (all_well_formed (texts_of k p)) f.0 in
    record { order = t.0; shape = t.1; texts = t.2; rest = f.1 }

pub one-text : (t : List ℕ) → all_well_formed (t ∷ []) ≡ true → well_formed t ≡ true
unfolding all_well_formed
one-text t e = ((and-eq-true_iff (well_formed t) true).0 e).0

pub three-texts : (a b c : List ℕ) → all_well_formed (a ∷ b ∷ c ∷ []) ≡ true → (well_formed a ≡ true) × (well_formed b ≡ true) × (well_formed c ≡ true)
unfolding all_well_formed
three-texts a b c e =
    let f = (and-eq-true_iff (well_formed a) (well_formed b && (well_formed c && true))).0 e in
    let g = (and-eq-true_iff (well_formed b) (well_formed c && true)).0 f.1 in
    (f.0, g.0, ((and-eq-true_iff (well_formed c) true).0 g.1).0)

-- ---- the records that stand next

-- a stage that has no cells is not followed by any
pub no_cells : (st : Stage) (rs : List Item) → allowed st 5 ≡ false → allowed st 6 ≡ false → verdict_from st rs ≡ 0 → cells_in rs ≡ []
unfolding cells_in
no_cells st [] g h e = refl
no_cells st (cut ∷ rs) g h e = refl
no_cells st (item k p ∷ rs) g h e =
    let t = taken st k p rs e in
    by-test (eqb k 5) (λ f. other 5 g f t.order) (λ f5. by-test (eqb k 6) (λ f. other 6 h f t.order) (λ f6. rw (f5, f6)))
  where
    other : {X : Type 0} (j : ℕ) → allowed st j ≡ false → eqb k j ≡ true → allowed st k ≡ true → X
    other j g f o =
        let same : k ≡ j = eqb-true k j f in
        let o' : allowed st j ≡ true = rw same at o in
        let z : ◌≡◌ {A = ℕ} 0 1 = cc in absurd (omega arith)

-- a set's columns: shaped, and of names in UTF-16
abbrev pub Columned : List (List ℕ) → Type 0
Columned [] = Unit {0}
Columned (p ∷ ps) = (column_shaped p ≡ true) × (well_formed (drop 6 p) ≡ true) × Columned ps

column-is : (st : Stage) (p : List ℕ) (rs : List Item) → verdict_from st (item 2 p ∷ rs) ≡ 0
    → (column_shaped p ≡ true) × (well_formed (drop 6 p) ≡ true) × (verdict_from (stage_after st 2 p) rs ≡ 0)
unfolding shaped texts_of
column-is st p rs e = let t = taken st 2 p rs e in (t.shape, one-text (drop 6 p) t.texts, t.rest)

pub columned : (st : Stage) (rs : List Item) → verdict_from st rs ≡ 0 → Columned (ahead 2 rs)
unfolding ahead
columned st [] e = tt
columned st (cut ∷ rs) e = tt
columned st (item k p ∷ rs) e = by-test (eqb k 2) (λ h. rw h (let c = column-is st p rs (rw (eqb-true k 2 h) at e) in (c.0, c.1, columned (stage_after st 2 p) rs c.2))) (λ h. rw h tt)

-- chunks of whole units
abbrev pub Whole : List (List ℕ) → Type 0
Whole [] = Unit {0}
Whole (c ∷ cs) = (even (length c) ≡ true) × Whole cs

chunk-is : (p : List ℕ) (rs : List Item) → verdict_from TextChunks (item 6 p ∷ rs) ≡ 0 → (even (length p) ≡ true) × (verdict_from TextChunks rs ≡ 0)
unfolding shaped chunk_shaped stage_after
chunk-is p rs e = let t = taken TextChunks 6 p rs e in (t.shape, t.rest)

pub whole : (rs : List Item) → verdict_from TextChunks rs ≡ 0 → Whole (ahead 6 rs)
unfolding ahead
whole [] e = tt
whole (cut ∷ rs) e = tt
whole (item k p ∷ rs) e = by-test (eqb k 6) (λ h. rw h (let c = chunk-is p rs (rw (eqb-true k 6 h) at e) in (c.0, whole rs c.1))) (λ h. rw h tt)

-- ---- errors

-- an error of bytes, whose text is UTF-16
abbrev pub ErrorOk : Option (List ℕ) → Type 0
ErrorOk none = Unit {0}
ErrorOk (some p) = Bytes p × (well_formed (drop 5 p) ≡ true)

module _ (k : ℕ) (texts-are : (p : List ℕ) → texts_of k p ≡ drop 5 p ∷ []) where
  pub errors : (st : Stage) (rs : List Item) → Payloads rs → verdict_from st rs ≡ 0 → ErrorOk (error_in k rs)
  unfolding error_in
  errors st [] b e = tt
  errors st (cut ∷ rs) b e = tt
  errors st (item j p ∷ rs) b e =
      let t = taken st j p rs e in
      by-test (eqb j k)
      (λ h. rw h (b.0, one-text (drop 5 p) (text (eqb-true j k h) t.texts)))
      (λ h. by-test (eqb j 2 || eqb j 7) (λ g. rw (h, g) (errors (stage_after st j p) rs b.1 t.rest)) (λ g. rw (h, g) tt))
    where
      text : j ≡ k → all_well_formed (texts_of j p) ≡ true → all_well_formed (drop 5 p ∷ []) ≡ true
      text same e2 = rw (same, texts-are p) at e2

-- kinds 7 and 8
pub leading-error : (st : Stage) (rs : List Item) → Payloads rs → verdict_from st rs ≡ 0 → ErrorOk (error_in 7 rs)
unfolding texts_of
leading-error st rs b e = errors 7 (λ p. refl) st rs b e

pub terminal-error : (st : Stage) (rs : List Item) → Payloads rs → verdict_from st rs ≡ 0 → ErrorOk (error_in 8 rs)
unfolding texts_of
terminal-error st rs b e = errors 8 (λ p. refl) st rs b e

-- an error that is there or not
pub by-error : {X : Type 0} (o : Option (List ℕ)) → (o ≡ none → X) → ((e : List ℕ) → o ≡ some e → X) → X
by-error none f g = f refl
by-error (some e) f g = g e refl
