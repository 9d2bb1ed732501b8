-- A label's bytes are what the cell stands for that it is read as. Assumes nothing.
use mathlib.Core.Path.{◌≡◌, refl, sym, ◌∙◌}
use mathlib.Core.Bool.{Bool, true, false, cond, not, ◌||◌}
use Prim.Native.Nat.{ℕ, zero, suc, ◌+◌, ◌-◌}
use native.Mathlib.Omega.{arith}
use lib.Dec.{eqb, leb}
use lib.ListN.{length, take, drop, length-drop}
use lib.Seq.{take_all}
use Rattle.wire.specs.Le.{le_at}
use Rattle.wire.specs.Even.{even}
use Rattle.wire.specs.Part.{part_bytes}
use Rattle.wire.specs.declared.Part.{Part}
use Rattle.wire.proofs.Cases.{by-test, clash}
use Rattle.payload.specs.Places.{Source, Place, Read, whole, refused, number_at, must, then, part_to, body_source}
use Rattle.cells.specs.declared.Value.{Value}
use Rattle.cells.specs.declared.Value.TheVariants as cell
use Rattle.cells.specs.Cells.{is_type, chunk_at, chunks_at, max_at, cell_at}
use Rattle.cells.specs.Values.{chunk_bytes, joined_from}
use Rattle.cells.proofs.Joined.{enough_turns}
use Rattle.windows1252.specs.Labels.{chunks_joined}
use Rattle.windows1252.specs.Kept.{AsCell}

-- what was read before reading went on
then-whole : {A B : Type 0} (x : Read A) (go : A → Place → Read B) {b : B} {to : ℕ} → then x go ≡ whole b to
    → (a : A) × (at : ℕ) × (x ≡ whole a at) × (go a at ≡ whole b to)
unfolding then
then-whole (whole a at) go e = (a, at, refl, e)
then-whole (refused n) go e = clash (cc)

-- chunks that were read are the part from their start to the place after them
chunks-part : (turns : ℕ) (text known : Bool) (src : Source) (start left at : ℕ) {p : Part} {to : ℕ} → chunks_at turns text known src start left at ≡ whole p to
    → p ≡ part_to start to
unfolding chunks_at
chunks-part zero text known src start left at e = clash (cc)
chunks-part (suc turns) text known src start left at {p} {to} e =
    let w = then-whole (chunk_at text known src left at) _ e in
    by-test (eqb w.0 0)
    (λ t. let q : whole (part_to start w.1) w.1 ≡ whole p to = rw t at w.3 in let r : w.1 ≡ to = cc in let s : part_to start w.1 ≡ p = cc in sym s ∙ rw r)
    (λ t. chunks-part turns text known src start (left - w.0) w.1 (rw t at w.3))

-- a test was passed
passed : (b : Bool) (y : Read Value) (n : ℕ) {x : Value} {to : ℕ} → cond b y (refused n) ≡ whole x to → y ≡ whole x to
passed true y n e = e
passed false y n e = clash (cc)

-- a Max cell that is not null is its chunks
not_null : (b : Bool) (at : ℕ) (y : Read Value) {p : Part} {to : ℕ} → cond b (whole cell.Null at) y ≡ whole (cell.Max p) to → y ≡ whole (cell.Max p) to
not_null true at y e = clash (cc)
not_null false at y e = e

max-part : (src : Source) {p : Part} {to : ℕ} → max_at false src 0 ≡ whole (cell.Max p) to → p ≡ part_to (0 + 8) to
unfolding max_at number_at must
max-part src {p} {to} e =
    let n = le_at 8 (drop 0 src.bytes) in
    let total = passed (leb (0 + 8) (length src.bytes)) _ src.stop e in
    let chunks = passed (even n || true) _ 26 (not_null (eqb n 0xFFFFFFFFFFFFFFFF) (0 + 8) _ total) in
    let w = then-whole (chunks_at (suc (length src.bytes)) false (not (eqb n 0xFFFFFFFFFFFFFFFE)) src (0 + 8) n (0 + 8)) _ chunks in
    let q : w.0 ≡ p = cc in
    let r : w.1 ≡ to = cc in
    sym q ∙ chunks-part (suc (length src.bytes)) false (not (eqb n 0xFFFFFFFFFFFFFFFE)) src (0 + 8) n (0 + 8) w.2 ∙ rw r

pub as-cell : AsCell
unfolding cell_at must is_type chunks_joined joined_from part_bytes
as-cell v p e =
    let q = max-part (body_source v) e in
    let all : take (length v - 8) (drop 8 v) ≡ drop 8 v = take_all (length v - 8) (drop 8 v) (omega (arith, length-drop 8 v)) in
    let same : chunk_bytes (length v - 8) (drop 8 v) ≡ chunk_bytes (length v) (drop 8 v) =
    enough_turns (length v - 8) (length v) (drop 8 v) (omega (arith, length-drop 8 v)) (omega (arith, length-drop 8 v)) in
    rw (q, all, same)
