-- A type and a cell that are read from two sources, which are the same from a place on, are the same. Assumes nothing.
use mathlib.Core.Path.{sym}
use mathlib.Core.Bool.{Bool, not, ◌&&◌, ◌||◌}
use Prim.Native.Nat.{ℕ, zero, suc, ◌+◌, ◌-◌}
use native.Mathlib.Omega.{arith}
use lib.Dec.{eqb, leb}
use lib.ListN.{length}
use Rattle.wire.specs.Even.{even}
use Rattle.token.specs.Types.{length_width, collation_size}
use Rattle.payload.specs.Places.{Source, Place}
use Rattle.payload.proofs.Sources.{Same, same-later}
use Rattle.payload.proofs.Agree.{Agree, both, neither, agree-from, cond-agree, must-agree, number-agree, part-agree, then-agree}
use Rattle.cells.specs.Cells.{is_code, is_type, type_at, integer_at, bounded_at, is_chunk, is_last, chunk_at, chunks_at, max_at, cell_at}

module _ {a b : Source} where
  pub type-agree : (at : Place) → Same a b at → Agree (length a.bytes) (at + 1) (type_at a at) (type_at b at)
  unfolding type_at
  type-agree at s =
      number-agree 1 at _ _ s (λ code h1.
      must-agree (is_code code) _ _ _
      (number-agree (length_width code) (at + 1) _ _ (same-later at (omega arith) s) (λ limit h2.
      must-agree (is_type code limit) _ _ _
      (part-agree (collation_size code) (at + 1 + length_width code) _ _ (same-later at (omega arith) s) (λ h3.
      both (omega arith) h3)))))

  integer-agree : (limit : ℕ) (at : Place) → Same a b at → Agree (length a.bytes) (at + 1) (integer_at limit a at) (integer_at limit b at)
  unfolding integer_at
  integer-agree limit at s =
      number-agree 1 at _ _ s (λ n h1.
      cond-agree (eqb n 0) _ _ _ _ (both (omega arith) h1)
      (must-agree (eqb n limit) _ _ _
      (number-agree n (at + 1) _ _ (same-later at (omega arith) s) (λ v h2.
      both (omega arith) h2))))

  bounded-agree : (limit : ℕ) (at : Place) → Same a b at → Agree (length a.bytes) (at + 1) (bounded_at limit a at) (bounded_at limit b at)
  unfolding bounded_at
  bounded-agree limit at s =
      number-agree 2 at _ _ s (λ n h1.
      cond-agree (eqb n 0xFFFF) _ _ _ _ (both (omega arith) h1)
      (must-agree (even n && leb n limit) _ _ _
      (part-agree n (at + 2) _ _ (same-later at (omega arith) s) (λ h2.
      both (omega arith) h2))))

  module _ (text known : Bool) where
    pub chunk-agree : (left : ℕ) (at : Place) → Same a b at → Agree (length a.bytes) (at + 1) (chunk_at text known a left at) (chunk_at text known b left at)
    unfolding chunk_at
    chunk-agree left at s =
        number-agree 4 at _ _ s (λ n h1.
        cond-agree (eqb n 0) _ _ _ _
        (must-agree (is_last known left) _ _ _ (both (omega arith) h1))
        (must-agree (is_chunk text known left n) _ _ _
        (part-agree n (at + 4) _ _ (same-later at (omega arith) s) (λ h2.
        both (omega arith) h2))))

    chunks-agree : (turns : ℕ) (start : Place) (left : ℕ) (at : Place) → Same a b at
        → Agree (length a.bytes) (at + 1) (chunks_at turns text known a start left at) (chunks_at turns text known b start left at)
    unfolding chunks_at
    chunks-agree zero start left at s = rw (sym s.stops) neither
    chunks-agree (suc turns) start left at s =
        then-agree _ _ (chunk-agree left at s) (λ n to h g.
        cond-agree (eqb n 0) _ _ _ _ (both h g)
        (agree-from (at + 1) (omega arith) (chunks-agree turns start (left - n) to (same-later at (omega arith) s))))

  max-agree : (text : Bool) (at : Place) → Same a b at → Agree (length a.bytes) (at + 1) (max_at text a at) (max_at text b at)
  unfolding max_at
  max-agree text at s =
      number-agree 8 at _ _ s (λ total h1.
      cond-agree (eqb total 0xFFFFFFFFFFFFFFFF) _ _ _ _ (both (omega arith) h1)
      (must-agree (even total || not text) _ _ _
      (rw (sym s.size)
      (then-agree _ _
      (chunks-agree text (not (eqb total 0xFFFFFFFFFFFFFFFE)) (suc (length a.bytes)) (at + 8) total (at + 8) (same-later at (omega arith) s)) (λ part to h g.
      both (omega arith) g)))))

  pub cell_agree : (code limit : ℕ) (at : Place) → Same a b at → Agree (length a.bytes) (at + 1) (cell_at code limit a at) (cell_at code limit b at)
  unfolding cell_at
  cell_agree code limit at s =
      must-agree (is_type code limit) _ _ _
      (cond-agree (eqb code 0x26) _ _ _ _ (integer-agree limit at s)
      (cond-agree (eqb limit 0xFFFF) _ _ _ _ (max-agree (eqb code 0xE7) at s) (bounded-agree limit at s)))
