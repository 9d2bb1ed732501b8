-- `windows1252::put_bytes` meets its contract. The loop's invariant: the bytes of the pairs from a place on are still to be written.
-- Assumes nothing.
use Prim.Native.Nat.{◌<◌}
use mathlib.Core.Path.{refl, ap}
use mathlib.Core.List.{[], ◌∷◌}
use lib.ListN.{length}
use native.Mathlib.Omega.{arith}
use Rattle.wire.proofs.Over.{stored}
use Rattle.text.specs.Units.{units_of}
use Rattle.windows1252.specs.Table.{table}
use Rattle.windows1252.proofs.Texts.{length-bytes, units-in-pairs, bytes-turn, bytes-over, have-turn}
use Rattle.windows1252.proofs.Owing.{owing-all, owing-less, owing-none}
use Rattle.windows1252.proofs.put_bytes.Goals as goal

pub loop-pair-init : goal.loop-pair-init
unfolding table
loop-pair-init c = let t = c.args.text.now in
    let same = units-in-pairs t in
    rw (c.as_chunks.ensures.front, ← same) (refl, c.requires.text_value, owing-all _ _ _)

pub byte_of-requires : goal.byte_of-requires
byte_of-requires c = let l = c.loop-pair in
    let has = have-turn c.as_chunks.result.0.now l.pair-index c.loop-pair-test.true l.invariant.1 in
    record { units_value = l.invariant.0; u_value = rw c.unit_in.ensures has.0 }

pub bounds-buf-to : goal.bounds-buf-to
bounds-buf-to c = let l = c.loop-pair in
    let o = l.invariant.2 in
    omega (arith, c.requires.text_in_bounds, length-bytes (units_of c.args.text.now), o.place, o.long, ap length (bytes-turn c.as_chunks.result.0.now l.pair-index c.loop-pair-test.true))

pub overflow_add-to : goal.overflow_add-to
overflow_add-to c = let l = c.loop-pair in
    let o = l.invariant.2 in
    let room : l.to < length l.buf =
    omega (arith, c.requires.text_in_bounds, length-bytes (units_of c.args.text.now), o.place, o.long, ap length (bytes-turn c.as_chunks.result.0.now l.pair-index c.loop-pair-test.true)) in
    omega arith

pub loop-pair-preserved : goal.loop-pair-preserved
loop-pair-preserved c = let l = c.loop-pair in
    let pairs = c.as_chunks.result.0.now in
    let o = l.invariant.2 in
    let more = c.loop-pair-test.true in
    let turned = bytes-turn pairs l.pair-index more in
    let has = have-turn pairs l.pair-index more l.invariant.1 in
    let b = c.byte_of.result in
    let room : l.to < length l.buf = omega (arith, c.requires.text_in_bounds, length-bytes (units_of c.args.text.now), o.place, o.long, ap length turned) in
    let written = (stored l.buf l.to b room refl).0 in
    (l.invariant.0, has.1, owing-less o (b ∷ []) _ (rw (← c.unit_in.ensures, ← c.byte_of.ensures) at turned) written refl)

pub returns : goal.returns
returns c = let l = c.loop-pair in
    let t = c.args.text.now in
    let o = owing-none l.invariant.2 (bytes-over c.as_chunks.result.0.now l.pair-index (omega (arith, c.loop-pair-test.false))) in
    record { buf_after = o.0; place_after = record { place = omega (arith, o.1, length-bytes (units_of t), c.requires.text_in_bounds) } }
