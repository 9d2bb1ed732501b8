-- `windows1252::put_characters` meets its contract. The loop's invariant: the text of the bytes from a place on is still to be written.
-- Assumes nothing.
use Prim.Native.Nat.{◌/◌, ◌%◌}
use mathlib.Core.Path.{refl}
use mathlib.Core.List.{[], ◌∷◌}
use native.Mathlib.Omega.{arith}
use Rattle.wire.proofs.Over.{stored-two}
use Rattle.windows1252.proofs.Texts.{two_bytes, text-turn, text-over}
use Rattle.windows1252.proofs.Owing.{owing-less, owing-none}
use Rattle.windows1252.proofs.put_characters.Goals as goal

pub loop-byte-preserved : goal.loop-byte-preserved
loop-byte-preserved c = let l = c.loop-byte in
    let turned = text-turn c.args.bytes.now l.byte-index c.loop-byte-test.true in
    let u = c.unit_of.result in
    let written = (stored-two l.buf l.to (u % 256) (u / 256 % 256) (omega (arith, l.invariant.1.long, c.requires.bytes_in_bounds))).0 in
    rw c.to_le_bytes.ensures (omega arith, owing-less l.invariant.1 (u % 256 ∷ u / 256 % 256 ∷ []) _ (rw (← c.unit_of.ensures, two_bytes u) at turned) written refl)

pub returns-clause-buf_after : goal.returns-clause-buf_after
returns-clause-buf_after c = let l = c.loop-byte in
    (owing-none l.invariant.1 (text-over c.args.bytes.now l.byte-index (omega (arith, c.loop-byte-test.false)))).0
