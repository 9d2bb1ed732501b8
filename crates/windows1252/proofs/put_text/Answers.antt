-- `windows1252::put_text` meets its contract. The loop's invariant: the text of the chunks from a place on is still to be written.
-- Assumes nothing.
use Prim.Native.Nat.{◌+◌}
use mathlib.Core.Path.{refl, sym, ap, ◌∙◌}
use lib.ListN.{length, take, drop, length-append}
use native.Mathlib.Omega.{arith}
use Rattle.wire.specs.Part.{part_bytes}
use Rattle.wire.proofs.Le.{le-past}
use Rattle.cells.specs.Values.{joined_from}
use Rattle.windows1252.specs.Table.{table, text_of}
use Rattle.windows1252.specs.Labels.{chunks_joined}
use Rattle.windows1252.proofs.Texts.{length-text, chunk-turn, chunk_end}
use Rattle.windows1252.proofs.Owing.{owing-all, owing-less, owing-none}
use Rattle.windows1252.proofs.put_text.Goals as goal

pub loop-at-init : goal.loop-at-init
unfolding chunks_joined table
loop-at-init c = (refl, owing-all _ _ _)

pub returns-then-len-eq0 : goal.returns-then-len-eq0
returns-then-len-eq0 c = let v = c.args.value.now in
    (owing-none c.loop-at.invariant.1 (chunk_end v c.loop-at.at (sym c.get_u32_le-len.ensures ∙ c.if-len-eq0.true))).0

pub put_characters-to-requires : goal.put_characters-to-requires
unfolding part_bytes
put_characters-to-requires c = let v = c.args.value.now in
    let n = c.get_u32_le-len.result in
    let chunk = take n (drop (c.loop-at.at + 4) v) in
    let rest = text_of (joined_from v (c.loop-at.at + 4 + n)) in
    let turned = chunk-turn v c.loop-at.at (sym c.get_u32_le-len.ensures) c.if-len-eq0.false in
    record { units_value = c.loop-at.invariant.0; bytes_in_bounds = omega (arith, c.requires, c.loop-at.invariant.1.long, c.loop-at.invariant.1.place, ap length turned ∙ length-append (text_of chunk) rest, length-text chunk, length-text (chunks_joined v), ap length c.part_of-chunk.ensures) }

pub loop-at-preserved : goal.loop-at-preserved
unfolding part_bytes
loop-at-preserved c = let v = c.args.value.now in
    let p = c.put_characters-to in
    let chunk = c.part_of-chunk.ensures in
    let n = c.get_u32_le-len.result in
    let turned = chunk-turn v c.loop-at.at (sym c.get_u32_le-len.ensures) c.if-len-eq0.false in
    (c.loop-at.invariant.0, owing-less c.loop-at.invariant.1 _ _ (turned ∙ rw (sym chunk)) p.ensures.buf_after (p.ensures.value ∙ rw (length-text _)))

pub returns : goal.returns
returns c = let v = c.args.value.now in
    (owing-none c.loop-at.invariant.1 (chunk_end v c.loop-at.at (le-past 4 c.loop-at.at v (omega (arith, c.loop-at-test.false))))).0
