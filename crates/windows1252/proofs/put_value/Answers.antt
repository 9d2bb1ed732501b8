-- `windows1252::put_value` meets its contract. Assumes nothing.
use mathlib.Core.Path.{sym, ap, ◌∙◌}
use native.Mathlib.Omega.{arith}
use Prim.Native.Nat.{◌/◌}
use lib.ListN.{length}
use Rattle.wire.specs.Le.{le}
use Rattle.wire.proofs.Le.{length-le}
use Rattle.wire.proofs.Over.{wrote, length_over, then, wrote_as}
use Rattle.text.specs.Units.{units_of}
use Rattle.text.proofs.Scan.{length-units}
use Rattle.windows1252.specs.Table.{bytes_of}
use Rattle.windows1252.proofs.Texts.{length-bytes}
use Rattle.windows1252.proofs.CodeWrites.{accepted, value-is, size_room}
use Rattle.windows1252.proofs.put_value.Goals as goal

pub put_chunk-end-requires : goal.put_chunk-end-requires
put_chunk-end-requires c = let t = accepted c.args.text.now c.requires.text_value in
    let n = length c.args.text.now / 2 in
    let room = size_room (length (units_of c.args.text.now)) c.requires.text_in_bounds in
    record { text_value = (t.have, t.few); text_in_bounds = omega (arith, room, c.put_u64_le-first.ensures.place_after.place, length-le 8 n, ap length c.put_u64_le-first.ensures.buf_after ∙ length_over (le 8 n) c.args.buf.now 0) }

pub returns : goal.returns
returns c = let t = c.args.text.now in
    let bs = bytes_of (units_of t) in
    let long = length-bytes (units_of t) ∙ length-units t in
    (wrote_as (then (wrote c.put_u64_le-first.ensures.buf_after c.put_u64_le-first.ensures.place_after) (then (wrote c.put_chunk-end.ensures.buf_after c.put_chunk-end.ensures.place_after) (wrote c.put_u32_le.ensures.buf_after c.put_u32_le.ensures.place_after))) (sym (value-is bs ∙ rw long))).0
