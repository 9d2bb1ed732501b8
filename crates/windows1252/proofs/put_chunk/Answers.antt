-- `windows1252::put_chunk` meets its contract. Assumes nothing.
use mathlib.Core.Path.{sym, ap, ◌∙◌}
use native.Mathlib.Omega.{arith}
use Prim.Native.Nat.{◌/◌}
use lib.ListN.{length}
use Rattle.wire.specs.Le.{le}
use Rattle.wire.proofs.Le.{length-le}
use Rattle.wire.proofs.Over.{wrote, length_over, then, wrote_as, wrote_nothing}
use Rattle.text.specs.Units.{units_of}
use Rattle.text.proofs.Scan.{length-units}
use Rattle.windows1252.specs.Table.{bytes_of}
use Rattle.windows1252.proofs.Texts.{length-bytes}
use Rattle.windows1252.proofs.CodeWrites.{no_chunk, a-chunk}
use Rattle.windows1252.proofs.put_chunk.Goals as goal

pub returns-then-n-eq0 : goal.returns-then-n-eq0
returns-then-n-eq0 c = let us = units_of c.args.text.now in
    let none = no_chunk (bytes_of us) (omega (arith, length-bytes us, length-units c.args.text.now, c.if-n-eq0.true)) in
    let w = wrote_as (wrote_nothing c.args.buf.now c.args.at (omega (arith, c.requires.text_in_bounds))) (sym none) in record { buf_after = w.0; place_after = w.1 }

pub overflow_cast-n : goal.overflow_cast-n
overflow_cast-n c = omega (arith, c.requires.text_value.1, length-units c.args.text.now)

pub put_bytes-requires : goal.put_bytes-requires
put_bytes-requires c = let n = length c.args.text.now / 2 in
    record { text_value = c.requires.text_value.0; text_in_bounds = omega (arith, c.requires.text_in_bounds, c.put_u32_le-first.ensures.place_after.place, length-le 4 n, ap length c.put_u32_le-first.ensures.buf_after ∙ length_over (le 4 n) c.args.buf.now c.args.at) }

pub returns : goal.returns
returns c = let us = units_of c.args.text.now in
    let w = wrote_as (then (wrote c.put_u32_le-first.ensures.buf_after c.put_u32_le-first.ensures.place_after) (wrote c.put_bytes.ensures.buf_after c.put_bytes.ensures.place_after))
    (a-chunk (bytes_of us) (length-bytes us ∙ length-units c.args.text.now) c.if-n-eq0.false) in record { buf_after = w.0; place_after = w.1 }
