-- `wire::put_u16_le` meets its contract. Assumes nothing.
use mathlib.Core.Path.{◌∙◌}
use Rattle.wire.proofs.Over.{wrote, wrote_as}
use Rattle.wire.proofs.Std.{bytes-std}
use Rattle.wire.proofs.put_u16_le.Goals as goal

pub returns : goal.returns
returns c =
    let w = wrote_as (wrote c.put_bytes.ensures.buf_after c.put_bytes.ensures.place_after) (c.to_le_bytes.ensures ∙ bytes-std 2 c.args.v) in record { buf_after = w.0; place_after = w.1 }
