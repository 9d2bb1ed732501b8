-- `wire::put_u16` meets its contract. Assumes nothing.
use mathlib.Core.Path.{◌∙◌}
use Rattle.wire.proofs.Over.{wrote, wrote_as}
use Rattle.wire.proofs.Std.{be_bytes-std}
use Rattle.wire.proofs.put_u16.Goals as goal

pub returns : goal.returns
returns c =
    let w = wrote_as (wrote c.put_bytes.ensures.buf_after c.put_bytes.ensures.place_after) (c.to_be_bytes.ensures ∙ be_bytes-std c.args.v) in record { buf_after = w.0; place_after = w.1 }
