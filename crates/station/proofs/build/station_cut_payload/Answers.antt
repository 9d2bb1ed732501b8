-- `station::build::station_cut_payload` meets its contract. Assumes nothing.
use mathlib.Core.Path.{sym, ap, ◌∙◌}
use Rattle.refusals.specs.Refused.{numbered}
use native.Mathlib.Omega.{arith}
use lib.ListN.{length}
use Rattle.response.proofs.InPackets.{cut_small}
use Rattle.station.proofs.Builds.{cut-built}
use Rattle.station.proofs.build.station_cut_payload.Goals as goal

pub tell-requires : goal.tell-requires
tell-requires c n q = let a = c.args in
    omega (arith, cut_small a.size a.payload.now (length a.buf.now) n (sym c.cut_payload.ensures.value ∙ ap numbered q))

pub returns : goal.returns
returns c = let a = c.args in
    let w = cut-built a.size a.payload.now a.buf.now c.tell.type_inv (c.cut_payload.ensures.value, c.cut_payload.ensures.buf_after) c.tell.ensures in record { value = w.0; buf_after = w.1 }
