-- `station::procedures::bits_slot` meets its contract. Assumes nothing.
use mathlib.Core.Path.{sym, ap, ◌∙◌}
use mir.Syntax.{w64}
use mir.Facts.{to_z-of_z}
use Rattle.station.specs.Steps.{bits_of}
use Rattle.station.specs.Procedures.{bits_slot}
use Rattle.station.proofs.procedures.bits_slot.Goals as goal

pub returns-in-Number : goal.returns-in-Number
returns-in-Number c = let k = c.in-Number.known_told-1-own.given in
    c.bits.ensures ∙ ap bits_of (to_z-of_z {w = w64} (record { sfits = k.0.1 })) ∙ ap bits_slot (sym c.in-Number.is)
