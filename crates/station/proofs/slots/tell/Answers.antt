-- `station::slots::tell` meets its contract. Assumes nothing.
use mathlib.Core.Path.{sym, ap, ◌∙◌}
use native.Mathlib.Omega.{arith}
use Rattle.refusals.specs.Refused.{numbered}
use Rattle.station.specs.Answer.{refuses, built_outcome}
use Rattle.station.proofs.Ends.{told, denied}
use Rattle.station.proofs.slots.tell.Goals as goal

pub overflow_cast-result : goal.overflow_cast-result
overflow_cast-result c = omega (arith, c.requires c.in-Ok.n c.in-Ok.is)

pub returns-in-Ok : goal.returns-in-Ok
returns-in-Ok c = told _ (c.requires c.in-Ok.n c.in-Ok.is) (ap built_outcome (ap numbered (sym c.in-Ok.is)))

pub returns-in-Err : goal.returns-in-Err
returns-in-Err c = denied c.refused.type_inv c.refused.ensures (ap refuses c.number.ensures ∙ ap built_outcome (ap numbered (sym c.in-Err.is)))
