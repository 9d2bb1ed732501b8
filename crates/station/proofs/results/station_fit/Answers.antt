-- `station::results::station_fit` meets its contract. Assumes nothing.
use mathlib.Core.Path.{ap, ◌∙◌}
use Rattle.station.specs.Answer.{refuses}
use Rattle.station.proofs.Ends.{passed, stopped, silent}
use Rattle.station.specs.Results.{fit_outcome, fit_call}
use Rattle.station.proofs.results.station_fit.Goals as goal

pub returns-in-Ok-None : goal.returns-in-Ok-None
unfolding fit_call
returns-in-Ok-None c = let w = silent c.args.out.now (ap fit_outcome (rw c.in-Ok-None.field-0-is at c.in-Ok-None.ensures)) in record { value = w.0; out_after = w.1 }

pub returns-in-Ok-Some : goal.returns-in-Ok-Some
unfolding fit_call
returns-in-Ok-Some c = let w = passed c.args.out.now c.tell_misfit.type_inv (c.tell_misfit.ensures.value, c.tell_misfit.ensures.out_after) (ap fit_outcome (rw c.in-Ok-Some.field-0-is at c.in-Ok-Some.ensures)) in record { value = w.0; out_after = w.1 }

pub returns-in-Err : goal.returns-in-Err
unfolding fit_call
returns-in-Err c = let w = stopped c.args.out.now c.refused.type_inv c.refused.ensures (ap refuses c.number.ensures ∙ ap fit_outcome c.in-Err.ensures) in record { value = w.0; out_after = w.1 }
