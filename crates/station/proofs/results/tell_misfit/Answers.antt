-- `station::results::tell_misfit` meets its contract. Assumes nothing.
use mathlib.Core.Path.{sym, ap}
use Rattle.station.proofs.Ends.{passed}
use Rattle.station.specs.Results.{misfit_outcome}
use Rattle.station.proofs.results.tell_misfit.Goals as goal

pub returns-in-Classification : goal.returns-in-Classification
returns-in-Classification c = let w = passed c.args.out.now c.answered.type_inv (c.answered.ensures.value, c.answered.ensures.out_after) (ap misfit_outcome (sym c.in-Classification.is)) in record { value = w.0; out_after = w.1 }

pub returns-in-Column : goal.returns-in-Column
returns-in-Column c = let w = passed c.args.out.now c.answered-in-Column.type_inv (c.answered-in-Column.ensures.value, c.answered-in-Column.ensures.out_after) (ap misfit_outcome (sym c.in-Column.is)) in record { value = w.0; out_after = w.1 }

pub returns-in-Cell : goal.returns-in-Cell
returns-in-Cell c = let w = passed c.args.out.now c.answered-in-Cell.type_inv (c.answered-in-Cell.ensures.value, c.answered-in-Cell.ensures.out_after) (ap misfit_outcome (sym c.in-Cell.is)) in record { value = w.0; out_after = w.1 }
