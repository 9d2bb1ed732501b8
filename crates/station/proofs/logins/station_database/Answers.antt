-- `station::logins::station_database` meets its contract. Assumes nothing.
use mathlib.Core.Path.{sym, ap, ◌∙◌}
use Rattle.station.proofs.Ends.{passed}
use Rattle.station.specs.Logins.{database_outcome, database_call}
use Rattle.station.proofs.logins.station_database.Goals as goal

pub returns-in-Some : goal.returns-in-Some
unfolding database_call
returns-in-Some c = let a = c.args in
    let w = passed a.out.now c.answered_part.type_inv (c.answered_part.ensures.value, c.answered_part.ensures.out_after) (ap (λ x. database_outcome x a.fallback.now) (sym c.in-Some.is ∙ c.database_part.ensures)) in record { value = w.0; out_after = w.1 }

pub returns-in-None : goal.returns-in-None
unfolding database_call
returns-in-None c = let a = c.args in
    let w = passed a.out.now c.answered_part-in-None.type_inv (c.answered_part-in-None.ensures.value, c.answered_part-in-None.ensures.out_after) (ap (λ x. database_outcome x a.fallback.now) (sym c.in-None.is ∙ c.database_part.ensures)) in record { value = w.0; out_after = w.1 }
