-- `station::logins::station_parse_login7` meets its contract. Assumes nothing.
use native.Mathlib.Omega.{arith}
use lib.ListN.{length}
use mathlib.Core.Path.{sym, ap, ◌∙◌}
use Rattle.station.specs.Answer.{refuses, number_of}
use Rattle.station.proofs.Ends.{passed, stopped}
use Rattle.station.specs.Logins.{login_outcome, login_call}
use Rattle.station.proofs.Ids.{in-room, few, enough}
use Rattle.station.proofs.logins.station_parse_login7.Goals as goal

pub returns-then-out-lt-LOGIN_SLOTS : goal.returns-then-out-lt-LOGIN_SLOTS
returns-then-out-lt-LOGIN_SLOTS c = let a = c.args in
    let w = few a.body.now a.ids.now a.out.now (omega arith) c.refused.type_inv (c.refused.ensures ∙ ap (λ n. number_of (refuses n)) c.number.ensures) in record { value = w.0; ids_after = w.1.0; out_after = w.1.1 }

pub tell_login-requires : goal.tell_login-requires
tell_login-requires c = let a = c.args in
    omega (arith, in-room a.body.now (length a.ids.now) c.in-Ok.ensures.value)

pub returns-in-Ok : goal.returns-in-Ok
unfolding login_call
returns-in-Ok c = let a = c.args in
    let w = enough a.body.now a.ids.now a.out.now (omega arith) c.parse_login7.ensures.ids_after
    (passed a.out.now c.tell_login.type_inv (c.tell_login.ensures.value, c.tell_login.ensures.out_after) (ap login_outcome c.in-Ok.ensures.value)) in record { value = w.0; ids_after = w.1.0; out_after = w.1.1 }

pub returns-in-Err : goal.returns-in-Err
unfolding login_call
returns-in-Err c = let a = c.args in
    let w = enough a.body.now a.ids.now a.out.now (omega arith) c.parse_login7.ensures.ids_after
    (stopped a.out.now c.refused-in-Err.type_inv c.refused-in-Err.ensures (ap refuses c.number-in-Err.ensures ∙ ap login_outcome c.in-Err.ensures.value)) in record { value = w.0; ids_after = w.1.0; out_after = w.1.1 }
