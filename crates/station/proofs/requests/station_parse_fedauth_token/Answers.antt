-- `station::requests::station_parse_fedauth_token` meets its contract. Assumes nothing.
use mathlib.Core.Path.{ap}
use Rattle.station.proofs.Ends.{passed, stopped}
use Rattle.station.specs.Requests.{token_outcome, token_call}
use Rattle.station.proofs.requests.station_parse_fedauth_token.Goals as goal

pub returns-in-Ok : goal.returns-in-Ok
unfolding token_call
returns-in-Ok c = let w = passed c.args.out.now c.answered_part.type_inv (c.answered_part.ensures.value, c.answered_part.ensures.out_after) (ap token_outcome c.in-Ok.ensures) in record { value = w.0; out_after = w.1 }

pub returns-in-Err : goal.returns-in-Err
unfolding token_call
returns-in-Err c = let w = stopped c.args.out.now c.refused.type_inv (rw c.number.ensures at c.refused.ensures) (ap token_outcome c.in-Err.ensures) in record { value = w.0; out_after = w.1 }
