-- `station::logins::tell_login` meets its contract. Assumes nothing.
use Rattle.station.proofs.Ends.{passed}
use Rattle.station.specs.Logins.{login_slots}
use Rattle.station.proofs.logins.tell_login.Goals as goal

pub returns : goal.returns
unfolding login_slots
returns c = let w = passed c.args.out.now c.answered.type_inv (c.answered.ensures.value, c.answered.ensures.out_after)
    (simp (c.flag-2.ensures, c.byte-2.ensures, c.byte.ensures, c.flag.ensures, c.part-database.ensures, c.part-agent.ensures, c.part-server.ensures, c.part-token.ensures)) in record { value = w.0; out_after = w.1 }
