-- `station::tell_header` meets its contract. Assumes nothing.
use Rattle.station.proofs.Ends.{passed}
use Rattle.station.proofs.tell_header.Goals as goal

pub returns : goal.returns
returns c = let w = passed c.args.out.now c.answered.type_inv (c.answered.ensures.value, c.answered.ensures.out_after) (rw c.byte.ensures) in record { value = w.0; out_after = w.1 }
