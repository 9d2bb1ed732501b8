-- `station::tell_text` meets its contract. Assumes nothing.
use Rattle.station.proofs.Ends.{passed}
use Rattle.station.specs.Calls.{text_outcome}
use Rattle.station.proofs.tell_text.Goals as goal

pub returns : goal.returns
unfolding text_outcome
returns c = let w = passed c.args.out.now c.answered.type_inv (c.answered.ensures.value, c.answered.ensures.out_after)
    (simp (c.units.ensures, c.characters.ensures, c.utf8_length.ensures, c.flag.ensures, c.has_pair.ensures)) in record { value = w.0; out_after = w.1 }
