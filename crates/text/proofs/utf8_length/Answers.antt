-- `text::utf8_length` meets its contract. Assumes nothing.
use Rattle.text.specs.Surrogates.{utf8_length}
use Rattle.text.proofs.utf8_length.Goals as goal

pub returns : goal.returns
unfolding utf8_length
returns c = c.total.ensures
