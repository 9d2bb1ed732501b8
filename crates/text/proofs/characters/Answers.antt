-- `text::characters` meets its contract. Assumes nothing.
use Rattle.text.specs.Surrogates.{characters}
use Rattle.text.proofs.characters.Goals as goal

pub returns : goal.returns
unfolding characters
returns c = c.total.ensures
