-- `text::characters` meets its contract. Assumes nothing.
use Rattle.text.specs.Surrogates.{characters_in}
use Rattle.text.proofs.characters.Given as goal

abbrev pub ghost-total : goal.ghost-total
ghost-total a = characters_in
