-- `text::utf8_length` meets its contract. Assumes nothing.
use Rattle.text.specs.Surrogates.{utf8_in}
use Rattle.text.proofs.utf8_length.Given as goal

abbrev pub ghost-total : goal.ghost-total
ghost-total a = utf8_in
