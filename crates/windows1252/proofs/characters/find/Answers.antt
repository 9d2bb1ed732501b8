-- `windows1252::characters::find` meets its contract. Assumes nothing.
use mathlib.Core.Path.{◌≡◌}
use mathlib.Core.Logic.{◌≢◌}
use borrow.Author.Rules.{rules}
use borrow.Author.Tests.{tests}
use Rattle.std.proofs.lemmas.Iterator.{first_from_Range}
use Rattle.windows1252.specs.Table.{unit_of}
use Rattle.windows1252.proofs.Table.{byte-searched}
use Rattle.windows1252.proofs.characters.find.Goals as goal

pub returns : goal.returns
returns c = let u = c.args.u in
    byte-searched u c.find.result c.requires.u_value
    (first_from_Range _ _ _ c.find.result (λ b. unit_of b ≡ u) (λ b. unit_of b ≢ u) c.find.ensures.ran (λ x q k. search (rules, tests)) (λ x q k. search (rules, tests)))
