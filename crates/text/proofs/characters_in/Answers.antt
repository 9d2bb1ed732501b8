-- `text::characters_in` meets its contract. Assumes nothing.
use Rattle.text.proofs.Spans.{in_span, below_span, above-span}
use native.Mathlib.Omega.{arith}
use borrow.Author.Rules.{rules}
use Rattle.text.specs.Surrogates.{characters_in}
use Rattle.text.proofs.characters_in.Goals as goal

pub returns-in-56320-to-57343 : goal.returns-in-56320-to-57343
unfolding characters_in
returns-in-56320-to-57343 c = let u = c.args.u in
    (simp (in_span 0xdc00 0xdfff u (omega arith) (omega arith)), search rules)

pub returns-in_default : goal.returns-in_default
unfolding characters_in
returns-in_default c = let u = c.args.u in (simp (below_span 0xdc00 0xdfff u (omega arith)), search rules)

pub returns-in_default-2 : goal.returns-in_default-2
unfolding characters_in
returns-in_default-2 c = let u = c.args.u in (simp (above-span 0xdc00 0xdfff u (omega arith)), search rules)
