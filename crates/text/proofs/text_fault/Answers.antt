-- `text::text_fault` meets its contract. Assumes nothing.
use borrow.Author.Tests.{ne_eqb, eq-eqb}
use mathlib.Core.Path.{sym, ◌∙◌}
use Rattle.text.specs.Arguments.{text_fault}
use Rattle.text.proofs.text_fault.Goals as goal

pub returns-then-text-ne0 : goal.returns-then-text-ne0
unfolding text_fault
returns-then-text-ne0 c = simp (ne_eqb _ _ c.if-text-ne0.true)

pub returns-then-not-is_well_formed : goal.returns-then-not-is_well_formed
unfolding text_fault
returns-then-not-is_well_formed c = simp (eq-eqb _ _ c.if-text-ne0.false, sym c.is_well_formed.ensures ∙ c.if-not-is_well_formed.true)

pub returns : goal.returns
unfolding text_fault
returns c = simp (eq-eqb _ _ c.if-text-ne0.false, sym c.is_well_formed.ensures ∙ c.if-not-is_well_formed.false)
