-- `response::faults::texts_fault` meets its contract. Assumes nothing.
use Rattle.response.proofs.Firsts.{found, passed, last}
use mathlib.Core.Path.{sym, ◌∙◌}
use Rattle.response.proofs.faults.texts_fault.Goals as goal

pub returns-in_err-text_fault : goal.returns-in_err-text_fault
returns-in_err-text_fault c = found _ _ _ c.from_residual.ensures.1 c.in_err-text_fault.ensures

pub returns : goal.returns
returns c = c.text_fault-2.ensures ∙ sym (passed _ c.in_ok-text_fault.ensures ∙ last _)
