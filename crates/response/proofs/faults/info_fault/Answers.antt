-- `response::faults::info_fault` meets its contract. Assumes nothing.
use Rattle.response.proofs.Firsts.{found, passed, last, pair}
use mathlib.Core.Path.{sym, ◌∙◌}
use Rattle.response.proofs.faults.info_fault.Goals as goal

pub returns-in_err-text_fault : goal.returns-in_err-text_fault
returns-in_err-text_fault c = found _ _ _ c.from_residual.ensures.1 c.in_err-text_fault.ensures

pub returns-in_err-texts_fault : goal.returns-in_err-texts_fault
returns-in_err-texts_fault c = found _ _ _ c.from_residual-in_err-texts_fault.ensures.1 c.in_err-texts_fault.ensures ∙ pair _ _ _ ∙ sym (passed _ c.in_ok-text_fault.ensures)

pub returns-in_err-name_fault : goal.returns-in_err-name_fault
returns-in_err-name_fault c =
    found _ _ _ c.from_residual-in_err-name_fault.ensures.1 c.in_err-name_fault.ensures
    ∙ sym (passed _ c.in_ok-texts_fault.ensures) ∙ pair _ _ _ ∙ sym (passed _ c.in_ok-text_fault.ensures)

pub returns : goal.returns
returns c =
    c.name_fault-2.ensures ∙ sym (passed _ c.in_ok-name_fault.ensures ∙ last _)
    ∙ sym (passed _ c.in_ok-texts_fault.ensures) ∙ pair _ _ _ ∙ sym (passed _ c.in_ok-text_fault.ensures)
