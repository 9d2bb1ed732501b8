-- `response::faults::measure_routing` meets its contract. Assumes nothing.
use mathlib.Core.Path.{◌≡◌, ◌∙◌}
use mathlib.Core.List.{[], ◌∷◌}
use Rattle.script.specs.Records.{records}
use Rattle.text.specs.Arguments.{text_fault}
use Rattle.response.specs.Answer.{first_of}
use Rattle.response.specs.Lists.{routes_fault}
use Rattle.response.proofs.Firsts.{first, passed, last}
use Rattle.response.proofs.Measuring.{measured-fault}
use Rattle.response.proofs.faults.measure_routing.Goals as goal

pub returns-in_err-text_fault : goal.returns-in_err-text_fault
returns-in_err-text_fault c = measured-fault _ _ _ _ c.from_residual.ensures.1 (first _ _ c.in_err-text_fault.ensures)

pub returns : goal.returns
returns c = let a = c.args in
    let faults = routes_fault (records a.routes.now) in
    let only : first_of (text_fault a.to.now.host.now ∷ faults ∷ []) ≡ faults = passed _ c.in_ok-text_fault.ensures ∙ last _ in
    rw only c.measure_records.ensures
