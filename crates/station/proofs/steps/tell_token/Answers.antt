-- `station::steps::tell_token` meets its contract. Assumes nothing.
use mathlib.Core.Path.{sym, ap}
use Rattle.station.specs.Answer.{answers}
use Rattle.station.specs.Steps.{token_slots}
use Rattle.station.proofs.Ends.{passed}
use Rattle.station.proofs.steps.tell_token.Goals as goal

pub returns-in-ColMetadata : goal.returns-in-ColMetadata
returns-in-ColMetadata c = let w = passed c.args.out.now c.tell_four.type_inv (c.tell_four.ensures.value, c.tell_four.ensures.out_after) (ap (λ x. answers 1 (token_slots x)) (sym c.in-ColMetadata.is)) in record { value = w.0; out_after = w.1 }

pub returns-in-Column : goal.returns-in-Column
returns-in-Column c = let w = passed c.args.out.now c.tell_column.type_inv (c.tell_column.ensures.value, c.tell_column.ensures.out_after) (ap (λ x. answers 1 (token_slots x)) (sym c.in-Column.is)) in record { value = w.0; out_after = w.1 }

pub returns-in-Row : goal.returns-in-Row
returns-in-Row c = let w = passed c.args.out.now c.tell_four-in-Row.type_inv (c.tell_four-in-Row.ensures.value, c.tell_four-in-Row.ensures.out_after) (ap (λ x. answers 1 (token_slots x)) (sym c.in-Row.is)) in record { value = w.0; out_after = w.1 }

pub returns-in-Cell : goal.returns-in-Cell
returns-in-Cell c = let w = passed c.args.out.now c.tell_cell.type_inv (c.tell_cell.ensures.value, c.tell_cell.ensures.out_after) (ap (λ x. answers 1 (token_slots x)) (sym c.in-Cell.is)) in record { value = w.0; out_after = w.1 }

pub returns-in-Done : goal.returns-in-Done
returns-in-Done c = let w = passed c.args.out.now c.tell_four-in-Done.type_inv (c.tell_four-in-Done.ensures.value, c.tell_four-in-Done.ensures.out_after) (ap (λ x. answers 1 (token_slots x)) (sym c.in-Done.is)) in record { value = w.0; out_after = w.1 }

pub returns-in-Message : goal.returns-in-Message
returns-in-Message c = let w = passed c.args.out.now c.tell_message.type_inv (c.tell_message.ensures.value, c.tell_message.ensures.out_after) (ap (λ x. answers 1 (token_slots x)) (sym c.in-Message.is)) in record { value = w.0; out_after = w.1 }
