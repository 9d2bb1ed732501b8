-- `station::station_is_whitespace` meets its contract. Assumes nothing.
use mathlib.Core.Path.{sym, ◌∙◌}
use Rattle.station.specs.Answer.{number_of}
use Rattle.station.specs.Calls.{whitespace_call}
use Rattle.station.proofs.station_is_whitespace.Goals as goal

pub returns-then-is_whitespace : goal.returns-then-is_whitespace
unfolding number_of whitespace_call
returns-then-is_whitespace c = simp (sym c.is_whitespace.ensures ∙ c.if-is_whitespace.true)

pub returns-else-is_whitespace : goal.returns-else-is_whitespace
unfolding number_of whitespace_call
returns-else-is_whitespace c = simp (sym c.is_whitespace.ensures ∙ c.if-is_whitespace.false)
