-- The definitions answer the worked captures as the list says, by computing. Assumes nothing.
use mathlib.Core.Path.{refl}
use Rattle.wire.specs.Le.{le, le_at}
use Rattle.wire.specs.Be.{be}
use Rattle.wire.specs.Over.{overwrite}
use Rattle.script.specs.Records.{parse, records}
use Rattle.request.specs.Headers.{all_headers}
use Rattle.capture_marks.specs.Marks.{is_marked, capture_fault, marks_from, marks_of, counted_of, marks_in, slots_after}
use Rattle.capture_marks.specs.Worked as table

pub worked : table.Worked
unfolding table.worked le le_at be overwrite parse records all_headers is_marked capture_fault marks_from marks_of counted_of marks_in slots_after
worked = refl
