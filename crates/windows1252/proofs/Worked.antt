-- The definitions answer the worked labels as the lists say, by computing. Assumes nothing.
use mathlib.Core.Path.{refl}
use Rattle.wire.specs.Le.{le, le_at}
use Rattle.wire.specs.Be.{be, first}
use Rattle.wire.specs.Fields.{flat}
use Rattle.wire.specs.Over.{overwrite}
use Rattle.text.specs.Units.{units_of}
use Rattle.payload.specs.Places.{number_at, part_at, must, then}
use Rattle.cells.specs.Cells.{is_type, is_chunk, is_last, chunk_at, chunks_at, max_at, cell_at}
use Rattle.cells.specs.Values.{chunk_bytes, joined_from}
use Rattle.windows1252.specs.Table.{table, unit_of, place_of, byte_of, has_byte, have_bytes, bytes_of, text_of}
use Rattle.windows1252.specs.Labels.{chunks_joined, shown, read_of, value_bytes, encoded, written_of}
use Rattle.windows1252.specs.Answers.{read_in, text_left, written_in, value_left}
use Rattle.windows1252.specs.Worked as worked

pub worked-reads : worked.WorkedReads
unfolding worked.reads le le_at be first flat overwrite number_at part_at must then is_type is_chunk is_last chunk_at chunks_at max_at cell_at chunk_bytes joined_from table unit_of text_of chunks_joined shown read_of read_in text_left
worked-reads = refl

pub worked-writes : worked.WorkedWrites
unfolding worked.writes le le_at be flat overwrite units_of table place_of byte_of has_byte have_bytes bytes_of value_bytes encoded written_of written_in value_left
worked-writes = refl
