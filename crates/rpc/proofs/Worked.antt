-- The definitions answer the worked calls as the list says, by computing. Assumes nothing.
use mathlib.Core.Path.{refl}
use Rattle.wire.specs.Le.{le, le_at}
use Rattle.wire.specs.Be.{be}
use Rattle.packet.specs.Status.{has_bit}
use Rattle.request.specs.Headers.{all_headers}
use Rattle.token.specs.Types.{length_width, collation_size}
use Rattle.token.specs.Tokens.{signed}
use Rattle.payload.specs.Places.{number_at, part_at, must, then}
use Rattle.cells.specs.Cells.{is_code, is_type, type_at, integer_at, bounded_at, is_chunk, is_last, chunk_at, chunks_at, max_at, cell_at}
use Rattle.rpc.specs.Rpc.{renamed, procedure_at, head_at, name_at, status_at, metadata_at, value_at, parameter_at, parameters_at, call_at, asked_in, rpc_of}
use Rattle.rpc.specs.Worked as table

pub worked : table.Worked
unfolding table.worked le le_at be has_bit all_headers length_width collation_size signed number_at part_at must then is_code is_type type_at integer_at bounded_at is_chunk is_last chunk_at chunks_at max_at cell_at renamed procedure_at head_at name_at status_at metadata_at value_at parameter_at parameters_at call_at asked_in rpc_of
worked = refl
