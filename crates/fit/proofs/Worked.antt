-- The definitions order the worked misfits and answer the worked scripts as the lists say, by computing. Assumes nothing.
use mathlib.Core.Path.{refl}
use mathlib.Core.List.{flat_map}
use Rattle.wire.specs.Le.{le, le_at}
use Rattle.wire.specs.Be.{be}
use Rattle.wire.specs.Fields.{flat}
use Rattle.text.specs.Units.{units_of, units, total}
use Rattle.text.specs.Surrogates.{surrogate_of, surrogates, paired, well_formed}
use Rattle.packet.specs.Reply.{reply_header, packet_of}
use Rattle.script.specs.Records.{parse, records}
use Rattle.script.specs.Order.{cell_stage, stage_after}
use Rattle.script.specs.Shape.{column_shaped, info_shaped, number_width, cell_shaped, chunk_shaped, error_shaped, shaped, texts_of}
use Rattle.script.specs.Verdict.{all_well_formed, fault_of, verdict_from, verdict_of}
use Rattle.token.specs.Types.{data_types, data_type_in, data_type_of, length_width, collation_size}
use Rattle.token.specs.Names.{name_fault}
use Rattle.token.specs.Values.{column_values, column_value_in, column_value_of}
use Rattle.token.specs.Tokens.{message_length}
use Rattle.script.specs.Runs.{ahead}
use Rattle.script.specs.Sets.{every, cells_in, rows_in, up_to_set, sets_in}
use Rattle.emission.specs.Emission.{column_of, cell_of, set_pieces, sets_pieces, emitted_by, pieces, bytes_in, reply_of}
use Rattle.emission.specs.Refusal.{fault_in, refusal_of}
use Rattle.fit.specs.Misfits.{cell_fits, wrong_cells, wrong_in_row, wrong_columns, types_in}
use Rattle.fit.specs.Misfits.{rows_misfits, set_misfits, sets_misfits, misfits, fit_of}
use Rattle.fit.specs.First.{place, earlier, before}
use Rattle.fit.specs.Worked as table

pub worked-order : table.WorkedOrder
unfolding table.rising place earlier before
worked-order = refl

pub worked-scripts : table.WorkedScripts
unfolding table.worked flat_map be le le_at flat units_of units total surrogate_of surrogates paired well_formed
    reply_header packet_of parse records cell_stage stage_after column_shaped info_shaped number_width cell_shaped chunk_shaped error_shaped shaped texts_of all_well_formed
    fault_of verdict_from verdict_of data_type_of data_types data_type_in length_width collation_size column_value_of column_values column_value_in name_fault message_length ahead every cells_in rows_in up_to_set
    sets_in column_of cell_of set_pieces sets_pieces emitted_by pieces bytes_in reply_of fault_in refusal_of cell_fits wrong_cells wrong_in_row
    wrong_columns types_in rows_misfits set_misfits sets_misfits misfits fit_of
worked-scripts = refl

pub worked-columns : table.WorkedColumns
unfolding be le le_at parse records ahead every rows_in up_to_set sets_in wrong_columns types_in rows_misfits set_misfits sets_misfits misfits
worked-columns = (refl, refl, refl, refl)
