-- The cases of document 01 that are marked P hold of the definitions, by computing. Assumes nothing.
use mathlib.Core.Path.{refl}
use mathlib.Core.List.{flat_map}
use Rattle.wire.specs.Le.{le, le_at}
use Rattle.wire.specs.Be.{be}
use Rattle.wire.specs.Fields.{flat}
use Rattle.wire.specs.Part.{part_bytes}
use Rattle.text.specs.Units.{units_of, units, total}
use Rattle.text.specs.Surrogates.{surrogate_of, surrogates, paired, well_formed, characters_in, characters, utf8_in, utf8_length}
use Rattle.text.specs.Space.{in_any, is_whitespace}
use Rattle.text.specs.Trim.{leading, trailing, kept, trimmed}
use Rattle.packet.specs.Reply.{reply_header, packet_of}
use Rattle.request.specs.Headers.{all_headers}
use Rattle.request.specs.Batch.{sql_from, batch_text, sql_batch}
use Rattle.request.specs.Transaction.{transaction_request, descriptor_in, transaction_descriptor}
use Rattle.request.specs.FedAuth.{fed_auth_token}
use Rattle.script.specs.Records.{parse, records}
use Rattle.script.specs.Order.{cell_stage, stage_after}
use Rattle.script.specs.Shape.{column_shaped, number_width, cell_shaped, shaped, texts_of}
use Rattle.script.specs.Verdict.{all_well_formed, fault_of, verdict_from, verdict_of}
use Rattle.token.specs.Types.{data_types, data_type_in, data_type_of, length_width, collation_size}
use Rattle.token.specs.Names.{name_fault}
use Rattle.token.specs.Tokens.{message_length}
use Rattle.token.specs.Tokens.{token_bytes}
use Rattle.script.specs.Runs.{ahead}
use Rattle.token.specs.Values.{column_values, column_value_in, column_value_of}
use Rattle.script.specs.Sets.{every, cells_in, rows_in, up_to_set, sets_in}
use Rattle.emission.specs.Emission.{column_of, cell_of, set_pieces, sets_pieces, emitted_by, pieces, bytes_in, reply_of}
use Rattle.emission.specs.Refusal.{fault_in, refusal_of}
use Rattle.text.specs.Arguments.{text_fault}
use Rattle.response.specs.Replies.{attention_reply, transaction_reply, route_reply, error_reply}
use Rattle.cases.specs.Table.{answer, table, Cases}

pub cases : Cases
unfolding table answer le le_at be flat part_bytes units_of units total surrogate_of surrogates paired well_formed characters_in characters utf8_in utf8_length in_any is_whitespace leading trailing kept trimmed reply_header packet_of all_headers sql_from batch_text sql_batch transaction_request descriptor_in transaction_descriptor fed_auth_token parse records cell_stage stage_after column_shaped number_width cell_shaped shaped texts_of all_well_formed fault_of verdict_from verdict_of data_type_of data_types data_type_in length_width collation_size name_fault message_length token_bytes column_value_of column_values column_value_in ahead column_of cell_of every cells_in rows_in up_to_set sets_in flat_map set_pieces sets_pieces emitted_by pieces bytes_in reply_of fault_in refusal_of attention_reply transaction_reply route_reply error_reply text_fault
cases a b c d e f g h i j k l m n o p q = refl
