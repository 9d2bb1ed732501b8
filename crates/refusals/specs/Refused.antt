-- The number of each refusal, and what a call answers with the number of its refusal (document 01, 'Who causes which refusal': 'a
-- refusal is its number'). Rests on Numbers.
use Rattle.std.specs.Prelude.{ℕ, Result, Ok, Err}
use Rattle.refusals.specs.Numbers.{batch_empty, batch_too_short, headers_past_end, batch_not_utf16, token_too_short, outer_length, inner_length, header_too_short, unknown_packet_type, no_transaction_type, call_cut, parameter_cut, parameter_not_read, headers_too_small, record_cut, kind_wrong, shape_wrong, text_wrong, empty_chunk, name_too_long, result_too_long, input_too_long, buffer_too_short, odd_text, not_utf16, unit_without_byte, packet_size, not_reply, not_next, end_bit_wrong, cut_short, unknown_token, inner_wrong, too_many_columns, row_without_columns}
use Rattle.refusals.specs.declared.Refusal.{Refusal}
use Rattle.refusals.specs.declared.Refusal.TheVariants.{BatchEmpty, BatchTooShort, HeadersPastEnd, BatchNotUtf16, TokenTooShort, OuterLength, InnerLength, HeaderTooShort, UnknownPacketType, NoTransactionType, CallCut, ParameterCut, ParameterNotRead, HeadersTooSmall, RecordCut, KindWrong, ShapeWrong, TextWrong, EmptyChunk, NameTooLong, ResultTooLong, InputTooLong, BufferTooShort, OddText, NotUtf16, UnitWithoutByte, PacketSize, NotAReply, NotTheNext, EndBitWrong, Cut, UnknownToken, InnerWrong, TooManyColumns, RowWithoutColumns}

-- the number of a refusal
abbrev pub number : Refusal → ℕ
number BatchEmpty = batch_empty
number BatchTooShort = batch_too_short
number HeadersPastEnd = headers_past_end
number BatchNotUtf16 = batch_not_utf16
number TokenTooShort = token_too_short
number OuterLength = outer_length
number InnerLength = inner_length
number HeaderTooShort = header_too_short
number UnknownPacketType = unknown_packet_type
number NoTransactionType = no_transaction_type
number CallCut = call_cut
number ParameterCut = parameter_cut
number ParameterNotRead = parameter_not_read
number HeadersTooSmall = headers_too_small
number RecordCut = record_cut
number KindWrong = kind_wrong
number ShapeWrong = shape_wrong
number TextWrong = text_wrong
number EmptyChunk = empty_chunk
number NameTooLong = name_too_long
number ResultTooLong = result_too_long
number InputTooLong = input_too_long
number BufferTooShort = buffer_too_short
number OddText = odd_text
number NotUtf16 = not_utf16
number UnitWithoutByte = unit_without_byte
number PacketSize = packet_size
number NotAReply = not_reply
number NotTheNext = not_next
number EndBitWrong = end_bit_wrong
number Cut = cut_short
number UnknownToken = unknown_token
number InnerWrong = inner_wrong
number TooManyColumns = too_many_columns
number RowWithoutColumns = row_without_columns

module _ {A : Type 0} where
  -- what a call answers: a value, or the number of its refusal
  abbrev pub numbered : Result A Refusal → Result A ℕ
  numbered (Ok a) = Ok a
  numbered (Err r) = Err (number r)

  -- the number by which a call is refused, or 0
  abbrev pub refused_by : Result A Refusal → ℕ
  refused_by (Ok a) = 0
  refused_by (Err r) = number r
