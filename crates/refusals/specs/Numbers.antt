-- The numbers of refusals, each with its cause (document 01, 'Who causes which refusal'). Rests on nothing. docs/FORMATS.md,
-- 'Refusals', is the table of them: who causes each, which calls give it, and which one comes first.
use Rattle.std.specs.Prelude.{ℕ}

-- ---- Client

-- a batch is empty
abbrev pub batch_empty : ℕ
batch_empty = 1

-- a batch has under 4 bytes
abbrev pub batch_too_short : ℕ
batch_too_short = 2

-- the headers of a batch run past its end
abbrev pub headers_past_end : ℕ
headers_past_end = 3

-- the text of a batch is not UTF-16
abbrev pub batch_not_utf16 : ℕ
batch_not_utf16 = 4

-- a token message has under 8 bytes
abbrev pub token_too_short : ℕ
token_too_short = 5

-- the outer length of a token message is wrong
abbrev pub outer_length : ℕ
outer_length = 6

-- the inner length of a token message is wrong
abbrev pub inner_length : ℕ
inner_length = 7

-- a packet header has under 8 bytes
abbrev pub header_too_short : ℕ
header_too_short = 8

-- the type of a packet is unknown
abbrev pub unknown_packet_type : ℕ
unknown_packet_type = 9

-- a transaction request has no type
abbrev pub no_transaction_type : ℕ
no_transaction_type = 10

-- the headers, the procedure or the flags of a procedure call are cut
abbrev pub call_cut : ℕ
call_cut = 29

-- a parameter of a procedure call is cut, its value has a wrong length, or sp_executesql has none
abbrev pub parameter_cut : ℕ
parameter_cut = 30

-- a parameter's type is not read, it is encrypted, or a second call follows
abbrev pub parameter_not_read : ℕ
parameter_not_read = 31

-- the headers length of a request is 0 to 3, so that it cannot hold its own four bytes
abbrev pub headers_too_small : ℕ
headers_too_small = 35

-- ---- Script's author

-- a record is cut
abbrev pub record_cut : ℕ
record_cut = 11

-- a kind is unknown or out of order, or a script has no set
abbrev pub kind_wrong : ℕ
kind_wrong = 12

-- a payload has a wrong shape
abbrev pub shape_wrong : ℕ
shape_wrong = 13

-- a text of a record is not UTF-16
abbrev pub text_wrong : ℕ
text_wrong = 14

-- a chunk is empty
abbrev pub empty_chunk : ℕ
empty_chunk = 15

-- a column, server or procedure name is over 255 units
abbrev pub name_too_long : ℕ
name_too_long = 16

-- a result is over 65,535 bytes, or a label over 65,535 characters
abbrev pub result_too_long : ℕ
result_too_long = 17

-- ---- Caller

-- the input of a program is over 65,536 bytes, or packets to read or a label over 131,072
abbrev pub input_too_long : ℕ
input_too_long = 18

-- a lent buffer is too short
abbrev pub buffer_too_short : ℕ
buffer_too_short = 20

-- a text argument has an odd number of bytes
abbrev pub odd_text : ℕ
odd_text = 21

-- a text argument is not UTF-16
abbrev pub not_utf16 : ℕ
not_utf16 = 22

-- a unit of a label has no byte in Windows-1252
abbrev pub unit_without_byte : ℕ
unit_without_byte = 36

-- a packet size is under 512 or over 32,767 bytes
abbrev pub packet_size : ℕ
packet_size = 32

-- ---- Sender of a reply

-- a packet is not of type 04, or its length is under 9 or past the bytes lent
abbrev pub not_reply : ℕ
not_reply = 23

-- a packet's number is not the next
abbrev pub not_next : ℕ
not_next = 33

-- a reply must go on past a packet's payload, and bytes follow the end bit, or none follow and there is no end bit
abbrev pub end_bit_wrong : ℕ
end_bit_wrong = 34

-- a reply is cut within a token or before the last DONE, a position is one that is refused, or a label's value is cut
abbrev pub cut_short : ℕ
cut_short = 24

-- a byte begins no token
abbrev pub unknown_token : ℕ
unknown_token = 25

-- an inner length or a type is wrong, or bytes follow the last DONE or a label's value
abbrev pub inner_wrong : ℕ
inner_wrong = 26

-- a set has over 128 columns
abbrev pub too_many_columns : ℕ
too_many_columns = 27

-- a row stands in a set without columns
abbrev pub row_without_columns : ℕ
row_without_columns = 28
