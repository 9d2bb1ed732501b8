-- Worked packets: what a run over each means, in one table that one theorem covers by computation. Cases 1 to 3 of document 01 as
-- request 2026-03 has them, a message, cells, packets one after another (request 2026-02), and the refusals of a sender. Assumes nothing.
use mathlib.Core.Path.{◌≡◌, refl}
use mathlib.Core.Bool.{false}
use mathlib.Core.List.{List, [], ◌∷◌, ◌++◌, map}
use Prim.Native.Nat.{ℕ, zero, suc, ◌+◌}
use lib.IntN.{pos, negsuc}
use lib.ListN.{length, replicate}
use Rattle.wire.specs.Le.{le_at, le}
use Rattle.wire.specs.Be.{be_at, be, first}
use Rattle.wire.specs.Part.{part_bytes}
use Rattle.packet.specs.Types.{types, type_in, type_of}
use Rattle.packet.specs.Status.{has_bit}
use Rattle.packet.specs.Header.{parsed_of}
use Rattle.packet.specs.Reply.{reply_header, packet_of}
use Rattle.token.specs.Types.{length_width, collation_size}
use Rattle.token.specs.Tokens.{metadata, column, row, cell, done, message, number, part, null, signed}
use Rattle.reader.specs.declared.Position.{Position}
use Rattle.payload.specs.Places.{number_at, part_at, must, then}
use Rattle.payload.specs.Packets.{is_part, headed, next_of, packets_from, packets_in, payload_of, stop_of, source_of}
use Rattle.payload.specs.Positions.{place_from, place_in, corner_from, corner_of}
use Rattle.cells.specs.Cells.{is_code, is_type, type_at, integer_at, bounded_at, is_chunk, is_last, chunk_at, chunks_at, max_at, cell_at}
use Rattle.reader.specs.ReadTokens.{column_at, metadata_at, row_at, done_at, text_at, texts_at, message_at, token_at}
use Rattle.reader.specs.Positions.{fresh_position, held, stands, after}
use Rattle.reader.specs.Reader.{row_cell_at, next_at, step_of}
use Rattle.cells.specs.Values.{chunk_bytes}
use Rattle.reader.specs.Meaning.{Meaning, token, ended, refusal, meaning_of}

-- ---- pieces of payloads

-- DONE of a status and a row count, both under 256
abbrev done_of : ℕ → ℕ → List ℕ
done_of s n = 0xFD ∷ s ∷ 0 ∷ 0xC1 ∷ 0 ∷ n ∷ replicate 7 0

-- COLMETADATA of one column, and that column up to its type
abbrev column1 : List ℕ
column1 = 0x81 ∷ 1 ∷ replicate 7 0

abbrev collation : List ℕ
collation = 1 ∷ 2 ∷ 3 ∷ 4 ∷ 5 ∷ []

-- a column without a name, of SmallInt, bounded text, Max text or Max bytes, and a ROW
abbrev smallint : List ℕ → List ℕ
smallint s = column1 ++ (0x26 ∷ 2 ∷ 0 ∷ 0xD1 ∷ s)

abbrev nvarchar : List ℕ → List ℕ
nvarchar s = column1 ++ (0xE7 ∷ 4 ∷ 0 ∷ collation ++ (0 ∷ 0xD1 ∷ s))

abbrev nvarchar_max : List ℕ → List ℕ
nvarchar_max s = column1 ++ (0xE7 ∷ 0xFF ∷ 0xFF ∷ collation ++ (0 ∷ 0xD1 ∷ s))

abbrev varbinary_max : List ℕ → List ℕ
varbinary_max s = column1 ++ (0xA5 ∷ 0xFF ∷ 0xFF ∷ 0 ∷ 0xD1 ∷ s)

-- a Max total by its lowest byte and the others, and a chunk, before other bytes
abbrev total : ℕ → ℕ → List ℕ → List ℕ
total low high s = low ∷ replicate 7 high ++ s

abbrev chunk : List ℕ → List ℕ → List ℕ
chunk x s = length x ∷ 0 ∷ 0 ∷ 0 ∷ x ++ s

-- ERROR up to the count of its text's units; with a text of one unit, up to the server's; with a server of none, up to the procedure's
abbrev error1 : ℕ → ℕ → List ℕ
error1 size units = 0xAA ∷ size ∷ 0 ∷ 1 ∷ 0 ∷ 0 ∷ 0 ∷ 2 ∷ 3 ∷ units ∷ 0 ∷ []

abbrev error2 : ℕ → ℕ → List ℕ
error2 size units = error1 size 1 ++ (0x41 ∷ 0 ∷ units ∷ [])

-- ---- what they mean

abbrev row_read : ℕ → ℕ → List ℕ → List Meaning → List Meaning
row_read code limit collation ts = token (metadata 1) ∷ token (column 0 0 code limit collation []) ∷ token row ∷ ts

abbrev small_read : List Meaning → List Meaning
small_read ts = row_read 0x26 2 [] ts

abbrev text_read : List Meaning → List Meaning
text_read ts = row_read 0xE7 4 collation ts

abbrev max_read : List Meaning → List Meaning
max_read ts = row_read 0xE7 0xFFFF collation ts

abbrev bytes_read : List Meaning → List Meaning
bytes_read ts = row_read 0xA5 0xFFFF [] ts

-- ---- the table

-- packets, where a run over them starts, and what its first answers mean
pub record Example : Type 0 where
  pub packet : List ℕ
  pub from : Position
  pub meanings : List Meaning

abbrev over : List ℕ → List Meaning → Example
over p ts = record { packet = p; from = fresh_position; meanings = ts }

-- from a place of a packet
abbrev at : ℕ → ℕ → List ℕ → List Meaning → Example
at i place p ts =
    record {
      packet = p;
      from = record { packet = i; place = place; count = 0; types = replicate 128 0; limits = replicate 128 0; columns_left = 0; cells_left = 0; over = false };
      meanings = ts;
    }

abbrev reply : List ℕ → List Meaning → Example
reply payload ts = over (packet_of payload) ts

-- a reply whose first step is refused, and so the next
abbrev refuses : ℕ → List ℕ → Example
refuses n payload = reply payload (refusal n ∷ refusal n ∷ [])

-- a position of a count, columns and cells to come and one held type, over a reply that is one DONE
abbrev forged : ℕ → ℕ → ℕ → ℕ → ℕ → ℕ → ℕ → Meaning → Example
forged i place count columns cells code limit t =
    record {
      packet = packet_of (done_of 0 0);
      from = record { packet = i; place = place; count = count; types = code ∷ replicate 127 0x26; limits = limit ∷ replicate 127 1; columns_left = columns; cells_left = cells; over = false };
      meanings = t ∷ [];
    }

abbrev pub replies : List Example
replies =
    over (0x04 ∷ 0x01 ∷ 0x00 ∷ 0x18 ∷ 0 ∷ 0 ∷ 1 ∷ 0 ∷ 0x81 ∷ 0 ∷ 0 ∷ done_of 0x10 0)
    (token (metadata 0) ∷ token (done 0x10 0xC1 0) ∷ ended ∷ ended ∷ [])
    ∷ over (0x04 ∷ 0x01 ∷ 0x00 ∷ 41 ∷ 0 ∷ 0 ∷ 1 ∷ 0 ∷ column1 ++ (0x26 ∷ 4 ∷ 1 ∷ 0x6E ∷ 0 ∷ 0xD1 ∷ 4 ∷ 7 ∷ 0 ∷ 0 ∷ 0 ∷ done_of 0x10 1))
    (token (metadata 1) ∷ token (column 0 0 0x26 4 [] (0x6E ∷ 0 ∷ [])) ∷ token row ∷ token (cell (number (pos 7))) ∷ token (done 0x10 0xC1 1) ∷ ended ∷ [])
    ∷ over (0x04 ∷ 0x01 ∷ 0x00 ∷ 40 ∷ 0 ∷ 0 ∷ 1 ∷ 0 ∷ 0x81 ∷ 0 ∷ 0 ∷ done_of 0x11 0 ++ (0x81 ∷ 0 ∷ 0 ∷ done_of 0x10 0))
    (token (metadata 0) ∷ token (done 0x11 0xC1 0) ∷ token (metadata 0) ∷ token (done 0x10 0xC1 0) ∷ ended ∷ [])
    ∷ reply (error2 18 1 ++ (0x42 ∷ 0 ∷ 0 ∷ 7 ∷ 0 ∷ 0 ∷ 0 ∷ done_of 2 0))
    (token (message 0xAA 1 2 3 (0x41 ∷ 0 ∷ []) (0x42 ∷ 0 ∷ []) [] 7) ∷ token (done 2 0xC1 0) ∷ ended ∷ [])
    ∷ reply (smallint (2 ∷ 0 ∷ 0x80 ∷ 0xD1 ∷ 0 ∷ done_of 0 2))
    (small_read (token (cell (number (negsuc 32767))) ∷ token row ∷ token (cell null) ∷ token (done 0 0xC1 2) ∷ ended ∷ []))
    ∷ reply (nvarchar (2 ∷ 0 ∷ 0x41 ∷ 0 ∷ 0xD1 ∷ 0xFF ∷ 0xFF ∷ done_of 0 2))
    (text_read (token (cell (part (0x41 ∷ 0 ∷ []))) ∷ token row ∷ token (cell null) ∷ token (done 0 0xC1 2) ∷ ended ∷ []))
    ∷ reply (nvarchar_max (total 4 0 (chunk (0x41 ∷ 0 ∷ []) (chunk (0x42 ∷ 0 ∷ []) (chunk [] (0xD1 ∷ total 0xFF 0xFF (done_of 0 2)))))))
    (max_read (token (cell (part (0x41 ∷ 0 ∷ 0x42 ∷ 0 ∷ []))) ∷ token row ∷ token (cell null) ∷ token (done 0 0xC1 2) ∷ ended ∷ []))
    ∷ reply (varbinary_max (total 0xFE 0xFF (chunk (1 ∷ []) (chunk (2 ∷ 3 ∷ []) (chunk [] (0xD1 ∷ total 0 0 (chunk [] (done_of 0 2))))))))
    (bytes_read (token (cell (part (1 ∷ 2 ∷ 3 ∷ []))) ∷ token row ∷ token (cell (part [])) ∷ token (done 0 0xC1 2) ∷ ended ∷ []))
    ∷ []

-- 8 and 9, 23, 24 of the packet's end, 25, 27, 28
abbrev pub framed : List Example
framed =
    over (4 ∷ 1 ∷ 0 ∷ 7 ∷ 0 ∷ 0 ∷ 1 ∷ []) (refusal 8 ∷ [])
    ∷ over (0x02 ∷ 1 ∷ 0 ∷ 8 ∷ 0 ∷ 0 ∷ 1 ∷ 0 ∷ []) (refusal 9 ∷ [])
    ∷ over (0x01 ∷ 1 ∷ 0 ∷ 8 ∷ 0 ∷ 0 ∷ 1 ∷ 0 ∷ []) (refusal 23 ∷ [])
    ∷ over (4 ∷ 1 ∷ 0 ∷ 8 ∷ 0 ∷ 0 ∷ 1 ∷ 0 ∷ []) (refusal 23 ∷ [])
    ∷ over (4 ∷ 1 ∷ 0 ∷ 9 ∷ 0 ∷ 0 ∷ 1 ∷ 0 ∷ []) (refusal 23 ∷ [])
    ∷ refuses 24 (0xFD ∷ 0 ∷ [])
    ∷ reply (done_of 1 0) (token (done 1 0xC1 0) ∷ refusal 24 ∷ [])
    ∷ refuses 25 (0xD2 ∷ [])
    ∷ refuses 27 (0x81 ∷ 129 ∷ 0 ∷ [])
    ∷ refuses 24 (0x81 ∷ 129 ∷ [])
    ∷ refuses 28 (0xD1 ∷ [])
    ∷ reply (smallint (2 ∷ 0 ∷ 0 ∷ done_of 1 1 ++ (0xD1 ∷ []))) (small_read (token (cell (number (pos 0))) ∷ token (done 1 0xC1 1) ∷ refusal 28 ∷ []))
    ∷ []

-- 26 at the field that is at fault, even where the packet is cut after it
abbrev pub wrong : List Example
wrong =
    reply (done_of 0 0 ++ (0xD1 ∷ [])) (token (done 0 0xC1 0) ∷ refusal 26 ∷ refusal 26 ∷ [])
    ∷ reply (column1 ++ (0x38 ∷ [])) (token (metadata 1) ∷ refusal 26 ∷ [])
    ∷ reply (column1 ++ (0x26 ∷ 3 ∷ [])) (token (metadata 1) ∷ refusal 26 ∷ [])
    ∷ reply (column1 ++ (0xE7 ∷ 0x41 ∷ 0x1F ∷ [])) (token (metadata 1) ∷ refusal 26 ∷ [])
    ∷ reply (column1 ++ (0xA7 ∷ 4 ∷ 0 ∷ [])) (token (metadata 1) ∷ refusal 26 ∷ [])
    ∷ reply (smallint (1 ∷ [])) (small_read (refusal 26 ∷ []))
    ∷ reply (nvarchar (3 ∷ 0 ∷ [])) (text_read (refusal 26 ∷ []))
    ∷ reply (nvarchar (6 ∷ 0 ∷ [])) (text_read (refusal 26 ∷ []))
    ∷ reply (nvarchar_max (total 3 0 [])) (max_read (refusal 26 ∷ []))
    ∷ reply (nvarchar_max (total 2 0 (4 ∷ 0 ∷ 0 ∷ 0 ∷ []))) (max_read (refusal 26 ∷ []))
    ∷ reply (nvarchar_max (total 2 0 (0 ∷ 0 ∷ 0 ∷ 0 ∷ []))) (max_read (refusal 26 ∷ []))
    ∷ reply (nvarchar_max (total 0xFE 0xFF (3 ∷ 0 ∷ 0 ∷ 0 ∷ []))) (max_read (refusal 26 ∷ []))
    ∷ reply (nvarchar_max (total 0xFE 0xFF (4 ∷ 0 ∷ 0 ∷ []))) (max_read (refusal 24 ∷ []))
    ∷ refuses 26 (0xAB ∷ 12 ∷ 0 ∷ [])
    ∷ refuses 26 (0xAB ∷ 15 ∷ 0 ∷ [])
    ∷ refuses 26 (error1 16 2)
    ∷ refuses 26 (0xAA ∷ 0x0C ∷ 0x04 ∷ 1 ∷ 0 ∷ 0 ∷ 0 ∷ 2 ∷ 3 ∷ 0 ∷ 0 ∷ [])
    ∷ refuses 26 (error2 18 2)
    ∷ refuses 26 (0xAA ∷ 0x10 ∷ 0x02 ∷ 1 ∷ 0 ∷ 0 ∷ 0 ∷ 2 ∷ 3 ∷ 1 ∷ 0 ∷ 0x41 ∷ 0 ∷ 0 ∷ [])
    ∷ refuses 26 (error2 18 0 ++ (0 ∷ []))
    ∷ refuses 24 (error2 18 0 ++ (1 ∷ []))
    ∷ []

-- ---- packets one after another

-- a packet of a status and a number, whose payload is under 248 bytes
abbrev sent : ℕ → ℕ → List ℕ → List ℕ
sent status i payload = 0x04 ∷ status ∷ 0 ∷ (8 + length payload) ∷ 0 ∷ 0 ∷ i ∷ 0 ∷ payload

abbrev last : List ℕ
last = done_of 0x10 0

abbrev last_read : Meaning
last_read = token (done 0x10 0xC1 0)

-- where packets end or not, and what follows them: the worked inputs of the request
abbrev pub joined_packets : List Example
joined_packets =
    over (sent 1 1 last) (last_read ∷ ended ∷ ended ∷ [])
    ∷ over [] (refusal 8 ∷ [])
    ∷ over (sent 1 2 last) (refusal 33 ∷ [])
    ∷ over (sent 0 1 last) (last_read ∷ refusal 34 ∷ refusal 34 ∷ [])
    ∷ over (sent 1 1 last ++ (0 ∷ [])) (last_read ∷ refusal 34 ∷ [])
    ∷ over (sent 0 1 last ++ (0 ∷ [])) (last_read ∷ refusal 8 ∷ [])
    ∷ over (sent 0 1 last ++ replicate 8 0) (last_read ∷ refusal 9 ∷ [])
    ∷ over (sent 0 1 last ++ sent 1 2 (0xFD ∷ [])) (last_read ∷ refusal 26 ∷ [])
    ∷ over (sent 0 1 last ++ sent 1 3 (0xFD ∷ [])) (last_read ∷ refusal 33 ∷ [])
    ∷ over (sent 0 1 last ++ (0x03 ∷ 1 ∷ 0 ∷ 9 ∷ 0 ∷ 0 ∷ 2 ∷ 0 ∷ 0xFD ∷ [])) (last_read ∷ refusal 23 ∷ [])
    ∷ over (sent 1 1 (0xFD ∷ 0x10 ∷ [])) (refusal 24 ∷ [])
    ∷ over (sent 1 1 (0xFD ∷ 0x10 ∷ []) ++ (0 ∷ [])) (refusal 34 ∷ [])
    ∷ over (sent 0 1 (0xFD ∷ 0x10 ∷ [])) (refusal 34 ∷ [])
    ∷ over (sent 0 1 (0xFD ∷ 0x10 ∷ []) ++ sent 1 2 (0 ∷ 0xC1 ∷ replicate 9 0)) (last_read ∷ ended ∷ [])
    ∷ over (sent 1 1 []) (refusal 23 ∷ [])
    ∷ over (sent 0 1 (0xEE ∷ []) ++ (0x99 ∷ [])) (refusal 25 ∷ [])
    -- a row, its cell and the DONE after it over three packets, and a part of a name that crosses a border
    ∷ over (sent 0 1 (column1 ++ (0x26 ∷ 4 ∷ 1 ∷ 0x6E ∷ [])) ++ sent 0 2 (0 ∷ 0xD1 ∷ 4 ∷ 7 ∷ []) ++ sent 1 3 (0 ∷ 0 ∷ 0 ∷ done_of 0 1))
    (token (metadata 1) ∷ token (column 0 0 0x26 4 [] (0x6E ∷ 0 ∷ [])) ∷ token row ∷ token (cell (number (pos 7))) ∷ token (done 0 0xC1 1) ∷ ended ∷ [])
    ∷ []

-- 24 for a position in the header, past the packet's end, in packet 0, past the packets or after an end bit, of 129 columns, past its
-- columns or cells, or that holds a type that is none; the packets are tested first
abbrev pub positions : List Example
positions =
    forged 1 8 1 0 0 0x26 4 (token (done 0 0xC1 0))
    ∷ forged 1 7 0 0 0 0x26 4 (refusal 24)
    ∷ forged 1 22 0 0 0 0x26 4 (refusal 24)
    ∷ forged 0 8 0 0 0 0x26 4 (refusal 24)
    ∷ forged 2 8 0 0 0 0x26 4 (refusal 24)
    ∷ forged 1 8 129 0 0 0x26 4 (refusal 24)
    ∷ forged 1 8 1 2 0 0x26 4 (refusal 24)
    ∷ forged 1 8 1 0 2 0x26 4 (refusal 24)
    ∷ forged 1 8 1 0 0 0x38 4 (refusal 24)
    ∷ forged 1 8 1 0 0 0xE7 0 (refusal 24)
    -- past an end bit nothing is tested; a packet's end and the next one's front are one place
    ∷ at 2 8 (sent 1 1 last ++ (0 ∷ [])) (refusal 24 ∷ [])
    ∷ at 2 8 (sent 0 1 last ++ (0 ∷ [])) (refusal 8 ∷ [])
    ∷ at 0 8 (sent 1 2 last) (refusal 33 ∷ [])
    ∷ at 1 9 (sent 0 1 (0 ∷ []) ++ sent 1 2 last) (last_read ∷ ended ∷ [])
    ∷ at 2 8 (sent 0 1 (0 ∷ []) ++ sent 1 2 last) (last_read ∷ ended ∷ [])
    ∷ []

-- what the first k answers of a run mean
abbrev pub trace : ℕ → List ℕ → Position → List Meaning
trace zero p from = []
trace (suc k) p from = meaning_of (payload_of (packets_in p)) (step_of p from).answer ∷ trace k p (step_of p from).next

unfoldable pub examples : List Example
examples = replies ++ framed ++ wrong ++ joined_packets ++ positions

-- every run means what its example says
pub examples-hold : map (λ e. trace (length e.meanings) e.packet e.from) examples ≡ map (λ e. e.meanings) examples
unfolding examples le_at le be_at be first part_bytes types type_in type_of has_bit parsed_of reply_header packet_of length_width collation_size signed number_at part_at must then is_code is_type type_at integer_at bounded_at is_chunk is_last chunk_at chunks_at max_at cell_at column_at metadata_at row_at done_at text_at texts_at message_at token_at held stands after row_cell_at next_at step_of chunk_bytes is_part headed next_of packets_from packets_in payload_of stop_of source_of place_from place_in corner_from corner_of
examples-hold = refl
