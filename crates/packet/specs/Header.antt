-- The packet header (MS-TDS 2.2.3.1): type, status, length, spid, number, window; length and spid are big-endian.
-- Rests on the numbers of wire and on Types.
use Rattle.std.specs.Prelude.{ℕ, cond, List, ◌++◌, length, drop, ltb, Option, Some, None, Result, Ok, Err}
use Rattle.refusals.specs.Numbers.{header_too_short, unknown_packet_type}
use Rattle.wire.specs.Le.{le_at, le}
use Rattle.wire.specs.Be.{be_at, be}
use Rattle.packet.specs.declared.PacketType.{PacketType}
use Rattle.packet.specs.declared.PacketHeader.{PacketHeader}
use Rattle.packet.specs.Types.{byte_of, type_of}

-- the header of a message's only packet: status end of message, spid and window 0
abbrev pub new_header : PacketType → ℕ → ℕ → PacketHeader
new_header t n i = record { packet_type = t; status = record { 0 = 0x01 }; length = n; spid = 0; packet_id = i; window = 0 }

-- the header of a known type with its other fields as they stand in the bytes; 9 of an unknown type
abbrev pub header_for : Option PacketType → List ℕ → Result PacketHeader ℕ
header_for (Some t) s =
    Ok (record {
      packet_type = t;
      status = record { 0 = le_at 1 (drop 1 s) };
      length = be_at 2 (drop 2 s);
      spid = be_at 2 (drop 4 s);
      packet_id = le_at 1 (drop 6 s);
      window = le_at 1 (drop 7 s);
    })
header_for None s = Err unknown_packet_type

-- the header at the front of some bytes: 8 under 8 bytes, 9 of an unknown type
unfoldable pub parsed_of : List ℕ → Result PacketHeader ℕ
parsed_of s = cond (ltb (length s) 8) (Err header_too_short) (header_for (type_of (le_at 1 s)) s)

-- the eight bytes of a header
unfoldable pub header_bytes : PacketHeader → List ℕ
header_bytes h =
    le 1 (byte_of h.packet_type) ++ le 1 h.status.0 ++ be 2 h.length ++ be 2 h.spid ++ le 1 h.packet_id ++ le 1 h.window
