-- A payload cut into packets of a size (document 02, 2026-02, 'Packets of the agreed size'). Rests on Header.
use Rattle.std.specs.Prelude.{ℕ, zero, suc, ◌+◌, ◌-◌, ◌%◌, Bool, true, false, cond, List, [], ◌++◌, leb, length, take, drop}
use Rattle.packet.specs.declared.PacketHeader.{PacketHeader}
use Rattle.packet.specs.declared.PacketType.TheVariants.{TabularResult}
use Rattle.packet.specs.Header.{header_bytes}

-- the header of a reply's packet with n payload bytes: its number, and the end bit on the last only
abbrev pub part_header : ℕ → Bool → ℕ → PacketHeader
part_header number last n = record {
  packet_type = TabularResult;
  status = record { 0 = cond last 0x01 0x00 };
  length = 8 + n;
  spid = 0;
  packet_id = number % 256;
  window = 0;
}

-- a reply's packet: its header, and its payload
unfoldable pub part_bytes : ℕ → Bool → List ℕ → List ℕ
part_bytes number last payload = header_bytes (part_header number last (length payload)) ++ payload

-- the packets from a number on, whose payloads have at most room bytes: all but the last are full. A packet has a byte or
-- more, so that as many turns as bytes are enough
unfoldable pub cut_from : ℕ → ℕ → ℕ → List ℕ → List ℕ
cut_from zero number room payload = []
cut_from (suc turns) number room payload =
    cond (leb (length payload) room) (part_bytes number true payload)
    (part_bytes number false (take room payload) ++ cut_from turns (number + 1) room (drop room payload))

-- the packets of a payload at a size, header included
unfoldable pub packets_of : ℕ → List ℕ → List ℕ
packets_of size payload = cut_from (length payload) 1 (size - 8) payload
