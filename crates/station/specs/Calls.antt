-- What each export answers. Rests on the definitions of the crates that they call.
use Rattle.std.specs.Prelude.{ℕ, cond, List, [], ◌∷◌, eqb, Option, Some, None, Result, Ok, Err}
use Rattle.text.specs.Units.{units}
use Rattle.text.specs.Surrogates.{characters, utf8_length, has_pair}
use Rattle.text.specs.Space.{is_whitespace}
use Rattle.text.specs.Arguments.{text_fault}
use Rattle.refusals.specs.Numbers.{unknown_packet_type}
use Rattle.packet.specs.declared.PacketHeader.{PacketHeader}
use Rattle.packet.specs.declared.PacketType.{PacketType}
use Rattle.packet.specs.Types.{byte_of, type_of}
use Rattle.packet.specs.Header.{parsed_of, header_bytes}
use Rattle.station.specs.Answer.{Outcome, answers, refuses}

-- type, status, length, spid, number, window
abbrev pub header_outcome : Result PacketHeader ℕ → Outcome
header_outcome (Ok h) = answers 0 (byte_of h.packet_type ∷ h.status.0 ∷ h.length ∷ h.spid ∷ h.packet_id ∷ h.window ∷ [])
header_outcome (Err n) = refuses n

unfoldable pub header_call : List ℕ → Outcome
header_call s = header_outcome (parsed_of s)

-- 8, and a header's bytes: the slots are here the bytes of the lent buffer
unfoldable pub written_header : PacketHeader → Outcome
written_header h = answers 8 (header_bytes h)

abbrev pub write_outcome : Option PacketType → (status size spid number window : ℕ) → Outcome
write_outcome (Some t) status size spid number window =
    written_header (record {
      packet_type = t;
      status = record { 0 = status };
      length = size;
      spid = spid;
      packet_id = number;
      window = window;
    })
write_outcome None status size spid number window = refuses unknown_packet_type

-- the header of a type byte and its other fields; 9 of an unknown type
unfoldable pub write_header_call : (code status size spid number window : ℕ) → Outcome
write_header_call code status size spid number window = write_outcome (type_of code) status size spid number window

-- 1 of white space, else 0
unfoldable pub whitespace_call : ℕ → Outcome
whitespace_call u = answers (cond (is_whitespace u) 1 0) []

-- units, characters, bytes as UTF-8, and whether a surrogate pair stands in a text
unfoldable pub text_outcome : List ℕ → Outcome
text_outcome s = answers 0 (units s ∷ characters s ∷ utf8_length s ∷ cond (has_pair s) 1 0 ∷ [])

-- 21 of an odd number of bytes, 22 of a text that is not UTF-16
unfoldable pub text_call : List ℕ → Outcome
text_call s = cond (eqb (text_fault s) 0) (text_outcome s) (refuses (text_fault s))
