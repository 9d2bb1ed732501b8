-- A reply's header and packet (document 01, 'The reply packet'). Rests on the numbers of wire.
use Rattle.std.specs.Prelude.{ℕ, ◌+◌, List, [], ◌∷◌, ◌++◌, length}
use Rattle.wire.specs.Be.{be}

-- the header of a reply of n bytes: type 04, status 01, the length, spid 0, number 1, window 0
unfoldable pub reply_header : ℕ → List ℕ
reply_header n = (0x04 ∷ 0x01 ∷ []) ++ be 2 n ++ (0x00 ∷ 0x00 ∷ 0x01 ∷ 0x00 ∷ [])

-- the packet of a payload: a reply's header that counts both, and the payload
unfoldable pub packet_of : List ℕ → List ℕ
packet_of payload = reply_header (8 + length payload) ++ payload
