-- The lengths of a header and of a packet, and a reply's header as one of its kind. Assumes nothing.
use mathlib.Core.Path.{◌≡◌, refl, ap, ◌∙◌}
use mathlib.Core.List.{List}
use Prim.Native.Nat.{ℕ, ◌+◌}
use lib.ListN.{length, length-append}
use Rattle.wire.specs.Le.{le}
use Rattle.wire.specs.Be.{be}
use Rattle.packet.specs.declared.PacketHeader.{PacketHeader}
use Rattle.packet.specs.declared.PacketType.TheVariants.{TabularResult}
use Rattle.packet.specs.Header.{new_header, header_bytes}
use Rattle.packet.specs.Reply.{reply_header, packet_of}

pub length-header : (h : PacketHeader) → length (header_bytes h) ≡ 8
unfolding header_bytes le be
length-header h = refl

-- the header of a reply is that of the message's only packet, number 1
pub reply-header : (n : ℕ) → header_bytes (new_header TabularResult n 1) ≡ reply_header n
unfolding header_bytes reply_header le be
reply-header n = refl

pub length-reply-header : (n : ℕ) → length (reply_header n) ≡ 8
unfolding reply_header be le
length-reply-header n = refl

pub length-packet : (payload : List ℕ) → length (packet_of payload) ≡ 8 + length payload
unfolding packet_of
length-packet payload = length-append (reply_header (8 + length payload)) payload ∙ ap (λ (n : ℕ). n + length payload) (length-reply-header (8 + length payload))
