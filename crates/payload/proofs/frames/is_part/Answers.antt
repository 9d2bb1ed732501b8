-- `payload::frames::is_part` meets its contract. Assumes nothing.
use mathlib.Core.Path.{◌≡◌, refl}
use lib.Dec.{eqb}
use denote.Enum.Bare.{sameb}
use Rattle.packet.specs.contracts.PacketType.{the_type}
use Rattle.packet.specs.declared.PacketType.{PacketType}
use Rattle.packet.specs.declared.PacketType.TheVariants.{SqlBatch, FedAuthToken, PreLogin, TabularResult, Attention, Login7, RpcRequest, TransactionManager}
use Rattle.packet.specs.Types.{byte_of}
use Rattle.payload.specs.Packets.{is_part}
use Rattle.payload.proofs.frames.is_part.Goals as goal

of-reply : (t : PacketType) → sameb the_type t TabularResult ≡ eqb (byte_of t) 0x04
of-reply SqlBatch = refl
of-reply FedAuthToken = refl
of-reply PreLogin = refl
of-reply TabularResult = refl
of-reply Attention = refl
of-reply Login7 = refl
of-reply RpcRequest = refl
of-reply TransactionManager = refl

pub returns : goal.returns
unfolding is_part
returns c = rw (c.eq.ensures, of-reply c.args.header.packet_type)
