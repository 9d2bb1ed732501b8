-- The type byte of a packet header (MS-TDS 2.2.3.1.1; the types of the Rust's `PacketType`). Rests on nothing.
use Rattle.std.specs.Prelude.{ℕ, cond, List, [], ◌∷◌, eqb, Option, Some, None}
use Rattle.packet.specs.declared.PacketType.{PacketType}
use Rattle.packet.specs.declared.PacketType.TheVariants.{SqlBatch, FedAuthToken, PreLogin, TabularResult, Attention, Login7, RpcRequest, TransactionManager}

-- the byte that stands for a packet type
abbrev pub byte_of : PacketType → ℕ
byte_of SqlBatch = 0x01
byte_of FedAuthToken = 0x08
byte_of PreLogin = 0x12
byte_of TabularResult = 0x04
byte_of Attention = 0x06
byte_of Login7 = 0x10
byte_of RpcRequest = 0x03
byte_of TransactionManager = 0x0E

-- all packet types
unfoldable pub types : List PacketType
types = SqlBatch ∷ FedAuthToken ∷ PreLogin ∷ TabularResult ∷ Attention ∷ Login7 ∷ RpcRequest ∷ TransactionManager ∷ []

-- of some packet types the one that a byte stands for
unfoldable pub type_in : List PacketType → ℕ → Option PacketType
type_in [] b = None
type_in (t ∷ ts) b = cond (eqb b (byte_of t)) (Some t) (type_in ts b)

-- the packet type that a byte stands for
unfoldable pub type_of : ℕ → Option PacketType
type_of b = type_in types b
