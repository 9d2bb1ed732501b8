-- What is written is read back: a big-endian number of any width, a type's byte, a header, a reply's header. Assumes nothing.
use mathlib.Core.Path.{◌≡◌, refl, sym, ap, ◌∙◌}
use mathlib.Core.List.{List, [], ◌∷◌, ◌++◌, reverse, reverse-reverse, append-nil}
use Prim.Native.Nat.{ℕ, ◌+◌, ◌%◌, ◌^◌, ◌<◌, ◌≤◌}
use native.Mathlib.Nat.{mod-eq_of_lt, zero-add}
use native.Mathlib.Omega.{arith}
use lib.ListN.{length, length-append}
use Rattle.std.specs.Prelude.{Some, Ok}
use borrow.Author.Tests.{le-ltb}
use Rattle.wire.specs.Le.{le_at, le}
use Rattle.wire.specs.Be.{first, be_at, be}
use Rattle.wire.proofs.Le.{le-back}
use Rattle.wire.proofs.Be.{length-be}
use Rattle.packet.specs.declared.PacketType.{PacketType}
use Rattle.packet.specs.declared.PacketType.TheVariants.{SqlBatch, FedAuthToken, PreLogin, TabularResult, Attention, Login7, RpcRequest, TransactionManager}
use Rattle.packet.specs.declared.PacketHeader.{PacketHeader}
use Rattle.packet.specs.Types.{byte_of, type_of, types, type_in}
use Rattle.packet.specs.Header.{new_header, parsed_of, header_bytes}
use Rattle.packet.specs.Reply.{packet_of}
use Rattle.packet.proofs.Sizes.{length-header, reply-header}

-- the first bytes of a list that they make
first-at : (xs ys : List ℕ) → first (length xs) (xs ++ ys) ≡ xs
unfolding first
first-at [] ys = refl
first-at (x ∷ xs) ys = ap (λ (m : List ℕ). x ∷ m) (first-at xs ys)

pub be-back : (k v : ℕ) (rest : List ℕ) → be_at k (be k v ++ rest) ≡ v % 256 ^ k
unfolding be_at be
be-back k v rest =
    let e : first k (be k v ++ rest) ≡ be k v = rw (length-be k v) at (first-at (be k v) rest) in
    ap (λ (l : List ℕ). le_at k (reverse l)) e ∙ ap (le_at k) (reverse-reverse (le k v)) ∙ rw append-nil at (le-back k v [])

pub be-exact : (k v : ℕ) (rest : List ℕ) → v < 256 ^ k → be_at k (be k v ++ rest) ≡ v
be-exact k v rest h = be-back k v rest ∙ mod-eq_of_lt h

-- a type's byte stands for it
pub type-back : (t : PacketType) → type_of (byte_of t % 256) ≡ Some t
unfolding type_of types type_in
type-back SqlBatch = refl
type-back FedAuthToken = refl
type-back PreLogin = refl
type-back TabularResult = refl
type-back Attention = refl
type-back Login7 = refl
type-back RpcRequest = refl
type-back TransactionManager = refl

pub header-back : (h : PacketHeader) (rest : List ℕ)
    → h.status.0 < 256 → h.length < 65536 → h.spid < 65536 → h.packet_id < 256 → h.window < 256
    → parsed_of (header_bytes h ++ rest) ≡ Ok h
unfolding parsed_of header_bytes le be le_at
header-back h rest hs hl hd hi hw =
    let long : 8 ≤ length (header_bytes h ++ rest) = omega (arith, length-append (header_bytes h) rest, length-header h) in
    let last : List ℕ = h.packet_id ∷ h.window ∷ rest in
    simp (le-ltb _ 8 long, zero-add, type-back h.packet_type, mod-eq_of_lt hs, mod-eq_of_lt hi, mod-eq_of_lt hw)
    (rw (be-exact 2 h.length (be 2 h.spid ++ last) hl, be-exact 2 h.spid last hd))

-- of a packet that its length field can count
pub reply-back : (payload : List ℕ) → 8 + length payload < 65536
    → parsed_of (packet_of payload) ≡ Ok (new_header TabularResult (8 + length payload) 1)
unfolding packet_of
reply-back payload h =
    rw (sym (reply-header (8 + length payload)))
    (header-back (new_header TabularResult (8 + length payload) 1) payload (omega arith) h (omega arith) (omega arith) (omega arith))
