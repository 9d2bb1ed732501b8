-- Transactions: the type of a transaction manager request (MS-TDS 2.2.6.9: ALL_HEADERS, then the 2-byte RequestType), and the
-- transaction descriptor header (MS-TDS 2.2.5.3.2) of a request. Rests on Headers and wire's numbers.
use Rattle.std.specs.Prelude.{ℕ, zero, suc, ◌-◌, List, [], ◌∷◌, Bool, cond, ◌&&◌, ◌||◌, leb, ltb, eqb, length, take, drop, Option, Some, None, Result, Ok, Err}
use Rattle.refusals.specs.Numbers.{headers_too_small, no_transaction_type}
use Rattle.wire.specs.Le.{le_at}
use Rattle.request.specs.Headers.{all_headers}
use Rattle.request.specs.declared.HeadersFault.{HeadersFault}
use Rattle.request.specs.declared.HeadersFault.TheVariants.{Short, TooSmall, PastEnd}
use Rattle.request.specs.declared.Descriptor.{Descriptor}

-- the type after the headers; 35 where these cannot be, 10 where there is no type
abbrev pub type_after : List ℕ → Result ℕ HeadersFault → Result ℕ ℕ
type_after body (Err Short) = Err no_transaction_type
type_after body (Err TooSmall) = Err headers_too_small
type_after body (Err PastEnd) = Err no_transaction_type
type_after body (Ok n) = cond (ltb (length body - n) 2) (Err no_transaction_type) (Ok (le_at 2 (drop n body)))

-- the type of a transaction manager request
unfoldable pub transaction_request : List ℕ → Result ℕ ℕ
transaction_request body = type_after body (all_headers body)

-- a header whose 4-byte length and 2-byte type are not whole, or whose length n is under 6 or past the block
abbrev pub broken : ℕ → List ℕ → Bool
broken n header = ltb (length header) 6 || (ltb n 6 || ltb (length header) n)

-- a transaction descriptor header: type 2, and of 18 bytes or more. The Rust passes over a shorter one
abbrev pub is_descriptor : ℕ → List ℕ → Bool
is_descriptor n header = eqb (le_at 2 (drop 4 header)) 2 && leb 18 n

-- The first transaction descriptor header of a block, whose first bytes are the rest of the header before and are passed over. A header
-- is its 4-byte length, which counts itself, its 2-byte type and its data: here the 8-byte descriptor and the 4-byte count of outstanding
-- requests. A broken header ends the block.
unfoldable pub descriptor_in : ℕ → List ℕ → Option Descriptor
descriptor_in rest [] = None
descriptor_in (suc rest) (b ∷ l) = descriptor_in rest l
descriptor_in zero (b ∷ l) =
    let header = b ∷ l in
    let n = le_at 4 header in
    cond (broken n header) None
    (cond (is_descriptor n header) (Some (record { descriptor = le_at 8 (drop 6 header); count = le_at 4 (drop 14 header) }))
    (descriptor_in (n - 1) l))

-- the headers of a request stand after the block's length
abbrev pub descriptor_after : List ℕ → Result ℕ HeadersFault → Option Descriptor
descriptor_after body (Err fault) = None
descriptor_after body (Ok n) = descriptor_in 0 (take (n - 4) (drop 4 body))

-- the transaction descriptor and the count of outstanding requests of a request; none is an answer
unfoldable pub transaction_descriptor : List ℕ → Option Descriptor
transaction_descriptor body = descriptor_after body (all_headers body)
