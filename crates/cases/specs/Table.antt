-- The cases of document 01 that are marked P ('Cases', 1 to 11; 1 to 3 as request 2026-03 changes them): one table of calls and what
-- they answer, and the statement that the definitions give these answers. Rests on the definitions of request, result and response that
-- answer the calls.
use Rattle.std.specs.Prelude.{◌≡◌, Option, Some, None, Result, Ok, Err, cond, List, [], ◌∷◌, ◌++◌, map, ℕ, eqb}
use Rattle.wire.specs.declared.Part.{Part}
use Rattle.wire.specs.Le.{le_at}
use Rattle.wire.specs.Be.{be}
use Rattle.wire.specs.Part.{part_bytes}
use Rattle.request.specs.Batch.{sql_batch}
use Rattle.request.specs.Transaction.{transaction_request, transaction_descriptor}
use Rattle.request.specs.FedAuth.{fed_auth_token}
use Rattle.request.specs.declared.Descriptor.{Descriptor}
use Rattle.emission.specs.Emission.{reply_of}
use Rattle.emission.specs.Refusal.{refusal_of}
use Rattle.response.specs.Answer.{Reply, reply}
use Rattle.response.specs.Replies.{attention_reply, transaction_reply, route_reply, error_reply}

-- a call with its arguments
pub data Call : Type 0 where
  script batch transaction descriptor token error : List ℕ → Call
  attention : Call
  transaction_done : ℕ → Call
  route : List ℕ → ℕ → Call

-- what it answers; of a part, where it starts and its bytes
pub data Answer : Type 0 where
  bytes : List ℕ → Answer
  part : ℕ → List ℕ → Answer
  type : ℕ → Answer
  found : (descriptor count : ℕ) → Answer
  none : Answer
  refused : ℕ → Answer

-- bytes, or a refusal that is not 0
abbrev or_refused : ℕ → List ℕ → Answer
or_refused n xs = cond (eqb n 0) (bytes xs) (refused n)

abbrev part_of : List ℕ → Part → Answer
part_of s p = part p.start (part_bytes s p)

abbrev of_reply : Reply → Answer
of_reply (reply n xs) = or_refused n xs

-- a part, or a refusal
abbrev of_part : List ℕ → Result Part ℕ → Answer
of_part s (Ok p) = part_of s p
of_part s (Err n) = refused n

abbrev of_request : Result ℕ ℕ → Answer
of_request (Ok n) = type n
of_request (Err n) = refused n

abbrev of_descriptor : Option Descriptor → Answer
of_descriptor (Some d) = found d.descriptor d.count
of_descriptor None = none

-- a call's answer by the definitions that the contracts of the functions name
unfoldable pub answer : Call → Answer
answer (script s) = or_refused (refusal_of s) (reply_of s)
answer (batch s) = of_part s (sql_batch s)
answer (transaction s) = of_request (transaction_request s)
answer (descriptor s) = of_descriptor (transaction_descriptor s)
answer (token s) = of_part s (fed_auth_token s)
answer (error s) = of_reply (error_reply s)
answer attention = of_reply attention_reply
answer (transaction_done n) = of_reply (transaction_reply n)
answer (route s n) = of_reply (route_reply s n)

-- `be n 0x..` are n bytes in the order of their hexadecimal digits. Of any value are the five collation bytes a to e of case 2, and
-- the eight bytes f to m and the four n to q of case 8
unfoldable pub table : (a b c d e : ℕ) (f g h i j k l m : ℕ) (n o p q : ℕ) → List (Call × Answer)
table a b c d e f g h i j k l m n o p q =
    let eight : List ℕ = f ∷ g ∷ h ∷ i ∷ j ∷ k ∷ l ∷ m ∷ [] in
    let four : List ℕ = n ∷ o ∷ p ∷ q ∷ [] in
    -- 1: a bare set
    (script (be 6 0x00000000_0100), bytes (be 24 0x0401001800000100_810000_FD1000C1000000000000000000))
    -- 2: an Int column "n", a row of 7
    ∷ (
      script (be 13 0x00000000_0100_08000000_0200_03 ++ (a ∷ b ∷ c ∷ d ∷ e ∷ be 19 0x6E00_00000000_0400_05000000_0500_03_07000000)),
      bytes (be 41 0x0401002900000100_8101000000000000002604016E00_D10407000000_FD1000C1000100000000000000),
    )
    -- 3: two bare sets
    ∷ (script (be 12 0x00000000_0100_00000000_0100), bytes (be 40 0x0401002800000100_810000_FD1100C1000000000000000000_810000_FD1000C1000000000000000000))
    -- 4: an attention's reply
    ∷ (attention, bytes (be 21 0x0401001500000100_FD2000C1000000000000000000))
    -- 5: the replies to transactions of type 5 and 6, which are no packets
    ∷ (transaction_done 5, bytes (be 27 0xE30B0008080100000000000000_00_FD0000C1000000000000000000))
    ∷ (transaction_done 6, bytes (be 13 0xFD0000C1000000000000000000))
    -- 6: batches
    ∷ (batch (be 11 0x04000000_2000_4100_2000_7F), part 6 (be 2 0x4100))
    ∷ (batch (be 4 0x00000000), refused 35)
    ∷ (batch (be 4 0x05000000), refused 3)
    -- 7: transaction requests
    ∷ (transaction (be 6 0x04000000_0500), type 5)
    ∷ (transaction (be 5 0x04000000_05), refused 10)
    -- 8: headers with a descriptor of 8 bytes and a count of 4, and the same bytes with a first total of 23
    ∷ (descriptor (be 10 0x16000000_12000000_0200 ++ (eight ++ four)), found (le_at 8 eight) (le_at 4 four))
    ∷ (descriptor (be 10 0x17000000_12000000_0200 ++ (eight ++ four)), none)
    -- 9: an empty token
    ∷ (token (be 8 0x04000000_00000000), part 8 [])
    -- 10: a plain route to "a", 1433
    ∷ (route (be 2 0x6100) 1433, bytes (be 15 0xE30C00_14_0700_00_9905_0100_6100_0000))
    -- 11: the error reply of "é": length 0010, count 0200
    ∷ (error (be 2 0xE900), bytes (be 40 0x0401002800000100_AA_0010_50C30000_01_10_0200_E900_00_00_01000000_FD0000C1000000000000000000))
    ∷ []

-- every call of the table is answered as the table says, whatever the bytes a to q are
abbrev pub Cases : Type 0
Cases =
    (a b c d e : ℕ) (f g h i j k l m : ℕ) (n o p q : ℕ)
    → map (λ (row : Call × Answer). answer row.0) (table a b c d e f g h i j k l m n o p q)
    ≡ map (λ (row : Call × Answer). row.1) (table a b c d e f g h i j k l m n o p q)
