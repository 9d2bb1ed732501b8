-- A federated authentication token (MS-TDS 2.2.6.3: the 4-byte length of what follows, the 4-byte length of the token, the token).
-- The Rust knows no nonce after the token: a message with one has a wrong inner length. Rests on wire's numbers.
use Rattle.std.specs.Prelude.{ℕ, ◌+◌, List, cond, not, ltb, eqb, length, drop, Result, Ok, Err}
use Rattle.refusals.specs.Numbers.{inner_length, outer_length, token_too_short}
use Rattle.wire.specs.Le.{le_at}
use Rattle.wire.specs.declared.Part.{Part}

-- the token as a part of the message; 5 under 8 bytes, 6 outer length, 7 inner length
unfoldable pub fed_auth_token : List ℕ → Result Part ℕ
fed_auth_token payload =
    let outer = le_at 4 payload in
    let inner = le_at 4 (drop 4 payload) in
    cond (ltb (length payload) 8) (Err token_too_short)
    (cond (not (eqb (outer + 4) (length payload))) (Err outer_length)
    (cond (not (eqb outer (inner + 4))) (Err inner_length)
    (Ok (record { start = 8; len = inner }))))
