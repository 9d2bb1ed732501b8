-- Where a client is sent to: ENVCHANGE of type 20, routing, and 21, enhanced routing (MS-TDS 2.2.7.9). Rests on Login.
use Rattle.std.specs.Prelude.{ℕ, List, [], ◌∷◌}
use Rattle.wire.specs.Fields.{Field, word}
use Rattle.token.specs.Tokens.{us_varchar}
use Rattle.response.specs.Login.{counted, env_change}

-- where to: protocol TCP, the port, the server
abbrev pub target : List ℕ → ℕ → List Field → List Field
target host port fs = word 1 0x00 ∷ word 2 port ∷ us_varchar host fs

-- an ENVCHANGE of a routing type: the new value after its length, and no old one
abbrev pub routing : ℕ → List Field → List Field
routing type value = env_change (word 1 type ∷ counted 2 value (word 2 0 ∷ [])) []

-- a plain route, and one to a database
abbrev pub plain_route : List ℕ → ℕ → List Field
plain_route host port = routing 20 (target host port [])

abbrev pub database_route : List ℕ → ℕ → List ℕ → List Field
database_route host port database = routing 21 (target host port (us_varchar database []))
