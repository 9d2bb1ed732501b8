-- What the exports that read a login answer. Rests on the definitions of `login`.
use Rattle.std.specs.Prelude.{ℕ, cond, List, [], ◌∷◌, length, ltb, Option, Some, None, Result, Ok, Err}
use Rattle.wire.specs.declared.Part.{Part}
use Rattle.login.specs.Login.{parse_login7, ids_after, database_part}
use Rattle.login.specs.declared.Login.{Login}
use Rattle.login.specs.declared.Read.{Read}
use Rattle.station.specs.Answer.{Outcome, answers, answers_part, refuses}

-- a byte, and 256 where there is none
abbrev pub byte_slot : Option ℕ → ℕ
byte_slot (Some n) = n
byte_slot None = 256

-- a text's part, and where there is none a start of 2^64 - 1, which no text has, and a length of 0
abbrev pub part_slots : Option Part → Part
part_slots (Some p) = p
part_slots None = record { start = 0xFFFF_FFFF_FFFF_FFFF; len = 0 }

-- the 13 slots of a login: fedauth, library, workflow, classification version, session; then start and length of token, server, user agent,
-- database
unfoldable pub login_slots : Login → List ℕ
login_slots l =
    let token = part_slots l.access_token_bytes in
    let server = part_slots l.server_name in
    let agent = part_slots l.user_agent in
    let database = part_slots l.database in
    cond l.has_fedauth 1 0
    ∷ l.fedauth_library
    ∷ byte_slot l.fedauth_workflow
    ∷ byte_slot l.data_classification_version
    ∷ cond l.session 1 0
    ∷ token.start ∷ token.len
    ∷ server.start ∷ server.len
    ∷ agent.start ∷ agent.len
    ∷ database.start ∷ database.len
    ∷ []

-- the number of feature ids with the login's slots
abbrev pub login_outcome : Result Read ℕ → Outcome
login_outcome (Ok r) = answers r.ids (login_slots r.login)
login_outcome (Err n) = refuses n

-- where room bytes are lent for the feature ids
unfoldable pub login_call : List ℕ → (room : ℕ) → Outcome
login_call s room = login_outcome (parse_login7 s room)

-- what stands in the bytes lent for the feature ids afterwards: too few slots leave them
unfoldable pub ids_left : (body ids out : List ℕ) → List ℕ
ids_left body ids out = cond (ltb (length out) 13) ids (ids_after body ids)

-- the database to open: 0 with the part of the login, or where it has none 1 with the whole fallback
abbrev pub database_outcome : Option Part → List ℕ → Outcome
database_outcome (Some p) fallback = answers_part 0 p
database_outcome None fallback = answers_part 1 (record { start = 0; len = length fallback })

unfoldable pub database_call : (body fallback : List ℕ) → Outcome
database_call body fallback = database_outcome (database_part body) fallback
