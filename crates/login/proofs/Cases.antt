-- Small logins: one table of bodies and answers, among them each rule on features with its smallest input, and the theorem
-- that the definitions give them. Assumes nothing.
use mathlib.Core.Path.{◌≡◌, refl}
use mathlib.Core.Bool.{cond}
use mathlib.Core.List.{List, [], ◌∷◌, ◌++◌, map}
use Prim.Native.Nat.{ℕ}
use lib.ListN.{length}
use lib.Dec.{eqb}
use Rattle.wire.specs.Le.{le, le_at}
use Rattle.wire.specs.Be.{be}
use Rattle.wire.specs.Over.{overwrite}
use Rattle.wire.specs.Part.{part_bytes}
use Rattle.text.specs.Units.{units_of}
use Rattle.text.specs.Surrogates.{surrogate_of, surrogates, paired, well_formed}
use Rattle.std.specs.Prelude.{Option, Some, None, Result, Ok, Err}
use Rattle.wire.specs.declared.Part.{Part}
use Rattle.login.specs.declared.Login.{Login}
use Rattle.login.specs.declared.Read.{Read}
use Rattle.login.specs.Body.{text_at, has_extension, extension, features_at}
use Rattle.login.specs.Features.{walk, features, ids_of}
use Rattle.login.specs.Rules.{byte_at, session_after, has_options, library_in, library_after, workflow_after, token_after, version_after, user_agent_after}
use Rattle.login.specs.Login.{database_part, head_of, after, login_of, parse_login7, ids_after, database_of}

-- a call: a body with the bytes lent for the ids, or with the default database
pub data Call : Type 0 where
  login database : (body lent : List ℕ) → Call

-- what a login has beside the defaults: parts by start and length
pub data Fact : Type 0 where
  fedauth session : Fact
  library workflow version : ℕ → Fact
  token server agent base : ℕ → ℕ → Fact

-- what a call answers: a login, the number of ids and what stands in the lent bytes; a refusal and those; the name of a database
pub data Told : Type 0 where
  reads : List Fact → ℕ → List ℕ → Told
  refuses : ℕ → List ℕ → Told
  opens : List ℕ → Told

abbrev is : Option ℕ → (ℕ → Fact) → List Fact
is (Some b) f = f b ∷ []
is None f = []

abbrev at : Option Part → (ℕ → ℕ → Fact) → List Fact
at (Some p) f = f p.start p.len ∷ []
at None f = []

abbrev facts : Login → List Fact
facts l =
    cond l.has_fedauth (fedauth ∷ []) []
    ++ at l.access_token_bytes token
    ++ cond (eqb l.fedauth_library 0) [] (library l.fedauth_library ∷ [])
    ++ is l.fedauth_workflow workflow
    ++ at l.server_name server
    ++ at l.user_agent agent
    ++ is l.data_classification_version version
    ++ at l.database base
    ++ cond l.session (session ∷ []) []

abbrev told : Result Read ℕ → List ℕ → Told
told (Ok r) ids = reads (facts r.login) r.ids ids
told (Err n) ids = refuses n ids

unfoldable pub answer : Call → Told
answer (login s lent) = told (parse_login7 s (length lent)) (ids_after s lent)
answer (database s lent) = opens (database_of s lent)

-- `be n 0x..` are n bytes in the order of their hexadecimal digits. A body of 60 bytes that has fExtension, and features
-- after it: ibExtension is 0, and there stands their offset.
abbrev with_features : List ℕ → List ℕ
with_features fs = be 4 0x3c000000 ++ be 24 0x10 ++ be 32 0 ++ fs

unfoldable pub table : List (Call × Told)
table =
    -- a server name needs 56 bytes
    (login (be 2 0x4100 ++ be 53 0x000001) (be 2 0xeeee), reads [] 0 (be 2 0xeeee))
    ∷ (login (be 2 0x4100 ++ be 54 0x0100) (be 2 0xeeee), reads (server 0 2 ∷ []) 0 (be 2 0xeeee))
    -- it ends within the body
    ∷ (login (be 56 0x1c00) (be 2 0xeeee), reads (server 0 56 ∷ []) 0 (be 2 0xeeee))
    ∷ (login (be 56 0x1d00) (be 2 0xeeee), reads [] 0 (be 2 0xeeee))
    -- and is UTF-16
    ∷ (login (be 2 0x00d8 ++ be 54 0x0100) (be 2 0xeeee), reads [] 0 (be 2 0xeeee))
    -- a database needs 72 bytes
    ∷ (login (be 2 0x4100 ++ be 69 0x01) (be 2 0xeeee), reads [] 0 (be 2 0xeeee))
    ∷ (login (be 2 0x4100 ++ be 70 0x0100) (be 2 0xeeee), reads (base 0 2 ∷ []) 0 (be 2 0xeeee))
    -- features need fExtension and 60 bytes, and may start anywhere
    ∷ (login (be 4 0x3c000000 ++ be 61 0x0100000000) (be 2 0xeeee), reads [] 0 (be 2 0xeeee))
    ∷ (login (be 28 0x10 ++ be 31 0) (be 2 0xeeee), reads [] 0 (be 2 0xeeee))
    ∷ (login (be 28 0x10 ++ be 32 0) (be 7 0xeeeeeeeeeeeeee), reads [] 6 (be 7 0x000000000000ee))
    -- too few bytes are lent
    ∷ (login (be 28 0x10 ++ be 32 0) (be 5 0xeeeeeeeeee), refuses 20 (be 5 0xeeeeeeeeee))
    -- the offset of the features is whole
    ∷ (login (be 28 0x10 ++ be 32 0x39000000) (be 2 0xeeee), reads [] 0 (be 2 0xeeee))
    -- an id counts once its five bytes are whole
    ∷ (login (with_features (be 4 0x02000000)) (be 2 0xeeee), reads [] 0 (be 2 0xeeee))
    ∷ (login (with_features (be 5 0x02ffffffff)) (be 2 0xeeee), reads (fedauth ∷ []) 1 (be 2 0x02ee))
    -- the terminator
    ∷ (login (with_features (be 10 0x00_00000000_ff_00000000)) (be 2 0xeeee), reads [] 1 (be 2 0x00ee))
    -- FEDAUTH past the end counts, and has no options
    ∷ (login (with_features (be 5 0x02_01000000)) (be 2 0xeeee), reads (fedauth ∷ []) 1 (be 2 0x02ee))
    -- two bits are the library
    ∷ (login (with_features (be 6 0x02_01000000_08)) (be 2 0xeeee), reads (fedauth ∷ []) 1 (be 2 0x02ee))
    ∷ (login (with_features (be 6 0x02_01000000_0e)) (be 2 0xeeee), reads (fedauth ∷ library 3 ∷ []) 1 (be 2 0x02ee))
    -- each with options sets the library
    ∷ (login (with_features (be 12 0x02_01000000_02_02_01000000_06)) (be 2 0xeeee), reads (fedauth ∷ library 3 ∷ []) 2 (be 2 0x0202))
    ∷ (login (with_features (be 11 0x02_01000000_02_02_00000000)) (be 2 0xeeee), reads (fedauth ∷ library 1 ∷ []) 2 (be 2 0x0202))
    -- and one of library 2 the workflow, to none where there is no second byte
    ∷ (login (with_features (be 13 0x02_02000000_0403_02_01000000_04)) (be 2 0xeeee), reads (fedauth ∷ library 2 ∷ []) 2 (be 2 0x0202))
    ∷ (login (with_features (be 13 0x02_02000000_0403_02_01000000_02)) (be 2 0xeeee), reads (fedauth ∷ library 1 ∷ workflow 3 ∷ []) 2 (be 2 0x0202))
    -- a token needs six bytes, be it empty
    ∷ (login (with_features (be 10 0x02_05000000_02_00000000)) (be 2 0xeeee), reads (fedauth ∷ library 1 ∷ []) 1 (be 2 0x02ee))
    ∷ (login (with_features (be 11 0x02_06000000_02_00000000_41)) (be 2 0xeeee), reads (fedauth ∷ token 70 0 ∷ library 1 ∷ []) 1 (be 2 0x02ee))
    -- it ends within the data
    ∷ (login (with_features (be 11 0x02_06000000_02_01000000_41)) (be 2 0xeeee), reads (fedauth ∷ token 70 1 ∷ library 1 ∷ []) 1 (be 2 0x02ee))
    ∷ (login (with_features (be 11 0x02_06000000_02_02000000_41)) (be 2 0xeeee), reads (fedauth ∷ library 1 ∷ []) 1 (be 2 0x02ee))
    -- and stays
    ∷ (login (with_features (be 16 0x02_06000000_02_00000000_41_02_00000000)) (be 2 0xeeee), reads (fedauth ∷ token 70 0 ∷ library 1 ∷ []) 2 (be 2 0x0202))
    ∷ (login (with_features (be 22 0x02_06000000_02_00000000_41_02_06000000_02_02000000_41)) (be 2 0xeeee), reads (fedauth ∷ token 70 0 ∷ library 1 ∷ []) 2 (be 2 0x0202))
    -- the classification version is the first byte that is there
    ∷ (login (with_features (be 5 0x09_01000000)) (be 2 0xeeee), reads [] 1 (be 2 0x09ee))
    ∷ (login (with_features (be 6 0x09_02000000_05)) (be 2 0xeeee), reads (version 5 ∷ []) 1 (be 2 0x09ee))
    ∷ (login (with_features (be 11 0x09_01000000_05_09_01000000)) (be 2 0xeeee), reads [] 2 (be 2 0x0909))
    ∷ (login (with_features (be 11 0x09_01000000_05_09_00000000)) (be 2 0xeeee), reads (version 5 ∷ []) 2 (be 2 0x0909))
    -- the last SESSIONRECOVERY decides
    ∷ (login (with_features (be 5 0x01_ffffffff)) (be 2 0xeeee), reads (session ∷ []) 1 (be 2 0x01ee))
    ∷ (login (with_features (be 11 0x01_01000000_00_01_00000000)) (be 2 0xeeee), reads [] 2 (be 2 0x0101))
    -- a user agent is a text, be it empty, and stays
    ∷ (login (with_features (be 11 0x10_00000000_10_01000000_41)) (be 2 0xeeee), reads (agent 65 0 ∷ []) 2 (be 2 0x1010))
    ∷ (login (with_features (be 12 0x10_00000000_10_02000000_00d8)) (be 2 0xeeee), reads (agent 65 0 ∷ []) 2 (be 2 0x1010))
    ∷ (login (with_features (be 13 0x10_02000000_4100_10_02000000_41)) (be 2 0xeeee), reads (agent 65 2 ∷ []) 2 (be 2 0x1010))
    -- and the last one counts
    ∷ (login (with_features (be 12 0x10_02000000_4100_10_00000000)) (be 2 0xeeee), reads (agent 72 0 ∷ []) 2 (be 2 0x1010))
    -- the database to open: the login's own, or the default
    ∷ (database (be 2 0x4100 ++ be 70 0x0100) (be 2 0x6d00), opens (be 2 0x4100))
    ∷ (database (be 2 0x00d8 ++ be 70 0x0100) (be 1 0x6d), opens (be 1 0x6d))
    ∷ (database [] [], opens [])
    ∷ []

pub cases : map (λ row. answer row.0) table ≡ map (λ row. row.1) table
unfolding table answer le le_at be overwrite part_bytes units_of surrogate_of surrogates paired well_formed text_at has_extension extension features_at walk features ids_of byte_at session_after has_options library_in library_after workflow_after token_after version_after user_agent_after database_part head_of after login_of parse_login7 ids_after database_of
cases = refl
