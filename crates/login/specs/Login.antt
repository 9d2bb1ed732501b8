-- The login, its feature ids, and the database to open (document 01, 'Requests and logins'). Rests on Body, Features and Rules.
-- docs/FORMATS.md, 'Requests that are read', has it in words.
use Rattle.std.specs.Prelude.{ℕ, false, cond, length, ltb, Option, Some, None, Result, Ok, Err}
use mathlib.Core.List.{List, foldl}
use Rattle.refusals.specs.Numbers.{buffer_too_short}
use Rattle.wire.specs.Over.{overwrite}
use Rattle.wire.specs.Part.{part_bytes}
use Rattle.wire.specs.declared.Part.{Part}
use Rattle.login.specs.declared.Feature.{Feature}
use Rattle.login.specs.declared.Login.{Login}
use Rattle.login.specs.declared.Read.{Read}
use Rattle.login.specs.Body.{text_at}
use Rattle.login.specs.Features.{features, ids_of}
use Rattle.login.specs.Rules.{session_after, fedauth_after, library_after, workflow_after, token_after, version_after, user_agent_after}

-- the login's own database: the text of the entry ibDatabase, at 68
unfoldable pub database_part : List ℕ → Option Part
database_part s = text_at s 68

-- a login before its features: the server name, which is the text of the entry ibServerName, at 52, and the database
unfoldable pub head_of : List ℕ → Login
head_of s =
    record {
      has_fedauth = false;
      access_token_bytes = None;
      fedauth_library = 0;
      fedauth_workflow = None;
      server_name = text_at s 52;
      user_agent = None;
      data_classification_version = None;
      database = database_part s;
      session = false;
    }

-- a login after a feature
unfoldable pub after : List ℕ → Login → Feature → Login
after s l f =
    let x = part_bytes s f.part in
    record {
      has_fedauth = fedauth_after f l.has_fedauth;
      access_token_bytes = token_after f x l.access_token_bytes;
      fedauth_library = library_after f x l.fedauth_library;
      fedauth_workflow = workflow_after f x l.fedauth_workflow;
      server_name = l.server_name;
      user_agent = user_agent_after f x l.user_agent;
      data_classification_version = version_after f x l.data_classification_version;
      database = l.database;
      session = session_after f l.session;
    }

-- what a body says
unfoldable pub login_of : List ℕ → Login
login_of s = foldl (after s) (head_of s) (features s)

-- the answer where room bytes are lent for the feature ids: the login and their number, or 20
unfoldable pub parse_login7 : List ℕ → (room : ℕ) → Result Read ℕ
parse_login7 s room =
    let n = length (features s) in
    cond (ltb room n) (Err buffer_too_short) (Ok (record { login = login_of s; ids = n }))

-- what stands in the lent bytes afterwards: the ids in the first of them, or where there is no room what stood there
unfoldable pub ids_after : List ℕ → List ℕ → List ℕ
ids_after s old = cond (ltb (length old) (length (features s))) old (overwrite old 0 (ids_of (features s)))

-- a text of a body, or where it has none the lent default
abbrev pub text_or : Option Part → List ℕ → List ℕ → List ℕ
text_or (Some p) s other = part_bytes s p
text_or None s other = other

-- the database to open: the login's own, or where it has none the lent default
unfoldable pub database_of : List ℕ → List ℕ → List ℕ
database_of s other = text_or (database_part s) s other
