-- What each feature does to a login (MS-TDS 2.2.6.4, FeatureOpt; document 01: as the Rust has it), value by value: was is the
-- value before the feature, x what the body holds of its data. Any other feature changes nothing. Rests on wire and text.
use Rattle.std.specs.Prelude.{ℕ, ◌+◌, ◌/◌, ◌%◌, List, [], ◌∷◌, Bool, cond, ◌&&◌, ◌||◌, length, drop, leb, ltb, eqb, Option, Some, None}
use Rattle.wire.specs.Le.{le_at}
use Rattle.text.specs.Surrogates.{well_formed}
use Rattle.wire.specs.declared.Part.{Part}
use Rattle.login.specs.declared.Feature.{Feature}

-- the first of some bytes
unfoldable pub byte_at : List ℕ → Option ℕ
byte_at [] = None
byte_at (b ∷ l) = Some b

-- data that do not run past the body's end
abbrev pub whole : Feature → List ℕ → Bool
whole f x = leb f.part.len (length x)

-- SESSIONRECOVERY (01): session state, where its length is not 0. The last such feature decides.
unfoldable pub session_after : Feature → Bool → Bool
session_after f was = cond (eqb f.id 0x01) (ltb 0 f.part.len) was

-- FEDAUTH (02) was there; in the Rust also one that runs past the end
abbrev pub fedauth_after : Feature → Bool → Bool
fedauth_after f was = eqb f.id 0x02 || was

-- a FEDAUTH whose data are whole and begin with options
unfoldable pub has_options : Feature → List ℕ → Bool
has_options f x = eqb f.id 0x02 && whole f x && ltb 0 (length x)

-- bFedAuthLibrary: bits 1 and 2 of the options, as the Rust has it; MS-TDS gives it seven bits
unfoldable pub library_in : List ℕ → ℕ
library_in x = le_at 1 x / 2 % 4

-- the library: every FEDAUTH with options sets it
unfoldable pub library_after : Feature → List ℕ → ℕ → ℕ
library_after f x was = cond (has_options f x) (library_in x) was

-- the workflow: every FEDAUTH of library 2 sets it to its second byte, and to none where it has no second byte
unfoldable pub workflow_after : Feature → List ℕ → Option ℕ → Option ℕ
workflow_after f x was = cond (has_options f x && eqb (library_in x) 2) (byte_at (drop 1 x)) was

-- The token: every FEDAUTH of library 1 that holds a length (4 bytes) and the token sets it. In the Rust its data have six
-- bytes at least, also where the token is empty, and what stands after the token is not looked at. No feature takes a token
-- back.
unfoldable pub token_after : Feature → List ℕ → Option Part → Option Part
token_after f x was =
    let n = le_at 4 (drop 1 x) in
    cond (has_options f x && eqb (library_in x) 1 && ltb 5 (length x) && leb (5 + n) (length x)) (Some (record { start = f.part.start + 5; len = n })) was

-- DATACLASSIFICATION (09): its version is the first byte, in the Rust also of data that run past the end, and none where that
-- byte is not there. A length of 0 leaves the version as it was.
unfoldable pub version_after : Feature → List ℕ → Option ℕ → Option ℕ
version_after f x was = cond (eqb f.id 0x09 && ltb 0 f.part.len) (byte_at x) was

-- USERAGENT (10): the data, where they are whole and UTF-16. Empty data are a text.
unfoldable pub user_agent_after : Feature → List ℕ → Option Part → Option Part
user_agent_after f x was = cond (eqb f.id 0x10 && whole f x && well_formed x) (Some f.part) was
