-- What answers a client that connects: PRELOGIN (MS-TDS 2.2.6.5), LOGINACK (2.2.7.14) with the ENVCHANGEs after it
-- (2.2.7.9), features (FEATUREEXTACK, 2.2.7.11) and FEDAUTHINFO (2.2.7.12). Rests on wire's fields and token's texts.
use Rattle.std.specs.Prelude.{ℕ, ◌+◌, Bool, true, false, cond, List, [], ◌∷◌, length, drop}
use Rattle.wire.specs.Le.{le_at}
use Rattle.wire.specs.Be.{be}
use Rattle.wire.specs.Fields.{Field, word, raw, flat}
use Rattle.token.specs.Tokens.{b_varchar}

-- fields after their length in k bytes
abbrev pub counted : ℕ → List Field → List Field → List Field
counted k body fs = word k (length (flat body)) ∷ raw (flat body) ∷ fs

-- ENVCHANGE: what changes, its new value and its old one
abbrev pub env_change : List Field → List Field → List Field
env_change body fs = word 1 0xE3 ∷ counted 2 body fs

-- ---- PRELOGIN

-- an option: its token, and offset and length of its data, big-endian
abbrev pub option : ℕ → ℕ → ℕ → List Field → List Field
option token offset size fs = word 1 token ∷ raw (be 2 offset) ∷ raw (be 2 size) ∷ fs

-- VERSION's data: 16.0.0.0
abbrev pub version : List Field → List Field
version fs = word 1 16 ∷ word 1 0 ∷ raw (be 2 0) ∷ raw (be 2 0) ∷ fs

-- ENCRYPTION's data: ENCRYPT_ON or ENCRYPT_NOT_SUP
abbrev pub encryption : Bool → ℕ
encryption e = cond e 0x01 0x02

-- VERSION, ENCRYPTION and, where it is supported, FEDAUTHREQUIRED; the terminator; their data
abbrev pub prelogin : Bool → Bool → List Field
prelogin e false = option 0x00 11 6 (option 0x01 17 1 (word 1 0xFF ∷ version (word 1 (encryption e) ∷ [])))
prelogin e true =
    option 0x00 16 6 (option 0x01 22 1 (option 0x06 23 1 (word 1 0xFF ∷ version (word 1 (encryption e) ∷ word 1 0x01 ∷ []))))

-- ---- LOGINACK

-- the units of characters under 100
unfoldable pub wide : List ℕ → List ℕ
wide [] = []
wide (c ∷ cs) = c ∷ 0 ∷ wide cs

-- MockTdsServer, master and 4096
abbrev pub program : List ℕ
program = wide (0x4D ∷ 0x6F ∷ 0x63 ∷ 0x6B ∷ 0x54 ∷ 0x64 ∷ 0x73 ∷ 0x53 ∷ 0x65 ∷ 0x72 ∷ 0x76 ∷ 0x65 ∷ 0x72 ∷ [])

abbrev pub master : List ℕ
master = wide (0x6D ∷ 0x61 ∷ 0x73 ∷ 0x74 ∷ 0x65 ∷ 0x72 ∷ [])

abbrev pub packet_size : List ℕ
packet_size = wide (0x34 ∷ 0x30 ∷ 0x39 ∷ 0x36 ∷ [])

-- LOGINACK of interface 1, TDS version 7.4 (big-endian) and program version 16.0.0; ENVCHANGEs of the collation, as the
-- Rust writes its bytes, of the database and of the packet size
unfoldable pub login_ack_token : List ℕ
login_ack_token =
    flat
    (word 1 0xAD ∷ counted 2 (word 1 0x01 ∷ raw (be 4 0x74000004) ∷ b_varchar program (word 1 16 ∷ word 1 0 ∷ word 2 0 ∷ []))
    (env_change (word 1 7 ∷ word 1 5 ∷ word 4 0x09040000 ∷ word 1 0xD0 ∷ word 1 0 ∷ [])
    (env_change (word 1 1 ∷ b_varchar master (word 1 0 ∷ []))
    (env_change (word 1 4 ∷ b_varchar packet_size (b_varchar packet_size [])) []))))

-- ---- features and FEDAUTH

-- a feature that is acknowledged, from id and data: the id, and the data after its length
abbrev pub feature : List ℕ → List Field → List Field
feature p fs = word 1 (le_at 1 p) ∷ word 4 (length (drop 1 p)) ∷ raw (drop 1 p) ∷ fs

-- an option of FEDAUTHINFO: its id, and length and offset of its text
abbrev pub info_option : ℕ → ℕ → ℕ → List Field → List Field
info_option id size offset fs = word 1 id ∷ word 4 size ∷ word 4 offset ∷ fs

-- two options, STSURL and SPN, of texts of these sizes; offsets count from the number of options on
abbrev pub info_options : ℕ → ℕ → List Field → List Field
info_options sts spn fs = word 4 2 ∷ info_option 0x01 sts 22 (info_option 0x02 spn (22 + sts) fs)

-- FEDAUTHINFO: the options and their texts
abbrev pub fedauth_info : List ℕ → List ℕ → List Field
fedauth_info sts spn = word 1 0xEE ∷ counted 4 (info_options (length sts) (length spn) (raw sts ∷ raw spn ∷ [])) []
