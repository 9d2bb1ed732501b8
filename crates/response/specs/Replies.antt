-- What each `build_` function sends, in the order of the Rust: the refusal before its length counts, and the bytes.
-- Functions that wrap their tokens in a packet say `packet_of`, the others hand out bare tokens. Rests on all others.
use Rattle.std.specs.Prelude.{ℕ, Option, Some, None, Bool, true, false, cond, not, List, [], ◌∷◌, ◌++◌, eqb}
use Rattle.wire.specs.Be.{be}
use Rattle.wire.specs.Fields.{Field, word, raw, flat}
use Rattle.text.specs.Surrogates.{utf8_length}
use Rattle.packet.specs.Reply.{packet_of}
use Rattle.script.specs.Records.{Item, item, records}
use Rattle.token.specs.Tokens.{done, message, token_bytes, message_length}
use Rattle.token.specs.Names.{name_fault}
use Rattle.response.specs.Answer.{Reply, reply, first_of}
use Rattle.text.specs.Arguments.{text_fault}
use Rattle.response.specs.Login.{env_change, prelogin, login_ack_token, fedauth_info}
use Rattle.response.specs.Routing.{plain_route, database_route}
use Rattle.response.specs.Lists.{routes_fault, routes_bytes, features_fault, feature_ext_ack}

-- PRELOGIN with encryption and FEDAUTH or without
unfoldable pub prelogin_reply : Bool → Bool → Reply
prelogin_reply e f = reply 0 (packet_of (flat (prelogin e f)))

-- the acknowledgement of one feature, by its id and data
unfoldable pub feature_ack : List ℕ → List ℕ
feature_ack p = feature_ext_ack (item 0x13 p ∷ [])

unfoldable pub fedauth_ack_reply : Reply
fedauth_ack_reply = reply 0 (feature_ack (0x02 ∷ []))

-- data classification of a version, enabled
unfoldable pub classification_ack_reply : ℕ → Reply
classification_ack_reply v = reply 0 (feature_ack (0x09 ∷ v ∷ 0x01 ∷ []))

-- the features of a list of records
unfoldable pub features_reply : List ℕ → Reply
features_reply list = reply (features_fault (records list)) (feature_ext_ack (records list))

unfoldable pub routing_ack_reply : ℕ → Reply
routing_ack_reply enabled = reply 0 (feature_ack (0x0F ∷ enabled ∷ []))

-- the FEDAUTH acknowledgement and FEDAUTHINFO
unfoldable pub challenge_reply : List ℕ → List ℕ → Reply
challenge_reply sts spn =
    reply (first_of (text_fault sts ∷ text_fault spn ∷ [])) (packet_of (feature_ack (0x02 ∷ []) ++ flat (fedauth_info sts spn)))

unfoldable pub fedauth_info_reply : List ℕ → List ℕ → Reply
fedauth_info_reply sts spn = reply (first_of (text_fault sts ∷ text_fault spn ∷ [])) (flat (fedauth_info sts spn))

unfoldable pub login_ack_reply : Reply
login_ack_reply = reply 0 login_ack_token

-- every DONE has CurCmd C1, SELECT
unfoldable pub done_reply : ℕ → ℕ → Reply
done_reply status rows = reply 0 (token_bytes (done status 0xC1 rows))

-- DONE_ATTN
unfoldable pub attention_reply : Reply
attention_reply = reply 0 (packet_of (token_bytes (done 0x0020 0xC1 0)))

-- the transaction descriptor
abbrev pub descriptor : List ℕ
descriptor = 1 ∷ 0 ∷ 0 ∷ 0 ∷ 0 ∷ 0 ∷ 0 ∷ 0 ∷ []

-- ENVCHANGE of a request type: 5 begin, with the descriptor as new value; 7 commit and 8 rollback, with it as old value;
-- none of any other
abbrev pub transaction : ℕ → List Field
transaction t =
    cond (eqb t 5) (env_change (word 1 8 ∷ word 1 8 ∷ raw descriptor ∷ word 1 0 ∷ []) [])
    (cond (eqb t 7) (env_change (word 1 9 ∷ word 1 0 ∷ word 1 8 ∷ raw descriptor ∷ []) [])
    (cond (eqb t 8) (env_change (word 1 10 ∷ word 1 0 ∷ word 1 8 ∷ raw descriptor ∷ []) []) []))

unfoldable pub transaction_reply : ℕ → Reply
transaction_reply t = reply 0 (flat (transaction t) ++ token_bytes (done 0x0000 0xC1 0))

-- number, state, severity, message, server, procedure, line
unfoldable pub info_reply : ℕ → ℕ → ℕ → List ℕ → List ℕ → List ℕ → ℕ → Reply
info_reply n s c m v p l =
    reply (first_of (text_fault m ∷ text_fault v ∷ text_fault p ∷ name_fault v ∷ name_fault p ∷ [])) (token_bytes (message 0xAB n s c m v p l))

-- an ERROR of state 1 and line 1 without names, and its DONE: 0003, more and error, leading; 0002, error, terminal
unfoldable pub error_tokens_reply : ℕ → ℕ → ℕ → List ℕ → Reply
error_tokens_reply status n c m =
    reply (text_fault m) (token_bytes (message 0xAA n 1 c m [] [] 1) ++ token_bytes (done status 0xC1 0))

-- the ERROR of an error reply, 50000 of state 1 and severity 16, as the Rust writes it: the length is big-endian, and the
-- text's count is that of its bytes as UTF-8, modulo 65,536 (MS-TDS 2.2.7.10: little-endian, and units)
abbrev pub error_fields : List ℕ → List Field
error_fields m =
    word 1 0xAA ∷ raw (be 2 (message_length m [] [])) ∷ word 4 50000 ∷ word 1 1 ∷ word 1 16
    ∷ word 2 (utf8_length m) ∷ raw m ∷ word 1 0 ∷ word 1 0 ∷ word 4 1 ∷ []

unfoldable pub error_reply : List ℕ → Reply
error_reply m = reply (text_fault m) (packet_of (flat (error_fields m) ++ token_bytes (done 0x0000 0xC1 0)))

unfoldable pub route_reply : List ℕ → ℕ → Reply
route_reply host port = reply (text_fault host) (flat (plain_route host port))

unfoldable pub database_route_reply : List ℕ → ℕ → List ℕ → Reply
database_route_reply host port database =
    reply (first_of (text_fault host ∷ text_fault database ∷ [])) (flat (database_route host port database))

-- an acknowledgement of enhanced routing, or none
abbrev pub routing_ack : Option ℕ → List ℕ
routing_ack (Some b) = feature_ack (0x0F ∷ b ∷ [])
routing_ack None = []

-- the login's acknowledgement where it is sent, the routes' ENVCHANGEs with the acknowledgement of enhanced routing before
-- or after them, DONE
unfoldable pub routing_tokens : List ℕ → ℕ → List Item → Bool → Option ℕ → Bool → List ℕ
routing_tokens host port routes login ack before =
    cond login login_ack_token [] ++ cond before (routing_ack ack) [] ++ routes_bytes host port routes
    ++ cond (not before) (routing_ack ack) [] ++ token_bytes (done 0x0000 0xC1 0)

unfoldable pub routing_login_reply : List ℕ → ℕ → List Item → Bool → Option ℕ → Bool → Reply
routing_login_reply host port routes login ack before =
    reply (first_of (text_fault host ∷ routes_fault routes ∷ [])) (packet_of (routing_tokens host port routes login ack before))

-- one plain route, after the login's acknowledgement
unfoldable pub routing_reply : List ℕ → ℕ → Reply
routing_reply host port = routing_login_reply host port (item 0x11 [] ∷ []) true None false
