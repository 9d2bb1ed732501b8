-- How many bytes the replies' parts have. Assumes nothing.
use Prim.Native.Nat.{ℕ, ◌+◌}
use mathlib.Core.Path.{◌≡◌, refl, sym, ap}
use mathlib.Core.Bool.{Bool, true, false, cond, not}
use mathlib.Core.List.{List, [], ◌∷◌, ◌++◌}
use native.Mathlib.Omega.{arith}
use lib.ListN.{length, length-drop, length-append}
use native.Mathlib.Nat.{add-zero, zero-add}
use Rattle.token.proofs.Sizes.{size-done}
use Rattle.wire.specs.Le.{le, le_at}
use Rattle.wire.specs.Be.{be}
use Rattle.wire.specs.Fields.{flat}
use Rattle.wire.proofs.Be.{length-be}
use Rattle.script.specs.Records.{Item, item, cut}
use Rattle.wire.proofs.Fields.{size_word, size-raw}
use Rattle.token.specs.Tokens.{us_varchar}
use Rattle.response.specs.Login.{login_ack_token, wide, fedauth_info}
use Rattle.response.specs.Routing.{target, plain_route, database_route}
use Rattle.std.specs.Prelude.{Option, Some}
use Rattle.response.specs.Lists.{all_bytes, route_bytes, routes_bytes, feature_bytes, feature_ext_ack}
use Rattle.response.specs.Inner.{capped, route_size, feature_size, all_sizes}
use Rattle.response.proofs.Ends.{Same}
use Rattle.response.specs.Replies.{error_fields, feature_ack, routing_ack, routing_tokens}

pub size-nil : length (flat []) ≡ 0
unfolding flat
size-nil = refl

pub target-size : (host : List ℕ) (port : ℕ) → length (flat (target host port [])) ≡ 5 + length host
target-size host port = simp (size_word, size-raw, size-nil) (omega arith)

pub database-target-size : (host : List ℕ) (port : ℕ) (database : List ℕ) → length (flat (target host port (us_varchar database []))) ≡ 7 + length host + length database
database-target-size host port database = simp (size_word, size-raw, size-nil) (omega arith)

pub plain_size : (host : List ℕ) (port : ℕ) → length (flat (plain_route host port)) ≡ 13 + length host
plain_size host port = simp (size_word, size-raw, size-nil) (omega arith)

pub database-size : (host : List ℕ) (port : ℕ) (database : List ℕ) → length (flat (database_route host port database)) ≡ 15 + length host + length database
database-size host port database = simp (size_word, size-raw, size-nil) (omega arith)

pub feature-size : (p : List ℕ) → length (feature_bytes p) ≡ feature_size p
unfolding feature_bytes feature_size
feature-size p = simp (size_word, size-raw, size-nil, length-drop) (omega arith)

length-cond : (b : Bool) (x y : List ℕ) → length (cond b x y) ≡ cond b (length x) (length y)
length-cond true x y = refl
length-cond false x y = refl

pub route-size : (host : List ℕ) (port k : ℕ) (p : List ℕ) → length (route_bytes host port k p) ≡ route_size host k p
unfolding route_bytes route_size
route-size host port k p = simp (length-cond, plain_size, database-size)

-- a list's records by what each becomes
all-size : (bytes : ℕ → List ℕ → List ℕ) (size : ℕ → List ℕ → ℕ) → ((k : ℕ) (p : List ℕ) → length (bytes k p) ≡ size k p)
    → (rs : List Item) → length (all_bytes bytes rs) ≡ all_sizes size rs
unfolding all_bytes all_sizes
all-size bytes size f [] = refl
all-size bytes size f (cut ∷ rs) = all-size bytes size f rs
all-size bytes size f (item k p ∷ rs) = simp (length-append, f k p, all-size bytes size f rs)

routes-size : (host : List ℕ) (port : ℕ) (rs : List Item) → length (routes_bytes host port rs) ≡ all_sizes (route_size host) rs
routes-size host port rs = all-size (route_bytes host port) (route_size host) (route-size host port) rs

-- ---- tokens

pub error-size : (m : List ℕ) → length (flat (error_fields m)) ≡ 17 + length m
error-size m = simp (size_word, size-raw, size-nil, length-be) (omega arith)

pub info-size : (sts spn : List ℕ) → length (flat (fedauth_info sts spn)) ≡ 27 + length sts + length spn
info-size sts spn = simp (size_word, size-raw, size-nil) (omega arith)

pub login-ack-size : length login_ack_token ≡ 90
unfolding login_ack_token wide flat le be
login-ack-size = refl

-- the acknowledgement of features
features-size : (rs : List Item) → length (feature_ext_ack rs) ≡ 2 + all_sizes (λ k p. feature_size p) rs
unfolding feature_ext_ack
features-size rs = simp (size_word, size-raw, size-nil, all-size (λ k p. feature_bytes p) (λ k p. feature_size p) (λ k p. feature-size p) rs) (omega arith)

-- of FEDAUTH
pub fedauth-ack : 0xAE ∷ 0x02 ∷ 0 ∷ 0 ∷ 0 ∷ 0 ∷ 0xFF ∷ [] ≡ feature_ack (0x02 ∷ [])
unfolding feature_ack feature_ext_ack all_bytes feature_bytes flat le le_at
fedauth-ack = refl

fedauth-ack-size : length (feature_ack (0x02 ∷ [])) ≡ 7
fedauth-ack-size = sym (ap length fedauth-ack)

-- of enhanced routing
pub routing-ack-size : (b : ℕ) → length (routing_ack (Some b)) ≡ 8
unfolding feature_ack feature_ext_ack all_bytes feature_bytes flat le
routing-ack-size b = refl

-- sent before the routes or after them
acks-size : (before : Bool) (ack : List ℕ) → length (cond before ack []) + length (cond (not before) ack []) ≡ length ack
acks-size true ack = add-zero _
acks-size false ack = zero-add _

tokens-size : (host : List ℕ) (port : ℕ) (rs : List Item) (login : Bool) (ack : Option ℕ) (before : Bool)
    → length (routing_tokens host port rs login ack before) ≡ length (cond login login_ack_token []) + length (routing_ack ack) + all_sizes (route_size host) rs + 13
unfolding routing_tokens
tokens-size host port rs login ack before =
    simp (length-append, size-done) (omega (arith, acks-size before (routing_ack ack), routes-size host port rs))

-- ---- sizes that were worked out, as far as they count

pub features-same : (rs : List Item) (n : ℕ) → n ≡ capped (all_sizes (λ k p. feature_size p) rs) → Same (2 + n) (length (feature_ext_ack rs))
features-same rs n e = rw (features-size rs) (omega arith)

pub challenge-same : (sts spn : List ℕ) (n : ℕ) → n ≡ capped (length (flat (fedauth_info sts spn))) → Same (15 + n) (8 + length (feature_ack (0x02 ∷ []) ++ flat (fedauth_info sts spn)))
challenge-same sts spn n e = rw (length-append (feature_ack (0x02 ∷ [])) (flat (fedauth_info sts spn)), fedauth-ack-size) (omega arith)

pub routed-same : (host : List ℕ) (port : ℕ) (rs : List Item) (login : Bool) (ack : Option ℕ) (before : Bool) {m : ℕ} (n : ℕ)
    → m ≡ length (cond login login_ack_token []) + length (routing_ack ack) → n ≡ capped (all_sizes (route_size host) rs)
    → Same (8 + m + n + 13) (8 + length (routing_tokens host port rs login ack before))
routed-same host port rs login ack before n q e = rw (tokens-size host port rs login ack before) (omega arith)
