-- Lists of records: routes of kind 0x0011 (plain, empty) and 0x0012 (database text), feature acknowledgements of kind
-- 0x0013 (id, data) (document 01, 'Other replies'). Rests on script's records, Login and Routing.
-- docs/FORMATS.md, 'Lists of records', has it in words.
use Rattle.std.specs.Prelude.{ℕ, cond, List, [], ◌∷◌, ◌++◌, length, eqb}
use Rattle.refusals.specs.Numbers.{kind_wrong, record_cut, shape_wrong, text_wrong}
use Rattle.wire.specs.Even.{even}
use Rattle.wire.specs.Fields.{word, raw, flat}
use Rattle.text.specs.Surrogates.{well_formed}
use Rattle.script.specs.Records.{Item, item, cut}
use Rattle.response.specs.Login.{feature}
use Rattle.response.specs.Routing.{plain_route, database_route}

-- a list's refusal, or 0: the first bad record's, by the refusals of records; 11 where one is cut
unfoldable pub first_fault : (ℕ → List ℕ → ℕ) → List Item → ℕ
first_fault fault [] = 0
first_fault fault (cut ∷ rs) = record_cut
first_fault fault (item k p ∷ rs) = cond (eqb (fault k p) 0) (first_fault fault rs) (fault k p)

-- the bytes of a list's records, one after another, by what each becomes
unfoldable pub all_bytes : (ℕ → List ℕ → List ℕ) → List Item → List ℕ
all_bytes bytes [] = []
all_bytes bytes (cut ∷ rs) = all_bytes bytes rs
all_bytes bytes (item k p ∷ rs) = bytes k p ++ all_bytes bytes rs

-- ---- routes

-- the refusal of a route's record, or 0: 12 another kind, 13 a plain route with a payload or an odd database text, 14 a
-- database text that is not UTF-16
unfoldable pub route_fault : ℕ → List ℕ → ℕ
route_fault k p =
    cond (eqb k 0x11) (cond (eqb (length p) 0) 0 shape_wrong)
    (cond (eqb k 0x12) (cond (even (length p)) (cond (well_formed p) 0 text_wrong) shape_wrong) kind_wrong)

-- what a route's record becomes: a route to a host and port, or to a database there
unfoldable pub route_bytes : List ℕ → ℕ → ℕ → List ℕ → List ℕ
route_bytes host port k p = cond (eqb k 0x11) (flat (plain_route host port)) (flat (database_route host port p))

abbrev pub routes_fault : List Item → ℕ
routes_fault rs = first_fault route_fault rs

abbrev pub routes_bytes : List ℕ → ℕ → List Item → List ℕ
routes_bytes host port rs = all_bytes (route_bytes host port) rs

-- ---- features

-- the refusal of a feature's record, or 0: 12 another kind, 13 no id
unfoldable pub feature_fault : ℕ → List ℕ → ℕ
feature_fault k p = cond (eqb k 0x13) (cond (eqb (length p) 0) shape_wrong 0) kind_wrong

-- what a feature's record becomes
unfoldable pub feature_bytes : List ℕ → List ℕ
feature_bytes p = flat (feature p [])

abbrev pub features_fault : List Item → ℕ
features_fault rs = first_fault feature_fault rs

abbrev pub features_bytes : List Item → List ℕ
features_bytes rs = all_bytes (λ k p. feature_bytes p) rs

-- FEATUREEXTACK of features, with its terminator
unfoldable pub feature_ext_ack : List Item → List ℕ
unfolding all_bytes feature_bytes
feature_ext_ack rs = flat (word 1 0xAE ∷ raw (features_bytes rs) ∷ word 1 0xFF ∷ [])
