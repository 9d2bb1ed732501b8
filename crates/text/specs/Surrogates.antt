-- Surrogates: when a text is UTF-16 (RFC 2781, 2.2), and what its units count as characters and as UTF-8 bytes
-- (document 01: the Rust's `chars().count()` and `str::len`). Rests on Units.
use Rattle.std.specs.Prelude.{ℕ, List, [], ◌∷◌, map, Bool, true, false, cond, ◌&&◌, ltb, length}
use Rattle.wire.specs.Even.{even}
use Rattle.text.specs.Units.{units_of, total, within}
use Rattle.text.specs.declared.Surrogate.{Surrogate}
use Rattle.text.specs.declared.Surrogate.TheVariants.{Plain, High, Low}

-- a high surrogate, the first of a pair
abbrev pub is_high : ℕ → Bool
is_high u = within 0xd800 0xdbff u

-- a low surrogate, the second of a pair
abbrev pub is_low : ℕ → Bool
is_low u = within 0xdc00 0xdfff u

-- what a unit is
unfoldable pub surrogate_of : ℕ → Surrogate
surrogate_of u = cond (is_high u) High (cond (is_low u) Low Plain)

-- surrogates in pairs: each high one directly before a low one, and no low one elsewhere
unfoldable pub paired : List Surrogate → Bool
paired [] = true
paired (Plain ∷ ks) = paired ks
paired (High ∷ []) = false
paired (High ∷ Plain ∷ ks) = false
paired (High ∷ High ∷ ks) = false
paired (High ∷ Low ∷ ks) = paired ks
paired (Low ∷ ks) = false

-- a high surrogate stands among them
unfoldable pub any_high : List Surrogate → Bool
any_high [] = false
any_high (Plain ∷ ks) = any_high ks
any_high (High ∷ ks) = true
any_high (Low ∷ ks) = any_high ks

-- what each unit of a text is
unfoldable pub surrogates : List ℕ → List Surrogate
surrogates s = map surrogate_of (units_of s)

-- a text that is UTF-16: an even number of bytes, and surrogates in pairs
unfoldable pub well_formed : List ℕ → Bool
well_formed s = even (length s) && paired (surrogates s)

-- a high surrogate stands in a text
unfoldable pub has_pair : List ℕ → Bool
has_pair s = any_high (surrogates s)

-- every unit but a low surrogate begins a character
unfoldable pub characters_in : ℕ → ℕ
characters_in u = cond (is_low u) 0 1

-- how many characters a text has
unfoldable pub characters : List ℕ → ℕ
characters s = total characters_in (units_of s)

-- a unit under 80 is one byte of UTF-8, under 800 two, half of a surrogate pair two of its four, any other three
unfoldable pub utf8_in : ℕ → ℕ
utf8_in u = cond (ltb u 0x80) 1 (cond (ltb u 0x800) 2 (cond (within 0xd800 0xdfff u) 2 3))

-- how many bytes a text has as UTF-8
unfoldable pub utf8_length : List ℕ → ℕ
utf8_length s = total utf8_in (units_of s)
