-- A text without white space at its ends (document 01, 'Requests and logins'). Rests on Units, Space and wire's parts.
use Rattle.std.specs.Prelude.{ℕ, suc, ◌-◌, ◌*◌, List, [], ◌∷◌, reverse, cond, length, drop}
use Rattle.wire.specs.declared.Part.{Part}
use Rattle.text.specs.Units.{units_of}
use Rattle.text.specs.Space.{is_whitespace}

-- how many units at the start are white space
unfoldable pub leading : List ℕ → ℕ
leading [] = 0
leading (u ∷ us) = cond (is_whitespace u) (suc (leading us)) 0

-- how many units at the end are
unfoldable pub trailing : List ℕ → ℕ
trailing us = leading (reverse us)

-- how many units there are without those at the end
unfoldable pub kept : List ℕ → ℕ
kept us = length us - trailing us

-- the part of a text between its white space; an odd last byte is not in it. The start is trimmed first: of a text that
-- is all white space it is the empty part at the text's end
unfoldable pub trimmed : List ℕ → Part
trimmed s =
    let first = leading (units_of s) in
    record { start = 2 * first; len = 2 * kept (drop first (units_of s)) }
