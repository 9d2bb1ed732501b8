-- White space (document 01, 'Requests and logins'). Rests on Units.
use Rattle.std.specs.Prelude.{ℕ, List, [], ◌∷◌, Bool, false, ◌||◌}
use Rattle.text.specs.Units.{within}

-- units from the first number to the second
abbrev pub Span : Type 0
Span = ℕ × ℕ

-- document 01's list
abbrev pub blanks : List Span
blanks =
    (0x0009, 0x000d) ∷ (0x0020, 0x0020) ∷ (0x0085, 0x0085) ∷ (0x00a0, 0x00a0) ∷ (0x1680, 0x1680) ∷ (0x2000, 0x200a)
    ∷ (0x2028, 0x2029) ∷ (0x202f, 0x202f) ∷ (0x205f, 0x205f) ∷ (0x3000, 0x3000) ∷ []

-- a unit in one of some spans
unfoldable pub in_any : List Span → ℕ → Bool
in_any [] u = false
in_any (x ∷ xs) u = within x.0 x.1 u || in_any xs u

-- a unit that trimming removes
unfoldable pub is_whitespace : ℕ → Bool
is_whitespace u = in_any blanks u
