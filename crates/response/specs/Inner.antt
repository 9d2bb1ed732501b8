-- What the private functions of this crate promise each other: sizes, and what is known of a list before it is written.
-- Rests on script's records.
use Rattle.std.specs.Prelude.{ℕ, Result, Ok, Err, ◌+◌, ◌-◌, min, cond, List, [], ◌∷◌, length, eqb}
use Rattle.script.specs.Records.{Item, item, cut}

-- a size as far as it counts: one over 65,535 refuses, however large it is
abbrev pub capped : ℕ → ℕ
capped n = min n 65536

-- how many bytes a route's record becomes, whatever the port
unfoldable pub route_size : List ℕ → ℕ → List ℕ → ℕ
route_size host k p = cond (eqb k 0x11) (13 + length host) (15 + length host + length p)

-- how many bytes a feature's record becomes
unfoldable pub feature_size : List ℕ → ℕ
feature_size p = 5 + (length p - 1)

-- how many bytes a list's records become, by what each does
unfoldable pub all_sizes : (ℕ → List ℕ → ℕ) → List Item → ℕ
all_sizes size [] = 0
all_sizes size (cut ∷ rs) = all_sizes size rs
all_sizes size (item k p ∷ rs) = size k p + all_sizes size rs

-- what is known of a list with a refusal, or 0, and a size: the refusal, or the size as far as it counts
unfoldable pub measured : ℕ → ℕ → Result ℕ ℕ
measured fault size = cond (eqb fault 0) (Ok (capped size)) (Err fault)
