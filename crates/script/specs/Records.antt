-- Records: a 4-byte payload length, a 2-byte kind and the payload (document 01, 'The script'). Scripts, lists of routes
-- and lists of features are all records. Rests on wire.
-- docs/FORMATS.md, 'A record', has it in words.
use Rattle.std.specs.Prelude.{ℕ, zero, suc, ◌+◌, List, [], ◌∷◌, cond, length, take, drop, leb}
use Rattle.wire.specs.Le.{le_at}
use Rattle.script.specs.declared.Found.{Found}
use Rattle.script.specs.declared.Found.TheVariants.{Record, Cut, End}

-- a record's kind and its payload; a record that is cut is the last
pub data Item : Type 0 where
  item : (kind : ℕ) (payload : List ℕ) → Item
  cut : Item

-- The records of some bytes, of which the first n, the payload of the record before, are passed over.
unfoldable pub parse : ℕ → List ℕ → List Item
unfolding le_at
parse (suc n) [] = []
parse (suc n) (b ∷ l) = parse n l
parse zero [] = []
parse zero (a ∷ []) = cut ∷ []
parse zero (a ∷ b ∷ []) = cut ∷ []
parse zero (a ∷ b ∷ c ∷ []) = cut ∷ []
parse zero (a ∷ b ∷ c ∷ d ∷ []) = cut ∷ []
parse zero (a ∷ b ∷ c ∷ d ∷ e ∷ []) = cut ∷ []
parse zero (a ∷ b ∷ c ∷ d ∷ e ∷ f ∷ l) =
    let n = le_at 4 (a ∷ b ∷ c ∷ d ∷ []) in
    cond (leb n (length l)) (item (le_at 2 (e ∷ f ∷ [])) (take n l) ∷ parse n l) (cut ∷ [])

-- the records of some bytes
unfoldable pub records : List ℕ → List Item
unfolding parse
records l = parse 0 l

-- the first of the records from a place on, whose payload starts after its head of 6 bytes
unfoldable pub first_at : ℕ → List Item → Found
first_at at [] = End
first_at at (cut ∷ rs) = Cut
first_at at (item k p ∷ rs) = Record k (at + 6) (length p)

-- what stands at a place: the first of the records that its bytes are
unfoldable pub record_at : List ℕ → ℕ → Found
unfolding first_at
record_at s at = first_at at (records (drop at s))
