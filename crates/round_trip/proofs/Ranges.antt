-- The payloads of a script of bytes are bytes. Assumes nothing.
use mathlib.Core.Bool.{Bool, true, false, cond}
use mathlib.Core.List.{List, [], ◌∷◌}
use Prim.Native.Nat.{ℕ, zero, suc}
use lib.Dec.{leb}
use lib.ListN.{length, take}
use Rattle.wire.specs.Le.{le_at}
use Rattle.script.specs.Records.{Item, item, cut, parse, records}
use Rattle.wire.specs.Octets.{Bytes}
use Rattle.wire.proofs.Octets.{bytes_drop, bytes_take}

-- every payload is bytes
abbrev pub Payloads : List Item → Type 0
Payloads [] = Unit {0}
Payloads (cut ∷ rs) = Unit {0}
Payloads (item k p ∷ rs) = Bytes p × Payloads rs

whole-or-cut : (b : Bool) (k : ℕ) (p : List ℕ) (rs : List Item) → Bytes p → Payloads rs → Payloads (cond b (item k p ∷ rs) (cut ∷ []))
whole-or-cut true k p rs h g = (h, g)
whole-or-cut false k p rs h g = tt

parsed : (n : ℕ) (l : List ℕ) → Bytes l → Payloads (parse n l)
unfolding parse
parsed (suc n) [] h = tt
parsed (suc n) (b ∷ l) h = parsed n l h.1
parsed zero [] h = tt
parsed zero (a ∷ []) h = tt
parsed zero (a ∷ b ∷ []) h = tt
parsed zero (a ∷ b ∷ c ∷ []) h = tt
parsed zero (a ∷ b ∷ c ∷ d ∷ []) h = tt
parsed zero (a ∷ b ∷ c ∷ d ∷ e ∷ []) h = tt
parsed zero (a ∷ b ∷ c ∷ d ∷ e ∷ f ∷ l) h =
    let n = le_at 4 (a ∷ b ∷ c ∷ d ∷ []) in
    let rest : Bytes l = bytes_drop 6 (a ∷ b ∷ c ∷ d ∷ e ∷ f ∷ l) h in
    whole-or-cut (leb n (length l)) (le_at 2 (e ∷ f ∷ [])) (take n l) (parse n l) (bytes_take n l rest) (parsed n l rest)

pub payloads : (s : List ℕ) → Bytes s → Payloads (records s)
unfolding records
payloads s h = parsed 0 s h
