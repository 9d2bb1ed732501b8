-- The shape of a reply in packets (document 02, 2026-02): all but the last are full, none has an empty payload, numbers rise
-- from 1, and the end bit is on the last only. Rests on Cut.
use Rattle.std.specs.Prelude.{ℕ, ◌+◌, ◌≤◌, ◌≡◌, true, false, List, [], ◌∷◌, ◌++◌, length}
use Rattle.packet.specs.Cut.{part_bytes, packets_of}

-- the packets that have some payloads: numbers rise by one, and the end bit is on the last only
unfoldable pub numbered : ℕ → List (List ℕ) → List ℕ
numbered number [] = []
numbered number (p ∷ []) = part_bytes number true p
numbered number (p ∷ q ∷ ps) = part_bytes number false p ++ numbered (number + 1) (q ∷ ps)

-- of these payloads all but the last have size - 8 bytes, and so the packets size bytes; the last has one byte at least and
-- no more than the others
unfoldable pub Full : ℕ → List (List ℕ) → Type 0
Full size [] = ⊥
Full size (p ∷ []) = (1 ≤ length p) × (8 + length p ≤ size)
Full size (p ∷ q ∷ ps) = (8 + length p ≡ size) × Full size (q ∷ ps)

-- payloads one after another
abbrev pub joined : List (List ℕ) → List ℕ
joined [] = []
joined (p ∷ ps) = p ++ joined ps

-- bytes are packets of a size with this shape, and their payloads joined are p
pub record InShape (size : ℕ) (p bytes : List ℕ) : Type 0 where
  pub payloads : List (List ℕ)
  pub numbers : bytes ≡ numbered 1 payloads
  pub full : Full size payloads
  pub whole : joined payloads ≡ p

-- the packets of every payload that is not empty are in shape, at every size that has room for payload
abbrev pub Shaped : Type 0
Shaped = (size : ℕ) (p : List ℕ) → 9 ≤ size → 1 ≤ length p → InShape size p (packets_of size p)
