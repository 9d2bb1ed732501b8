-- What is sent is what is read: over packets whose payload is that of a well-formed list of tokens, of at most 65,527 bytes, a run
-- from the fresh position means exactly the tokens of the list, one a step, and the end from then on. Assumes nothing.
use mathlib.Core.Path.{◌≡◌, refl, ap₂}
use mathlib.Core.List.{List, [], ◌∷◌, map}
use Prim.Native.Nat.{ℕ, suc, ◌≤◌, ◌<◌}
use native.Mathlib.Omega.{arith}
use lib.ListN.{length}
use Rattle.token.specs.Tokens.{Token, EncodedCell, Value, states, token_bytes, joined}
use Rattle.payload.specs.Packets.{packets_in, payload_of, source_of}
use Rattle.payload.proofs.Joined.{Whole}
use Rattle.reader.specs.Positions.{fresh_position}
use Rattle.reader.specs.Reader.{answer_of}
use Rattle.reader.specs.Meaning.{meaning_of, kth}
use Rattle.reader.proofs.WellFormed.{WellFormed}
use Rattle.reader.proofs.Runs.{run-from, headed, starts, fresh-placed}

-- for every list of tokens, whatever packets have its bytes, and every k: the k-th answer of the run means what the k-th token states
pub reads-back : (l : List ℕ) (ts : List (Token EncodedCell)) → WellFormed ts → Whole (packets_in l) (joined (map token_bytes ts))
    → 1 ≤ length (joined (map token_bytes ts)) → length (joined (map token_bytes ts)) < 65536
    → (k : ℕ) → meaning_of (payload_of (packets_in l)) (answer_of k l fresh_position) ≡ kth (map states ts) k
unfolding source_of
reads-back l ts wf w some short k = let g = headed l ts w some short in run-from g (fresh-placed g) wf (starts l ts w) k

-- lists of which every k-th is the same are the same
pub same : (ts us : List (Token Value)) → ((k : ℕ) → kth ts k ≡ kth us k) → ts ≡ us
same [] [] e = refl
same [] (u ∷ us) e = let z : ◌≡◌ {A = ℕ} 0 1 = cc (e 0) in absurd (omega arith)
same (t ∷ ts) [] e = let z : ◌≡◌ {A = ℕ} 0 1 = cc (e 0) in absurd (omega arith)
same (t ∷ ts) (u ∷ us) e =
    let first : t ≡ u = cc (e 0) in
    ap₂ (λ (t : Token Value) (ts : List (Token Value)). t ∷ ts) first (same ts us (λ k. e (suc k)))
