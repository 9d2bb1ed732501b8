-- How the export that joins packets ends, by what joining answered. Assumes nothing.
use Prim.Native.Nat.{ℕ}
use mathlib.Core.Path.{◌≡◌, sym}
use mathlib.Core.List.{List}
use lib.ListN.{length}
use borrow.Author.Tests.{lt-ltb, le-ltb}
use Rattle.wire.proofs.Cases.{split}
use Rattle.std.specs.Prelude.{Result, Ok, Err}
use Rattle.payload.specs.Packets.{Stop, bad, broken, over, packets_in, payload_of, stop_of}
use Rattle.payload.specs.Join.{joined_by, joined_of, buffer_by, joined_buffer}
use Rattle.station.specs.Answer.{Outcome, answers, refuses}
use Rattle.station.specs.Packets.{payload_outcome, payload_call}
use Rattle.station.proofs.Ends.{ByCallee, lent-enough, lent-few, lent_any}

-- what an answer of `join` says of the export's outcome, of the lent buffer and of what is left in it
abbrev Said : Outcome → (payload buf left : List ℕ) → Result ℕ ℕ → Type 0
Said o payload buf left (Ok n) = ByCallee o buf left (answers n payload)
Said o payload buf left (Err n) = ByCallee o buf left (refuses n)

said : (s : Stop) (p buf : List ℕ)
    → Said (payload_outcome s p) p buf (buffer_by (joined_by s (length p) (length buf)) p buf) (joined_by s (length p) (length buf))
said over p buf =
    split (length p) (length buf)
    (λ h. rw (le-ltb (length buf) (length p) h) (lent-enough (length p) buf p h))
    (λ h. rw (lt-ltb (length buf) (length p) h) (lent-few (length p) buf p h))
said broken p buf = lent_any _ buf
said (bad n) p buf = lent_any n buf

-- the same of what it answered and left
pub joined : (l buf : List ℕ) {j : Result ℕ ℕ} {left : List ℕ} → joined_of l (length buf) ≡ j → left ≡ joined_buffer l buf
    → Said (payload_call l) (payload_of (packets_in l)) buf left j
unfolding joined_of joined_buffer payload_call
joined l buf e w = rw (sym e, w) (said (stop_of (packets_in l)) (payload_of (packets_in l)) buf)
