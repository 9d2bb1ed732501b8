-- `response::put::put_error` meets its contract. Assumes nothing.
use Rattle.response.proofs.Writing.{low-be, counted-low}
use Rattle.wire.specs.Fields.{word, raw, flat}
use native.Mathlib.Omega.{arith}
use mathlib.Core.Path.{◌≡◌, ap}
use lib.ListN.{length}
use Rattle.wire.proofs.Puts.{put_as}
use Prim.Native.Nat.{ℕ, ◌+◌, ◌%◌}
use Rattle.wire.specs.Le.{le}
use mathlib.Core.List.{[], ◌∷◌}
use Rattle.wire.proofs.Puts.{then-fields}
use Rattle.wire.specs.Be.{be}
use Rattle.text.specs.Surrogates.{utf8_length}
use Rattle.token.specs.Tokens.{message_length}
use Rattle.response.proofs.put.put_error.Goals as goal

pub returns : goal.returns
unfolding flat le message_length
returns c = let m = c.args.text.now in
    let size : be 2 ((14 + length m % 65536) % 65536) ≡ be 2 (message_length m [] []) = low-be 2 _ (message_length m [] []) (omega arith) in
    let count = ap (λ (n : ℕ). flat (word 2 (n % 65536) ∷ raw m ∷ [])) c.utf8_length-count.ensures in
    let tail = word 1 0 ∷ word 1 0 ∷ word 4 1 ∷ [] in
    then-fields (word 1 0xAA ∷ raw (be 2 (message_length m [] [])) ∷ word 4 50000 ∷ word 1 1 ∷ word 1 16 ∷ []) (word 2 (utf8_length m) ∷ raw m ∷ tail)
    (rw size at c.put_error_head.ensures)
    (then-fields (word 2 (utf8_length m) ∷ raw m ∷ []) tail
    (counted-low (utf8_length m) m (put_as c.put_text.ensures count)) c.put_slice.ensures)
