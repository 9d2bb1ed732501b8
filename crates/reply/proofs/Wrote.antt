-- What the reply builder left of a lent buffer of 65,535 bytes is what `reply` is to write. Assumes nothing.
use Rattle.std.proofs.Common.{Ok, Err, ◌≡◌, ℕ, ◌≤◌, List, length, take, sym, ◌∙◌, ap, refl, arith}
use Rattle.wire.specs.Part.{part_bytes}
use Rattle.emission.specs.Emission.{reply_of}
use Rattle.result.specs.Built.{room_of, built_of, buffer_of}
use Rattle.result.proofs.Fitted.{fitted-is, accepted-by, left-first}
use Rattle.reply.specs.Answer.{line_of, reply_to}

sized : (s : List ℕ) (m n : ℕ) → built_of s m ≡ Ok n → (length (reply_of s) ≡ n) × (n ≤ m)
unfolding built_of room_of
sized s m n e = let f = fitted-is (room_of s) m n e in ((accepted-by s (reply_of s) n f.0).1, f.1)

begins : (s b : List ℕ) (n : ℕ) → built_of s (length b) ≡ Ok n → take n (buffer_of s b) ≡ reply_of s
unfolding buffer_of
begins s b n e = let w = sized s (length b) n e in rw e (left-first (reply_of s) b n w.0 (omega (arith, w.0, w.1)))

pub wrote-reply : (s b m p : List ℕ) (n : ℕ) → length b ≡ 65535 → Ok n ≡ built_of s (length b) → m ≡ buffer_of s b
    → p ≡ part_bytes m (record { start = 0; len = n }) → p ≡ reply_to s
unfolding part_bytes reply_to
wrote-reply s b m p n l e k q =
    let built : built_of s 65535 ≡ Ok n = ap (built_of s) (sym l) ∙ sym e in
    rw built (q ∙ ap (take n) k ∙ begins s b n (sym e))

pub wrote-refusal : (s b : List ℕ) (f : ℕ) → length b ≡ 65535 → Err f ≡ built_of s (length b) → line_of f ≡ reply_to s
unfolding reply_to
wrote-refusal s b f l e =
    let built : built_of s 65535 ≡ Err f = ap (built_of s) (sym l) ∙ sym e in
    rw built refl
