-- What was read up to the input's end, or past the most bytes of a script, tells what the whole input is answered. Assumes nothing.
use Rattle.std.proofs.Common.{◌≡◌, ℕ, ◌≤◌, ◌<◌, List, length, take, sym, ◌∙◌, ap, subst, refl, arith, length-take-le, length-append, Result, Ok, Err, OnOk, Option, Some, None, IfSome}
use borrow.Author.Tests.{le-leb, lt-leb}
use Rattle.std.specs.Io.KnownBytes.{Appends, Consumes, IsAtEnd}
use Rattle.std.proofs.KnownBytes.{Consumes-whole}
use Rattle.wire.specs.Part.{part_bytes}
use Rattle.reply.specs.Answer.{line_of, reply_to, answer_to}

short : (s : List ℕ) → length s ≤ 65536 → answer_to s ≡ reply_to s
unfolding answer_to
short s h = rw (le-leb (length s) 65536 h) refl

long : (s : List ℕ) → 65536 < length s → answer_to s ≡ line_of 18
unfolding answer_to
long s h = rw (lt-leb (length s) 65536 h) refl

-- the input ended
pub ended : {T E : Type 0} (r : Result T E) (known left a b : Option (List ℕ)) (buf p : List ℕ) (n : ℕ) → n ≤ 65536 → length buf ≡ 65537
    → Consumes known left (take n buf) → (n < length buf → IsAtEnd left) → p ≡ part_bytes buf (record { start = 0; len = n })
    → OnOk r (Appends a b (reply_to p)) → OnOk r (IfSome known (λ s. Appends a b (answer_to s)))
unfolding part_bytes
ended (Ok x) known left a b buf p n h l c e q w =
    let P : List ℕ → Type 0 = λ s. Appends a b (answer_to s) in
    let A : List ℕ → Type 0 = λ xs. Appends a b xs in
    let size = length-take-le n buf (omega arith) in
    let same : reply_to p ≡ answer_to (take n buf) = ap reply_to q ∙ sym (short (take n buf) (omega (arith, size))) in
    Consumes-whole known left (take n buf) P c (e (omega arith)) (subst A same w)
ended (Err x) known left a b buf p n h l c e q w = tt

-- it is longer than a script
pub past : {T E : Type 0} (r : Result T E) (known left a b : Option (List ℕ)) (buf : List ℕ) (n : ℕ) → 65536 < n → n ≤ length buf
    → Consumes known left (take n buf) → OnOk r (Appends a b (line_of 18)) → OnOk r (IfSome known (λ s. Appends a b (answer_to s)))
past (Err x) known left a b buf n h l c w = tt
past (Ok x) None left a b buf n h l c w = tt
past (Ok x) (Some xs) None a b buf n h l c w = absurd c
past (Ok x) (Some xs) (Some ys) a b buf n h l c w =
    let A : List ℕ → Type 0 = λ zs. Appends a b zs in
    let size = length-take-le n buf l in
    let all = ap length c ∙ length-append (take n buf) ys in
    subst A (sym (long xs (omega (arith, size, all)))) w
