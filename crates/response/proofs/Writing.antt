-- Laws of runs of writers: the end of a run, numbers by their low bytes, and an ENVCHANGE that routes. Assumes nothing.
use Prim.Native.Nat.{ℕ, ◌+◌, ◌%◌, ◌^◌}
use mathlib.Core.Path.{◌≡◌, sym, ap, ◌∙◌}
use mathlib.Core.List.{List, [], ◌∷◌, ◌++◌, append_assoc, append-nil, reverse}
use native.Mathlib.Omega.{arith}
use lib.ListN.{length}
use Rattle.wire.specs.Le.{le}
use Rattle.wire.specs.Be.{be}
use Rattle.wire.specs.Fields.{Field, word, raw, flat}
use Rattle.wire.specs.Puts.{Puts}
use Rattle.wire.specs.declared.writer.Writer.{Writer}
use Rattle.wire.proofs.Le.{le-mod}
use Rattle.wire.proofs.Puts.{then, ended, put_as}
use Rattle.wire.proofs.Fields.{size_word, size-raw}
use Rattle.response.specs.Login.{counted, info_options, fedauth_info}
use Rattle.response.specs.Routing.{routing}

-- the last of a run
pub alone : {l m : Writer} {xs : List ℕ} → Puts l xs m → Puts l (xs ++ []) m
alone w = then w (ended w)

-- numbers with the same k low bytes
pub low_same : (k a b : ℕ) → a % 256 ^ k ≡ b % 256 ^ k → le k a ≡ le k b
low_same k a b e = sym (le-mod k a) ∙ ap (le k) e ∙ le-mod k b

pub low : (k a b : ℕ) {l m : Writer} → a % 256 ^ k ≡ b % 256 ^ k → Puts l (le k a) m → Puts l (le k b) m
low k a b e w = put_as w (low_same k a b e)

pub low-be : (k a b : ℕ) → a % 256 ^ k ≡ b % 256 ^ k → be k a ≡ be k b
unfolding be
low-be k a b e = ap reverse (low_same k a b e)

-- a text after the low bytes of its count
pub counted-low : (n : ℕ) (t : List ℕ) {l m : Writer} → Puts l (flat (word 2 (n % 65536) ∷ raw t ∷ [])) m → Puts l (flat (word 2 n ∷ raw t ∷ [])) m
unfolding flat
counted-low n t w = put_as w (rw (le-mod 2 n))

-- FEDAUTHINFO: what stands before its texts, and the texts
pub informed : (sts spn : List ℕ) → flat (word 1 0xEE ∷ word 4 (22 + length sts + length spn) ∷ info_options (length sts) (length spn) []) ++ (sts ++ spn) ≡ flat (fedauth_info sts spn)
unfolding flat
informed sts spn =
    let body : List Field = info_options (length sts) (length spn) (raw sts ∷ raw spn ∷ []) in
    let long : length (flat body) ≡ 22 + length sts + length spn = simp (size_word, size-raw) (omega arith) in
    rw long (simp (append_assoc, append-nil))

-- an ENVCHANGE that routes: what stands before its value, the value, and no old value
pub routed : (type n : ℕ) (value : List Field) {l m p q : Writer} → n % 65536 ≡ length (flat value) % 65536
    → Puts l (flat (word 1 0xE3 ∷ word 2 (5 + n) ∷ word 1 type ∷ word 2 n ∷ [])) m → Puts m (flat value) p → Puts p (le 2 0) q
    → Puts l (flat (routing type value)) q
unfolding flat
routed type n value e w v u =
    let body : List Field = word 1 type ∷ counted 2 value (word 2 0 ∷ []) in
    let long : length (flat body) ≡ 5 + length (flat value) = simp (size_word, size-raw) (omega arith) in
    let first : le 2 (5 + n) ≡ le 2 (length (flat body)) = low_same 2 (5 + n) (length (flat body)) (omega arith) in
    let second : le 2 n ≡ le 2 (length (flat value)) = low_same 2 n (length (flat value)) e in
    put_as (then w (then v u)) (simp (append_assoc, append-nil, first, second))
