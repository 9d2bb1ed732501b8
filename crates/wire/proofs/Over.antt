-- The laws of `overwrite` and `Wrote`. Assumes nothing.
use mathlib.Core.Path.{◌≡◌, refl, sym, ap, ◌∙◌}
use mathlib.Core.List.{List, [], ◌∷◌, ◌++◌}
use Prim.Native.Nat.{ℕ, suc, ◌+◌, ◌-◌, ◌≤◌, ◌<◌, min}
use native.Mathlib.Nat.{suc-add, add-suc, add-zero}
use native.Mathlib.Omega.{arith}
use native.Mathlib.Numerals.{add-one}
use lib.ListN.{length, take, drop, set, get_or, length-set, length-append, take-append-drop}
use lib.Seq.{sets, sets-eq, set_out, take-suc, take_all, length-take-le, drop-set-lt}
use Rattle.wire.proofs.Cases.{split}
use Rattle.wire.specs.Over.{overwrite, PlaceAfter, Wrote}

pub length_over : (xs l : List ℕ) (at : ℕ) → length (overwrite l at xs) ≡ length l
unfolding overwrite
length_over [] l at = refl
length_over (x ∷ xs) l at = length_over xs (set l at x) (suc at) ∙ length-set l at x

-- one run after another is one run
pub over-cat : (xs ys l : List ℕ) (at : ℕ) → overwrite (overwrite l at xs) (at + length xs) ys ≡ overwrite l at (xs ++ ys)
unfolding overwrite
over-cat [] ys l at = rw add-zero
over-cat (x ∷ xs) ys l at = rw (add-suc, ← suc-add at (length xs)) (over-cat xs ys (set l at x) (suc at))

-- past the end nothing is written
pub over-out : (xs l : List ℕ) (at : ℕ) → length l ≤ at → overwrite l at xs ≡ l
unfolding overwrite
over-out [] l at h = refl
over-out (x ∷ xs) l at h = rw (set_out l at x h) (over-out xs l (suc at) (omega arith))

-- what stands after it is as it was
pub drop-over : (xs l : List ℕ) (at n : ℕ) → at + length xs ≤ n → drop n (overwrite l at xs) ≡ drop n l
unfolding overwrite
drop-over [] l at n h = refl
drop-over (x ∷ xs) l at n h = drop-over xs (set l at x) (suc at) n (omega arith) ∙ drop-set-lt n l at x (omega arith)

is-sets : (xs l : List ℕ) (at : ℕ) → overwrite l at xs ≡ sets l at xs
unfolding overwrite
is-sets [] l at = refl
is-sets (x ∷ xs) l at = is-sets xs (set l at x) (suc at)

-- with room for xs: what stood before it, xs, and what stood after it
pub over-eq : (xs l : List ℕ) (at : ℕ) → at + length xs ≤ length l → overwrite l at xs ≡ take at l ++ xs ++ drop (at + length xs) l
over-eq xs l at h = is-sets xs l at ∙ sets-eq xs l at h

-- the place after xs, or the end: what is written there is the same
over-min : (ys l : List ℕ) (at : ℕ) → overwrite l (min at (length l)) ys ≡ overwrite l at ys
over-min ys l at =
    split at (length l)
    (λ h. let e : min at (length l) ≡ at = omega arith in rw e)
    (λ h. let e : min at (length l) ≡ length l = omega arith in
    rw e (over-out ys l (length l) (omega arith) ∙ sym (over-out ys l at (omega arith))))

-- one write after another is one write
pub then : {l m n : List ℕ} {at to end : ℕ} {xs ys : List ℕ} → Wrote l at xs m to → Wrote m to ys n end → Wrote l at (xs ++ ys) n end
then {l} {m} {at = at} {to = to} {xs = xs} {ys = ys} w v =
    let long : length m ≡ length l = ap length w.0 ∙ length_over xs l at in
    let there : min (at + length xs) (length m) ≡ to = sym (w.1.place ∙ ap (min (at + length xs)) (sym long)) in
    let same : overwrite m to ys ≡ overwrite m (at + length xs) ys = rw there at (over-min ys m (at + length xs)) in
    let all : overwrite m (at + length xs) ys ≡ overwrite l at (xs ++ ys) = rw w.0 (over-cat xs ys l at) in
    (v.0 ∙ same ∙ all, record { place = omega (arith, v.1.place, w.1.place, length-append xs ys) })

-- the two things that a writer's contract says are what it did
pub wrote : {l m : List ℕ} {at to : ℕ} {xs : List ℕ} → m ≡ overwrite l at xs → PlaceAfter l at xs to → Wrote l at xs m to
wrote e p = (e, p)

-- the bytes, said another way
pub wrote_as : {l m : List ℕ} {at to : ℕ} {xs ys : List ℕ} → Wrote l at xs m to → xs ≡ ys → Wrote l at ys m to
wrote_as w e = rw (sym e) w

-- nothing was written, past the end
pub wrote-out : (l : List ℕ) (at : ℕ) (xs : List ℕ) {to : ℕ} → length l ≤ at → to ≡ length l → Wrote l at xs l to
wrote-out l at xs h e = (sym (over-out xs l at h), record { place = e ∙ omega arith })

-- what follows lies past the end
pub wrote-short : {l m : List ℕ} {at to : ℕ} {xs : List ℕ} (ys : List ℕ) → Wrote l at xs m to → length l ≤ at + length xs → Wrote l at (xs ++ ys) m to
wrote-short {l} {m} {at} {to} {xs} ys w h =
    let long : length m ≡ length l = ap length w.0 ∙ length_over xs l at in
    then w (wrote-out m to ys (omega (arith, w.1.place)) (omega (arith, w.1.place)))

-- one byte was stored
pub stored : (l : List ℕ) (at x : ℕ) {to : ℕ} → at < length l → to ≡ at + 1 → Wrote l at (x ∷ []) (set l at x) to
unfolding overwrite
stored l at x h e = (refl, record { place = omega arith })

-- two bytes, and four
pub stored-two : (l : List ℕ) (at a b : ℕ) → at + 2 ≤ length l → Wrote l at (a ∷ b ∷ []) (set (set l at a) (at + 1) b) (at + 2)
stored-two l at a b h =
    then (stored l at a (omega arith) refl) (stored (set l at a) (at + 1) b (omega (arith, length-set l at a)) (omega arith))

pub stored-four : (l : List ℕ) (at a b c d : ℕ) → at + 4 ≤ length l
    → Wrote l at (a ∷ b ∷ c ∷ d ∷ []) (set (set (set (set l at a) (at + 1) b) (at + 2) c) (at + 3) d) (at + 4)
stored-four l at a b c d h =
    let m : List ℕ = set (set l at a) (at + 1) b in
    let long : length m ≡ length l = length-set (set l at a) (at + 1) b ∙ length-set l at a in
    then (stored-two l at a b (omega arith))
    (then {to = at + 3} (stored m (at + 2) c (omega arith) (omega arith)) (stored (set m (at + 2) c) (at + 3) d (omega (arith, length-set m (at + 2) c)) (omega arith)))

-- one byte more of a run
pub over-more : (src l : List ℕ) (at i : ℕ) → i < length src → set (overwrite l at (take i src)) (at + i) (get_or src i 0) ≡ overwrite l at (take (i + 1) src)
unfolding overwrite
over-more src l at i h =
    let long : length (take i src) ≡ i = length-take-le i src (omega arith) in
    let e : overwrite (overwrite l at (take i src)) (at + length (take i src)) (get_or src i 0 ∷ []) ≡ overwrite l at (take i src ++ (get_or src i 0 ∷ [])) = over-cat (take i src) (get_or src i 0 ∷ []) l at in
    rw (add-one, take-suc src i 0 h) (rw long at e)

-- of a run, what has room was written
pub wrote-room : (src l m : List ℕ) (at n : ℕ) {to : ℕ} → n ≡ min (length src) (length l - at) → m ≡ overwrite l at (take n src)
    → to ≡ min (at + length src) (length l) → Wrote l at src m to
wrote-room src l m at n e w p =
    let long : length (take n src) ≡ n = length-take-le n src (omega arith) in
    let all : take n src ++ drop n src ≡ src = take-append-drop n src in
    let here : Wrote l at (take n src) m (min (at + length (take n src)) (length l)) = (w, record { place = refl }) in
    split (length l) (at + n)
    (λ h. ((wrote_as (wrote-short (drop n src) here (omega arith)) all).0, record { place = p }))
    (λ h. let whole : take n src ≡ src = take_all n src (omega arith) in (w ∙ rw whole, record { place = p }))

-- nothing more is written after a write: under `unfolding flat` a run of writers is `then w1 (then w2 (.. (then wn (ended wn))))`
pub ended : {l m : List ℕ} {at to : ℕ} {xs : List ℕ} → Wrote l at xs m to → Wrote m to [] m to
unfolding overwrite
ended {l} {m} {at} {xs = xs} w =
    let long : length m ≡ length l = ap length w.0 ∙ length_over xs l at in
    (refl, record { place = omega (arith, w.1.place) })

-- ---- a run of writes that is not over

-- With xs still to be written at the place to of the buffer m, ys are written at the place at of the buffer l: whoever
-- writes xs there has written ys here
abbrev pub Owes : List ℕ → ℕ → List ℕ → List ℕ → ℕ → List ℕ → Type 0
Owes l at ys m to xs = (n : List ℕ) (end : ℕ) → Wrote m to xs n end → Wrote l at ys n end

-- a part of what is owed was written
pub owes-less : (l : List ℕ) (at : ℕ) (ys m : List ℕ) (to : ℕ) (xs rest : List ℕ) {k : List ℕ} {next : ℕ} {part : List ℕ} → Owes l at ys m to xs → xs ≡ part ++ rest → Wrote m to part k next
    → Owes l at ys k next rest
owes-less l at ys m to xs rest f e w n end v = f n end (wrote_as (then w v) (sym e))

-- the last of it was
pub owes-last : (l : List ℕ) (at : ℕ) (ys m : List ℕ) (to : ℕ) (xs : List ℕ) {k : List ℕ} {next : ℕ} {part : List ℕ} → Owes l at ys m to xs → xs ≡ part → Wrote m to part k next → Wrote l at ys k next
owes-last l at ys m to xs f e w = f _ _ (wrote_as w (sym e))

-- nothing is owed any more
pub wrote_nothing : (m : List ℕ) (to : ℕ) → to ≤ length m → Wrote m to [] m to
unfolding overwrite
wrote_nothing m to h = (refl, record { place = omega arith })

-- a place that a writer answers lies in the buffer, which keeps its length
pub place_in : {l m : List ℕ} {at to : ℕ} {xs : List ℕ} → Wrote l at xs m to → to ≤ length m
place_in {l} {m} {at} {xs = xs} w =
    let long : length m ≡ length l = ap length w.0 ∙ length_over xs l at in
    omega (arith, w.1.place)
