-- The laws of `Puts`. Assumes nothing.
use mathlib.Core.Path.{◌≡◌, refl, sym, ◌∙◌}
use mathlib.Core.List.{List, [], ◌++◌}
use Prim.Native.Nat.{ℕ, ◌≤◌}
use lib.ListN.{length}
use Rattle.wire.proofs.Over as over
use Rattle.wire.specs.declared.writer.Writer.{Writer}
use Rattle.wire.specs.Puts.{Puts}
use Rattle.wire.specs.Fields.{Field, flat}
use Rattle.wire.proofs.Fields.{flat-cat}

-- one write after another is one write
pub then : {l m n : Writer} {xs ys : List ℕ} → Puts l xs m → Puts m ys n → Puts l (xs ++ ys) n
then w v = record { same = v.same ∙ w.same; wrote = over.then w.wrote v.wrote }

-- the bytes, said another way
pub put_as : {l m : Writer} {xs ys : List ℕ} → Puts l xs m → xs ≡ ys → Puts l ys m
put_as w e = record { same = w.same; wrote = over.wrote_as w.wrote e }

-- nothing more is written after a write: under `unfolding flat` a run of writers is `then w1 (then w2 (.. (then wn (ended wn))))`
pub ended : {l m : Writer} {xs : List ℕ} → Puts l xs m → Puts m [] m
ended w = record { same = refl; wrote = over.ended w.wrote }

-- fields put after fields
pub then-fields : (fs gs : List Field) {l m n : Writer} → Puts l (flat fs) m → Puts m (flat gs) n → Puts l (flat (fs ++ gs)) n
then-fields fs gs w v = put_as (then w v) (sym (flat-cat fs gs))

-- the place after a write is in the buffer, and so nothing more can be put there
pub place_in : {l m : Writer} {xs : List ℕ} → Puts l xs m → m.at ≤ length m.buf.now
place_in w = over.place_in w.wrote

pub put_nothing : (m : Writer) → m.at ≤ length m.buf.now → Puts m [] m
put_nothing m h = record { same = refl; wrote = over.wrote_nothing m.buf.now m.at h }

-- ---- a run of writes that is not over

-- With xs still to be put by the writer m, ys are put by the writer l: whoever puts xs there has put ys here
abbrev pub Owes : Writer → List ℕ → Writer → List ℕ → Type 0
Owes l ys m xs = (n : Writer) → Puts m xs n → Puts l ys n

-- a part of what is owed was put
pub owes-less : (l : Writer) (ys : List ℕ) (m : Writer) (xs rest : List ℕ) {k : Writer} {part : List ℕ} → Owes l ys m xs → xs ≡ part ++ rest → Puts m part k → Owes l ys k rest
owes-less l ys m xs rest f e w n v = f n (put_as (then w v) (sym e))

-- the last of it was
pub owes-last : (l : Writer) (ys : List ℕ) (m : Writer) (xs : List ℕ) {k : Writer} {part : List ℕ} → Owes l ys m xs → xs ≡ part → Puts m part k → Puts l ys k
owes-last l ys m xs f e w = f _ (put_as w (sym e))
