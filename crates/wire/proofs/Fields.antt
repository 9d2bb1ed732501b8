-- The laws of `flat`: its length, and fields before others. Assumes nothing.
use mathlib.Core.Path.{◌≡◌, refl, sym, ap, ◌∙◌}
use mathlib.Core.List.{List, [], ◌∷◌, ◌++◌, append_assoc}
use Prim.Native.Nat.{ℕ, ◌+◌}
use lib.ListN.{length, length-append}
use Rattle.wire.specs.Le.{le}
use Rattle.wire.specs.Over.{Wrote}
use Rattle.wire.proofs.Over.{then, wrote_as}
use Rattle.wire.specs.Fields.{Field, word, raw, flat}
use Rattle.wire.proofs.Le.{length-le}

pub size_none : length (flat []) ≡ 0
unfolding flat
size_none = refl

pub size_word : (k n : ℕ) (fs : List Field) → length (flat (word k n ∷ fs)) ≡ k + length (flat fs)
unfolding flat
size_word k n fs = length-append (le k n) (flat fs) ∙ ap (λ (m : ℕ). m + length (flat fs)) (length-le k n)

pub size-raw : (xs : List ℕ) (fs : List Field) → length (flat (raw xs ∷ fs)) ≡ length xs + length (flat fs)
unfolding flat
size-raw xs fs = length-append xs (flat fs)

pub flat-cat : (fs gs : List Field) → flat (fs ++ gs) ≡ flat fs ++ flat gs
unfolding flat
flat-cat [] gs = refl
flat-cat (word k n ∷ fs) gs = rw (flat-cat fs gs) (sym (append_assoc (le k n) (flat fs) (flat gs)))
flat-cat (raw xs ∷ fs) gs = rw (flat-cat fs gs) (sym (append_assoc xs (flat fs) (flat gs)))

-- fields written after fields
pub then-fields : (fs gs : List Field) {l m n : List ℕ} {at to end : ℕ} → Wrote l at (flat fs) m to → Wrote m to (flat gs) n end → Wrote l at (flat (fs ++ gs)) n end
then-fields fs gs w u = wrote_as (then w u) (sym (flat-cat fs gs))
