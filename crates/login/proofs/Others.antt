-- A feature that says nothing of a login leaves it as it is. Assumes nothing.
use mathlib.Core.Path.{◌≡◌, refl, sym}
use mathlib.Core.Bool.{Bool, true, false, false≢true, ◌||◌}
use mathlib.Core.List.{List}
use Prim.Native.Nat.{ℕ}
use lib.Dec.{eqb}
use Rattle.login.specs.declared.Feature.{Feature}
use Rattle.login.specs.declared.Login.{Login}
use Rattle.login.specs.Rules.{session_after, has_options, library_after, workflow_after, token_after, version_after, user_agent_after}
use Rattle.login.specs.Login.{after}

none_of : (a b c d : Bool) → (a || b || c || d) ≡ false → (a ≡ false) × (b ≡ false) × (c ≡ false) × (d ≡ false)
none_of true b c d e = absurd (false≢true (sym e))
none_of false true c d e = absurd (false≢true (sym e))
none_of false false true d e = absurd (false≢true (sym e))
none_of false false false true e = absurd (false≢true (sym e))
none_of false false false false e = (refl, refl, refl, refl)

pub left-as-it-is : (s : List ℕ) (l : Login) (f : Feature) → (eqb f.id 0x01 || eqb f.id 0x02 || eqb f.id 0x09 || eqb f.id 0x10) ≡ false → l ≡ after s l f
unfolding after session_after has_options library_after workflow_after token_after version_after user_agent_after
left-as-it-is s l f h =
    let n = none_of (eqb f.id 0x01) (eqb f.id 0x02) (eqb f.id 0x09) (eqb f.id 0x10) h in
    rw (n.0, n.1, n.2, n.3) refl
