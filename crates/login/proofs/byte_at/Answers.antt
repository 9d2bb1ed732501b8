-- `login::byte_at` meets its contract. Assumes nothing.
use mathlib.Core.Path.{◌≡◌, refl, ◌∙◌}
use mathlib.Core.List.{List, [], ◌∷◌}
use Prim.Native.Nat.{ℕ, zero, suc}
use native.Mathlib.Omega.{arith}
use lib.ListN.{drop}
use Rattle.std.specs.List.{slice_get}
use Rattle.std.proofs.lemmas.Grind.{common_steps}
use Rattle.std.proofs.lemmas.Option.{gets}
use Rattle.login.specs.Rules.{byte_at}
use Rattle.login.proofs.byte_at.Goals as goal

first-at : (at : ℕ) (l : List ℕ) → slice_get l at ≡ byte_at (drop at l)
unfolding byte_at
first-at zero [] = refl
first-at zero (b ∷ l) = refl
first-at (suc n) [] = refl
first-at (suc n) (b ∷ l) = first-at n l

pub returns : goal.returns
returns c = let a = c.args in
    let e : c.copied.result ≡ slice_get a.held.now a.at = grind (arith, common_steps, gets) in e ∙ first-at a.at a.held.now
