-- What the first record, and the error of its set, say of a terminal script. Assumes nothing.
use Rattle.std.specs.Prelude.{Option, Some, None, is_some}
use Prim.Native.Nat.{ℕ, ◌+◌}
use mathlib.Core.Path.{◌≡◌, refl, ap, ◌∙◌}
use mathlib.Core.Bool.{false}
use mathlib.Core.List.{List}
use lib.ListN.{drop}
use Rattle.wire.specs.declared.Part.{Part}
use Rattle.script.specs.Records.{records, record_at}
use Rattle.script.specs.declared.Found.TheVariants.{Record, Cut, End}
use Rattle.script.proofs.Walk.{turn, cuts, ends}
use Rattle.emission.specs.Walk.{error_in}
use Rattle.emission.specs.Runs.{error_found}
use Rattle.fit.specs.Records.{is_there, terminal}

module _ (s : List ℕ) where
  pub terminal-cut : record_at s 0 ≡ Cut → false ≡ terminal (records s)
  unfolding terminal
  terminal-cut e = rw (cuts s 0 e)

  pub terminal-end : record_at s 0 ≡ End → false ≡ terminal (records s)
  unfolding terminal
  terminal-end e = rw (ends s 0 e)

  -- the error of the first set
  terminal-set : {k st n : ℕ} → record_at s 0 ≡ Record k st n → is_there (error_in 8 (records (drop (st + n) s))) ≡ terminal (records s)
  unfolding terminal
  terminal-set e = rw (turn s 0 e)

  there : (r : Option Part) → is_some r ≡ is_there (error_found s r)
  there None = refl
  there (Some p) = refl

  pub terminal-found : {k st n : ℕ} → record_at s 0 ≡ Record k st n → (r : Option Part) → error_found s r ≡ error_in 8 (records (drop (st + n) s))
      → is_some r ≡ terminal (records s)
  terminal-found e r h = there r ∙ ap is_there h ∙ terminal-set e
