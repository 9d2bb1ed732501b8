-- The SQL text of a batch, as a part of the slice from its place on. Assumes nothing.
use mathlib.Core.Path.{◌≡◌, sym}
use mathlib.Core.List.{List}
use Prim.Native.Nat.{ℕ, ◌-◌, ◌*◌, ◌≤◌}
use native.Mathlib.Omega.{arith}
use lib.ListN.{length, take, drop, length-drop}
use lib.Seq.{length-take-le}
use Rattle.wire.specs.declared.Part.{Part}
use Rattle.wire.proofs.Parts.{rest-is}
use Rattle.text.specs.Units.{units}
use Rattle.text.specs.Trim.{trimmed}
use Rattle.text.proofs.Scan.{length-units}
use Rattle.text.proofs.Trims.{trimmed-in}
use Rattle.request.specs.Batch.{sql_from}

module _ (body : List ℕ) (at : ℕ) {n : ℕ} (e : n ≡ units (take (length body - at) (drop at body))) where
  pub sql-is : take (2 * n) (take (length body - at) (drop at body)) ≡ sql_from body at
  unfolding sql_from
  sql-is = rw (e, rest-is body at)

  pub sql-long : 2 * n ≤ length body - at
  unfolding units
  sql-long = omega (arith, rw (rest-is body at) at e, length-units (drop at body), length-drop at body)

  pub sql-count : 2 * n ≡ length (take (2 * n) (take (length body - at) (drop at body)))
  sql-count = sym (length-take-le (2 * n) _ (rw (rest-is body at) (simp length-drop sql-long)))

  -- its part lies in the body
  pub sql-in : {p : Part} → p ≡ trimmed (take (2 * n) (take (length body - at) (drop at body))) → p.start ≤ length body - at
  sql-in {p} f = omega (arith, rw (← f) at (trimmed-in (take (2 * n) (take (length body - at) (drop at body)))), sql-count, sql-long)
