-- A run of writes that is not over: with what is still to be written at a place, all is written. Assumes nothing.
use mathlib.Core.Path.{◌≡◌, refl, sym, ap, ◌∙◌}
use mathlib.Core.List.{List, [], ◌++◌}
use Prim.Native.Nat.{ℕ, ◌+◌}
use native.Mathlib.Omega.{arith}
use lib.ListN.{length, length-append}
use Rattle.wire.specs.Over.{overwrite}
use Rattle.wire.proofs.Over.{length_over, over-cat}

-- of all, which is to stand at a place of the buffer old, the rest is to be written at the place to of the buffer new
pub record Owing (old : List ℕ) (first : ℕ) (all new : List ℕ) (to : ℕ) (rest : List ℕ) : Type 0 where
  pub long : length new ≡ length old
  pub place : to + length rest ≡ first + length all
  pub is : overwrite new to rest ≡ overwrite old first all

pub owing-all : (old : List ℕ) (first : ℕ) (all : List ℕ) → Owing old first all old first all
owing-all old first all = record { long = refl; place = refl; is = refl }

module _ {old : List ℕ} {first : ℕ} {all new : List ℕ} {to : ℕ} {rest : List ℕ} (o : Owing old first all new to rest) where
  -- a part of it is written
  pub owing-less : (part more : List ℕ) {next : ℕ} {newer : List ℕ} → rest ≡ part ++ more → newer ≡ overwrite new to part → next ≡ to + length part
      → Owing old first all newer next more
  owing-less part more {next} {newer} e w p = record {
    long = ap length w ∙ length_over part new to ∙ o.long;
    place = omega (arith, p, o.place, ap length e ∙ length-append part more);
    is = rw (w, p) (over-cat part more new to ∙ rw (sym e) o.is);
  }

  -- nothing is left
  pub owing-none : rest ≡ [] → (new ≡ overwrite old first all) × (to ≡ first + length all)
  unfolding overwrite
  owing-none e = (rw e at o.is, omega (arith, o.place, ap length e))
