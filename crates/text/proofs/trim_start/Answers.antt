-- `text::trim_start` meets its contract. Assumes nothing.
use mathlib.Core.Bool.{true, false}
use mathlib.Core.Path.{◌≡◌, ◌∙◌, sym, ap}
use native.Mathlib.Omega.{arith}
use Prim.Native.Nat.{◌*◌}
use borrow.Author.Rules.{rules}
use Rattle.std.proofs.lemmas.Iterator.{IsFirst-from_position, YieldsList-from_slice}
use Rattle.wire.specs.Le.{le_at}
use Rattle.text.specs.Space.{is_whitespace}
use Rattle.text.specs.Trim.{leading}
use Rattle.text.specs.Units.{units_of}
use Rattle.text.proofs.Twos.{leads}
use Rattle.text.proofs.Trims.{lead-most}
use Rattle.text.proofs.Scan.{length-units}
use Rattle.text.proofs.trim_start.Goals as goal

pub returns : goal.returns
returns c =
    let ps = c.pairs-units.result.now in
    let first = IsFirst-from_position _ _ c.position-blank.result (λ p. is_whitespace (le_at 2 p) ≡ false) (λ p. is_whitespace (le_at 2 p) ≡ true) c.position-blank.ensures.ran (YieldsList-from_slice ps cc) (λ x q k. search rules) (λ x q k. search rules) in
    let n : c.unwrap_or.result ≡ leading (units_of c.args.s.now) = c.unwrap_or.ensures ∙ sym (leads ps c.position-blank.result first) ∙ ap leading c.pairs-units.ensures.value in
    (ap (λ x. 2 * x) n, omega (arith, n, lead-most (units_of c.args.s.now), length-units c.args.s.now))
