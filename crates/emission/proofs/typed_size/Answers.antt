-- `emission::typed_size` meets its contract. Assumes nothing.
use Prim.Native.Nat.{◌+◌}
use native.Mathlib.Omega.{arith}
use lib.ListN.{length, take, drop}
use Rattle.token.specs.Types.{type_code, type_length, length_width, collation_size}
use Rattle.emission.proofs.Sizes.{cap-left, cap-same, size-column}
use mathlib.Core.Path.{ap, ◌∙◌}
use Rattle.emission.proofs.typed_size.Goals as goal

pub returns : goal.returns
returns c = let a = c.args in
    let p = a.p.now in
    let t = a.t in
    let code = c.tds_type_code.ensures in
    let width = c.length_width-width.ensures ∙ ap length_width code in
    let o = c.collation in
    let name = c.rest_after in
    c.grown.ensures ∙ rw c.grown-collated.ensures
    (cap-left (length o.result.now + (8 + c.length_width-width.result)) (length name.result.now)
    ∙ cap-same (omega (arith, width, ap length o.ensures, ap length name.ensures, size-column 0 0 (type_code t) (type_length t) (take (collation_size (type_code t)) (drop 1 p)) (drop 6 p))))
