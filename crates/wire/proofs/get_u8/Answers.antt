-- `wire::get_u8` meets its contract. Assumes nothing.
use Rattle.std.proofs.Common.{◌≡◌, ◌∙◌, sym, get_or, arith}
use Rattle.std.proofs.lemmas.Grind.{common_steps}
use Rattle.wire.proofs.Std.{le-get}
use Rattle.wire.proofs.get_u8.Goals as goal

pub returns : goal.returns
returns c = let a = c.args in
    let e : c.unwrap_or.result ≡ get_or a.s.now a.at 0 = grind (arith, common_steps) in e ∙ sym (le-get a.at a.s.now)
