-- `payload::number_at` meets its contract. Assumes nothing.
use native.Mathlib.Omega.{arith}
use Rattle.payload.proofs.Reach.{held-within, number-held}
use Rattle.payload.proofs.number_at.Goals as goal

pub overflow_mul-frame : goal.overflow_mul-frame
overflow_mul-frame g c = omega (arith, held-within _ _ _ _ c.holds.ensures c.if-not-holds.false)

pub overflow_add-at : goal.overflow_add-at
overflow_add-at g c = omega (arith, held-within _ _ _ _ c.holds.ensures c.if-not-holds.false)

pub get-requires : goal.get-requires
get-requires g c = c.requires.gets _ (omega (arith, held-within _ _ _ _ c.holds.ensures c.if-not-holds.false))

pub returns : goal.returns
returns g c =
    let e = c.requires.got _ _ (omega (arith, held-within _ _ _ _ c.holds.ensures c.if-not-holds.false)) c.get.ensures in
    (number-held _ _ _ _ c.holds.ensures c.if-not-holds.false e.0, e.1)
