-- `wire::put_u8` meets its contract. Assumes nothing.
use mathlib.Core.Path.{refl}
use Rattle.wire.proofs.Over.{wrote-out, stored}
use native.Mathlib.Nat.{mod-eq_of_lt}
use Rattle.wire.specs.Le.{le}
use Rattle.wire.proofs.put_u8.Goals as goal

pub returns-then-buf-at : goal.returns-then-buf-at
returns-then-buf-at c = let a = c.args in
    let w = wrote-out a.buf.now a.at _ c.if-buf-at.true refl in record { buf_after = w.0; place_after = w.1 }

pub returns : goal.returns
unfolding le
returns c = let a = c.args in
    record { buf_after = rw (mod-eq_of_lt c.ranges.v.fits) (((stored a.buf.now a.at a.v c.if-buf-at.false refl)).0); place_after = rw (mod-eq_of_lt c.ranges.v.fits) (((stored a.buf.now a.at a.v c.if-buf-at.false refl)).1) }
