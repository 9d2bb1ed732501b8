-- `wire::put_slice` meets its contract. Assumes nothing.
use Rattle.std.proofs.Common.{◌≡◌, ℕ, take, length, arith, get_or-take}
use lib.Seq.{length-take-le}
use Rattle.wire.proofs.Over.{over-more, wrote-room}
use Rattle.wire.proofs.Std.{none-over}
use Rattle.wire.proofs.put_slice.Goals as goal

pub returns-then-n-eq0 : goal.returns-then-n-eq0
returns-then-n-eq0 c = let a = c.args in
    let w = wrote-room a.src.now a.buf.now a.buf.now a.at 0 (omega arith) (none-over a.buf.now a.at a.src.now) (omega arith) in record { buf_after = w.0; place_after = w.1 }

pub loop-i-init : goal.loop-i-init
loop-i-init c = let a = c.args in none-over a.buf.now a.at a.src.now

pub loop-i-preserved : goal.loop-i-preserved
loop-i-preserved c = let a = c.args in
    let n : ℕ = c.min-n.result in
    let long : length (take n a.src.now) ≡ n = length-take-le n a.src.now (omega arith) in
    rw (get_or-take n a.src.now c.loop-i.i 0 (omega (arith, long)), c.loop-i.invariant) (over-more a.src.now a.buf.now a.at c.loop-i.i (omega (arith, long)))

pub returns : goal.returns
returns c = let a = c.args in
    let n : ℕ = c.min-n.result in
    let long : length (take n a.src.now) ≡ n = length-take-le n a.src.now (omega arith) in
    let all : c.loop-i.i ≡ n = omega (arith, long) in
    let w = wrote-room a.src.now a.buf.now c.loop-i.buf a.at n (omega arith) (rw all at c.loop-i.invariant) (omega arith) in record { buf_after = w.0; place_after = w.1 }
