-- `payload::frames::next_length` meets its contract. Assumes nothing.
use mathlib.Core.Path.{sym}
use Prim.Native.Nat.{◌≤◌}
use native.Mathlib.Omega.{arith}
use lib.ListN.{length}
use borrow.Author.Tests.{lt-leb, le-leb}
use Rattle.wire.proofs.Le.{le-one}
use Rattle.payload.specs.Frames.{is_next, next_length}
use Rattle.payload.proofs.frames.next_length.Goals as goal

pub returns-then-rest-lt-PACKET_HEADER_SIZE : goal.returns-then-rest-lt-PACKET_HEADER_SIZE
unfolding next_length is_next
returns-then-rest-lt-PACKET_HEADER_SIZE c = rw (lt-leb _ _ c.if-rest-lt-PACKET_HEADER_SIZE.true)

pub returns-then-rest-number : goal.returns-then-rest-number
unfolding next_length is_next
returns-then-rest-number c = let l = c.args.rest.now in
    let h : 8 ≤ length l = omega arith in
    rw (le-leb 8 (length l) h, le-one 0 l (omega arith), le-one 6 l (omega arith), sym c.get_u16-length.ensures, c.if-rest-number.true)

pub returns : goal.returns
unfolding next_length is_next
returns c = let l = c.args.rest.now in
    let h : 8 ≤ length l = omega arith in
    rw (le-leb 8 (length l) h, le-one 0 l (omega arith), le-one 6 l (omega arith), sym c.get_u16-length.ensures, c.if-rest-number.false)
