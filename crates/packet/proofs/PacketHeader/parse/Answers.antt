-- `packet::PacketHeader::parse` meets its contract. Assumes nothing.
use borrow.Author.Tests.{lt-ltb, le-ltb}
use mathlib.Core.Path.{◌≡◌}
use native.Mathlib.Omega.{arith}
use Prim.Native.Nat.{◌≤◌}
use lib.ListN.{length, get_or}
use Rattle.packet.specs.Types.{type_of}
use Rattle.std.specs.Prelude.{Some, None}
use Rattle.std.proofs.lemmas.Result.{err_from_is_err_and}
use Rattle.refusals.specs.declared.Refusal.TheVariants.{UnknownPacketType}
use Rattle.wire.proofs.Le.{le-one}
use Rattle.packet.specs.Header.{parsed_of}
use Rattle.packet.proofs.PacketHeader.parse.Goals as goal

pub returns-then-buf-lt-PACKET_HEADER_SIZE : goal.returns-then-buf-lt-PACKET_HEADER_SIZE
unfolding parsed_of
returns-then-buf-lt-PACKET_HEADER_SIZE c = simp (lt-ltb _ _ c.if-buf-lt-PACKET_HEADER_SIZE.true)

pub returns-in_err-try_from : goal.returns-in_err-try_from
unfolding parsed_of
returns-in_err-try_from c = let s = c.args.buf.now in
    let h : 8 ≤ length s = omega arith in
    let unknown : type_of (get_or s 0 0) ≡ None = grind (arith, c.in_err-try_from.ensures) in
    let refusal : c.in_err-try_from.field-0.0 ≡ UnknownPacketType = grind (arith, c.in_err-try_from.ensures) in
    let p = err_from_is_err_and c.from_residual.result c.from_residual.ensures.1 in
    rw (p.1, p.2, le-ltb _ _ h, le-one 0 s (omega arith), unknown, refusal)

pub returns : goal.returns
unfolding parsed_of
returns c = let s = c.args.buf.now in
    let h : 8 ≤ length s = omega arith in
    let known : type_of (get_or s 0 0) ≡ Some c.in_ok-try_from.field-0 = grind (arith, c.in_ok-try_from.ensures) in
    simp (
      le-ltb _ _ h,
      le-one 0 s (omega arith),
      known,
      le-one 1 s (omega arith),
      c.get_u16.ensures,
      c.get_u16-2.ensures,
      le-one 6 s (omega arith),
      le-one 7 s (omega arith),
    )
