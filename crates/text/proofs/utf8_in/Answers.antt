-- `text::utf8_in` meets its contract. Assumes nothing.
use Rattle.text.proofs.Spans.{in_span, below_span, above-span}
use native.Mathlib.Omega.{arith}
use borrow.Author.Rules.{rules}
use borrow.Author.Tests.{lt-ltb, le-ltb}
use Rattle.text.specs.Surrogates.{utf8_in}
use Rattle.text.proofs.utf8_in.Goals as goal

pub returns-in-0-to-127 : goal.returns-in-0-to-127
unfolding utf8_in
returns-in-0-to-127 c = let u = c.args.u in (simp (lt-ltb u 0x80 (omega arith)), search rules)

pub returns-in_default : goal.returns-in_default
unfolding utf8_in
returns-in_default c = let u = c.args.u in
    (simp (le-ltb u 0x80 (omega arith), le-ltb u 0x800 (omega arith), below_span 0xd800 0xdfff u (omega arith)), search rules)

pub returns-in_default-2 : goal.returns-in_default-2
unfolding utf8_in
returns-in_default-2 c = let u = c.args.u in
    (simp (le-ltb u 0x80 (omega arith), le-ltb u 0x800 (omega arith), above-span 0xd800 0xdfff u (omega arith)), search rules)

pub returns-in-128-to-2047 : goal.returns-in-128-to-2047
unfolding utf8_in
returns-in-128-to-2047 c = let u = c.args.u in
    (simp (le-ltb u 0x80 (omega arith), lt-ltb u 0x800 (omega arith)), search rules)

pub returns-in-128-to-2047-2 : goal.returns-in-128-to-2047-2
unfolding utf8_in
returns-in-128-to-2047-2 c = let u = c.args.u in
    (simp (le-ltb u 0x80 (omega arith), le-ltb u 0x800 (omega arith), in_span 0xd800 0xdfff u (omega arith) (omega arith)), search rules)
