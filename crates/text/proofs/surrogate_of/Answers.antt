-- `text::surrogate_of` meets its contract. Assumes nothing.
use Rattle.text.proofs.Spans.{in_span, below_span, above-span}
use native.Mathlib.Omega.{arith}
use Rattle.text.specs.Surrogates.{surrogate_of}
use Rattle.text.proofs.surrogate_of.Goals as goal

pub returns-in-55296-to-56319 : goal.returns-in-55296-to-56319
unfolding surrogate_of
returns-in-55296-to-56319 c = let u = c.args.u in simp (in_span 0xd800 0xdbff u (omega arith) (omega arith))

pub returns-in-56320-to-57343 : goal.returns-in-56320-to-57343
unfolding surrogate_of
returns-in-56320-to-57343 c = let u = c.args.u in
    simp (above-span 0xd800 0xdbff u (omega arith), in_span 0xdc00 0xdfff u (omega arith) (omega arith))

pub returns-in_default : goal.returns-in_default
unfolding surrogate_of
returns-in_default c = let u = c.args.u in
    simp (below_span 0xd800 0xdbff u (omega arith), below_span 0xdc00 0xdfff u (omega arith))

pub returns-in_default-2 : goal.returns-in_default-2
unfolding surrogate_of
returns-in_default-2 c = let u = c.args.u in
    simp (above-span 0xd800 0xdbff u (omega arith), above-span 0xdc00 0xdfff u (omega arith))
