-- `login::token_after` meets its contract. Assumes nothing.
use borrow.Author.Tests.{lt-ltb, le-ltb, le-leb, lt-leb, eq-eqb, ne_eqb}
use mathlib.Core.Path.{sym, ◌∙◌}
use Rattle.login.specs.Rules.{token_after}
use Rattle.wire.specs.Le.{le_at}
use lib.ListN.{length, drop}
use Prim.Native.Nat.{◌+◌, ◌<◌, ◌≤◌}
use native.Mathlib.Omega.{arith}
use Rattle.login.proofs.token_after.Goals as goal

pub returns-then-not-has_options : goal.returns-then-not-has_options
unfolding token_after
returns-then-not-has_options c = simp (sym c.has_options.ensures ∙ c.if-not-has_options.true)

pub returns-then-library_in-ne-SECURITY_TOKEN : goal.returns-then-library_in-ne-SECURITY_TOKEN
unfolding token_after
returns-then-library_in-ne-SECURITY_TOKEN c = simp (sym c.has_options.ensures ∙ c.if-not-has_options.false, ← c.library_in.ensures, ne_eqb _ _ c.if-library_in-ne-SECURITY_TOKEN.true)

pub returns-then-held-le-TOKEN_HEAD : goal.returns-then-held-le-TOKEN_HEAD
unfolding token_after
returns-then-held-le-TOKEN_HEAD c = let h : length c.args.held.now ≤ 5 = omega arith in
    simp (sym c.has_options.ensures ∙ c.if-not-has_options.false, ← c.library_in.ensures, eq-eqb _ _ c.if-library_in-ne-SECURITY_TOKEN.false, le-ltb _ _ h)

pub returns-then-held-len : goal.returns-then-held-len
unfolding token_after
returns-then-held-len c = let s = c.args.held.now in
    let g : 5 < length s = omega arith in
    let h : length s < 5 + le_at 4 (drop 1 s) = omega (arith, c.get_u32_le-len.ensures) in
    simp (sym c.has_options.ensures ∙ c.if-not-has_options.false, ← c.library_in.ensures, eq-eqb _ _ c.if-library_in-ne-SECURITY_TOKEN.false, lt-ltb _ _ g, lt-leb _ _ h)

pub returns : goal.returns
unfolding token_after
returns c = let s = c.args.held.now in
    let g : 5 < length s = omega arith in
    let h : 5 + le_at 4 (drop 1 s) ≤ length s = omega (arith, c.get_u32_le-len.ensures) in
    simp (sym c.has_options.ensures ∙ c.if-not-has_options.false, ← c.library_in.ensures, eq-eqb _ _ c.if-library_in-ne-SECURITY_TOKEN.false, lt-ltb _ _ g, le-leb _ _ h) (cc)
