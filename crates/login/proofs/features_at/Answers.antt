-- `login::features_at` meets its contract. Assumes nothing.
use borrow.Author.Tests.{le-leb, lt-leb, eq-eqb, ne_eqb}
use Rattle.login.specs.Body.{features_at, has_extension, extension}
use Rattle.wire.proofs.Le.{le-one}
use native.Mathlib.Omega.{arith}
use Rattle.login.proofs.features_at.Goals as goal

pub returns-then-body : goal.returns-then-body
unfolding features_at has_extension
returns-then-body c = simp (lt-leb _ _ c.if-body.true)

pub returns-then-body-ne1 : goal.returns-then-body-ne1
unfolding features_at has_extension
returns-then-body-ne1 c = let s = c.args.body.now in simp (le-leb _ _ c.if-body.false, le-one 27 s (omega arith), ne_eqb _ _ c.if-body-ne1.true)

pub returns-then-body-extension : goal.returns-then-body-extension
unfolding features_at has_extension extension
returns-then-body-extension c = let s = c.args.body.now in simp (le-leb _ _ c.if-body.false, le-one 27 s (omega arith), eq-eqb _ _ c.if-body-ne1.false, ← c.get_u16_le-extension.ensures, lt-leb _ _ c.if-body-extension.true)

pub returns : goal.returns
unfolding features_at has_extension extension
returns c = let s = c.args.body.now in simp (le-leb _ _ c.if-body.false, le-one 27 s (omega arith), eq-eqb _ _ c.if-body-ne1.false, ← c.get_u16_le-extension.ensures, le-leb _ _ c.if-body-extension.false) c.get_u32_le.ensures
