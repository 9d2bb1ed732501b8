-- `login::read_login7_string` meets its contract. Assumes nothing.
use borrow.Author.Tests.{lt-ltb, le-leb, lt-leb}
use Rattle.login.specs.Body.{text_at}
use lib.ListN.{length}
use Prim.Native.Nat.{◌+◌, ◌*◌, ◌<◌, ◌≤◌}
use native.Mathlib.Omega.{arith}
use Rattle.login.proofs.read_login7_string.Goals as goal

pub returns-then-left-lt4 : goal.returns-then-left-lt4
unfolding text_at
returns-then-left-lt4 c = let a = c.args in
    let h : length a.body.now < a.entry + 4 = omega (arith, c.left.ensures) in
    simp (lt-leb _ _ h)

pub returns-then-len-eq0 : goal.returns-then-len-eq0
unfolding text_at
returns-then-len-eq0 c = let a = c.args in
    let h : a.entry + 4 ≤ length a.body.now = omega (arith, c.left.ensures) in
    simp (le-leb _ _ h, ← c.get_u16_le.ensures, c.if-len-eq0.true)

pub returns-then-body-start : goal.returns-then-body-start
unfolding text_at
returns-then-body-start c = let a = c.args in
    let h : a.entry + 4 ≤ length a.body.now = omega (arith, c.left.ensures) in
    let g : 0 < 2 * c.get_u16_le.result = omega arith in
    simp (le-leb _ _ h, ← c.get_u16_le.ensures, ← c.get_u16_le-start.ensures, lt-ltb _ _ g, lt-leb _ _ c.if-body-start.true)

pub returns-then-not-is_well_formed : goal.returns-then-not-is_well_formed
unfolding text_at
returns-then-not-is_well_formed c = let a = c.args in
    let h : a.entry + 4 ≤ length a.body.now = omega (arith, c.left.ensures) in
    let g : 0 < 2 * c.get_u16_le.result = omega arith in
    simp (
      le-leb _ _ h,
      ← c.get_u16_le.ensures,
      ← c.get_u16_le-start.ensures,
      lt-ltb _ _ g,
      le-leb _ _ c.if-body-start.false,
      ← c.part_of.ensures,
      ← c.is_well_formed.ensures,
      c.if-not-is_well_formed.true,
    )

pub returns : goal.returns
unfolding text_at
returns c = let a = c.args in
    let h : a.entry + 4 ≤ length a.body.now = omega (arith, c.left.ensures) in
    let g : 0 < 2 * c.get_u16_le.result = omega arith in
    simp (
      le-leb _ _ h,
      ← c.get_u16_le.ensures,
      ← c.get_u16_le-start.ensures,
      lt-ltb _ _ g,
      le-leb _ _ c.if-body-start.false,
      ← c.part_of.ensures,
      ← c.is_well_formed.ensures,
      c.if-not-is_well_formed.false,
    )
