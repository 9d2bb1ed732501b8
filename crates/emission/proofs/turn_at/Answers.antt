-- `emission::turn_at` meets its contract. Assumes nothing.
use mathlib.Core.Path.{refl, sym, ◌∙◌}
use native.Mathlib.Omega.{arith}
use Rattle.std.proofs.lemmas.Result.{err_from_is_err_and}
use Rattle.emission.specs.Walk.{pieces_of}
use borrow.Author.Tests.{ne_eqb}
use Rattle.token.specs.Tokens.{row}
use Rattle.emission.proofs.Turns.{done-bad, turned-done, turned-one, turned_none, goes-here}
use Rattle.emission.proofs.Sizes.{cap-of, cap-same, size-row}
use Rattle.emission.proofs.turn_at.Goals as goal

pub returns-in_err-set_turn-in-1 : goal.returns-in_err-set_turn-in-1
unfolding pieces_of
returns-in_err-set_turn-in-1 c =
    let p = err_from_is_err_and c.from_residual.result c.from_residual.ensures.1 in
    rw (c.in-1.is, p.1, p.2) (done-bad _ c.args.s.now c.args.next c.in_err-set_turn-in-1.field-0.0 c.in_err-set_turn-in-1.ensures)

pub returns-in_ok-set_turn-in-1 : goal.returns-in_ok-set_turn-in-1
unfolding pieces_of
returns-in_ok-set_turn-in-1 c = rw (c.in-1.is, c.ended_turn.ensures) (turned-done _ c.args.s.now c.args.next c.in_ok-set_turn-in-1.field-0 c.in_ok-set_turn-in-1.ensures)

pub returns-in-3 : goal.returns-in-3
unfolding pieces_of
returns-in-3 c = rw c.in-3.is c.info_turn.ensures

pub returns-in-9 : goal.returns-in-9
unfolding pieces_of
returns-in-9 c = rw c.in-9.is c.info_turn-in-9.ensures

pub returns-in-4 : goal.returns-in-4
unfolding pieces_of
returns-in-4 c = rw c.in-4.is (turned-one row c.args.s.now c.args.next _ refl (sym (cap-of 1 (omega arith)) ∙ cap-same (sym size-row)) (goes-here c.args.s.now c.args.next c.requires))

pub returns-in-5 : goal.returns-in-5
unfolding pieces_of
returns-in-5 c = rw c.in-5.is c.cell_turn.ensures

pub returns-in_default : goal.returns-in_default
unfolding pieces_of
returns-in_default c = simp (ne_eqb _ _ c.in_default.in_default-own.rest.0.0.0.0.1, ne_eqb _ _ c.in_default.in_default-own.rest.0.0.0.1, ne_eqb _ _ c.in_default.in_default-own.rest.0.0.1, ne_eqb _ _ c.in_default.in_default-own.rest.0.1, ne_eqb _ _ c.in_default.in_default-own.rest.1) (turned_none c.args.s.now c.args.next c.requires)
