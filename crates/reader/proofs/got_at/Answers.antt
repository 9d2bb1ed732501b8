-- `reader::got_at` meets its contract. Assumes nothing.
use mathlib.Core.Path.{sym, ◌∙◌}
use Rattle.std.proofs.lemmas.Result.{err_from_is_err_and}
use Rattle.reader.proofs.CodeSteps.{no_place, no-stand, at-end, at-refusal, token-within, at-token}
use Rattle.reader.proofs.CodeTokens.{token-is, token-is-not}
use Rattle.reader.proofs.got_at.Goals as goal

pub returns-in_err-here : goal.returns-in_err-here
returns-in_err-here c = let a = c.args in
    let p = err_from_is_err_and c.from_residual.result c.from_residual.ensures.1 in
    rw (p.1, p.2) (no_place a.packets.now a.at a.held (sym c.in_err-here.ensures))

pub returns-then-not-stands : goal.returns-then-not-stands
returns-then-not-stands c = let a = c.args in no-stand a.packets.now a.at a.held (sym c.in_ok-here.ensures) (sym c.stands.ensures ∙ c.if-not-stands.true)

pub returns-then-at : goal.returns-then-at
returns-then-at c = let a = c.args in at-end a.packets.now a.at a.held (sym c.in_ok-here.ensures) (sym c.stands.ensures ∙ c.if-not-stands.false) c.if-at.true c.end_at.ensures

pub returns-in_err-read : goal.returns-in_err-read
returns-in_err-read c = let a = c.args in
    let p = err_from_is_err_and c.from_residual-in_err-read.result c.from_residual-in_err-read.ensures.1 in
    rw (p.1, p.2) (at-refusal a.packets.now a.at a.held (sym c.in_ok-here.ensures) (sym c.stands.ensures ∙ c.if-not-stands.false) c.if-at.false (token-is-not _ c.in_err-read.ensures))

pub got_to-requires : goal.got_to-requires
got_to-requires c = let a = c.args in token-within a.packets.now a.at a.held (sym c.in_ok-here.ensures) (token-is _ c.in_ok-read.ensures)

pub returns : goal.returns
returns c = let a = c.args in at-token a.packets.now a.at a.held (sym c.in_ok-here.ensures) (token-is _ c.in_ok-read.ensures) (sym c.stands.ensures ∙ c.if-not-stands.false) c.if-at.false c.got_to.ensures
