-- `emission::info_turn` meets its contract. Assumes nothing.
use mathlib.Core.Path.{sym, ap, ◌∙◌}
use Rattle.std.proofs.lemmas.Result.{err_from_is_err_and}
use native.Mathlib.Omega.{arith}
use lib.ListN.{length, drop}
use Rattle.token.proofs.Sizes.{size-message}
use Rattle.wire.specs.Le.{le_at}
use Rattle.script.specs.Shape.{message_text, server_name, procedure_name}
use Rattle.emission.specs.Emission.{info_token}
use Rattle.emission.proofs.Turns.{turned-bad, turned-one, goes-here}
use Rattle.emission.proofs.Sizes.{fault-one, cap-texts, cap-same}
use Rattle.emission.proofs.info_turn.Goals as goal

pub returns-in_err-names_fault : goal.returns-in_err-names_fault
returns-in_err-names_fault c = let a = c.args in
    let p = err_from_is_err_and c.from_residual.result c.from_residual.ensures.1 in
    rw (p.1, p.2)
    (turned-bad _ a.s.now a.next c.in_err-names_fault.field-0.0
    (c.in_err-names_fault.ensures ∙ rw (c.info_server-server.ensures, c.info_procedure-procedure.ensures) (sym (fault-one (info_token a.p.now)))))

pub returns : goal.returns
returns c = let a = c.args in
    let s = a.s.now in
    let p = a.p.now in
    let m = c.info_message in
    let r = c.info_procedure-procedure in
    let v = c.info_server-server in
    turned-one (info_token p) s a.next _ (c.in_ok-names_fault.ensures ∙ rw (v.ensures, r.ensures))
    (c.grown-2.ensures ∙ rw (c.grown-texts.ensures, c.grown.ensures)
    (cap-texts (length m.result.now) (length v.result.now) (length r.result.now)
    ∙ cap-same (omega (arith, ap length m.ensures, ap length v.ensures, ap length r.ensures, size-message 0xAB (le_at 4 p) (le_at 1 (drop 4 p)) (le_at 1 (drop 5 p)) (message_text p) (server_name p) (procedure_name p) (le_at 4 (drop 6 p))))))
    (goes-here s a.next c.requires)
