-- What was built of the script is what the contract says.
use Rattle.std.proofs.Common.{List, ℕ, OnOk, rules, subst}
use Rattle.std.proofs.Math.ListN.{replicate}
use Rattle.std.specs.Io.KnownBytes.{Appends}
use Rattle.reply.proofs.Wrote.{wrote-reply, wrote-refusal}
use Rattle.reply.proofs.reply.Goals as goal

pub returns-in-Ok : goal.returns-in-Ok
returns-in-Ok g c =
    let P : List ℕ → Type 0 = λ xs. OnOk c.write.result (Appends (g.W.Write.contents c.args.out.now) (g.W.Write.contents c.write.new.out) xs) in
    subst P (wrote-reply c.args.script.now _ _ _ c.in-Ok.length (search rules) c.in-Ok.ensures.value c.in-Ok.ensures.buf_after c.part_of.ensures) c.write.ensures

pub returns-in-Err : goal.returns-in-Err
returns-in-Err g c =
    let P : List ℕ → Type 0 = λ xs. OnOk c.refused.result (Appends (g.W.Write.contents c.args.out.now) (g.W.Write.contents c.refused.new.out) xs) in
    subst P (wrote-refusal c.args.script.now (replicate 65535 0) _ (search rules) c.in-Err.ensures.value) c.refused.ensures
