-- `windows1252::measured` meets its contract. Assumes nothing.
use Rattle.std.proofs.lemmas.Result.{err_from_is_err_and}
use Rattle.windows1252.proofs.CodeReads.{total-cut, null-read, chunks-cut, text-read}
use Rattle.windows1252.proofs.measured.Goals as goal

pub returns-in_err-total : goal.returns-in_err-total
returns-in_err-total c = let v = c.args.value.now in
    let p = err_from_is_err_and c.from_residual.result c.from_residual.ensures.1 in
    rw (p.1, p.2) (total-cut v c.body-frame.ensures _ c.u64_at.ensures.0 c.in_err-total.was)

pub returns-then-total : goal.returns-then-total
returns-then-total c = let v = c.args.value.now in
    null-read v c.body-frame.ensures _ c.u64_at.ensures.0 c.in_ok-total.was c.if-total.true c.null_at.ensures

pub returns-in_err-chunks : goal.returns-in_err-chunks
returns-in_err-chunks c = let v = c.args.value.now in
    let p = err_from_is_err_and c.from_residual-in_err-chunks.result c.from_residual-in_err-chunks.ensures.1 in
    rw (p.1, p.2) (chunks-cut v c.body-frame.ensures _ c.u64_at.ensures.0 c.in_ok-total.was c.if-total.false _ c.chunks_at.ensures c.in_err-chunks.was)

pub returns : goal.returns
returns c = let v = c.args.value.now in
    text-read v c.body-frame.ensures _ c.u64_at.ensures.0 c.in_ok-total.was c.if-total.false _ c.chunks_at.ensures c.in_ok-chunks.was c.text_at.ensures
