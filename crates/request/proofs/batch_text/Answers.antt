-- `request::batch_text` meets its contract. Assumes nothing.
use Rattle.request.proofs.Sql.{sql-is, sql-long, sql-count, sql-in}
use native.Mathlib.Omega.{arith}
use Rattle.request.specs.Batch.{batch_text}
use Rattle.request.proofs.batch_text.Goals as goal

pub overflow_mul-even : goal.overflow_mul-even
overflow_mul-even c = let a = c.args in omega (arith, sql-long a.body.now a.at c.units-even.ensures)

pub slice_bounds-sql-end : goal.slice_bounds-sql-end
slice_bounds-sql-end c = let a = c.args in
    sql-count a.body.now a.at c.units-even.ensures

pub returns-then-not-is_well_formed : goal.returns-then-not-is_well_formed
unfolding batch_text
returns-then-not-is_well_formed c = let a = c.args in
    let sql = sql-is a.body.now a.at c.units-even.ensures in
    simp (← sql, ← c.is_well_formed.ensures, c.if-not-is_well_formed.true)

pub overflow_add-result : goal.overflow_add-result
overflow_add-result c = let a = c.args in
    omega (arith, sql-in a.body.now a.at c.units-even.ensures c.trimmed-part.ensures)

pub returns : goal.returns
unfolding batch_text
returns c = let a = c.args in
    let sql = sql-is a.body.now a.at c.units-even.ensures in
    simp (← sql, ← c.is_well_formed.ensures, c.if-not-is_well_formed.false, ← c.trimmed-part.ensures)
