-- `result::put_column` meets its contract. Assumes nothing.
use Rattle.emission.specs.Emission.{column_token}
use Rattle.emission.proofs.Values.{column-known, column-unknown}
use Rattle.result.proofs.Writes.{put_one, put-none}
use Rattle.result.proofs.put_column.Goals as goal

pub returns-in-Some : goal.returns-in-Some
returns-in-Some c = let p = c.args.p.now in
    let known = column-known p c.get_u8.ensures c.data_type_of.ensures c.in-Some.is in
    let put = rw (c.collation-collation.ensures, c.rest_after.ensures) at c.put_column.ensures in
    rw known (put_one (column_token c.in-Some.t p) put)

pub returns-in-None : goal.returns-in-None
returns-in-None c = let a = c.args in
    rw (column-unknown a.p.now c.get_u8.ensures c.data_type_of.ensures c.in-None.is) (put-none a.w.now c.requires)
