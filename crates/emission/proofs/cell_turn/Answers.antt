-- `emission::cell_turn` meets its contract. Assumes nothing.
use lib.ListN.{drop}
use Rattle.script.specs.Records.{records}
use Rattle.script.specs.Runs.{ahead}
use Rattle.emission.proofs.Turns.{turned_none}
use Rattle.emission.proofs.Values.{cell-known, cell-unknown}
use Rattle.emission.proofs.cell_turn.Goals as goal

pub returns-in-Some : goal.returns-in-Some
returns-in-Some c = let a = c.args in
    let cs = ahead 6 (records (drop a.next a.s.now)) in
    rw (cell-known a.p.now cs c.get_u8.ensures c.column_value_of.ensures c.in-Some.is) c.value_turn.ensures

pub returns-in-None : goal.returns-in-None
returns-in-None c = let a = c.args in
    let cs = ahead 6 (records (drop a.next a.s.now)) in
    rw (cell-unknown a.p.now cs c.get_u8.ensures c.column_value_of.ensures c.in-None.is, c.plain_turn.ensures)
    (turned_none a.s.now a.next c.requires)
