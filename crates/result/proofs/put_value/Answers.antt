-- `result::put_value` meets its contract. Assumes nothing.
use lib.ListN.{drop}
use Rattle.script.specs.Records.{records}
use Rattle.script.specs.Runs.{ahead}
use Rattle.emission.proofs.Values.{cell-of, chunks-by}
use Rattle.emission.proofs.Turns.{goes-here}
use Rattle.result.proofs.put_value.Goals as goal

pub returns-in-TinyInt : goal.returns-in-TinyInt
returns-in-TinyInt c = rw (cell-of (drop 1 c.args.p.now) (ahead 6 (records (drop c.args.next c.args.s.now))) c.in-TinyInt.is, ← c.get_u8.ensures) (record { puts = c.put_tinyint.ensures; goes = goes-here c.args.s.now c.args.next c.requires })

pub returns-in-SmallInt : goal.returns-in-SmallInt
returns-in-SmallInt c = rw (cell-of (drop 1 c.args.p.now) (ahead 6 (records (drop c.args.next c.args.s.now))) c.in-SmallInt.is, ← c.get_u16_le.ensures) (record { puts = c.put_smallint.ensures; goes = goes-here c.args.s.now c.args.next c.requires })

pub returns-in-Int : goal.returns-in-Int
returns-in-Int c = rw (cell-of (drop 1 c.args.p.now) (ahead 6 (records (drop c.args.next c.args.s.now))) c.in-Int.is, ← c.get_u32_le.ensures) (record { puts = c.put_int.ensures; goes = goes-here c.args.s.now c.args.next c.requires })

pub returns-in-BigInt : goal.returns-in-BigInt
returns-in-BigInt c = rw (cell-of (drop 1 c.args.p.now) (ahead 6 (records (drop c.args.next c.args.s.now))) c.in-BigInt.is, ← c.get_u64_le.ensures) (record { puts = c.put_bigint.ensures; goes = goes-here c.args.s.now c.args.next c.requires })

pub returns-in-NVarChar : goal.returns-in-NVarChar
returns-in-NVarChar c = rw (cell-of (drop 1 c.args.p.now) (ahead 6 (records (drop c.args.next c.args.s.now))) c.in-NVarChar.is, ← c.rest_after.ensures) (record { puts = c.put_nvarchar.ensures; goes = goes-here c.args.s.now c.args.next c.requires })

pub returns-in-NVarCharMax : goal.returns-in-NVarCharMax
returns-in-NVarCharMax c = let a = c.args in
    rw (chunks-by a.value (drop 1 a.p.now) (ahead 6 (records (drop a.next a.s.now))) c.in-NVarCharMax.in-NVarCharMax-own.keys6) c.put_chunked.ensures

pub returns-in-NVarCharMaxNull : goal.returns-in-NVarCharMaxNull
returns-in-NVarCharMaxNull c = rw (cell-of (drop 1 c.args.p.now) (ahead 6 (records (drop c.args.next c.args.s.now))) c.in-NVarCharMaxNull.is) (record { puts = c.put_plp_null.ensures; goes = goes-here c.args.s.now c.args.next c.requires })

pub returns-in-Null : goal.returns-in-Null
returns-in-Null c = rw (cell-of (drop 1 c.args.p.now) (ahead 6 (records (drop c.args.next c.args.s.now))) c.in-Null.is) (record { puts = c.put_null.ensures; goes = goes-here c.args.s.now c.args.next c.requires })
