-- `emission::value_turn` meets its contract. Assumes nothing.
use mathlib.Core.Path.{refl, sym, ap, ◌∙◌}
use native.Mathlib.Omega.{arith}
use mathlib.Core.List.{List}
use Prim.Native.Nat.{ℕ, ◌+◌}
use lib.ListN.{length, drop}
use Rattle.script.specs.Records.{records}
use Rattle.script.specs.Runs.{ahead}
use Rattle.emission.proofs.Values.{cell-of, plain_cell}
use Rattle.emission.proofs.Sizes.{cap-of, cap-same, size-integer, size-bounded, size-no-long, size-no-integer}
use Rattle.emission.proofs.value_turn.Goals as goal

pub returns-in-TinyInt : goal.returns-in-TinyInt
returns-in-TinyInt c = let a = c.args in
    rw c.plain_turn.ensures
    (plain_cell a.s.now a.next c.requires (cell-of (drop 1 a.p.now) _ c.in-TinyInt.is) refl (size-integer 1 _) (sym (cap-of 2 (omega arith))))

pub returns-in-SmallInt : goal.returns-in-SmallInt
returns-in-SmallInt c = let a = c.args in
    rw c.plain_turn-in-SmallInt.ensures
    (plain_cell a.s.now a.next c.requires (cell-of (drop 1 a.p.now) _ c.in-SmallInt.is) refl (size-integer 2 _) (sym (cap-of 3 (omega arith))))

pub returns-in-Int : goal.returns-in-Int
returns-in-Int c = let a = c.args in
    rw c.plain_turn-in-Int.ensures
    (plain_cell a.s.now a.next c.requires (cell-of (drop 1 a.p.now) _ c.in-Int.is) refl (size-integer 4 _) (sym (cap-of 5 (omega arith))))

pub returns-in-BigInt : goal.returns-in-BigInt
returns-in-BigInt c = let a = c.args in
    rw c.plain_turn-in-BigInt.ensures
    (plain_cell a.s.now a.next c.requires (cell-of (drop 1 a.p.now) _ c.in-BigInt.is) refl (size-integer 8 _) (sym (cap-of 9 (omega arith))))

pub returns-in-NVarChar : goal.returns-in-NVarChar
returns-in-NVarChar c = let a = c.args in
    rw c.plain_turn-in-NVarChar.ensures
    (plain_cell a.s.now a.next c.requires (cell-of (drop 1 a.p.now) _ c.in-NVarChar.is) refl (size-bounded _) (c.grown.ensures ∙ cap-same (ap (λ (x : List ℕ). 2 + length x) c.rest_after.ensures)))

pub returns-in-NVarCharMax : goal.returns-in-NVarCharMax
returns-in-NVarCharMax c = let a = c.args in
    rw (cell-of (drop 1 a.p.now) (ahead 6 (records (drop a.next a.s.now))) c.in-NVarCharMax.is) c.chunked_turn.ensures

pub returns-in-NVarCharMaxNull : goal.returns-in-NVarCharMaxNull
returns-in-NVarCharMaxNull c = let a = c.args in
    rw c.plain_turn-in-NVarCharMaxNull.ensures
    (plain_cell a.s.now a.next c.requires (cell-of (drop 1 a.p.now) _ c.in-NVarCharMaxNull.is) refl (size-no-long) (sym (cap-of 8 (omega arith))))

pub returns-in-VarCharMax : goal.returns-in-VarCharMax
returns-in-VarCharMax c = let a = c.args in
    rw (cell-of (drop 1 a.p.now) (ahead 6 (records (drop a.next a.s.now))) c.in-VarCharMax.is) c.chunked_turn-in-VarCharMax.ensures

pub returns-in-VarBinaryMax : goal.returns-in-VarBinaryMax
returns-in-VarBinaryMax c = let a = c.args in
    rw (cell-of (drop 1 a.p.now) (ahead 6 (records (drop a.next a.s.now))) c.in-VarBinaryMax.is) c.chunked_turn-in-VarBinaryMax.ensures

pub returns-in-Null : goal.returns-in-Null
returns-in-Null c = let a = c.args in
    rw c.plain_turn-in-Null.ensures
    (plain_cell a.s.now a.next c.requires (cell-of (drop 1 a.p.now) _ c.in-Null.is) refl (size-no-integer) (sym (cap-of 1 (omega arith))))
