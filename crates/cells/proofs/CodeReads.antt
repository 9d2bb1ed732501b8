-- What the answers for a type and a cell tell. Assumes nothing.
use mathlib.Core.Path.{◌≡◌}
use Rattle.wire.proofs.Cases.{clash}
use Rattle.payload.specs.Places.{Read, whole, refused}
use Rattle.std.specs.Prelude.{Result, Ok, Err}
use Rattle.refusals.specs.declared.Refusal.{Refusal}
use Rattle.refusals.specs.Refused.{number, numbered}
use Rattle.cells.specs.declared.TypeInfo.{TypeInfo}
use Rattle.cells.specs.declared.TypeAt.{TypeAt}
use Rattle.cells.specs.declared.Value.{Value}
use Rattle.cells.specs.declared.CellAt.{CellAt}
use Rattle.cells.specs.Answers.{type_read, cell_read}

pub type-is : (x : Read TypeInfo) {r : Result TypeAt Refusal} {t : TypeAt} → numbered r ≡ type_read x → r ≡ Ok t → x ≡ whole t.info t.next
type-is x {t = t} e f = go x (rw f at e)
  where
    go : (x : Read TypeInfo) → Ok t ≡ type_read x → x ≡ whole t.info t.next
    go (whole v to) e = let q : t ≡ record { info = v; next = to } = cc in rw q
    go (refused m) e = clash (cc)

pub type-is-not : (x : Read TypeInfo) {r : Result TypeAt Refusal} {m : Refusal} → numbered r ≡ type_read x → r ≡ Err m → x ≡ refused (number m)
type-is-not x {m = m} e f = go x (rw f at e)
  where
    go : (x : Read TypeInfo) → Err (number m) ≡ type_read x → x ≡ refused (number m)
    go (whole v to) e = clash (cc)
    go (refused n) e = cc

pub cell-is : (x : Read Value) {r : Result CellAt Refusal} {v : CellAt} → numbered r ≡ cell_read x → r ≡ Ok v → x ≡ whole v.value v.next
cell-is x {v = v} e f = go x (rw f at e)
  where
    go : (x : Read Value) → Ok v ≡ cell_read x → x ≡ whole v.value v.next
    go (whole u to) e = let q : v ≡ record { value = u; next = to } = cc in rw q
    go (refused m) e = clash (cc)

pub cell-is-not : (x : Read Value) {r : Result CellAt Refusal} {m : Refusal} → numbered r ≡ cell_read x → r ≡ Err m → x ≡ refused (number m)
cell-is-not x {m = m} e f = go x (rw f at e)
  where
    go : (x : Read Value) → Err (number m) ≡ cell_read x → x ≡ refused (number m)
    go (whole v to) e = clash (cc)
    go (refused n) e = cc
