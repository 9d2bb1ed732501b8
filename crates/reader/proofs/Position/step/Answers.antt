-- `reader::Position::step` meets its contract. Assumes nothing.
use mathlib.Core.Path.{◌≡◌, ap}
use native.Mathlib.Omega.{arith}
use lib.ListN.{length}
use borrow.Author.Rules.{rules}
use Rattle.reader.specs.Reader.{StepOf}
use Rattle.reader.proofs.CodeSteps.{stepped}
use Rattle.reader.proofs.CodeSpots.{by_token, kept, placed, past}
use Rattle.reader.proofs.Position.step.Goals as goal

pub returns-in-Err : goal.returns-in-Err
returns-in-Err c = let a = c.args in
    let e = rw c.in-Err.is at (stepped a.packets.now a.self c.held_in.ensures c.got_at.ensures) in
    record { answer = ap (λ (s : StepOf). s.answer) e; next = ap (λ (s : StepOf). s.next) e }

pub returns-in-Ok-None : goal.returns-in-Ok-None
returns-in-Ok-None c = let a = c.args in
    let e = rw (c.in-Ok-None.is, c.in-Ok-None.field-0-is) at (stepped a.packets.now a.self c.held_in.ensures c.got_at.ensures) in
    record { answer = ap (λ (s : StepOf). s.answer) e; next = ap (λ (s : StepOf). s.next) e }

pub returns-then-i-lt-MAX_COLUMNS : goal.returns-then-i-lt-MAX_COLUMNS
returns-then-i-lt-MAX_COLUMNS c = let a = c.args in
    let e = rw (c.in-Ok-Some.is, c.in-Ok-Some.field-0-is, ← c.in-Ok-Some.got-is) at (stepped a.packets.now a.self c.held_in.ensures c.got_at.ensures) in
    let t = by_token a.packets.now a.self _ e (placed a.self _ _ _ _ _ _ _ _ c.in-Column.is c.saturating_sub-i.ensures c.spot_after-next.ensures) in
    record { answer = ap (λ (s : StepOf). s.answer) t; next = ap (λ (s : StepOf). s.next) t }

pub returns-else-i-lt-MAX_COLUMNS : goal.returns-else-i-lt-MAX_COLUMNS
returns-else-i-lt-MAX_COLUMNS c = let a = c.args in
    let types : length a.self.types ≡ 128 = search (rules, c.well_formed) in
    let limits : length a.self.limits ≡ 128 = search (rules, c.well_formed) in
    let e = rw (c.in-Ok-Some.is, c.in-Ok-Some.field-0-is, ← c.in-Ok-Some.got-is) at (stepped a.packets.now a.self c.held_in.ensures c.got_at.ensures) in
    let t = by_token a.packets.now a.self _ e (past a.self _ _ _ _ _ _ _ _ c.in-Column.is c.saturating_sub-i.ensures c.spot_after-next.ensures (omega arith) (omega arith)) in
    record { answer = ap (λ (s : StepOf). s.answer) t; next = ap (λ (s : StepOf). s.next) t }

pub returns-in_default : goal.returns-in_default
returns-in_default c = let a = c.args in
    let e = rw (c.in-Ok-Some.is, c.in-Ok-Some.field-0-is, ← c.in-Ok-Some.got-is) at (stepped a.packets.now a.self c.held_in.ensures c.got_at.ensures) in
    let t = by_token a.packets.now a.self _ e (kept a.self _ _ _ c.in_default.not-Column c.spot_after-next.ensures) in
    record { answer = ap (λ (s : StepOf). s.answer) t; next = ap (λ (s : StepOf). s.next) t }
