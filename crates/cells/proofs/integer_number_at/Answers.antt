-- `cells::integer_number_at` meets its contract. Assumes nothing.
use native.Mathlib.Omega.{arith}
use Rattle.cells.proofs.CodeTypes.{width-last}
use Rattle.cells.proofs.integer_number_at.Goals as goal

pub returns-in-1 : goal.returns-in-1
returns-in-1 c = rw c.in-1.is c.u8_at.ensures

pub returns-in-2 : goal.returns-in-2
returns-in-2 c = rw c.in-2.is c.u16_at.ensures

pub returns-in-4 : goal.returns-in-4
returns-in-4 c = rw c.in-4.is c.u32_at.ensures

pub returns-in_default : goal.returns-in_default
returns-in_default c =
    rw (width-last c.args.width c.requires (λ e. absurd (omega arith)) (λ e. absurd (omega arith)) (λ e. absurd (omega arith))) c.u64_at.ensures
