-- `station::steps::is_type` meets its contract. Assumes nothing.
use native.Mathlib.Omega.{arith}
use Rattle.station.proofs.TypeSlots.{int-typed, max-typed, small-typed, text-typed}
use Rattle.station.proofs.steps.is_type.Goals as goal
use Rattle.station.proofs.steps.is_type.Goals.{in_default-via-then-slot-lt2490369, in_default-via-else-slot-lt2490369+else-slot-lt2490371}

pub returns-in-15204351 : goal.returns-in-15204351
returns-in-15204351 c = max-typed _ c.in-15204351.is

pub returns-in_default : goal.returns-in_default
returns-in_default c = let m = c.in_default-1.rest in text-typed c.args.slot m.0.1 m.1 (λ h. elim c.in_default.branch [ in_default-via-then-slot-lt2490369 w ↦ omega arith | in_default-via-else-slot-lt2490369+else-slot-lt2490371 w ↦ omega arith ])

pub returns-in-2490369 : goal.returns-in-2490369
returns-in-2490369 c = int-typed _ c.in-2490369.is

pub returns-in-2490369-2 : goal.returns-in-2490369-2
returns-in-2490369-2 c = small-typed _ c.in-2490369.if-slot-lt2490369-own.false c.in-2490369.if-slot-lt2490371-own.true
