-- Parts that lie within so many bytes, and a value's. Rests on wire's parts.
use Rattle.std.specs.Prelude.{ℕ, ◌+◌, ◌≤◌}
use Rattle.wire.specs.declared.Part.{Part}
use Rattle.cells.specs.declared.Value.{Value}
use Rattle.cells.specs.declared.Value.TheVariants as value

-- a part that ends within n bytes
abbrev pub PartIn : ℕ → Part → Type 0
PartIn n part = part.start + part.len ≤ n

abbrev pub ValueIn : ℕ → Value → Type 0
ValueIn n (value.Number number) = Unit {0}
ValueIn n (value.Part part) = PartIn n part
ValueIn n (value.Max part) = PartIn n part
ValueIn n value.Null = Unit {0}
