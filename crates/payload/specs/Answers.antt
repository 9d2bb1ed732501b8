-- The answers of the functions that read a number or a part, from what reading comes to. Rests on Places.
use Rattle.std.specs.Prelude.{ℕ, ◌<◌, ◌^◌, Result, Ok, Err}
use Rattle.refusals.specs.declared.Refusal.{Refusal}
use Rattle.wire.specs.declared.Part.{Part}
use Rattle.payload.specs.declared.NumberAt.{NumberAt}
use Rattle.payload.specs.declared.PartAt.{PartAt}
use Rattle.payload.specs.Places.{Read, whole, refused}

abbrev pub number_read : Read ℕ → Result NumberAt ℕ
number_read (whole n at) = Ok (record { value = n; next = at })
number_read (refused r) = Err r

abbrev pub part_read : Read Part → Result PartAt ℕ
part_read (whole p at) = Ok (record { part = p; next = at })
part_read (refused r) = Err r

-- a number that was read fits k bytes
abbrev pub Below : ℕ → Result NumberAt Refusal → Type 0
Below k (Ok n) = n.value < 256 ^ k
Below k (Err r) = Unit {0}
