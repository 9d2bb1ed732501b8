-- What the private functions of this crate promise each other, and nobody else. Rests on Agreed.
use Rattle.std.specs.Prelude.{ℕ, ◌+◌, ◌-◌, ◌*◌, ◌≤◌, ◌≡◌}
use Rattle.packet.specs.Agreed.{part_count}

-- a payload that is being cut in place: what is left of it stands from a place up to total, in lent bytes; the next packet
-- goes to the place at, and all packets left end at total too
pub record Stands (room at place total lent : ℕ) : Type 0 where
  pub some : 1 ≤ room
  pub within : place ≤ total
  pub fits : total ≤ lent
  pub ends : place ≡ at + part_count room (total - place) * 8
