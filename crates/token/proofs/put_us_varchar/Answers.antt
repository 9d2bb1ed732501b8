-- `token::put_us_varchar` meets its contract. Assumes nothing.
use Rattle.token.proofs.Puts.{put-counted}
use Rattle.token.proofs.put_us_varchar.Goals as goal

pub returns : goal.returns
returns c = put-counted 2 _ (rw c.units.ensures at c.put_u16_le.ensures) c.put_slice.ensures
