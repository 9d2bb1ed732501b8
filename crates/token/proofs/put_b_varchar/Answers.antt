-- `token::put_b_varchar` meets its contract. Assumes nothing.
use Rattle.token.proofs.Puts.{put-counted}
use Rattle.token.proofs.put_b_varchar.Goals as goal

pub returns : goal.returns
returns c = put-counted 1 _ (rw c.units.ensures at c.put_u8.ensures) c.put_slice.ensures
