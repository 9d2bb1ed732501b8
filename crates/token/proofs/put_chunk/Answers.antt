-- `token::put_chunk` meets its contract. Assumes nothing.
use Rattle.token.proofs.Puts.{put-counted}
use Rattle.token.proofs.put_chunk.Goals as goal

pub returns : goal.returns
returns c = put-counted 4 _ c.put_u32_le.ensures c.put_slice.ensures
