-- `token::put_nvarchar` meets its contract. Assumes nothing.
use Rattle.token.proofs.Puts.{put-counted}
use Rattle.token.specs.Tokens.{token_bytes}
use Rattle.token.proofs.put_nvarchar.Goals as goal

pub returns : goal.returns
unfolding token_bytes
returns c = put-counted 2 _ c.put_u16_le.ensures c.put_slice.ensures
