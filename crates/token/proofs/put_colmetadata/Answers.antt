-- `token::put_colmetadata` meets its contract. Assumes nothing.
use Rattle.wire.proofs.Puts.{then, ended}
use Rattle.token.proofs.Puts.{put-low}
use Rattle.wire.specs.Fields.{flat}
use Rattle.token.specs.Tokens.{token_bytes}
use Rattle.token.proofs.put_colmetadata.Goals as goal

pub returns : goal.returns
unfolding token_bytes flat
returns c = then c.put_u8.ensures (then (put-low 2 c.args.count c.put_u16_le.ensures) (ended (put-low 2 c.args.count c.put_u16_le.ensures)))
