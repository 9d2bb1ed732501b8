-- `token::put_row` meets its contract. Assumes nothing.
use Rattle.wire.proofs.Puts.{then, ended}
use Rattle.wire.specs.Fields.{flat}
use Rattle.token.specs.Tokens.{token_bytes}
use Rattle.token.proofs.put_row.Goals as goal

pub returns : goal.returns
unfolding token_bytes flat
returns c = then c.put_u8.ensures (ended c.put_u8.ensures)
