-- `token::put_plp_null` meets its contract. Assumes nothing.
use Rattle.wire.proofs.Puts.{then, ended}
use Rattle.wire.specs.Fields.{flat}
use Rattle.token.specs.Tokens.{token_bytes}
use Rattle.token.proofs.put_plp_null.Goals as goal

pub returns : goal.returns
unfolding token_bytes flat
returns c = then c.put_u64_le.ensures (ended c.put_u64_le.ensures)
