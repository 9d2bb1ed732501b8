-- `token::put_bigint` meets its contract. Assumes nothing.
use Rattle.wire.proofs.Puts.{then, ended}
use Rattle.wire.specs.Fields.{flat}
use Rattle.token.specs.Tokens.{token_bytes}
use Rattle.token.proofs.put_bigint.Goals as goal

pub returns : goal.returns
unfolding token_bytes flat
returns c = then c.put_u8.ensures (then c.put_u64_le.ensures (ended c.put_u64_le.ensures))
