-- `result::put_error` meets its contract. Assumes nothing.
use Rattle.wire.specs.Puts.{Puts}
use Rattle.token.specs.Tokens.{token_bytes}
use Rattle.emission.specs.Emission.{error_token, done_token}
use Rattle.result.proofs.Writes.{put_two}
use Rattle.result.proofs.put_error.Goals as goal

pub returns : goal.returns
returns c = let a = c.args in
    let p = a.p.now in
    let error : Puts _ (token_bytes (error_token p)) _ = rw (c.rest_after.ensures, c.get_u8.ensures, c.get_u32_le.ensures) at c.put_message.ensures in
    put_two (error_token p) (done_token a.status 0) error c.put_done.ensures
