-- `token::put_message` meets its contract. Assumes nothing.
use mathlib.Core.Path.{◌≡◌}
use mathlib.Core.List.{[], ◌∷◌}
use Rattle.wire.specs.Fields.{flat, word}
use Rattle.wire.proofs.Puts.{then, ended, put_as, then-fields}
use Rattle.token.specs.Tokens.{token_bytes, message_length, message_head, us_varchar, b_varchar}
use Rattle.token.proofs.Puts.{head-size}
use Rattle.token.proofs.put_message.Goals as goal

pub returns : goal.returns
unfolding token_bytes flat
returns c = let a = c.args.m.now in
    let t = a.text.now in
    let v = a.server.now in
    let p = a.procedure.now in
    let size = message_length t v p in
    let head = message_head a.kind size a.number a.state a.class [] in
    let line = word 4 a.line ∷ [] in
    let size_is : flat (message_head a.kind c.message_length-size.result a.number a.state a.class []) ≡ flat head = rw c.message_length-size.ensures (head-size a.kind size a.number a.state a.class) in
    then-fields head (us_varchar t (b_varchar v (b_varchar p line))) (put_as c.put_message_head.ensures size_is)
    (then-fields (us_varchar t []) (b_varchar v (b_varchar p line)) c.put_us_varchar.ensures
    (then-fields (b_varchar v []) (b_varchar p line) c.put_b_varchar.ensures
    (then-fields (b_varchar p []) line c.put_b_varchar-2.ensures (then c.put_u32_le.ensures (ended c.put_u32_le.ensures)))))
