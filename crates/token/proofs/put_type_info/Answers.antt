-- `token::put_type_info` meets its contract. Assumes nothing.
use Rattle.wire.proofs.Puts.{then, ended}
use Rattle.token.proofs.Puts.{put-low, type-fields, width_one, width_two}
use Rattle.token.proofs.put_type_info.Goals as goal

pub returns-then-code-eq38 : goal.returns-then-code-eq38
returns-then-code-eq38 c = let code = c.tds_type_code-code in
    let limit = c.max_length-limit.result in
    let low = put-low 1 limit c.put_u8-then-code-eq38.ensures in
    rw (← code.ensures, ← c.max_length-limit.ensures) (type-fields code.result limit 1 (width_one code.result c.if-code-eq38.true) (then c.put_u32_le.ensures (then c.put_u16_le.ensures (then c.put_u8.ensures (then low (ended low))))))

pub returns : goal.returns
returns c = let code = c.tds_type_code-code in
    let limit = c.max_length-limit.result in
    let last = c.put_u16_le-2.ensures in
    rw (← code.ensures, ← c.max_length-limit.ensures) (type-fields code.result limit 2 (width_two code.result c.if-code-eq38.false) (then c.put_u32_le.ensures (then c.put_u16_le.ensures (then c.put_u8.ensures (then last (ended last))))))
