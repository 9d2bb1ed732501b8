-- All of an input that a script may have was read; of a longer one so much that it is longer.
use Rattle.std.proofs.Common.{rules}
use Rattle.reply.proofs.Whole.{ended, past}
use Rattle.reply.proofs.answer_input.Goals as goal

pub returns-then-n-le-MOST : goal.returns-then-n-le-MOST
returns-then-n-le-MOST g c =
    ended c.reply.result _ _ _ _ _ _ c.in_ok-n.n (search rules) (search rules) c.in_ok-n.ensures.bytes c.in_ok-n.ensures.end c.part_of.ensures c.reply.ensures

pub returns-else-n-le-MOST : goal.returns-else-n-le-MOST
returns-else-n-le-MOST g c =
    past c.refused.result _ _ _ _ _ c.in_ok-n.n (search rules) (search rules) c.in_ok-n.ensures.bytes c.refused.ensures
