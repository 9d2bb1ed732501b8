-- `emission::emitted_size` meets its contract. Assumes nothing.
use mathlib.Core.Path.{sym, ◌∙◌}
use native.Mathlib.Omega.{arith}
use Rattle.script.proofs.Walk
use Rattle.script.proofs.Stops.{no_record}
use Rattle.emission.proofs.Replies.{sizes-first, sizes-none, walked-cut, walked_end}
use Rattle.emission.proofs.emitted_size.Goals as goal

pub overflow_add-next : goal.overflow_add-next
overflow_add-next c = omega (arith, (Walk.lies c.args.s.now 0 (sym c.record_at.ensures ∙ c.in-Record.is)))

pub slice_bounds-reply_size-start : goal.slice_bounds-reply_size-start
slice_bounds-reply_size-start c = omega (arith, (Walk.lies c.args.s.now 0 (sym c.record_at.ensures ∙ c.in-Record.is)))

pub slice_bounds-reply_size-end : goal.slice_bounds-reply_size-end
slice_bounds-reply_size-end c = omega (arith, (Walk.lies c.args.s.now 0 (sym c.record_at.ensures ∙ c.in-Record.is)))

pub reply_size-requires : goal.reply_size-requires
reply_size-requires c = (Walk.lies c.args.s.now 0 (sym c.record_at.ensures ∙ c.in-Record.is)).1

pub returns : goal.returns
returns c = sizes-first c.args.s.now _ c.in-Record.start c.in-Record.len c.reply_size.result (sym c.record_at.ensures ∙ c.in-Record.is) c.reply_size.ensures

pub returns-in_default : goal.returns-in_default
returns-in_default c = let s = c.args.s.now in
    sizes-none s (no_record c.record_at.ensures c.in_default.not-Record (walked-cut s) (walked_end s))
