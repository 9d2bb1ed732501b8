-- `windows1252::have_bytes` meets its contract. Assumes nothing.
use mathlib.Core.Path.{◌∙◌, ap, sym}
use borrow.Author.Rules.{rules}
use borrow.Author.Tests.{tests}
use Rattle.std.proofs.iter.Serving.{serving}
use Rattle.std.proofs.lemmas.Iterator.{YieldsList-from_slice}
use Rattle.std.proofs.lemmas.Iterator.Search.{all_from_yields_List}
use Rattle.wire.specs.Le.{le_at}
use Rattle.windows1252.specs.Table.{table, has_byte, have_bytes}
use Rattle.windows1252.proofs.Texts.{units-in-pairs, have-all}
use Rattle.windows1252.proofs.have_bytes.Goals as goal

pub all-requires-clause-callable : goal.all-requires-clause-callable
unfolding table
all-requires-clause-callable c = grind serving

pub returns : goal.returns
returns c =
    all_from_yields_List (λ pair. has_byte (le_at 2 pair)) _ _ _ c.all.ensures.ran (YieldsList-from_slice c.as_chunks.result.0.now cc) (λ x b q k. search (rules, tests))
    ∙ have-all c.as_chunks.result.0.now ∙ ap have_bytes (rw c.as_chunks.ensures.front (sym (units-in-pairs c.args.text.now)))
