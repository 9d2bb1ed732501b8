-- `windows1252::fault_of` meets its contract. Assumes nothing.
use mathlib.Core.Path.{sym, ◌∙◌}
use native.Mathlib.Omega.{arith}
use Rattle.windows1252.proofs.CodeWrites.{fault-odd, fault-byte, fault-long, fault-none}
use Rattle.windows1252.proofs.fault_of.Goals as goal

pub returns-then-text-ne0 : goal.returns-then-text-ne0
returns-then-text-ne0 c = fault-odd c.args.text.now c.if-text-ne0.true

pub returns-then-not-have_bytes : goal.returns-then-not-have_bytes
returns-then-not-have_bytes c = fault-byte c.args.text.now c.if-text-ne0.false (sym c.have_bytes.ensures ∙ c.if-not-have_bytes.true)

pub returns-then-text-gt-MOST_CHARACTERS : goal.returns-then-text-gt-MOST_CHARACTERS
returns-then-text-gt-MOST_CHARACTERS c = fault-long c.args.text.now c.if-text-ne0.false (sym c.have_bytes.ensures ∙ c.if-not-have_bytes.false) c.if-text-gt-MOST_CHARACTERS.true

pub returns : goal.returns
returns c = fault-none c.args.text.now c.if-text-ne0.false (sym c.have_bytes.ensures ∙ c.if-not-have_bytes.false) (omega (arith, c.if-text-gt-MOST_CHARACTERS.false))
