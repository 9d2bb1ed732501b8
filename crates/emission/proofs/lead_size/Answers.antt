-- `emission::lead_size` meets its contract. Assumes nothing.
use Rattle.wire.specs.Part.{part_bytes}
use mathlib.Core.Path.{sym, ap, ◌∙◌}
use native.Mathlib.Omega.{arith}
use Prim.Native.Nat.{ℕ, ◌+◌}
use lib.ListN.{length, drop}
use mathlib.Core.List.{List}
use Rattle.std.specs.Prelude.{Option}
use Rattle.wire.specs.declared.Part.{Part}
use Rattle.emission.specs.Emission.{bytes_in, leading_status}
use Rattle.emission.specs.Walk.{lead_pieces}
use Rattle.emission.specs.Runs.{capped, error_found}
use Rattle.emission.proofs.Sizes.{cap-of, cap-same, size-nothing}
use Rattle.emission.proofs.Replies.{size-error}
use Rattle.emission.proofs.lead_size.Goals as goal

pub returns-in-Some : goal.returns-in-Some
returns-in-Some c = let p = part_bytes c.args.s.now c.in-Some.part in
    c.error_size.ensures ∙ ap (λ (x : List ℕ). capped (30 + length (drop 5 x))) c.part_of.ensures ∙ cap-same (sym (size-error leading_status p))
    ∙ ap (λ (e : Option Part). capped (length (bytes_in (lead_pieces leading_status (error_found c.args.s.now e))))) (sym c.in-Some.is)

pub returns-in-None : goal.returns-in-None
returns-in-None c = sym (cap-of 0 (omega arith)) ∙ cap-same (sym size-nothing)
    ∙ ap (λ (e : Option Part). capped (length (bytes_in (lead_pieces leading_status (error_found c.args.s.now e))))) (sym c.in-None.is)
