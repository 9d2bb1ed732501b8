-- What is answered of a call whose head and parameters were read. Assumes nothing.
use mathlib.Core.Path.{◌≡◌, sym, ap, ◌∙◌}
use mathlib.Core.Bool.{not, ◌&&◌}
use mathlib.Core.List.{List, [], ◌∷◌}
use Prim.Native.Nat.{ℕ}
use Rattle.std.specs.Prelude.{Result, Ok, Err}
use Rattle.refusals.specs.declared.Refusal.{Refusal}
use Rattle.refusals.specs.Refused.{number, numbered}
use Rattle.wire.proofs.Cases.{by-test, clash}
use Rattle.payload.specs.Places.{Place, Read, whole, refused, must, then}
use Rattle.rpc.specs.declared.Head.{Head}
use Rattle.rpc.specs.declared.ParameterAt.{ParameterAt}
use Rattle.rpc.specs.declared.Seen.{Seen}
use Rattle.rpc.specs.Rpc.{runs_statement, is_empty, Sent, told}
use Rattle.rpc.specs.Answers.{seen_in, parameters_read, told_of}

-- a call from its head and its parameters
abbrev sent : Head → List ParameterAt → Place → Read Sent
sent h ps to = must (not (runs_statement h.procedure && is_empty ps)) 30 (whole (record { head = h; parameters = ps }) to)

sent-told : (number : ℕ) (h : Head) (ps : List ParameterAt) (to : Place) → told number (sent h ps to) ≡ told_of h (seen_in number ps)
unfolding must
sent-told number h [] to = by-test (runs_statement h.procedure) (λ e. rw e) (λ e. rw (e, e))
sent-told number h (p ∷ ps) to = by-test (runs_statement h.procedure) (λ e. rw (e, e)) (λ e. rw (e, e))

module _ (asked : ℕ) (h : Head) where
  pub parameters-got : (x : Read (List ParameterAt)) {r : Result Seen Refusal} {seen : Seen} → numbered r ≡ parameters_read asked x → r ≡ Ok seen
      → told asked (then x (sent h)) ≡ told_of h seen
  unfolding then
  parameters-got (whole ps to) {seen = seen} e f = let q = rw f at e in let g : seen ≡ seen_in asked ps = cc in sent-told asked h ps to ∙ ap (told_of h) (sym g)
  parameters-got (refused n) e f = let q = rw f at e in clash (cc)

  pub parameters-not : (x : Read (List ParameterAt)) {r : Result Seen Refusal} {n : Refusal} → numbered r ≡ parameters_read asked x → r ≡ Err n
      → told asked (then x (sent h)) ≡ Err (number n)
  unfolding then
  parameters-not (whole ps to) e f = let q = rw f at e in clash (cc)
  parameters-not (refused m) {n = n} e f = let q = rw f at e in let g : m ≡ number n = cc in rw g
