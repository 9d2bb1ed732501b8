-- `text::is_whitespace` meets its contract. Assumes nothing.
use borrow.Author.Rules.{rules}
use native.Mathlib.Omega.{arith}
use mathlib.Core.Path.{◌≡◌, sym}
use mathlib.Core.Bool.{true, false}
use mathlib.Core.List.{List, [], ◌∷◌}
use Prim.Native.Nat.{ℕ, ◌≤◌, ◌<◌}
use lib.ListN.{get_or}
use types.Run.{OneOf}
use lib.Dec.{lit<}
use Rattle.text.specs.Space.{is_whitespace, blanks, in_any}
use Rattle.text.proofs.Spans.{inside, outside, nones, one-of, only}
use Rattle.text.proofs.is_whitespace.Goals as goal

-- the single numbers of the match, but the first
abbrev keys : List ℕ
keys = 0x0085 ∷ 0x00a0 ∷ 0x1680 ∷ 0x202f ∷ 0x205f ∷ 0x3000 ∷ []

-- in no span, from what the match tells of the single numbers and of its three ranges
in-none : (u : ℕ) → (OneOf (0x0020 ∷ keys) u → ⊥) → (0x0009 ≤ u → u ≤ 0x000d → ⊥) → (0x2000 ≤ u → u ≤ 0x200a → ⊥) → (0x2028 ≤ u → u ≤ 0x2029 → ⊥) → false ≡ is_whitespace u
unfolding is_whitespace
in-none u f a b d =
    let n = nones 0x0020 keys u f in
    sym (outside u blanks (a, (only n.0, (only n.1.0, (only n.1.1.0, (only n.1.1.1.0, (b, (d, (only n.1.1.1.1.0, (only n.1.1.1.1.1.0, (only n.1.1.1.1.1.1.0, tt)))))))))))

-- in span number i
in_one : (u i : ℕ) → i < 10 → (get_or blanks i (0, 0)).0 ≤ u → u ≤ (get_or blanks i (0, 0)).1 → true ≡ is_whitespace u
unfolding is_whitespace
in_one u i h lo hi = sym (inside u blanks i (0, 0) h lo hi)

pub returns-in_default : goal.returns-in_default
returns-in_default c = let u = c.args.u in
    in-none u c.in_default.in_default-own.rest.1 (omega arith) (omega arith) (omega arith)

pub returns-in_default-2 : goal.returns-in_default-2
returns-in_default-2 c = let u = c.args.u in
    in-none u c.in_default.in_default-own.rest.1 (omega arith) (omega arith) (omega arith)

pub returns-in_default-3 : goal.returns-in_default-3
returns-in_default-3 c = let u = c.args.u in
    in-none u c.in_default.in_default-own.rest.1 (omega arith) (omega arith) (omega arith)

pub returns-in_default-4 : goal.returns-in_default-4
returns-in_default-4 c = let u = c.args.u in
    in-none u c.in_default.in_default-own.rest.1 (omega arith) (omega arith) (omega arith)

pub returns-in-9-to-13 : goal.returns-in-9-to-13
unfolding is_whitespace in_any
returns-in-9-to-13 c = let u = c.args.u in sym (one-of is_whitespace 0x0020 keys u (search rules) c.in-9-to-13.in-9-to-13-own.keys1)

pub returns-in-9-to-13-2 : goal.returns-in-9-to-13-2
returns-in-9-to-13-2 c = let u = c.args.u in in_one u 0 (lit< tt) (omega arith) (omega arith)

pub returns-in-9-to-13-3 : goal.returns-in-9-to-13-3
returns-in-9-to-13-3 c = let u = c.args.u in
    in_one u 5 (lit< tt) (omega arith) (omega arith)

pub returns-in-9-to-13-4 : goal.returns-in-9-to-13-4
returns-in-9-to-13-4 c = let u = c.args.u in
    in_one u 6 (lit< tt) (omega arith) (omega arith)
