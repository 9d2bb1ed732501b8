-- `wire::bytes_at` meets its contract. The loop's invariant: the first i bytes are those at the place, or 0. Assumes nothing.
use Rattle.std.proofs.Common.{ℕ, ◌≡◌, ◌≢◌, ◌-◌, ◌<◌, take, drop, length, arith, ◌∙◌, length-set, get_or-set_other, get_or-set_same, below_more}
use Rattle.std.proofs.lemmas.List.{length-replicate}
use Rattle.wire.proofs.Std.{rest-min, first-take, first-each, le-get}
use Rattle.wire.proofs.bytes_at.Goals as goal

pub returns-in-Some : goal.returns-in-Some
returns-in-Some g c = let a = c.args in
    let rest : take (length a.s.now - c.min.result) (drop c.min.result a.s.now) ≡ drop a.at a.s.now = rest-min a.s.now a.at c.min.result c.min.ensures in
    let e = rw rest at c.in-Some.ensures.cases in e.same ∙ first-take g.row.N (drop a.at a.s.now) (omega arith)

pub loop-i-init : goal.loop-i-init
loop-i-init g c = (length-replicate g.row.N 0, λ k h. absurd (omega arith))

pub loop-i-preserved : goal.loop-i-preserved
loop-i-preserved g c =
    let i : ℕ = c.loop-i.i in
    let long : length c.loop-i.bytes ≡ g.row.N = c.loop-i.invariant.0 in (
      length-set c.loop-i.bytes i c.get_u8.result ∙ long,
      below_more _ _
          (λ k h. let ne : k ≢ i = omega arith in rw get_or-set_other (c.loop-i.invariant.1 k h))
          (let lt : i < length c.loop-i.bytes = omega (arith, long) in rw get_or-set_same (c.get_u8.ensures ∙ le-get i _)),
    )

pub returns-after-loop-i : goal.returns-after-loop-i
returns-after-loop-i g c = let a = c.args in
    let rest : take (length a.s.now - c.min.result) (drop c.min.result a.s.now) ≡ drop a.at a.s.now = rest-min a.s.now a.at c.min.result c.min.ensures in
    let e = rw rest at c.loop-i.invariant.1 in
    first-each g.row.N c.loop-i.bytes (drop a.at a.s.now) c.loop-i.invariant.0 (λ k h. e k (omega arith))
