-- `result::put_turn` meets its contract. Assumes nothing.
use mathlib.Core.Logic.{inl, inr}
use lib.ListN.{drop}
use borrow.Author.Tests.{ne_eqb}
use Rattle.script.specs.Records.{records}
use Rattle.token.specs.Tokens.{row}
use Rattle.emission.specs.Emission.{info_token, done_token, more_status}
use Rattle.emission.specs.Walk.{begin_pieces, pieces_of}
use Rattle.result.proofs.Writes.{put_one, put-before, put-none}
use Rattle.emission.proofs.Turns.{goes-here}
use Rattle.result.proofs.put_turn.Goals as goal

pub returns-in-1 : goal.returns-in-1
unfolding pieces_of
returns-in-1 c = let a = c.args in
    let set = c.put_set.ensures in
    rw c.in-1.is (record { puts = put-before (done_token more_status a.rows) (begin_pieces a.p.now (records (drop a.next a.s.now))) c.put_done.ensures set.puts; goes = set.goes })

pub returns-in-3 : goal.returns-in-3
unfolding pieces_of
returns-in-3 c = let a = c.args in
    elim c.in-3.is [
      | inl e ↦ rw e (record { puts = put_one (info_token a.p.now) c.put_info.ensures; goes = goes-here a.s.now a.next c.requires.1 })
      | inr e ↦ rw e (record { puts = put_one (info_token a.p.now) c.put_info.ensures; goes = goes-here a.s.now a.next c.requires.1 })
    ]

pub returns-in-4 : goal.returns-in-4
unfolding pieces_of
returns-in-4 c = let a = c.args in
    rw c.in-4.is (record { puts = put_one (row) c.put_row.ensures; goes = goes-here a.s.now a.next c.requires.1 })

pub returns-in-5 : goal.returns-in-5
unfolding pieces_of
returns-in-5 c = rw c.in-5.is c.put_cell.ensures

pub returns-in_default : goal.returns-in_default
unfolding pieces_of
returns-in_default c = let a = c.args in
    let h = c.in_default.in_default-own.rest in
    simp (ne_eqb _ _ h.0.0.0.1, ne_eqb a.kind 3 (λ e. h.0.0.1 (inl e)), ne_eqb a.kind 9 (λ e. h.0.0.1 (inr e)), ne_eqb _ _ h.0.1, ne_eqb _ _ h.1) (record { puts = put-none a.w.now c.requires.0; goes = goes-here a.s.now a.next c.requires.1 })
