-- What the slots of a position stand for from call to call, and what a run of calls answers: three statements, proved in proofs/Lasting.
-- Rests on Steps and on reader's runs.
use Rattle.std.specs.Prelude.{ℕ, zero, suc, ◌≤◌, ◌≡◌, List, length, pos}
use Rattle.reader.specs.Positions.{fresh_position}
use Rattle.reader.specs.Reader.{step_of, answer_of as nth_answer}
use Rattle.station.specs.Answer.{answer_of, slots_of}
use Rattle.station.specs.Steps.{position_of, fresh_slots, fresh_call, step_outcome, step_call, position_left}

-- the slots that `station_fresh` writes stand for the fresh position
abbrev pub FreshStands : Type 0
FreshStands = position_of fresh_slots ≡ fresh_position

-- where `station_step` answers 1, the slots that it leaves stand for the next position
abbrev pub NextStands : Type 0
NextStands =
    (packets position out : List ℕ) → answer_of (step_call packets position) out ≡ pos 1
    → position_of (position_left packets position out) ≡ (step_of packets (position_of position)).next

-- the slots of a position after n calls, each of which is lent those that the last one left, and some slots of out
abbrev pub after_calls : ℕ → (packets position : List ℕ) → (outs : ℕ → List ℕ) → List ℕ
after_calls zero packets position outs = position
after_calls (suc n) packets position outs = after_calls n packets (position_left packets position (outs 0)) (λ k. outs (suc k))

-- lend slots to `station_fresh`, then to one `station_step` after the other: what the n-th of them answers, from 0, is the n-th answer of
-- the reader's run
abbrev pub RunStands : Type 0
RunStands =
    (packets slots : List ℕ) (outs : ℕ → List ℕ) → 134 ≤ length slots → ((k : ℕ) → 11 ≤ length (outs k)) → (n : ℕ)
    → step_call packets (after_calls n packets (slots_of fresh_call slots) outs) ≡ step_outcome 134 (nth_answer n packets fresh_position)
