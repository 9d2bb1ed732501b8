-- What the exports that reply to scripts answer. Rests on the definitions of `result` and `fit`.
use Rattle.std.specs.Prelude.{ℕ, Option, Some, None, Result, Ok, Err, ◌+◌, ◌≤◌, ◌≡◌, List, [], ◌∷◌, ℤ, pos, negsuc, neg_ℤ}
use Rattle.refusals.specs.Numbers.{buffer_too_short}
use Rattle.result.specs.Built.{room_of, room_at, built_of, built_in_packets}
use Rattle.wire.specs.Over.{overwrite}
use Rattle.fit.specs.Misfits.{fit_of}
use Rattle.fit.specs.First.{IsFirst}
use Rattle.fit.specs.declared.Misfit.{Misfit}
use Rattle.fit.specs.declared.Misfit.TheVariants.{Classification, Column, Cell}
use Rattle.station.specs.Answer.{Outcome, answers, refuses, built_outcome, number_of, answer_of, slots_of}

-- the bytes written where room bytes are lent
unfoldable pub built_call : List ℕ → (room : ℕ) → Outcome
built_call s room = built_outcome (built_of s room)

-- the same in packets of a size
unfoldable pub in_packets_call : (size : ℕ) → List ℕ → (room : ℕ) → Outcome
in_packets_call size s room = built_outcome (built_in_packets size s room)

-- the room for a reply
unfoldable pub room_call : List ℕ → Outcome
room_call s = built_outcome (room_of s)

-- and for one in packets of a size
unfoldable pub room_in_packets_call : (size : ℕ) → List ℕ → Outcome
room_in_packets_call size s = built_outcome (room_at size s)

-- A room that an export answers is just enough where it is n bytes: with as many or more the builder, which answers `answer m` where m
-- bytes are lent, writes n bytes, and with one byte less or fewer it answers -20. Where it is -N, that is the builder's answer too,
-- whatever is lent.
abbrev pub EnoughLent : ℤ → (ℕ → ℤ) → Type 0
EnoughLent (pos n) answer = ((m : ℕ) → n ≤ m → answer m ≡ pos n) × ((m : ℕ) → m + 1 ≤ n → answer m ≡ neg_ℤ (pos buffer_too_short))
EnoughLent (negsuc k) answer = (m : ℕ) → answer m ≡ negsuc k

-- of every script, for both builders
abbrev pub RoomEnough : Type 0
RoomEnough =
    (s : List ℕ) → EnoughLent (number_of (room_call s)) (λ m. number_of (built_call s m))
    × ((size : ℕ) → EnoughLent (number_of (room_in_packets_call size s)) (λ m. number_of (in_packets_call size s m)))

-- a misfit's kind (1 classification, 2 column, 3 cell), set, row and column, 0 where there is none
abbrev pub misfit_slots : Misfit → List ℕ
misfit_slots (Classification set) = 1 ∷ set ∷ 0 ∷ 0 ∷ []
misfit_slots (Column set column) = 2 ∷ set ∷ 0 ∷ column ∷ []
misfit_slots (Cell set row column) = 3 ∷ set ∷ row ∷ column ∷ []

-- 1 with the slots of a misfit
abbrev pub misfit_outcome : Misfit → Outcome
misfit_outcome m = answers 1 (misfit_slots m)

-- 0 and no slot of a script that fits
abbrev pub fit_outcome : Result (Option Misfit) ℕ → Outcome
fit_outcome (Ok None) = answers 0 []
fit_outcome (Ok (Some m)) = misfit_outcome m
fit_outcome (Err n) = refuses n

unfoldable pub fit_call : List ℕ → Outcome
fit_call s = fit_outcome (fit_of s)

-- where it answers 1, the first slots are those of the script's first misfit
abbrev pub FirstTold : Type 0
FirstTold =
    (s out : List ℕ) → answer_of (fit_call s) out ≡ pos 1
    → (m : Misfit) × IsFirst s m × (slots_of (fit_call s) out ≡ overwrite out 0 (misfit_slots m))
