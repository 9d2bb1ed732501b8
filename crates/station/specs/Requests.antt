-- What the exports that read requests, and captures of them, answer. Rests on the definitions of `request` and `capture_marks`.
use Rattle.std.specs.Prelude.{ℕ, ◌/◌, ◌≤◌, ◌≡◌, List, [], ◌∷◌, length, Option, Some, None, Result, Ok, Err}
use Rattle.wire.specs.declared.Part.{Part}
use Rattle.request.specs.Batch.{sql_batch}
use Rattle.request.specs.Transaction.{transaction_request, transaction_descriptor}
use Rattle.request.specs.FedAuth.{fed_auth_token}
use Rattle.request.specs.declared.Descriptor.{Descriptor}
use Rattle.capture_marks.specs.Marks.{marks_of, counted_of}
use Rattle.station.specs.Answer.{Outcome, answers, answers_part, refuses, number_of, answer_of}

-- a batch's text as a part of the body
abbrev pub batch_outcome : Result Part ℕ → Outcome
batch_outcome (Ok p) = answers_part 0 p
batch_outcome (Err n) = refuses n

unfoldable pub batch_call : List ℕ → Outcome
batch_call s = batch_outcome (sql_batch s)

-- the type of a transaction manager request
abbrev pub transaction_outcome : Result ℕ ℕ → Outcome
transaction_outcome (Ok n) = answers n []
transaction_outcome (Err n) = refuses n

unfoldable pub transaction_call : List ℕ → Outcome
transaction_call s = transaction_outcome (transaction_request s)

-- 1 with the transaction descriptor and the count of outstanding requests, or 0 and no slot
abbrev pub descriptor_outcome : Option Descriptor → Outcome
descriptor_outcome (Some d) = answers 1 (d.descriptor ∷ d.count ∷ [])
descriptor_outcome None = answers 0 []

unfoldable pub descriptor_call : List ℕ → Outcome
descriptor_call s = descriptor_outcome (transaction_descriptor s)

-- a token as a part of the payload
abbrev pub token_outcome : Result Part ℕ → Outcome
token_outcome (Ok p) = answers_part 0 p
token_outcome (Err n) = refuses n

unfoldable pub token_call : List ℕ → Outcome
token_call s = token_outcome (fed_auth_token s)

-- how many records of a capture are marked, with their numbers
abbrev pub capture_outcome : List ℕ → Result ℕ ℕ → Outcome
capture_outcome ms (Ok n) = answers n ms
capture_outcome ms (Err n) = refuses n

unfoldable pub capture_call : List ℕ → Outcome
capture_call s = capture_outcome (marks_of s) (counted_of s)

-- a tenth of a capture's bytes are slots enough: the answer is the capture's own, and -20 never
abbrev pub TenthEnough : Type 0
TenthEnough = (s out : List ℕ) → length s / 10 ≤ length out → answer_of (capture_call s) out ≡ number_of (capture_call s)
