-- A stored capture (document 02, 2026-05): records of kind 0x0021, each the body of one request. A record is marked where its headers
-- length cannot be, and marks are the numbers of such records, from 0 over all records. Rests on script's records and request's headers.
-- docs/FORMATS.md, 'A capture', has it in words.
use Rattle.std.specs.Prelude.{ℕ, suc, List, [], ◌∷◌, ◌++◌, Bool, true, false, cond, eqb, ltb, length, Result, Ok, Err}
use Rattle.refusals.specs.Numbers.{record_cut, kind_wrong, buffer_too_short}
use Rattle.wire.specs.Over.{overwrite}
use Rattle.script.specs.Records.{Item, item, cut, records}
use Rattle.request.specs.Headers.{all_headers}
use Rattle.request.specs.declared.HeadersFault.{HeadersFault}
use Rattle.request.specs.declared.HeadersFault.TheVariants.{Short, TooSmall, PastEnd}

-- whether a headers length cannot be, by request's one definition of it
abbrev pub too_small : Result ℕ HeadersFault → Bool
too_small (Err Short) = false
too_small (Err TooSmall) = true
too_small (Err PastEnd) = false
too_small (Ok n) = false

unfoldable pub is_marked : List ℕ → Bool
is_marked body = too_small (all_headers body)

-- a capture's refusal, or 0: the first bad record's, 11 where it is cut, 12 where its kind is another
unfoldable pub capture_fault : List Item → ℕ
capture_fault [] = 0
capture_fault (cut ∷ rs) = record_cut
capture_fault (item k body ∷ rs) = cond (eqb k 0x0021) (capture_fault rs) kind_wrong

-- the number of a record, where it is marked
abbrev pub mark_of : ℕ → List ℕ → List ℕ
mark_of n body = cond (is_marked body) (n ∷ []) []

-- the marks of some records, of which the first has number n
unfoldable pub marks_from : ℕ → List Item → List ℕ
marks_from n [] = []
marks_from n (cut ∷ rs) = []
marks_from n (item k body ∷ rs) = mark_of n body ++ marks_from (suc n) rs

-- the marks of a capture
unfoldable pub marks_of : List ℕ → List ℕ
marks_of s = marks_from 0 (records s)

-- how many there are, or the capture's refusal
unfoldable pub counted_of : List ℕ → Result ℕ ℕ
counted_of s =
    let fault = capture_fault (records s) in
    cond (eqb fault 0) (Ok (length (marks_of s))) (Err fault)

-- with slots lent: 20 where they are too few, after all other refusals
abbrev pub lent_for : ℕ → Result ℕ ℕ → Result ℕ ℕ
lent_for room (Ok n) = cond (ltb room n) (Err buffer_too_short) (Ok n)
lent_for room (Err n) = Err n

-- the answer where room slots are lent
unfoldable pub marks_in : List ℕ → (room : ℕ) → Result ℕ ℕ
marks_in s room = lent_for room (counted_of s)

-- what stands in the lent slots afterwards: the marks in the first of them; a refusal leaves them
abbrev pub filled_by : Result ℕ ℕ → List ℕ → List ℕ → List ℕ
filled_by (Ok n) ms old = overwrite old 0 ms
filled_by (Err n) ms old = old

unfoldable pub slots_after : List ℕ → List ℕ → List ℕ
slots_after s old = filled_by (marks_in s (length old)) (marks_of s) old
