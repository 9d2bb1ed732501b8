-- What both passes ask of a script's records: those of one kind that stand next, with the faults and the size of what they emit, and
-- a set's error. Rests on script's runs, Emission and Refusal.
use Rattle.std.specs.Prelude.{ℕ, ◌+◌, ◌*◌, min, cond, ◌||◌, List, [], ◌∷◌, eqb, length, drop, Some, None}
use Rattle.std.specs.Prelude as std
use Rattle.std.proofs.Math.Option.{Option, none, some}
use Rattle.refusals.specs.Numbers.{empty_chunk}
use Rattle.refusals.specs.Refused.{refused_by}
use Rattle.wire.specs.declared.Part.{Part}
use Rattle.wire.specs.Part.{part_bytes}
use Rattle.token.specs.Tokens.{joined}
use Rattle.script.specs.Records.{Item, item, cut, records}
use Rattle.script.specs.Runs.{ahead}
use Rattle.emission.specs.declared.Run.{Run}
use Rattle.emission.specs.Emission.{column_piece, bytes_in}
use Rattle.emission.specs.Refusal.{fault_in}

-- a size as far as it matters: over 65,535 bytes are too many, however many more
unfoldable pub capped : ℕ → ℕ
capped n = min n 65536

-- what a column (kind 2) or a chunk adds, and its fault
unfoldable pub record_size : ℕ → List ℕ → ℕ
record_size k p = cond (eqb k 2) (length (bytes_in (column_piece p))) (4 + length p)

unfoldable pub record_fault : ℕ → List ℕ → ℕ
record_fault k p = cond (eqb k 2) (fault_in (column_piece p)) (cond (eqb (length p) 0) empty_chunk 0)

unfoldable pub run_size : ℕ → List (List ℕ) → ℕ
run_size k [] = 0
run_size k (p ∷ ps) = record_size k p + run_size k ps

unfoldable pub run_fault : ℕ → List (List ℕ) → ℕ
run_fault k [] = 0
run_fault k (p ∷ ps) = cond (eqb (record_fault k p) 0) (run_fault k ps) (record_fault k p)

-- a run with the number of its fault, or 0
pub record NumberedRun : Type 0 where
  pub count : ℕ
  pub bytes : ℕ
  pub size : ℕ
  pub fault : ℕ
  pub next : ℕ

abbrev pub numbered_run : Run → NumberedRun
numbered_run r = record { count = r.count; bytes = r.bytes; size = r.size; fault = refused_by r.fault; next = r.next }

-- the records of kind k that stand next at a place: how many, the bytes of their payloads, the size and the first fault of what
-- they emit, and the place after them, each with its head of 6 bytes
unfoldable pub run_of : List ℕ → ℕ → ℕ → NumberedRun
run_of s at k =
    let ps = ahead k (records (drop at s)) in
    record {
      count = length ps;
      bytes = length (joined ps);
      size = capped (run_size k ps);
      fault = run_fault k ps;
      next = at + 6 * length ps + length (joined ps);
    }

-- the error of kind k of the set that goes on with some records, the first of which stands at a place: it stands after the set's
-- columns, a kind 8 also after a kind 7
unfoldable pub error_at : ℕ → ℕ → List Item → std.Option Part
error_at k at [] = None
error_at k at (cut ∷ rs) = None
error_at k at (item j p ∷ rs) =
    cond (eqb j k) (Some (record { start = at + 6; len = length p })) (cond (eqb j 2 || eqb j 7) (error_at k (at + 6 + length p) rs) None)

-- the error that was found, as the payload of its record
abbrev pub error_found : List ℕ → std.Option Part → Option (List ℕ)
error_found s (Some part) = some (part_bytes s part)
error_found s None = none
