-- What the private functions of the size pass promise each other, and nobody else: a record's faults and size, and the place where
-- the walk goes on. Rests on Runs, Walk and Refusal.
use Rattle.std.specs.Prelude.{ℕ, ◌+◌, ◌≤◌, ◌≡◌, cond, List, eqb, length, drop, Result, Ok, IfOk}
use Rattle.refusals.specs.declared.Refusal.{Refusal}
use Rattle.refusals.specs.Refused.{refused_by}
use Rattle.script.specs.Records.{records}
use Rattle.emission.specs.declared.Turn.{Turn}
use Rattle.emission.specs.Emission.{Piece, bytes_in}
use Rattle.emission.specs.Walk.{emit_from}
use Rattle.emission.specs.Refusal.{fault_in}
use Rattle.emission.specs.Runs.{capped, record_size, record_fault, NumberedRun}

-- a run with one record more, whose payload is p and after which stands next
unfoldable pub longer_run : NumberedRun → ℕ → List ℕ → ℕ → NumberedRun
longer_run r k p next = record {
  count = r.count + 1;
  bytes = r.bytes + length p;
  size = capped (r.size + capped (record_size k p));
  fault = cond (eqb r.fault 0) (record_fault k p) r.fault;
  next = next;
}

-- the walk may go on at the place b in the place of a: what lies between emits nothing more
pub record GoesOn (s : List ℕ) (a b : ℕ) : Type 0 where
  pub from : a ≤ b
  pub lies : b ≤ length s
  pub same : (rows : ℕ) → emit_from rows (records (drop a s)) ≡ emit_from rows (records (drop b s))

-- the size of what is emitted at a turn of the walk, and where the walk goes on in the place of next
pub record Emits (ps : List Piece) (s : List ℕ) (next : ℕ) (t : Turn) : Type 0 where
  pub size : t.size ≡ capped (length (bytes_in ps))
  pub goes : GoesOn s next t.next

-- a turn by what is emitted at it, where that has no fault
pub record Turned (ps : List Piece) (s : List ℕ) (next : ℕ) (r : Result Turn Refusal) : Type 0 where
  pub fault : refused_by r ≡ fault_in ps
  pub turn : IfOk r (λ t. Emits ps s next t)

-- a turn that has no fault and takes no other record with it
abbrev pub plain_turn : ℕ → ℕ → Result Turn Refusal
plain_turn size next = Ok (record { size = size; next = next })

-- a turn after the DONE of the set before
unfoldable pub after_done : Turn → Turn
after_done t = record { size = capped (13 + t.size); next = t.next }

-- the faults of pieces, and where there is none their size after bytes before
pub record Sizes (ps : List Piece) (before : ℕ) (r : Result ℕ Refusal) : Type 0 where
  pub fault : refused_by r ≡ fault_in ps
  pub size : IfOk r (λ n. n ≡ capped (before + length (bytes_in ps)))
