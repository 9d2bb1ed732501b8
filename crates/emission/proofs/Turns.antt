-- A turn of the walk over a script's records: what it emits, and where the walk goes on. Assumes nothing.
use mathlib.Core.Path.{◌≡◌, refl, sym, ap, subst, ◌∙◌}
use mathlib.Core.Bool.{cond}
use mathlib.Core.List.{List, [], ◌∷◌, ◌++◌, flat_map}
use Prim.Native.Nat.{ℕ, ◌+◌, ◌≤◌}
use native.Mathlib.Omega.{arith}
use lib.Dec.{eqb}
use lib.ListN.{length, drop}
use borrow.Author.Tests.{eqb-true}
use Rattle.token.proofs.Sizes.{size-done}
use Rattle.wire.proofs.Cases.{by-test}
use Rattle.token.specs.Tokens.{Token, metadata, cell, EncodedCell, long, token_bytes}
use Rattle.script.specs.Records.{Item, item, cut, records}
use Rattle.std.specs.Prelude.{Ok, Err}
use Rattle.refusals.specs.declared.Refusal.{Refusal}
use Rattle.refusals.specs.Refused.{number, refused_by}
use Rattle.emission.specs.declared.Run.{Run}
use Rattle.emission.specs.declared.Turn.{Turn}
use Rattle.script.specs.Runs.{ahead}
use Rattle.script.proofs.Runs.{past_run}
use Rattle.emission.specs.Emission.{Piece, token_piece, classification_piece, column_piece, column_pieces, bytes_in, done_token, more_status}
use Rattle.emission.specs.Walk.{begin_pieces, pieces_of, rows_after, emit_from}
use Rattle.emission.specs.Refusal.{token_fault, fault_in, any_empty}
use Rattle.emission.specs.Runs.{capped, record_size, record_fault, run_size, run_fault, NumberedRun, numbered_run, run_of}
use Rattle.emission.specs.Inner.{after_done, GoesOn, Turned}
use Rattle.emission.proofs.Aheads.{past}
use Rattle.emission.proofs.Sizes.{bytes-none, size-told, size-class, size-nothing, size-cat, size-one, one-fault, fault-one, fault-cat, size-metadata, size-long, cap-both, cap-right, cap-same, cap-of}

-- ---- records that emit nothing by themselves are passed over

module _ (k : ℕ) (nothing : (rows : ℕ) (p : List ℕ) (rs : List Item) → pieces_of rows k p rs ≡ []) (kept : (rows : ℕ) → rows_after rows k ≡ rows) where
  passed : (rows : ℕ) (rs : List Item) → emit_from rows rs ≡ emit_from rows (past_run k rs)
  unfolding past_run emit_from
  passed rows [] = refl
  passed rows (cut ∷ rs) = refl
  passed rows (item j p ∷ rs) =
      by-test (eqb j k)
      (λ e. let same : j ≡ k = eqb-true j k e in rw (e, same, nothing rows p rs, kept rows) (passed rows rs))
      (λ e. rw e)

  goes-past : (s : List ℕ) (next : ℕ) → next ≤ length s → GoesOn s next (run_of s next k).next
  unfolding run_of
  goes-past s next h =
      let a = past s k next in
      record { from = omega arith; lies = a.lies h; same = λ rows. passed rows (records (drop next s)) ∙ ap (emit_from rows) (sym a.rest) }

-- a set's columns, and a cell's chunks
pub goes-columns : (s : List ℕ) (next : ℕ) (r : Run) → next ≤ length s → numbered_run r ≡ run_of s next 2 → GoesOn s next r.next
unfolding pieces_of rows_after
goes-columns s next r h e = subst (λ (r : NumberedRun). GoesOn s next r.next) (sym e) (goes-past 2 (λ rows p rs. refl) (λ rows. refl) s next h)

pub goes-chunks : (s : List ℕ) (next : ℕ) (r : Run) → next ≤ length s → numbered_run r ≡ run_of s next 6 → GoesOn s next r.next
unfolding pieces_of rows_after
goes-chunks s next r h e = subst (λ (r : NumberedRun). GoesOn s next r.next) (sym e) (goes-past 6 (λ rows p rs. refl) (λ rows. refl) s next h)

-- the walk goes on where it stands
pub goes-here : (s : List ℕ) (next : ℕ) → next ≤ length s → GoesOn s next next
goes-here s next h = record { from = omega arith; lies = h; same = λ rows. refl }

-- ---- faults and sizes of runs

pub size-columns : (ps : List (List ℕ)) → length (bytes_in (column_pieces ps)) ≡ run_size 2 ps
unfolding run_size record_size flat_map
size-columns [] = ap length bytes-none
size-columns (p ∷ ps) = size-cat (column_piece p) (column_pieces ps) ∙ ap (λ (n : ℕ). length (bytes_in (column_piece p)) + n) (size-columns ps)

pub fault-columns : (ps : List (List ℕ)) → fault_in (column_pieces ps) ≡ run_fault 2 ps
unfolding run_fault record_fault fault_in flat_map
fault-columns [] = refl
fault-columns (p ∷ ps) = fault-cat (column_piece p) (column_pieces ps) ∙ rw (fault-columns ps)

pub fault-chunks : (cs : List (List ℕ)) → cond (any_empty cs) 15 0 ≡ run_fault 6 cs
unfolding run_fault record_fault
fault-chunks [] = refl
fault-chunks (c ∷ cs) = by-test (eqb (length c) 0) (λ e. rw (e)) (λ e. rw (e) (fault-chunks cs))

-- ---- turns

-- a fault is
pub turned-bad : (ps : List Piece) (s : List ℕ) (next : ℕ) (r : Refusal) → number r ≡ fault_in ps → Turned ps s next (Err r)
turned-bad ps s next r f = record { fault = f; turn = tt }

-- nothing is emitted
pub turned_none : (s : List ℕ) (next : ℕ) → next ≤ length s → Turned [] s next (Ok (record { size = 0; next = next }))
unfolding fault_in
turned_none s next h = record {
  fault = refl;
  turn = record { size = sym (cap-of 0 (omega arith)) ∙ cap-same (sym size-nothing); goes = goes-here s next h };
}

-- one token is
pub turned-one : (t : Token EncodedCell) (s : List ℕ) (next : ℕ) (r : Turn) → 0 ≡ token_fault t → r.size ≡ capped (length (token_bytes t)) → GoesOn s next r.next
    → Turned (token_piece t ∷ []) s next (Ok r)
turned-one t s next r f z g = record {
  fault = f ∙ sym (fault-one t);
  turn = record { size = z ∙ cap-same (sym (size-one t)); goes = g };
}

-- a set's beginning
module _ (s class : List ℕ) (next : ℕ) (run : Run) (e : numbered_run run ≡ run_of s next 2) where
  abbrev cs : List (List ℕ)
  cs = ahead 2 (records (drop next s))

  pub set-fault : refused_by run.fault ≡ fault_in (begin_pieces class (records (drop next s)))
  unfolding fault_in run_of
  set-fault =
      let end : List Piece = classification_piece class ∷ [] in
      ap (λ (r : NumberedRun). r.fault) e ∙ sym (fault-cat (column_pieces cs) end ∙ one-fault (fault_in (column_pieces cs)) ∙ fault-columns cs)

  set_size : capped (capped (3 + length class) + run.size) ≡ capped (length (bytes_in (begin_pieces class (records (drop next s)))))
  unfolding run_of
  set_size =
      let end : List Piece = classification_piece class ∷ [] in
      ap (λ (r : NumberedRun). capped (capped (3 + length class) + r.size)) e ∙ cap-both (3 + length class) (run_size 2 cs)
      ∙ cap-same (omega (arith, size-told (metadata (length cs)) (column_pieces cs ++ end), size-metadata (length cs), size-cat (column_pieces cs) end, size-class class [], size-nothing, size-columns cs))

  pub turned_set : next ≤ length s → refused_by run.fault ≡ 0
      → Turned (begin_pieces class (records (drop next s))) s next (Ok (record { size = capped (capped (3 + length class) + run.size); next = run.next }))
  turned_set h f = record { fault = sym f ∙ set-fault; turn = record { size = set_size; goes = goes-columns s next run h e } }

-- after the DONE of the set before
pub turned-done : (ps : List Piece) (s : List ℕ) (next : ℕ) (t : Turn) → Turned ps s next (Ok t) → Turned (token_piece (done_token more_status 0) ∷ ps) s next (Ok (after_done t))
unfolding after_done fault_in
turned-done ps s next t h = record {
  fault = h.fault;
  turn = record {
    size = ap (λ (n : ℕ). capped (13 + n)) h.turn.size ∙ cap-right 13 (length (bytes_in ps)) ∙ cap-same (omega (arith, size-told (done_token more_status 0) ps, size-done more_status 0xC1 0));
    goes = h.turn.goes;
  };
}

pub done-bad : (ps : List Piece) (s : List ℕ) (next : ℕ) (r : Refusal) → Turned ps s next (Err r) → Turned (token_piece (done_token more_status 0) ∷ ps) s next (Err r)
unfolding fault_in
done-bad ps s next r h = record { fault = h.fault; turn = tt }

-- a cell in chunks
module _ (s : List ℕ) (next : ℕ) (run : Run) (e : numbered_run run ≡ run_of s next 6) where
  abbrev chunks : List (List ℕ)
  chunks = ahead 6 (records (drop next s))

  chunks_fault : refused_by run.fault ≡ token_fault (cell (long chunks))
  unfolding run_of
  chunks_fault = ap (λ (r : NumberedRun). r.fault) e ∙ sym (fault-chunks chunks)

  pub chunks-bad : (r : Refusal) → number r ≡ refused_by run.fault → Turned (token_piece (cell (long chunks)) ∷ []) s next (Err r)
  chunks-bad r f = turned-bad (token_piece (cell (long chunks)) ∷ []) s next r (f ∙ chunks_fault ∙ sym (fault-one (cell (long chunks))))

  pub turned-chunks : next ≤ length s → refused_by run.fault ≡ 0 → Turned (token_piece (cell (long chunks)) ∷ []) s next (Ok (record { size = capped (12 + run.size); next = run.next }))
  unfolding run_of
  turned-chunks h f =
      turned-one (cell (long chunks)) s next _ (sym f ∙ chunks_fault)
      (ap (λ (r : NumberedRun). capped (12 + r.size)) e ∙ cap-right 12 (run_size 6 chunks) ∙ cap-same (sym (size-long chunks))) (goes-chunks s next run h e)
