-- Loops over the records from a place on: faults and sizes, and a set's errors. Assumes nothing.
use mathlib.Core.Path.{◌≡◌, refl, sym, ap, ◌∙◌}
use mathlib.Core.Bool.{true, false, ◌||◌}
use mathlib.Core.List.{List, [], ◌∷◌, ◌++◌}
use mathlib.Core.Option.{Option, none, some}
use Prim.Native.Nat.{ℕ, ◌+◌, ◌-◌}
use native.Mathlib.Nat.{add-sub_cancel_left}
use native.Mathlib.Omega.{arith}
use lib.Dec.{eqb}
use lib.ListN.{length, take, drop, length-drop}
use lib.Seq.{length-take-le}
use borrow.Author.Tests.{eq-eqb, ne_eqb}
use Rattle.token.proofs.Sizes.{size-done}
use Rattle.wire.specs.Part.{part_bytes}
use Rattle.script.specs.declared.Found.TheVariants.{Record, Cut, End}
use Rattle.script.specs.Records.{Item, item, cut, records, record_at}
use Rattle.script.proofs.Walk.{lies, turn, cuts, ends}
use Rattle.emission.specs.declared.Turn.{Turn}
use Rattle.std.specs.Prelude as std
use Rattle.std.specs.Prelude.{Ok, Err, Some, None}
use Rattle.wire.specs.declared.Part.{Part}
use Rattle.refusals.specs.declared.Refusal.{Refusal}
use Rattle.refusals.specs.Refused.{number}
use Rattle.refusals.proofs.Numbers.{number-not-0}
use Rattle.emission.specs.Emission.{Piece, token_piece, bytes_in, done_token, last_status, more_status}
use Rattle.emission.specs.Walk.{pieces_of, rows_after, emit_from, error_in, begin_pieces}
use Rattle.emission.specs.Refusal.{fault_in}
use Rattle.emission.specs.Runs.{capped, error_at}
use Rattle.emission.specs.Inner.{Turned}
use Rattle.emission.proofs.Sizes.{size-told, size-nothing, size-cat, fault-cat, cap-left, cap-three, cap-same}
use Rattle.wire.proofs.Cases.{by-test}

-- ---- faults and sizes do not depend on the count of rows

turn-fault : (a b k : ℕ) (p : List ℕ) (rs : List Item) → fault_in (pieces_of a k p rs) ≡ fault_in (pieces_of b k p rs)
unfolding pieces_of fault_in
turn-fault a b k p rs = by-test (eqb k 1) (λ e. rw e) (λ e. rw e)

turn-size : (a b k : ℕ) (p : List ℕ) (rs : List Item) → length (bytes_in (pieces_of a k p rs)) ≡ length (bytes_in (pieces_of b k p rs))
unfolding pieces_of
turn-size a b k p rs =
    by-test (eqb k 1)
    (λ e. rw e (omega (arith, size-told (done_token more_status a) (begin_pieces p rs), size-told (done_token more_status b) (begin_pieces p rs), size-done more_status 0xC1 a, size-done more_status 0xC1 b)))
    (λ e. rw e)

pub rows-fault : (a b : ℕ) (rs : List Item) → fault_in (emit_from a rs) ≡ fault_in (emit_from b rs)
unfolding emit_from fault_in
rows-fault a b [] = refl
rows-fault a b (cut ∷ rs) = refl
rows-fault a b (item k p ∷ rs) =
    fault-cat (pieces_of a k p rs) (emit_from (rows_after a k) rs)
    ∙ rw (turn-fault a b k p rs, rows-fault (rows_after a k) (rows_after b k) rs) (sym (fault-cat (pieces_of b k p rs) (emit_from (rows_after b k) rs)))

pub rows-size : (a b : ℕ) (rs : List Item) → length (bytes_in (emit_from a rs)) ≡ length (bytes_in (emit_from b rs))
unfolding emit_from
rows-size a b [] = omega (arith, size-told (done_token last_status a) [], size-told (done_token last_status b) [], size-done last_status 0xC1 a, size-done last_status 0xC1 b)
rows-size a b (cut ∷ rs) = omega (arith, size-told (done_token last_status a) [], size-told (done_token last_status b) [], size-done last_status 0xC1 a, size-done last_status 0xC1 b)
rows-size a b (item k p ∷ rs) =
    omega (arith, size-cat (pieces_of a k p rs) (emit_from (rows_after a k) rs), size-cat (pieces_of b k p rs) (emit_from (rows_after b k) rs), turn-size a b k p rs, rows-size (rows_after a k) (rows_after b k) rs)

-- ---- a turn of the loop

module _ (s : List ℕ) (at : ℕ) where
  abbrev pub left : List Piece
  left = emit_from 0 (records (drop at s))

  module _ (k st n : ℕ) (e : record_at s at ≡ Record k st n) where
    abbrev here : List Piece
    here = pieces_of 0 k (take n (drop st s)) (records (drop (st + n) s))

    left_is : left ≡ here ++ emit_from (rows_after 0 k) (records (drop (st + n) s))
    unfolding emit_from
    left_is = rw (turn s at e)

    -- what is emitted at the turn, with the payload as a slice
    abbrev turn_pieces : List Piece
    turn_pieces = pieces_of 0 k (take (st + n - st) (drop st s)) (records (drop (st + n) s))

    turn_fault : fault_in turn_pieces ≡ fault_in here
    turn_fault = rw (add-sub_cancel_left st n)

    -- a fault
    pub left-bad : (r : Refusal) → Turned turn_pieces s (st + n) (Err r) → fault_in left ≡ number r
    left-bad r h =
        let f : number r ≡ fault_in here = h.fault ∙ turn_fault in
        ap fault_in left_is ∙ fault-cat here (emit_from (rows_after 0 k) (records (drop (st + n) s))) ∙ rw (← f, ne_eqb _ _ (number-not-0 r))

    -- none: what is left has the faults of what comes later, and the size of both
    module _ (t : Turn) (h : Turned turn_pieces s (st + n) (Ok t)) where
      abbrev later : List Piece
      later = emit_from 0 (records (drop t.next s))

      t-size : t.size ≡ capped (length (bytes_in here))
      t-size = rw (add-sub_cancel_left st n) at h.turn.size

      pub left-fault : fault_in left ≡ fault_in later
      left-fault =
          let f : 0 ≡ fault_in here = h.fault ∙ turn_fault in
          ap fault_in left_is ∙ fault-cat here (emit_from (rows_after 0 k) (records (drop (st + n) s)))
          ∙ rw (← f) (rows-fault (rows_after 0 k) 0 (records (drop (st + n) s)) ∙ ap fault_in (h.turn.goes.same 0))

      pub left-size : (size : ℕ) → capped (capped (size + t.size) + length (bytes_in later)) ≡ capped (size + length (bytes_in left))
      left-size size =
          cap-left (size + t.size) (length (bytes_in later)) ∙ ap (λ (m : ℕ). capped (size + m + length (bytes_in later))) t-size
          ∙ cap-three size (length (bytes_in here)) (length (bytes_in later))
          ∙ cap-same (omega (arith, ap (λ (ps : List Piece). length (bytes_in ps)) left_is, size-cat here (emit_from (rows_after 0 k) (records (drop (st + n) s))), rows-size (rows_after 0 k) 0 (records (drop (st + n) s)), ap (λ (ps : List Piece). length (bytes_in ps)) (h.turn.goes.same 0)))

  -- the end
  module _ (e : left ≡ token_piece (done_token last_status 0) ∷ []) where
    pub end-fault : 0 ≡ fault_in left
    unfolding fault_in
    end-fault = sym (ap fault_in e)

    pub end-size : (size : ℕ) → capped (size + 13) ≡ capped (size + length (bytes_in left))
    end-size size = cap-same (omega (arith, ap (λ (ps : List Piece). length (bytes_in ps)) e, size-told (done_token last_status 0) [], size-done last_status 0xC1 0, size-nothing))

  pub left_cut : record_at s at ≡ Cut → left ≡ token_piece (done_token last_status 0) ∷ []
  unfolding emit_from
  left_cut e = rw (cuts s at e)

  pub left_end : record_at s at ≡ End → left ≡ token_piece (done_token last_status 0) ∷ []
  unfolding emit_from
  left_end e = rw (ends s at e)

-- ---- a set's errors

module _ (s : List ℕ) (k at : ℕ) where
  -- the place and the payload of the error of the set that goes on at a place
  abbrev pub error_place : std.Option Part
  error_place = error_at k at (records (drop at s))

  abbrev pub error_bytes : Option (List ℕ)
  error_bytes = error_in k (records (drop at s))

  module _ (st n : ℕ) {j : ℕ} (e : record_at s at ≡ Record j st n) where
    long : length (take n (drop st s)) ≡ n
    long = let place = lies s at e in length-take-le n (drop st s) (simp length-drop (omega arith))

    pub error-here : j ≡ k → (error_place ≡ Some (record { start = st; len = n })) × (error_bytes ≡ some (part_bytes s (record { start = st; len = n })))
    unfolding error_at error_in part_bytes
    error-here h = (rw (turn s at e, eq-eqb _ _ h, long, ← (lies s at e).0), rw (turn s at e, eq-eqb _ _ h))

    pub error-none : (j ≡ k → ⊥) → (eqb j 2 || eqb j 7) ≡ false → (error_place ≡ None) × (error_bytes ≡ none)
    unfolding error_at error_in
    error-none h f = (rw (turn s at e, ne_eqb _ _ h, f), rw (turn s at e, ne_eqb _ _ h, f))

    pub error-later : (j ≡ k → ⊥) → (eqb j 2 || eqb j 7) ≡ true
        → (error_place ≡ error_at k (st + n) (records (drop (st + n) s))) × (error_bytes ≡ error_in k (records (drop (st + n) s)))
    unfolding error_at error_in
    error-later h f = (rw (turn s at e, ne_eqb _ _ h, f, long, ← (lies s at e).0), rw (turn s at e, ne_eqb _ _ h, f))

  pub error-cut : record_at s at ≡ Cut → (error_place ≡ None) × (error_bytes ≡ none)
  unfolding error_at error_in
  error-cut e = (rw (cuts s at e), rw (cuts s at e))

  pub error-end : record_at s at ≡ End → (error_place ≡ None) × (error_bytes ≡ none)
  unfolding error_at error_in
  error-end e = (rw (ends s at e), rw (ends s at e))
