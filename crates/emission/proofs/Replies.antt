-- Faults and size of a whole reply, from those of its pieces. Assumes nothing.
use mathlib.Core.Path.{◌≡◌, refl, sym, ap, ◌∙◌}
use mathlib.Core.List.{List, [], ◌∷◌, ◌++◌}
use mathlib.Core.Option.{Option, none, some}
use Prim.Native.Nat.{ℕ, ◌+◌, ◌-◌, ◌≤◌, ◌<◌}
use native.Mathlib.Nat.{add-sub_cancel_left}
use native.Mathlib.Omega.{arith}
use lib.ListN.{length, take, drop}
use borrow.Author.Tests.{ne_eqb, lt-ltb, le-ltb}
use Rattle.token.proofs.Sizes.{size-done, size-message}
use Rattle.wire.specs.Le.{le_at}
use Rattle.packet.proofs.Sizes.{length-packet}
use Rattle.text.specs.Units.{units_of, units}
use Rattle.script.specs.declared.Found.TheVariants.{Record, Cut, End}
use Rattle.script.specs.Records.{Item, records, record_at}
use Rattle.script.specs.Verdict.{verdict_of}
use Rattle.script.proofs.Walk.{turn, cuts, ends}
use Rattle.emission.specs.declared.Turn.{Turn}
use Rattle.std.specs.Prelude.{Result, Ok, Err}
use Rattle.refusals.specs.declared.Refusal.{Refusal}
use Rattle.refusals.specs.Refused.{number, numbered}
use Rattle.refusals.proofs.Numbers.{number-not-0}
use Rattle.emission.specs.Emission.{Piece, token_piece, error_token, done_token, pieces, bytes_in, reply_of, leading_status, terminal_status}
use Rattle.emission.specs.Walk.{walked, lead_pieces, begin_pieces, sets_of, emit_from, error_in, walked_by}
use Rattle.emission.specs.Refusal.{fault_in, refusal_of}
use Rattle.emission.specs.Length.{measure_of}
use Rattle.emission.specs.Runs.{capped}
use Rattle.emission.specs.Inner.{Turned, Sizes}
use Rattle.emission.proofs.BySets.{by-sets}
use Rattle.emission.proofs.Sizes.{size-told, size-nothing, size-cat, fault-cat, cap-left, cap-right, cap-three, cap-same, cap-of}

-- ---- one part after another

sizes-bad : (ps qs : List Piece) (before : ℕ) (r : Refusal) → number r ≡ fault_in ps → Sizes (ps ++ qs) before (Err r)
sizes-bad ps qs before r e = record {
  fault = sym (fault-cat ps qs ∙ rw (← e, ne_eqb _ _ (number-not-0 r)));
  size = tt;
}

sizes-then : (ps qs : List Piece) (before z : ℕ) (r : Result ℕ Refusal) → fault_in ps ≡ 0 → z ≡ capped (length (bytes_in ps)) → Sizes qs (capped (before + z)) r → Sizes (ps ++ qs) before r
sizes-then ps qs before z (Err r) f e h = record { fault = h.fault ∙ sym (fault-cat ps qs ∙ rw f); size = tt }
sizes-then ps qs before z (Ok n) f e h = record {
  fault = h.fault ∙ sym (fault-cat ps qs ∙ rw f);
  size =
      h.size ∙ cap-left (before + z) (length (bytes_in qs)) ∙ ap (λ (m : ℕ). capped (before + m + length (bytes_in qs))) e
      ∙ cap-three before (length (bytes_in ps)) (length (bytes_in qs)) ∙ cap-same (omega (arith, size-cat ps qs));
}

-- a set's beginning, and what follows it
module _ (s class : List ℕ) (next before : ℕ) where
  abbrev begins : List Piece
  begins = begin_pieces class (records (drop next s))

  pub sets-bad : (r : Refusal) → Turned begins s next (Err r) → Sizes (begins ++ emit_from 0 (records (drop next s))) before (Err r)
  sets-bad r h = sizes-bad begins (emit_from 0 (records (drop next s))) before r h.fault

  pub sets_then : (t : Turn) → Turned begins s next (Ok t) → (r : Result ℕ Refusal) → Sizes (emit_from 0 (records (drop t.next s))) (capped (before + t.size)) r
      → Sizes (begins ++ emit_from 0 (records (drop next s))) before r
  sets_then t h r v = sizes-then begins (emit_from 0 (records (drop next s))) before t.size r (sym h.fault) h.turn.size (rw (h.turn.goes.same 0) v)

-- ---- errors

no-fault : (status : ℕ) (o : Option (List ℕ)) → fault_in (lead_pieces status o) ≡ 0
unfolding fault_in units units_of
no-fault status none = refl
no-fault status (some p) = refl

pub size-error : (status : ℕ) (p : List ℕ) → length (bytes_in (lead_pieces status (some p))) ≡ 30 + length (drop 5 p)
size-error status p =
    omega (arith, size-told (error_token p) (token_piece (done_token status 0) ∷ []), size-told (done_token status 0) [], size-nothing, size-done status 0xC1 0, size-message 0xAA (le_at 4 p) 1 (le_at 1 (drop 4 p)) (drop 5 p) [] [] 1)

-- a reply of an error alone
pub sizes-terminal : (class : List ℕ) (rs : List Item) (e : List ℕ) → error_in 8 rs ≡ some e → Sizes (sets_of class rs) 8 (Ok (capped (8 + capped (30 + length (drop 5 e)))))
sizes-terminal class rs e h =
    rw h
    (record {
      fault = sym (no-fault terminal_status (some e));
      size = cap-right 8 (30 + length (drop 5 e)) ∙ cap-same (omega (arith, size-error terminal_status e));
    })

-- a reply of sets, after an error where there is one
pub sizes-sets : (class : List ℕ) (rs : List Item) (lead : ℕ) (r : Result ℕ Refusal) → error_in 8 rs ≡ none → lead ≡ capped (length (bytes_in (lead_pieces leading_status (error_in 7 rs))))
    → Sizes (begin_pieces class rs ++ emit_from 0 rs) (capped (8 + lead)) r → Sizes (sets_of class rs) 8 r
sizes-sets class rs lead r h e v = rw h (sizes-then (lead_pieces leading_status (error_in 7 rs)) (begin_pieces class rs ++ emit_from 0 rs) 8 lead r (no-fault leading_status (error_in 7 rs)) e v)

-- ---- a script

module _ (s : List ℕ) where
  pub sizes-first : (k st n : ℕ) (r : Result ℕ Refusal) → record_at s 0 ≡ Record k st n → Sizes (sets_of (take (st + n - st) (drop st s)) (records (drop (st + n) s))) 8 r → Sizes (walked s) 8 r
  unfolding walked walked_by
  sizes-first k st n r e v = rw (turn s 0 e) (rw (add-sub_cancel_left st n) at v)

  pub walked-first : (k st n : ℕ) → record_at s 0 ≡ Record k st n → walked s ≡ sets_of (take (st + n - st) (drop st s)) (records (drop (st + n) s))
  unfolding walked walked_by
  walked-first k st n e = rw (turn s 0 e, add-sub_cancel_left st n)

  pub sizes-none : walked s ≡ [] → Sizes (walked s) 8 (Ok 8)
  unfolding fault_in
  sizes-none e = rw e (record { fault = refl; size = sym (cap-of 8 (omega arith)) ∙ cap-same (omega (arith, size-nothing)) })

  pub walked-cut : record_at s 0 ≡ Cut → walked s ≡ []
  unfolding walked walked_by
  walked-cut e = rw (cuts s 0 e)

  pub walked_end : record_at s 0 ≡ End → walked s ≡ []
  unfolding walked walked_by
  walked_end e = rw (ends s 0 e)

  length-reply : length (reply_of s) ≡ 8 + length (bytes_in (pieces s))
  unfolding reply_of
  length-reply = length-packet (bytes_in (pieces s))

  -- the size tells whether the reply is too long, and where it is not, its length
  longer : {z : ℕ} → z ≡ capped (8 + length (bytes_in (pieces s))) → 65535 < z → 65535 < length (reply_of s)
  unfolding capped
  longer e g = omega (arith, e, length-reply)

  exact : {z : ℕ} → z ≡ capped (8 + length (bytes_in (pieces s))) → z ≤ 65535 → z ≡ length (reply_of s)
  unfolding capped
  exact e g = omega (arith, e, length-reply)

  shorter : {z : ℕ} → z ≡ capped (8 + length (bytes_in (pieces s))) → z ≤ 65535 → length (reply_of s) ≤ 65535
  shorter e g = omega (arith, g, exact e g)

  -- the refusals in their order
  pub measure-verdict : (r : Refusal) → number r ≡ verdict_of s → numbered {A = ℕ} (Err r) ≡ measure_of s
  unfolding measure_of refusal_of
  measure-verdict r e = let n = number-not-0 r in rw (← e, ne_eqb _ _ n, ne_eqb _ _ n)

  module _ (e : verdict_of s ≡ 0) where
    h : {r : Result ℕ Refusal} → Sizes (walked s) 8 r → Sizes (pieces s) 8 r
    h w = rw (by-sets s e) w

    pub measure-fault : (r : Refusal) → Sizes (walked s) 8 (Err r) → numbered {A = ℕ} (Err r) ≡ measure_of s
    unfolding measure_of refusal_of
    measure-fault r w = let n = number-not-0 r in rw (e, ← (h w).fault, ne_eqb _ _ n, ne_eqb _ _ n)

    module _ (n : ℕ) (w : Sizes (walked s) 8 (Ok n)) where
      pub measure-long : 65535 < n → Err 17 ≡ measure_of s
      unfolding measure_of refusal_of
      measure-long g = rw (e, ← (h w).fault, lt-ltb 65535 (length (reply_of s)) (longer (h w).size g))

      pub measure-size : n ≤ 65535 → Ok n ≡ measure_of s
      unfolding measure_of refusal_of
      measure-size g = rw (e, ← (h w).fault, le-ltb 65535 (length (reply_of s)) (shorter (h w).size g)) (ap Ok (exact (h w).size g))
