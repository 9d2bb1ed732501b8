-- The feature ids of a login: their number, and the bytes lent for them. Assumes nothing.
use Prim.Native.Nat.{ℕ, ◌^◌, ◌<◌, ◌≤◌}
use mathlib.Core.Path.{◌≡◌, refl, ap}
use mathlib.Core.List.{List}
use native.Mathlib.Nat.{lt_of_not-le}
use native.Mathlib.Decide.{dec_le}
use lib.ListN.{length}
use lib.IntN.{ℤ}
use lib.Signed.{mag}
use mir.Syntax.{w64}
use mir.Val.{to_z, of_z}
use borrow.Author.Tests.{lt-ltb, le-ltb}
use Rattle.login.specs.Features.{features}
use Rattle.login.specs.Login.{parse_login7, ids_after}
use Rattle.login.specs.declared.Read.{Read}
use Rattle.std.specs.Prelude.{Result, Ok, Err}
use Rattle.station.specs.Answer.{refuses, number_of, lent, filled, answer_of, slots_of}
use Rattle.station.specs.Logins.{login_slots, login_outcome, login_call, ids_left}
use Rattle.station.proofs.Ends.{Ended, denied}

-- ---- their number

abbrev Counted : ℕ → Result Read ℕ → Type 0
Counted room (Ok r) = r.ids ≤ room
Counted room (Err n) = n ≡ 20

counted : (s : List ℕ) (room : ℕ) → Counted room (parse_login7 s room)
unfolding parse_login7
counted s room =
    elim (dec_le (length (features s)) room) [
      | yes h ↦ simp (le-ltb _ _ h) h
      | no h ↦ simp (lt-ltb _ _ (lt_of_not-le h)) refl
    ]

-- no more than there is room for
pub in-room : (s : List ℕ) (room : ℕ) {a : Result Read ℕ} → a ≡ parse_login7 s room → Counted room a
in-room s room e = rw e (counted s room)

-- ---- the bytes lent for them

-- too few slots: 20, whatever the login
short : (out : List ℕ) (room : ℕ) (a : Result Read ℕ) → length out < 13 → Counted room a → lent (login_outcome a) out ≡ refuses 20
unfolding lent login_slots
short out room (Ok r) h k = simp (lt-ltb _ _ h)
short out room (Err n) h k = ap refuses k

module _ (s ids out : List ℕ) where
  -- what the export promises: its answer r, the ids and the slots that it left
  abbrev pub Told : (ids' out' : List ℕ) → ℤ → Type 0
  Told ids' out' r =
      let call = login_call s (length ids) in (r ≡ answer_of call out) × ((ids' ≡ ids_left s ids out) × (out' ≡ slots_of call out))

  -- too few slots leave all as it was
  pub few : {r : ℤ} → length out < 13 → mag r < 2 ^ 63 → r ≡ number_of (refuses 20) → Told ids out (to_z w64 (of_z w64 r))
  unfolding login_call ids_left answer_of slots_of filled
  few h fits e =
      let q = short out (length ids) (parse_login7 s (length ids)) h (counted s (length ids)) in simp (q, lt-ltb _ _ h) (denied fits e refl, (refl, refl))

  -- with enough of them the ids are the login's
  pub enough : {ids' out' : List ℕ} {r : ℤ} → 13 ≤ length out → ids' ≡ ids_after s ids → Ended (login_call s (length ids)) out out' r → Told ids' out' r
  unfolding ids_left
  enough h e p = simp (le-ltb _ _ h) (p.0, (e, p.1))
