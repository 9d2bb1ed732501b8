-- A turn of the writer over a list's records. Assumes nothing.
use Prim.Native.Nat.{ℕ, ◌+◌, ◌-◌, ◌≤◌}
use mathlib.Core.Path.{◌≡◌, refl, sym}
use mathlib.Core.List.{List, [], ◌∷◌}
use native.Mathlib.Nat.{add-sub_cancel_left}
use lib.ListN.{length, take, drop}
use Rattle.wire.specs.Puts.{Puts}
use Rattle.wire.specs.declared.writer.Writer.{Writer}
use Rattle.wire.proofs.Puts.{then, put_nothing, place_in}
use Rattle.script.specs.declared.Found.{Found}
use Rattle.script.specs.declared.Found.TheVariants.{Record, Cut, End}
use Rattle.script.specs.Records.{item, records, record_at}
use Rattle.script.proofs.Walk.{turn, cuts, ends}
use Rattle.response.specs.Lists.{all_bytes}

-- of a list s, the records before a place were put by the writer old, which is new by then: whoever puts the rest has put the whole
pub record Putting (bytes : ℕ → List ℕ → List ℕ) (s : List ℕ) (old : Writer) (from : ℕ) (new : Writer) : Type 0 where
  pub inside : new.at ≤ length new.buf.now
  pub rest : (last : Writer) → Puts new (all_bytes bytes (records (drop from s))) last → Puts old (all_bytes bytes (records s)) last

module _ (bytes : ℕ → List ℕ → List ℕ) (s : List ℕ) (old : Writer) where
  pub putting-start : old.at ≤ length old.buf.now → Putting bytes s old 0 old
  putting-start h = record { inside = h; rest = λ last w. w }

  module _ (from : ℕ) (new : Writer) (m : Putting bytes s old from new) where
    all : all_bytes bytes (records (drop from s)) ≡ [] → Puts old (all_bytes bytes (records s)) new
    all e = m.rest new (rw e (put_nothing new m.inside))

    -- no record stands there: the end, or a cut one
    pub putting-stop : (r : Found) → r ≡ record_at s from → ((k st len : ℕ) → r ≡ Record k st len → ⊥) → Puts old (all_bytes bytes (records s)) new
    unfolding all_bytes
    putting-stop (Record k st len) e h = absurd (h k st len refl)
    putting-stop Cut e h = all (rw (cuts s from (sym e)))
    putting-stop End e h = all (rw (ends s from (sym e)))

    -- a record, whose payload is the slice from its start on
    pub putting-next : (k st len : ℕ) {next : Writer} → record_at s from ≡ Record k st len
        → Puts new (bytes k (take (st + len - st) (drop st s))) next → Putting bytes s old (st + len) next
    unfolding all_bytes
    putting-next k st len {next} e w =
        let here : records (drop from s) ≡ item k (take (st + len - st) (drop st s)) ∷ records (drop (st + len) s) = rw (add-sub_cancel_left st len) (turn s from e) in
        record { inside = place_in w; rest = λ last v. m.rest last (rw here (then w v)) }
