-- The packets of a payload are in shape. Assumes nothing.
use mathlib.Core.Path.{◌≡◌, refl, ap}
use mathlib.Core.Bool.{false}
use mathlib.Core.List.{List, [], ◌∷◌, ◌++◌, append-nil}
use Prim.Native.Nat.{ℕ, zero, suc, ◌+◌, ◌-◌, ◌≤◌}
use native.Mathlib.Omega.{arith}
use lib.ListN.{length, take, drop, length-drop, take-append-drop}
use lib.Seq.{length-take-le}
use borrow.Author.Tests.{le-leb, lt-leb}
use Rattle.wire.proofs.Cases.{split}
use Rattle.packet.specs.Cut.{part_bytes, cut_from, packets_of}
use Rattle.packet.specs.Shaped.{numbered, Full, joined, Shaped}

-- packets in shape, numbered from any number on
record From (size number : ℕ) (p bytes : List ℕ) : Type 0 where
  payloads : List (List ℕ)
  numbers : bytes ≡ numbered number payloads
  full : Full size payloads
  whole : joined payloads ≡ p

-- a full packet before others
before : (size number : ℕ) (p q bytes : List ℕ) → 8 + length p ≡ size → From size (number + 1) q bytes
    → From size number (p ++ q) (part_bytes number false p ++ bytes)
unfolding numbered Full
before size number p q bytes h f = more f.payloads f.numbers f.full f.whole
  where
    more : (ps : List (List ℕ)) → bytes ≡ numbered (number + 1) ps → Full size ps → joined ps ≡ q → From size number (p ++ q) (part_bytes number false p ++ bytes)
    more [] n g w = absurd g
    more (r ∷ rs) n g w = record {
      payloads = p ∷ r ∷ rs;
      numbers = ap (λ (b : List ℕ). part_bytes number false p ++ b) n;
      full = (h, g);
      whole = ap (λ (b : List ℕ). p ++ b) w;
    }

module _ (size : ℕ) (some : 9 ≤ size) where
  shape : (turns number : ℕ) (p : List ℕ) → 1 ≤ length p → length p ≤ turns → From size number p (cut_from turns number (size - 8) p)
  unfolding cut_from numbered Full
  shape zero number p l h = absurd (omega arith)
  shape (suc turns) number p l h =
      split (length p) (size - 8)
      (λ f. rw (le-leb (length p) (size - 8) f) (record {
        payloads = p ∷ [];
        numbers = refl;
        full = (l, omega arith);
        whole = append-nil p;
      }))
      (λ f. let t : length (take (size - 8) p) ≡ size - 8 = length-take-le (size - 8) p (omega arith) in
      let r = shape turns (number + 1) (drop (size - 8) p) (omega (arith, length-drop (size - 8) p)) (omega (arith, length-drop (size - 8) p)) in
      let e : take (size - 8) p ++ drop (size - 8) p ≡ p = take-append-drop (size - 8) p in
      rw (lt-leb (length p) (size - 8) f)
      (rw e at (before size number (take (size - 8) p) (drop (size - 8) p) (cut_from turns (number + 1) (size - 8) (drop (size - 8) p)) (omega arith) r)))

pub shaped : Shaped
unfolding packets_of
shaped size p some l =
    let f = shape size some (length p) 1 p l (omega arith) in
    record { payloads = f.payloads; numbers = f.numbers; full = f.full; whole = f.whole }
