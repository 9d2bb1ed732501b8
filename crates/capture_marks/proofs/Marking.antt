-- A turn of the writer of marks over a capture's records. Assumes nothing.
use Prim.Native.Nat.{ℕ, suc, ◌+◌, ◌-◌, ◌≤◌}
use mathlib.Core.Path.{◌≡◌, refl, sym, ap, ◌∙◌}
use mathlib.Core.List.{List, [], ◌∷◌}
use native.Mathlib.Numerals.{add-one}
use native.Mathlib.Omega.{arith}
use lib.ListN.{length, take, drop, length-append}
use Rattle.wire.specs.Over.{overwrite}
use Rattle.wire.proofs.Over.{length_over, over-cat}
use Rattle.script.specs.Records.{records, record_at}
use Rattle.script.specs.declared.Found.TheVariants.{Record, Cut, End}
use Rattle.script.proofs.Walk.{lies}
use Rattle.capture_marks.specs.Marks.{mark_of, marks_from, marks_of}
use Rattle.capture_marks.proofs.Turns.{marks-cut, marks-end, marks-next}

-- of a capture s, the records before a place are numbered and their marks written: with the marks of those from the place on written after
-- them, all are
abbrev pub Marking : (s old : List ℕ) (at number count : ℕ) → List ℕ → Type 0
Marking s old at number count out =
    (length out ≡ length old)
    × (at ≤ length s)
    × (number ≤ at)
    × (count + length (marks_from number (records (drop at s))) ≡ length (marks_of s))
    × (overwrite out count (marks_from number (records (drop at s))) ≡ overwrite old 0 (marks_of s))

-- some that are none at all
none : (xs : List ℕ) → length xs ≡ 0 → xs ≡ []
none [] h = refl
none (x ∷ xs) h = absurd (omega arith)

module _ (s old : List ℕ) where
  pub marking-start : Marking s old 0 0 0 old
  unfolding marks_of
  marking-start = (refl, omega arith, omega arith, omega arith, refl)

  module _ (at number count : ℕ) (out : List ℕ) (m : Marking s old at number count out) where
    all : marks_from number (records (drop at s)) ≡ [] → out ≡ overwrite old 0 (marks_of s)
    unfolding overwrite
    all e = rw e at m.4

    -- as many as there are
    pub marking-all : length (marks_of s) ≤ count → out ≡ overwrite old 0 (marks_of s)
    marking-all h = all (none _ (omega (arith, m.3)))

    -- no record stands there: the end, or a cut one
    pub marking-cut : record_at s at ≡ Cut → out ≡ overwrite old 0 (marks_of s)
    marking-cut e = all (marks-cut s at number e)

    pub marking-end : record_at s at ≡ End → out ≡ overwrite old 0 (marks_of s)
    marking-end e = all (marks-end s at number e)

    -- a record, whose body is the slice from its start on
    module _ {k st n : ℕ} (e : record_at s at ≡ Record k st n) where
      abbrev mark : List ℕ
      mark = mark_of number (take (st + n - st) (drop st s))

      abbrev rest : List ℕ
      rest = marks_from (suc number) (records (drop (st + n) s))

      long : length (marks_from number (records (drop at s))) ≡ length mark + length rest
      long = ap length (marks-next s at e number) ∙ length-append mark rest

      -- there is room for its mark
      pub marking-room : length (marks_of s) ≤ length old → count + length mark ≤ length out
      marking-room h = omega (arith, m.0, m.3, long)

      pub marking-next : {to : ℕ} {new : List ℕ} → to ≡ count + length mark → new ≡ overwrite out count mark → Marking s old (st + n) (number + 1) to new
      marking-next {to} {new} f w =
          let l = lies s at e in
          let same : length new ≡ length out = ap length w ∙ length_over mark out count in
          rw (add-one number) (
            same ∙ m.0,
            l.1,
            omega (arith, m.2, l),
            omega (arith, m.3, long, f),
            rw (w, f) (over-cat mark rest out count ∙ ap (overwrite out count) (sym (marks-next s at e number)) ∙ m.4),
          )
