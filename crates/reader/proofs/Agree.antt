-- A token that is read from two sources, which are the same from a place on, is the same. Assumes nothing.
use mathlib.Core.Bool.{◌&&◌, ◌||◌}
use Prim.Native.Nat.{ℕ, ◌+◌, ◌-◌, ◌*◌, ◌≤◌}
use native.Mathlib.Omega.{arith}
use lib.Dec.{eqb, leb, ltb}
use lib.ListN.{length}
use Rattle.wire.specs.Even.{even}
use Rattle.payload.specs.Places.{Source, Place}
use Rattle.payload.proofs.Sources.{Same, same-later}
use Rattle.payload.proofs.Agree.{Agree, both, neither, cond-agree, must-agree, number-agree, part-agree, then-agree}
use Rattle.cells.proofs.Agree.{type-agree, cell_agree}
use Rattle.reader.specs.declared.HeldTypes.{HeldTypes}
use Rattle.reader.specs.declared.Position.{Position}
use Rattle.reader.specs.declared.Spot.{Spot}
use Rattle.reader.specs.ReadTokens.{column_at, metadata_at, row_at, done_at, text_at, texts_at, message_at, token_at}
use Rattle.reader.specs.Reader.{row_cell_at, next_at}
use Rattle.reader.specs.Spots.{spot_of, held_in, next_by}

row-agree : (columns n at : ℕ) → at ≤ n → Agree n at (row_at columns at) (row_at columns at)
unfolding row_at
row-agree columns n at h = must-agree (ltb 0 columns) _ _ _ (both (omega arith) h)

module _ {a b : Source} where
  column-agree : (at : Place) → Same a b at → Agree (length a.bytes) (at + 1) (column_at a at) (column_at b at)
  unfolding column_at
  column-agree at s =
      number-agree 4 at _ _ s (λ user_type h1.
      number-agree 2 (at + 4) _ _ (same-later at (omega arith) s) (λ flags h2.
      then-agree _ _ (type-agree (at + 4 + 2) (same-later at (omega arith) s)) (λ type a3 f3 t3.
      number-agree 1 a3 _ _ (same-later at (omega arith) s) (λ units h4.
      part-agree (2 * units) (a3 + 1) _ _ (same-later at (omega arith) s) (λ h5.
      both (omega arith) h5)))))

  metadata-agree : (at : Place) → Same a b at → Agree (length a.bytes) at (metadata_at a at) (metadata_at b at)
  unfolding metadata_at
  metadata-agree at s =
      number-agree 2 at _ _ s (λ count h1.
      must-agree (leb count 128) _ _ _ (both (omega arith) h1))

  done-agree : (at : Place) → Same a b at → Agree (length a.bytes) at (done_at a at) (done_at b at)
  unfolding done_at
  done-agree at s =
      number-agree 2 at _ _ s (λ status h1.
      number-agree 2 (at + 2) _ _ (same-later at (omega arith) s) (λ command h2.
      number-agree 8 (at + 2 + 2) _ _ (same-later at (omega arith) s) (λ count h3.
      both (omega arith) h3)))

  text-agree : (k room most : ℕ) (at : Place) → Same a b at → Agree (length a.bytes) at (text_at k room most a at) (text_at k room most b at)
  unfolding text_at
  text-agree k room most at s =
      number-agree k at _ _ s (λ units h1.
      must-agree (leb (2 * units) room && leb (room - 2 * units) most) _ _ _
      (part-agree (2 * units) (at + k) _ _ (same-later at (omega arith) s) (λ h2.
      both (omega arith) h2)))

  texts-agree : (room : ℕ) (at : Place) → Same a b at → Agree (length a.bytes) at (texts_at room a at) (texts_at room b at)
  unfolding texts_at
  texts-agree room at s =
      then-agree _ _ (text-agree 2 room 1020 at s) (λ text a1 f1 t1.
      then-agree _ _ (text-agree 1 (room - text.len) 510 a1 (same-later at f1 s)) (λ server a2 f2 t2.
      then-agree _ _ (text-agree 1 (room - text.len - server.len) 0 a2 (same-later at (omega arith) s)) (λ procedure a3 f3 t3.
      number-agree 4 a3 _ _ (same-later at (omega arith) s) (λ line h4.
      both (omega arith) h4))))

  message-agree : (kind : ℕ) (at : Place) → Same a b at → Agree (length a.bytes) at (message_at kind a at) (message_at kind b at)
  unfolding message_at
  message-agree kind at s =
      number-agree 2 at _ _ s (λ size h1.
      must-agree (leb 14 size && even size) _ _ _
      (number-agree 4 (at + 2) _ _ (same-later at (omega arith) s) (λ number h2.
      number-agree 1 (at + 2 + 4) _ _ (same-later at (omega arith) s) (λ state h3.
      number-agree 1 (at + 2 + 4 + 1) _ _ (same-later at (omega arith) s) (λ class h4.
      then-agree _ _ (texts-agree (size - 14) (at + 2 + 4 + 1 + 1) (same-later at (omega arith) s)) (λ t a5 f5 t5.
      both (omega arith) t5))))))

  token-agree : (columns : ℕ) (at : Place) → Same a b at → Agree (length a.bytes) (at + 1) (token_at columns a at) (token_at columns b at)
  unfolding token_at
  token-agree columns at s =
      number-agree 1 at _ _ s (λ code h1.
      let later = same-later at (omega arith) s in
      cond-agree (eqb code 0x81) _ _ _ _ (metadata-agree (at + 1) later)
      (cond-agree (eqb code 0xD1) _ _ _ _ (row-agree columns (length a.bytes) (at + 1) (omega arith))
      (cond-agree (eqb code 0xFD) _ _ _ _ (done-agree (at + 1) later)
      (cond-agree (eqb code 0xAA || eqb code 0xAB) _ _ _ _ (message-agree code (at + 1) later)
      neither))))

  pub next-by-agree : (at : Spot) (held : HeldTypes) (n : Place) → Same a b n → Agree (length a.bytes) (n + 1) (next_by a n at held) (next_by b n at held)
  next-by-agree at held n s =
      cond-agree (ltb 0 at.columns_left) _ _ _ _ (column-agree n s)
      (cond-agree (ltb 0 at.cells_left) _ _ _ _ (then-agree _ _ (cell_agree held.code held.limit n s) (λ v to f t. both f t)) (token-agree at.count n s))

  pub next_agree : (pos : Position) (at : Place) → Same a b at → Agree (length a.bytes) (at + 1) (next_at a at pos) (next_at b at pos)
  unfolding next_at row_cell_at
  next_agree pos at s = next-by-agree (spot_of pos) (held_in pos) at s
