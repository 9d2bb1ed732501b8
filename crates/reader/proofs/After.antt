-- Where the reader stands after each token, and where the list does. Assumes nothing.
use mathlib.Core.Path.{◌≡◌, refl, sym, ◌∙◌}
use mathlib.Core.Bool.{Bool, true, false, not}
use mathlib.Core.List.{List, [], ◌∷◌, ◌++◌, append-nil, append_assoc}
use Prim.Native.Nat.{ℕ, suc, ◌-◌, ◌≤◌}
use native.Mathlib.Omega.{arith}
use lib.ListN.{length, length-append, length-set}
use Rattle.wire.specs.Fields.{Field}
use Rattle.wire.specs.declared.Part.{Part}
use Rattle.packet.specs.Status.{has_bit}
use Rattle.reader.specs.declared.Position.{Position}
use Rattle.cells.specs.declared.Value.{Value}
use Rattle.reader.specs.declared.Token.TheVariants.{ColMetadata, Column, Row, Cell, Done, Message}
use Rattle.cells.specs.Cells.{is_type}
use Rattle.reader.specs.Positions.{after}
use Rattle.reader.proofs.WellFormed.{ColumnType, among, between, in_row}
use Rattle.payload.specs.Places.{Source}
use Rattle.payload.specs.Positions.{Corner}
use Rattle.payload.proofs.Standing.{At}
use Rattle.reader.proofs.Held.{Holds, add-entry, good_more}

module _ {p : Source} {pos : Position} {was : ℕ} {cs : List ColumnType} {fs : List Field} {at : ℕ} {s : List Field} (a : At p at s) (c : Corner) where
  -- the set goes on: its columns stay
  kept : {old cells : List ColumnType} (read : List ColumnType) (k : ℕ) → Holds p pos was false (in_row cs old) fs → k ≡ length cells → cs ≡ read ++ cells
      → Holds p (record { packet = c.packet; place = c.place; count = pos.count; types = pos.types; limits = pos.limits; columns_left = pos.columns_left; cells_left = k; over = pos.over }) at false (in_row cs cells) s
  kept read k h e r = record {
    here = a;
    count-is = h.count-is;
    count≤ = h.count≤;
    types# = h.types#;
    limits# = h.limits#;
    types_are = h.types_are;
    limits-are = h.limits-are;
    good = h.good;
    columns-are = h.columns-are;
    cells_are = e;
    read = read;
    read_is = r;
    over-is = h.over-is;
  }

  -- a set begins, or has ended: no column has come
  anew : (n k : ℕ) {over is-over : Bool} → Holds p pos was false (between cs) fs → n ≤ 128 → k ≡ n → is-over ≡ over
      → Holds p (record { packet = c.packet; place = c.place; count = n; types = pos.types; limits = pos.limits; columns_left = k; cells_left = pos.cells_left; over = is-over }) at over (among [] n) s
  anew n k h m e o = record {
    here = a;
    count-is = omega arith;
    count≤ = m;
    types# = h.types#;
    limits# = h.limits#;
    types_are = refl;
    limits-are = refl;
    good = tt;
    columns-are = e;
    cells_are = h.cells_are;
    read = [];
    read_is = refl;
    over-is = o;
  }

  pub after-metadata : (n : ℕ) → n ≤ 128 → Holds p pos was false (between cs) fs → Holds p (after pos (ColMetadata n) c) at false (among [] n) s
  unfolding after
  after-metadata n m h = anew n n h m refl h.over-is

  pub after-done : (status command count : ℕ) → Holds p pos was false (between cs) fs
      → Holds p (after pos (Done status command count) c) at (not (has_bit 0x01 status)) (between []) s
  unfolding after
  after-done status command count h = anew 0 pos.columns_left h (omega arith) h.columns-are refl

  pub after-message : (kind n state class : ℕ) (text server procedure : Part) (line : ℕ) → Holds p pos was false (between cs) fs
      → Holds p (after pos (Message kind n state class text server procedure line) c) at false (between cs) s
  unfolding after
  after-message kind n state class text server procedure line h = kept cs pos.cells_left h h.cells_are (sym (append-nil cs))

  pub after-row : Holds p pos was false (between cs) fs → Holds p (after pos Row c) at false (in_row cs cs) s
  unfolding after
  after-row h = kept [] pos.count h (omega arith) refl

  pub after-cell : (v : Value) (d : ColumnType) (cells : List ColumnType) → Holds p pos was false (in_row cs (d ∷ cells)) fs
      → Holds p (after pos (Cell v) c) at false (in_row cs cells) s
  unfolding after
  after-cell v d cells h = kept (h.read ++ (d ∷ [])) (pos.cells_left - 1) h (omega arith) (h.read_is ∙ sym (append_assoc h.read (d ∷ []) cells))

  pub after-column : (user flags code limit : ℕ) (collation name : Part) (k : ℕ) → is_type code limit ≡ true → Holds p pos was false (among cs (suc k)) fs
      → Holds p (after pos (Column user flags code limit collation name) c) at false (among (cs ++ (record { code = code; limit = limit } ∷ [])) k) s
  unfolding after
  after-column user flags code limit collation name k e h =
      let d : ColumnType = record { code = code; limit = limit } in
      let i : pos.count - pos.columns_left ≡ length cs = omega arith in
      record {
        here = a;
        count-is = omega (arith, length-append cs (d ∷ []));
        count≤ = h.count≤;
        types# = length-set pos.types _ code ∙ h.types#;
        limits# = length-set pos.limits _ limit ∙ h.limits#;
        types_are = rw i (add-entry (λ c. c.code) pos.types cs d (omega arith) h.types_are);
        limits-are = rw i (add-entry (λ c. c.limit) pos.limits cs d (omega arith) h.limits-are);
        good = good_more cs d h.good e;
        columns-are = omega arith;
        cells_are = h.cells_are;
        read = cs ++ (d ∷ []);
        read_is = sym (append-nil (cs ++ (d ∷ [])));
        over-is = h.over-is;
      }
