-- What a step's answer tells of the next position: the same one, or the one after the token; and a column that is read has a column type.
-- Assumes nothing.
use Rattle.std.specs.Prelude.{Some, None, Ok, Err}
use Prim.Native.Nat.{ℕ, ◌+◌, ◌-◌}
use mathlib.Core.Path.{◌≡◌, refl}
use mathlib.Core.Bool.{Bool, true, false, cond, ◌&&◌, ◌||◌}
use mathlib.Core.List.{List}
use lib.Dec.{leb, ltb, eqb}
use lib.ListN.{length}
use Rattle.wire.proofs.Cases.{by-test}
use Rattle.wire.specs.Even.{even}
use Rattle.wire.specs.declared.Part.{Part}
use Rattle.token.specs.Types.{length_width, collation_size}
use Rattle.payload.specs.Places.{Source, Place, Read, whole, refused, number_at, part_at, must, then}
use Rattle.payload.specs.Packets.{packets_in, source_of}
use Rattle.payload.specs.Positions as positions
use Rattle.payload.specs.Positions.{Placed, Corner, place_in, corner_of}
use Rattle.cells.specs.declared.TypeInfo.{TypeInfo}
use Rattle.cells.specs.Cells.{is_code, is_type, type_at, cell_at}
use Rattle.reader.specs.declared.Position.{Position}
use Rattle.reader.specs.declared.Token.{Token}
use Rattle.reader.specs.declared.Token.TheVariants.{ColMetadata, Column, Row, Cell, Done, Message}
use Rattle.reader.specs.ReadTokens.{column_at, metadata_at, row_at, done_at, texts_at, message_at, token_at}
use Rattle.reader.specs.Positions.{stands, after}
use Rattle.reader.specs.Reader.{Answer, settled, row_cell_at, next_at, end_at, refused_at, step_from, step_of}

-- ---- what holds of whatever is read

abbrev Anything : Type 0
Anything = ◌≡◌ {A = ℕ} 0 0

module _ {A : Type 0} (G : A → Type 0) where
  abbrev All : Read A → Type 0
  All (whole a at) = G a
  All (refused n) = Anything

  number-all : (k : ℕ) (p : Source) (at : Place) (go : ℕ → Place → Read A) → ((n : ℕ) (a : Place) → All (go n a)) → All (number_at k p at go)
  unfolding number_at
  number-all k p at go g = by-test (leb (at + k) (length p.bytes)) (λ t. rw t (g _ _)) (λ t. rw t refl)

  part-all : (n : ℕ) (p : Source) (at : Place) (go : Part → Place → Read A) → ((x : Part) (a : Place) → All (go x a)) → All (part_at n p at go)
  unfolding part_at
  part-all n p at go g = by-test (leb (at + n) (length p.bytes)) (λ t. rw t (g _ _)) (λ t. rw t refl)

  must-all : (b : Bool) (n : ℕ) (r : Read A) → (b ≡ true → All r) → All (must b n r)
  unfolding must
  must-all true n r g = g refl
  must-all false n r g = refl

  cond-all : (b : Bool) (r s : Read A) → All r → All s → All (cond b r s)
  cond-all true r s x y = x
  cond-all false r s x y = y

then-all : {A B : Type 0} (G : A → Type 0) (H : B → Type 0) (r : Read A) (go : A → Place → Read B) → All G r → ((a : A) (at : Place) → G a → All H (go a at))
    → All H (then r go)
unfolding then
then-all G H (whole a at) go g h = h a at g
then-all G H (refused n) go g h = refl

then-any : {A B : Type 0} (H : B → Type 0) (r : Read A) (go : A → Place → Read B) → ((a : A) (at : Place) → All H (go a at)) → All H (then r go)
unfolding then
then-any H (whole a at) go h = h a at
then-any H (refused n) go h = refl

-- ---- a column has a column type

abbrev pub Typed : Token → Type 0
Typed (ColMetadata n) = Anything
Typed (Column user flags code limit collation name) = is_type code limit ≡ true
Typed Row = Anything
Typed (Cell v) = Anything
Typed (Done status command count) = Anything
Typed (Message kind number state class text server procedure line) = Anything

type-typed : (p : Source) (at : Place) → All (λ (t : TypeInfo). is_type t.code t.limit ≡ true) (type_at p at)
unfolding type_at
type-typed p at =
    number-all _ 1 p at _ (λ code a1. must-all _ (is_code code) _ _ (λ c. number-all _ (length_width code) p a1 _
    (λ limit a2. must-all _ (is_type code limit) _ _ (λ e. part-all _ (collation_size code) p a2 _ (λ collation a3. e)))))

column-typed : (p : Source) (at : Place) → All Typed (column_at p at)
unfolding column_at
column-typed p at =
    number-all Typed 4 p at _ (λ user a1. number-all Typed 2 p a1 _ (λ flags a2. then-all _ Typed (type_at p a2) _ (type-typed p a2)
    (λ type a3 e. number-all Typed 1 p a3 _ (λ units a4. part-all Typed _ p a4 _ (λ name a5. e)))))

message-typed : (kind : ℕ) (p : Source) (at : Place) → All Typed (message_at kind p at)
unfolding message_at
message-typed kind p at =
    number-all Typed 2 p at _ (λ size a1. must-all Typed (leb 14 size && even size) _ _ (λ e. number-all Typed 4 p a1 _ (λ number a2. number-all Typed 1 p a2 _
    (λ state a3. number-all Typed 1 p a3 _ (λ class a4. then-any Typed (texts_at (size - 14) p a4) _ (λ t a5. refl))))))

token-typed : (columns : ℕ) (p : Source) (at : Place) → All Typed (token_at columns p at)
unfolding token_at metadata_at row_at done_at
token-typed columns p at =
    number-all Typed 1 p at _ (λ code a1.
    cond-all Typed (eqb code 0x81) _ _ (number-all Typed 2 p a1 _ (λ count a2. must-all Typed (leb count 128) _ _ (λ e. refl)))
    (cond-all Typed (eqb code 0xD1) _ _ (must-all Typed (ltb 0 columns) _ _ (λ e. refl))
    (cond-all Typed (eqb code 0xFD) _ _ (number-all Typed 2 p a1 _ (λ status a2. number-all Typed 2 p a2 _ (λ command a3. number-all Typed 8 p a3 _ (λ count a4. refl))))
    (cond-all Typed (eqb code 0xAA || eqb code 0xAB) (message_at code p a1) (refused 25) (message-typed code p a1) refl))))

next-typed : (p : Source) (at : Place) (pos : Position) → All Typed (next_at p at pos)
unfolding next_at row_cell_at
next-typed p at pos =
    cond-all Typed (ltb 0 pos.columns_left) _ _ (column-typed p at)
    (cond-all Typed (ltb 0 pos.cells_left) _ _ (then-any Typed (cell_at _ _ p at) _ (λ v to. refl)) (token-typed pos.count p at))

-- ---- what an answer tells of the next position

abbrev pub Following : Position → Answer → Position → Type 0
Following pos (Ok (Some t)) next = (c : Corner) × ((next ≡ after pos t c) × Typed t)
Following pos (Ok None) next = next ≡ pos
Following pos (Err n) next = next ≡ pos

module _ (l : List ℕ) (pos : Position) where
  settled-following : (r : Read Token) → All Typed r → let s = settled (packets_in l) pos r in Following pos s.answer s.next
  settled-following (whole t at) g = (corner_of (packets_in l) at, (refl, g))
  settled-following (refused n) g = refl

  end-following : (left over : Bool) (n : ℕ) → Following pos (cond left (Err 26) (cond over (Ok None) (Err n))) pos
  end-following true over n = refl
  end-following false true n = refl
  end-following false false n = refl

  over-following : (n : ℕ) (o : Bool) → let s = cond o (end_at (source_of (packets_in l)) n pos) (settled (packets_in l) pos (next_at (source_of (packets_in l)) n pos)) in
      Following pos s.answer s.next
  over-following n true = end-following (ltb n (length (source_of (packets_in l)).bytes)) (eqb (source_of (packets_in l)).stop 24) (source_of (packets_in l)).stop
  over-following n false = settled-following (next_at (source_of (packets_in l)) n pos) (next-typed (source_of (packets_in l)) n pos)

  stands-following : (n : ℕ) (b : Bool)
      → let s = cond b (cond pos.over (end_at (source_of (packets_in l)) n pos) (settled (packets_in l) pos (next_at (source_of (packets_in l)) n pos))) (refused_at pos 24) in
      Following pos s.answer s.next
  stands-following n true = over-following n pos.over
  stands-following n false = refl

  from-following : (at : Placed) → let s = step_from (packets_in l) pos at in Following pos s.answer s.next
  from-following (positions.refused n) = refl
  from-following (positions.at n) = stands-following n (stands pos)

  pub following : Following pos (step_of l pos).answer (step_of l pos).next
  unfolding step_of
  following = from-following (place_in (packets_in l) pos.packet pos.place)
