-- Which lists of tokens are well formed, as a grammar of what may come next (MS-TDS 2.2.7; document 01, 'The reply packet'), and
-- the reply of such a list. Assumes nothing.
use Prim.Native.Nat.{ℕ, suc, ◌*◌, ◌%◌, ◌^◌, ◌≤◌, ◌<◌}
use mathlib.Core.Path.{◌≡◌}
use mathlib.Core.Bool.{true, false, ◌||◌}
use mathlib.Core.List.{List, [], ◌∷◌, ◌++◌}
use lib.Dec.{eqb}
use lib.ListN.{length}
use Rattle.packet.specs.Status.{has_bit}
use Rattle.text.specs.Units.{units}
use Rattle.token.specs.Types.{collation_size}
use Rattle.token.specs.Tokens.{Token, metadata, column, row, cell, done, message, EncodedCell, integer, no_integer, bounded, long, no_long}
use Rattle.wire.specs.Even.{even}
use Rattle.cells.specs.Cells.{is_type}
use Rattle.cells.proofs.Chunks.{ChunksOk}

-- ---- tokens that can be sent and read

pub record ColumnType : Type 0 where
  pub code : ℕ
  pub limit : ℕ

-- a column of a type that there is, whose name is whole units, at most 255 of them
pub record ColumnOk (user flags code limit : ℕ) (collation name : List ℕ) : Type 0 where
  pub user< : user < 256 ^ 4
  pub flags< : flags < 256 ^ 2
  pub type-is : is_type code limit ≡ true
  pub collation-is : length collation ≡ collation_size code
  pub name-is : 2 * units name ≡ length name
  pub name< : units name < 256

-- a cell that goes with a column's type
abbrev pub CellOk : ColumnType → EncodedCell → Type 0
CellOk c (integer w n) = (c.code ≡ 0x26) × (c.limit ≡ w) × (n < 256 ^ w)
CellOk c no_integer = c.code ≡ 0x26
CellOk c (bounded x) = (c.code ≡ 0xE7) × (c.limit ≤ 8000) × (length x ≤ c.limit) × (even (length x) ≡ true)
CellOk c (long cs) = (c.limit ≡ 0xFFFF) × ChunksOk (eqb c.code 0xE7) cs
CellOk c no_long = c.limit ≡ 0xFFFF

pub record DoneOk (status command count : ℕ) : Type 0 where
  pub status< : status < 256 ^ 2
  pub command< : command < 256 ^ 2
  pub count< : count < 256 ^ 8

-- an ERROR or INFO, whose names have at most 255 units
pub record MessageOk (kind number state class : ℕ) (text server procedure : List ℕ) (line : ℕ) : Type 0 where
  pub kind-is : (eqb kind 0xAA || eqb kind 0xAB) ≡ true
  pub number< : number < 256 ^ 4
  pub state< : state < 256
  pub class< : class < 256
  pub line< : line < 256 ^ 4
  pub text-even : length text % 2 ≡ 0
  pub server-even : length server % 2 ≡ 0
  pub server≤ : length server ≤ 510
  pub procedure-even : length procedure % 2 ≡ 0
  pub procedure≤ : length procedure ≤ 510

-- ---- their order

-- where a list stands: the columns of the set that have come, how many are to come, and the columns whose cells are to come
pub record Phase : Type 0 where
  pub columns : List ColumnType
  pub coming : ℕ
  pub cells : List ColumnType

-- among the columns of a set
abbrev pub among : List ColumnType → ℕ → Phase
among cs k = record { columns = cs; coming = k; cells = [] }

-- between tokens, in a set of some columns; no column is held at the start and after a DONE
abbrev pub between : List ColumnType → Phase
between cs = among cs 0

-- within a row of a set of some columns
abbrev pub in_row : List ColumnType → List ColumnType → Phase
in_row cs cells = record { columns = cs; coming = 0; cells = cells }

-- what may come at a phase: tokens up to the first DONE without MORE
pub data WF : Phase → List (Token EncodedCell) → Type 0 where
  wf-metadata : {cs : List ColumnType} {n : ℕ} {ts : List (Token EncodedCell)} → n ≤ 128 → WF (among [] n) ts → WF (between cs) (metadata n ∷ ts)
  wf-column : {cs : List ColumnType} {k u f c l : ℕ} {o n : List ℕ} {ts : List (Token EncodedCell)} → ColumnOk u f c l o n
      → WF (among (cs ++ (record { code = c; limit = l } ∷ [])) k) ts → WF (among cs (suc k)) (column u f c l o n ∷ ts)
  wf-row : {cs : List ColumnType} {ts : List (Token EncodedCell)} → 0 < length cs → WF (in_row cs cs) ts → WF (between cs) (row ∷ ts)
  wf-cell : {cs cells : List ColumnType} {c : ColumnType} {v : EncodedCell} {ts : List (Token EncodedCell)} → CellOk c v
      → WF (in_row cs cells) ts → WF (in_row cs (c ∷ cells)) (cell v ∷ ts)
  wf-message : {cs : List ColumnType} {k n s c l : ℕ} {t v p : List ℕ} {ts : List (Token EncodedCell)} → MessageOk k n s c t v p l
      → WF (between cs) ts → WF (between cs) (message k n s c t v p l ∷ ts)
  wf-done : {cs : List ColumnType} {s c n : ℕ} {ts : List (Token EncodedCell)} → DoneOk s c n → has_bit 0x01 s ≡ true
      → WF (between []) ts → WF (between cs) (done s c n ∷ ts)
  wf-last : {cs : List ColumnType} {s c n : ℕ} → DoneOk s c n → has_bit 0x01 s ≡ false → WF (between cs) (done s c n ∷ [])

-- the lists of tokens that a reply can have
abbrev pub WellFormed : List (Token EncodedCell) → Type 0
WellFormed ts = WF (between []) ts
