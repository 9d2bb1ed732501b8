-- That a label is the cell that it is read as, that no two bytes share a character, and that a label is kept when it is written and
-- read, and when it is read and written (document 02, 2026-07). Rests on Labels and Answers.
use Rattle.std.specs.Prelude.{ℕ, Some, Ok, ◌<◌, ◌≤◌, ◌≡◌, List, length, take, get_or}
use Rattle.wire.specs.Octets.{Bytes}
use Rattle.wire.specs.declared.Part.{Part}
use Rattle.token.specs.Tokens.{part}
use Rattle.payload.specs.Places.{whole, body_source}
use Rattle.cells.specs.declared.Value.TheVariants as cell
use Rattle.cells.specs.Cells.{cell_at}
use Rattle.cells.specs.Values.{value_meaning}
use Rattle.windows1252.specs.Table.{table}
use Rattle.windows1252.specs.Labels.{read_of, written_of, chunks_joined}
use Rattle.windows1252.specs.Answers.{read_in, text_left, written_in, value_left}

-- a label's bytes are what the cell stands for that it is read as
abbrev pub AsCell : Type 0
AsCell = (v : List ℕ) (p : Part) → cell_at 0xA7 0xFFFF (body_source v) 0 ≡ whole (cell.Max p) (length v) → value_meaning v (cell.Max p) ≡ part (chunks_joined v)

-- no two bytes share a character
abbrev pub Distinct : Type 0
Distinct = (i j : ℕ) → i < 256 → j < 256 → get_or table i 0 ≡ get_or table j 0 → i ≡ j

-- accepted text written reads back the same
abbrev pub WriteRead : Type 0
WriteRead = (t v : List ℕ) → Bytes t → written_of t ≡ Ok v → read_of v ≡ Ok (Some t)

-- a value read and not null writes back with the same chunk bytes joined, whatever its cuts
abbrev pub ReadWrite : Type 0
ReadWrite = (v t : List ℕ) → Bytes v → read_of v ≡ Ok (Some t) → (w : List ℕ) × (written_of t ≡ Ok w) × (chunks_joined w ≡ chunks_joined v)

-- the same of what `write_value` and `read_value` answer and leave in lent buffers: the n bytes that were written of a text read as a
-- text of its length, where there is room, and that text is at the buffer's front
abbrev pub WrittenRead : Type 0
WrittenRead =
    (t buf panel : List ℕ) (n : ℕ) → Bytes t → written_in t (length buf) ≡ Ok n → length t ≤ length panel
    → (read_in (take n (value_left t buf)) (length panel) ≡ Ok (Some (length t))) × (take (length t) (text_left (take n (value_left t buf)) panel) ≡ t)

-- the n bytes of text that were read of a value are written, where there is room, as a value with the same chunk bytes joined
abbrev pub ReadWritten : Type 0
ReadWritten =
    (v panel buf : List ℕ) (n : ℕ) → Bytes v → read_in v (length panel) ≡ Ok (Some n) → 65551 ≤ length buf
    → (m : ℕ) × (written_in (take n (text_left v panel)) (length buf) ≡ Ok m)
    × (chunks_joined (take m (value_left (take n (text_left v panel)) buf)) ≡ chunks_joined v)
