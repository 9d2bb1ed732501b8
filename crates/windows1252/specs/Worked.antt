-- Labels with what they are read and written as, smallest inputs first. Rests on Labels and Answers.
use Rattle.std.specs.Prelude.{◌≡◌, Option, Some, None, Result, Ok, Err, List, [], ◌∷◌, ◌++◌, map, ℕ, ◌*◌, length}
use Rattle.wire.specs.Be.{be}
use Rattle.windows1252.specs.Answers.{read_in, text_left, written_in, value_left}

-- a buffer of four bytes
abbrev four : List ℕ
four = 9 ∷ 9 ∷ 9 ∷ 9 ∷ []

-- a total of 0, 1, 2, none, and unknown
abbrev total : ℕ → List ℕ
total n = be 8 (n * 0x0100000000000000)

abbrev no_total : List ℕ
no_total = be 8 0xFFFFFFFFFFFFFFFF

abbrev any_total : List ℕ
any_total = be 8 0xFEFFFFFFFFFFFFFF

-- a value, the buffer that is lent, the answer, and the buffer afterwards
unfoldable pub reads : List (List ℕ × List ℕ × Result (Option ℕ) ℕ × List ℕ)
reads =
    -- byte 80 is U+20AC, the euro sign; byte 81 stands for U+0081; cuts make no difference
    (any_total ++ be 9 0x01000000_80_00000000, four, Ok (Some 2), 0xAC ∷ 0x20 ∷ 9 ∷ 9 ∷ [])
    ∷ (total 2 ++ be 14 0x01000000_41_01000000_81_00000000, four, Ok (Some 4), 0x41 ∷ 0x00 ∷ 0x81 ∷ 0x00 ∷ [])
    -- one byte of room too few
    ∷ (total 2 ++ be 10 0x02000000_4181_00000000, 9 ∷ 9 ∷ 9 ∷ [], Err 20, 9 ∷ 9 ∷ 9 ∷ [])
    -- an empty text, with and without a known total, and null need no room
    ∷ (total 0 ++ be 4 0, [], Ok (Some 0), [])
    ∷ (any_total ++ be 4 0, [], Ok (Some 0), [])
    ∷ (no_total, [], Ok None, [])
    -- nothing at all, a total without chunks, a chunk without its end
    ∷ ([], four, Err 24, four)
    ∷ (total 0, four, Err 24, four)
    ∷ (total 1 ++ be 5 0x01000000_41, four, Err 24, four)
    -- a byte after null, and after the zero length
    ∷ (no_total ++ be 1 0xFF, four, Err 26, four)
    ∷ (total 0 ++ be 5 0, four, Err 26, four)
    -- a chunk over the total, and a zero length before it is reached, where the value ends right there
    ∷ (total 1 ++ be 4 0x02000000, four, Err 26, four)
    ∷ (total 1 ++ be 4 0, four, Err 26, four)
    ∷ []

-- a text, the buffer that is lent, the answer, and the buffer afterwards
unfoldable pub writes : List (List ℕ × List ℕ × Result ℕ ℕ × List ℕ)
writes =
    -- the euro sign; U+0081; room for one byte too few
    (be 2 0xAC20, be 17 0, Ok 17, total 1 ++ be 9 0x01000000_80_00000000)
    ∷ (be 2 0x8100, be 18 9, Ok 17, total 1 ++ be 10 0x01000000_81_00000000_09)
    ∷ (be 2 0x4100, be 16 0, Err 20, be 16 0)
    -- no chunk for the empty text
    ∷ ([], be 12 9, Ok 12, be 12 0)
    -- U+0080 has no byte, nor has U+0100, nor half of a surrogate pair, nor both halves
    ∷ (be 2 0x8000, four, Err 36, four)
    ∷ (be 2 0x0001, four, Err 36, four)
    ∷ (be 2 0x3DD8, four, Err 36, four)
    ∷ (be 4 0x3DD800DE, four, Err 36, four)
    -- an odd text, even where its units have bytes and where they do not
    ∷ (be 1 0x41, four, Err 21, four)
    ∷ (be 3 0x800000, four, Err 21, four)
    ∷ []

abbrev pub WorkedReads : Type 0
WorkedReads =
    map {B = Result (Option ℕ) ℕ × List ℕ} (λ (row : List ℕ × List ℕ × Result (Option ℕ) ℕ × List ℕ). (read_in row.0 (length row.1), text_left row.0 row.1)) reads
    ≡ map {B = Result (Option ℕ) ℕ × List ℕ} (λ (row : List ℕ × List ℕ × Result (Option ℕ) ℕ × List ℕ). (row.2, row.3)) reads

abbrev pub WorkedWrites : Type 0
WorkedWrites =
    map {B = Result ℕ ℕ × List ℕ} (λ (row : List ℕ × List ℕ × Result ℕ ℕ × List ℕ). (written_in row.0 (length row.1), value_left row.0 row.1)) writes
    ≡ map {B = Result ℕ ℕ × List ℕ} (λ (row : List ℕ × List ℕ × Result ℕ ℕ × List ℕ). (row.2, row.3)) writes
