-- Misfits in their order, and scripts with what the fit check answers, smallest inputs first. Rests on Misfits and First.
use Rattle.std.specs.Prelude.{Option, Some, None, Result, Ok, Err, ℕ, ◌+◌, ◌≡◌, Bool, true, not, ◌&&◌, List, [], ◌∷◌, ◌++◌, map, length, replicate}
use Rattle.wire.specs.Le.{le}
use Rattle.wire.specs.Be.{be}
use Rattle.token.specs.Tokens.{joined}
use Rattle.script.specs.Records.{records}
use Rattle.script.specs.Sets.{sets_in}
use Rattle.fit.specs.declared.Misfit.{Misfit}
use Rattle.fit.specs.declared.Misfit.TheVariants.{Classification, Column, Cell}
use Rattle.fit.specs.Misfits.{misfits, fit_of}
use Rattle.fit.specs.First.{before}

-- ---- the order

-- the earlier of two: by set; in a set the classification, then columns, then cells by row and column
unfoldable pub rising : List Misfit
rising =
    Classification 0
    ∷ Column 0 0
    ∷ Column 0 128
    ∷ Cell 0 0 0
    ∷ Cell 0 0 5
    ∷ Cell 0 1 0
    ∷ Classification 1
    ∷ Cell 1 0 1
    ∷ Column 2 0
    ∷ []

-- whether a misfit comes before some, and none of these before it
abbrev pub before_all : Misfit → List Misfit → Bool
before_all m [] = true
before_all m (o ∷ os) = before m o && not (before o m) && before_all m os

abbrev pub in_turn : List Misfit → Bool
in_turn [] = true
in_turn (m ∷ ms) = before_all m ms && in_turn ms

abbrev pub WorkedOrder : Type 0
WorkedOrder = in_turn rising ≡ true

-- ---- scripts

-- texts: a letter; U+1F600, a surrogate pair
abbrev letter : List ℕ
letter = be 2 0x6E00

abbrev pair : List ℕ
pair = be 4 0x3DD8_00DE

-- a text so many times
abbrev times : ℕ → List ℕ → List ℕ
times n text = joined (replicate n text)

-- records: a set, and one with a byte of classification; a column Int of a name, and so many without one; a row; the value 10, which
-- goes with Int, and the value 1, which does not; a terminal error
abbrev set : List ℕ
set = be 6 0x00000000_0100

abbrev classified : List ℕ
classified = be 7 0x01000000_0100_A3

abbrev column : List ℕ → List ℕ
column name = le 4 (6 + length name) ++ be 8 0x0200_03_0904D00034 ++ name

abbrev ints : ℕ → List ℕ
ints n = times n (column [])

abbrev row : List ℕ
row = be 6 0x00000000_0400

abbrev null : List ℕ
null = be 7 0x01000000_0500_0A

abbrev tiny : List ℕ
tiny = be 8 0x02000000_0500_01_07

abbrev terminal : List ℕ
terminal = be 11 0x05000000_0800_01000000_10

-- a script, and the answer
unfoldable pub worked : List (List ℕ × Result (Option Misfit) ℕ)
worked =
    -- no record; a bare set; a terminal error, which is sent alone
    ([], Err 12)
    ∷ (set, Ok None)
    ∷ (classified ++ terminal, Ok None)
    -- four misfits, and three, two, one and none as they are corrected from the top; the name is none of them
    ∷ (classified ++ ints 129 ++ row ++ classified, Ok (Some (Classification 0)))
    ∷ (set ++ ints 129 ++ row ++ classified, Ok (Some (Column 0 128)))
    ∷ (set ++ column pair ++ row ++ classified, Ok (Some (Cell 0 0 0)))
    ∷ (set ++ column pair ++ row ++ null ++ classified, Ok (Some (Classification 1)))
    ∷ (set ++ column pair ++ row ++ null ++ set, Ok None)
    -- names of 255 units: letters and a pair, 127 pairs and a letter; 128 pairs; half a pair
    ∷ (set ++ column (times 253 letter ++ pair), Ok None)
    ∷ (set ++ column (times 127 pair ++ letter), Ok None)
    ∷ (set ++ column (times 128 pair), Err 16)
    ∷ (set ++ column (be 2 0x3DD8), Err 14)
    -- the most columns; too many
    ∷ (set ++ ints 128, Ok None)
    ∷ (set ++ ints 129, Ok (Some (Column 0 128)))
    ∷ (set ++ ints 130, Ok (Some (Column 0 128)))
    ∷ (set ++ ints 300, Ok (Some (Column 0 128)))
    -- a row without columns; a wrong cell and a cell too many; a cell too many; the second row, with cell 0 missing, comes after the first
    ∷ (set ++ row, Ok (Some (Cell 0 0 0)))
    ∷ (set ++ ints 1 ++ row ++ tiny ++ null, Ok (Some (Cell 0 0 0)))
    ∷ (set ++ ints 1 ++ row ++ null ++ null, Ok (Some (Cell 0 0 1)))
    ∷ (set ++ ints 1 ++ row ++ null ++ null ++ row, Ok (Some (Cell 0 0 1)))
    ∷ (set ++ ints 1 ++ row ++ null ++ row, Ok (Some (Cell 0 1 0)))
    ∷ []

abbrev pub WorkedScripts : Type 0
WorkedScripts = map (λ (line : List ℕ × Result (Option Misfit) ℕ). fit_of line.0) worked ≡ map (λ (line : List ℕ × Result (Option Misfit) ℕ). line.1) worked

-- all misfits of a script
abbrev pub misfits_of : List ℕ → List Misfit
misfits_of s = misfits (sets_in (records s))

-- of 129, 130 and 300 columns, column 128 is the only misfit
abbrev pub WorkedColumns : Type 0
WorkedColumns =
    (misfits_of (set ++ ints 128) ≡ [])
    × (misfits_of (set ++ ints 129) ≡ Column 0 128 ∷ [])
    × (misfits_of (set ++ ints 130) ≡ Column 0 128 ∷ [])
    × (misfits_of (set ++ ints 300) ≡ Column 0 128 ∷ [])
