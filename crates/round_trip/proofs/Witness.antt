-- What the statements ask for can be met, of three scripts with what is read of their packets: `two_sets`, which has rows in both its
-- sets; `all_kinds`, which has every kind of record but 8, every type of column and every value; and `terminal`, which has kind 8.
-- The room for replies, of some scripts. Each is checked by computing. Assumes nothing.
use mathlib.Core.Path.{◌≡◌, refl, ◌∙◌}
use mathlib.Core.Bool.{Bool, true, and-eq-true_iff, ◌&&◌}
use mathlib.Core.List.{List, [], ◌∷◌, ◌++◌, map, flat_map}
use Prim.Native.Nat.{ℕ}
use lib.Dec.{ltb}
use lib.IntN.{pos, negsuc}
use lib.ListN.{replicate}
use borrow.Author.Tests.{ltb-true}
use Rattle.wire.specs.Le.{le, le_at}
use Rattle.wire.specs.Be.{be}
use Rattle.wire.specs.Fields.{flat}
use Rattle.text.specs.Units.{units_of, units, total}
use Rattle.text.specs.Surrogates.{surrogate_of, surrogates, paired, well_formed}
use Rattle.packet.specs.Status.{has_bit}
use Rattle.packet.specs.Header.{header_bytes}
use Rattle.packet.specs.Reply.{reply_header, packet_of}
use Rattle.packet.specs.Cut.{part_bytes, cut_from, packets_of}
use Rattle.script.specs.Records.{parse, records}
use Rattle.script.specs.Order.{cell_stage, stage_after}
use Rattle.script.specs.Shape.{column_shaped, info_shaped, number_width, cell_shaped, chunk_shaped, error_shaped, shaped, texts_of}
use Rattle.script.specs.Verdict.{all_well_formed, fault_of, verdict_from, verdict_of}
use Rattle.token.specs.Types.{data_types, data_type_in, data_type_of, length_width, collation_size}
use Rattle.token.specs.Names.{name_fault}
use Rattle.token.specs.Values.{column_values, column_value_in, column_value_of}
use Rattle.token.specs.Tokens.{Token, Value, metadata, column, row, cell, done, message, number, part, null, states}
use Rattle.token.specs.Tokens.{signed, joined, message_length}
use Rattle.script.specs.Runs.{ahead}
use Rattle.script.specs.Sets.{every, cells_in, rows_in, up_to_set, sets_in}
use Rattle.emission.specs.Emission.{column_of, cell_of, set_pieces, sets_pieces, emitted_by, pieces, emitted, bytes_in, reply_of}
use Rattle.emission.specs.Refusal.{fault_in, refusal_of}
use Rattle.std.specs.Prelude.{Ok, Err}
use Rattle.result.specs.Built.{replies_of, room_of, room_at, built_of}
use Rattle.fit.specs.Misfits.{cell_fits, wrong_cells, wrong_in_row, wrong_columns, types_in}
use Rattle.fit.specs.Misfits.{rows_misfits, set_misfits, sets_misfits, misfits, fit_of}
use Rattle.wire.specs.Octets.{Bytes}
use Rattle.round_trip.specs.RoundTrip.{single, packets_left, Sent, Reads}
use Rattle.round_trip.specs.Data.{value_by, data_in, counts_in, data_of, counts_of, present}
use Rattle.round_trip.proofs.RoundTrip.{round_trip}
use Rattle.round_trip.proofs.Reading.{read_is, terminal-read}
use Rattle.round_trip.proofs.Data.{data-read}

-- ---- the scripts: a line for each record, its payload's length, its kind and its payload

abbrev pub two_sets : List ℕ
two_sets =
    joined
    -- a set; a column "a" of type 1, TinyInt; a row; a cell of value 1, 255
    (be 6 0x00000000_0100
    ∷ be 14 0x08000000_0200_01_0904D00034_6100
    ∷ be 6 0x00000000_0400
    ∷ be 8 0x02000000_0500_01_FF
    -- a set; a column "b" of type 1; a row; a cell of value 10, null
    ∷ be 6 0x00000000_0100
    ∷ be 14 0x08000000_0200_01_0904D00034_6200
    ∷ be 6 0x00000000_0400
    ∷ be 7 0x01000000_0500_0A
    ∷ [])

abbrev pub all_kinds : List ℕ
all_kinds =
    joined
    -- 1: a set. 2: columns "a" to "i", each with five collation bytes, of types 1 to 8 and 1 again; one of type 6, "j" and a surrogate pair
    (be 6 0x00000000_0100
    ∷ be 14 0x08000000_0200_01_0904D00034_6100
    ∷ be 14 0x08000000_0200_02_0904D00034_6200
    ∷ be 14 0x08000000_0200_03_0904D00034_6300
    ∷ be 14 0x08000000_0200_04_0904D00034_6400
    ∷ be 14 0x08000000_0200_05_0904D00034_6500
    ∷ be 14 0x08000000_0200_06_0904D00034_6600
    ∷ be 14 0x08000000_0200_07_0904D00034_6700
    ∷ be 14 0x08000000_0200_08_0904D00034_6800
    ∷ be 14 0x08000000_0200_01_0904D00034_6900
    ∷ be 18 0x0C000000_0200_06_0904D00034_6A00_3DD800DE
    -- 7: a leading error 50000 of severity 16, "e". 3: an info 5701 of state 2, severity 10 and line 7, "m" of the server "s" and
    -- the procedure "p"
    ∷ be 13 0x07000000_0700_50C30000_10_6500
    ∷ be 28 0x16000000_0300_45160000_02_0A_07000000_0100_0100_0100_6D00_7300_7000
    -- 4: a row. 5: its cells, of values 1 to 4 (255, -32768, -2, -1) and 5 ("t")
    ∷ be 6 0x00000000_0400
    ∷ be 8 0x02000000_0500_01_FF
    ∷ be 9 0x03000000_0500_02_0080
    ∷ be 11 0x05000000_0500_03_FEFFFFFF
    ∷ be 15 0x09000000_0500_04_FFFFFFFFFFFFFFFF
    ∷ be 9 0x03000000_0500_05_7400
    -- of value 6 with two chunks (6), of 8 with one, of 9 with one
    ∷ be 7 0x01000000_0500_06
    ∷ be 8 0x02000000_0600_7500
    ∷ be 8 0x02000000_0600_7600
    ∷ be 7 0x01000000_0500_08
    ∷ be 7 0x01000000_0600_77
    ∷ be 7 0x01000000_0500_09
    ∷ be 8 0x02000000_0600_00FF
    -- and the two nulls, 10 and 7
    ∷ be 7 0x01000000_0500_0A
    ∷ be 7 0x01000000_0500_07
    -- 1: a set without columns. 9: a trailing info 5703 of state 1, severity 0 and line 1, "i", without names
    ∷ be 6 0x00000000_0100
    ∷ be 24 0x12000000_0900_47160000_01_00_01000000_0100_0000_0000_6900
    ∷ [])

abbrev pub terminal : List ℕ
terminal =
    joined
    -- a set; 8: a terminal error 50001 of severity 16, "no"; what it drops: a row, a cell with an empty chunk, a set
    (be 6 0x00000000_0100
    ∷ be 15 0x09000000_0800_51C30000_10_6E00_6F00
    ∷ be 6 0x00000000_0400
    ∷ be 7 0x01000000_0500_06
    ∷ be 6 0x00000000_0600
    ∷ be 6 0x00000000_0100
    ∷ [])

-- ---- they were sent

-- a lent buffer
abbrev pub lent : List ℕ
lent = replicate 350 0x55

abbrev all_bytes : List ℕ → Bool
all_bytes [] = true
all_bytes (b ∷ l) = ltb b 256 && all_bytes l

bytes-are : (l : List ℕ) → all_bytes l ≡ true → Bytes l
bytes-are [] e = tt
bytes-are (b ∷ l) e =
    let h = (and-eq-true_iff (ltb b 256) (all_bytes l)).0 e in
    (ltb-true b 256 h.0, bytes-are l h.1)

scripts-bytes : (all_bytes two_sets ≡ true) × (all_bytes all_kinds ≡ true) × (all_bytes terminal ≡ true)
unfolding le be
scripts-bytes = (refl, refl, refl)

scripts-sent : Sent single two_sets lent 67 × Sent single all_kinds lent 345 × Sent single terminal lent 42
unfolding flat_map be le le_at flat units_of units total surrogate_of surrogates paired well_formed
    reply_header packet_of parse records cell_stage stage_after column_shaped info_shaped number_width cell_shaped chunk_shaped error_shaped shaped texts_of all_well_formed
    fault_of verdict_from verdict_of data_type_of data_types data_type_in length_width collation_size column_value_of column_values column_value_in name_fault message_length ahead every cells_in rows_in up_to_set
    sets_in column_of cell_of set_pieces sets_pieces emitted_by pieces bytes_in reply_of fault_in refusal_of room_of built_of cell_fits wrong_cells wrong_in_row
    wrong_columns types_in rows_misfits set_misfits sets_misfits misfits fit_of
scripts-sent = (
  record { bytes = bytes-are two_sets scripts-bytes.0; built = refl; fits = refl },
  record { bytes = bytes-are all_kinds scripts-bytes.1; built = refl; fits = refl },
  record { bytes = bytes-are terminal scripts-bytes.2; built = refl; fits = refl },
)

pub two-sets-sent : Sent single two_sets lent 67
two-sets-sent = scripts-sent.0

pub all-kinds-sent : Sent single all_kinds lent 345
all-kinds-sent = scripts-sent.1

pub terminal-sent : Sent single terminal lent 42
terminal-sent = scripts-sent.2

-- ---- the room for replies: as one packet, in packets of 512, at a size that cannot be agreed, and of no script

-- a set whose classification has 489 bytes: its payload is one byte more than a packet of 512 holds
abbrev long_set : List ℕ
long_set = be 6 0xE9010000_0100 ++ replicate 489 0

scripts-room :
    (room_of two_sets ≡ Ok 67) × (room_at 512 two_sets ≡ Ok 67) × (room_at 511 two_sets ≡ Err 32)
    × (room_of long_set ≡ Ok 513) × (room_at 512 long_set ≡ Ok 521) × (room_at 513 long_set ≡ Ok 513)
    × (room_of [] ≡ Err 12) × (room_at 512 [] ≡ Err 12) × (room_at 511 [] ≡ Err 32)
unfolding flat_map be le le_at flat units_of units total surrogate_of surrogates paired well_formed
    reply_header packet_of header_bytes part_bytes cut_from packets_of parse records cell_stage stage_after column_shaped number_width cell_shaped shaped texts_of all_well_formed
    fault_of verdict_from verdict_of data_type_of data_types data_type_in length_width collation_size column_value_of column_values column_value_in name_fault ahead every cells_in rows_in up_to_set
    sets_in column_of cell_of set_pieces sets_pieces emitted_by pieces bytes_in reply_of fault_in refusal_of replies_of room_of room_at
scripts-room = (refl, refl, refl, refl, refl, refl, refl, refl, refl)

-- ---- what is read of `two_sets`: the values of its sets

abbrev pub two_sets_values : List (List (List Value))
two_sets_values = ((number (pos 255) ∷ []) ∷ []) ∷ ((null ∷ []) ∷ []) ∷ []

pub two-sets-data : data_of two_sets ≡ present two_sets_values
unfolding be le le_at parse records signed value_by ahead every cells_in rows_in up_to_set sets_in
two-sets-data = refl

pub two-sets-values : (ts : List (Token Value)) → Reads (packets_left single two_sets lent 67) ts → present (data_in ts) ≡ present two_sets_values
two-sets-values ts r = data-read single two_sets lent 67 two-sets-sent ts r ∙ two-sets-data

-- ---- what is read of `all_kinds`: these tokens, and no other

-- collation bytes, which columns of types 5 to 7 have
abbrev latin : List ℕ
latin = be 5 0x0904D00034

abbrev pub all_kinds_tokens : List (Token Value)
all_kinds_tokens =
    -- ERROR and DONE 0003
    message 0xAA 50000 1 16 (be 2 0x6500) [] [] 1
    ∷ done 0x0003 0xC1 0
    -- COLMETADATA, ten columns, INFO
    ∷ metadata 10
    ∷ column 0 0 0x26 1 [] (be 2 0x6100)
    ∷ column 0 0 0x26 2 [] (be 2 0x6200)
    ∷ column 0 0 0x26 4 [] (be 2 0x6300)
    ∷ column 0 0 0x26 8 [] (be 2 0x6400)
    ∷ column 0 0 0xE7 8000 latin (be 2 0x6500)
    ∷ column 0 0 0xE7 0xFFFF latin (be 2 0x6600)
    ∷ column 0 0 0xA7 0xFFFF latin (be 2 0x6700)
    ∷ column 0 0 0xA5 0xFFFF [] (be 2 0x6800)
    ∷ column 0 0 0x26 1 [] (be 2 0x6900)
    ∷ column 0 0 0xE7 0xFFFF latin (be 6 0x6A00_3DD800DE)
    ∷ message 0xAB 5701 2 10 (be 2 0x6D00) (be 2 0x7300) (be 2 0x7000) 7
    -- ROW and ten cells; `negsuc n` is -1 - n
    ∷ row
    ∷ cell (number (pos 255))
    ∷ cell (number (negsuc 32767))
    ∷ cell (number (negsuc 1))
    ∷ cell (number (negsuc 0))
    ∷ cell (part (be 2 0x7400))
    ∷ cell (part (be 4 0x7500_7600))
    ∷ cell (part (be 1 0x77))
    ∷ cell (part (be 2 0x00FF))
    ∷ cell null
    ∷ cell null
    -- DONE with COUNT and MORE, which counts one row; COLMETADATA without columns, INFO, the last DONE, with COUNT alone
    ∷ done 0x0011 0xC1 1
    ∷ metadata 0
    ∷ message 0xAB 5703 1 0 (be 2 0x6900) [] [] 1
    ∷ done 0x0010 0xC1 0
    ∷ []

all-kinds-emitted : map states (emitted all_kinds) ≡ all_kinds_tokens
unfolding flat_map be le le_at parse records data_type_of data_types data_type_in collation_size column_value_of column_values column_value_in signed ahead every cells_in rows_in up_to_set sets_in column_of cell_of
    set_pieces sets_pieces emitted_by pieces emitted
all-kinds-emitted = refl

reads_as : (packets : List ℕ) (ts us : List (Token Value)) → ts ≡ us → Reads packets ts → Reads packets us
reads_as packets ts us e r = rw e at r

pub all-kinds-reads : Reads (packets_left single all_kinds lent 345) all_kinds_tokens
all-kinds-reads =
    let is = round_trip single all_kinds lent 345 all-kinds-sent in
    reads_as (packets_left single all_kinds lent 345) (map states (emitted all_kinds)) all_kinds_tokens all-kinds-emitted is

pub all-kinds-only : (ts : List (Token Value)) → Reads (packets_left single all_kinds lent 345) ts → ts ≡ all_kinds_tokens
all-kinds-only ts r = read_is single all_kinds lent 345 all-kinds-sent ts r ∙ all-kinds-emitted

-- its values, by its records and in these tokens
abbrev pub all_kinds_values : List (List (List Value))
all_kinds_values =
    ((number (pos 255)
    ∷ number (negsuc 32767)
    ∷ number (negsuc 1)
    ∷ number (negsuc 0)
    ∷ part (be 2 0x7400)
    ∷ part (be 4 0x7500_7600)
    ∷ part (be 1 0x77)
    ∷ part (be 2 0x00FF)
    ∷ null
    ∷ null
    ∷ [])
    ∷ [])
    ∷ []
    ∷ []

pub all-kinds-data : (data_of all_kinds ≡ present all_kinds_values) × (data_in all_kinds_tokens ≡ all_kinds_values)
unfolding be le le_at parse records signed value_by ahead every cells_in rows_in up_to_set sets_in
all-kinds-data = (refl, refl)

-- its counts of rows, by its records and by the valid counts in these tokens: not the leading DONE's
abbrev pub all_kinds_counts : List ℕ
all_kinds_counts = 1 ∷ 0 ∷ []

pub all-kinds-counts : (counts_of all_kinds ≡ all_kinds_counts) × (counts_in all_kinds_tokens ≡ all_kinds_counts)
unfolding has_bit be le le_at parse records ahead every cells_in rows_in up_to_set sets_in
all-kinds-counts = (refl, refl)

-- ---- what is read of `terminal`: ERROR and DONE 0002, and no set

abbrev pub terminal_tokens : List (Token Value)
terminal_tokens = message 0xAA 50001 1 16 (be 4 0x6E00_6F00) [] [] 1 ∷ done 0x0002 0xC1 0 ∷ []

pub terminal-only : (ts : List (Token Value)) → Reads (packets_left single terminal lent 42) ts → ts ≡ terminal_tokens
unfolding be le le_at parse records ahead every cells_in rows_in up_to_set sets_in
terminal-only ts r = terminal-read single terminal lent 42 terminal-sent ts r (be 9 0x51C30000_10_6E00_6F00) [] _ _ refl refl

pub terminal-data : data_of terminal ≡ []
unfolding be le le_at parse records ahead every cells_in rows_in up_to_set sets_in
terminal-data = refl
