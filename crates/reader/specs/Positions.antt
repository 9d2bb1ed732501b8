-- The reader's position (document 01, 'The reply reader'): where a run starts, which positions are refused, and where the reader
-- stands after a token. Rests on payload's positions and the column types of cells.
use Rattle.std.specs.Prelude.{ℕ, zero, suc, ◌-◌, Bool, true, false, not, ◌&&◌, List, leb, get_or, set, replicate}
use Rattle.packet.specs.Status.{has_bit}
use Rattle.reader.specs.declared.Position.{Position}
use Rattle.reader.specs.declared.Token.{Token}
use Rattle.reader.specs.declared.Token.TheVariants.{ColMetadata, Column, Row, Cell, Done, Message}
use Rattle.payload.specs.Positions.{Corner}
use Rattle.cells.specs.Cells.{is_type}

-- just past the first packet's header, with no column types held
abbrev pub fresh_position : Position
fresh_position = record { packet = 1; place = 8; count = 0; types = replicate 128 0; limits = replicate 128 0; columns_left = 0; cells_left = 0; over = false }

-- the first n types that a position holds are column types
unfoldable pub held : ℕ → List ℕ → List ℕ → Bool
held zero types limits = true
held (suc n) types limits = is_type (get_or types n 0) (get_or limits n 0) && held n types limits

-- what a position holds, where a step goes on from it. All others give 24: over 128 columns, a type held that is no column type, more
-- columns or cells left than the set has. While columns are left, only those read are held
unfoldable pub stands : Position → Bool
stands pos =
    leb pos.count 128 && leb pos.columns_left pos.count && leb pos.cells_left pos.count
    && held (pos.count - pos.columns_left) pos.types pos.limits

-- the position after a token, in a packet and at a place of it: COLMETADATA begins a set and any DONE ends it, the last one ends the reply
unfoldable pub after : Position → Token → Corner → Position
after pos (ColMetadata n) at =
    record { packet = at.packet; place = at.place; count = n; types = pos.types; limits = pos.limits; columns_left = n; cells_left = pos.cells_left; over = pos.over }
after pos (Column user flags code limit collation name) at =
    record {
      packet = at.packet;
      place = at.place;
      count = pos.count;
      types = set pos.types (pos.count - pos.columns_left) code;
      limits = set pos.limits (pos.count - pos.columns_left) limit;
      columns_left = pos.columns_left - 1;
      cells_left = pos.cells_left;
      over = pos.over;
    }
after pos Row at =
    record { packet = at.packet; place = at.place; count = pos.count; types = pos.types; limits = pos.limits; columns_left = pos.columns_left; cells_left = pos.count; over = pos.over }
after pos (Cell v) at =
    record { packet = at.packet; place = at.place; count = pos.count; types = pos.types; limits = pos.limits; columns_left = pos.columns_left; cells_left = pos.cells_left - 1; over = pos.over }
after pos (Done status command count) at =
    record { packet = at.packet; place = at.place; count = 0; types = pos.types; limits = pos.limits; columns_left = pos.columns_left; cells_left = pos.cells_left; over = not (has_bit 0x01 status) }
after pos (Message kind number state class text server procedure line) at =
    record { packet = at.packet; place = at.place; count = pos.count; types = pos.types; limits = pos.limits; columns_left = pos.columns_left; cells_left = pos.cells_left; over = pos.over }
