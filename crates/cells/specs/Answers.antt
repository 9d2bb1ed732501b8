-- The answers of the functions that read a type, a cell or its chunks, from what reading comes to. Rests on payload's places and Values.
use Rattle.std.specs.Prelude.{ℕ, length, Result, Ok, Err}
use Rattle.wire.specs.declared.Part.{Part}
use Rattle.payload.specs.Places.{Source, Place, Read, whole, refused}
use Rattle.cells.specs.declared.TypeInfo.{TypeInfo}
use Rattle.cells.specs.declared.TypeAt.{TypeAt}
use Rattle.cells.specs.declared.Value.{Value}
use Rattle.cells.specs.declared.CellAt.{CellAt}
use Rattle.cells.specs.declared.ChunksAt.{ChunksAt}
use Rattle.cells.specs.Values.{joined_from}

abbrev pub type_read : Read TypeInfo → Result TypeAt ℕ
type_read (whole t at) = Ok (record { info = t; next = at })
type_read (refused r) = Err r

abbrev pub cell_read : Read Value → Result CellAt ℕ
cell_read (whole v at) = Ok (record { value = v; next = at })
cell_read (refused r) = Err r

-- chunks that were read from a place of a source on, with how many bytes they hold together
abbrev pub chunks_read : Source → Place → Read Part → Result ChunksAt ℕ
chunks_read src start (whole p at) = Ok (record { part = p; count = length (joined_from src.bytes start); next = at })
chunks_read src start (refused r) = Err r
