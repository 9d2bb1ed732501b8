-- What a private function promises: a chunk that was read. Rests on payload's places.
use Rattle.std.specs.Prelude.{ℕ, cond, eqb, Result, Ok, Err}
use Rattle.payload.specs.Places.{Read, whole, refused}
use Rattle.cells.specs.declared.Chunk.{Chunk}
use Rattle.cells.specs.declared.Chunk.TheVariants as chunk

-- a chunk by its length, which is 0 for the last
abbrev pub chunk_read : Read ℕ → Result Chunk ℕ
chunk_read (whole n at) = Ok (cond (eqb n 0) (chunk.Last at) (chunk.More n at))
chunk_read (refused r) = Err r
