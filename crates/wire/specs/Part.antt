-- A part of some bytes. Rests on nothing.
use Rattle.std.specs.Prelude.{List, ℕ, take, drop}
use Rattle.wire.specs.declared.Part.{Part}

-- the bytes that a part stands for (document 01: 'a part stands for the bytes in it'); what lies past the end is left out
unfoldable pub part_bytes : List ℕ → Part → List ℕ
part_bytes s p = take p.len (drop p.start s)
