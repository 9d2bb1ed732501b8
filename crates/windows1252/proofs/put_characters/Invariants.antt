-- `windows1252::put_characters` meets its contract. The loop's invariant: the text of the bytes from a place on is still to be written.
-- Assumes nothing.
use Prim.Native.Nat.{◌+◌, ◌*◌}
use mathlib.Core.Path.{◌≡◌}
use lib.ListN.{drop}
use Rattle.windows1252.specs.Table.{text_of}
use Rattle.windows1252.proofs.Owing.{Owing}
use Rattle.windows1252.proofs.put_characters.Given as goal

abbrev pub invariant-loop-byte : goal.invariant-loop-byte
invariant-loop-byte l = (l.to ≡ l.at + 2 * l.byte-index) × Owing l.initial.buf l.at (text_of l.bytes) l.buf l.to (text_of (drop l.byte-index l.bytes))
