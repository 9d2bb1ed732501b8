-- What is done by a writer, which is a lent buffer with the place of the next bytes. Rests on Over.
use Rattle.std.specs.Prelude.{ℕ, ◌≡◌, List}
use Rattle.wire.specs.Over.{Wrote}
use Rattle.wire.specs.declared.writer.Writer.{Writer}

-- a writer put bytes next: it wrote them at its place, its place is after them, and it writes on in the same buffer
pub record Puts (old : Writer) (xs : List ℕ) (new : Writer) : Type 0 where
  pub same : new.buf.ghost_name ≡ old.buf.ghost_name
  pub wrote : Wrote old.buf.now old.at xs new.buf.now new.at
