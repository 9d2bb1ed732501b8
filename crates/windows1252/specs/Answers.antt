-- What reading and writing a label answer where a buffer is lent, and what is left in it: 20 comes last, and a refusal leaves the
-- buffer. Rests on Labels.
use Rattle.std.specs.Prelude.{ℕ, Option, Some, None, Result, Ok, Err, cond, List, ltb, length}
use Rattle.refusals.specs.Numbers.{buffer_too_short}
use Rattle.wire.specs.Over.{overwrite}
use Rattle.windows1252.specs.Labels.{Reading, read_of, Writing, written_of}

-- ---- reading

-- the answer where there is room enough
abbrev pub size_of : Reading → Result (Option ℕ) ℕ
size_of (Ok (Some t)) = Ok (Some (length t))
size_of (Ok None) = Ok None
size_of (Err r) = Err r

-- and where room bytes are lent; null needs none
abbrev pub read_with : Reading → (room : ℕ) → Result (Option ℕ) ℕ
read_with (Ok (Some t)) room = cond (ltb room (length t)) (Err buffer_too_short) (Ok (Some (length t)))
read_with (Ok None) room = Ok None
read_with (Err r) room = Err r

-- the buffer: a text that has room stands at its front
abbrev pub buffer_with : Reading → List ℕ → List ℕ
buffer_with (Ok (Some t)) buf = cond (ltb (length buf) (length t)) buf (overwrite buf 0 t)
buffer_with (Ok None) buf = buf
buffer_with (Err r) buf = buf

unfoldable pub read_in : List ℕ → (room : ℕ) → Result (Option ℕ) ℕ
read_in v room = read_with (read_of v) room

unfoldable pub text_left : List ℕ → List ℕ → List ℕ
text_left v buf = buffer_with (read_of v) buf

-- ---- writing

abbrev pub written_with : Writing → (room : ℕ) → Result ℕ ℕ
written_with (Ok v) room = cond (ltb room (length v)) (Err buffer_too_short) (Ok (length v))
written_with (Err r) room = Err r

abbrev pub buffer_after : Writing → List ℕ → List ℕ
buffer_after (Ok v) buf = cond (ltb (length buf) (length v)) buf (overwrite buf 0 v)
buffer_after (Err r) buf = buf

unfoldable pub written_in : List ℕ → (room : ℕ) → Result ℕ ℕ
written_in t room = written_with (written_of t) room

unfoldable pub value_left : List ℕ → List ℕ → List ℕ
value_left t buf = buffer_after (written_of t) buf
