-- What the exports that read and write event labels answer. Rests on the labels of `windows1252`.
use Rattle.std.specs.Prelude.{ℕ, ◌*◌, ◌^◌, ◌≤◌, ◌≡◌, List, [], length, pos, Some, None, Ok, Err}
use Rattle.windows1252.specs.Labels.{Reading, read_of, Writing, written_of}
use Rattle.station.specs.Answer.{Outcome, answers, refuses, number_of, answer_of}

-- the number of null, which is that of no text
abbrev pub null_label : ℕ
null_label = 2 ^ 32

-- how many bytes of text, and the bytes: the slots are here the bytes of the lent buffer. Null has none
abbrev pub read_outcome : Reading → Outcome
read_outcome (Ok (Some t)) = answers (length t) t
read_outcome (Ok None) = answers null_label []
read_outcome (Err n) = refuses n

unfoldable pub read_label_call : List ℕ → Outcome
read_label_call v = read_outcome (read_of v)

-- how many bytes of a value, and the bytes
abbrev pub written_outcome : Writing → Outcome
written_outcome (Ok v) = answers (length v) v
written_outcome (Err n) = refuses n

unfoldable pub write_label_call : List ℕ → Outcome
write_label_call t = written_outcome (written_of t)

-- twice the bytes of a value are enough for its text, and the most bytes that include/station.h names for any: the answer is the
-- label's own, and -20 never
abbrev pub LabelsEnough : Type 0
LabelsEnough =
    ((v buf : List ℕ) → 2 * length v ≤ length buf → answer_of (read_label_call v) buf ≡ number_of (read_label_call v))
    × ((v buf : List ℕ) → 131070 ≤ length buf → answer_of (read_label_call v) buf ≡ number_of (read_label_call v))
    × ((t buf : List ℕ) → 65551 ≤ length buf → answer_of (write_label_call t) buf ≡ number_of (write_label_call t))

-- the answer of null is that of no other value
abbrev pub NullAlone : Type 0
NullAlone = (v buf : List ℕ) → answer_of (read_label_call v) buf ≡ pos null_label → read_of v ≡ Ok None
