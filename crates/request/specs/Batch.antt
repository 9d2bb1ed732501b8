-- A SQL batch (MS-TDS 2.2.6.7: ALL_HEADERS, then the SQL text in UTF-16LE), and who causes which refusal (document 01). Rests on Headers
-- and on text's definitions.
-- docs/FORMATS.md, 'Requests that are read', has it in words.
use Rattle.std.specs.Prelude.{ℕ, ◌+◌, ◌*◌, List, cond, eqb, length, take, drop, Result, Ok, Err}
use Rattle.refusals.specs.Numbers.{batch_empty, batch_not_utf16, batch_too_short, headers_past_end, headers_too_small}
use Rattle.wire.specs.declared.Part.{Part}
use Rattle.text.specs.Units.{units}
use Rattle.text.specs.Surrogates.{well_formed}
use Rattle.text.specs.Trim.{trimmed}
use Rattle.request.specs.Headers.{all_headers}
use Rattle.request.specs.declared.HeadersFault.{HeadersFault}
use Rattle.request.specs.declared.HeadersFault.TheVariants.{Short, TooSmall, PastEnd}

-- the SQL text from a place on: an odd last byte is dropped, as in the Rust
unfoldable pub sql_from : List ℕ → ℕ → List ℕ
sql_from body at = take (2 * units (drop at body)) (drop at body)

-- a part that counts from another place
abbrev pub moved_by : ℕ → Part → Part
moved_by at p = record { start = at + p.start; len = p.len }

-- the text from a place on, without white space at its ends, as a part of the batch; 4 where it is not UTF-16
unfoldable pub batch_text : List ℕ → ℕ → Result Part ℕ
batch_text body at = cond (well_formed (sql_from body at)) (Ok (moved_by at (trimmed (sql_from body at)))) (Err batch_not_utf16)

-- after the headers: 2 under 4 bytes, 35 headers that cannot be, 3 headers past the end
abbrev pub batch_after : List ℕ → Result ℕ HeadersFault → Result Part ℕ
batch_after body (Err Short) = Err batch_too_short
batch_after body (Err TooSmall) = Err headers_too_small
batch_after body (Err PastEnd) = Err headers_past_end
batch_after body (Ok n) = batch_text body n

-- the text of a batch; 1 where the batch is empty
unfoldable pub sql_batch : List ℕ → Result Part ℕ
sql_batch body = cond (eqb (length body) 0) (Err batch_empty) (batch_after body (all_headers body))
