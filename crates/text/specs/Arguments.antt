-- The refusal of a text argument (document 01, 'Who causes which refusal': Caller). Rests on Surrogates.
use Rattle.std.specs.Prelude.{ℕ, cond, List, length}
use Rattle.refusals.specs.Numbers.{odd_text, not_utf16}
use Rattle.wire.specs.Even.{even}
use Rattle.text.specs.Surrogates.{well_formed}

-- 21 an odd number of bytes, 22 not UTF-16; 0 none
unfoldable pub text_fault : List ℕ → ℕ
text_fault t = cond (even (length t)) (cond (well_formed t) 0 not_utf16) odd_text
