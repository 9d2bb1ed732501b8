-- The length of names (document 01, 'Who causes which refusal': 16). Rests on text's units.
use Rattle.std.specs.Prelude.{ℕ, Bool, cond, List, ltb}
use Rattle.refusals.specs.Numbers.{name_too_long}
use Rattle.text.specs.Units.{units}

-- a name over 255 units: more than the one byte of a B_VARCHAR's count can say
abbrev pub long_name : List ℕ → Bool
long_name name = ltb 255 (units name)

-- 16 a column, server or procedure name over 255 units; 0 none
unfoldable pub name_fault : List ℕ → ℕ
name_fault name = cond (long_name name) name_too_long 0
