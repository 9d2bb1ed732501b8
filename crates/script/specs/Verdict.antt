-- Which scripts are accepted, and which number refuses the others: 11 to 14, the first bad record, in this order within it
-- (document 01, 'Who causes which refusal'). Rests on Records, Order, Shape and text.
use Rattle.std.specs.Prelude.{ℕ, List, [], ◌∷◌, Bool, true, cond, ◌&&◌, eqb, Result, Ok, Err, ⊤}
use Rattle.refusals.specs.Numbers.{kind_wrong, record_cut, shape_wrong, text_wrong}
use Rattle.text.specs.Surrogates.{well_formed}
use Rattle.script.specs.declared.Stage.{Stage}
use Rattle.script.specs.declared.Stage.TheVariants.{Start, Columns, Leading, Infos, Rows, TextChunks, ByteChunks, Trailing}
use Rattle.script.specs.Records.{Item, item, cut, records}
use Rattle.script.specs.Order.{allowed, stage_after}
use Rattle.script.specs.Shape.{shaped, texts_of}

-- every text is UTF-16
unfoldable pub all_well_formed : List (List ℕ) → Bool
all_well_formed [] = true
all_well_formed (t ∷ ts) = well_formed t && all_well_formed ts

-- a record's refusal, or 0: 12 out of order or of no kind, 13 of a wrong shape, 14 a text that is not UTF-16
unfoldable pub fault_of : Stage → ℕ → List ℕ → ℕ
fault_of st k p = cond (allowed st k) (cond (shaped st k p) (cond (all_well_formed (texts_of k p)) 0 text_wrong) shape_wrong) kind_wrong

-- at the end a script has a set, or is refused by 12
abbrev pub end_fault : Stage → ℕ
end_fault Start = kind_wrong
end_fault Columns = 0
end_fault Leading = 0
end_fault Infos = 0
end_fault Rows = 0
end_fault TextChunks = 0
end_fault ByteChunks = 0
end_fault Trailing = 0

-- the refusal of the records from a stage on, or 0: the first bad record's; 11 where one is cut
unfoldable pub verdict_from : Stage → List Item → ℕ
verdict_from st [] = end_fault st
verdict_from st (cut ∷ rs) = record_cut
verdict_from st (item k p ∷ rs) = cond (eqb (fault_of st k p) 0) (verdict_from (stage_after st k p) rs) (fault_of st k p)

-- a script's refusal, or 0 where it is accepted as far as 11 to 14 go
unfoldable pub verdict_of : List ℕ → ℕ
unfolding verdict_from
verdict_of s = verdict_from Start (records s)

-- the answer: accepted, or refused by that number
unfoldable pub checked_of : List ℕ → Result ⊤ ℕ
checked_of s = cond (eqb (verdict_of s) 0) (Ok tt) (Err (verdict_of s))
