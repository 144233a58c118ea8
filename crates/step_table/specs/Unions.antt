-- Sets kept as lists in order, each item once, and marks and notes as such sets.
use Rattle.std.specs.Prelude.{List, [], fold}
use Rattle.std.specs.BTreeSet.{insert_key}
use Rattle.std.specs.Set.{sorted_merge}
use Rattle.std.specs.declared.cmp.Ordering.{Ordering}
use Rattle.std.specs.Prelude.{true}
use Rattle.step_table.specs.Orders.{mark_cmp, note_cmp}
use Rattle.step_table.specs.declared.marks.Mark.{Mark}
use Rattle.step_table.specs.declared.marks.Marks.{Marks}

-- the items of a list as a set: in order, and each once
abbrev pub set_of : {K : Type 0} → (K → K → Ordering) → List K → List K
set_of cmp xs = fold (insert_key cmp) [] xs

-- the items of two sets, in order and each once
abbrev pub union : {K : Type 0} → (K → K → Ordering) → List K → List K → List K
union cmp xs ys = sorted_merge cmp true xs ys

-- the marks and the notes of both
abbrev pub united : Marks → Marks → Marks
united a b = record { fatal = union mark_cmp a.fatal b.fatal; notes = union note_cmp a.notes b.notes }

-- the marks and notes, with fatal marks more
abbrev pub with_fatal : Marks → List Mark → Marks
with_fatal marks fatal = united marks (record { fatal = set_of mark_cmp fatal; notes = [] })
