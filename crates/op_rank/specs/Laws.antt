-- What a reader expects of the k best. (This project's own.)
use Rattle.std.specs.Prelude.{ℕ, Bool, List, take}
use Rattle.std.specs.List.Sorted.{IsPermutation, IsStrictlySortedBy}
use Rattle.op_rank.specs.Best.{AreBest}
use Rattle.op_rank.specs.Contenders.{before, tidied_order}
use Rattle.op_rank.specs.declared.best.Contender.{Contender}

-- the k best of a list are, in some order, the first k of the sorted list
abbrev pub BestAreFirst : Type 0
BestAreFirst =
    (down : Bool) (k : ℕ) (all best sorted : List Contender)
    → AreBest (before down) k all best → IsPermutation all sorted → IsStrictlySortedBy (tidied_order down) sorted
    → IsPermutation best (take k sorted)
