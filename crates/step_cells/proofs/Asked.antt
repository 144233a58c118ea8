-- The aggregations that engines are asked for, one by one.
use Rattle.std.specs.Prelude.{IsTrue}
use Rattle.func_table.specs.declared.table.Aggregate.{Aggregate}
use Rattle.func_table.specs.declared.table.Aggregate.TheVariants.{Sum, Avg, Min, Max, Count, Group, Stdvar, TopK, BottomK, Quantile, CountValues}
use Rattle.step_cells.specs.Owed.{is_partial}

pub data IsAsked : Aggregate → Type 0 where
  sum : IsAsked Sum
  avg : IsAsked Avg
  count : IsAsked Count
  group : IsAsked Group
  min : IsAsked Min
  max : IsAsked Max

pub asked : (f : Aggregate) → IsTrue (is_partial f) → IsAsked f
asked Sum p = IsAsked.sum
asked Avg p = IsAsked.avg
asked Min p = IsAsked.min
asked Max p = IsAsked.max
asked Count p = IsAsked.count
asked Group p = IsAsked.group
asked Stdvar p = absurd (cc)
asked TopK p = absurd (cc)
asked BottomK p = absurd (cc)
asked Quantile p = absurd (cc)
asked CountValues p = absurd (cc)
