-- What users rely on that go over the rows of a group in an order of their own. (This project's own.)
use Rattle.std.specs.Prelude.{◌≡◌, List}
use Rattle.std.specs.List.{All}
use Rattle.func_table.specs.declared.table.Aggregate.{Aggregate}
use Rattle.promql_meaning.specs.Aggregations.{aggregate_of}
use Rattle.step_table.specs.Shuffles.{Shuffled}
use Rattle.xfrac.specs.Laws.{IsNumber}
use Rattle.xfrac.specs.declared.value.XFrac.{XFrac}

-- what an aggregation makes of the values of a group doesn't depend on their order; q is any quantile
abbrev pub AggregateIgnoresOrder : Type 0
AggregateIgnoresOrder = (f : Aggregate) (q : XFrac) (xs ys : List XFrac) → All IsNumber xs → Shuffled xs ys → aggregate_of f q xs ≡ aggregate_of f q ys
