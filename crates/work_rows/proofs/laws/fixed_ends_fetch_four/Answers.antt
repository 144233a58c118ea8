use Rattle.std.proofs.Common.{ap}
use Rattle.std.specs.Prelude.{Some}
use Rattle.plan_work.specs.PlanBounds.{Bounding}
use Rattle.promql_ast.specs.declared.tree.Fixed.TheVariants as fixed
use Rattle.work_rows.proofs.Costs.{selects}
use Rattle.work_rows.specs.Rows.{x}
use Rattle.work_rows.specs.Samples.{asked_to, moment_before, one_series, up_to}
use Rattle.work_rows.proofs.laws.fixed_ends_fetch_four.Goals as goal

pub returns : goal.returns
returns c = λ value. ap (λ (b : Bounding). b (up_to 4 1)) (selects (asked_to 4 (one_series value 11)) x (moment_before (Some fixed.End) 1))
