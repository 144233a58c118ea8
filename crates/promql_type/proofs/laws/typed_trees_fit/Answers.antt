use Rattle.promql_type.proofs.Fitting.{typed_trees_fit_lem}
use Rattle.promql_type.proofs.laws.typed_trees_fit.Goals as goal

pub returns : goal.returns
returns c = typed_trees_fit_lem
