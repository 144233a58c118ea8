use Rattle.std.proofs.Common.{◌∙◌, ap}
use Rattle.promql_type.specs.Judging.{judged}
use Rattle.promql_type.specs.Points.{crowded}
use Rattle.promql_type.specs.Rules.{result_refusals}
use Rattle.promql_type.specs.Settled.{kind_of}
use Rattle.promql_type.proofs.Settles.{settled_is_judged}
use Rattle.promql_type.proofs.Taken.{left_none, right_none}
use Rattle.promql_type.proofs.checking.typed.Goals as goal

pub new-requires-clause-well_typed : goal.new-requires-clause-well_typed
new-requires-clause-well_typed c =
    ap (λ j. j.refusals) (ap judged c.in_ok-settled.ensures.tree ∙ settled_is_judged c.args.expr)
    ∙ left_none (judged c.args.expr).refusals _ c.requires

pub new-requires-clause-result_kind : goal.new-requires-clause-result_kind
new-requires-clause-result_kind c =
    ap (λ j. result_refusals j.operand.gives) (ap judged c.in_ok-settled.ensures.tree ∙ settled_is_judged c.args.expr)
    ∙ right_none (crowded c.args.expr 1) (result_refusals (kind_of c.args.expr)) (right_none (judged c.args.expr).refusals _ c.requires)
