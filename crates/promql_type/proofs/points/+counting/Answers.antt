use Rattle.std.proofs.Common.{◌∙◌, ◌*◌, min, sym, ap, ap₂}
use Rattle.promql_type.specs.Points.{crowded}
use Rattle.promql_type.specs.Refusals.{least, lesser}
use Rattle.promql_type.proofs.Crowds.{least_pair, least_set, least_subquery, next_crowded}
use Rattle.promql_type.proofs.points.+counting.Goals as goal

pub crowd_refusal-returns-in-Subquery : goal.crowd_refusal-returns-in-Subquery
crowd_refusal-returns-in-Subquery t c =
    c.lesser.ensures ∙ ap₂ lesser c.own_refusal.ensures (c.crowd_refusal-in-Subquery.ensures ∙ ap (λ e. least (crowded e c.nested-inside.result)) c.get-in-Subquery.ensures)
    ∙ sym (least_subquery c.args.e.now c.in-Subquery.inner c.in-Subquery.range c.in-Subquery.step c.in-Subquery.moment c.args.around c.nested-inside.result c.in-Subquery.is
    (c.nested-inside.ensures ∙ ap (λ p. min (c.args.around * p) 200001) c.points.ensures))

pub crowd_refusal-returns-in-Pair : goal.crowd_refusal-returns-in-Pair
crowd_refusal-returns-in-Pair t c =
    c.lesser-in-Pair.ensures
    ∙ ap₂ lesser (c.crowd_refusal-left.ensures ∙ ap (λ e. least (crowded e c.args.around)) c.get-in-Pair.ensures) (c.crowd_refusal-in-Pair.ensures ∙ ap (λ e. least (crowded e c.args.around)) c.get-in-Pair-2.ensures)
    ∙ sym (least_pair c.args.e.now c.in-Pair.field-0 c.in-Pair.left c.in-Pair.right c.in-Pair.field-3 c.args.around c.in-Pair.is)

pub crowd_refusal-returns-in-Set : goal.crowd_refusal-returns-in-Set
crowd_refusal-returns-in-Set t c =
    c.lesser-in-Set.ensures
    ∙ ap₂ lesser (c.crowd_refusal-left-in-Set.ensures ∙ ap (λ e. least (crowded e c.args.around)) c.get-in-Set.ensures) (c.crowd_refusal-in-Set.ensures ∙ ap (λ e. least (crowded e c.args.around)) c.get-in-Set-2.ensures)
    ∙ sym (least_set c.args.e.now c.in-Set.field-0 c.in-Set.left c.in-Set.right c.in-Set.field-3 c.args.around c.in-Set.is)

pub all_refusal-loop-e-preserved : goal.all_refusal-loop-e-preserved
all_refusal-loop-e-preserved t c =
    next_crowded c.loop-e.least c.lesser-least.result c.args.arguments.now c.loop-e.e-index c.e-item.result c.args.around c.loop-e-test.true c.e-item.is
    (c.lesser-least.ensures ∙ ap (lesser c.loop-e.least) c.crowd_refusal.ensures)
    ∙ c.loop-e.invariant
