use Rattle.std.proofs.Common.{◌≡◌, ℕ, List, [], ◌∷◌, Some, slice_get, subst, sym}
use Rattle.exchange.specs.declared.request.Request.{Request}
use Rattle.frac_text.specs.Times.{time_limit}
use Rattle.logical_plan.specs.declared.nodes.Plan.{Plan}
use Rattle.plan_tree.specs.Chains.{IsReady}
use Rattle.plan_tree.specs.Nodes.{shape_of}
use Rattle.plan_tree.specs.Shapes.{rule}
use Rattle.plan_tree.specs.Worlds.{no_gathers, over}
use Rattle.promql_ast.specs.declared.tree.Expr.{Expr}
use Rattle.promql_meaning.specs.Meaning.{meaning_step}
use Rattle.promql_meaning.specs.Results.{grid_times}
use Rattle.promql_meaning.specs.Selecting.{asked_over}
use Rattle.promql_type.specs.Judging.{judged}
use Rattle.promql_type.specs.Replacements.{Kept}
use Rattle.promql_type.specs.TypedTrees.{placed_of, tree_of}
use Rattle.step_table.specs.Timed.{steps_over}
use Rattle.ticks.specs.Durations.{hundred_years}
use Rattle.query_engine.specs.Bounds.{SpendsAtMost, evaluated_plan}
use Rattle.query_engine.specs.Planning.{choices_of}
use Rattle.query_engine.proofs.Spent.{spends_both, spends_building, spends_nothing, tree_reads}
use Rattle.query_engine.proofs.Streamed.{never_invalid, over_kept, steps_are_meant}
use Rattle.query_engine.proofs.streaming.answered.Goals as goal

-- the tree asks no engine
none_made : (requests : List Request) → requests ≡ [] → (k : ℕ) (r : Request) → slice_get requests k ≡ Some r → ⊥
none_made [] e k r at = absurd (cc)
none_made (q ∷ requests) e k r at = absurd (cc)

-- the tree gives what the plan means, which is what the query means
pub alone-requires-clause-gives : goal.alone-requires-clause-gives
alone-requires-clause-gives g c =
    let store = c.args.store.now in
    let kept = c.args.patterns.now in
    let grid = c.args.grid.now in
    let tree = tree_of c.args.typed.now in
    let asked = asked_over store kept grid in
    let shape = shape_of c.in-Ok.tree.node in
    let well_typed = subst (λ (e : Expr). (judged e).refusals ≡ []) c.expr.ensures.tree c.expr.ensures.well_typed in
    let placed = c.kept_patterns_are_placed.ensures kept (placed_of c.args.typed.now) tree well_typed c.requires.kept c.requires.apart in
    let stay = c.steady_onces_stay.ensures asked c.in_ok-plan.plan c.in_ok-plan.ensures.onces in
    let none = c.in-Ok.ensures.alone (c.in_ok-plan.ensures.served kept hundred_years time_limit c.requires.within c.requires.kept) in
    subst (λ (k : Kept). steps_over (rule (over store) k shape) (grid_times grid) ≡ steps_over (meaning_step (asked_over store k grid) tree) (grid_times grid)) (sym c.build.ensures.same)
    (steps_are_meant asked grid c.in_ok-plan.plan tree (rule (over store) kept shape) (c.grids_are_listed.ensures grid) (c.in-Ok.ensures.gives [] no_gathers (λ k r t at served. absurd (none_made c.in-Ok.tree.exchange.requests none k r at)) stay)
    (λ t. c.in_ok-plan.ensures.means asked t c.series.ensures.labelled placed))

pub alone-requires-clause-ready : goal.alone-requires-clause-ready
alone-requires-clause-ready g c = λ es.
    let none = c.in-Ok.ensures.alone (c.in_ok-plan.ensures.served c.args.patterns.now hundred_years time_limit c.requires.within c.requires.kept) in
    subst (λ (k : Kept). IsReady c.args.store.now k (Some no_gathers) es c.in-Ok.tree) (sym c.build.ensures.same) (c.in-Ok.ensures.ready none es)

-- the outcome is that over the patterns that were kept before
pub returns-in-Ok-clause-result : goal.returns-in-Ok-clause-result
returns-in-Ok-clause-result g c =
    over_kept c.args.store.now c.args.patterns.now c.build.new.patterns (tree_of c.args.typed.now) c.args.grid.now c.args.instant c.alone.result c.build.ensures.same c.alone.ensures.result

-- nothing was spent yet
pub returns-in_err-plan-clause-bounded : goal.returns-in_err-plan-clause-bounded
returns-in_err-plan-clause-bounded g c =
    spends_nothing (asked_over c.args.store.now c.args.patterns.now c.args.grid.now) c.args.grid.now
    (evaluated_plan (choices_of c.args.options.now) c.args.patterns.now (placed_of c.args.typed.now) (tree_of c.args.typed.now)) c.args.work.now

pub returns-in-Err-Memory-clause-bounded : goal.returns-in-Err-Memory-clause-bounded
returns-in-Err-Memory-clause-bounded g c =
    let grid = c.args.grid.now in
    let asked = asked_over c.args.store.now c.args.patterns.now grid in
    subst (λ (p : Plan). SpendsAtMost asked grid p c.args.work.now c.build.new.work) c.in_ok-plan.ensures.plan
    (spends_building asked grid c.in_ok-plan.plan c.args.work.now c.build.new.work c.build.ensures.tested)

pub returns-in-Ok-clause-bounded : goal.returns-in-Ok-clause-bounded
returns-in-Ok-clause-bounded g c =
    let grid = c.args.grid.now in
    let asked = asked_over c.args.store.now c.args.patterns.now grid in
    let p = c.in_ok-plan.plan in
    let tree = c.in-Ok.tree in
    let reads = tree_reads asked grid p tree c.build.new.work c.alone.new.work c.fresh_trees_begin.ensures c.spending_stays_within.ensures (c.grids_are_listed.ensures grid)
    c.in-Ok.ensures.fed c.in-Ok.ensures.fresh c.in-Ok.ensures.walk c.in-Ok.ensures.within c.alone.ensures.bounded in
    subst (λ (q : Plan). SpendsAtMost asked grid q c.args.work.now c.alone.new.work) c.in_ok-plan.ensures.plan
    (spends_both asked grid p c.args.work.now c.build.new.work c.alone.new.work c.build.ensures.tested reads)

-- the plan is valid, and kernels serve it
pub unreachable-requires : goal.unreachable-requires
unreachable-requires g c =
    never_invalid c.in-Err-Invalid.field-0 c.in-Err-Invalid.field-0-is
    (c.in-Err-Invalid.ensures.total
    (record {
      valid = c.in_ok-plan.ensures.valid hundred_years time_limit c.requires.limits;
      number = c.in_ok-plan.ensures.numbers;
      served = c.served_plans_are_served_over.ensures c.args.patterns.now c.in_ok-plan.plan (c.in_ok-plan.ensures.served c.args.patterns.now hundred_years time_limit c.requires.within c.requires.kept);
    })
    tt)
