use Rattle.std.proofs.Common.{◌≡◌, ◌∙◌, [], map, length, Option, None, Some, refl, subst, sym}
use Rattle.std.specs.Prelude.{IfOk}
use Rattle.frac_text.specs.Times.{time_limit}
use Rattle.plan_parts.specs.Requested.{AreMeant, asked_with}
use Rattle.plan_tree.specs.Asking.{gathered_by}
use Rattle.plan_tree.specs.Chains.{IsReady}
use Rattle.plan_tree.specs.Nodes.{shape_of}
use Rattle.plan_tree.specs.Shapes.{rule}
use Rattle.plan_tree.specs.Worlds.{Gathers, no_gathers, world}
use Rattle.opt_remote.specs.Engines.{held_by}
use Rattle.promql_ast.specs.declared.tree.Expr.{Expr}
use Rattle.promql_meaning.specs.Meaning.{meaning_step}
use Rattle.promql_meaning.specs.Results.{grid_times, result_of}
use Rattle.promql_meaning.specs.Selecting.{Asked, asked_over}
use Rattle.promql_type.specs.Judging.{judged}
use Rattle.promql_type.specs.Replacements.{Kept}
use Rattle.promql_type.specs.TypedTrees.{placed_of, tree_of}
use Rattle.step_table.specs.Timed.{steps_over}
use Rattle.ticks.specs.Durations.{hundred_years}
use Rattle.query_engine.proofs.Boxes.{map_size}
use Rattle.query_engine.proofs.Idle.{idle_still, stays_idle}
use Rattle.query_engine.proofs.Lost.{lacking}
use Rattle.query_engine.proofs.Over.{all_tell, are_held, by_requests, none_asked, steps_meant}
use Rattle.query_engine.proofs.Unread.{result_unread}
use Rattle.query_engine.proofs.Requested.{have_engines}
use Rattle.query_engine.proofs.Spent.{spends_both, spends_building, tree_reads}
use Rattle.query_engine.proofs.Streamed.{never_invalid, then_judged}
use Rattle.query_engine.proofs.streaming.answered_over.Goals as goal

-- whether it asks engines or not, the tree may go on over these
pub collected-requires-clause-ready : goal.collected-requires-clause-ready
collected-requires-clause-ready g c =
    let es = map (λ b. (goal.Engine-dyn g (b.vtable, b.value)).seen b.value) c.args.engines.now in
    let kept = c.args.patterns.now in
    let p = c.in-Ok.plan in
    let tree = c.in-Ok-build.tree in
    let requests = tree.exchange.requests in
    let size : length c.args.engines.now ≡ length es = sym (map_size (λ b. (goal.Engine-dyn g (b.vtable, b.value)).seen b.value) c.args.engines.now) in
    subst (λ (k : Kept). (known : Option Gathers) × IsReady c.new-store.result k known es tree) (sym c.build.ensures.same)
    (by_requests requests
    (λ none. (Some no_gathers, c.in-Ok-build.ensures.ready none es))
    (λ some. (
      None,
      c.in-Ok-build.ensures.asks some None es c.requires.begun
          (have_engines requests es p c.count_of.result (c.count_of.ensures ∙ size) (c.in-Ok.ensures.asked kept hundred_years time_limit c.requires.within c.requires.kept) c.in-Ok-build.ensures.named) tt,
    )))

-- where samples stand at the engines, it gives over them what the query means
pub returns-in-Ok-build-clause-result : goal.returns-in-Ok-build-clause-result
returns-in-Ok-build-clause-result g c =
    let es = map (λ b. (goal.Engine-dyn g (b.vtable, b.value)).seen b.value) c.args.engines.now in
    let kept = c.args.patterns.now in
    let grid = c.args.grid.now in
    let store = c.new-store.result in
    let p = c.in-Ok.plan in
    let e = tree_of c.args.typed.now in
    let tree = c.in-Ok-build.tree in
    let requests = tree.exchange.requests in
    let shape = shape_of tree.node in
    let count = c.count_of.result in
    let many : length c.args.engines.now ≡ length es = sym (map_size (λ b. (goal.Engine-dyn g (b.vtable, b.value)).seen b.value) c.args.engines.now) in
    let well_typed = subst (λ (x : Expr). (judged x).refusals ≡ []) c.expr.ensures.tree c.expr.ensures.well_typed in
    let placed = c.kept_patterns_are_placed.ensures kept (placed_of c.args.typed.now) e well_typed c.requires.kept c.requires.apart in
    let engines = have_engines requests es p count (c.count_of.ensures ∙ many) (c.in-Ok.ensures.asked kept hundred_years time_limit c.requires.within c.requires.kept) c.in-Ok-build.ensures.named in
    let told = subst (λ (k : Kept). IfOk c.collected.result (λ outcome. (gathers : Gathers) (asked : Asked) → IsReady store k (Some gathers) es tree
    → steps_over (rule (world store gathers) k shape) (grid_times grid) ≡ steps_over (meaning_step asked e) (grid_times grid) → outcome ≡ result_of asked e grid c.args.instant)) c.build.ensures.same c.collected.ensures.result in
    then_judged c.collected.result told (λ outcome gives declared samples size stand.
    let bare = asked_with store kept grid (held_by stand.engines) in
    let choice : (gathers : Gathers) × AreMeant bare requests gathers × IsReady store kept (Some gathers) es tree = by_requests requests
    (λ none. (no_gathers, none_asked bare requests none, c.in-Ok-build.ensures.ready none es))
    (λ some. (
      gathered_by grid kept es requests,
      c.gathers_are_meant.ensures bare grid kept es requests (record { kept_are = refl; starts = refl; ends = refl }) (are_held declared es stand.engines (size ∙ many) stand.held),
      c.in-Ok-build.ensures.asks some (Some (gathered_by grid kept es requests)) es c.requires.begun engines
          (record { tell = all_tell declared es stand.engines (size ∙ many) stand.held; gathered = refl }),
    )) in
    let meant = steps_meant grid kept store p e (placed_of c.args.typed.now) shape requests count (c.grids_are_listed.ensures grid) c.in-Ok.ensures.means placed c.in-Ok-build.ensures.gives
    (λ asked. c.steady_onces_stay.ensures asked p c.in-Ok.ensures.onces) (λ asked samples t. c.stores_are_not_read.ensures asked samples p t c.in-Ok.ensures.gathered) declared samples es (size ∙ sym c.count_of.ensures) stand choice.0 choice.1 in
    gives choice.0 (asked_with samples kept grid (held_by stand.engines)) choice.2 meant ∙ result_unread (asked_over samples kept grid) (held_by stand.engines) e grid c.args.instant)

-- nothing was spent yet
pub returns-in_default-clause-unmoved : goal.returns-in_default-clause-unmoved
returns-in_default-clause-unmoved g c = idle_still c.args.work.now

pub returns-in_default-clause-run : goal.returns-in_default-clause-run
returns-in_default-clause-run g c = lacking _ _ (c.turns_follow.ensures.none _)

pub returns-in-Err-Memory-clause-unmoved : goal.returns-in-Err-Memory-clause-unmoved
returns-in-Err-Memory-clause-unmoved g c =
    let grid = c.args.grid.now in
    let kept = c.args.patterns.now in
    let store = c.new-store.result in
    stays_idle store kept grid c.in-Ok.plan c.args.work.now c.build.new.work c.new-store.ensures
    (spends_building (asked_over store kept grid) grid c.in-Ok.plan c.args.work.now c.build.new.work c.build.ensures.tested)

pub returns-in-Err-Memory-clause-run : goal.returns-in-Err-Memory-clause-run
returns-in-Err-Memory-clause-run g c = lacking _ _ (c.turns_follow.ensures.none _)

pub returns-in-Ok-build-clause-unmoved : goal.returns-in-Ok-build-clause-unmoved
returns-in-Ok-build-clause-unmoved g c =
    let grid = c.args.grid.now in
    let kept = c.args.patterns.now in
    let store = c.new-store.result in
    let asked = asked_over store kept grid in
    let p = c.in-Ok.plan in
    let tree = c.in-Ok-build.tree in
    let reads = tree_reads asked grid p tree c.build.new.work c.collected.new.work c.fresh_trees_begin.ensures c.spending_stays_within.ensures (c.grids_are_listed.ensures grid)
    c.in-Ok-build.ensures.fed c.in-Ok-build.ensures.fresh c.in-Ok-build.ensures.walk c.in-Ok-build.ensures.within c.collected.ensures.bounded in
    stays_idle store kept grid p c.args.work.now c.collected.new.work c.new-store.ensures
    (spends_both asked grid p c.args.work.now c.build.new.work c.collected.new.work c.build.ensures.tested reads)

-- the plan is valid, and kernels serve it
pub unreachable-requires : goal.unreachable-requires
unreachable-requires g c =
    never_invalid c.in-Err-Invalid.field-0 c.in-Err-Invalid.field-0-is
    (c.in-Err-Invalid.ensures.total
    (record {
      valid = c.in-Ok.ensures.valid hundred_years time_limit c.requires.limits;
      number = c.in-Ok.ensures.numbers;
      served = c.in-Ok.ensures.served c.args.patterns.now hundred_years time_limit c.requires.within c.requires.kept;
    })
    tt)
