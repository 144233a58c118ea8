use Rattle.opt_remote.specs.Gathering.{all_engines}
use Rattle.promql_type.specs.TypedTrees.{placed_of, tree_of}
use Rattle.query_engine.specs.Planning.{choices_of, plan_of}
use Rattle.query_engine.proofs.Gathering.{asked_all, asked_gathered, asked_means, asked_numbers, asked_onces, asked_plan, asked_served, asked_valid}
use Rattle.query_engine.proofs.planning.gathered.Goals as goal

pub returns-clause-means : goal.returns-clause-means
returns-clause-means c =
    asked_means c.in_ok-plan.plan (tree_of c.args.typed.now) (placed_of c.args.typed.now) c.args.engines c.args.patterns.now c.gather_selectors.result c.in_ok-plan.ensures.means c.gather_selectors.ensures.means

pub returns-clause-plan : goal.returns-clause-plan
returns-clause-plan c =
    asked_plan c.in_ok-plan.plan (tree_of c.args.typed.now) (placed_of c.args.typed.now) c.args.engines c.args.patterns.now
    (plan_of (choices_of c.args.options.now) c.args.patterns.now (placed_of c.args.typed.now) (tree_of c.args.typed.now)) c.in_ok-plan.ensures.plan c.gather_selectors.result c.gather_selectors.ensures.plan

pub returns-clause-onces : goal.returns-clause-onces
returns-clause-onces c =
    asked_onces c.in_ok-plan.plan (tree_of c.args.typed.now) (placed_of c.args.typed.now) c.args.engines c.args.patterns.now c.gathered_plans_are_kept.ensures.onces c.in_ok-plan.ensures.onces
    c.gather_selectors.result c.gather_selectors.ensures.plan

pub returns-clause-valid : goal.returns-clause-valid
returns-clause-valid c =
    asked_valid c.in_ok-plan.plan (tree_of c.args.typed.now) (placed_of c.args.typed.now) c.args.engines c.args.patterns.now c.gathered_plans_are_kept.ensures.validity c.in_ok-plan.ensures.valid
    c.gather_selectors.result c.gather_selectors.ensures.plan

pub returns-clause-numbers : goal.returns-clause-numbers
returns-clause-numbers c =
    asked_numbers c.in_ok-plan.plan (tree_of c.args.typed.now) (placed_of c.args.typed.now) c.args.engines c.args.patterns.now c.gathered_plans_are_kept.ensures.types c.in_ok-plan.ensures.typed
    c.in_ok-plan.ensures.numbers c.gather_selectors.result c.gather_selectors.ensures.plan

pub returns-clause-gathered : goal.returns-clause-gathered
returns-clause-gathered c =
    asked_gathered c.in_ok-plan.plan (tree_of c.args.typed.now) (placed_of c.args.typed.now) c.args.engines c.args.patterns.now c.selectors_are_gathered.ensures.none_left c.in_ok-plan.ensures.typed
    c.gather_selectors.result c.gather_selectors.ensures.plan

pub returns-clause-asked : goal.returns-clause-asked
returns-clause-asked c =
    asked_all c.in_ok-plan.plan (tree_of c.args.typed.now) (placed_of c.args.typed.now) c.args.engines c.args.patterns.now c.selectors_are_gathered.ensures.all_asked c.in_ok-plan.ensures.served
    c.gather_selectors.result c.gather_selectors.ensures.plan

pub returns-clause-served : goal.returns-clause-served
returns-clause-served c =
    asked_served c.in_ok-plan.plan (tree_of c.args.typed.now) (placed_of c.args.typed.now) c.args.engines c.args.patterns.now
    (λ now served. c.gathered_plans_are_served.ensures.served (all_engines c.args.engines) c.args.patterns.now (c.gathered_plans_are_served.ensures.rising c.args.engines) now c.in_ok-plan.plan
    (c.served_plans_are_served_over.ensures now c.in_ok-plan.plan served)) c.in_ok-plan.ensures.served
    c.gather_selectors.result c.gather_selectors.ensures.plan
