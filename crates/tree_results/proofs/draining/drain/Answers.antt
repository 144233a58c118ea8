use Rattle.std.proofs.Common.{◌≡◌, ◌∙◌, List, [], map, Option, None, Some, refl, sym, subst}
use Rattle.std.specs.Prelude.{IfSome}
use Rattle.op_labels.specs.Rules.{Kept as Rules}
use Rattle.plan_tree.specs.Chains.{IsReady}
use Rattle.plan_tree.specs.Nodes.{shape_of}
use Rattle.plan_tree.specs.Worlds.{Gathers}
use Rattle.step_table.specs.Timed.{StepAt}
use Rattle.result_rows.specs.Taken.{HasTaken, Kept}
use Rattle.tree_results.proofs.Far.{all_taken, farther, nearer, stops, within_at}
use Rattle.tree_results.proofs.Gone.{behind, faulted, given, lacking, made}
use Rattle.tree_results.proofs.draining.drain.Goals as goal

-- nothing was taken yet
fresh : (known : Option Gathers) (taken : Kept) (f : Gathers → List StepAt) → HasTaken taken [] → ((g : Gathers) → f g ≡ []) → IfSome known (λ g. HasTaken taken (f g))
fresh None taken f h e = tt
fresh (Some g) taken f h e = subst (λ (front : List StepAt). HasTaken taken front) (sym (e g)) h

pub step-requires : goal.step-requires
step-requires g c = (c.requires.ready.0, (c.loop-collected.invariant.0 c.requires.ready.0 c.requires.ready.1).0)

pub loop-collected-init : goal.loop-collected-init
loop-collected-init g c = (
  λ known ready. (
    ready,
    record {
      walk = c.requires.walk;
      shape_is = refl;
      done = [];
      chain = tt;
      fed = c.requires.fresh;
      has = fresh known c.new-collected.result (λ g. []) c.new-collected.ensures (λ g. refl);
    },
  ),
  refl,
  λ start h. h,
  c.turns_follow.ensures.none _,
)

pub returns-in-Some-clause-drained : goal.returns-in-Some-clause-drained
returns-in-Some-clause-drained g c gathers ready instant e =
    let i = c.loop-collected.invariant in
    let far = i.0 (Some gathers) ready in
    stops c.args.store.now c.args.patterns.now c.loop-collected.patterns gathers (shape_of c.args.tree.now.node) c.args.grid.now c.loop-collected.tree c.step.new.self c.loop-collected.collected
    c.lend.result c.in_ok-step.field-0 i.1 far.1 (c.in_ok-step.ensures.turn (Some gathers) far.0) c.if-branch.true c.lend.ensures c.instants_are_numbered.ensures c.turns_are_the_walk.ensures c.stopped_is_judged.ensures
    c.in-Some.outcome (λ front has. c.in_ok-outcome.ensures.stop front has ∙ c.in-Some.is) instant e

pub lend-requires : goal.lend-requires
lend-requires g c = c.in_ok-step.ensures.there c.if-branch.true

pub loop-collected-smaller : goal.loop-collected-smaller
loop-collected-smaller g c =
    let i = c.loop-collected.invariant in
    let known = c.requires.ready.0 in
    let far = i.0 known c.requires.ready.1 in
    nearer c.args.store.now c.args.patterns.now c.loop-collected.patterns known (shape_of c.args.tree.now.node) c.args.grid.now c.loop-collected.tree c.step.new.self c.loop-collected.collected
    c.lend.result c.in_ok-step.field-0 i.1 far.1 (c.in_ok-step.ensures.turn known far.0) c.if-branch.true c.lend.ensures

pub loop-collected-preserved : goal.loop-collected-preserved
loop-collected-preserved g c =
    let i = c.loop-collected.invariant in
    let kept = c.step.ensures.patterns in (
      λ known ready.
          let far = i.0 known ready in (
            subst (λ (k : Rules). IsReady c.args.store.now k known (map (λ b. (goal.Engine-dyn g (b.vtable, b.value)).seen b.value) c.step.new.engines) c.step.new.self) (sym kept) (c.in_ok-step.ensures.ready known far.0),
            farther c.args.store.now c.args.patterns.now c.loop-collected.patterns known (shape_of c.args.tree.now.node) c.args.grid.now c.loop-collected.tree c.step.new.self c.loop-collected.collected
                c.lend.result c.in_ok-step.field-0 i.1 far.1 (c.in_ok-step.ensures.turn known far.0) c.if-branch.true c.lend.ensures
                c.taken.new.collected c.in_ok-step.ensures.same (λ front has. c.in_ok-outcome.ensures.taken c.in_default.is front has),
          ),
      kept ∙ i.1,
      λ start h. c.in_ok-step.ensures.spent start (i.2 start h),
      made c.turns_follow.ensures.follow c.in_ok-step.field-0 _ _ _ i.3 c.in_ok-step.ensures.run,
    )

pub returns-clause-drained : goal.returns-clause-drained
returns-clause-drained g c gathers ready =
    let i = c.loop-collected.invariant in
    let far = i.0 (Some gathers) ready in
    all_taken c.args.store.now c.args.patterns.now c.loop-collected.patterns gathers (shape_of c.args.tree.now.node) c.args.grid.now c.loop-collected.tree c.step.new.self c.loop-collected.collected
    c.in_ok-step.field-0 far.1 (c.in_ok-step.ensures.turn (Some gathers) far.0) c.if-branch.false c.instants_are_numbered.ensures c.turns_are_the_walk.ensures

pub returns-in_err-step-clause-bounded : goal.returns-in_err-step-clause-bounded
returns-in_err-step-clause-bounded g c start h =
    let i = c.loop-collected.invariant in
    let known = c.requires.ready.0 in
    within_at c.args.store.now c.args.patterns.now known (shape_of c.args.tree.now.node) c.args.grid.now c.loop-collected.tree c.loop-collected.collected c.args.tree.now.walk start c.step.new.work (i.0 known c.requires.ready.1).1 c.requires.walk (c.step.ensures.bounded start (i.2 start h))

pub returns-in_err-outcome-clause-bounded : goal.returns-in_err-outcome-clause-bounded
returns-in_err-outcome-clause-bounded g c start h =
    let i = c.loop-collected.invariant in
    let known = c.requires.ready.0 in
    within_at c.args.store.now c.args.patterns.now known (shape_of c.args.tree.now.node) c.args.grid.now c.loop-collected.tree c.loop-collected.collected c.args.tree.now.walk start c.step.new.work (i.0 known c.requires.ready.1).1 c.requires.walk (c.step.ensures.bounded start (i.2 start h))

pub returns-in-Some-clause-bounded : goal.returns-in-Some-clause-bounded
returns-in-Some-clause-bounded g c start h =
    let i = c.loop-collected.invariant in
    let known = c.requires.ready.0 in
    within_at c.args.store.now c.args.patterns.now known (shape_of c.args.tree.now.node) c.args.grid.now c.loop-collected.tree c.loop-collected.collected c.args.tree.now.walk start c.step.new.work (i.0 known c.requires.ready.1).1 c.requires.walk (c.step.ensures.bounded start (i.2 start h))

pub returns-clause-bounded : goal.returns-clause-bounded
returns-clause-bounded g c start h =
    let i = c.loop-collected.invariant in
    let known = c.requires.ready.0 in
    within_at c.args.store.now c.args.patterns.now known (shape_of c.args.tree.now.node) c.args.grid.now c.loop-collected.tree c.loop-collected.collected c.args.tree.now.walk start c.step.new.work (i.0 known c.requires.ready.1).1 c.requires.walk (c.step.ensures.bounded start (i.2 start h))

-- ---- engines

pub returns-in_err-step-clause-run : goal.returns-in_err-step-clause-run
returns-in_err-step-clause-run g c =
    behind c.turns_follow.ensures.follow c.from_residual.result _ _ _ c.loop-collected.invariant.3 (faulted _ c.from_residual.result _ _ c.from_residual.ensures.1 c.in_err-step.ensures.run)

pub returns-in_err-outcome-clause-run : goal.returns-in_err-outcome-clause-run
returns-in_err-outcome-clause-run g c =
    let gone = made c.turns_follow.ensures.follow c.in_ok-step.field-0 _ _ _ c.loop-collected.invariant.3 c.in_ok-step.ensures.run in
    lacking _ c.from_residual-in_err-outcome.result _ _ c.from_residual-in_err-outcome.ensures.1 c.in_err-outcome.ensures.memory gone

pub returns-in-Some-clause-run : goal.returns-in-Some-clause-run
returns-in-Some-clause-run g c = given _ _ _ (made c.turns_follow.ensures.follow c.in_ok-step.field-0 _ _ _ c.loop-collected.invariant.3 c.in_ok-step.ensures.run)

pub returns-clause-run : goal.returns-clause-run
returns-clause-run g c = given _ _ _ (made c.turns_follow.ensures.follow c.in_ok-step.field-0 _ _ _ c.loop-collected.invariant.3 c.in_ok-step.ensures.run)
