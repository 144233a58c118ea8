use Rattle.std.proofs.Common.{◌≡◌, ◌∙◌, ap, arith, length, refl, subst, sym}
use Rattle.exchange.specs.Exchanging.{Exchanging}
use Rattle.logical_plan.specs.PlanMeaning.{plan_step}
use Rattle.plan_tree.specs.Nodes.{shape_of}
use Rattle.plan_tree.specs.Shapes.{is_single, rule}
use Rattle.plan_tree.specs.Spending.{IsFresh}
use Rattle.plan_tree.specs.Worlds.{world}
use Rattle.plan_work.specs.TreeBounds.{StaysWithin}
use Rattle.plan_tree.specs.declared.node.Node.{Node}
use Rattle.std.specs.Prelude.{IsTrue, false, if◌then◌else◌}
use Rattle.ticks.specs.Walks.{IsInstant}
use Rattle.phys_plan.proofs.Built.{IsNew, IsPlain, gives_steps, new_ready, plain_ready}
use Rattle.phys_plan.proofs.building.planted.Goals as goal

not_so : IsTrue false → ⊥
not_so h = absurd (cc)

-- ---- no engine is asked

pub returns-then-is_empty-clause-ready : goal.returns-then-is_empty-clause-ready
returns-then-is_empty-clause-ready c = λ asked p none is es.
    let part = c.args.part in
    let walk = c.args.walk in
    let new : IsPlain c.new.result part.tree walk c.args.batch = record {
      node_is = c.new.ensures.node;
      walk_is = c.new.ensures.walk;
      fed = c.new.ensures.fed;
      batch_is = c.new.ensures.batch;
      asking = c.new.ensures.asking;
      places = ap (λ (x : Exchanging). x.places) c.new.ensures.exchange;
    } in
    plain_ready c.plain_trees_begin.ensures c.walks_are_listed.ensures.one asked p es c.new.result part walk c.args.batch c.args.exchange.requests new c.requires.times c.requires.batch none is

pub returns-then-is_empty-clause-asks : goal.returns-then-is_empty-clause-asks
returns-then-is_empty-clause-asks c = λ asked p some. (let none = ap length (c.if-is_empty.ensures.0 refl) in absurd (omega (arith, some, none)))

pub returns-then-is_empty-clause-requests : goal.returns-then-is_empty-clause-requests
returns-then-is_empty-clause-requests c = ap (λ (x : Exchanging). x.requests) c.new.ensures.exchange ∙ sym (c.if-is_empty.ensures.0 refl)

pub returns-then-is_empty-clause-fresh : goal.returns-then-is_empty-clause-fresh
returns-then-is_empty-clause-fresh c = λ asked p is. subst IsFresh (sym c.new.ensures.node) is.sound.fresh

pub returns-then-is_empty-clause-batch : goal.returns-then-is_empty-clause-batch
returns-then-is_empty-clause-batch c = c.new.ensures.batch ∙ ap (λ (n : Node). if is_single (shape_of n) then 1 else c.args.batch) (sym c.new.ensures.node)

pub returns-then-is_empty-clause-within : goal.returns-then-is_empty-clause-within
returns-then-is_empty-clause-within c = λ asked p is. subst (λ (n : Node). StaysWithin asked c.args.walk p (shape_of n)) (sym c.new.ensures.node) is.within

pub returns-then-is_empty-clause-gives : goal.returns-then-is_empty-clause-gives
returns-then-is_empty-clause-gives c = λ asked p is gathers meant stay t on.
    let part = c.args.part in
    let walk = c.args.walk in
    let steps = gives_steps asked (IsInstant walk) p part.scalar part.own (rule (world asked.samples gathers) asked.kept (shape_of part.tree)) (is.gives gathers meant stay) t on in
    subst (λ (n : Node). rule (world asked.samples gathers) asked.kept (shape_of n) t ≡ plan_step asked p t) (sym c.new.ensures.node) steps

-- ---- some are asked

pub returns-clause-ready : goal.returns-clause-ready
returns-clause-ready c = λ asked p none. absurd (not_so (c.if-is_empty.ensures.1 none))

pub returns-clause-asks : goal.returns-clause-asks
returns-clause-asks c = λ asked p some query is known es begun inside are_known.
    let part = c.args.part in
    let walk = c.args.walk in
    let span = c.args.span.now in
    let new : IsNew c.over.result part.tree walk c.args.batch c.args.exchange span = record {
      node_is = c.over.ensures.node;
      walk_is = c.over.ensures.walk;
      fed = c.over.ensures.fed;
      batch_is = c.over.ensures.batch;
      exchange_is = c.over.ensures.exchange;
      asking = c.over.ensures.asking;
      unopened = c.requires.unopened;
    } in
    new_ready c.walks_are_listed.ensures.one asked p known es c.over.result part walk c.args.batch c.args.exchange span new c.requires.times c.requires.batch query is begun inside are_known

pub returns-clause-requests : goal.returns-clause-requests
returns-clause-requests c = ap (λ (x : Exchanging). x.requests) c.over.ensures.exchange

pub returns-clause-fresh : goal.returns-clause-fresh
returns-clause-fresh c = λ asked p is. subst IsFresh (sym c.over.ensures.node) is.sound.fresh

pub returns-clause-batch : goal.returns-clause-batch
returns-clause-batch c = c.over.ensures.batch ∙ ap (λ (n : Node). if is_single (shape_of n) then 1 else c.args.batch) (sym c.over.ensures.node)

pub returns-clause-within : goal.returns-clause-within
returns-clause-within c = λ asked p is. subst (λ (n : Node). StaysWithin asked c.args.walk p (shape_of n)) (sym c.over.ensures.node) is.within

pub returns-clause-gives : goal.returns-clause-gives
returns-clause-gives c = λ asked p is gathers meant stay t on.
    let part = c.args.part in
    let walk = c.args.walk in
    let steps = gives_steps asked (IsInstant walk) p part.scalar part.own (rule (world asked.samples gathers) asked.kept (shape_of part.tree)) (is.gives gathers meant stay) t on in
    subst (λ (n : Node). rule (world asked.samples gathers) asked.kept (shape_of n) t ≡ plan_step asked p t) (sym c.over.ensures.node) steps
