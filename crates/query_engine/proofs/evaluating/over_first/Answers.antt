use Rattle.std.proofs.Common.{◌≡◌, List, length, map, subst, sym, take}
use Rattle.promql_meaning.specs.Selecting.{AllSeries}
use Rattle.promql_meaning.specs.declared.answer.Outcome.{Outcome}
use Rattle.remote_api.specs.Seen.{EngineSeen}
use Rattle.query_engine.specs.Engines.{AreHeldBy}
use Rattle.query_engine.specs.Evaluating.{ComesTo}
use Rattle.query_engine.proofs.Boxes.{map_take, take_size}
use Rattle.query_engine.proofs.Lost.{front_gone, front_many, front_rest}
use Rattle.query_engine.proofs.Over.{held_first, stand_moved}
use Rattle.query_engine.proofs.evaluating.over_first.Goals as goal

pub returns-clause-outcome : goal.returns-clause-outcome
returns-clause-outcome g c =
    let es = map (λ b. (goal.Engine-dyn g (b.vtable, b.value)).seen b.value) c.args.engines.now in
    let fs = map (λ b. (goal.Engine-dyn g (b.vtable, b.value)).seen b.value) (take c.args.count c.args.engines.now) in
    let first : fs ≡ take c.args.count es = map_take (λ b. (goal.Engine-dyn g (b.vtable, b.value)).seen b.value) c.args.count c.args.engines.now in
    stand_moved (λ (samples : AllSeries) (o : Outcome). ComesTo c.args.text.now samples c.args.grid.now c.args.instant c.args.options.now.closed o) c.args.count (length (take c.args.count c.args.engines.now)) es fs
    (take_size c.args.count c.args.engines.now c.requires.inside)
    (λ declared engines size held. subst (λ (gs : List EngineSeen). AreHeldBy declared gs engines) (sym first) (held_first declared es engines c.args.count size held))
    c.over_boxes.result c.over_boxes.ensures.outcome

pub returns-clause-run : goal.returns-clause-run
returns-clause-run g c =
    front_gone (λ b. (goal.Engine-dyn g (b.vtable, b.value)).seen b.value) c.args.count c.args.engines.now c.over_boxes.new.engines c.over_boxes.result c.requires.inside c.over_boxes.ensures.run

pub returns-clause-rest : goal.returns-clause-rest
returns-clause-rest g c =
    front_rest (λ b. (goal.Engine-dyn g (b.vtable, b.value)).seen b.value) c.args.count c.args.engines.now c.over_boxes.new.engines c.over_boxes.result c.requires.inside c.over_boxes.ensures.run

pub returns-clause-many : goal.returns-clause-many
returns-clause-many g c =
    front_many (λ b. (goal.Engine-dyn g (b.vtable, b.value)).seen b.value) c.args.count c.args.engines.now c.over_boxes.new.engines c.over_boxes.result c.requires.inside c.over_boxes.ensures.run
