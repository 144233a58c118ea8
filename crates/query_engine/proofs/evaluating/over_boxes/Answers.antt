use Rattle.std.proofs.Common.{◌≡◌, ◌∙◌, [], ap, length, map, subst, sym}
use Rattle.exchange.specs.Calls.{Each}
use Rattle.promql_ast.specs.Edged.{edged}
use Rattle.promql_ast.specs.declared.refusal.QueryRefusal.{QueryRefusal}
use Rattle.promql_ast.specs.declared.tree.Expr.{Expr}
use Rattle.promql_meaning.specs.Results.{result_of}
use Rattle.promql_meaning.specs.Selecting.{AllSeries, asked_over}
use Rattle.promql_meaning.specs.declared.answer.Outcome.{Outcome}
use Rattle.promql_meaning.specs.declared.answer.Outcome.TheVariants as outcome
use Rattle.promql_type.specs.Answers.{MayFault}
use Rattle.promql_type.specs.Judging.{judged}
use Rattle.promql_type.specs.TypedTrees.{tree_of}
use Rattle.query_engine.specs.Evaluating.{ComesTo, IsRefusedWith, refused}
use Rattle.query_engine.proofs.Boxes.{map_size}
use Rattle.query_engine.proofs.Idle.{idle_still}
use Rattle.query_engine.proofs.Lost.{begun_are, begun_gone, behind, given, lacking}
use Rattle.query_engine.proofs.Over.{comes_over, held_now, stand_moved}
use Rattle.query_engine.proofs.Streamed.{told_apart}
use Rattle.query_engine.proofs.evaluating.over_boxes.Goals as goal
use Rattle.query_places.specs.Apart.{StandApart}
use Rattle.remote_api.specs.Seen.{EngineSeen}

pub answered_over-requires-clause-batch : goal.answered_over-requires-clause-batch
answered_over-requires-clause-batch g c = c.requires.batch.0

pub answered_over-requires-clause-within : goal.answered_over-requires-clause-within
answered_over-requires-clause-within g c = c.in-Ok-typed_tree.ensures.tree.within

pub answered_over-requires-clause-limits : goal.answered_over-requires-clause-limits
answered_over-requires-clause-limits g c = c.in-Ok-typed_tree.ensures.tree.limits

pub answered_over-requires-clause-kept : goal.answered_over-requires-clause-kept
answered_over-requires-clause-kept g c = c.in-Ok-typed_tree.ensures.tree.placed

pub answered_over-requires-clause-apart : goal.answered_over-requires-clause-apart
answered_over-requires-clause-apart g c =
    let ready = c.in-Ok-typed_tree.ensures.tree in
    let own = ready.edge ∙ ap (edged c.args.options.now.closed) ready.stands.typed in
    told_apart (judged (tree_of c.in-Ok-typed_tree.typed)).replacements (subst (λ (e : Expr). StandApart (judged e).replacements) (sym own)
    (c.calls_stand_apart.ensures c.args.text.now [] ready.stands.read ready.stands.tree c.args.options.now.closed ready.stands.parses))

pub answered_over-requires-clause-begun : goal.answered_over-requires-clause-begun
answered_over-requires-clause-begun g c =
    begun_are _ _ (map_size (λ b. (goal.Engine-dyn g (b.vtable, b.value)).seen b.value) c.begin.new.engines ∙ c.begin.ensures.len ∙ sym (map_size (λ b. (goal.Engine-dyn g (b.vtable, b.value)).seen b.value) c.args.engines.now)) c.begin.ensures.begun

pub returns-in-Ok-typed_tree-clause-outcome : goal.returns-in-Ok-typed_tree-clause-outcome
returns-in-Ok-typed_tree-clause-outcome g c =
    let ready = c.in-Ok-typed_tree.ensures.tree in
    let kept = c.typed_tree.new.patterns in
    let grid = c.args.grid.now in
    let tree = tree_of c.in-Ok-typed_tree.typed in
    let es = map (λ b. (goal.Engine-dyn g (b.vtable, b.value)).seen b.value) c.args.engines.now in
    let fs = map (λ b. (goal.Engine-dyn g (b.vtable, b.value)).seen b.value) c.begin.new.engines in
    let same : Each (λ (e f : EngineSeen). f.holding ≡ e.holding) es fs = λ i e at. (let o = c.begin.ensures.begun i e at in (o.0, o.1, o.2.holding)) in
    comes_over c.args.text.now kept grid ready.open_tree tree c.args.instant c.args.options.now.closed (length c.args.engines.now) es ready.stands ready.edge c.answered_over.result
    (stand_moved (λ (samples : AllSeries) (o : Outcome). o ≡ result_of (asked_over samples kept grid) tree grid c.args.instant) (length c.args.engines.now) (length c.begin.new.engines) es fs c.begin.ensures.len
    (λ declared engines size held. held_now declared es fs engines same held) c.answered_over.result c.answered_over.ensures.result)

pub returns-in-Err-Refused-clause-outcome : goal.returns-in-Err-Refused-clause-outcome
returns-in-Err-Refused-clause-outcome g c declared samples size stand =
    let told = subst (MayFault (IsRefusedWith c.args.text.now)) c.in-Err-Refused.field-0-is c.in-Err-Refused.ensures.refused in
    subst (λ (r : QueryRefusal). ComesTo c.args.text.now samples c.args.grid.now c.args.instant c.args.options.now.closed (outcome.Refused r)) (sym c.in-Err-Refused.refusal-is)
    (refused c.in-Err-Refused.refusal told)

pub returns-in_default-clause-run : goal.returns-in_default-clause-run
returns-in_default-clause-run g c = lacking _ _ (begun_gone _ _ (map_size (λ b. (goal.Engine-dyn g (b.vtable, b.value)).seen b.value) c.begin.new.engines ∙ c.begin.ensures.len ∙ sym (map_size (λ b. (goal.Engine-dyn g (b.vtable, b.value)).seen b.value) c.args.engines.now)) c.begin.ensures.begun)

pub returns-in-Ok-typed_tree-clause-run : goal.returns-in-Ok-typed_tree-clause-run
returns-in-Ok-typed_tree-clause-run g c =
    behind c.turns_follow.ensures.follow c.answered_over.result _ _ _ (begun_gone _ _ (map_size (λ b. (goal.Engine-dyn g (b.vtable, b.value)).seen b.value) c.begin.new.engines ∙ c.begin.ensures.len ∙ sym (map_size (λ b. (goal.Engine-dyn g (b.vtable, b.value)).seen b.value) c.args.engines.now)) c.begin.ensures.begun) c.answered_over.ensures.run

pub returns-in-Err-Refused-clause-run : goal.returns-in-Err-Refused-clause-run
returns-in-Err-Refused-clause-run g c = given _ _ _ (begun_gone _ _ (map_size (λ b. (goal.Engine-dyn g (b.vtable, b.value)).seen b.value) c.begin.new.engines ∙ c.begin.ensures.len ∙ sym (map_size (λ b. (goal.Engine-dyn g (b.vtable, b.value)).seen b.value) c.args.engines.now)) c.begin.ensures.begun)

pub returns-clause-run : goal.returns-clause-run
returns-clause-run g c = lacking _ _ (begun_gone _ _ (map_size (λ b. (goal.Engine-dyn g (b.vtable, b.value)).seen b.value) c.begin.new.engines ∙ c.begin.ensures.len ∙ sym (map_size (λ b. (goal.Engine-dyn g (b.vtable, b.value)).seen b.value) c.args.engines.now)) c.begin.ensures.begun)

pub returns-in_default-clause-unmoved : goal.returns-in_default-clause-unmoved
returns-in_default-clause-unmoved g c = idle_still c.args.work.now

pub returns-in-Err-Refused-clause-unmoved : goal.returns-in-Err-Refused-clause-unmoved
returns-in-Err-Refused-clause-unmoved g c = idle_still c.args.work.now
