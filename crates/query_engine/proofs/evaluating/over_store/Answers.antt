use Rattle.std.proofs.Common.{◌∙◌, [], ap, refl, sym, subst}
use Rattle.promql_ast.specs.Edged.{edged}
use Rattle.promql_ast.specs.declared.refusal.QueryRefusal.{QueryRefusal}
use Rattle.promql_ast.specs.declared.tree.Expr.{Expr}
use Rattle.promql_meaning.specs.declared.answer.Outcome.TheVariants as outcome
use Rattle.promql_meaning.specs.Selecting.{asked_over}
use Rattle.promql_type.specs.Answers.{MayFault}
use Rattle.promql_type.specs.Judging.{judged}
use Rattle.promql_type.specs.TypedTrees.{placed_of, tree_of}
use Rattle.query_engine.specs.Bounds.{nothing}
use Rattle.query_engine.specs.Evaluating.{ComesTo, IsRefusedWith, refused}
use Rattle.query_engine.specs.Planning.{choices_of}
use Rattle.query_engine.proofs.Results.{comes_to, not_refused}
use Rattle.query_engine.proofs.Spent.{text_spends}
use Rattle.query_engine.proofs.Streamed.{told_apart}
use Rattle.query_engine.proofs.evaluating.over_store.Goals as goal
use Rattle.query_places.specs.Apart.{StandApart}

pub answered-requires-clause-batch : goal.answered-requires-clause-batch
answered-requires-clause-batch g c = c.requires.batch.0

pub answered-requires-clause-within : goal.answered-requires-clause-within
answered-requires-clause-within g c = c.in-Ok.ensures.tree.within

pub answered-requires-clause-limits : goal.answered-requires-clause-limits
answered-requires-clause-limits g c = c.in-Ok.ensures.tree.limits

pub answered-requires-clause-kept : goal.answered-requires-clause-kept
answered-requires-clause-kept g c = c.in-Ok.ensures.tree.placed

pub answered-requires-clause-apart : goal.answered-requires-clause-apart
answered-requires-clause-apart g c =
    let ready = c.in-Ok.ensures.tree in
    let own = ready.edge ∙ ap (edged c.args.options.now.closed) ready.stands.typed in
    told_apart (judged (tree_of c.in-Ok.typed)).replacements (subst (λ (e : Expr). StandApart (judged e).replacements) (sym own)
    (c.calls_stand_apart.ensures c.args.text.now [] ready.stands.read ready.stands.tree c.args.options.now.closed ready.stands.parses))

pub returns-in-Ok-clause-outcome : goal.returns-in-Ok-clause-outcome
returns-in-Ok-clause-outcome g c =
    let ready = c.in-Ok.ensures.tree in
    comes_to c.args.text.now c.args.store.now c.typed_tree.new.patterns c.args.grid.now ready.open_tree (tree_of c.in-Ok.typed) c.args.instant c.args.options.now.closed ready.stands ready.edge c.answered.result c.answered.ensures.result

pub returns-in_err-room-clause-bounded : goal.returns-in_err-room-clause-bounded
returns-in_err-room-clause-bounded g c = nothing refl

pub returns-in-Ok-clause-bounded : goal.returns-in-Ok-clause-bounded
returns-in-Ok-clause-bounded g c =
    let ready = c.in-Ok.ensures.tree in
    text_spends c.args.text.now c.args.store.now c.args.grid.now (choices_of c.args.options.now) c.args.options.now.closed c.typed_tree.new.patterns ready.open_tree (tree_of c.in-Ok.typed)
    (placed_of c.in-Ok.typed) c.args.work.now c.answered.new.work ready.stands ready.edge ready.placed c.answered.ensures.bounded

pub returns-in-Err-Refused-clause-bounded : goal.returns-in-Err-Refused-clause-bounded
returns-in-Err-Refused-clause-bounded g c = nothing refl

pub returns-in-Ok-clause-idle : goal.returns-in-Ok-clause-idle
returns-in-Ok-clause-idle g c =
    not_refused _ (asked_over c.args.store.now c.typed_tree.new.patterns c.args.grid.now) (tree_of c.in-Ok.typed) c.args.grid.now c.args.instant c.answered.result c.answered.ensures.result

pub returns-in-Err-Refused-clause-outcome : goal.returns-in-Err-Refused-clause-outcome
returns-in-Err-Refused-clause-outcome g c =
    let told = subst (MayFault (IsRefusedWith c.args.text.now)) c.in-Err-Refused.field-0-is c.in-Err-Refused.ensures.refused in
    subst (λ (r : QueryRefusal). ComesTo c.args.text.now c.args.store.now c.args.grid.now c.args.instant c.args.options.now.closed (outcome.Refused r)) (sym c.in-Err-Refused.refusal-is)
    (refused c.in-Err-Refused.refusal told)
