-- The equations of `judged`, and the least refusal of each kind of node.
use Rattle.std.proofs.Common.{◌≡◌, ◌<◌, ◌≤◌, ◌+◌, ℕ, ap, ap₂, ◌∙◌, sym, map, drop, get_or, length, List, ◌∷◌, ◌++◌}
use Rattle.std.specs.Prelude.{Option, Some}
use Rattle.std.proofs.lemmas.List.{drop_more}
use Rattle.std.proofs.Math.ListN.{drop_of_length-le}
use Rattle.func_table.specs.declared.table.Func.{Func}
use Rattle.func_table.specs.declared.table.Aggregate.{Aggregate}
use Rattle.func_table.specs.declared.table.SetOp.{SetOp}
use Rattle.label_set.specs.declared.rules.Grouping.{Grouping}
use Rattle.label_set.specs.declared.rules.Pairing.{Pairing}
use Rattle.ticks.specs.declared.moment.Ms.{Ms}
use Rattle.xfrac.specs.declared.value.PairOp.{PairOp}
use Rattle.promql_ast.specs.declared.refusal.QueryRefusal.{QueryRefusal}
use Rattle.promql_ast.specs.declared.tree.Moment.{Moment}
use Rattle.promql_ast.specs.declared.tree.Expr.{Expr}
use Rattle.promql_ast.specs.declared.tree.Node.TheVariants.{Negate, Subquery, Call, Aggregate as Aggregated, Pair, Set}
use Rattle.promql_ast.specs.Folds.{fold-Negate, fold-Subquery, fold-Call, fold-Aggregate, fold-Pair, fold-Set}
use Rattle.promql_type.specs.declared.kind.Kind.TheVariants.{Vector}
use Rattle.promql_type.specs.declared.signature.Callee.TheVariants.{Function, Aggregation}
use Rattle.promql_type.specs.Judging.{Judgement, judged, node_step, expr_step, arguments_refusals, call_refusals}
use Rattle.promql_type.specs.Refusals.{lesser, least}
use Rattle.promql_type.specs.Rules.{argument_refusals, operand_refusals, pair_refusals, set_refusals}
use Rattle.promql_type.specs.Signatures.{Signature, argument}
use Rattle.promql_type.proofs.Leasts.{least_append, lesser_assoc, last_none}

abbrev least_of : Judgement → Option QueryRefusal
least_of j = least j.refusals

pub least_negate : (e inner : Expr) → e.node ≡ Negate inner
    → least (judged e).refusals ≡ lesser (least (judged inner).refusals) (least (operand_refusals (judged inner).operand))
least_negate e inner is = ap least_of (fold-Negate node_step expr_step e inner is) ∙ least_append (judged inner).refusals (operand_refusals (judged inner).operand)

pub least_subquery : (e inner : Expr) (range step : Ms) (moment : Moment) → e.node ≡ Subquery inner range step moment
    → least (judged e).refusals ≡ lesser (least (judged inner).refusals) (least (argument_refusals (Some Vector) (judged inner).operand))
least_subquery e inner range step moment is =
    ap least_of (fold-Subquery node_step expr_step e inner range step moment is) ∙ least_append (judged inner).refusals (argument_refusals (Some Vector) (judged inner).operand)

pub least_call : (e : Expr) (f : Func) (arguments : List Expr) → e.node ≡ Call f arguments
    → least (judged e).refusals ≡ least (call_refusals (Function f) (map judged arguments) e.at)
least_call e f arguments is = ap least_of (fold-Call node_step expr_step e f arguments is)

pub least_aggregate : (e : Expr) (f : Aggregate) (grouping : Grouping) (arguments : List Expr) → e.node ≡ Aggregated f grouping arguments
    → least (judged e).refusals ≡ least (call_refusals (Aggregation f) (map judged arguments) e.at)
least_aggregate e f grouping arguments is = ap least_of (fold-Aggregate node_step expr_step e f grouping arguments is)

pub least_pair : (e : Expr) (op : PairOp) (left right : Expr) (pairing : Pairing) → e.node ≡ Pair op left right pairing
    → least (judged e).refusals
    ≡ lesser (lesser (least (judged left).refusals) (least (judged right).refusals)) (least (pair_refusals op pairing (judged left).operand (judged right).operand e.at))
least_pair e op left right pairing is =
    ap least_of (fold-Pair node_step expr_step e op left right pairing is)
    ∙ least_append ((judged left).refusals ++ (judged right).refusals) (pair_refusals op pairing (judged left).operand (judged right).operand e.at)
    ∙ ap (λ x. lesser x (least (pair_refusals op pairing (judged left).operand (judged right).operand e.at))) (least_append (judged left).refusals (judged right).refusals)

pub least_set : (e : Expr) (op : SetOp) (left right : Expr) (pairing : Pairing) → e.node ≡ Set op left right pairing
    → least (judged e).refusals
    ≡ lesser (lesser (least (judged left).refusals) (least (judged right).refusals)) (least (set_refusals pairing (judged left).operand (judged right).operand e.at))
least_set e op left right pairing is =
    ap least_of (fold-Set node_step expr_step e op left right pairing is)
    ∙ least_append ((judged left).refusals ++ (judged right).refusals) (set_refusals pairing (judged left).operand (judged right).operand e.at)
    ∙ ap (λ x. lesser x (least (set_refusals pairing (judged left).operand (judged right).operand e.at))) (least_append (judged left).refusals (judged right).refusals)

pub next_argument : (row : Signature) (sofar new : Option QueryRefusal) (items : List Expr) (i : ℕ) (item : Expr) → i < length items → item ≡ get_or items i item
    → new ≡ lesser sofar (lesser (least (judged item).refusals) (least (argument_refusals (argument row i) (judged item).operand)))
    → lesser new (least (arguments_refusals row (i + 1) (map judged (drop (i + 1) items)))) ≡ lesser sofar (least (arguments_refusals row i (map judged (drop i items))))
next_argument row sofar new items i item lt is now =
    let here = (judged item).refusals ++ argument_refusals (argument row i) (judged item).operand in
    let rest : List QueryRefusal = arguments_refusals row (i + 1) (map judged (drop (i + 1) items)) in
    let split : drop i items ≡ item ∷ drop (i + 1) items = drop_more items i item lt ∙ ap (λ x. x ∷ drop (i + 1) items) (sym is) in
    ap (λ x. lesser x (least rest)) (now ∙ ap (lesser sofar) (sym (least_append (judged item).refusals (argument_refusals (argument row i) (judged item).operand))))
    ∙ lesser_assoc sofar (least here) (least rest)
    ∙ ap (lesser sofar) (sym (least_append here rest))
    ∙ ap (λ es. lesser sofar (least (arguments_refusals row i (map judged es)))) (sym split)

pub no_argument : (row : Signature) (sofar : Option QueryRefusal) (items : List Expr) (i : ℕ) → length items ≤ i
    → lesser sofar (least (arguments_refusals row i (map judged (drop i items)))) ≡ sofar
no_argument row sofar items i le = ap (λ es. lesser sofar (least (arguments_refusals row i (map judged es)))) (drop_of_length-le items le) ∙ last_none sofar

pub least_three : (xs ys zs : List QueryRefusal) (x y z : Option QueryRefusal) → x ≡ least xs → y ≡ least ys → z ≡ least zs
    → lesser x (lesser y z) ≡ least (xs ++ (ys ++ zs))
least_three xs ys zs x y z xs_is ys_is zs_is =
    ap₂ lesser xs_is (ap₂ lesser ys_is zs_is ∙ sym (least_append ys zs)) ∙ sym (least_append xs (ys ++ zs))
