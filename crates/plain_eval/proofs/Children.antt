-- What is ready of a node is ready of its parts, and the depths of both.
use Rattle.std.proofs.Common.{◌≡◌, ◌∙◌, ℕ, zero, suc, ◌+◌, ◌<◌, ◌≤◌, List, [], ◌∷◌, ◌++◌, length, get_or, map, ap, sym, subst, refl, arith}
use Rattle.std.specs.Prelude.{ℤ, Some}
use Rattle.std.specs.List.{AllByRecursion}
use Rattle.func_table.specs.declared.table.Func.{Func}
use Rattle.func_table.specs.declared.table.Aggregate.{Aggregate}
use Rattle.func_table.specs.declared.table.SetOp.{SetOp}
use Rattle.label_set.specs.declared.rules.Grouping.{Grouping}
use Rattle.label_set.specs.declared.rules.Pairing.{Pairing}
use Rattle.ticks.specs.declared.moment.Ms.{Ms}
use Rattle.xfrac.specs.declared.value.PairOp.{PairOp}
use Rattle.promql_ast.specs.declared.refusal.QueryRefusal.{QueryRefusal}
use Rattle.promql_ast.specs.declared.tree.Moment.{Moment}
use Rattle.promql_ast.specs.declared.tree.Selector.{Selector}
use Rattle.promql_ast.specs.declared.tree.Expr.{Expr}
use Rattle.promql_ast.specs.declared.tree.Node.TheVariants.{Paren, Negate, Select, Range, Subquery, Call, Aggregate as Aggregated, Pair, Set}
use Rattle.promql_ast.specs.declared.tree.Node.TheOpen.{Node-F, Expr-F}
use Rattle.promql_ast.specs.Depth.{depth, greatest, node_depth}
use Rattle.promql_ast.specs.Folds.{fold-Paren, fold-Negate, fold-Select, fold-Range, fold-Subquery, fold-Call, fold-Aggregate, fold-Pair, fold-Set}
use Rattle.promql_type.specs.declared.kind.Kind.TheVariants.{Vector}
use Rattle.promql_type.specs.declared.signature.Callee.{Callee}
use Rattle.promql_type.specs.declared.signature.Callee.TheVariants.{Function, Aggregation}
use Rattle.promql_type.specs.Judging.{Judgement, all_replacements, arguments_refusals, call_refusals, judged, node_step, expr_step, pattern_of, strings_refusals}
use Rattle.promql_type.specs.Rules.{argument_refusals, count_refusals, operand_refusals, pair_refusals, set_refusals}
use Rattle.promql_type.specs.Signatures.{Signature, argument, signature}
use Rattle.promql_meaning.specs.Selecting.{Asked, moment_of}
use Rattle.promql_meaning.specs.Subqueries.{as_times, multiples}
use Rattle.promql_meaning.specs.Conditions.{IsMet, AreMet, needs_of, needs_at, needs_over, node_needs}
use Rattle.plain_eval.specs.Ready.{IsPatternKept, IsReady}

module _ {X : Type 0} where
  pub front_none : (xs ys : List X) → xs ++ ys ≡ [] → xs ≡ []
  front_none [] ys is = refl
  front_none (x ∷ xs) ys is = absurd (omega (arith, ap length is))

  pub back_none : (xs ys : List X) → xs ++ ys ≡ [] → ys ≡ []
  back_none [] ys is = is
  back_none (x ∷ xs) ys is = absurd (omega (arith, ap length is))

module _ {X : Type 0} (P : X → Type 0) where
  pub all_front : (xs ys : List X) → AllByRecursion P (xs ++ ys) → AllByRecursion P xs
  all_front [] ys a = tt
  all_front (x ∷ xs) ys a = (a.0, all_front xs ys a.1)

  pub all_back : (xs ys : List X) → AllByRecursion P (xs ++ ys) → AllByRecursion P ys
  all_back [] ys a = a
  all_back (x ∷ xs) ys a = all_back xs ys a.1

abbrev own : {A : Type 0} → Expr-F A A → A
own e = e.node

module _ (asked : Asked) where
  abbrev Kept : Judgement → Type 0
  Kept j = AllByRecursion (IsPatternKept asked.kept) j.replacements

  abbrev refused : Judgement → List QueryRefusal
  refused j = j.refusals

  pub ready_Paren : (e inner : Expr) (t : ℤ) → e.node ≡ Paren inner → IsReady asked e t → IsReady asked inner t
  ready_Paren e inner t is r =
      let j = fold-Paren node_step expr_step e inner is in
      record {
        met = subst (λ f. AreMet asked (f t)) (fold-Paren (node_needs asked) (λ e. e.node) e inner is) r.met;
        typed = sym (ap refused j) ∙ r.typed;
        patterns = subst Kept j r.patterns;
      }

  pub ready_Negate : (e inner : Expr) (t : ℤ) → e.node ≡ Negate inner → IsReady asked e t → IsReady asked inner t
  ready_Negate e inner t is r =
      let j = fold-Negate node_step expr_step e inner is in
      record {
        met = subst (λ f. AreMet asked (f t)) (fold-Negate (node_needs asked) (λ e. e.node) e inner is) r.met;
        typed = front_none (judged inner).refusals (operand_refusals (judged inner).operand) (sym (ap refused j) ∙ r.typed);
        patterns = subst Kept j r.patterns;
      }

  pub met_Select : (e : Expr) (selector : Selector) (t : ℤ) → e.node ≡ Select selector → IsReady asked e t → AreMet asked (node_needs asked (Node-F.Select selector) t)
  met_Select e selector t is r = subst (λ f. AreMet asked (f t)) (fold-Select (node_needs asked) (λ e. e.node) e selector is) r.met

  pub met_Range : (e : Expr) (selector : Selector) (range : Ms) (t : ℤ) → e.node ≡ Range selector range → IsReady asked e t → AreMet asked (node_needs asked (Node-F.Range selector range) t)
  met_Range e selector range t is r = subst (λ f. AreMet asked (f t)) (fold-Range (node_needs asked) (λ e. e.node) e selector range is) r.met

  -- what a subquery asks for at an instant: of its times, and of its inner part at each of its instants
  pub met_Subquery : (e inner : Expr) (range step : Ms) (moment : Moment) (t : ℤ) → e.node ≡ Subquery inner range step moment → IsReady asked e t
      → AreMet asked (node_needs asked (Node-F.Subquery (needs_of asked inner) range step moment) t)
  met_Subquery e inner range step moment t is r = subst (λ f. AreMet asked (f t)) (fold-Subquery (node_needs asked) (λ e. e.node) e inner range step moment is) r.met

  ready_over : (inner : Expr) (us : List Ms) → AreMet asked (needs_over (needs_of asked inner) us) → (judged inner).refusals ≡ [] → Kept (judged inner)
      → AllByRecursion (λ (u : Ms). IsReady asked inner u.0) us
  ready_over inner [] met typed patterns = tt
  ready_over inner (u ∷ us) met typed patterns =
      let first = needs_of asked inner u.0 in
      let rest = needs_over (needs_of asked inner) us in (
        record { met = all_front (IsMet asked.kept) first rest met; typed = typed; patterns = patterns },
        ready_over inner us (all_back (IsMet asked.kept) first rest met) typed patterns,
      )

  pub ready_Subquery : (e inner : Expr) (range step : Ms) (moment : Moment) (t : ℤ) → e.node ≡ Subquery inner range step moment → IsReady asked e t
      → AllByRecursion (λ (u : Ms). IsReady asked inner u.0) (as_times (multiples moment.closed (moment_of asked moment t) range.0 step.0))
  ready_Subquery e inner range step moment t is r =
      let j = fold-Subquery node_step expr_step e inner range step moment is in
      ready_over inner (as_times (multiples moment.closed (moment_of asked moment t) range.0 step.0))
      (met_Subquery e inner range step moment t is r).1.1.1
      (front_none (judged inner).refusals (argument_refusals (Some Vector) (judged inner).operand) (sym (ap refused j) ∙ r.typed))
      (subst Kept j r.patterns)

  -- arguments, the first of which has a number in its row
  ready_each : (row : Signature) (n : ℕ) (items : List Expr) (t : ℤ) → AreMet asked (needs_at (map (needs_of asked) items) t)
      → arguments_refusals row n (map judged items) ≡ [] → AllByRecursion (IsPatternKept asked.kept) (all_replacements (map judged items))
      → AllByRecursion (λ e. IsReady asked e t) items
  ready_each row n [] t met typed patterns = tt
  ready_each row n (e ∷ items) t met typed patterns =
      let own_needs = needs_of asked e t in
      let rest_needs = needs_at (map (needs_of asked) items) t in
      let own_refusals = (judged e).refusals ++ argument_refusals (argument row n) (judged e).operand in
      let rest_refusals = arguments_refusals row (n + 1) (map judged items) in
      let own_patterns = (judged e).replacements in
      let rest_patterns = all_replacements (map judged items) in (
        record {
          met = all_front (IsMet asked.kept) own_needs rest_needs met;
          typed = front_none (judged e).refusals (argument_refusals (argument row n) (judged e).operand) (front_none own_refusals rest_refusals typed);
          patterns = all_front (IsPatternKept asked.kept) own_patterns rest_patterns patterns;
        },
        ready_each row (n + 1) items t (all_back (IsMet asked.kept) own_needs rest_needs met) (back_none own_refusals rest_refusals typed) (all_back (IsPatternKept asked.kept) own_patterns rest_patterns patterns),
      )

  ready_call : (callee : Callee) (items : List Expr) (at : ℕ) (t : ℤ) → AreMet asked (needs_at (map (needs_of asked) items) t)
      → call_refusals callee (map judged items) at ≡ [] → AllByRecursion (IsPatternKept asked.kept) (all_replacements (map judged items))
      → AllByRecursion (λ e. IsReady asked e t) items
  ready_call callee items at t met typed patterns =
      let js = map judged items in
      let row = signature callee in
      let inner = back_none (count_refusals row (length js) at) (arguments_refusals row 0 js ++ strings_refusals callee js) typed in
      ready_each row 0 items t met (front_none (arguments_refusals row 0 js) (strings_refusals callee js) inner) patterns

  pub ready_Call : (e : Expr) (f : Func) (items : List Expr) (t : ℤ) → e.node ≡ Call f items → IsReady asked e t → AllByRecursion (λ x. IsReady asked x t) items
  ready_Call e f items t is r =
      let j = fold-Call node_step expr_step e f items is in
      ready_call (Function f) items e.at t
      (subst (λ g. AreMet asked (g t)) (fold-Call (node_needs asked) (λ e. e.node) e f items is) r.met)
      (sym (ap refused j) ∙ r.typed)
      (all_front (IsPatternKept asked.kept) (all_replacements (map judged items)) (pattern_of f (map judged items) e.at) (subst Kept j r.patterns))

  pub pattern_Call : (e : Expr) (f : Func) (items : List Expr) (t : ℤ) → e.node ≡ Call f items → IsReady asked e t
      → AllByRecursion (IsPatternKept asked.kept) (pattern_of f (map judged items) e.at)
  pattern_Call e f items t is r =
      all_back (IsPatternKept asked.kept) (all_replacements (map judged items)) (pattern_of f (map judged items) e.at)
      (subst Kept (fold-Call node_step expr_step e f items is) r.patterns)

  pub ready_Aggregate : (e : Expr) (f : Aggregate) (by : Grouping) (items : List Expr) (t : ℤ) → e.node ≡ Aggregated f by items → IsReady asked e t → AllByRecursion (λ x. IsReady asked x t) items
  ready_Aggregate e f by items t is r =
      let j = fold-Aggregate node_step expr_step e f by items is in
      ready_call (Aggregation f) items e.at t
      (subst (λ g. AreMet asked (g t)) (fold-Aggregate (node_needs asked) (λ e. e.node) e f by items is) r.met)
      (sym (ap refused j) ∙ r.typed)
      (subst Kept j r.patterns)

  both_ready : (left right : Expr) (t : ℤ) → AreMet asked (needs_of asked left t ++ needs_of asked right t) → (judged left).refusals ++ (judged right).refusals ≡ []
      → AllByRecursion (IsPatternKept asked.kept) ((judged left).replacements ++ (judged right).replacements) → IsReady asked left t × IsReady asked right t
  both_ready left right t met typed patterns = (
    record {
      met = all_front (IsMet asked.kept) (needs_of asked left t) (needs_of asked right t) met;
      typed = front_none (judged left).refusals (judged right).refusals typed;
      patterns = all_front (IsPatternKept asked.kept) (judged left).replacements (judged right).replacements patterns;
    },
    record {
      met = all_back (IsMet asked.kept) (needs_of asked left t) (needs_of asked right t) met;
      typed = back_none (judged left).refusals (judged right).refusals typed;
      patterns = all_back (IsPatternKept asked.kept) (judged left).replacements (judged right).replacements patterns;
    },
  )

  pub ready_Pair : (e : Expr) (op : PairOp) (left right : Expr) (pairing : Pairing) (t : ℤ) → e.node ≡ Pair op left right pairing → IsReady asked e t
      → IsReady asked left t × IsReady asked right t
  ready_Pair e op left right pairing t is r =
      let j = fold-Pair node_step expr_step e op left right pairing is in
      both_ready left right t
      (subst (λ f. AreMet asked (f t)) (fold-Pair (node_needs asked) (λ e. e.node) e op left right pairing is) r.met)
      (front_none ((judged left).refusals ++ (judged right).refusals) (pair_refusals op pairing (judged left).operand (judged right).operand e.at) (sym (ap refused j) ∙ r.typed))
      (subst Kept j r.patterns)

  pub ready_Set : (e : Expr) (op : SetOp) (left right : Expr) (pairing : Pairing) (t : ℤ) → e.node ≡ Set op left right pairing → IsReady asked e t
      → IsReady asked left t × IsReady asked right t
  ready_Set e op left right pairing t is r =
      let j = fold-Set node_step expr_step e op left right pairing is in
      both_ready left right t
      (subst (λ f. AreMet asked (f t)) (fold-Set (node_needs asked) (λ e. e.node) e op left right pairing is) r.met)
      (front_none ((judged left).refusals ++ (judged right).refusals) (set_refusals pairing (judged left).operand (judged right).operand e.at) (sym (ap refused j) ∙ r.typed))
      (subst Kept j r.patterns)

-- ---- depths

pub depth_Paren : (e inner : Expr) → e.node ≡ Paren inner → depth inner < depth e
depth_Paren e inner is = let d : depth e ≡ 1 + depth inner = fold-Paren node_depth (λ e. e.node) e inner is in omega arith

pub depth_Negate : (e inner : Expr) → e.node ≡ Negate inner → depth inner < depth e
depth_Negate e inner is = let d : depth e ≡ 1 + depth inner = fold-Negate node_depth (λ e. e.node) e inner is in omega arith

pub depth_Subquery : (e inner : Expr) (range step : Ms) (moment : Moment) → e.node ≡ Subquery inner range step moment → depth inner < depth e
depth_Subquery e inner range step moment is = let d : depth e ≡ 1 + depth inner = fold-Subquery node_depth (λ e. e.node) e inner range step moment is in omega arith

pub depth_Call : (e : Expr) (f : Func) (items : List Expr) → e.node ≡ Call f items → depth e ≡ 1 + greatest (map depth items)
depth_Call e f items is = fold-Call node_depth (λ e. e.node) e f items is

pub depth_Aggregate : (e : Expr) (f : Aggregate) (by : Grouping) (items : List Expr) → e.node ≡ Aggregated f by items → depth e ≡ 1 + greatest (map depth items)
depth_Aggregate e f by items is = fold-Aggregate node_depth (λ e. e.node) e f by items is

pub depth_item : (items : List Expr) (i : ℕ) (x : Expr) → i < length items → x ≡ get_or items i x → depth x ≤ greatest (map depth items)
depth_item [] i x w is = absurd (omega arith)
depth_item (y ∷ items) zero x w is = let e : depth x ≡ depth y = ap depth is in grind arith
depth_item (y ∷ items) (suc i) x w is = let h : depth x ≤ greatest (map depth items) = depth_item items i x (omega arith) is in grind arith
