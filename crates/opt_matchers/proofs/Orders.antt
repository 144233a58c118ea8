-- Selectors whose rules stand in another order mean what they meant.
use Rattle.std.proofs.Common.{◌≡◌, ◌∙◌, ℕ, List, [], ◌∷◌, ap, sym, refl, Bool, true, false, cond}
use Rattle.std.specs.Prelude.{ℤ, ◌&&◌, filter, fold}
use Rattle.std.specs.List.{list_all}
use Rattle.label_set.specs.LabelOrder.{by_labels}
use Rattle.label_set.specs.Labels.{value_of}
use Rattle.label_set.specs.declared.rules.Rule.{Rule}
use Rattle.match_rule.specs.Patterns.{labels_pass, kind_passes}
use Rattle.promql_ast.specs.declared.tree.Moment.{Moment}
use Rattle.ticks.specs.declared.moment.Ms.{Ms}
use Rattle.promql_meaning.specs.Givens.{no_marks}
use Rattle.promql_meaning.specs.Selecting.{AllSeries, Asked, Samples, moment_of, newest_rows, passing, window_rows}
use Rattle.promql_meaning.specs.declared.given.Given.TheVariants as given
use Rattle.step_table.specs.Groups.{Names}
use Rattle.window_fn.specs.Aggregates.{inserted}
use Rattle.logical_plan.specs.declared.nodes.PlanNode.TheOpen.{PlanNode-F}
use Rattle.logical_plan.specs.PlanMeaning.{node_meant}
use Rattle.logical_plan.specs.PlanRules.{newest_of}
use Rattle.plan_rewrite.specs.Rebuilding.{KeepsMeaning}
use Rattle.plan_rewrite.specs.NodeMeanings.{at_range, at_select, rolled_means}
use Rattle.opt_matchers.specs.RuleOrder.{comes_before, order_rules, ordered_rules}

module _ {X : Type 0} (p : X → Bool) where
  swapped : (a b c : Bool) → (a && (b && c)) ≡ (b && (a && c))
  swapped true b c = refl
  swapped false true c = refl
  swapped false false c = refl

  all_inserted : (below : X → X → Bool) (xs : List X) (x : X) → list_all p (inserted below xs x) ≡ (p x && list_all p xs)
  all_inserted below [] x = refl
  all_inserted below (y ∷ xs) x = by (below x y) (all_inserted below xs x)
    where
      by : (b : Bool) → list_all p (inserted below xs x) ≡ (p x && list_all p xs) → list_all p (cond b (x ∷ y ∷ xs) (y ∷ inserted below xs x)) ≡ (p x && list_all p (y ∷ xs))
      by true rest = refl
      by false rest = ap (λ b. p y && b) rest ∙ swapped (p y) (p x) (list_all p xs)

  moved : (a b c : Bool) → ((a && b) && c) ≡ (b && (a && c))
  moved true b c = refl
  moved false true c = refl
  moved false false c = refl

  all_folded : (below : X → X → Bool) (so xs : List X) → list_all p (fold (inserted below) so xs) ≡ (list_all p so && list_all p xs)
  all_folded below so [] = ended (list_all p so)
    where
      ended : (b : Bool) → b ≡ (b && true)
      ended true = refl
      ended false = refl
  all_folded below so (x ∷ xs) = all_folded below (inserted below so x) xs ∙ ap (λ b. b && list_all p xs) (all_inserted below so x) ∙ moved (p x) (list_all p so) (list_all p xs)

pass_in_order : (kept order : List (Bool × List ℕ)) (rules : List Rule) (names : Names) → labels_pass kept (ordered_rules order rules) names ≡ labels_pass kept rules names
pass_in_order kept order rules names = all_folded (λ (rule : Rule). kind_passes kept rule.kind (value_of names rule.label)) (comes_before order) [] rules

module _ (asked : Asked) where
  abbrev series_by : List Rule → AllSeries
  series_by rules = passing asked.samples asked.kept rules

  same_select : (a b : List Rule) → series_by a ≡ series_by b → (moment : Moment) (stamped : Bool) → node_meant asked (PlanNode-F.Select a moment stamped) ≡ node_meant asked (PlanNode-F.Select b moment stamped)
  same_select a b e moment stamped =
      ap (λ (series : AllSeries). record { own = stamped; gives = λ (t : ℤ). given.Vector (newest_of stamped (newest_rows moment.closed (moment_of asked moment t) series)) }) e

  same_range : (a b : List Rule) → series_by a ≡ series_by b → (moment : Moment) (range : Ms) → node_meant asked (PlanNode-F.Range a moment range) ≡ node_meant asked (PlanNode-F.Range b moment range)
  same_range a b e moment range =
      ap (λ (series : AllSeries). record {
        own = false;
        gives = λ (t : ℤ). given.Windows (record {
          moment = record { 0 = moment_of asked moment t };
          range = range;
          rules = [];
          rows = window_rows moment.closed (moment_of asked moment t) range.0 series;
          marks = no_marks;
        });
      }) e

  series_in_order : (order : List (Bool × List ℕ)) (rules : List Rule) → series_by (ordered_rules order rules) ≡ series_by rules
  series_in_order order rules = ap (λ (f : Names × Samples → Bool). filter f (by_labels asked.samples)) (λ i. λ (s : Names × Samples). pass_in_order asked.kept order rules s.0 i)

  pub orders_kept : (order : List (Bool × List ℕ)) → KeepsMeaning asked (order_rules order)
  orders_kept order at (PlanNode-F.Select rules moment stamped) =
      at_select asked (ordered_rules order rules) moment stamped ∙ same_select (ordered_rules order rules) rules (series_in_order order rules) moment stamped ∙ sym (rolled_means asked (PlanNode-F.Select rules moment stamped))
  orders_kept order at (PlanNode-F.Range rules moment range) =
      at_range asked (ordered_rules order rules) moment range ∙ same_range (ordered_rules order rules) rules (series_in_order order rules) moment range ∙ sym (rolled_means asked (PlanNode-F.Range rules moment range))
  orders_kept order at (PlanNode-F.Number value) = refl
  orders_kept order at PlanNode-F.Time = refl
  orders_kept order at (PlanNode-F.Subquery inner range step moment) = refl
  orders_kept order at (PlanNode-F.Element f inner arguments) = refl
  orders_kept order at (PlanNode-F.Stamp inner) = refl
  orders_kept order at (PlanNode-F.Window f inner arguments) = refl
  orders_kept order at (PlanNode-F.Absent labels inner) = refl
  orders_kept order at (PlanNode-F.Buckets quantile inner) = refl
  orders_kept order at (PlanNode-F.Relabel rule inner) = refl
  orders_kept order at (PlanNode-F.Sort down inner) = refl
  orders_kept order at (PlanNode-F.ScalarOf inner) = refl
  orders_kept order at (PlanNode-F.VectorOf inner) = refl
  orders_kept order at (PlanNode-F.Group f by arguments label) = refl
  orders_kept order at (PlanNode-F.Pair op left right pairing) = refl
  orders_kept order at (PlanNode-F.Set op left right pairing) = refl
  orders_kept order at (PlanNode-F.Filter base rules) = refl
  orders_kept order at (PlanNode-F.Ratio sum count) = refl
  orders_kept order at (PlanNode-F.Once inner) = refl
  orders_kept order at (PlanNode-F.Gather expr kind engines) = refl
