-- A selector costs at most what a range does, and with more rules no more.
use Rattle.std.proofs.Common.{◌≡◌, ◌∙◌, ℕ, ◌+◌, ◌≤◌, Bool, true, false, cond, List, [], ◌∷◌, ◌++◌, length, refl, sym, arith}
use Rattle.std.specs.Prelude.{◌*◌, ◌&&◌, ℤ, filter, sum_by}
use Rattle.std.proofs.lemmas.List.Folds.{list_all-append}
use Rattle.std.proofs.lemmas.List.Sums.{sum_by-cons}
use Rattle.label_set.specs.LabelOrder.{by_labels}
use Rattle.label_set.specs.Labels.{value_of}
use Rattle.label_set.specs.declared.rules.Rule.{Rule}
use Rattle.match_rule.specs.Patterns.{kind_passes, labels_pass}
use Rattle.plan_tree.specs.Spending.{IsAtMost}
use Rattle.promql_ast.specs.declared.tree.Moment.{Moment}
use Rattle.promql_meaning.specs.Selecting.{AllSeries, Asked, Samples, moment_of, passing}
use Rattle.series_marks.specs.Reaches.{last_instant, window_edge}
use Rattle.series_marks.specs.Reads.{span_bound}
use Rattle.step_table.specs.Groups.{Names}
use Rattle.ticks.specs.declared.moment.Ms.{Ms}
use Rattle.plan_work.specs.PlanBounds.{fetched_by, plan_bound, selector_bound}
use Rattle.plan_work.specs.PlanLaws.{FiltersCostNoMore, RangesCostAsSelectors, of_filter}
use Rattle.plan_work.proofs.Nodes.{over, ranges}
use Rattle.plan_work.proofs.Sums.{at_bound, same_least, then_least}

-- what passes one test passes the other
module _ {X : Type 0} (p q : X → Bool) (weaker : (x : X) → p x ≡ true → q x ≡ true) where
  pub length_fewer : (xs : List X) → length (filter p xs) ≤ length (filter q xs)
  length_fewer [] = omega arith
  length_fewer (x ∷ xs) = by (p x) (q x) (weaker x) (length_fewer xs)
    where
      by : (a b : Bool) → (a ≡ true → b ≡ true) → length (filter p xs) ≤ length (filter q xs) → length (cond a (x ∷ filter p xs) (filter p xs)) ≤ length (cond b (x ∷ filter q xs) (filter q xs))
      by true true w h = omega (arith, h)
      by false true w h = omega (arith, h)
      by false false w h = h
      by true false w h = let e : false ≡ true = w refl in absurd (cc)

  pub sum_fewer : (g : X → ℕ) (xs : List X) → sum_by g (filter p xs) ≤ sum_by g (filter q xs)
  sum_fewer g [] = omega arith
  sum_fewer g (x ∷ xs) = by (p x) (q x) (weaker x) (sum_fewer g xs)
    where
      by : (a b : Bool) → (a ≡ true → b ≡ true) → sum_by g (filter p xs) ≤ sum_by g (filter q xs) → sum_by g (cond a (x ∷ filter p xs) (filter p xs)) ≤ sum_by g (cond b (x ∷ filter q xs) (filter q xs))
      by true true w h = let m = sum_by-cons g x (filter p xs) in let n = sum_by-cons g x (filter q xs) in omega (arith, h, m, n)
      by false true w h = let n = sum_by-cons g x (filter q xs) in omega (arith, h, n)
      by false false w h = h
      by true false w h = let e : false ≡ true = w refl in absurd (cc)

-- labels that pass some rules and more pass the first
pub pass_first : (kept : List (Bool × List ℕ)) (rules more : List Rule) (names : Names) → labels_pass kept (rules ++ more) names ≡ true → labels_pass kept rules names ≡ true
pass_first kept rules more names h =
    left (labels_pass kept rules names) (labels_pass kept more names) (sym (list_all-append (λ (rule : Rule). kind_passes kept rule.kind (value_of names rule.label)) rules more) ∙ h)
  where
    left : (a b : Bool) → (a && b) ≡ true → a ≡ true
    left true b h = refl
    left false b h = h

fewer_times : (n m : ℕ) → n ≤ m → 64 * n ≤ 64 * m
fewer_times n m h = omega (arith, h)

module _ (back : ℤ) (asked : Asked) (rules more : List Rule) (moment : Moment) where
  abbrev passes : List Rule → Names × Samples → Bool
  passes all one = labels_pass asked.kept all one.0

  weaker : (one : Names × Samples) → passes (rules ++ more) one ≡ true → passes rules one ≡ true
  weaker one = pass_first asked.kept rules more one.0

  abbrev sorted : AllSeries
  sorted = by_labels asked.samples

  fewer_fetched : (at : List Ms) → fetched_by back asked (rules ++ more) moment at ≤ fetched_by back asked rules moment at
  fewer_fetched [] = omega arith
  fewer_fetched (t ∷ at) =
      sum_fewer (passes (rules ++ more)) (passes rules) weaker
      (λ (one : Names × Samples). span_bound (window_edge moment.closed back (moment_of asked moment t.0)) (moment_of asked moment (last_instant t at).0) one.1) sorted

  pub fewer : (at : List Ms) → IsAtMost (selector_bound back asked (rules ++ more) moment at) (selector_bound back asked rules moment at)
  fewer at = record {
    fetched = fewer_fetched at;
    probed = fewer_times (length (passing asked.samples asked.kept (rules ++ more))) (length (passing asked.samples asked.kept rules)) (length_fewer (passes (rules ++ more)) (passes rules) weaker sorted);
  }

pub ranges_cost : RangesCostAsSelectors
ranges_cost asked p rules moment range e at =
    let most = selector_bound range.0 asked rules moment at in
    at_bound most most (plan_bound asked p at) (ranges asked p rules moment range at e) (same_least most most refl)

pub filters_cost : FiltersCostNoMore
filters_cost asked p base rules more moment range e most at =
    at_bound (selector_bound range.0 asked (rules ++ more) moment at) (plan_bound asked base at) (plan_bound asked p at) (over asked base p at (of_filter more e))
    (then_least (selector_bound range.0 asked (rules ++ more) moment at) (selector_bound range.0 asked rules moment at) (plan_bound asked base at) (fewer range.0 asked rules more moment at) (most at))
