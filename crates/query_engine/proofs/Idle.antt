-- Over a store without series a plan costs nothing, and none of its selectors looks at a series.
use Rattle.std.proofs.Common.{◌≡◌, ◌∙◌, ◌+◌, ◌≤◌, ℕ, List, [], ◌∷◌, ◌++◌, length, map, Option, None, Some, ap, ap₂, arith, refl, sym, subst}
use Rattle.std.specs.Prelude.{ℤ}
use Rattle.std.specs.List.{fold}
use Rattle.label_set.specs.declared.rules.Rule.{Rule}
use Rattle.logical_plan.specs.declared.nodes.Plan.{Plan}
use Rattle.logical_plan.specs.declared.nodes.PlanNode.{PlanNode}
use Rattle.logical_plan.specs.declared.nodes.PlanNode.TheOpen.{PlanNode-F}
use Rattle.logical_plan.specs.declared.nodes.PlanNode.TheViews.{roll-PlanNode, roll-Plan}
use Rattle.logical_plan.specs.declared.nodes.PlanNode.TheFolds.{map-PlanNode, fold-PlanNode, fold-roll-PlanNode, fold-roll-Plan, ind-Plan}
use Rattle.plan_bases.specs.Bases.{Kept}
use Rattle.plan_bases.specs.Leaves.{leaves_of}
use Rattle.plan_bases.specs.Looks.{distinct_behind, filter_tests, filters_test, leaf_tests, plan_looks}
use Rattle.plan_bases.specs.declared.leaves.Leaf.{Leaf}
use Rattle.plan_tree.specs.Spending.{Cost, both, nothing}
use Rattle.plan_work.specs.Measures.{all_of, node_measure}
use Rattle.plan_work.specs.PlanBounds.{Bounding, costs, first_alone, inner_times, plan_bound, selector_bound}
use Rattle.promql_ast.specs.declared.tree.Moment.{Moment}
use Rattle.promql_meaning.specs.Results.{grid_times}
use Rattle.promql_meaning.specs.Selecting.{AllSeries, Asked, asked_over, lookback}
use Rattle.sample_store.specs.Samples.{Pair, asked as asked_pair, fewer, fewest, looked_at, numbers_with}
use Rattle.ticks.specs.Works.{Counts}
use Rattle.ticks.specs.declared.grid.Grid.{Grid}
use Rattle.ticks.specs.declared.moment.Ms.{Ms}
use Rattle.query_engine.specs.Bounds.{SpendsAtMost}
use Rattle.query_engine.specs.Engines.{DoNotRise}

-- ---- what is looked at

fewer_none : (count : Pair → ℕ) (o : Option Pair) → fewer count 0 o ≡ 0
fewer_none count None = refl
fewer_none count (Some pair) = omega arith

fewest_none : (count : Pair → ℕ) (rules : List Rule) (most : ℕ) → most ≡ 0 → fewest count most rules ≡ 0
fewest_none count [] most e = e
fewest_none count (rule ∷ rules) most e =
    fewest_none count rules (fewer count most (asked_pair rule)) (ap (λ (n : ℕ). fewer count n (asked_pair rule)) e ∙ fewer_none count (asked_pair rule))

looks_none : (rules : List Rule) → looked_at rules [] ≡ 0
looks_none rules = fewest_none (λ (pair : Pair). length (numbers_with pair 0 [])) rules 0 refl

sum_none : {X : Type 0} (f : X → ℕ) → ((x : X) → f x ≡ 0) → (xs : List X) (a : ℕ) → fold (λ n x. n + f x) a xs ≡ a
sum_none f none [] a = refl
sum_none f none (x ∷ xs) a =
    sum_none f none xs (a + f x) ∙ (let e : f x ≡ 0 = none x in omega (arith, e))

module _ (kept : Kept) where
  tests_none : (under more : List Rule) → filter_tests kept [] under more ≡ 0
  tests_none under more = let z : looked_at (under ++ more) [] ≡ 0 = looks_none (under ++ more) in omega (arith, z)

  filters_none : (under : List Rule) (filters : List (List Rule)) → filters_test kept [] under filters ≡ 0
  filters_none under [] = refl
  filters_none under (more ∷ filters) = ap₂ (λ (a b : ℕ). a + b) (tests_none under more) (filters_none (under ++ more) filters)

  pub plan_looks_none : (p : Plan) → plan_looks kept [] p ≡ 0
  plan_looks_none p =
      ap₂ (λ (a b : ℕ). a + b) (sum_none (λ (rules : List Rule). looked_at rules []) looks_none (distinct_behind [] (map (λ (leaf : Leaf). leaf.base) (leaves_of p))) 0)
      (sum_none (leaf_tests kept []) (λ leaf. filters_none leaf.base leaf.filters) (leaves_of p) 0)

-- ---- what is read

module _ (kept : Kept) (grid : Grid) where
  abbrev bare : Asked
  bare = asked_over [] kept grid

  abbrev step : PlanNode-F Bounding Bounding → Bounding
  step = node_measure (costs bare)

  abbrev bound_in : PlanNode → Bounding
  bound_in = fold-PlanNode Bounding Bounding step (λ p. p.node)

  abbrev IsNothing : Bounding → Type 0
  IsNothing bound = (at : List Ms) → bound at ≡ nothing

  abbrev IsFree : Plan → Type 0
  IsFree p = IsNothing (plan_bound bare p)

  abbrev IsFreeNode : PlanNode → Type 0
  IsFreeNode n = IsNothing (bound_in n)

  abbrev Child : Type 0
  Child = (p : Plan) × IsFree p

  abbrev Layer : Type 0
  Layer = PlanNode-F ((n : PlanNode) × IsFreeNode n) Child

  abbrev plans : Layer → PlanNode-F PlanNode Plan
  plans = map-PlanNode ((n : PlanNode) × IsFreeNode n) Child PlanNode Plan (λ n. n.0) (λ p. p.0)

  abbrev bounds : Layer → PlanNode-F Bounding Bounding
  bounds y = map-PlanNode PlanNode Plan Bounding Bounding bound_in (plan_bound bare) (plans y)

  abbrev bounds_of : List Child → List Bounding
  bounds_of ps = map (plan_bound bare) (map (λ (p : Child). p.0) ps)

  selector_none : (back : ℤ) (rules : List Rule) (moment : Moment) → IsNothing (selector_bound back bare rules moment)
  selector_none back rules moment [] = refl
  selector_none back rules moment (t ∷ at) = refl

  two : (a b : Bounding) → IsNothing a → IsNothing b → IsNothing (λ at. both (a at) (b at))
  two a b f g at = ap₂ both (f at) (g at)

  below : (ps : List Child) → IsNothing (all_of (costs bare) (bounds_of ps))
  below [] at = refl
  below (p ∷ ps) at = two (plan_bound bare p.0) (all_of (costs bare) (bounds_of ps)) p.1 (below ps) at

  pair : (p q : Child) → IsNothing (λ at. both (plan_bound bare p.0 at) (plan_bound bare q.0 at))
  pair p q = two (plan_bound bare p.0) (plan_bound bare q.0) p.1 q.1

  level : (y : Layer) → IsNothing (step (bounds y))
  level (PlanNode-F.Number value) at = refl
  level PlanNode-F.Time at = refl
  level (PlanNode-F.Select rules moment stamped) at = selector_none lookback rules moment at
  level (PlanNode-F.Range rules moment range) at = selector_none range.0 rules moment at
  level (PlanNode-F.Subquery p range step moment) at = p.1 (inner_times bare moment range step at)
  level (PlanNode-F.Element f p ps) at = below (p ∷ ps) at
  level (PlanNode-F.Stamp p) at = p.1 at
  level (PlanNode-F.Window f p ps) at = below (p ∷ ps) at
  level (PlanNode-F.Absent labels p) at = p.1 at
  level (PlanNode-F.Buckets p q) at = pair p q at
  level (PlanNode-F.Relabel rule p) at = p.1 at
  level (PlanNode-F.Sort down p) at = p.1 at
  level (PlanNode-F.ScalarOf p) at = p.1 at
  level (PlanNode-F.VectorOf p) at = p.1 at
  level (PlanNode-F.Group f by ps label) at = below ps at
  level (PlanNode-F.Pair op p q pairing) at = pair p q at
  level (PlanNode-F.Set op p q pairing) at = pair p q at
  level (PlanNode-F.Filter p rules) at = p.1 at
  level (PlanNode-F.Ratio p q) at = pair p q at
  level (PlanNode-F.Once p) at = p.1 (first_alone at)
  level (PlanNode-F.Gather expr kind engines) at = refl

  node_free : (y : Layer) → IsFreeNode (roll-PlanNode (plans y))
  node_free y = subst IsNothing (sym (fold-roll-PlanNode Bounding Bounding step (λ p. p.node) (plans y))) (level y)

  plan_free : (at : ℕ) (n : PlanNode) → IsFreeNode n → IsFree (roll-Plan (record { at = at; node = n }))
  plan_free at n free = subst IsNothing (sym (fold-roll-Plan Bounding Bounding step (λ p. p.node) (record { at = at; node = n }))) free

  pub all_free : (p : Plan) → IsFree p
  all_free = ind-Plan IsFreeNode IsFree
      (λ x y is. subst (λ z. IsFreeNode (roll-PlanNode z)) is (node_free y))
      (λ x y is. subst (λ z. IsFree (roll-Plan z)) is (plan_free y.at y.node.0 y.node.1))

-- ---- counters

not_more : (before after most : ℕ) → most ≡ 0 → after ≤ before + most → after ≤ before
not_more before after most none more = omega (arith, none, more)

pub stays_idle : (store : AllSeries) (kept : Kept) (grid : Grid) (p : Plan) (before after : Counts) → store ≡ [] → SpendsAtMost (asked_over store kept grid) grid p before after → DoNotRise before after
stays_idle store kept grid p before after empty spends =
    let s = subst (λ (series : AllSeries). SpendsAtMost (asked_over series kept grid) grid p before after) empty spends in
    let free = all_free kept grid p (grid_times grid) in
    record {
      fetched = not_more before.fetched after.fetched (plan_bound (asked_over [] kept grid) p (grid_times grid)).fetched (ap (λ (c : Cost). c.fetched) free) s.fetched;
      probed = not_more before.probed after.probed (plan_bound (asked_over [] kept grid) p (grid_times grid)).probed (ap (λ (c : Cost). c.probed) free) s.probed;
      tested = not_more before.tested after.tested (plan_looks kept [] p) (plan_looks_none kept p) s.tested;
    }

pub idle_still : (now : Counts) → DoNotRise now now
idle_still now = record { fetched = omega arith; probed = omega arith; tested = omega arith }
