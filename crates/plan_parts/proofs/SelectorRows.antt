-- Selectors, and filters over them.
use Rattle.std.proofs.Common.{◌≡◌, ◌∙◌, ◌<◌, ◌≤◌, Bool, true, false, List, [], ◌∷◌, ◌++◌, refl, sym, ap, subst, arith, true≢false}
use Rattle.std.specs.Prelude.{ℕ, ℤ, ⊤, Option, None, Some, IfSome, is_some}
use Rattle.std.specs.Borrow.{Bor}
use Rattle.std.specs.List.{AllByRecursion}
use Rattle.std.specs.Option.{option_map}
use Rattle.frac_text.specs.Times.{time_limit}
use Rattle.holders.specs.Joins.{back_of, both_of, front_of}
use Rattle.label_set.specs.declared.rules.Rule.{Rule}
use Rattle.logical_plan.specs.Lowering.{planned}
use Rattle.logical_plan.specs.PlanFolds.{of-Filter, of-Select}
use Rattle.logical_plan.specs.PlanMeaning.{Meant, node_meant, plain, plan_meaning, plan_meant}
use Rattle.logical_plan.specs.PlanRules.{filtered, newest_of, selector_of}
use Rattle.logical_plan.specs.Validity.{Measure, measured, node_measure}
use Rattle.logical_plan.specs.declared.nodes.Plan.{Plan}
use Rattle.logical_plan.specs.declared.nodes.PlanNode.{PlanNode}
use Rattle.logical_plan.specs.declared.nodes.PlanNode.TheVariants as node
use Rattle.logical_plan.specs.declared.nodes.PlanNode.TheOpen.{PlanNode-F}
use Rattle.match_rule.specs.Patterns.{HasItsPattern, HaveTheirPatterns}
use Rattle.op_labels.specs.Rules.{Kept}
use Rattle.plan_serving.specs.Serving.{Serving, node_serving_over as node_serving, serving_over as serving}
use Rattle.plan_tree.specs.Shapes.{Shape}
use Rattle.plan_tree.specs.Spending.{Cost, IsAtMost}
use Rattle.plan_work.specs.Measures.{node_measure as cost_of_node}
use Rattle.plan_work.specs.PlanBounds.{Bounding, costs, plan_bound, selector_bound}
use Rattle.plan_work.specs.PlanLaws.{CostsAtMost, FiltersCostNoMore}
use Rattle.plan_work.specs.TreeBounds.{StaysWithin}
use Rattle.promql_ast.specs.Parts.{AreWithin, IsWithin, Part}
use Rattle.promql_ast.specs.declared.tree.Moment.{Moment}
use Rattle.promql_meaning.specs.Filters.{MoreRulesFilterRows}
use Rattle.promql_meaning.specs.Givens.{no_marks}
use Rattle.promql_meaning.specs.Selecting.{Asked, lookback, moment_of, selected}
use Rattle.promql_meaning.specs.declared.given.Given.TheVariants as given
use Rattle.step_table.specs.Sets.{step_of_rows}
use Rattle.step_table.specs.declared.step.Row.{Row}
use Rattle.step_table.specs.declared.step.Step.{Step}
use Rattle.ticks.specs.Durations.{hundred_years}
use Rattle.ticks.specs.declared.moment.Ms.{Ms}
use Rattle.ticks.specs.declared.walk.Walk.{Walk}
use Rattle.plan_parts.specs.Courses.{IsMomentWithin}
use Rattle.plan_parts.specs.Gives.{Gives}
use Rattle.plan_parts.specs.Parts.{IsReadable, IsSelectorOf}

pub some_at : {X : Type 0} (P : X → Type 0) (o : Option X) (x : X) → o ≡ Some x → IfSome o P → P x
some_at P o x e h = subst (λ z. IfSome z P) e h

-- ---- series that were found

pub found_is : (o : Option (Bor (List ℕ))) (s : Bor (List ℕ)) (there : Option (List ℕ)) → o ≡ Some s → option_map (λ (b : Bor (List ℕ)). b.now) o ≡ there → there ≡ Some s.now
found_is o s there e f = sym f ∙ ap (option_map (λ (b : Bor (List ℕ)). b.now)) e

pub not_found : (o : Option (Bor (List ℕ))) (there : Option (List ℕ)) → o ≡ None → option_map (λ (b : Bor (List ℕ)). b.now) o ≡ there → is_some there ≡ true → ⊥
not_found o there e f h = true≢false (sym h ∙ ap is_some (sym f ∙ ap (option_map (λ (b : Bor (List ℕ)). b.now)) e))

-- ---- what a selector gives and costs

module _ (asked : Asked) where
  abbrev M : Plan → Meant
  M = plan_meant asked

  abbrev there : (p : Plan) (n : PlanNode) → p.node ≡ n → M p ≡ M (planned p.at n)
  there p n e = ap (λ (m : PlanNode). M (planned p.at m)) e

  abbrev select_at : Plan → List Rule → Moment → Bool → Plan
  select_at p rules moment stamped = planned p.at (node.Select rules moment stamped)

  select_meant : (p : Plan) (rules : List Rule) (moment : Moment) (stamped : Bool) → M (select_at p rules moment stamped) ≡ node_meant asked (PlanNode-F.Select rules moment stamped)
  select_meant p rules moment stamped = of-Select (node_meant asked) (λ q. q.node) p.at rules moment stamped

  select_cost : (p : Plan) (rules : List Rule) (moment : Moment) (stamped : Bool) → plan_bound asked (select_at p rules moment stamped) ≡ selector_bound lookback asked rules moment
  select_cost p rules moment stamped = of-Select (cost_of_node (costs asked)) (λ q. q.node) p.at rules moment stamped

  same_cost : (a b : Cost) → a ≡ b → IsAtMost a b
  same_cost a b e =
      let fetched = ap (λ (c : Cost). c.fetched) e in
      let probed = ap (λ (c : Cost). c.probed) e in
      record { fetched = omega (arith, fetched); probed = omega (arith, probed) }

  at_most_all : (a b c : Cost) → IsAtMost a b → IsAtMost b c → IsAtMost a c
  at_most_all a b c h k =
      let f = h.fetched in
      let g = k.fetched in
      let p = h.probed in
      let q = k.probed in
      record { fetched = omega (arith, f, g); probed = omega (arith, p, q) }

  pub select_is_selector : (p : Plan) (rules : List Rule) (moment : Moment) (stamped : Bool) → p.node ≡ node.Select rules moment stamped → IsSelectorOf asked p rules moment stamped
  select_is_selector p rules moment stamped e =
      let cost : plan_bound asked p ≡ selector_bound lookback asked rules moment = ap (λ (m : PlanNode). plan_bound asked (planned p.at m)) e ∙ select_cost p rules moment stamped in
      record {
        own = ap (λ (m : Meant). m.own) (there p (node.Select rules moment stamped) e ∙ select_meant p rules moment stamped);
        gives = λ t. ap (λ (m : Meant). m.gives t) (there p (node.Select rules moment stamped) e);
        within = λ at. same_cost (selector_bound lookback asked rules moment at) (plan_bound asked p at) (sym (ap (λ (bound : Bounding). bound at) cost));
      }

  pub filter_is_selector : MoreRulesFilterRows → FiltersCostNoMore → (p base : Plan) (rules more : List Rule) (moment : Moment) → p.node ≡ node.Filter base more
      → IsSelectorOf asked base rules moment false → IsSelectorOf asked p (rules ++ more) moment false
  filter_is_selector law fewer p base rules more moment e below =
      let same : M p ≡ plain (λ t. filtered asked.kept more ((M base).gives t)) = there p (node.Filter base more) e ∙ of-Filter (node_meant asked) (λ q. q.node) p.at base more in
      record {
        own = ap (λ (m : Meant). m.own) same;
        gives = λ t. ap (λ (m : Meant). m.gives t) same
            ∙ ap (filtered asked.kept more) (below.gives t ∙ ap (λ (m : Meant). m.gives t) (select_meant base rules moment false))
            ∙ ap (λ (rows : List Row). given.Vector (step_of_rows rows no_marks)) (sym (law asked.samples asked.kept rules more moment.closed (moment_of asked moment t)))
            ∙ sym (ap (λ (m : Meant). m.gives t) (select_meant p (rules ++ more) moment false));
        within = fewer asked p base rules more moment (record { 0 = lookback }) e below.within;
      }

  -- what gives the rows of a selector and costs no less
  pub leaf_gives : (On : ℤ → Type 0) (p : Plan) (rules : List Rule) (moment : Moment) (stamped : Bool) (f : ℤ → Step) → IsSelectorOf asked p rules moment stamped
      → Gives asked On (select_at p rules moment stamped) false stamped f → Gives asked On p false stamped f
  leaf_gives On p rules moment stamped f s g = record { stamped = s.own; gives = λ t on. s.gives t ∙ g.gives t on }

  pub leaf_stays : (walk : Walk) (p : Plan) (rules : List Rule) (moment : Moment) (stamped : Bool) (shape : Shape) → IsSelectorOf asked p rules moment stamped
      → StaysWithin asked walk (select_at p rules moment stamped) shape → StaysWithin asked walk p shape
  leaf_stays walk p rules moment stamped shape s stays = λ at listed.
      let w = stays at listed in
      let bound : plan_bound asked (select_at p rules moment stamped) at ≡ selector_bound lookback asked rules moment at = ap (λ (b : Bounding). b at) (select_cost p rules moment stamped) in
      record {
        cost = w.cost;
        of = w.of;
        within = at_most_all w.cost (selector_bound lookback asked rules moment at) (plan_bound asked p at) (subst (IsAtMost w.cost) bound w.within) (s.within at);
      }

-- ---- depths, limits and patterns

pub select_deep : (p : Plan) (rules : List Rule) (moment : Moment) (stamped : Bool) → p.node ≡ node.Select rules moment stamped → 0 < (measured p).depth
select_deep p rules moment stamped e =
    let deep = ap (λ (m : Measure). m.depth) (ap (λ (m : PlanNode). measured (planned p.at m)) e ∙ of-Select node_measure (λ q. q.node q.at) p.at rules moment stamped) in omega (arith, deep)

pub filter_deep : (p base : Plan) (more : List Rule) → p.node ≡ node.Filter base more → 0 < (measured base).depth → 0 < (measured p).depth
filter_deep p base more e deep =
    let same = ap (λ (m : Measure). m.depth) (ap (λ (m : PlanNode). measured (planned p.at m)) e ∙ of-Filter node_measure (λ q. q.node q.at) p.at base more) in omega (arith, same, deep)

abbrev serving_node : PlanNode-F Serving Serving → Serving
serving_node = node_serving

abbrev measure_node : PlanNode-F (ℕ → Measure) Measure → ℕ → Measure
measure_node = node_measure

abbrev Fits : Part → Type 0
Fits = IsWithin (λ rules. ⊤) hundred_years time_limit

abbrev pub Within : Plan → Type 0
Within p = AreWithin (λ rules. ⊤) hundred_years time_limit (measured p).parts

module _ (kept : Kept) where
  abbrev HasPattern : Rule → Type 0
  HasPattern rule = HasItsPattern kept rule.kind

  pub select_readable : (p : Plan) (rules : List Rule) (moment : Moment) (stamped : Bool) → p.node ≡ node.Select rules moment stamped → HaveTheirPatterns kept (serving p).rules → Within p → IsReadable kept rules moment
  select_readable p rules moment stamped e have within = (
    front_of HasPattern rules [] (subst (λ (s : Serving). HaveTheirPatterns kept s.rules)
        (ap (λ (m : PlanNode). serving (planned p.at m)) e ∙ of-Select node_serving (λ q. q.node) p.at rules moment stamped) have),
    (subst (λ (m : Measure). AllByRecursion Fits m.parts)
        (ap (λ (m : PlanNode). measured (planned p.at m)) e ∙ of-Select node_measure (λ q. q.node q.at) p.at rules moment stamped) within).1.0,
  )

  module _ (p base : Plan) (more : List Rule) (e : p.node ≡ node.Filter base more) where
    rules_are : serving p ≡ serving_node (PlanNode-F.Filter (serving base) more)
    rules_are = ap (λ (m : PlanNode). serving (planned p.at m)) e ∙ of-Filter node_serving (λ q. q.node) p.at base more

    parts_are : measured p ≡ measure_node (PlanNode-F.Filter (measured base) more) p.at
    parts_are = ap (λ (m : PlanNode). measured (planned p.at m)) e ∙ of-Filter node_measure (λ q. q.node q.at) p.at base more

    pub base_patterns : HaveTheirPatterns kept (serving p).rules → HaveTheirPatterns kept (serving base).rules
    base_patterns have = front_of HasPattern (serving base).rules [] (back_of HasPattern more _ (subst (λ (s : Serving). HaveTheirPatterns kept s.rules) rules_are have))

    pub base_within : Within p → Within base
    base_within within = front_of Fits (measured base).parts [] (subst (λ (m : Measure). AllByRecursion Fits m.parts) parts_are within)

    pub filter_readable : (rules : List Rule) (moment : Moment) → HaveTheirPatterns kept (serving p).rules → IsReadable kept rules moment → IsReadable kept (rules ++ more) moment
    filter_readable rules moment have below = (
      both_of HasPattern rules more below.0 (front_of HasPattern more _ (subst (λ (s : Serving). HaveTheirPatterns kept s.rules) rules_are have)),
      below.1,
    )
