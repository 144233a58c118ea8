-- Range selectors of plans within the limits, whose patterns are kept, here or at engines.
use Rattle.std.proofs.Common.{◌≡◌, ◌∙◌, ℕ, List, [], ◌∷◌, ◌++◌, Option, None, Some, Bool, ap, sym, subst, refl, true, false}
use Rattle.std.specs.List.{AllByRecursion}
use Rattle.std.specs.Prelude.{◌&&◌, IfSome, IsTrue, is_some, ⊤}
use Rattle.frac_text.specs.Times.{time_limit}
use Rattle.holders.specs.Joins.{back_of, both_of, front_of}
use Rattle.label_set.specs.declared.rules.Rule.{Rule}
use Rattle.logical_plan.specs.Lowering.{planned}
use Rattle.logical_plan.specs.PlanFolds.{at_node, by_node, of, of-Filter, of-Gather, of-Range}
use Rattle.logical_plan.specs.Validity.{Measure, measured, node_measure}
use Rattle.logical_plan.specs.declared.nodes.Plan.{Plan}
use Rattle.logical_plan.specs.declared.nodes.PlanNode.{PlanNode}
use Rattle.logical_plan.specs.declared.nodes.PlanNode.TheVariants as node
use Rattle.logical_plan.specs.declared.nodes.PlanNode.TheOpen.{PlanNode-F}
use Rattle.logical_plan.specs.declared.nodes.PlanNode.TheViews.{out-PlanNode, outs-Filter, outs-Gather, outs-Range, roll-PlanNode, roll-out-PlanNode}
use Rattle.logical_plan.specs.declared.nodes.PlanNode.TheFolds.{map-PlanNode}
use Rattle.match_rule.specs.Patterns.{HasItsPattern, HaveTheirPatterns}
use Rattle.op_labels.specs.Rules.{Kept}
use Rattle.plan_parts.specs.Courses.{IsLength, IsMomentWithin}
use Rattle.plan_serving.specs.Asking.{RangeAsked, asked_range, asked_rules, is_range_part, is_rising, is_served_part}
use Rattle.plan_serving.specs.Serving.{Serving, node_ranges, node_serving_over as node_serving, serving_over as serving}
use Rattle.promql_ast.specs.Parts.{IsWithin, Part}
use Rattle.promql_ast.specs.declared.tree.Expr.{Expr}
use Rattle.promql_ast.specs.declared.tree.Moment.{Moment}
use Rattle.step_table.specs.declared.cells.PartKind.{PartKind}
use Rattle.ticks.specs.Durations.{hundred_years}
use Rattle.ticks.specs.declared.moment.Ms.{Ms}
use Rattle.window_parts.specs.Engines.{IsGatheringWithin, with_rules}
use Rattle.window_parts.specs.Over.{IsRangePlan}
use Rattle.window_parts.specs.declared.asked.Gathering.{Gathering}
use Rattle.window_parts.proofs.Askable.{range_parts as parted, range_rules as ruled}

rolled_range : (rules : List Rule) (moment : Moment) (range : Ms) → roll-PlanNode (PlanNode-F.Range rules moment range) ≡ node.Range rules moment range
rolled_range rules moment range =
    let out : out-PlanNode (node.Range rules moment range) ≡ PlanNode-F.Range rules moment range = rw outs-Range refl in
    ap roll-PlanNode (sym out) ∙ roll-out-PlanNode (node.Range rules moment range)

rolled_filter : (base : Plan) (rules : List Rule) → roll-PlanNode (PlanNode-F.Filter base rules) ≡ node.Filter base rules
rolled_filter base rules =
    let out : out-PlanNode (node.Filter base rules) ≡ PlanNode-F.Filter base rules = rw outs-Filter refl in
    ap roll-PlanNode (sym out) ∙ roll-out-PlanNode (node.Filter base rules)

rolled_gather : (expr : Expr) (kind : PartKind) (engines : List ℕ) → roll-PlanNode (PlanNode-F.Gather expr kind engines) ≡ node.Gather expr kind engines
rolled_gather expr kind engines =
    let out : out-PlanNode (node.Gather expr kind engines) ≡ PlanNode-F.Gather expr kind engines = rw outs-Gather refl in
    ap roll-PlanNode (sym out) ∙ roll-out-PlanNode (node.Gather expr kind engines)

left_true : (a b : Bool) → (a && b) ≡ true → a ≡ true
left_true true b h = refl
left_true false b h = h

right_true : (a b : Bool) → (a && b) ≡ true → b ≡ true
right_true true b h = h
right_true false b h = absurd (cc)

abbrev serving_node : PlanNode-F Serving Serving → Serving
serving_node = node_serving

abbrev Fits : Part → Type 0
Fits = IsWithin (λ rules. ⊤) hundred_years time_limit

module _ (kept : Kept) where
  abbrev IsKept : Rule → Type 0
  IsKept rule = HasItsPattern kept rule.kind

  module _ (p : Plan) (rules : List Rule) (moment : Moment) (range : Ms) (e : p.node ≡ node.Range rules moment range) (is : IsRangePlan kept p) where
    range_parts : AllByRecursion Fits (Part.of_rules rules ∷ Part.of_moment moment ∷ Part.of_length range ∷ [])
    range_parts =
        subst (λ (m : Measure). AllByRecursion Fits m.parts)
        (ap (λ (m : PlanNode). measured (planned p.at m)) e ∙ of-Range node_measure (λ q. q.node q.at) p.at rules moment range) is.within

    pub range_rules : HaveTheirPatterns kept rules
    range_rules =
        front_of IsKept rules []
        (subst (λ (s : Serving). HaveTheirPatterns kept s.rules)
        (ap (λ (m : PlanNode). serving (planned p.at m)) e ∙ of-Range node_serving (λ q. q.node) p.at rules moment range) is.rules)

    pub range_limits : IsMomentWithin moment × IsLength range
    range_limits = (range_parts.1.0, range_parts.1.1.0)

  module _ (p base : Plan) (more : List Rule) (e : p.node ≡ node.Filter base more) (is : IsRangePlan kept p) where
    serving_is : serving p ≡ serving_node (PlanNode-F.Filter (serving base) more)
    serving_is = ap (λ (m : PlanNode). serving (planned p.at m)) e ∙ of-Filter node_serving (λ q. q.node) p.at base more

    pub filter_rules : HaveTheirPatterns kept more
    filter_rules = front_of IsKept more _ (subst (λ (s : Serving). HaveTheirPatterns kept s.rules) serving_is is.rules)

    pub filter_base : IsRangePlan kept base
    filter_base = record {
      served = left_true (serving base).served true (subst (λ (s : Serving). s.served ≡ true) serving_is is.served);
      ranges = subst (λ (s : Serving). s.ranges ≡ true) serving_is is.ranges;
      rules = front_of IsKept (serving base).rules [] (back_of IsKept more _ (subst (λ (s : Serving). HaveTheirPatterns kept s.rules) serving_is is.rules));
      within = front_of Fits (measured base).parts []
          (subst (λ (m : Measure). AllByRecursion Fits m.parts)
          (ap (λ (m : PlanNode). measured (planned p.at m)) e ∙ of-Filter node_measure (λ q. q.node q.at) p.at base more) is.within);
    }

  -- ---- windows that engines are asked for

  module _ (p : Plan) (expr : Expr) (kind : PartKind) (engines : List ℕ) (e : p.node ≡ node.Gather expr kind engines) (is : IsRangePlan kept p) where
    gather_is : serving p ≡ serving_node (PlanNode-F.Gather expr kind engines)
    gather_is = ap (λ (m : PlanNode). serving (planned p.at m)) e ∙ of-Gather node_serving (λ q. q.node) p.at expr kind engines

    pub gather_range : (a : RangeAsked) × (asked_range kind expr ≡ Some a)
    gather_range = there (asked_range kind expr) (subst (λ (s : Serving). s.ranges ≡ true) gather_is is.ranges)
      where
        there : (o : Option RangeAsked) → is_some o ≡ true → (a : RangeAsked) × (o ≡ Some a)
        there None h = absurd (cc)
        there (Some a) h = (a, refl)

    pub gather_rising : IsTrue (is_rising engines)
    gather_rising =
        let own = left_true (is_served_part kind expr && is_rising engines) true (subst (λ (s : Serving). s.served ≡ true) gather_is is.served) in
        right_true (is_served_part kind expr) (is_rising engines) own

    module _ (a : RangeAsked) (asks : asked_range kind expr ≡ Some a) where
      pub gather_rules : HaveTheirPatterns kept a.selector.rules
      gather_rules =
          subst (HaveTheirPatterns kept) (ruled kind expr a asks)
          (front_of IsKept (asked_rules kind expr) [] (subst (λ (s : Serving). HaveTheirPatterns kept s.rules) gather_is is.rules))

      gather_parts : AllByRecursion Fits (Part.of_rules a.selector.rules ∷ Part.of_moment a.selector.moment ∷ Part.of_length a.range ∷ [])
      gather_parts =
          subst (λ (parts : List Part). AllByRecursion Fits (parts ++ [])) (parted kind expr a asks)
          (subst (λ (m : Measure). AllByRecursion Fits m.parts)
          (ap (λ (m : PlanNode). measured (planned p.at m)) e ∙ of-Gather node_measure (λ q. q.node q.at) p.at expr kind engines) is.within)

      pub gather_limits : IsMomentWithin a.selector.moment × IsLength a.range
      gather_limits = (gather_parts.1.0, gather_parts.1.1.0)

  -- the rules of all filters
  pub rules_with : (own : Option (List Rule)) (more : List Rule) → IfSome own (HaveTheirPatterns kept) → HaveTheirPatterns kept more → HaveTheirPatterns kept (with_rules own more)
  rules_with None more h k = k
  rules_with (Some rules) more h k = both_of IsKept rules more h k

  -- such a part without filters, and with one filter more
  pub within_bare : (g : Gathering) (a : RangeAsked) → asked_range g.part.kind g.part.expr ≡ Some a → IsTrue (is_rising g.asked) → HaveTheirPatterns kept a.selector.rules → g.rules ≡ None → IsMomentWithin a.selector.moment → IsLength a.range
      → IsGatheringWithin kept g
  within_bare g a asks rising rules none timed long =
      record { asked = a; asks = asks; rising = rising; rules = rules; passing = subst (λ (o : Option (List Rule)). IfSome o (HaveTheirPatterns kept)) (sym none) tt; timed = timed; long = long }

  pub within_filter : (below g : Gathering) (more : List Rule) → g.part ≡ below.part → g.asked ≡ below.asked → g.rules ≡ Some (with_rules below.rules more) → HaveTheirPatterns kept more → IsGatheringWithin kept below → IsGatheringWithin kept g
  within_filter below g more part_is asked_is rules_are k w = record {
    asked = w.asked;
    asks = (λ j. asked_range (part_is j).kind (part_is j).expr) ∙ w.asks;
    rising = subst (λ (numbers : List ℕ). IsTrue (is_rising numbers)) (sym asked_is) w.rising;
    rules = w.rules;
    passing = subst (λ (o : Option (List Rule)). IfSome o (HaveTheirPatterns kept)) (sym rules_are) (rules_with below.rules more w.passing k);
    timed = w.timed;
    long = w.long;
  }

  -- ---- other plans

  -- only ranges, filters and what engines are asked for give the windows of range selectors
  pub no_range : (p : Plan) → ((rules : List Rule) (moment : Moment) (range : Ms) → p.node ≡ node.Range rules moment range → ⊥)
      → ((base : Plan) (rules : List Rule) → p.node ≡ node.Filter base rules → ⊥) → ((expr : Expr) (kind : PartKind) (engines : List ℕ) → p.node ≡ node.Gather expr kind engines → ⊥) → IsRangePlan kept p → ⊥
  no_range p not_range not_filter not_gather is =
      let off : (serving p).ranges ≡ false = ap (λ (s : Serving). s.ranges) (by_node node_serving (λ q. q.node) p)
      ∙ by (out-PlanNode p.node) (λ rules moment range e. not_range rules moment range (sym (roll-out-PlanNode p.node) ∙ e)) (λ base rules e. not_filter base rules (sym (roll-out-PlanNode p.node) ∙ e))
      (λ expr kind engines e. not_gather expr kind engines (sym (roll-out-PlanNode p.node) ∙ e)) in
      let none : false ≡ true = sym off ∙ is.ranges in absurd (cc)
    where
      by : (y : PlanNode-F PlanNode Plan) → ((rules : List Rule) (moment : Moment) (range : Ms) → roll-PlanNode y ≡ node.Range rules moment range → ⊥)
          → ((base : Plan) (rules : List Rule) → roll-PlanNode y ≡ node.Filter base rules → ⊥) → ((expr : Expr) (kind : PartKind) (engines : List ℕ) → roll-PlanNode y ≡ node.Gather expr kind engines → ⊥)
          → node_ranges (map-PlanNode PlanNode Plan Serving Serving (at_node node_serving (λ q. q.node)) (of node_serving (λ q. q.node)) y) ≡ false
      by (PlanNode-F.Range rules moment range) h k l = absurd (h rules moment range (rolled_range rules moment range))
      by (PlanNode-F.Filter base rules) h k l = absurd (k base rules (rolled_filter base rules))
      by (PlanNode-F.Gather expr kind engines) h k l = absurd (l expr kind engines (rolled_gather expr kind engines))
      by y h k l = refl
