-- What stands below selectors and functions of windows of a plan that has a tree.
use Rattle.std.proofs.Common.{◌≡◌, ◌∙◌, ◌<◌, ◌+◌, ℕ, List, [], ◌∷◌, map, Bool, true, false, ap, refl, sym, subst, arith}
use Rattle.std.specs.Prelude.{◌||◌, ◌&&◌, ◌++◌, is_some, Option, None, Some, IsTrue}
use Rattle.std.specs.List.{AllByRecursion}
use Rattle.func_table.specs.declared.table.Window.{Window as WindowFunction}
use Rattle.holders.specs.Joins.{front_of}
use Rattle.label_set.specs.declared.rules.PatternId.{PatternId}
use Rattle.label_set.specs.declared.rules.Relabel.{Relabel as Relabelling}
use Rattle.label_set.specs.declared.rules.Relabel.TheVariants as relabel
use Rattle.label_set.specs.declared.rules.Rule.{Rule}
use Rattle.logical_plan.specs.Lowering.{planned}
use Rattle.logical_plan.specs.PlanFolds.{at_node, by_node, of-Filter, of-Gather, of-Relabel, of-Select, of-Subquery, of-Window}
use Rattle.logical_plan.specs.PlanTypes.{Typing, is_of, is_unstamped, node_typing, part_gives, typing}
use Rattle.logical_plan.specs.Validity.{Measure, deepest, measured, node_measure}
use Rattle.logical_plan.specs.declared.nodes.Plan.{Plan}
use Rattle.logical_plan.specs.declared.nodes.PlanNode.{PlanNode}
use Rattle.logical_plan.specs.declared.nodes.PlanNode.TheVariants as node
use Rattle.logical_plan.specs.declared.nodes.PlanNode.TheOpen.{PlanNode-F}
use Rattle.logical_plan.specs.declared.nodes.PlanNode.TheViews.{out-PlanNode, outs-Subquery, roll-PlanNode, roll-out-PlanNode}
use Rattle.logical_plan.specs.declared.nodes.PlanNode.TheFolds.{map-PlanNode}
use Rattle.match_rule.specs.Patterns.{HasItsPattern, HaveTheirPatterns, IsWholeId}
use Rattle.op_labels.specs.Rules.{HasPatterns, Kept}
use Rattle.promql_ast.specs.declared.tree.Expr.{Expr}
use Rattle.promql_ast.specs.Parts.{Part}
use Rattle.promql_ast.specs.declared.tree.Moment.{Moment}
use Rattle.promql_ast.specs.declared.tree.Selector.{Selector}
use Rattle.promql_type.specs.Kinds.{is_scalar}
use Rattle.promql_type.specs.declared.kind.Kind.TheVariants.{Vector}
use Rattle.step_table.specs.declared.cells.PartKind.{PartKind}
use Rattle.step_table.specs.declared.cells.PartKind.TheVariants as part
use Rattle.ticks.specs.declared.moment.Ms.{Ms}
use Rattle.plan_bases.specs.Bases.{HoldsPlan, Lists}
use Rattle.plan_parts.specs.Courses.{IsLength, IsMomentWithin}
use Rattle.plan_parts.specs.Parts.{IsChild}
use Rattle.plan_serving.specs.Asking.{asked_rules, asked_selector, is_rising, is_rows_part, is_served_part, rules_in}
use Rattle.plan_serving.specs.Serving.{Serving, all_rules, are_served, node_points, node_serving_over as node_serving, serving_over as serving}
use Rattle.window_parts.specs.Over.{IsRangePlan}
use Rattle.phys_plan.specs.Growth.{CanGrow, HasTree, IsInPlace}
use Rattle.phys_plan.proofs.Asked.{asked_parts, some_depth}
use Rattle.phys_plan.proofs.Growths.{told, typing-Gather, typing-Relabel}
use Rattle.phys_plan.proofs.InPlace.{Fits, holds_below, in_place_below, left_true, right_true}
use Rattle.phys_plan.proofs.KindsOf.{IsNumber, of_kind, vector_number}

abbrev M : Plan → Measure
M = measured

abbrev S : Plan → Serving
S = serving

abbrev measure_node : PlanNode-F (ℕ → Measure) Measure → ℕ → Measure
measure_node = node_measure

abbrev serving_node : PlanNode-F Serving Serving → Serving
serving_node = node_serving

measured_there : (p : Plan) (n : PlanNode) → p.node ≡ n → M p ≡ M (planned p.at n)
measured_there p n e = ap (λ (m : PlanNode). M (planned p.at m)) e

serving_there : (p : Plan) (n : PlanNode) → p.node ≡ n → S p ≡ S (planned p.at n)
serving_there p n e = ap (λ (m : PlanNode). S (planned p.at m)) e

rolled_subquery : (q : Plan) (range step : Ms) (moment : Moment) → roll-PlanNode (PlanNode-F.Subquery q range step moment) ≡ node.Subquery q range step moment
rolled_subquery q range step moment =
    let out : out-PlanNode (node.Subquery q range step moment) ≡ PlanNode-F.Subquery q range step moment = rw outs-Subquery refl in
    ap roll-PlanNode (sym out) ∙ roll-out-PlanNode (node.Subquery q range step moment)

-- ---- the whole plan

pub whole_grows : (kept : Kept) (lists : Lists) (p : Plan) → HoldsPlan kept lists p → HasTree kept p → CanGrow kept lists 0 p
whole_grows kept lists p holds h = record {
  placed = record {
    typed = left_true (typing p).typed (is_unstamped (typing p).select) h.valid.typed;
    within = h.valid.within;
    served = h.served;
    room = (let deep = h.valid.shallow in omega arith);
  };
  number = h.number;
  holds = holds;
}

-- ---- the selectors that engines are asked for

-- there is one where rows are asked
pub gather_selector : (kind : PartKind) (expr : Expr) → IsTrue (is_rows_part kind expr) → (s : Selector) × (asked_selector kind expr ≡ Some s)
gather_selector kind expr h = there (asked_selector kind expr) h
  where
    there : (o : Option Selector) → is_some o ≡ true → (s : Selector) × (o ≡ Some s)
    there None h = absurd (cc)
    there (Some s) h = (s, refl)

-- its rules are those of the part
selector_rules : (kind : PartKind) (expr : Expr) (s : Selector) → asked_selector kind expr ≡ Some s → asked_rules kind expr ≡ s.rules
selector_rules part.Rows expr s is = ap rules_in is
selector_rules part.Windows expr s is = absurd (cc)
selector_rules (part.Partial f by) expr s is = absurd (cc)

-- what is served and gives a scalar or a vector are rows
rows_alone : (kind : PartKind) (expr : Expr) → IsTrue (is_served_part kind expr) → IsNumber (part_gives kind) → IsTrue (is_rows_part kind expr)
rows_alone part.Rows expr h number = first (is_rows_part part.Rows expr) h
  where
    first : (b : Bool) → IsTrue (b || false) → IsTrue b
    first true k = refl
    first false k = k
rows_alone part.Windows expr h number = absurd (cc)
rows_alone (part.Partial f by) expr h number = absurd (cc)

-- they give a vector
pub gather_vector : (kind : PartKind) (expr : Expr) → IsTrue (is_rows_part kind expr) → is_scalar (part_gives kind) ≡ false
gather_vector part.Rows expr h = refl
gather_vector part.Windows expr h = absurd (cc)
gather_vector (part.Partial f by) expr h = absurd (cc)

module _ (kept : Kept) (lists : Lists) (n : ℕ) where
  abbrev Can : Plan → Type 0
  Can = CanGrow kept lists n

  -- ---- parts that engines are asked for

  pub gather_served : (p : Plan) (expr : Expr) (kind : PartKind) (engines : List ℕ) → p.node ≡ node.Gather expr kind engines → Can p → IsTrue (is_served_part kind expr) × IsTrue (is_rising engines)
  gather_served p expr kind engines e can =
      let h : ((is_served_part kind expr && is_rising engines) && true) ≡ true = subst (λ (s : Serving). s.served ≡ true) (serving_there p (node.Gather expr kind engines) e ∙ of-Gather node_serving (λ q. q.node) p.at expr kind engines) can.placed.served.windows in
      let own = left_true (is_served_part kind expr && is_rising engines) true h in
      (left_true (is_served_part kind expr) (is_rising engines) own, right_true (is_served_part kind expr) (is_rising engines) own)

  module _ (p : Plan) (expr : Expr) (kind : PartKind) (engines : List ℕ) (e : p.node ≡ node.Gather expr kind engines) (can : Can p) where
    pub gather_rows : IsTrue (is_rows_part kind expr)
    gather_rows = rows_alone kind expr (gather_served p expr kind engines e can).0 (subst (λ (t : Typing). IsNumber t.kind) (typing-Gather p expr kind engines e) can.number)

    gather_measured : M p ≡ measure_node (PlanNode-F.Gather expr kind engines) p.at
    gather_measured = measured_there p (node.Gather expr kind engines) e ∙ of-Gather node_measure (λ q. q.node q.at) p.at expr kind engines

    pub gather_few : n < deepest
    gather_few = let room = can.placed.room in let deep = ap (λ (m : Measure). m.depth) gather_measured in let some = some_depth expr in omega (arith, deep)

    pub gather_within : (s : Selector) → asked_selector kind expr ≡ Some s → IsMomentWithin s.moment
    gather_within s is =
        (subst (λ (ps : List Part). AllByRecursion Fits (ps ++ [])) (asked_parts kind expr s is) (subst (λ (m : Measure). AllByRecursion Fits m.parts) gather_measured can.placed.within)).1.0

    pub gather_kept : (s : Selector) → asked_selector kind expr ≡ Some s → HaveTheirPatterns kept s.rules
    gather_kept s is =
        front_of (λ (rule : Rule). HasItsPattern kept rule.kind) s.rules []
        (subst (λ (rules : List Rule). HaveTheirPatterns kept (rules ++ [])) (selector_rules kind expr s is)
        (subst (λ (t : Serving). HaveTheirPatterns kept t.rules) (serving_there p (node.Gather expr kind engines) e ∙ of-Gather node_serving (λ q. q.node) p.at expr kind engines) can.placed.served.rules))

  -- ---- selectors

  module _ (p : Plan) (rules : List Rule) (moment : Moment) (stamped : Bool) (e : p.node ≡ node.Select rules moment stamped) (can : Can p) where
    measured_is : M p ≡ measure_node (PlanNode-F.Select rules moment stamped) p.at
    measured_is = measured_there p (node.Select rules moment stamped) e ∙ of-Select node_measure (λ q. q.node q.at) p.at rules moment stamped

    pub select_few : n < deepest
    select_few = let room = can.placed.room in let deep = ap (λ (m : Measure). m.depth) measured_is in omega (arith, deep)

    pub select_within : IsMomentWithin moment
    select_within = (subst (λ (m : Measure). AllByRecursion Fits m.parts) measured_is can.placed.within).1.0

    pub select_kept : HaveTheirPatterns kept rules
    select_kept =
        front_of (λ (rule : Rule). HasItsPattern kept rule.kind) rules []
        (subst (λ (s : Serving). HaveTheirPatterns kept s.rules) (serving_there p (node.Select rules moment stamped) e ∙ of-Select node_serving (λ q. q.node) p.at rules moment stamped) can.placed.served.rules)

  -- ---- changes of labels

  -- of a label_replace node the pattern is kept
  pub relabel_kept : (p : Plan) (rule : Relabelling) (inner : Plan) → p.node ≡ node.Relabel rule inner → Can p → HasPatterns kept rule
  relabel_kept p (relabel.Replace target template source pattern) inner e can =
      let s = serving_there p (node.Relabel (relabel.Replace target template source pattern) inner) e ∙ of-Relabel node_serving (λ q. q.node) p.at (relabel.Replace target template source pattern) inner in
      (subst (λ (t : Serving). AllByRecursion (λ (id : PatternId). IsWholeId kept id.0) t.patterns) s can.placed.served.patterns).0
  relabel_kept p (relabel.Join target separator sources) inner e can = tt
  relabel_kept p (relabel.Filter rules) inner e can =
      let none : false ≡ true = left_true false (is_of Vector (typing inner)) (told (typing-Relabel p (relabel.Filter rules) inner e) can.placed.typed) in absurd (cc)

  pub filter_kept : (p base : Plan) (rules : List Rule) → p.node ≡ node.Filter base rules → Can p → HaveTheirPatterns kept rules
  filter_kept p base rules e can =
      front_of (λ (rule : Rule). HasItsPattern kept rule.kind) rules (all_rules (S base ∷ []))
      (subst (λ (s : Serving). HaveTheirPatterns kept s.rules) (serving_there p (node.Filter base rules) e ∙ of-Filter node_serving (λ q. q.node) p.at base rules) can.placed.served.rules)

  -- ---- functions of windows

  module _ (p : Plan) (f : WindowFunction) (inner : Plan) (arguments : List Plan) (e : p.node ≡ node.Window f inner arguments) (can : Can p) where
    pub window_few : n < deepest
    window_few =
        let room = can.placed.room in
        let deep = ap (λ (m : Measure). m.depth) (measured_there p (node.Window f inner arguments) e ∙ of-Window node_measure (λ q. q.node q.at) p.at f inner arguments) in omega (arith, deep)

    pub inner_placed : IsInPlace kept n inner
    inner_placed = in_place_below kept n (IsChild.of_window f arguments e) can.placed

    pub inner_holds : HoldsPlan kept lists inner
    inner_holds = holds_below kept lists (IsChild.of_window f arguments e) can.holds

    -- the windows are a range selector's or a subquery's
    windows_read : ((S inner).ranges || (S inner).points) ≡ true
    windows_read =
        left_true ((S inner).ranges || (S inner).points) (are_served (S inner ∷ map S arguments))
        (subst (λ (s : Serving). s.served ≡ true) (serving_there p (node.Window f inner arguments) e ∙ of-Window node_serving (λ q. q.node) p.at f inner arguments) can.placed.served.windows)

    -- where they are no subquery's they are a range selector's
    pub windows_range : ((q : Plan) (range step : Ms) (moment : Moment) → inner.node ≡ node.Subquery q range step moment → ⊥) → (S inner).ranges ≡ true
    windows_range none =
        first (S inner).ranges (S inner).points windows_read
        (ap (λ (s : Serving). s.points) (by_node node_serving (λ q. q.node) inner)
        ∙ by (out-PlanNode inner.node) (λ q range step moment is. none q range step moment (sym (roll-out-PlanNode inner.node) ∙ is)))
      where
        first : (a b : Bool) → (a || b) ≡ true → b ≡ false → a ≡ true
        first true b h off = refl
        first false b h off = sym off ∙ h

        by : (y : PlanNode-F PlanNode Plan) → ((q : Plan) (range step : Ms) (moment : Moment) → roll-PlanNode y ≡ node.Subquery q range step moment → ⊥)
            → node_points (map-PlanNode PlanNode Plan Serving Serving (at_node node_serving (λ q. q.node)) S y) ≡ false
        by (PlanNode-F.Subquery q range step moment) h = absurd (h q range step moment (rolled_subquery q range step moment))
        by y h = refl

    pub range_plan : (S inner).ranges ≡ true → IsRangePlan kept inner
    range_plan is = record { served = inner_placed.served.windows; ranges = is; rules = inner_placed.served.rules; within = inner_placed.within }

    -- ---- subqueries

    module _ (q : Plan) (range step : Ms) (moment : Moment) (i : inner.node ≡ node.Subquery q range step moment) where
      subquery_is : M inner ≡ measure_node (PlanNode-F.Subquery (M q) range step moment) inner.at
      subquery_is = measured_there inner (node.Subquery q range step moment) i ∙ of-Subquery node_measure (λ q. q.node q.at) inner.at q range step moment

      pub subquery_within : IsMomentWithin moment × IsLength range × IsLength step
      subquery_within = let all = subst (λ (m : Measure). AllByRecursion Fits m.parts) subquery_is inner_placed.within in (all.0, all.1.0, all.1.1.0)

      pub subquery_grows : CanGrow kept lists (n + 1) q
      subquery_grows =
          let at = IsChild.of_subquery range step moment i in
          let below = in_place_below kept n at inner_placed in
          let typed = told (ap (λ (m : PlanNode). typing (planned inner.at m)) i ∙ of-Subquery node_typing (λ q. q.node) inner.at q range step moment) inner_placed.typed in
          record {
            placed = record {
              typed = below.typed;
              within = below.within;
              served = below.served;
              room = (let room = inner_placed.room in let deep = ap (λ (m : Measure). m.depth) subquery_is in omega (arith, deep));
            };
            number = vector_number (typing q).kind (of_kind Vector (typing q) typed);
            holds = holds_below kept lists at inner_holds;
          }
