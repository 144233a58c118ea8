-- Laws of leaves, for proofs: which plans are leaves, and what is there of a plan is there of its children.
use Rattle.std.proofs.Common.{◌≡◌, ◌∙◌, Bool, true, false, List, [], ◌∷◌, ◌++◌, map, refl, sym, ap, subst, if◌then◌else◌}
use Rattle.std.specs.List.{AllByRecursion}
use Rattle.holders.specs.Joins.{back_of, front_of}
use Rattle.label_set.specs.declared.rules.Rule.{Rule}
use Rattle.logical_plan.specs.Lowering.{planned}
use Rattle.logical_plan.specs.PlanFolds.{of-Filter, of-Range, of-Select}
use Rattle.logical_plan.specs.Validity.{children}
use Rattle.logical_plan.specs.declared.nodes.Plan.{Plan}
use Rattle.logical_plan.specs.declared.nodes.PlanNode.{PlanNode}
use Rattle.logical_plan.specs.declared.nodes.PlanNode.TheVariants as node
use Rattle.logical_plan.specs.declared.nodes.PlanNode.TheOpen.{PlanNode-F}
use Rattle.promql_ast.specs.declared.tree.Moment.{Moment}
use Rattle.ticks.specs.declared.moment.Ms.{Ms}
use Rattle.plan_bases.specs.Bases.{Holds, HoldsEach, HoldsLeaf, HoldsLeaves, HoldsPlan, Kept, Lists}
use Rattle.plan_bases.specs.Leaves.{IsLeafOf, Reading, all_leaves, alone, bare, filtered, node_reading, over, reading, rules_of, with_filters}
use Rattle.plan_bases.specs.declared.leaves.Leaf.{Leaf}

-- ---- filters

with_more : (under : List Rule) (filters : List (List Rule)) (more : List Rule) → with_filters under (filters ++ more ∷ []) ≡ with_filters under filters ++ more
with_more under [] more = refl
with_more under (f ∷ filters) more = with_more (under ++ f) filters more

-- ---- which plans are leaves

abbrev reading_node : PlanNode-F Reading Reading → Reading
reading_node = node_reading

abbrev there : (p : Plan) (n : PlanNode) → p.node ≡ n → reading p ≡ reading (planned p.at n)
there p n e = ap (λ (m : PlanNode). reading (planned p.at m)) e

reading-Select : (p : Plan) (rules : List Rule) (moment : Moment) (stamped : Bool) → p.node ≡ node.Select rules moment stamped → reading p ≡ reading_node (PlanNode-F.Select rules moment stamped)
reading-Select p rules moment stamped e = there p (node.Select rules moment stamped) e ∙ of-Select node_reading (λ q. q.node) p.at rules moment stamped

pub select_is_leaf : (p : Plan) (rules : List Rule) (moment : Moment) → p.node ≡ node.Select rules moment false → IsLeafOf p rules
select_is_leaf p rules moment e = record { leaf = bare rules; reads = reading-Select p rules moment false e; passes = refl }

pub range_is_leaf : (p : Plan) (rules : List Rule) (moment : Moment) (range : Ms) → p.node ≡ node.Range rules moment range → IsLeafOf p rules
range_is_leaf p rules moment range e = record {
  leaf = bare rules;
  reads = there p (node.Range rules moment range) e ∙ of-Range node_reading (λ q. q.node) p.at rules moment range;
  passes = refl;
}

pub filter_is_leaf : (p base : Plan) (rules more : List Rule) → p.node ≡ node.Filter base more → IsLeafOf base rules → IsLeafOf p (rules ++ more)
filter_is_leaf p base rules more e is = record {
  leaf = filtered is.leaf more;
  reads = there p (node.Filter base more) e ∙ of-Filter node_reading (λ q. q.node) p.at base more ∙ ap (λ (r : Reading). over r more) is.reads;
  passes = with_more is.leaf.base is.leaf.filters more ∙ ap (λ (rules : List Rule). rules ++ more) is.passes;
}

-- ---- what is there

module _ (kept : Kept) (lists : Lists) where
  last_holds : (under : List Rule) (filters : List (List Rule)) → HoldsEach kept lists under filters → Holds kept lists (with_filters under filters)
  last_holds under [] h = h
  last_holds under (more ∷ filters) h = last_holds (under ++ more) filters h.1

  front_holds : (under : List Rule) (filters : List (List Rule)) (more : List Rule) → HoldsEach kept lists under (filters ++ more ∷ []) → HoldsEach kept lists under filters
  front_holds under [] more h = h.0
  front_holds under (f ∷ filters) more h = (h.0, front_holds (under ++ f) filters more h.1)

  -- the rules of a leaf
  pub leaf_holds : (p : Plan) (rules : List Rule) → IsLeafOf p rules → HoldsPlan kept lists p → Holds kept lists rules
  leaf_holds p rules is h =
      let all : HoldsLeaves kept lists (is.leaf ∷ []) = subst (λ (r : Reading). HoldsLeaves kept lists r.leaves) is.reads h in
      subst (Holds kept lists) is.passes (last_holds is.leaf.base is.leaf.filters all.0)

  -- those of a selector, stamped or not
  pub selector_holds : (p : Plan) (rules : List Rule) (moment : Moment) (stamped : Bool) → p.node ≡ node.Select rules moment stamped → HoldsPlan kept lists p → Holds kept lists rules
  selector_holds p rules moment false e h = (subst (λ (r : Reading). HoldsLeaves kept lists r.leaves) (reading-Select p rules moment false e) h).0
  selector_holds p rules moment true e h = (subst (λ (r : Reading). HoldsLeaves kept lists r.leaves) (reading-Select p rules moment true e) h).0

  -- ---- children

  abbrev pub ReadingHolds : Reading → Type 0
  ReadingHolds r = HoldsLeaves kept lists r.leaves

  all_hold : (rs : List Reading) → HoldsLeaves kept lists (all_leaves rs) → AllByRecursion ReadingHolds rs
  all_hold [] h = tt
  all_hold (r ∷ rs) h = (front_of (HoldsLeaf kept lists) r.leaves (all_leaves rs) h, all_hold rs (back_of (HoldsLeaf kept lists) r.leaves (all_leaves rs) h))

  below_filter : (more : List Rule) (leaves : List Leaf) → HoldsLeaves kept lists (map (λ (leaf : Leaf). filtered leaf more) leaves) → HoldsLeaves kept lists leaves
  below_filter more [] h = tt
  below_filter more (leaf ∷ leaves) h = (front_holds leaf.base leaf.filters more h.0, below_filter more leaves h.1)

  pub children_hold : (y : PlanNode-F Reading Reading) → HoldsLeaves kept lists (node_reading y).leaves → AllByRecursion ReadingHolds (children y)
  children_hold (PlanNode-F.Select rules moment stamped) h = tt
  children_hold (PlanNode-F.Range rules moment range) h = tt
  children_hold (PlanNode-F.Filter base more) h = (by base.is_leaf h, tt)
    where
      by : (b : Bool) → HoldsLeaves kept lists (if b then map (λ (leaf : Leaf). filtered leaf more) base.leaves else base.leaves) → HoldsLeaves kept lists base.leaves
      by true h = below_filter more base.leaves h
      by false h = h
  children_hold y h = all_hold (children y) h
