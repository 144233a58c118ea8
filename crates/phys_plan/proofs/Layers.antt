-- A node of a plan with what a fold makes of each child in the child's place.
use Rattle.std.proofs.Common.{◌≡◌, ◌⊎◌, inl, inr, List, [], ◌∷◌, ◌++◌, map, refl, sym, subst}
use Rattle.std.specs.List.{AllByRecursion}
use Rattle.logical_plan.specs.PlanFolds.{at_node, of}
use Rattle.logical_plan.specs.Validity.{children}
use Rattle.logical_plan.specs.declared.nodes.Plan.{Plan}
use Rattle.logical_plan.specs.declared.nodes.PlanNode.{PlanNode}
use Rattle.logical_plan.specs.declared.nodes.PlanNode.TheVariants as node
use Rattle.logical_plan.specs.declared.nodes.PlanNode.TheOpen.{PlanNode-F, Plan-F}
use Rattle.logical_plan.specs.declared.nodes.PlanNode.TheViews.{out-PlanNode, outs-Subquery, outs-Element, outs-Stamp, outs-Window, outs-Absent, outs-Buckets, outs-Relabel, outs-Sort, outs-ScalarOf, outs-VectorOf, outs-Group, outs-Pair, outs-Set, outs-Filter, outs-Ratio, outs-Once}
use Rattle.logical_plan.specs.declared.nodes.PlanNode.TheFolds.{map-PlanNode}
use Rattle.plan_parts.specs.Parts.{IsChild}

-- ---- lists

-- an item stands in a list
abbrev pub In : {X : Type 0} → X → List X → Type 0
In x [] = ⊥
In x (y ∷ ys) = (y ≡ x) ⊎ In x ys

pub in_all : {X : Type 0} (P : X → Type 0) (xs : List X) (x : X) → AllByRecursion P xs → In x xs → P x
in_all P [] x all i = absurd i
in_all P (y ∷ ys) x all (inl e) = subst P e all.0
in_all P (y ∷ ys) x all (inr i) = in_all P ys x all.1 i

in_middle : {X Y : Type 0} (f : X → Y) (before after : List X) (x : X) → In (f x) (map f (before ++ x ∷ after))
in_middle f [] after x = inl refl
in_middle f (b ∷ before) after x = inr (in_middle f before after x)

-- ---- children

module _ {A B : Type 0} (node_step : PlanNode-F A B → A) (plan_step : Plan-F A B → B) where
  abbrev F : Plan → B
  F = of node_step plan_step

  abbrev pub layer : PlanNode → PlanNode-F A B
  layer n = map-PlanNode PlanNode Plan A B (at_node node_step plan_step) F (out-PlanNode n)

  at : (c p : Plan) (n : PlanNode) → p.node ≡ n → In (F c) (children (layer n)) → In (F c) (children (layer p.node))
  at c p n e i = subst (λ (m : PlanNode). In (F c) (children (layer m))) (sym e) i

  -- what a fold makes of a child stands in the layer
  pub child_in : {c p : Plan} → IsChild c p → In (F c) (children (layer p.node))
  child_in {c = c} {p = p} (IsChild.of_subquery range step moment is) = at c p (node.Subquery c range step moment) is (rw outs-Subquery (inl refl))
  child_in {c = c} {p = p} (IsChild.of_element f arguments is) = at c p (node.Element f c arguments) is (rw outs-Element (inl refl))
  child_in {c = c} {p = p} (IsChild.of_element_argument f inner before after is) =
      at c p (node.Element f inner (before ++ c ∷ after)) is (rw outs-Element (inr (in_middle F before after c)))
  child_in {c = c} {p = p} (IsChild.of_stamp is) = at c p (node.Stamp c) is (rw outs-Stamp (inl refl))
  child_in {c = c} {p = p} (IsChild.of_window f arguments is) = at c p (node.Window f c arguments) is (rw outs-Window (inl refl))
  child_in {c = c} {p = p} (IsChild.of_window_argument f inner before after is) =
      at c p (node.Window f inner (before ++ c ∷ after)) is (rw outs-Window (inr (in_middle F before after c)))
  child_in {c = c} {p = p} (IsChild.of_absent labels is) = at c p (node.Absent labels c) is (rw outs-Absent (inl refl))
  child_in {c = c} {p = p} (IsChild.of_quantile inner is) = at c p (node.Buckets c inner) is (rw outs-Buckets (inl refl))
  child_in {c = c} {p = p} (IsChild.of_buckets quantile is) = at c p (node.Buckets quantile c) is (rw outs-Buckets (inr (inl refl)))
  child_in {c = c} {p = p} (IsChild.of_relabel rule is) = at c p (node.Relabel rule c) is (rw outs-Relabel (inl refl))
  child_in {c = c} {p = p} (IsChild.of_sort down is) = at c p (node.Sort down c) is (rw outs-Sort (inl refl))
  child_in {c = c} {p = p} (IsChild.of_scalar is) = at c p (node.ScalarOf c) is (rw outs-ScalarOf (inl refl))
  child_in {c = c} {p = p} (IsChild.of_vector is) = at c p (node.VectorOf c) is (rw outs-VectorOf (inl refl))
  child_in {c = c} {p = p} (IsChild.of_group f by before after label is) = at c p (node.Group f by (before ++ c ∷ after) label) is (rw outs-Group (in_middle F before after c))
  child_in {c = c} {p = p} (IsChild.of_left op right pairing is) = at c p (node.Pair op c right pairing) is (rw outs-Pair (inl refl))
  child_in {c = c} {p = p} (IsChild.of_right op left pairing is) = at c p (node.Pair op left c pairing) is (rw outs-Pair (inr (inl refl)))
  child_in {c = c} {p = p} (IsChild.of_set_left op right pairing is) = at c p (node.Set op c right pairing) is (rw outs-Set (inl refl))
  child_in {c = c} {p = p} (IsChild.of_set_right op left pairing is) = at c p (node.Set op left c pairing) is (rw outs-Set (inr (inl refl)))
  child_in {c = c} {p = p} (IsChild.of_filter rules is) = at c p (node.Filter c rules) is (rw outs-Filter (inl refl))
  child_in {c = c} {p = p} (IsChild.of_sum count is) = at c p (node.Ratio c count) is (rw outs-Ratio (inl refl))
  child_in {c = c} {p = p} (IsChild.of_count sum is) = at c p (node.Ratio sum c) is (rw outs-Ratio (inr (inl refl)))
  child_in {c = c} {p = p} (IsChild.of_once is) = at c p (node.Once c) is (rw outs-Once (inl refl))
