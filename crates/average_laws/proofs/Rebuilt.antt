-- A plan whose nodes are changed one by one keeps its averages where each node does, and sums and counts stay what they are.
use Rattle.std.proofs.Common.{◌≡◌, ◌∙◌, ℕ, List, [], ◌∷◌, ◌++◌, map, ap, sym, refl, subst}
use Rattle.std.specs.List.{AllByRecursion}
use Rattle.holders.specs.Joins.{both_of, front_of}
use Rattle.func_table.specs.declared.table.Aggregate.{Aggregate}
use Rattle.func_table.specs.declared.table.Aggregate.TheVariants.{Count, Sum}
use Rattle.label_set.specs.declared.rules.Grouping.{Grouping}
use Rattle.logical_plan.specs.Lowering.{planned}
use Rattle.logical_plan.specs.PlanFolds.{of-Group}
use Rattle.logical_plan.specs.Validity.{children}
use Rattle.logical_plan.specs.declared.nodes.Plan.{Plan}
use Rattle.logical_plan.specs.declared.nodes.PlanNode.TheVariants as node
use Rattle.logical_plan.specs.declared.nodes.PlanNode.TheOpen.{PlanNode-F}
use Rattle.logical_plan.specs.declared.nodes.PlanNode.TheViews.{out-roll-PlanNode, roll-PlanNode, outs-Group}
use Rattle.plan_rewrite.specs.Rebuilding.{Change, changed, rebuilt}
use Rattle.expressed_laws.specs.Induction.{every, folded, rolled}
use Rattle.average_laws.specs.Divided.{Averages, Layer, averages_under, divided, itself, plan_of, ratios_of, rolls}
use Rattle.average_laws.specs.Keeping.{KeepsAverages}
use Rattle.average_laws.specs.Ratios.{HasAverages, IsAverage, all_ratios, divisions, own_ratios, ratios_in}

-- ---- a node

-- each ratio of a node is an average where each of its own is, and each of its children's
pub over_averages : (at : ℕ) (y : Layer) → Averages (own_ratios (divided y) ++ all_ratios (children (divided y))) → HasAverages (planned at (roll-PlanNode y))
over_averages at y all = subst Averages (sym (ratios_of at y)) all

from_itself : (sum count : Plan) → IsAverage (plan_of (divisions sum), plan_of (divisions count)) → IsAverage (sum, count)
from_itself sum count is = subst (λ (s : Plan). IsAverage (s, count)) (itself sum) (subst (λ (c : Plan). IsAverage (plan_of (divisions sum), c)) (itself count) is)

to_itself : (sum count : Plan) → IsAverage (sum, count) → IsAverage (plan_of (divisions sum), plan_of (divisions count))
to_itself sum count is = subst (λ (s : Plan). IsAverage (s, plan_of (divisions count))) (sym (itself sum)) (subst (λ (c : Plan). IsAverage (sum, c)) (sym (itself count)) is)

-- a ratio at a place, of averages
pub over_ratio : (at : ℕ) (sum count : Plan) → IsAverage (sum, count) → HasAverages sum → HasAverages count → HasAverages (planned at (roll-PlanNode (PlanNode-F.Ratio sum count)))
over_ratio at sum count is s c =
    over_averages at (PlanNode-F.Ratio sum count)
    (to_itself sum count is, both_of IsAverage (ratios_in sum) (ratios_in count ++ []) s (both_of IsAverage (ratios_in count) [] c tt))

pub averages_of : (ps : List Plan) → AllByRecursion HasAverages ps → Averages (all_ratios (map divisions ps))
averages_of [] all = tt
averages_of (p ∷ ps) all = both_of IsAverage (ratios_in p) (all_ratios (map divisions ps)) all.0 (averages_of ps all.1)

-- ---- nodes that were changed

module _ (change : Change) (stays : Aggregate → Type 0)
    (group_stays : (at : ℕ) (f : Aggregate) (by : Grouping) (arguments : List Plan) (label : List ℕ) → stays f → change at (PlanNode-F.Group f by arguments label) ≡ roll-PlanNode (PlanNode-F.Group f by arguments label))
    (sums : stays Sum) (counts : stays Count)
    (keeps : (at : ℕ) (y : Layer) → HasAverages (planned at (roll-PlanNode y)) → HasAverages (planned at (change at y))) where
  abbrev again : Plan → Plan
  again = rebuilt change

  abbrev again_layer : Layer → Layer
  again_layer = folded roll-PlanNode (changed change)

  again_node : (at : ℕ) (y : Layer) → again (planned at (roll-PlanNode y)) ≡ planned at (change at (again_layer y))
  again_node at y = rolled roll-PlanNode (changed change) at y ∙ ap (λ (z : Layer). planned at (change at z)) (out-roll-PlanNode (again_layer y))

  abbrev P : Plan → Type 0
  P p = HasAverages p → HasAverages (again p)

  all_again : (ps : List Plan) → AllByRecursion P ps → AllByRecursion HasAverages ps → Averages (all_ratios (map divisions (map again ps)))
  all_again [] held all = tt
  all_again (p ∷ ps) held all = both_of IsAverage (ratios_in (again p)) (all_ratios (map divisions (map again ps))) (held.0 all.0) (all_again ps held.1 all.1)

  -- a sum and a count stay over what becomes of their arguments
  again_group : (at : ℕ) (f : Aggregate) (by : Grouping) (arguments : List Plan) (label : List ℕ) → stays f → again (planned at (node.Group f by arguments label)) ≡ planned at (node.Group f by (map again arguments) label)
  again_group at f by arguments label here =
      of-Group roll-PlanNode (changed change) at f by arguments label
      ∙ ap (λ (z : Layer). planned at (change at z)) (out-roll-PlanNode (PlanNode-F.Group f by (map again arguments) label))
      ∙ ap (planned at) (group_stays at f by (map again arguments) label here)
      ∙ ap (planned at) (sym (rolls (node.Group f by (map again arguments) label) (PlanNode-F.Group f by (map again arguments) label) (rw outs-Group refl)))

  again_average : (sum count : Plan) → IsAverage (sum, count) → IsAverage (again sum, again count)
  again_average sum count is = record {
    sum_at = is.sum_at;
    count_at = is.count_at;
    grouping = is.grouping;
    arguments = map again is.arguments;
    label = is.label;
    sum = ap again is.sum ∙ again_group is.sum_at Sum is.grouping is.arguments is.label sums;
    count = ap again is.count ∙ again_group is.count_at Count is.grouping is.arguments is.label counts;
  }

  -- a node over what becomes of its children
  over_again : (at : ℕ) (y : Layer) → AllByRecursion P (children y) → Averages (own_ratios (divided y)) → AllByRecursion HasAverages (children y) → HasAverages (planned at (roll-PlanNode (again_layer y)))
  over_again at (PlanNode-F.Number value) held own all = over_averages at (PlanNode-F.Number value) tt
  over_again at PlanNode-F.Time held own all = over_averages at PlanNode-F.Time tt
  over_again at (PlanNode-F.Select rules moment stamped) held own all = over_averages at (PlanNode-F.Select rules moment stamped) tt
  over_again at (PlanNode-F.Range rules moment range) held own all = over_averages at (PlanNode-F.Range rules moment range) tt
  over_again at (PlanNode-F.Subquery p range step moment) held own all = over_averages at (PlanNode-F.Subquery (again p) range step moment) (all_again (p ∷ []) held all)
  over_again at (PlanNode-F.Element f p ps) held own all = over_averages at (PlanNode-F.Element f (again p) (map again ps)) (all_again (p ∷ ps) held all)
  over_again at (PlanNode-F.Stamp p) held own all = over_averages at (PlanNode-F.Stamp (again p)) (all_again (p ∷ []) held all)
  over_again at (PlanNode-F.Window f p ps) held own all = over_averages at (PlanNode-F.Window f (again p) (map again ps)) (all_again (p ∷ ps) held all)
  over_again at (PlanNode-F.Absent labels p) held own all = over_averages at (PlanNode-F.Absent labels (again p)) (all_again (p ∷ []) held all)
  over_again at (PlanNode-F.Buckets q p) held own all = over_averages at (PlanNode-F.Buckets (again q) (again p)) (all_again (q ∷ p ∷ []) held all)
  over_again at (PlanNode-F.Relabel rule p) held own all = over_averages at (PlanNode-F.Relabel rule (again p)) (all_again (p ∷ []) held all)
  over_again at (PlanNode-F.Sort down p) held own all = over_averages at (PlanNode-F.Sort down (again p)) (all_again (p ∷ []) held all)
  over_again at (PlanNode-F.ScalarOf p) held own all = over_averages at (PlanNode-F.ScalarOf (again p)) (all_again (p ∷ []) held all)
  over_again at (PlanNode-F.VectorOf p) held own all = over_averages at (PlanNode-F.VectorOf (again p)) (all_again (p ∷ []) held all)
  over_again at (PlanNode-F.Group f by ps label) held own all = over_averages at (PlanNode-F.Group f by (map again ps) label) (all_again ps held all)
  over_again at (PlanNode-F.Pair op p q pairing) held own all = over_averages at (PlanNode-F.Pair op (again p) (again q) pairing) (all_again (p ∷ q ∷ []) held all)
  over_again at (PlanNode-F.Set op p q pairing) held own all = over_averages at (PlanNode-F.Set op (again p) (again q) pairing) (all_again (p ∷ q ∷ []) held all)
  over_again at (PlanNode-F.Filter p rules) held own all = over_averages at (PlanNode-F.Filter (again p) rules) (all_again (p ∷ []) held all)
  over_again at (PlanNode-F.Ratio p q) held own all = over_ratio at (again p) (again q) (again_average p q (from_itself p q own.0)) (held.0 all.0) (held.1.0 all.1.0)
  over_again at (PlanNode-F.Once p) held own all = over_averages at (PlanNode-F.Once (again p)) (all_again (p ∷ []) held all)
  over_again at (PlanNode-F.Gather e kind engines) held own all = over_averages at (PlanNode-F.Gather e kind engines) tt

  node_keeps : (at : ℕ) (y : Layer) → AllByRecursion P (children y) → P (planned at (roll-PlanNode y))
  node_keeps at y held all =
      let ratios : Averages (own_ratios (divided y) ++ all_ratios (children (divided y))) = subst Averages (ratios_of at y) all in
      let own = front_of IsAverage (own_ratios (divided y)) (all_ratios (children (divided y))) ratios in
      subst HasAverages (sym (again_node at y)) (keeps at (again_layer y) (over_again at y held own (averages_under at y all)))

  pub rebuilt_keeps : KeepsAverages again
  rebuilt_keeps = every P node_keeps
