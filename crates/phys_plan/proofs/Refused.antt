-- Where a node is of another kind, or something isn't there, nothing is left to be shown.
use Rattle.std.proofs.Common.{◌≡◌, List, Bool, Option, None, Some, refl}
use Rattle.std.specs.Prelude.{IsSome, IsSomeAnd}
use Rattle.func_table.specs.declared.table.SetOp.{SetOp}
use Rattle.label_set.specs.declared.rules.Pairing.{Pairing}
use Rattle.label_set.specs.declared.rules.Relabel.{Relabel as Relabelling}
use Rattle.label_set.specs.declared.rules.Rule.{Rule}
use Rattle.logical_plan.specs.declared.nodes.Plan.{Plan}
use Rattle.logical_plan.specs.declared.nodes.PlanNode.TheVariants as node
use Rattle.step_table.specs.Groups.{Names}
use Rattle.xfrac.specs.declared.value.PairOp.{PairOp}
use Rattle.phys_plan.specs.Growth.{IsChange, IsRetyping, IsTwofold}

-- ---- options

module _ {X : Type 0} where
  pub none_some : (o : Option X) → ((x : X) → o ≡ Some x → ⊥) → IsSome o → ⊥
  none_some None none h = absurd (cc)
  none_some (Some x) none h = none x refl

  pub none_and : (P : X → Type 0) (o : Option X) → ((x : X) → o ≡ Some x → ⊥) → IsSomeAnd o P → ⊥
  none_and P None none h = h
  none_and P (Some x) none h = none x refl

-- ---- nodes

pub no_change : (p : Plan) → ((inner : Plan) → p.node ≡ node.Stamp inner → ⊥) → ((labels : Option Names) (inner : Plan) → p.node ≡ node.Absent labels inner → ⊥)
    → ((rule : Relabelling) (inner : Plan) → p.node ≡ node.Relabel rule inner → ⊥) → ((base : Plan) (rules : List Rule) → p.node ≡ node.Filter base rules → ⊥) → IsChange p → ⊥
no_change p stamp absent relabel filter (IsChange.of_stamp inner e) = stamp inner e
no_change p stamp absent relabel filter (IsChange.of_absent labels inner e) = absent labels inner e
no_change p stamp absent relabel filter (IsChange.of_relabel rule inner e) = relabel rule inner e
no_change p stamp absent relabel filter (IsChange.of_filter base rules e) = filter base rules e

pub no_retyping : (p : Plan) → ((inner : Plan) → p.node ≡ node.ScalarOf inner → ⊥) → ((down : Bool) (inner : Plan) → p.node ≡ node.Sort down inner → ⊥)
    → ((inner : Plan) → p.node ≡ node.VectorOf inner → ⊥) → IsRetyping p → ⊥
no_retyping p scalar sort vector (IsRetyping.of_scalar inner e) = scalar inner e
no_retyping p scalar sort vector (IsRetyping.of_sort down inner e) = sort down inner e
no_retyping p scalar sort vector (IsRetyping.of_vector inner e) = vector inner e

pub no_twofold : (p : Plan) → ((quantile inner : Plan) → p.node ≡ node.Buckets quantile inner → ⊥) → ((op : PairOp) (left right : Plan) (pairing : Pairing) → p.node ≡ node.Pair op left right pairing → ⊥)
    → ((op : SetOp) (left right : Plan) (pairing : Pairing) → p.node ≡ node.Set op left right pairing → ⊥) → ((sum count : Plan) → p.node ≡ node.Ratio sum count → ⊥) → IsTwofold p → ⊥
no_twofold p buckets pair set ratio (IsTwofold.of_buckets quantile inner e) = buckets quantile inner e
no_twofold p buckets pair set ratio (IsTwofold.of_pair op left right pairing e) = pair op left right pairing e
no_twofold p buckets pair set ratio (IsTwofold.of_set op left right pairing e) = set op left right pairing e
no_twofold p buckets pair set ratio (IsTwofold.of_ratio sum count e) = ratio sum count e
