-- Which plans have trees. (This project's own; the limits are those of the language.)
use Rattle.std.specs.Prelude.{◌≡◌, ◌+◌, ◌≤◌, ℕ, Bool, true, List, Option, ⊤}
use Rattle.frac_text.specs.Times.{time_limit}
use Rattle.label_set.specs.declared.rules.Pairing.{Pairing}
use Rattle.label_set.specs.declared.rules.Relabel.{Relabel as Relabelling}
use Rattle.label_set.specs.declared.rules.Rule.{Rule}
use Rattle.func_table.specs.declared.table.SetOp.{SetOp}
use Rattle.logical_plan.specs.PlanTypes.{typing}
use Rattle.logical_plan.specs.Validity.{IsValid, deepest, measured}
use Rattle.logical_plan.specs.declared.nodes.Plan.{Plan}
use Rattle.logical_plan.specs.declared.nodes.PlanNode.TheVariants as node
use Rattle.op_labels.specs.Rules.{Kept}
use Rattle.plan_bases.specs.Bases.{HoldsPlan, Lists}
use Rattle.plan_serving.specs.Serving.{IsServedOver}
use Rattle.promql_ast.specs.Parts.{AreWithin}
use Rattle.promql_type.specs.Kinds.{is_number}
use Rattle.step_table.specs.Groups.{Names}
use Rattle.ticks.specs.Durations.{hundred_years}
use Rattle.xfrac.specs.declared.value.PairOp.{PairOp}

-- a plan gives a scalar or a vector
abbrev pub GivesNumbers : Plan → Type 0
GivesNumbers p = is_number (typing p).kind ≡ true

-- a valid plan of numbers has a tree, where kernels serve it
pub record HasTree (kept : Kept) (p : Plan) : Type 0 where
  pub valid : IsValid hundred_years time_limit p
  pub number : GivesNumbers p
  pub served : IsServedOver kept p

-- each of its nodes is typed, its times and lengths lie within the limits, kernels serve it, and with so many subqueries around it it is
-- not too deep
pub record IsInPlace (kept : Kept) (n : ℕ) (p : Plan) : Type 0 where
  pub typed : (typing p).typed ≡ true
  pub within : AreWithin (λ rules. ⊤) hundred_years time_limit (measured p).parts
  pub served : IsServedOver kept p
  pub room : n + (measured p).depth ≤ deepest

-- it gives a scalar or a vector, and the series of its leaves are there
pub record CanGrow (kept : Kept) (lists : Lists) (n : ℕ) (p : Plan) : Type 0 where
  pub placed : IsInPlace kept n p
  pub number : GivesNumbers p
  pub holds : HoldsPlan kept lists p

-- ---- nodes

-- a node over one child, whose rows change
pub data IsChange (p : Plan) : Type 0 where
  of_stamp : (inner : Plan) → p.node ≡ node.Stamp inner → IsChange p
  of_absent : (labels : Option Names) (inner : Plan) → p.node ≡ node.Absent labels inner → IsChange p
  of_relabel : (rule : Relabelling) (inner : Plan) → p.node ≡ node.Relabel rule inner → IsChange p
  of_filter : (base : Plan) (rules : List Rule) → p.node ≡ node.Filter base rules → IsChange p

-- one that gives the rows of its child as a type
pub data IsRetyping (p : Plan) : Type 0 where
  of_scalar : (inner : Plan) → p.node ≡ node.ScalarOf inner → IsRetyping p
  of_sort : (down : Bool) (inner : Plan) → p.node ≡ node.Sort down inner → IsRetyping p
  of_vector : (inner : Plan) → p.node ≡ node.VectorOf inner → IsRetyping p

-- one over two children
pub data IsTwofold (p : Plan) : Type 0 where
  of_buckets : (quantile inner : Plan) → p.node ≡ node.Buckets quantile inner → IsTwofold p
  of_pair : (op : PairOp) (left right : Plan) (pairing : Pairing) → p.node ≡ node.Pair op left right pairing → IsTwofold p
  of_set : (op : SetOp) (left right : Plan) (pairing : Pairing) → p.node ≡ node.Set op left right pairing → IsTwofold p
  of_ratio : (sum count : Plan) → p.node ≡ node.Ratio sum count → IsTwofold p
