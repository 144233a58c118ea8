-- Two nodes of plans that are the same but for their children. (This project's own.)
use Rattle.std.specs.Prelude.{ℕ, Bool, List, Option}
use Rattle.std.specs.List.{AllZip}
use Rattle.func_table.specs.declared.table.Aggregate.{Aggregate}
use Rattle.func_table.specs.declared.table.Element.{Element}
use Rattle.func_table.specs.declared.table.SetOp.{SetOp}
use Rattle.func_table.specs.declared.table.Window.{Window}
use Rattle.label_set.specs.declared.rules.Grouping.{Grouping}
use Rattle.label_set.specs.declared.rules.Pairing.{Pairing}
use Rattle.label_set.specs.declared.rules.Relabel.{Relabel}
use Rattle.label_set.specs.declared.rules.Rule.{Rule}
use Rattle.promql_ast.specs.declared.tree.Expr.{Expr}
use Rattle.promql_ast.specs.declared.tree.Moment.{Moment}
use Rattle.step_table.specs.Groups.{Names}
use Rattle.step_table.specs.declared.cells.PartKind.{PartKind}
use Rattle.ticks.specs.declared.moment.Ms.{Ms}
use Rattle.xfrac.specs.declared.value.PairOp.{PairOp}
use Rattle.xfrac.specs.declared.value.XFrac.{XFrac}
use Rattle.logical_plan.specs.declared.nodes.PlanNode.TheOpen.{PlanNode-F}

-- two nodes of one kind and one content, whose children are related in pairs, lists of them item by item
pub data SameNode {A B : Type 0} (R : B → B → Type 0) : PlanNode-F A B → PlanNode-F A B → Type 0 where
  number : (value : XFrac) → SameNode R (PlanNode-F.Number value) (PlanNode-F.Number value)
  time : SameNode R PlanNode-F.Time PlanNode-F.Time
  select : (rules : List Rule) (moment : Moment) (stamped : Bool) → SameNode R (PlanNode-F.Select rules moment stamped) (PlanNode-F.Select rules moment stamped)
  range : (rules : List Rule) (moment : Moment) (length : Ms) → SameNode R (PlanNode-F.Range rules moment length) (PlanNode-F.Range rules moment length)
  subquery : (a b : B) (length step : Ms) (moment : Moment) → R a b → SameNode R (PlanNode-F.Subquery a length step moment) (PlanNode-F.Subquery b length step moment)
  element : (f : Element) (a b : B) (xs ys : List B) → R a b → AllZip R xs ys → SameNode R (PlanNode-F.Element f a xs) (PlanNode-F.Element f b ys)
  stamp : (a b : B) → R a b → SameNode R (PlanNode-F.Stamp a) (PlanNode-F.Stamp b)
  window : (f : Window) (a b : B) (xs ys : List B) → R a b → AllZip R xs ys → SameNode R (PlanNode-F.Window f a xs) (PlanNode-F.Window f b ys)
  absent : (labels : Option Names) (a b : B) → R a b → SameNode R (PlanNode-F.Absent labels a) (PlanNode-F.Absent labels b)
  buckets : (a b c d : B) → R a c → R b d → SameNode R (PlanNode-F.Buckets a b) (PlanNode-F.Buckets c d)
  relabel : (rule : Relabel) (a b : B) → R a b → SameNode R (PlanNode-F.Relabel rule a) (PlanNode-F.Relabel rule b)
  sort : (down : Bool) (a b : B) → R a b → SameNode R (PlanNode-F.Sort down a) (PlanNode-F.Sort down b)
  scalar_of : (a b : B) → R a b → SameNode R (PlanNode-F.ScalarOf a) (PlanNode-F.ScalarOf b)
  vector_of : (a b : B) → R a b → SameNode R (PlanNode-F.VectorOf a) (PlanNode-F.VectorOf b)
  group : (f : Aggregate) (grouping : Grouping) (xs ys : List B) (label : List ℕ) → AllZip R xs ys → SameNode R (PlanNode-F.Group f grouping xs label) (PlanNode-F.Group f grouping ys label)
  pair : (op : PairOp) (a b c d : B) (pairing : Pairing) → R a c → R b d → SameNode R (PlanNode-F.Pair op a b pairing) (PlanNode-F.Pair op c d pairing)
  set : (op : SetOp) (a b c d : B) (pairing : Pairing) → R a c → R b d → SameNode R (PlanNode-F.Set op a b pairing) (PlanNode-F.Set op c d pairing)
  filtered : (a b : B) (rules : List Rule) → R a b → SameNode R (PlanNode-F.Filter a rules) (PlanNode-F.Filter b rules)
  ratio : (a b c d : B) → R a c → R b d → SameNode R (PlanNode-F.Ratio a b) (PlanNode-F.Ratio c d)
  once : (a b : B) → R a b → SameNode R (PlanNode-F.Once a) (PlanNode-F.Once b)
  gather : (expr : Expr) (kind : PartKind) (engines : List ℕ) → SameNode R (PlanNode-F.Gather expr kind engines) (PlanNode-F.Gather expr kind engines)
