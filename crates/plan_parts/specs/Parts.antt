-- Trees of kernels for parts of plans. (This project's own.)
use Rattle.std.specs.Prelude.{◌≡◌, ◌++◌, ℕ, ℤ, Bool, true, false, List, [], ◌∷◌, Option, None, Result, IfOk, IsTrue, MatchResult}
use Rattle.exchange.specs.declared.request.Request.{Request}
use Rattle.func_table.specs.declared.table.Aggregate.{Aggregate}
use Rattle.func_table.specs.declared.table.Aggregate.TheVariants.{TopK, BottomK, Quantile}
use Rattle.func_table.specs.declared.table.Element.{Element}
use Rattle.func_table.specs.declared.table.Element.TheVariants.{Neg}
use Rattle.func_table.specs.declared.table.SetOp.{SetOp}
use Rattle.func_table.specs.declared.table.Window.{Window as WindowFunction}
use Rattle.label_set.specs.declared.rules.Grouping.{Grouping}
use Rattle.label_set.specs.declared.rules.Pairing.{Pairing}
use Rattle.label_set.specs.declared.rules.Relabel.{Relabel as Relabelling}
use Rattle.label_set.specs.declared.rules.Rule.{Rule}
use Rattle.logical_plan.specs.Lowering.{planned}
use Rattle.logical_plan.specs.PlanMeaning.{plan_meaning, plan_meant}
use Rattle.logical_plan.specs.declared.nodes.Plan.{Plan}
use Rattle.logical_plan.specs.declared.nodes.PlanNode.TheVariants as node
use Rattle.match_rule.specs.Patterns.{HaveTheirPatterns}
use Rattle.op_element.specs.declared.formula.ElementRule.{ElementRule}
use Rattle.op_labels.specs.Rules.{Kept}
use Rattle.op_small.specs.declared.rule.SmallRule.{SmallRule}
use Rattle.op_small.specs.declared.rule.SmallRule.TheVariants.{Number}
use Rattle.plan_tree.specs.Asking.{HaveRequests}
use Rattle.plan_tree.specs.Nodes.{MayStart, shape_of}
use Rattle.plan_tree.specs.Shapes.{BinaryOf, ClampOf, InstantsOf, IsFit, Shape, StaysInTimes, UnaryOf, is_scalar, places_of, rule}
use Rattle.plan_tree.specs.Spending.{IsFresh}
use Rattle.plan_tree.specs.Worlds.{Gathers, world}
use Rattle.plan_tree.specs.declared.node.Node.{Node}
use Rattle.plan_work.specs.PlanLaws.{AreBeside, CostsAtMost, IsOver, IsThree}
use Rattle.plan_work.specs.TreeBounds.{StaysWithin}
use Rattle.promql_ast.specs.declared.tree.Moment.{Moment}
use Rattle.promql_meaning.specs.Selecting.{AllSeries, Asked, lookback}
use Rattle.step_kernels.specs.Binaries.{takes_scalar}
use Rattle.step_kernels.specs.Unaries.{is_unary}
use Rattle.step_kernels.specs.declared.binary.BinaryRule.{BinaryRule}
use Rattle.step_kernels.specs.declared.unary.UnaryRule.{UnaryRule}
use Rattle.step_table.specs.Groups.{Names}
use Rattle.ticks.specs.Listed.{IsListed}
use Rattle.ticks.specs.Walks.{IsInstant}
use Rattle.ticks.specs.declared.grid.Grid.{Grid}
use Rattle.ticks.specs.declared.moment.Ms.{Ms}
use Rattle.ticks.specs.declared.walk.Walk.{Walk}
use Rattle.xfrac.specs.declared.value.PairOp.{PairOp}
use Rattle.xfrac.specs.declared.value.XFrac.{XFrac}
use Rattle.plan_parts.specs.Courses.{IsMomentWithin}
use Rattle.plan_parts.specs.Gathered.{IsQueryOver}
use Rattle.plan_parts.specs.Gives.{Gives}
use Rattle.plan_parts.specs.Requested.{AreAdded, AreMeant, EachAdded, HaveOwn, MayMake}
use Rattle.plan_parts.specs.declared.parts.Part.{Part}
use Rattle.plan_parts.specs.declared.unbuilt.Unbuilt.{Unbuilt}
use Rattle.plan_parts.specs.declared.unbuilt.Unbuilt.TheVariants.{Memory}

-- ---- parts of a plan

-- a plan stands right below another one
pub data IsChild (c p : Plan) : Type 0 where
  of_subquery : (range step : Ms) (moment : Moment) → p.node ≡ node.Subquery c range step moment → IsChild c p
  of_element : (f : Element) (arguments : List Plan) → p.node ≡ node.Element f c arguments → IsChild c p
  of_element_argument : (f : Element) (inner : Plan) (before after : List Plan) → p.node ≡ node.Element f inner (before ++ c ∷ after) → IsChild c p
  of_stamp : p.node ≡ node.Stamp c → IsChild c p
  of_window : (f : WindowFunction) (arguments : List Plan) → p.node ≡ node.Window f c arguments → IsChild c p
  of_window_argument : (f : WindowFunction) (inner : Plan) (before after : List Plan) → p.node ≡ node.Window f inner (before ++ c ∷ after) → IsChild c p
  of_absent : (labels : Option Names) → p.node ≡ node.Absent labels c → IsChild c p
  of_quantile : (inner : Plan) → p.node ≡ node.Buckets c inner → IsChild c p
  of_buckets : (quantile : Plan) → p.node ≡ node.Buckets quantile c → IsChild c p
  of_relabel : (rule : Relabelling) → p.node ≡ node.Relabel rule c → IsChild c p
  of_sort : (down : Bool) → p.node ≡ node.Sort down c → IsChild c p
  of_scalar : p.node ≡ node.ScalarOf c → IsChild c p
  of_vector : p.node ≡ node.VectorOf c → IsChild c p
  of_group : (f : Aggregate) (by : Grouping) (before after : List Plan) (label : List ℕ) → p.node ≡ node.Group f by (before ++ c ∷ after) label → IsChild c p
  of_left : (op : PairOp) (right : Plan) (pairing : Pairing) → p.node ≡ node.Pair op c right pairing → IsChild c p
  of_right : (op : PairOp) (left : Plan) (pairing : Pairing) → p.node ≡ node.Pair op left c pairing → IsChild c p
  of_set_left : (op : SetOp) (right : Plan) (pairing : Pairing) → p.node ≡ node.Set op c right pairing → IsChild c p
  of_set_right : (op : SetOp) (left : Plan) (pairing : Pairing) → p.node ≡ node.Set op left c pairing → IsChild c p
  of_filter : (rules : List Rule) → p.node ≡ node.Filter c rules → IsChild c p
  of_sum : (count : Plan) → p.node ≡ node.Ratio c count → IsChild c p
  of_count : (sum : Plan) → p.node ≡ node.Ratio sum c → IsChild c p
  of_once : p.node ≡ node.Once c → IsChild c p

-- a plan stands right below a Once node of another one
pub data IsOnced (q : Plan) : Plan → Type 0 where
  here : (p : Plan) → p.node ≡ node.Once q → IsOnced q p
  below : (c p : Plan) → IsChild c p → IsOnced q c → IsOnced q p

-- a request is for a part that engines are asked for in a plan
pub data IsAskedIn (r : Request) : Plan → Type 0 where
  itself : (p : Plan) → p.node ≡ node.Gather r.part.expr r.part.kind r.engines → IsAskedIn r p
  under : (c p : Plan) → IsChild c p → IsAskedIn r c → IsAskedIn r p

-- what stands below Once nodes gives the same at all instants
pub record OncesStay (asked : Asked) (p : Plan) : Type 0 where
  pub same : (q : Plan) → IsOnced q p → (t u : ℤ) → plan_meaning asked q t ≡ plan_meaning asked q u

-- ---- trees

-- a tree that was fed nothing may be fed the instants of a walk, from the first on
pub record IsSound (store : AllSeries) (kept : Kept) (walk : Walk) (tree : Node) : Type 0 where
  pub fit : IsFit store (shape_of tree)
  pub can : MayStart store kept tree
  pub times : (t : ℤ) → IsInstant walk t → StaysInTimes (shape_of tree) t
  pub fresh : IsFresh tree

-- and gives there what a plan gives, if its gathers give what those of the plan do and what stands below Once nodes stays, and costs
-- there at most what the plan does; for its gathers requests were added, of parts that engines are asked for in the plan, that may be made,
-- at the instants that each of them is fed
pub record IsPart (asked : Asked) (walk : Walk) (before now : List Request) (p : Plan) (part : Part) : Type 0 where
  pub sound : IsSound asked.samples asked.kept walk part.tree
  pub added : AreAdded before now
  pub owns : HaveOwn before now (places_of (shape_of part.tree))
  pub asks : (times : List Ms) → IsListed walk times → HaveRequests now times part.tree
  pub named : EachAdded (λ (r : Request). IsAskedIn r p) before now
  pub make : (span : Grid) → IsQueryOver span asked.kept asked → MayMake span asked.kept before now
  pub scalar : IsTrue part.scalar → IsTrue (is_scalar (shape_of part.tree))
  pub gives : (gathers : Gathers) → AreMeant asked now gathers → OncesStay asked p
      → Gives asked (IsInstant walk) p part.scalar part.own (rule (world asked.samples gathers) asked.kept (shape_of part.tree))
  pub within : StaysWithin asked walk p (shape_of part.tree)

-- a part of a plan, where it is built
abbrev pub IsPartOf : Asked → Walk → (before now : List Request) → Plan → Result Part Unbuilt → Type 0
IsPartOf asked walk before now p built = IfOk built (λ part. IsPart asked walk before now p part)

-- a part is built, of scalars or of vectors as is told; the only error is want of memory
abbrev pub IsBuilt : Bool → Result Part Unbuilt → Type 0
IsBuilt scalar built = MatchResult built (λ part. part.scalar ≡ scalar) (λ e. e ≡ Memory)

-- the same of two parts
abbrev pub AreBuilt : Bool → Bool → Result (Part × Part) Unbuilt → Type 0
AreBuilt scalar other built = MatchResult built (λ parts. (parts.0.scalar ≡ scalar) × (parts.1.scalar ≡ other)) (λ e. e ≡ Memory)

-- ---- selectors

-- a plan gives the rows of a selector, as a selector in its place does, and costs at least what that does
pub record IsSelectorOf (asked : Asked) (p : Plan) (rules : List Rule) (moment : Moment) (stamped : Bool) : Type 0 where
  pub own : (plan_meant asked p).own ≡ stamped
  pub gives : (t : ℤ) → plan_meaning asked p t ≡ plan_meaning asked (planned p.at (node.Select rules moment stamped)) t
  pub within : CostsAtMost asked rules moment (record { 0 = lookback }) p

-- the times of a selector lie within the limits of the language, and its patterns are kept
abbrev pub IsReadable : Kept → (rules : List Rule) → Moment → Type 0
IsReadable kept rules moment = HaveTheirPatterns kept rules × IsMomentWithin moment

-- ---- what a tree is made of

-- a tree with this shape, whose rows aren't samples' own times
pub record IsMade (part : Part) (shape : Shape) (scalar : Bool) : Type 0 where
  pub shape_is : shape_of part.tree ≡ shape
  pub scalar_is : part.scalar ≡ scalar
  pub plain : part.own ≡ false

-- a tree keeps the requests of others
abbrev pub KeepsRequests : (from to : Node) → Type 0
KeepsRequests from to = (requests : List Request) (times : List Ms) → HaveRequests requests times from → HaveRequests requests times to

-- a tree of instants alone, which costs nothing and asks no engine
pub record IsInstants (one : SmallRule) (part : Part) : Type 0 where
  pub made : IsMade part (InstantsOf one) true
  pub can : (store : AllSeries) (kept : Kept) → MayStart store kept part.tree
  pub asks : (requests : List Request) (times : List Ms) → HaveRequests requests times part.tree
  pub fresh : IsFresh part.tree
  pub within : (asked : Asked) (walk : Walk) (p : Plan) → StaysWithin asked walk p (shape_of part.tree)

-- over trees that may go on it may go on, over trees that were fed nothing it was fed nothing, over trees that have their requests it has
-- its own, and over trees that stay within the bounds of plans it stays within that of a plan over these
pub record IsUnary (kept : Kept) (rule : UnaryRule) (scalar : Bool) (rows part : Part) : Type 0 where
  pub made : IsMade part (UnaryOf rule (shape_of rows.tree)) scalar
  pub reads : IsTrue (is_unary rule)
  pub can : (store : AllSeries) → MayStart store kept rows.tree → MayStart store kept part.tree
  pub asks : KeepsRequests rows.tree part.tree
  pub fresh : IsFresh rows.tree → IsFresh part.tree
  pub within : (asked : Asked) (walk : Walk) (c p : Plan) → IsOver c p → StaysWithin asked walk c (shape_of rows.tree) → StaysWithin asked walk p (shape_of part.tree)

pub record IsBinary (rule : BinaryRule) (scalar : Bool) (rows beside part : Part) : Type 0 where
  pub made : IsMade part (BinaryOf rule (shape_of rows.tree) (shape_of beside.tree)) scalar
  pub reads : IsTrue (takes_scalar rule) → IsTrue beside.scalar
  pub can : (store : AllSeries) (kept : Kept) → MayStart store kept rows.tree → MayStart store kept beside.tree → MayStart store kept part.tree
  pub asks : (requests : List Request) (times : List Ms) → HaveRequests requests times rows.tree → HaveRequests requests times beside.tree → HaveRequests requests times part.tree
  pub fresh : IsFresh rows.tree → IsFresh beside.tree → IsFresh part.tree
  pub within : (asked : Asked) (walk : Walk) (left right p : Plan) → AreBeside left right p → StaysWithin asked walk left (shape_of rows.tree) → StaysWithin asked walk right (shape_of beside.tree)
      → StaysWithin asked walk p (shape_of part.tree)

-- where a number stands beside the rows
pub record IsBesideNumber (one : BinaryRule) (value : XFrac) (rows part : Part) : Type 0 where
  pub made : IsMade part (BinaryOf one (shape_of rows.tree) (InstantsOf (Number value))) false
  pub can : (store : AllSeries) (kept : Kept) → MayStart store kept rows.tree → MayStart store kept part.tree
  pub asks : KeepsRequests rows.tree part.tree
  pub fresh : IsFresh rows.tree → IsFresh part.tree
  pub within : (asked : Asked) (walk : Walk) (c p : Plan) → IsOver c p → StaysWithin asked walk c (shape_of rows.tree) → StaysWithin asked walk p (shape_of part.tree)

pub record IsClamp (rule : ElementRule) (rows low high part : Part) : Type 0 where
  pub made : IsMade part (ClampOf rule (shape_of rows.tree) (shape_of low.tree) (shape_of high.tree)) false
  pub scalars : IsTrue low.scalar × IsTrue high.scalar
  pub can : (store : AllSeries) (kept : Kept) → MayStart store kept rows.tree → MayStart store kept low.tree → MayStart store kept high.tree → MayStart store kept part.tree
  pub asks : (requests : List Request) (times : List Ms) → HaveRequests requests times rows.tree → HaveRequests requests times low.tree → HaveRequests requests times high.tree
      → HaveRequests requests times part.tree
  pub fresh : IsFresh rows.tree → IsFresh low.tree → IsFresh high.tree → IsFresh part.tree
  pub within : (asked : Asked) (walk : Walk) (first second third p : Plan) → IsThree first second third p → StaysWithin asked walk first (shape_of rows.tree) → StaysWithin asked walk second (shape_of low.tree)
      → StaysWithin asked walk third (shape_of high.tree) → StaysWithin asked walk p (shape_of part.tree)

-- ---- functions and aggregations

-- whether a function of a scalar gives a scalar: minus alone does
abbrev pub keeps_scalar : Element → Bool → Bool
keeps_scalar Neg scalar = scalar
keeps_scalar f scalar = false

-- whether an aggregation reads a parameter
abbrev pub reads_parameter : Aggregate → Bool
reads_parameter TopK = true
reads_parameter BottomK = true
reads_parameter Quantile = true
reads_parameter f = false
