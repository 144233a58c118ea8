-- Which parts of a query are computed once: those that are the same at each instant. (This project's own.)
use Rattle.std.specs.Prelude.{◌≡◌, ℤ, Bool, true, false, ◌||◌, ◌&&◌, List, [], ◌∷◌, map}
use Rattle.func_table.specs.declared.table.Func.{Func}
use Rattle.func_table.specs.declared.table.Func.TheVariants as func
use Rattle.promql_ast.specs.declared.tree.Expr.{Expr}
use Rattle.promql_ast.specs.declared.tree.Moment.{Moment}
use Rattle.promql_ast.specs.declared.tree.Node.TheOpen.{Node-F}
use Rattle.promql_ast.specs.declared.tree.Node.TheFolds.{fold-Expr}
use Rattle.promql_meaning.specs.Selecting.{Asked}
use Rattle.promql_meaning.specs.Steadiness.{all_hold, has_fixed, steady_call, steady_window}
use Rattle.step_table.specs.declared.cells.PartKind.{PartKind}
use Rattle.step_table.specs.declared.cells.PartKind.TheVariants as part
use Rattle.logical_plan.specs.declared.steadiness.Facts.{Facts}
use Rattle.logical_plan.specs.declared.nodes.Plan.{Plan}
use Rattle.logical_plan.specs.declared.nodes.PlanNode.TheOpen.{PlanNode-F}
use Rattle.logical_plan.specs.declared.nodes.PlanNode.TheFolds.{fold-Plan}
use Rattle.logical_plan.specs.PlanMeaning.{plan_meaning}

-- what has no selector
abbrev pub constant : Facts
constant = record { table = true; selects = false; fixed = true; still = true; own = false }

-- a selector with a moment
abbrev pub selected : Moment → Facts
selected moment = record constant { selects = true; fixed = has_fixed moment.fixed }

-- a table of two parts, of which each condition has to hold
abbrev pub both : Facts → Facts → Facts
both a b = record { table = true; selects = a.selects || b.selects; fixed = a.fixed && b.fixed; still = a.still && b.still; own = false }

abbrev pub all_of : Facts → List Facts → Facts
all_of facts [] = facts
all_of facts (more ∷ rest) = all_of (both facts more) rest

-- a function of windows, which may read the instant
abbrev pub still_if : Bool → Facts → Facts
still_if b facts = record facts { still = b && facts.still }

-- ---- expressions that engines are asked for

-- the first of some is a selector, whose samples' own times are known
abbrev pub is_selector_first : List Facts → Bool
is_selector_first [] = false
is_selector_first (f ∷ fs) = f.own

-- a call that doesn't read the instant, by its arguments
abbrev pub is_still_call : Func → List Facts → Bool
is_still_call func.Timestamp arguments = is_selector_first arguments
is_still_call f arguments = steady_call f (map (λ (a : Facts). a.still) arguments)

-- what an expression is, by the same conditions as a plan; one that is a selector is known as such
abbrev pub part_facts : Node-F Facts Facts → Facts
part_facts (Node-F.Number value) = constant
part_facts (Node-F.Words text) = constant
part_facts (Node-F.Paren inner) = inner
part_facts (Node-F.Negate inner) = both constant inner
part_facts (Node-F.Select selector) = record (selected selector.moment) { own = true }
part_facts (Node-F.Range selector range) = record (selected selector.moment) { table = false }
part_facts (Node-F.Subquery inner range step moment) = record inner { table = false; fixed = has_fixed moment.fixed; own = false }
part_facts (Node-F.Call f arguments) = still_if (is_still_call f arguments) (all_of constant arguments)
part_facts (Node-F.Aggregate f by arguments) = all_of constant arguments
part_facts (Node-F.Pair op left right pairing) = both left right
part_facts (Node-F.Set op left right pairing) = both left right

abbrev pub known_part : Expr → Facts
known_part = fold-Expr Facts Facts part_facts (λ e. e.node)

abbrev pub is_table : PartKind → Bool
is_table part.Rows = true
is_table part.Windows = false
is_table (part.Partial f by) = true

-- ---- plans

-- What a node is, of what its children are. Three conditions decide: it has a selector; each of its selectors and subqueries has a
-- fixed time, or stands in a subquery of it that has one; and nothing in it reads the instant, which the time, predict_linear and the
-- timestamp of anything but a selector do.
abbrev pub node_facts : {A B : Type 0} → (B → Facts) → PlanNode-F A B → Facts
node_facts of (PlanNode-F.Number value) = constant
node_facts of PlanNode-F.Time = record constant { still = false }
node_facts of (PlanNode-F.Select rules moment stamped) = record (selected moment) { own = stamped }
node_facts of (PlanNode-F.Range rules moment range) = record (selected moment) { table = false }
node_facts of (PlanNode-F.Subquery inner range step moment) = record (of inner) { table = false; fixed = has_fixed moment.fixed; own = false }
node_facts of (PlanNode-F.Element f inner arguments) = all_of (both constant (of inner)) (map of arguments)
node_facts of (PlanNode-F.Stamp inner) = still_if (of inner).own (both constant (of inner))
node_facts of (PlanNode-F.Window f inner arguments) = still_if (steady_window f) (all_of (both constant (of inner)) (map of arguments))
node_facts of (PlanNode-F.Absent labels inner) = both constant (of inner)
node_facts of (PlanNode-F.Buckets quantile inner) = both (of quantile) (of inner)
node_facts of (PlanNode-F.Relabel rule inner) = both constant (of inner)
node_facts of (PlanNode-F.Sort down inner) = both constant (of inner)
node_facts of (PlanNode-F.ScalarOf inner) = both constant (of inner)
node_facts of (PlanNode-F.VectorOf inner) = both constant (of inner)
node_facts of (PlanNode-F.Group f by arguments label) = all_of constant (map of arguments)
node_facts of (PlanNode-F.Pair op left right pairing) = both (of left) (of right)
node_facts of (PlanNode-F.Set op left right pairing) = both (of left) (of right)
node_facts of (PlanNode-F.Filter base rules) = record (of base) { own = false }
node_facts of (PlanNode-F.Ratio sum count) = both (of sum) (of count)
node_facts of (PlanNode-F.Once inner) = of inner
node_facts of (PlanNode-F.Gather expr kind engines) = record (known_part expr) { table = is_table kind; own = false }

abbrev pub known : Plan → Facts
known = fold-Plan Facts Facts (node_facts (λ f. f)) (λ p. p.node)

abbrev pub is_steady : Facts → Bool
is_steady facts = facts.fixed && facts.still

-- what is computed once: numbers or a vector of a selector, the same at each instant
abbrev pub is_once : Facts → Bool
is_once facts = facts.table && facts.selects && is_steady facts

-- ---- what stands under a Once node

-- what is known of a plan, and whether each Once node in it stands over a steady plan
pub record Checked : Type 0 where
  pub facts : Facts
  pub good : Bool

abbrev pub all_good : List Checked → Bool
all_good checked = all_hold (map (λ (c : Checked). c.good) checked)

abbrev pub node_good : {A : Type 0} → PlanNode-F A Checked → Bool
node_good (PlanNode-F.Number value) = true
node_good PlanNode-F.Time = true
node_good (PlanNode-F.Select rules moment stamped) = true
node_good (PlanNode-F.Range rules moment range) = true
node_good (PlanNode-F.Subquery inner range step moment) = inner.good
node_good (PlanNode-F.Element f inner arguments) = inner.good && all_good arguments
node_good (PlanNode-F.Stamp inner) = inner.good
node_good (PlanNode-F.Window f inner arguments) = inner.good && all_good arguments
node_good (PlanNode-F.Absent labels inner) = inner.good
node_good (PlanNode-F.Buckets quantile inner) = quantile.good && inner.good
node_good (PlanNode-F.Relabel rule inner) = inner.good
node_good (PlanNode-F.Sort down inner) = inner.good
node_good (PlanNode-F.ScalarOf inner) = inner.good
node_good (PlanNode-F.VectorOf inner) = inner.good
node_good (PlanNode-F.Group f by arguments label) = all_good arguments
node_good (PlanNode-F.Pair op left right pairing) = left.good && right.good
node_good (PlanNode-F.Set op left right pairing) = left.good && right.good
node_good (PlanNode-F.Filter base rules) = base.good
node_good (PlanNode-F.Ratio sum count) = sum.good && count.good
node_good (PlanNode-F.Once inner) = inner.good && is_steady inner.facts
node_good (PlanNode-F.Gather expr kind engines) = true

abbrev pub node_checked : PlanNode-F Checked Checked → Checked
node_checked y = record { facts = node_facts (λ (c : Checked). c.facts) y; good = node_good y }

abbrev pub checked : Plan → Checked
checked = fold-Plan Checked Checked node_checked (λ p. p.node)

-- each Once node of a plan stands over a steady plan
abbrev pub OncesAreSteady : Plan → Type 0
OncesAreSteady p = (checked p).good ≡ true

-- a steady plan means the same at each instant
abbrev pub SteadyPlanStays : Type 0
SteadyPlanStays = (asked : Asked) (p : Plan) (t u : ℤ) → is_steady (known p) ≡ true → plan_meaning asked p t ≡ plan_meaning asked p u
