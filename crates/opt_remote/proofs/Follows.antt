-- What a fold makes of a plan and of what becomes of it, and when a relation between both follows from one between their parts.
use Rattle.std.proofs.Common.{ℕ, List, [], ◌∷◌, map, true, false}
use Rattle.func_table.specs.declared.table.Func.TheVariants.{Timestamp}
use Rattle.label_set.specs.declared.rules.Rule.{Rule}
use Rattle.promql_ast.specs.declared.tree.Expr.{Expr}
use Rattle.promql_ast.specs.declared.tree.Moment.{Moment}
use Rattle.promql_ast.specs.declared.tree.Node.TheVariants.{Call, Range, Select}
use Rattle.step_table.specs.declared.cells.PartKind.TheVariants as part
use Rattle.ticks.specs.declared.moment.Ms.{Ms}
use Rattle.logical_plan.specs.PartExprs.{expressed}
use Rattle.logical_plan.specs.PlanRules.{selector_of}
use Rattle.logical_plan.specs.declared.nodes.PlanNode.TheOpen.{PlanNode-F, Plan-F}
use Rattle.logical_plan.specs.declared.nodes.PlanNode.TheFolds.{map-PlanNode}

-- what a fold makes of a child, and of what becomes of it
pub record Child (B : Type 0) (K : B → B → Type 0) : Type 0 where
  pub before : B
  pub after : B
  pub kept : K before after

abbrev pub befores : {B : Type 0} {K : B → B → Type 0} → List (Child B K) → List B
befores {B} {K} cs = map (λ (c : Child B K). c.before) cs

abbrev pub afters : {B : Type 0} {K : B → B → Type 0} → List (Child B K) → List B
afters {B} {K} cs = map (λ (c : Child B K). c.after) cs

abbrev pub before_of : {A B : Type 0} {K : B → B → Type 0} → PlanNode-F A (Child B K) → PlanNode-F A B
before_of {A} {B} {K} = map-PlanNode A (Child B K) A B (λ a. a) (λ (c : Child B K). c.before)

abbrev pub after_of : {A B : Type 0} {K : B → B → Type 0} → PlanNode-F A (Child B K) → PlanNode-F A B
after_of {A} {B} {K} = map-PlanNode A (Child B K) A B (λ a. a) (λ (c : Child B K). c.after)

-- an instant selector as an expression, a timestamp over one, and a range selector
abbrev pub instant : ℕ → List Rule → Moment → Expr
instant at rules moment = expressed at (Select (selector_of rules moment))

abbrev pub timestamp : ℕ → ℕ → List Rule → Moment → Expr
timestamp at within rules moment = expressed at (Call Timestamp (instant within rules moment ∷ []))

abbrev pub ranged : ℕ → List Rule → Moment → Ms → Expr
ranged at rules moment range = expressed at (Range (selector_of rules moment) range)

-- A relation between what a fold makes of plans before and after selectors became parts that these engines are asked for: what it has to
-- be.
pub record Follows (A B : Type 0) (node_step : PlanNode-F A B → A) (plan_step : Plan-F A B → B) (K : B → B → Type 0) (engines : List ℕ) : Type 0 where
  pub itself : (b : B) → K b b
  pub joined : (a b c : B) → K a b → K b c → K a c
  -- a node over children that are related
  pub levels : (at : ℕ) (y : PlanNode-F A (Child B K)) → K (plan_step (record { at = at; node = node_step (before_of y) })) (plan_step (record { at = at; node = node_step (after_of y) }))
  -- a selector, a timestamp over one and a range selector, and the parts that they become
  pub rows : (at : ℕ) (rules : List Rule) (moment : Moment)
      → K (plan_step (record { at = at; node = node_step (PlanNode-F.Select rules moment false) }))
      (plan_step (record { at = at; node = node_step (PlanNode-F.Gather (instant at rules moment) part.Rows engines) }))
  pub times : (at within : ℕ) (rules : List Rule) (moment : Moment)
      → K (plan_step (record { at = at; node = node_step (PlanNode-F.Stamp (plan_step (record { at = within; node = node_step (PlanNode-F.Select rules moment true) }))) }))
      (plan_step (record { at = at; node = node_step (PlanNode-F.Gather (timestamp at within rules moment) part.Rows engines) }))
  pub windows : (at : ℕ) (rules : List Rule) (moment : Moment) (range : Ms)
      → K (plan_step (record { at = at; node = node_step (PlanNode-F.Range rules moment range) }))
      (plan_step (record { at = at; node = node_step (PlanNode-F.Gather (ranged at rules moment range) part.Windows engines) }))
  -- a Once node over a selector whose own times are read, and that selector
  pub onces : (at within : ℕ) (rules : List Rule) (moment : Moment)
      → K (plan_step (record { at = at; node = node_step (PlanNode-F.Once (plan_step (record { at = within; node = node_step (PlanNode-F.Select rules moment true) }))) }))
      (plan_step (record { at = at; node = node_step (PlanNode-F.Select rules moment true) }))
