-- What is true of the expression of a plan, which engines can be asked for in the place of the plan. (This project's own.)
use Rattle.std.specs.Prelude.{◌≡◌, ◌≤◌, ℕ, ℤ, true, false, [], Contains, ⊤}
use Rattle.label_set.specs.declared.rules.PatternId.{PatternId}
use Rattle.promql_ast.specs.Depth.{depth}
use Rattle.promql_ast.specs.Parts.{AreWithin, parts_of}
use Rattle.promql_meaning.specs.Meaning.{meaning}
use Rattle.promql_meaning.specs.Results.{gives_scalar}
use Rattle.promql_meaning.specs.Selecting.{Asked}
use Rattle.promql_type.specs.Judging.{judged}
use Rattle.promql_type.specs.Points.{crowded}
use Rattle.promql_type.specs.Replacements.{Kept}
use Rattle.promql_type.specs.Settled.{kind_of}
use Rattle.promql_type.specs.declared.kind.Kind.TheVariants.{Scalar, Vector}
use Rattle.promql_type.specs.declared.replace.Replacement.{Replacement}
use Rattle.logical_plan.specs.PartExprs.{expression_of, is_expressible}
use Rattle.logical_plan.specs.PlanMeaning.{plan_meaning}
use Rattle.logical_plan.specs.PlanRules.{pattern_text}
use Rattle.logical_plan.specs.PlanTypes.{IsTyped, is_vector, typing}
use Rattle.logical_plan.specs.Shown.{shown}
use Rattle.logical_plan.specs.Steadiness.{checked, known_part}
use Rattle.logical_plan.specs.Validity.{HasOnePattern, measured}
use Rattle.logical_plan.specs.declared.nodes.Plan.{Plan}

-- a plan that has an expression: a typed one of nodes that have expressions, no selector itself whose samples' own times a timestamp reads
pub record HasExpression (p : Plan) : Type 0 where
  pub typed : IsTyped p
  pub expressible : is_expressible p ≡ true

-- ---- what it means

-- it means what the plan means, where label_replace nodes of one place have one pattern
abbrev pub ExpressionsMean : Type 0
ExpressionsMean =
    (kept : Kept) (asked : Asked) (p : Plan) (t : ℤ) → asked.kept ≡ kept → HasExpression p → HasOnePattern (measured p).replaced
    → shown (meaning asked (expression_of kept p) t) ≡ plan_meaning asked p t

-- ---- what it gives

-- the pattern of a label_replace call is that of a node of the plan at the same place
pub record IsPatternOf (kept : Kept) (p : Plan) (call : Replacement) : Type 0 where
  pub node : ℕ × PatternId
  pub among : Contains (measured p).replaced node
  pub place : call.at ≡ node.0
  pub text : call.text ≡ pattern_text kept node.1

-- nothing in it is refused, and it gives what the plan gives
pub record IsUnrefused (kept : Kept) (p : Plan) : Type 0 where
  pub gives : kind_of (expression_of kept p) ≡ (typing p).kind
  pub none : (judged (expression_of kept p)).refusals ≡ []
  pub points : (around : ℕ) → (measured p).few around ≡ true → crowded (expression_of kept p) around ≡ []
  pub patterns : (call : Replacement) → Contains (judged (expression_of kept p)).replacements call → IsPatternOf kept p call

abbrev pub ExpressionsAreUnrefused : Type 0
ExpressionsAreUnrefused = (kept : Kept) (p : Plan) → HasExpression p → IsUnrefused kept p

-- engines can be asked for the rows of one that gives a vector, where subqueries have few enough points and label_replace nodes of one
-- place one pattern
abbrev pub VectorsAreParts : Type 0
VectorsAreParts =
    (kept : Kept) (p : Plan) → HasExpression p → (typing p).kind ≡ Vector → (measured p).few 1 ≡ true → HasOnePattern (measured p).replaced
    → is_vector (expression_of kept p) ≡ true

-- ---- its limits

-- it is within the limits that the plan is within, and no deeper
pub record IsWithinPlan (kept : Kept) (p : Plan) : Type 0 where
  pub within : (longest latest : ℕ) → AreWithin (λ rules. ⊤) longest latest (measured p).parts → AreWithin (λ rules. ⊤) longest latest (parts_of (expression_of kept p))
  pub shallow : depth (expression_of kept p) ≤ (measured p).depth

abbrev pub ExpressionsAreWithin : Type 0
ExpressionsAreWithin = (kept : Kept) (p : Plan) → HasExpression p → IsWithinPlan kept p

-- ---- what it reads

-- its selectors and subqueries have fixed times where those of the plan have, and it reads the instant only where the plan does
pub record IsAsSteadyAsPlan (kept : Kept) (p : Plan) : Type 0 where
  pub fixed : (checked p).facts.fixed ≡ true → (known_part (expression_of kept p)).fixed ≡ true
  pub still : (checked p).facts.still ≡ true → (known_part (expression_of kept p)).still ≡ true

abbrev pub ExpressionsAreAsSteady : Type 0
ExpressionsAreAsSteady = (kept : Kept) (p : Plan) → HasExpression p → IsAsSteadyAsPlan kept p

-- that of a plan without selectors has none
abbrev pub ExpressionsHaveNoSelector : Type 0
ExpressionsHaveNoSelector = (kept : Kept) (p : Plan) → HasExpression p → (checked p).facts.selects ≡ false → (known_part (expression_of kept p)).selects ≡ false

-- that of a plan that gives a scalar gives a scalar
abbrev pub ScalarsGiveScalars : Type 0
ScalarsGiveScalars = (kept : Kept) (p : Plan) → HasExpression p → (typing p).kind ≡ Scalar → gives_scalar (expression_of kept p) ≡ true
