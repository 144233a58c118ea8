-- What keeps agreement: nodes over children that agree, and plans in which parts are replaced by others that agree. (This project's own.)
use Rattle.std.specs.Prelude.{◌≡◌, ℤ, Bool, List, None, Some, unwrap_or}
use Rattle.promql_ast.specs.declared.tree.Expr.{Expr}
use Rattle.ticks.specs.declared.moment.Ms.{Ms}
use Rattle.step_table.specs.Timed.{steps_over}
use Rattle.step_table.specs.WellFormed.{AreSets}
use Rattle.step_cells.specs.CellLaws.{Agree}
use Rattle.promql_meaning.specs.Results.{judged}
use Rattle.promql_meaning.specs.Selecting.{Asked}
use Rattle.logical_plan.specs.Lowering.{planned}
use Rattle.logical_plan.specs.Onces.{node_over}
use Rattle.logical_plan.specs.PlanMeaning.{Meant, node_meant, plan_meant, plan_step}
use Rattle.logical_plan.specs.declared.nodes.Plan.{Plan}
use Rattle.logical_plan.specs.declared.nodes.PlanNode.TheOpen.{PlanNode-F}
use Rattle.logical_plan.specs.declared.nodes.PlanNode.TheViews.{out-PlanNode}
use Rattle.plan_agreement.specs.Agreements.{AgreeMeants}
use Rattle.plan_agreement.specs.Descents.{Replacing, descended}
use Rattle.plan_agreement.specs.SameNodes.{SameNode}

-- ---- nodes

-- a node over children that agree agrees
abbrev pub NodesKeepAgreement : Type 0
NodesKeepAgreement = (asked : Asked) (y z : PlanNode-F Meant Meant) → SameNode AgreeMeants y z → AgreeMeants (node_meant asked y) (node_meant asked z)

-- ---- parts that are replaced

-- what is put in the place of a plan agrees with it
abbrev pub ReplacesAgreeing : Asked → Replacing → Type 0
ReplacesAgreeing asked f = (p q : Plan) → f p ≡ Some q → AgreeMeants (plan_meant asked q) (plan_meant asked p)

-- so does a plan with what it was before parts of it were replaced
abbrev pub DescentsKeepAgreement : Type 0
DescentsKeepAgreement = (asked : Asked) (f : Replacing) (p : Plan) → ReplacesAgreeing asked f → AgreeMeants (plan_meant asked (descended f p)) (plan_meant asked p)

-- what becomes of a plan: the one that is put in its place, or else its node over what becomes of its children
abbrev pub DescentIsByNode : Type 0
DescentIsByNode = (f : Replacing) (p : Plan) → descended f p ≡ unwrap_or (f p) (planned p.at (node_over (descended f) (out-PlanNode p.node)))

-- a plan in which nothing is replaced is left as it is
abbrev pub NothingReplacedIsItself : Type 0
NothingReplacedIsItself = (f : Replacing) (p : Plan) → ((q : Plan) → f q ≡ None) → descended f p ≡ p

-- ---- results

-- the notes and marks of what a plan gives are sets
abbrev pub PlansHaveSets : Type 0
PlansHaveSets = (asked : Asked) (p : Plan) (t : ℤ) → AreSets (plan_step asked p t).marks

-- plans agree where their steps agree at each instant, and evaluations of plans that agree come to the same
abbrev pub PlansAgree : Asked → Plan → Plan → Type 0
PlansAgree asked p q = (t : ℤ) → Agree (plan_step asked p t) (plan_step asked q t)

abbrev pub AgreeingPlansEndAlike : Type 0
AgreeingPlansEndAlike =
    (asked : Asked) (instant : Bool) (e : Expr) (p q : Plan) (times : List Ms)
    → PlansAgree asked p q
    → judged instant e (steps_over (plan_step asked p) times) ≡ judged instant e (steps_over (plan_step asked q) times)

-- plans whose meanings agree do
abbrev pub AgreeingMeaningsAgree : Type 0
AgreeingMeaningsAgree = (asked : Asked) (p q : Plan) → AgreeMeants (plan_meant asked p) (plan_meant asked q) → PlansAgree asked p q
