-- The plan that a query's text is evaluated by. (The optimisers of thanos-io/promql-engine; their order is this project's own.)
use Rattle.std.specs.Prelude.{◌≡◌, ℕ, zero, suc, Bool, true, List, ⊤}
use Rattle.logical_plan.specs.Lowering.{lowered}
use Rattle.logical_plan.specs.Onces.{with_onces}
use Rattle.logical_plan.specs.PlanTypes.{typing}
use Rattle.logical_plan.specs.declared.nodes.Plan.{Plan}
use Rattle.match_rule.specs.Patterns.{HaveTheirPatterns}
use Rattle.opt_remote.specs.Gathering.{gathered_selectors}
use Rattle.opt_remote.specs.Parts.{AreAskedOf, parts_asked}
use Rattle.plan_rewrites.specs.Rewriting.{rewrites}
use Rattle.plan_rewrites.specs.declared.choosing.Choices.{Choices}
use Rattle.plan_serving.specs.Serving.{IsServed, IsServedOver}
use Rattle.promql_ast.specs.Edged.{edged}
use Rattle.promql_ast.specs.Parts.{AreWithin, parts_of}
use Rattle.promql_ast.specs.declared.refusal.QueryRefusal.{QueryRefusal}
use Rattle.promql_ast.specs.declared.tree.Expr.{Expr}
use Rattle.promql_lex.specs.declared.fault.LexFault.{LexFault}
use Rattle.promql_lex.specs.declared.fault.LexFault.TheVariants.{Refused, Memory}
use Rattle.promql_type.specs.Judging.{judged}
use Rattle.promql_type.specs.Kinds.{is_number}
use Rattle.promql_type.specs.Replacements.{AreKept, Kept}
use Rattle.promql_type.specs.declared.replace.Placed.{Placed}
use Rattle.query_engine.specs.Evaluating.{StandsFor}
use Rattle.query_engine.specs.declared.options.Options.{Options}

-- the rewrites among what is chosen
abbrev pub choices_of : Options → Choices
choices_of o = record { sort = o.sort; propagate = o.propagate; merge = o.merge; trim = o.trim; avg = o.avg }

-- the plan of a typed tree, behind the rewrites that are chosen
abbrev pub plan_of : Choices → Kept → List Placed → Expr → Plan
plan_of choices kept placed e = rewrites choices kept (with_onces (lowered placed e))

-- a plan gives a scalar or a vector
abbrev pub GivesNumbers : Plan → Type 0
GivesNumbers p = is_number (typing p).kind ≡ true

-- the plan of a typed tree, behind the rewrites that are chosen, in which so many engines are asked for each selector
abbrev pub gathered_plan : ℕ → Choices → Kept → List Placed → Expr → Plan
gathered_plan engines choices kept placed e = gathered_selectors engines kept (plan_of choices kept placed e)

-- the plan of a typed tree, behind the rewrites that are chosen; where engines are declared, all of them are asked for each selector
abbrev pub plan_over : ℕ → Choices → Kept → List Placed → Expr → Plan
plan_over zero choices kept placed e = plan_of choices kept placed e
plan_over (suc others) choices kept placed e = gathered_plan (suc others) choices kept placed e

-- a fact holds with any patterns that those of a tree are kept among
abbrev pub WhereKept : List Placed → Expr → (Kept → Type 0) → Type 0
WhereKept placed e Holds =
    (kept : Kept) (longest latest : ℕ) → AreWithin (HaveTheirPatterns kept) longest latest (parts_of e) → AreKept kept (judged e).replacements placed → Holds kept

-- kernels serve the plan of a tree with any patterns that the tree's are kept among, without engines or over some
abbrev pub IsServedWhereKept : List Placed → Expr → Plan → Type 0
IsServedWhereKept placed e p = WhereKept placed e (λ kept. IsServed kept p)

abbrev pub IsServedOverWhereKept : List Placed → Expr → Plan → Type 0
IsServedOverWhereKept placed e p = WhereKept placed e (λ kept. IsServedOver kept p)

-- each part that is asked for in the plan of a tree is a selector, of which all of these engines are asked
abbrev pub AsksAllWhereKept : List ℕ → List Placed → Expr → Plan → Type 0
AsksAllWhereKept engines placed e p = WhereKept placed e (λ kept. AreAskedOf engines (parts_asked p))

-- A plan is that of a text over so many engines, or over one store: of the typed tree that the text stands for, with the edge that is
-- asked for, whose label_replace calls have their patterns under their numbers.
pub record HasPlan (text : List ℕ) (engines : ℕ) (choices : Choices) (closed : Bool) (kept : Kept) (p : Plan) : Type 0 where
  pub tree : Expr
  pub placed : List Placed
  pub stands : StandsFor text kept tree
  pub patterns : AreKept kept (judged (edged closed tree)).replacements placed
  pub plan : p ≡ plan_over engines choices kept placed (edged closed tree)

-- a text has no plan by a refusal of which a fact holds, or for want of memory
abbrev pub MayRefuse : (QueryRefusal → Type 0) → LexFault → Type 0
MayRefuse P (Refused refusal) = P refusal
MayRefuse P Memory = ⊤
