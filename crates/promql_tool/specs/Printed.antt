-- What is printed of an expression: its canonical text, or the lines of its plan; or why it is refused. (This project's own.)
use Rattle.std.specs.Prelude.{ℕ, false, List, [], ◌++◌, codes}
use Rattle.logical_plan.specs.declared.nodes.Plan.{Plan}
use Rattle.plan_rewrites.specs.declared.choosing.Choices.{Choices as Rewrites}
use Rattle.plan_text.specs.PlanLines.{lines_of}
use Rattle.promql_ast.specs.declared.refusal.QueryRefusal.{QueryRefusal}
use Rattle.promql_ast.specs.declared.tree.Expr.{Expr}
use Rattle.promql_meaning.specs.declared.answer.Outcome.TheVariants as outcome
use Rattle.promql_print.specs.Canonical.{canonical}
use Rattle.promql_type.specs.Replacements.{Kept}
use Rattle.query_engine.specs.Evaluating.{IsRefusedWith, StandsFor}
use Rattle.query_engine.specs.Planning.{HasPlan}
use Rattle.tool_words.specs.declared.asked.Optimisers.{Optimisers}
use Rattle.promql_tool.specs.Query.{outcome_report}
use Rattle.promql_tool.specs.Texts.{Report}

-- the report of a refusal, as of a query that is refused
abbrev pub refused_report : QueryRefusal → Report
refused_report refusal = outcome_report (outcome.Refused refusal) []

-- ---- format

-- the report of a tree whose patterns are kept: its canonical text, in a line
abbrev pub tree_report : Kept → Expr → Report
tree_report kept tree = record { text = canonical kept tree ++ codes "\n"; status = 0 }

-- the report of an expression: of the typed tree that it stands for, or of its refusal
pub data Formatted (expr : List ℕ) : Report → Type 0 where
  taken : (kept : Kept) (tree : Expr) → StandsFor expr kept tree → Formatted expr (tree_report kept tree)
  refused : (refusal : QueryRefusal) → IsRefusedWith expr refusal → Formatted expr (refused_report refusal)

-- ---- explain

-- the rewrites among the optimisers that are chosen
abbrev pub rewrites_in : Optimisers → Rewrites
rewrites_in o = record { sort = o.sort; propagate = o.propagate; merge = o.merge; trim = o.trim; avg = o.avg }

-- the report of a plan whose patterns are kept: its lines
abbrev pub plan_report : Kept → Plan → Report
plan_report kept plan = record { text = lines_of kept plan []; status = 0 }

-- the report of an expression's plan over so many engines: of the one behind these rewrites, or of the expression's refusal
pub data Explained (engines : ℕ) (rewrites : Rewrites) (expr : List ℕ) : Report → Type 0 where
  planned : (kept : Kept) (plan : Plan) → HasPlan expr engines rewrites false kept plan → Explained engines rewrites expr (plan_report kept plan)
  unplanned : (refusal : QueryRefusal) → IsRefusedWith expr refusal → Explained engines rewrites expr (refused_report refusal)
