-- What is known of a typed tree before it is evaluated. (Our own.)
use Rattle.std.specs.Prelude.{◌≡◌, ℕ, Bool, List}
use Rattle.frac_text.specs.Times.{time_limit}
use Rattle.logical_plan.specs.Validity.{IsWithinLimits}
use Rattle.match_rule.specs.Patterns.{HaveTheirPatterns}
use Rattle.promql_ast.specs.Edged.{edged}
use Rattle.promql_ast.specs.Parts.{AreWithin, parts_of}
use Rattle.promql_ast.specs.declared.tree.Expr.{Expr}
use Rattle.promql_type.specs.Judging.{judged}
use Rattle.promql_type.specs.Replacements.{AreKept, Kept}
use Rattle.promql_type.specs.TypedTrees.{placed_of, tree_of}
use Rattle.promql_type.specs.declared.typed_tree.Typed.{Typed}
use Rattle.query_engine.specs.Evaluating.{StandsFor}
use Rattle.ticks.specs.Durations.{hundred_years}

-- It is the tree that a text stands for, with the edge that is asked for; it is within the limits of the language, its lengths, offsets
-- and times too, and its patterns are kept.
pub record IsReadyTree (text : List ℕ) (closed : Bool) (kept : Kept) (t : Typed) : Type 0 where
  pub open_tree : Expr
  pub stands : StandsFor text kept open_tree
  pub edge : tree_of t ≡ edged closed open_tree
  pub within : AreWithin (HaveTheirPatterns kept) hundred_years time_limit (parts_of (tree_of t))
  pub limits : IsWithinLimits hundred_years time_limit (tree_of t)
  pub placed : AreKept kept (judged (tree_of t)).replacements (placed_of t)
