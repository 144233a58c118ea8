-- Parts that may be asked for at each instant near the time 0: the rows or an aggregation of a plain selector. (This project's own.)
use Rattle.std.specs.Prelude.{◌≡◌, false, IsTrue, None, pos}
use Rattle.match_rule.specs.Patterns.{HaveTheirPatterns}
use Rattle.promql_ast.specs.declared.tree.Expr.{Expr}
use Rattle.promql_ast.specs.declared.tree.Moment.{Moment}
use Rattle.promql_ast.specs.declared.tree.Node.TheVariants.{Select}
use Rattle.promql_ast.specs.declared.tree.Selector.{Selector}
use Rattle.promql_type.specs.Replacements.{Kept}
use Rattle.step_cells.specs.Owed.{is_partial}
use Rattle.step_table.specs.declared.cells.PartKind.{PartKind}
use Rattle.step_table.specs.declared.cells.PartKind.TheVariants as part_kind

-- the instant itself, as the moment of an expression
abbrev pub own_moment : Moment
own_moment = record { fixed = None; offset = record { 0 = pos 0 }; closed = false }

-- the samples at the instant itself, by rules without patterns
pub record IsPlain (selector : Selector) : Type 0 where
  pub moment : selector.moment ≡ own_moment
  pub rules : (kept : Kept) → HaveTheirPatterns kept selector.rules

-- the expression is such a selector
pub record Selects (e : Expr) : Type 0 where
  pub selector : Selector
  pub plain : IsPlain selector
  pub node : e.node ≡ Select selector

abbrev pub IsAskable : PartKind → Expr → Type 0
IsAskable part_kind.Rows e = Selects e
IsAskable part_kind.Windows e = ⊥
IsAskable (part_kind.Partial f by) e = Selects e × IsTrue (is_partial f)
