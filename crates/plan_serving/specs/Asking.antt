-- Which parts kernels let engines be asked for: the rows of a selector, or of its timestamp, and the windows of a range selector, of engines
-- whose numbers rise. (This project's own.)
use Rattle.std.specs.Prelude.{ℕ, ◌&&◌, ◌||◌, nat_lt, Bool, true, List, [], ◌∷◌, is_some, Option, None, Some}
use Rattle.func_table.specs.declared.table.Func.{Func}
use Rattle.func_table.specs.declared.table.Func.TheVariants.{Timestamp}
use Rattle.label_set.specs.declared.rules.Rule.{Rule}
use Rattle.promql_ast.specs.declared.tree.Expr.{Expr}
use Rattle.promql_ast.specs.declared.tree.Node.TheOpen.{Node-F}
use Rattle.promql_ast.specs.declared.tree.Node.TheViews.{out-Node}
use Rattle.promql_ast.specs.declared.tree.Selector.{Selector}
use Rattle.step_table.specs.declared.cells.PartKind.{PartKind}
use Rattle.step_table.specs.declared.cells.PartKind.TheVariants as part
use Rattle.ticks.specs.declared.moment.Ms.{Ms}

-- ---- rows

-- the selector that a node is
abbrev pub plain_selector : {A B : Type 0} → Node-F A B → Option Selector
plain_selector (Node-F.Select selector) = Some selector
plain_selector y = None

-- the selector that the timestamp is of, which a call is
abbrev pub stamped_selector : Func → List Expr → Option Selector
stamped_selector Timestamp (e ∷ []) = plain_selector (out-Node e.node)
stamped_selector f arguments = None

-- the selector that a node is, or that it is the timestamp of
abbrev pub selector_in : {A : Type 0} → Node-F A Expr → Option Selector
selector_in (Node-F.Select selector) = Some selector
selector_in (Node-F.Call f arguments) = stamped_selector f arguments
selector_in y = None

-- the selector whose rows engines are asked for, if it is that
abbrev pub asked_selector : PartKind → Expr → Option Selector
asked_selector part.Rows expr = selector_in (out-Node expr.node)
asked_selector kind expr = None

abbrev pub is_rows_part : PartKind → Expr → Bool
is_rows_part kind expr = is_some (asked_selector kind expr)

-- the rules of that selector
abbrev pub rules_in : Option Selector → List Rule
rules_in None = []
rules_in (Some selector) = selector.rules

-- ---- windows

-- a selector, and how far its windows go back
pub record RangeAsked : Type 0 where
  pub selector : Selector
  pub range : Ms

-- the range selector that a node is
abbrev pub range_in : {A B : Type 0} → Node-F A B → Option RangeAsked
range_in (Node-F.Range selector range) = Some (record { selector = selector; range = range })
range_in y = None

-- the range selector whose windows engines are asked for, if it is that
abbrev pub asked_range : PartKind → Expr → Option RangeAsked
asked_range part.Windows expr = range_in (out-Node expr.node)
asked_range kind expr = None

abbrev pub is_range_part : PartKind → Expr → Bool
is_range_part kind expr = is_some (asked_range kind expr)

-- the rules of its selector
abbrev pub rules_in_range : Option RangeAsked → List Rule
rules_in_range None = []
rules_in_range (Some asked) = asked.selector.rules

-- ---- both

abbrev pub is_served_part : PartKind → Expr → Bool
is_served_part kind expr = is_rows_part kind expr || is_range_part kind expr

abbrev pub asked_rules : PartKind → Expr → List Rule
asked_rules part.Windows expr = rules_in_range (asked_range part.Windows expr)
asked_rules kind expr = rules_in (asked_selector kind expr)

-- ---- engines

-- each number is below the next one
abbrev pub is_rising : List ℕ → Bool
is_rising [] = true
is_rising (n ∷ []) = true
is_rising (n ∷ m ∷ numbers) = nat_lt n m && is_rising (m ∷ numbers)
