-- The canonical text of a query's tree: of the texts that are read as it, the one that `format` prints. Its blanks and its order
-- are this project's own; the rest is the grammar of the Prometheus querying documentation. Parentheses stand where the tree has
-- them, and the left edge of windows, which is an option of an evaluation, stands in no text.
use Rattle.std.specs.Prelude.{ℕ, zero, ℤ, pos, Bool, if◌then◌else◌, List, [], ◌++◌, codes, Option, Some, None}
use Rattle.std.specs.Option.{option_map_or}
use Rattle.func_table.specs.Naming.{aggregate_name, function_name}
use Rattle.frac_text.specs.Spellings.{spelling as number_spelling}
use Rattle.label_set.specs.LabelText.{quoted}
use Rattle.label_set.specs.declared.rules.Rule.{Rule}
use Rattle.promql_ast.specs.declared.tree.Fixed.{Fixed}
use Rattle.promql_ast.specs.declared.tree.Fixed.TheVariants.{At, Start, End}
use Rattle.promql_ast.specs.declared.tree.Moment.{Moment}
use Rattle.promql_ast.specs.declared.tree.Expr.{Expr}
use Rattle.promql_ast.specs.declared.tree.Node.TheOpen.{Node-F}
use Rattle.promql_ast.specs.declared.tree.Node.TheFolds.{fold-Expr}
use Rattle.promql_print.specs.Labels.{in_parens, rules_text}
use Rattle.promql_print.specs.Operators.{grouping_words, pair_words, pairing_words, set_word, tells_grouping}
use Rattle.ticks.specs.Spellings.{spelling as duration_spelling}
use Rattle.ticks.specs.declared.moment.Ms.{Ms}
use Rattle.xfrac.specs.Forming.{formed}
use Rattle.xfrac.specs.declared.value.XFrac.{XFrac}
use Rattle.xfrac.specs.declared.value.XFrac.TheVariants.{PosInf}

-- ---- numbers and times

-- an infinity needs no sign
abbrev pub number_text : XFrac → List ℕ
number_text PosInf = codes "Inf"
number_text value = number_spelling value

abbrev pub duration_text : Ms → List ℕ
duration_text duration = duration_spelling duration.0

-- a time in seconds, which each time has
abbrev pub seconds_text : Ms → List ℕ
seconds_text time = option_map_or number_spelling (formed time.0 1000) []

abbrev pub fixed_text : Option Fixed → List ℕ
fixed_text None = []
fixed_text (Some (At time)) = codes " @ " ++ seconds_text time
fixed_text (Some Start) = codes " @ start()"
fixed_text (Some End) = codes " @ end()"

-- an offset of 0 is not told
abbrev pub offset_text : ℤ → List ℕ
offset_text (pos zero) = []
offset_text offset = codes " offset " ++ duration_spelling offset

-- what stands behind a selector or a subquery
abbrev pub moment_text : Moment → List ℕ
moment_text moment = fixed_text moment.fixed ++ offset_text moment.offset.0

abbrev pub select_text : List (Bool × List ℕ) → List Rule → Moment → List ℕ
select_text kept rules moment = rules_text kept rules ++ moment_text moment

abbrev pub range_text : List (Bool × List ℕ) → List Rule → Ms → Moment → List ℕ
range_text kept rules range moment = rules_text kept rules ++ (codes "[" ++ (duration_text range ++ (codes "]" ++ moment_text moment)))

-- the brackets of a subquery, with its step, and what stands behind them
abbrev pub steps_text : Ms → Ms → Moment → List ℕ
steps_text range step moment = codes "[" ++ (duration_text range ++ (codes ":" ++ (duration_text step ++ (codes "]" ++ moment_text moment))))

-- ---- trees

-- a blank, where something is told before the arguments
abbrev pub blank : Bool → List ℕ
blank told = if told then codes " " else []

-- one node, with the texts of its children
abbrev pub node_text : List (Bool × List ℕ) → Node-F (List ℕ) (List ℕ) → List ℕ
node_text kept (Node-F.Number value) = number_text value
node_text kept (Node-F.Words text) = quoted text
node_text kept (Node-F.Paren inner) = codes "(" ++ (inner ++ codes ")")
node_text kept (Node-F.Negate inner) = codes "-" ++ inner
node_text kept (Node-F.Select selector) = select_text kept selector.rules selector.moment
node_text kept (Node-F.Range selector range) = range_text kept selector.rules range selector.moment
node_text kept (Node-F.Subquery inner range step moment) = inner ++ steps_text range step moment
node_text kept (Node-F.Call f arguments) = function_name f ++ in_parens arguments
node_text kept (Node-F.Aggregate f grouping arguments) =
    aggregate_name f ++ (grouping_words grouping ++ (blank (tells_grouping grouping) ++ in_parens arguments))
node_text kept (Node-F.Pair op left right pairing) = left ++ (codes " " ++ (pair_words op ++ (pairing_words pairing ++ (codes " " ++ right))))
node_text kept (Node-F.Set op left right pairing) = left ++ (codes " " ++ (set_word op ++ (pairing_words pairing ++ (codes " " ++ right))))

-- the canonical text of a tree whose patterns are kept under their numbers
abbrev pub canonical : List (Bool × List ℕ) → Expr → List ℕ
canonical kept = fold-Expr (List ℕ) (List ℕ) (node_text kept) (λ e. e.node)
