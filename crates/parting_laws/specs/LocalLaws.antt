-- Expressions that are parted as the samples are: what makes such an expression of another one. (This project's own.)
use Rattle.std.specs.Prelude.{◌≡◌, ◌++◌, ◌⊎◌, ℕ, ℤ, Bool, true, false, List, [], ◌∷◌}
use Rattle.std.specs.List.{AllByRecursion}
use Rattle.func_table.specs.declared.table.Element.{Element}
use Rattle.func_table.specs.declared.table.Func.TheVariants as func
use Rattle.func_table.specs.declared.table.Window.{Window}
use Rattle.func_table.specs.declared.table.Window.TheVariants.{QuantileOver}
use Rattle.label_set.specs.Labels.{is_named}
use Rattle.label_set.specs.declared.rules.Pairing.{Pairing}
use Rattle.label_set.specs.declared.rules.Rule.{Rule}
use Rattle.promql_ast.specs.declared.tree.Expr.{Expr}
use Rattle.promql_ast.specs.declared.tree.Moment.{Moment}
use Rattle.promql_ast.specs.declared.tree.Node.TheFolds.{fold-Expr}
use Rattle.promql_ast.specs.declared.tree.Node.TheOpen.{Node-F}
use Rattle.promql_ast.specs.declared.tree.Node.TheVariants as node
use Rattle.promql_ast.specs.declared.tree.Selector.{Selector}
use Rattle.step_table.specs.Alike.{has_some}
use Rattle.ticks.specs.declared.moment.Ms.{Ms}
use Rattle.xfrac.specs.declared.value.PairOp.{PairOp}
use Rattle.promql_meaning.specs.Buckets.{bucket_label}
use Rattle.promql_meaning.specs.Meaning.{meaning}
use Rattle.promql_meaning.specs.Results.{gives_scalar}
use Rattle.promql_meaning.specs.Selecting.{AllSeries, Asked, passing}
use Rattle.parting_laws.specs.PartLaws.{over}
use Rattle.parting_laws.specs.Portions.{IsParted}

-- ---- constant scalars

-- the rules of the selectors that stand in some parts
abbrev pub all_rules : List (List (List Rule)) → List (List Rule)
all_rules [] = []
all_rules (rules ∷ parts) = rules ++ all_rules parts

abbrev pub node_rules : Node-F (List (List Rule)) (List (List Rule)) → List (List Rule)
node_rules (Node-F.Number value) = []
node_rules (Node-F.Words text) = []
node_rules (Node-F.Paren inner) = inner
node_rules (Node-F.Negate inner) = inner
node_rules (Node-F.Select selector) = selector.rules ∷ []
node_rules (Node-F.Range selector range) = selector.rules ∷ []
node_rules (Node-F.Subquery inner range step moment) = inner
node_rules (Node-F.Call f arguments) = all_rules arguments
node_rules (Node-F.Aggregate f by arguments) = all_rules arguments
node_rules (Node-F.Pair op left right pairing) = left ++ right
node_rules (Node-F.Set op left right pairing) = left ++ right

-- the rules of each selector of an expression, in the order of the text
abbrev pub rules_in : Expr → List (List Rule)
rules_in = fold-Expr (List (List Rule)) (List (List Rule)) node_rules (λ e. e.node)

-- whether a selector stands in it
abbrev pub has_selector : Expr → Bool
has_selector e = has_some (rules_in e)

-- where each selector selects the same series of two lists of samples, an expression means the same over both
abbrev pub SelectionsDecide : Type 0
SelectionsDecide =
    (asked : Asked) (a b : AllSeries) (e : Expr) (t : ℤ)
    → AllByRecursion (λ (rules : List Rule). passing a asked.kept rules ≡ passing b asked.kept rules) (rules_in e)
    → meaning (over a asked) e t ≡ meaning (over b asked) e t

-- so what has no selector means the same over any samples
abbrev pub ConstantsStay : Type 0
ConstantsStay = (asked : Asked) (samples : AllSeries) (e : Expr) (t : ℤ) → has_selector e ≡ false → meaning (over samples asked) e t ≡ meaning asked e t

-- ---- expressions that are parted

abbrev pub SelectorsAreParted : Type 0
SelectorsAreParted = (names : List (List ℕ)) (e : Expr) (selector : Selector) → e.node ≡ node.Select selector → IsParted names e

abbrev pub RangesAreParted : Type 0
RangesAreParted = (names : List (List ℕ)) (e : Expr) (selector : Selector) (range : Ms) → e.node ≡ node.Range selector range → IsParted names e

abbrev pub ParensAreParted : Type 0
ParensAreParted = (names : List (List ℕ)) (e inner : Expr) → e.node ≡ node.Paren inner → IsParted names inner → IsParted names e

-- the sign minus of a parted expression
abbrev pub SignsAreParted : Type 0
SignsAreParted = (names : List (List ℕ)) (e inner : Expr) → e.node ≡ node.Negate inner → IsParted names inner → IsParted names e

-- an element function of one, with arguments in which no selector stands
abbrev pub HaveNoSelector : List Expr → Type 0
HaveNoSelector items = AllByRecursion (λ (e : Expr). has_selector e ≡ false) items

abbrev pub ElementsAreParted : Type 0
ElementsAreParted =
    (names : List (List ℕ)) (e inner : Expr) (f : Element) (others : List Expr)
    → e.node ≡ node.Call (func.Element f) (inner ∷ others) → HaveNoSelector others → IsParted names inner → IsParted names e

-- an operator between one and a constant scalar, on either side
pub record IsConstantScalar (e : Expr) : Type 0 where
  pub constant : has_selector e ≡ false
  pub scalar : gives_scalar e ≡ true

abbrev pub RightScalarsAreParted : Type 0
RightScalarsAreParted =
    (names : List (List ℕ)) (e left right : Expr) (op : PairOp) (pairing : Pairing)
    → e.node ≡ node.Pair op left right pairing → IsConstantScalar right → IsParted names left → IsParted names e

abbrev pub LeftScalarsAreParted : Type 0
LeftScalarsAreParted =
    (names : List (List ℕ)) (e left right : Expr) (op : PairOp) (pairing : Pairing)
    → e.node ≡ node.Pair op left right pairing → IsConstantScalar left → IsParted names right → IsParted names e

-- sort and sort_desc
abbrev pub SortsAreParted : Type 0
SortsAreParted = (names : List (List ℕ)) (e inner : Expr) → (e.node ≡ node.Call func.Sort (inner ∷ [])) ⊎ (e.node ≡ node.Call func.SortDesc (inner ∷ [])) → IsParted names inner → IsParted names e

-- timestamp
abbrev pub TimestampsAreParted : Type 0
TimestampsAreParted = (names : List (List ℕ)) (e inner : Expr) → e.node ≡ node.Call func.Timestamp (inner ∷ []) → IsParted names inner → IsParted names e

-- a window function with arguments in which no selector stands; a quantile stands before its windows
abbrev pub is_quantile : Window → Bool
is_quantile QuantileOver = true
is_quantile _ = false

abbrev pub WindowFunctionsAreParted : Type 0
WindowFunctionsAreParted =
    (names : List (List ℕ)) (e inner : Expr) (f : Window) (others : List Expr)
    → e.node ≡ node.Call (func.Window f) (inner ∷ others) → is_quantile f ≡ false → HaveNoSelector others → IsParted names inner → IsParted names e

abbrev pub QuantilesAreParted : Type 0
QuantilesAreParted =
    (names : List (List ℕ)) (e quantile inner : Expr)
    → e.node ≡ node.Call (func.Window QuantileOver) (quantile ∷ inner ∷ []) → has_selector quantile ≡ false → IsParted names inner → IsParted names e

-- the windows of a subquery of one
abbrev pub SubqueriesAreParted : Type 0
SubqueriesAreParted = (names : List (List ℕ)) (e inner : Expr) (range step : Ms) (moment : Moment) → e.node ≡ node.Subquery inner range step moment → IsParted names inner → IsParted names e

-- label_replace and label_join, where the label that is set is none of those by which samples are parted
abbrev pub ReplacementsAreParted : Type 0
ReplacementsAreParted =
    (names : List (List ℕ)) (e inner target : Expr) (label : List ℕ) (others : List Expr)
    → e.node ≡ node.Call func.LabelReplace (inner ∷ target ∷ others) → target.node ≡ node.Words label → is_named names label ≡ false → HaveNoSelector others → IsParted names inner → IsParted names e

abbrev pub LabelJoinsAreParted : Type 0
LabelJoinsAreParted =
    (names : List (List ℕ)) (e inner target : Expr) (label : List ℕ) (others : List Expr)
    → e.node ≡ node.Call func.LabelJoin (inner ∷ target ∷ others) → target.node ≡ node.Words label → is_named names label ≡ false → HaveNoSelector others → IsParted names inner → IsParted names e

-- histogram_quantile, where `le` is none of those by which samples are parted, of a quantile in which no selector stands
abbrev pub HistogramsAreParted : Type 0
HistogramsAreParted =
    (names : List (List ℕ)) (e quantile inner : Expr)
    → e.node ≡ node.Call func.HistogramQuantile (quantile ∷ inner ∷ []) → is_named names bucket_label ≡ false → has_selector quantile ≡ false → IsParted names inner → IsParted names e
