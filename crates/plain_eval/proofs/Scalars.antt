-- What is typed as a number is told as one.
use Rattle.std.proofs.Common.{◌≡◌, ◌∙◌, ℕ, Bool, false, ap, sym, subst, refl}
use Rattle.std.specs.Prelude.{◌&&◌}
use Rattle.func_table.specs.declared.table.Func.{Func}
use Rattle.func_table.specs.declared.table.Aggregate.{Aggregate}
use Rattle.func_table.specs.declared.table.Element.{Element}
use Rattle.func_table.specs.declared.table.Window.{Window as WindowFunction}
use Rattle.func_table.specs.declared.table.Func.TheVariants.{Element as OfElement, Window as OfWindow, Absent, AbsentOver, HistogramQuantile, LabelJoin, LabelReplace, Scalar as ToScalar, Sort, SortDesc, Time, Timestamp, Vector as ToVector}
use Rattle.func_table.specs.declared.table.Element.TheVariants.{Abs, Ceil, Floor, Round, Sgn, Neg, Clamp, ClampMin, ClampMax, Calendar}
use Rattle.func_table.specs.declared.table.Window.TheVariants.{Rate, Increase, Delta, Irate, Idelta, Deriv, PredictLinear, Changes, Resets, AvgOver, MinOver, MaxOver, SumOver, CountOver, StdvarOver, QuantileOver, LastOver, PresentOver}
use Rattle.func_table.specs.declared.table.Aggregate.TheVariants.{Sum, Avg, Min, Max, Count, Group, Stdvar, TopK, BottomK, Quantile, CountValues}
use Rattle.promql_type.specs.declared.kind.Kind.{Kind}
use Rattle.promql_type.specs.declared.kind.Kind.TheVariants.{Scalar, Vector, Windows, Words}
use Rattle.promql_type.specs.declared.signature.Callee.TheVariants.{Function, Aggregation}
use Rattle.promql_type.specs.Kinds.{both, is_scalar}
use Rattle.promql_type.specs.Signatures.{signature}
use Rattle.promql_type.specs.Judging.{Judgement, expr_step, judged, node_step}
use Rattle.promql_type.specs.Settled.{kind_of}
use Rattle.promql_ast.specs.declared.tree.Expr.{Expr}
use Rattle.promql_ast.specs.declared.tree.Node.{Node}
use Rattle.promql_ast.specs.declared.tree.Node.TheOpen.{Node-F}
use Rattle.promql_ast.specs.declared.tree.Node.TheViews.{roll-Node, roll-Expr}
use Rattle.promql_ast.specs.declared.tree.Node.TheFolds.{map-Node, fold-Node, fold-roll-Node, fold-roll-Expr, ind-Expr}
use Rattle.promql_meaning.specs.Results.{call_gives_scalar, gives_scalar, node_gives_scalar}

both_scalars : (a b : Kind) → is_scalar (both a b) ≡ (is_scalar a && is_scalar b)
both_scalars Scalar Scalar = refl
both_scalars Scalar Vector = refl
both_scalars Scalar Windows = refl
both_scalars Scalar Words = refl
both_scalars Vector Scalar = refl
both_scalars Vector Vector = refl
both_scalars Vector Windows = refl
both_scalars Vector Words = refl
both_scalars Windows Scalar = refl
both_scalars Windows Vector = refl
both_scalars Windows Windows = refl
both_scalars Windows Words = refl
both_scalars Words Scalar = refl
both_scalars Words Vector = refl
both_scalars Words Windows = refl
both_scalars Words Words = refl

same_scalar : (a : Kind) → is_scalar (both a a) ≡ is_scalar a
same_scalar Scalar = refl
same_scalar Vector = refl
same_scalar Windows = refl
same_scalar Words = refl

of_element : (f : Element) → is_scalar (signature (Function (OfElement f))).gives ≡ false
of_element Abs = refl
of_element Ceil = refl
of_element Floor = refl
of_element Round = refl
of_element Sgn = refl
of_element Neg = refl
of_element Clamp = refl
of_element ClampMin = refl
of_element ClampMax = refl
of_element (Calendar part) = refl

of_window : (f : WindowFunction) → is_scalar (signature (Function (OfWindow f))).gives ≡ false
of_window Rate = refl
of_window Increase = refl
of_window Delta = refl
of_window Irate = refl
of_window Idelta = refl
of_window Deriv = refl
of_window PredictLinear = refl
of_window Changes = refl
of_window Resets = refl
of_window AvgOver = refl
of_window MinOver = refl
of_window MaxOver = refl
of_window SumOver = refl
of_window CountOver = refl
of_window StdvarOver = refl
of_window QuantileOver = refl
of_window LastOver = refl
of_window PresentOver = refl

of_call : (f : Func) → is_scalar (signature (Function f)).gives ≡ call_gives_scalar f
of_call (OfElement f) = of_element f
of_call (OfWindow f) = of_window f
of_call Absent = refl
of_call AbsentOver = refl
of_call HistogramQuantile = refl
of_call LabelJoin = refl
of_call LabelReplace = refl
of_call ToScalar = refl
of_call Sort = refl
of_call SortDesc = refl
of_call Time = refl
of_call Timestamp = refl
of_call ToVector = refl

of_aggregation : (f : Aggregate) → is_scalar (signature (Aggregation f)).gives ≡ false
of_aggregation Sum = refl
of_aggregation Avg = refl
of_aggregation Min = refl
of_aggregation Max = refl
of_aggregation Count = refl
of_aggregation Group = refl
of_aggregation Stdvar = refl
of_aggregation TopK = refl
of_aggregation BottomK = refl
of_aggregation Quantile = refl
of_aggregation CountValues = refl

abbrev At : Type 0
At = ℕ → Judgement

abbrev node_judged : Node → At
node_judged = fold-Node At Judgement node_step expr_step

abbrev node_told : Node → Bool
node_told = fold-Node Bool Bool node_gives_scalar (λ e. e.node)

abbrev Agree : Judgement → Bool → Type 0
Agree j told = is_scalar j.operand.gives ≡ told

abbrev ExprAgrees : Expr → Type 0
ExprAgrees e = Agree (judged e) (gives_scalar e)

abbrev NodeAgrees : Node → Type 0
NodeAgrees n = (at : ℕ) → Agree (node_judged n at) (node_told n)

abbrev Part : Type 0
Part = Node-F ((n : Node) × NodeAgrees n) ((e : Expr) × ExprAgrees e)

abbrev plain : Part → Node-F Node Expr
plain = map-Node ((n : Node) × NodeAgrees n) ((e : Expr) × ExprAgrees e) Node Expr (λ n. n.0) (λ e. e.0)

level : (y : Part) (at : ℕ) → Agree (node_step (map-Node Node Expr At Judgement node_judged judged (plain y)) at) (node_gives_scalar (map-Node Node Expr Bool Bool node_told gives_scalar (plain y)))
level (Node-F.Number value) at = refl
level (Node-F.Words text) at = refl
level (Node-F.Paren e) at = e.1
level (Node-F.Negate e) at = same_scalar (judged e.0).operand.gives ∙ e.1
level (Node-F.Select selector) at = refl
level (Node-F.Range selector range) at = refl
level (Node-F.Subquery e range step moment) at = refl
level (Node-F.Call f items) at = of_call f
level (Node-F.Aggregate f by items) at = of_aggregation f
level (Node-F.Pair op a b pairing) at =
    both_scalars (judged a.0).operand.gives (judged b.0).operand.gives ∙ ap (λ l. l && is_scalar (judged b.0).operand.gives) a.1 ∙ ap (λ r. gives_scalar a.0 && r) b.1
level (Node-F.Set op a b pairing) at = refl

node_agrees : (y : Part) → NodeAgrees (roll-Node (plain y))
node_agrees y at =
    ap (λ f. is_scalar (f at).operand.gives) (fold-roll-Node At Judgement node_step expr_step (plain y)) ∙ level y at
    ∙ sym (fold-roll-Node Bool Bool node_gives_scalar (λ e. e.node) (plain y))

expr_agrees : (at : ℕ) (n : Node) → NodeAgrees n → ExprAgrees (roll-Expr (record { at = at; node = n }))
expr_agrees at n agrees =
    ap (λ (j : Judgement). is_scalar j.operand.gives) (fold-roll-Expr At Judgement node_step expr_step (record { at = at; node = n })) ∙ agrees at
    ∙ sym (fold-roll-Expr Bool Bool node_gives_scalar (λ e. e.node) (record { at = at; node = n }))

pub tells_scalar : (e : Expr) → is_scalar (kind_of e) ≡ gives_scalar e
tells_scalar = ind-Expr NodeAgrees ExprAgrees
    (λ x y is. subst (λ z. NodeAgrees (roll-Node z)) is (node_agrees y))
    (λ x y is. subst (λ z. ExprAgrees (roll-Expr z)) is (expr_agrees y.at y.node.0 y.node.1))
