-- A string of a typed tree means its text, and the pattern of a label_replace call is the text of its fifth argument.
use Rattle.std.proofs.Common.{◌≡◌, ◌∙◌, ℕ, zero, suc, List, [], ◌∷◌, map, ap, sym, subst, refl, Some}
use Rattle.std.specs.Prelude.{ℤ}
use Rattle.std.specs.List.{AllByRecursion}
use Rattle.func_table.specs.declared.table.Func.{Func}
use Rattle.func_table.specs.declared.table.Aggregate.{Aggregate}
use Rattle.func_table.specs.declared.table.Func.TheVariants.{Element, Window, Absent, AbsentOver, HistogramQuantile, LabelJoin, LabelReplace, Scalar as ToScalar, Sort, SortDesc, Time, Timestamp, Vector as ToVector}
use Rattle.func_table.specs.declared.table.Element.TheVariants.{Abs, Ceil, Floor, Round, Sgn, Neg, Clamp, ClampMin, ClampMax, Calendar}
use Rattle.func_table.specs.declared.table.Window.TheVariants.{Rate, Increase, Delta, Irate, Idelta, Deriv, PredictLinear, Changes, Resets, AvgOver, MinOver, MaxOver, SumOver, CountOver, StdvarOver, QuantileOver, LastOver, PresentOver}
use Rattle.func_table.specs.declared.table.Aggregate.TheVariants.{Sum, Avg, Min, Max, Count, Group, Stdvar, TopK, BottomK, Quantile, CountValues}
use Rattle.promql_type.specs.declared.kind.Kind.{Kind}
use Rattle.promql_type.specs.declared.kind.Kind.TheVariants.{Scalar, Vector as VectorKind, Windows, Words as WordsKind}
use Rattle.promql_type.specs.declared.signature.Callee.TheVariants.{Function, Aggregation}
use Rattle.promql_type.specs.Kinds.{both}
use Rattle.promql_type.specs.Signatures.{signature}
use Rattle.promql_ast.specs.declared.tree.Expr.{Expr}
use Rattle.promql_ast.specs.declared.tree.Node.{Node}
use Rattle.promql_ast.specs.declared.tree.Node.TheOpen.{Node-F}
use Rattle.promql_ast.specs.declared.tree.Node.TheViews.{roll-Node, roll-Expr}
use Rattle.promql_ast.specs.declared.tree.Node.TheFolds.{map-Node, fold-Node, fold-roll-Node, fold-roll-Expr, ind-Expr}
use Rattle.promql_type.specs.Judging.{Judgement, expr_step, judged, literal_at, node_step, pattern_of}
use Rattle.promql_type.specs.Rules.{Literal}
use Rattle.promql_meaning.specs.declared.given.Given.{Given}
use Rattle.promql_meaning.specs.declared.given.Given.TheVariants.{Words}
use Rattle.promql_meaning.specs.Meaning.{given_at, meaning, node_meaning, words_at}
use Rattle.promql_meaning.specs.Selecting.{Asked}
use Rattle.plain_eval.specs.Ready.{IsKeptWhole, IsPatternKept}

module _ (asked : Asked) where
  abbrev Meant : Type 0
  Meant = ℤ → Given

  abbrev At : Type 0
  At = ℕ → Judgement

  abbrev node_meant : Node → Meant
  node_meant = fold-Node Meant Meant (node_meaning asked) (λ e. e.node)

  abbrev node_judged : Node → At
  node_judged = fold-Node At Judgement node_step expr_step

  abbrev Means : Judgement → Meant → Type 0
  Means j m = (l : Literal) → j.literal ≡ Some l → (t : ℤ) → m t ≡ Words l.1

  abbrev ExprMeans : Expr → Type 0
  ExprMeans e = Means (judged e) (meaning asked e)

  abbrev NodeMeans : Node → Type 0
  NodeMeans n = (at : ℕ) → Means (node_judged n at) (node_meant n)

  abbrev Part : Type 0
  Part = Node-F ((n : Node) × NodeMeans n) ((e : Expr) × ExprMeans e)

  abbrev plain : Part → Node-F Node Expr
  plain = map-Node ((n : Node) × NodeMeans n) ((e : Expr) × ExprMeans e) Node Expr (λ n. n.0) (λ e. e.0)

  level : (y : Part) (at : ℕ)
      → Means (node_step (map-Node Node Expr At Judgement node_judged judged (plain y)) at) (node_meaning asked (map-Node Node Expr Meant Meant node_meant (meaning asked) (plain y)))
  level (Node-F.Number value) at l is t = absurd (cc)
  level (Node-F.Words text) at l is t = let e : (at, text) ≡ l = cc in ap (λ (k : Literal). Words k.1) e
  level (Node-F.Paren e) at l is t = e.1 l is t
  level (Node-F.Negate e) at l is t = absurd (cc)
  level (Node-F.Select selector) at l is t = absurd (cc)
  level (Node-F.Range selector range) at l is t = absurd (cc)
  level (Node-F.Subquery e range step moment) at l is t = absurd (cc)
  level (Node-F.Call f items) at l is t = absurd (cc)
  level (Node-F.Aggregate f by items) at l is t = absurd (cc)
  level (Node-F.Pair op a b pairing) at l is t = absurd (cc)
  level (Node-F.Set op a b pairing) at l is t = absurd (cc)

  node_means : (y : Part) → NodeMeans (roll-Node (plain y))
  node_means y at l is t =
      ap (λ f. f t) (fold-roll-Node Meant Meant (node_meaning asked) (λ e. e.node) (plain y))
      ∙ level y at l (sym (ap (λ f. (f at).literal) (fold-roll-Node At Judgement node_step expr_step (plain y))) ∙ is) t

  expr_means : (at : ℕ) (n : Node) → NodeMeans n → ExprMeans (roll-Expr (record { at = at; node = n }))
  expr_means at n means l is t =
      ap (λ f. f t) (fold-roll-Expr Meant Meant (node_meaning asked) (λ e. e.node) (record { at = at; node = n }))
      ∙ means at l (sym (ap (λ j. j.literal) (fold-roll-Expr At Judgement node_step expr_step (record { at = at; node = n }))) ∙ is) t

  pub literal_means : (e : Expr) → ExprMeans e
  literal_means = ind-Expr NodeMeans ExprMeans
      (λ x y is. subst (λ z. NodeMeans (roll-Node z)) is (node_means y))
      (λ x y is. subst (λ z. ExprMeans (roll-Expr z)) is (expr_means y.at y.node.0 y.node.1))

  -- the string at a place of the arguments is the text there
  pub words_are : (items : List Expr) (n : ℕ) (l : Literal) (t : ℤ) → literal_at (map judged items) n ≡ Some l → words_at (given_at (map (meaning asked) items) t) n ≡ l.1
  words_are [] n l t is = absurd (cc)
  words_are (e ∷ items) zero l t is = rw (literal_means e l is t) refl
  words_are (e ∷ items) (suc n) l t is = words_are items n l t is

  -- the pattern of a call whose fifth argument is a string
  pub pattern_there : (items : List Expr) (at : ℕ) (l : Literal) (t : ℤ) → literal_at (map judged items) 4 ≡ Some l
      → AllByRecursion (IsPatternKept asked.kept) (pattern_of LabelReplace (map judged items) at) → IsKeptWhole asked.kept (words_at (given_at (map (meaning asked) items) t) 4)
  pattern_there items at l t is all =
      let own : pattern_of LabelReplace (map judged items) at ≡ record { at = at; place = l.0; text = l.1 } ∷ [] = rw is refl in
      subst (IsKeptWhole asked.kept) (sym (words_are items 4 l t is)) (subst (AllByRecursion (IsPatternKept asked.kept)) own all).0

-- ---- what is a string has a text

no_words_both : (a b : Kind) → both a b ≡ WordsKind → ⊥
no_words_both Scalar Scalar is = absurd (cc)
no_words_both Scalar VectorKind is = absurd (cc)
no_words_both Scalar Windows is = absurd (cc)
no_words_both Scalar WordsKind is = absurd (cc)
no_words_both VectorKind Scalar is = absurd (cc)
no_words_both VectorKind VectorKind is = absurd (cc)
no_words_both VectorKind Windows is = absurd (cc)
no_words_both VectorKind WordsKind is = absurd (cc)
no_words_both Windows Scalar is = absurd (cc)
no_words_both Windows VectorKind is = absurd (cc)
no_words_both Windows Windows is = absurd (cc)
no_words_both Windows WordsKind is = absurd (cc)
no_words_both WordsKind Scalar is = absurd (cc)
no_words_both WordsKind VectorKind is = absurd (cc)
no_words_both WordsKind Windows is = absurd (cc)
no_words_both WordsKind WordsKind is = absurd (cc)

no_words_function : (f : Func) → (signature (Function f)).gives ≡ WordsKind → ⊥
no_words_function (Element Abs) is = absurd (cc)
no_words_function (Element Ceil) is = absurd (cc)
no_words_function (Element Floor) is = absurd (cc)
no_words_function (Element Round) is = absurd (cc)
no_words_function (Element Sgn) is = absurd (cc)
no_words_function (Element Neg) is = absurd (cc)
no_words_function (Element Clamp) is = absurd (cc)
no_words_function (Element ClampMin) is = absurd (cc)
no_words_function (Element ClampMax) is = absurd (cc)
no_words_function (Element (Calendar part)) is = absurd (cc)
no_words_function (Window Rate) is = absurd (cc)
no_words_function (Window Increase) is = absurd (cc)
no_words_function (Window Delta) is = absurd (cc)
no_words_function (Window Irate) is = absurd (cc)
no_words_function (Window Idelta) is = absurd (cc)
no_words_function (Window Deriv) is = absurd (cc)
no_words_function (Window PredictLinear) is = absurd (cc)
no_words_function (Window Changes) is = absurd (cc)
no_words_function (Window Resets) is = absurd (cc)
no_words_function (Window AvgOver) is = absurd (cc)
no_words_function (Window MinOver) is = absurd (cc)
no_words_function (Window MaxOver) is = absurd (cc)
no_words_function (Window SumOver) is = absurd (cc)
no_words_function (Window CountOver) is = absurd (cc)
no_words_function (Window StdvarOver) is = absurd (cc)
no_words_function (Window QuantileOver) is = absurd (cc)
no_words_function (Window LastOver) is = absurd (cc)
no_words_function (Window PresentOver) is = absurd (cc)
no_words_function Absent is = absurd (cc)
no_words_function AbsentOver is = absurd (cc)
no_words_function HistogramQuantile is = absurd (cc)
no_words_function LabelJoin is = absurd (cc)
no_words_function LabelReplace is = absurd (cc)
no_words_function ToScalar is = absurd (cc)
no_words_function Sort is = absurd (cc)
no_words_function SortDesc is = absurd (cc)
no_words_function Time is = absurd (cc)
no_words_function Timestamp is = absurd (cc)
no_words_function ToVector is = absurd (cc)

no_words_aggregation : (f : Aggregate) → (signature (Aggregation f)).gives ≡ WordsKind → ⊥
no_words_aggregation Sum is = absurd (cc)
no_words_aggregation Avg is = absurd (cc)
no_words_aggregation Min is = absurd (cc)
no_words_aggregation Max is = absurd (cc)
no_words_aggregation Count is = absurd (cc)
no_words_aggregation Group is = absurd (cc)
no_words_aggregation Stdvar is = absurd (cc)
no_words_aggregation TopK is = absurd (cc)
no_words_aggregation BottomK is = absurd (cc)
no_words_aggregation Quantile is = absurd (cc)
no_words_aggregation CountValues is = absurd (cc)

abbrev HasText : Judgement → Type 0
HasText j = j.operand.gives ≡ WordsKind → (l : Literal) × (j.literal ≡ Some l)

abbrev ExprHas : Expr → Type 0
ExprHas e = HasText (judged e)

abbrev NodeHas : Node → Type 0
NodeHas n = (at : ℕ) → HasText (fold-Node (ℕ → Judgement) Judgement node_step expr_step n at)

abbrev Piece : Type 0
Piece = Node-F ((n : Node) × NodeHas n) ((e : Expr) × ExprHas e)

abbrev pieces : Piece → Node-F Node Expr
pieces = map-Node ((n : Node) × NodeHas n) ((e : Expr) × ExprHas e) Node Expr (λ n. n.0) (λ e. e.0)

text_level : (y : Piece) (at : ℕ) → HasText (node_step (map-Node Node Expr (ℕ → Judgement) Judgement (fold-Node (ℕ → Judgement) Judgement node_step expr_step) judged (pieces y)) at)
text_level (Node-F.Number value) at is = absurd (cc)
text_level (Node-F.Words text) at is = ((at, text), refl)
text_level (Node-F.Paren e) at is = e.1 is
text_level (Node-F.Negate e) at is = absurd (no_words_both (judged e.0).operand.gives (judged e.0).operand.gives is)
text_level (Node-F.Select selector) at is = absurd (cc)
text_level (Node-F.Range selector range) at is = absurd (cc)
text_level (Node-F.Subquery e range step moment) at is = absurd (cc)
text_level (Node-F.Call f items) at is = absurd (no_words_function f is)
text_level (Node-F.Aggregate f by items) at is = absurd (no_words_aggregation f is)
text_level (Node-F.Pair op a b pairing) at is = absurd (no_words_both (judged a.0).operand.gives (judged b.0).operand.gives is)
text_level (Node-F.Set op a b pairing) at is = absurd (cc)

node_has : (y : Piece) → NodeHas (roll-Node (pieces y))
node_has y at = subst HasText (sym (ap (λ f. f at) (fold-roll-Node (ℕ → Judgement) Judgement node_step expr_step (pieces y)))) (text_level y at)

expr_has : (at : ℕ) (n : Node) → NodeHas n → ExprHas (roll-Expr (record { at = at; node = n }))
expr_has at n has = subst HasText (sym (fold-roll-Expr (ℕ → Judgement) Judgement node_step expr_step (record { at = at; node = n }))) (has at)

pub words_have_text : (e : Expr) → ExprHas e
words_have_text = ind-Expr NodeHas ExprHas
    (λ x y is. subst (λ z. NodeHas (roll-Node z)) is (node_has y))
    (λ x y is. subst (λ z. ExprHas (roll-Expr z)) is (expr_has y.at y.node.0 y.node.1))
