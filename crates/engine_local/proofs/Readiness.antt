-- What was allowed when an ask was made is ready at each of its instants.
use Rattle.std.proofs.Common.{◌≡◌, List, [], ◌∷◌, ◌++◌, length, refl, sym, ap, subst, arith}
use Rattle.std.specs.Prelude.{ℤ}
use Rattle.std.specs.List.{AllByRecursion}
use Rattle.promql_ast.specs.Folds.{fold-Range}
use Rattle.promql_ast.specs.declared.tree.Expr.{Expr}
use Rattle.promql_ast.specs.declared.tree.Node.TheFolds.{fold-Expr}
use Rattle.promql_ast.specs.declared.tree.Node.TheOpen.{Node-F}
use Rattle.promql_type.specs.Judging.{Judgement, expr_step, judged, node_step}
use Rattle.promql_type.specs.Replacements.{Kept}
use Rattle.promql_meaning.specs.Conditions.{AreMet, Need, needs_of, node_needs}
use Rattle.promql_meaning.specs.Selecting.{AllSeries, asked_over}
use Rattle.plain_eval.specs.Checked.{CheckedPatternsAreKept}
use Rattle.plain_eval.specs.Ready.{ArePatternsKept, IsPatternKept, IsReady}
use Rattle.remote_api.specs.Seen.{HasForm, IsTyped}
use Rattle.step_table.specs.declared.cells.PartKind.{PartKind}
use Rattle.step_table.specs.declared.cells.PartKind.TheVariants as part_kind
use Rattle.ticks.specs.Walks.{IsInstant}
use Rattle.ticks.specs.declared.grid.Grid.{Grid}
use Rattle.ticks.specs.declared.moment.Ms.{Ms}
use Rattle.engine_local.specs.Local.{IsAllowed}
use Rattle.engine_local.specs.declared.own.OwnAsk.{OwnAsk}

-- ---- needs don't depend on the samples

abbrev Layer : Type 0
Layer = Node-F (ℤ → List Need) (ℤ → List Need)

module _ (samples : AllSeries) (kept : Kept) (span : Grid) where
  same_node : (y : Layer) (t : ℤ) → node_needs (asked_over [] kept span) y t ≡ node_needs (asked_over samples kept span) y t
  same_node (Node-F.Number value) t = refl
  same_node (Node-F.Words text) t = refl
  same_node (Node-F.Paren inner) t = refl
  same_node (Node-F.Negate inner) t = refl
  same_node (Node-F.Select selector) t = refl
  same_node (Node-F.Range selector range) t = refl
  same_node (Node-F.Subquery inner range step moment) t = refl
  same_node (Node-F.Call f arguments) t = refl
  same_node (Node-F.Aggregate f by arguments) t = refl
  same_node (Node-F.Pair op left right pairing) t = refl
  same_node (Node-F.Set op left right pairing) t = refl

  same_needs : (e : Expr) (t : ℤ) → needs_of (asked_over [] kept span) e t ≡ needs_of (asked_over samples kept span) e t
  same_needs e t = ap (λ (f : Layer → ℤ → List Need). fold-Expr (ℤ → List Need) (ℤ → List Need) f (λ x. x.node) e t) (λ i. λ y u. same_node y u i)

-- ---- the form

front_none : {X : Type 0} (xs ys : List X) → xs ++ ys ≡ [] → xs ≡ []
front_none [] ys is = refl
front_none (x ∷ xs) ys is = absurd (omega (arith, ap length is))

-- nothing refuses a tree, and the patterns of its calls are kept
pub record IsChecked (kept : Kept) (e : Expr) : Type 0 where
  pub typed : (judged e).refusals ≡ []
  pub patterns : ArePatternsKept kept e

checked : CheckedPatternsAreKept → (kept : Kept) (e : Expr) → IsTyped kept e → IsChecked kept e
checked law kept e h = record {
  typed = front_none (judged e).refusals _ h.0;
  patterns = law kept e h.1 h.2;
}

form_checked : CheckedPatternsAreKept → (kept : Kept) (e : Expr) (kind : PartKind) → HasForm kept e kind → IsChecked kept e
form_checked law kept e part_kind.Rows h = checked law kept e h
form_checked law kept e part_kind.Windows h =
    let j = fold-Range node_step expr_step e h.0 h.1 h.2 in
    record {
      typed = ap (λ (x : Judgement). x.refusals) j;
      patterns = subst (λ (x : Judgement). AllByRecursion (IsPatternKept kept) x.replacements) (sym j) tt;
    }
form_checked law kept e (part_kind.Partial f by) h = checked law kept e h.0

pub ready_at : CheckedPatternsAreKept → (samples : AllSeries) (kept : Kept) (one : OwnAsk) (t : Ms) → IsAllowed one → one.kept ≡ kept → IsInstant one.ask.walk t.0 → IsReady (asked_over samples kept one.span) one.part.expr t.0
ready_at law samples kept one t allowed same here =
    let form = form_checked law one.kept one.part.expr one.part.kind allowed.form in
    subst (λ (k : Kept). IsReady (asked_over samples k one.span) one.part.expr t.0) same
    (record {
      met = subst (AreMet (asked_over samples one.kept one.span)) (same_needs samples one.kept one.span one.part.expr t.0) (allowed.needs t here);
      typed = form.typed;
      patterns = form.patterns;
    })
