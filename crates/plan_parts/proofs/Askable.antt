-- The rows of a selector, and those of its timestamp, may be asked for: they are typed, and need what a selector does.
use Rattle.std.proofs.Common.{◌≡◌, ◌∙◌, ◌++◌, ℕ, List, [], ◌∷◌, None, Some, refl, sym, ap, subst}
use Rattle.std.specs.Prelude.{ℤ, ◌-ℤ◌}
use Rattle.exchange.specs.Asked.{MayRequest}
use Rattle.exchange.specs.Requests.{ask_of}
use Rattle.exchange.specs.declared.request.Request.{Request}
use Rattle.func_table.specs.declared.table.Func.{Func}
use Rattle.func_table.specs.declared.table.Func.TheVariants as func
use Rattle.match_rule.specs.Patterns.{HaveTheirPatterns}
use Rattle.plan_serving.specs.Asking.{asked_selector, plain_selector, selector_in, stamped_selector}
use Rattle.promql_ast.specs.declared.refusal.QueryRefusal.{QueryRefusal}
use Rattle.promql_ast.specs.declared.tree.Expr.{Expr}
use Rattle.promql_ast.specs.declared.tree.Node.{Node}
use Rattle.promql_ast.specs.declared.tree.Node.TheOpen.{Node-F, Expr-F}
use Rattle.promql_ast.specs.declared.tree.Node.TheViews.{out-Node}
use Rattle.promql_ast.specs.declared.tree.Node.TheFolds.{fold-Expr, fold-Node, fold_out-Expr, fold_out-Node, map-Node}
use Rattle.promql_ast.specs.declared.tree.Selector.{Selector}
use Rattle.promql_meaning.specs.Conditions.{AreMet, Need, needs_of, node_needs, range_times}
use Rattle.promql_meaning.specs.Selecting.{Asked, asked_over, lookback, moment_of}
use Rattle.promql_meaning.specs.WalkMoments.{IsMomentOf, WalkMomentIsMoment}
use Rattle.promql_type.specs.Judging.{Judgement, expr_step, judged, node_step}
use Rattle.promql_type.specs.Points.{crowded, crowded_expr, crowded_step}
use Rattle.promql_type.specs.Replacements.{AreKept, Kept}
use Rattle.promql_type.specs.Rules.{result_refusals}
use Rattle.promql_type.specs.declared.kind.Kind.TheVariants.{Vector}
use Rattle.remote_api.specs.Seen.{HasForm, IsTyped}
use Rattle.step_table.specs.declared.cells.PartKind.{PartKind}
use Rattle.step_table.specs.declared.cells.PartKind.TheVariants as part
use Rattle.ticks.specs.Walks.{HasTimes, IsInstant, IsTime, LeadsToTimes, moment_at}
use Rattle.ticks.specs.declared.grid.Grid.{Grid}
use Rattle.ticks.specs.declared.walk.WalkMoment.{WalkMoment}

-- a fold over the layers of an expression
module _ {A B : Type 0} (node_of : Node-F A B → A) (expr_of : Expr-F A B → B) where
  abbrev layer : Node-F Node Expr → Node-F A B
  layer y = map-Node Node Expr A B (fold-Node A B node_of expr_of) (fold-Expr A B node_of expr_of) y

  by_layer : (e : Expr) → fold-Expr A B node_of expr_of e ≡ expr_of (record { at = e.at; node = node_of (layer (out-Node e.node)) })
  by_layer e = fold_out-Expr A B node_of expr_of e ∙ ap (λ (a : A). expr_of (record { at = e.at; node = a })) (fold_out-Node A B node_of expr_of e.node)

pub same_selector : (a b : Selector) → Some a ≡ Some b → a ≡ b
same_selector a b e = cc

-- ---- types

-- of rows, without refusals and patterns
abbrev fine : ℕ → Judgement
fine at = record { operand = record { at = at; gives = Vector }; literal = None; refusals = []; replacements = [] }

abbrev judged_layer : Node-F Node Expr → Node-F (ℕ → Judgement) Judgement
judged_layer y = layer node_step expr_step y

judged_plain : (y : Node-F Node Expr) (s : Selector) (at : ℕ) → plain_selector y ≡ Some s → node_step (judged_layer y) at ≡ fine at
judged_plain (Node-F.Select selector) s at e = refl
judged_plain (Node-F.Number value) s at e = absurd (cc)
judged_plain (Node-F.Words text) s at e = absurd (cc)
judged_plain (Node-F.Paren inner) s at e = absurd (cc)
judged_plain (Node-F.Negate inner) s at e = absurd (cc)
judged_plain (Node-F.Range selector range) s at e = absurd (cc)
judged_plain (Node-F.Subquery inner range step moment) s at e = absurd (cc)
judged_plain (Node-F.Aggregate f by arguments) s at e = absurd (cc)
judged_plain (Node-F.Pair op left right pairing) s at e = absurd (cc)
judged_plain (Node-F.Set op left right pairing) s at e = absurd (cc)
judged_plain (Node-F.Call f arguments) s at e = absurd (cc)

judged_call : (f : Func) (arguments : List Expr) (s : Selector) (at : ℕ) → stamped_selector f arguments ≡ Some s → node_step (judged_layer (Node-F.Call f arguments)) at ≡ fine at
judged_call func.Timestamp (e ∷ []) s at is = ap (λ (j : Judgement). node_step (Node-F.Call func.Timestamp (j ∷ [])) at) (by_layer node_step expr_step e ∙ judged_plain (out-Node e.node) s e.at is)
judged_call func.Timestamp [] s at is = absurd (cc)
judged_call func.Timestamp (e ∷ f ∷ es) s at is = absurd (cc)
judged_call (func.Element g) arguments s at is = absurd (cc)
judged_call (func.Window g) arguments s at is = absurd (cc)
judged_call func.Absent arguments s at is = absurd (cc)
judged_call func.AbsentOver arguments s at is = absurd (cc)
judged_call func.HistogramQuantile arguments s at is = absurd (cc)
judged_call func.LabelJoin arguments s at is = absurd (cc)
judged_call func.LabelReplace arguments s at is = absurd (cc)
judged_call func.Scalar arguments s at is = absurd (cc)
judged_call func.Sort arguments s at is = absurd (cc)
judged_call func.SortDesc arguments s at is = absurd (cc)
judged_call func.Time arguments s at is = absurd (cc)
judged_call func.Vector arguments s at is = absurd (cc)

judged_node : (y : Node-F Node Expr) (s : Selector) (at : ℕ) → selector_in y ≡ Some s → node_step (judged_layer y) at ≡ fine at
judged_node (Node-F.Select selector) s at e = refl
judged_node (Node-F.Call f arguments) s at e = judged_call f arguments s at e
judged_node (Node-F.Number value) s at e = absurd (cc)
judged_node (Node-F.Words text) s at e = absurd (cc)
judged_node (Node-F.Paren inner) s at e = absurd (cc)
judged_node (Node-F.Negate inner) s at e = absurd (cc)
judged_node (Node-F.Range selector range) s at e = absurd (cc)
judged_node (Node-F.Subquery inner range step moment) s at e = absurd (cc)
judged_node (Node-F.Aggregate f by arguments) s at e = absurd (cc)
judged_node (Node-F.Pair op left right pairing) s at e = absurd (cc)
judged_node (Node-F.Set op left right pairing) s at e = absurd (cc)

selector_judged : (e : Expr) (s : Selector) → selector_in (out-Node e.node) ≡ Some s → judged e ≡ fine e.at
selector_judged e s is = by_layer node_step expr_step e ∙ judged_node (out-Node e.node) s e.at is

abbrev points_layer : Node-F Node Expr → Node-F (ℕ → ℕ → List QueryRefusal) (ℕ → List QueryRefusal)
points_layer y = layer crowded_step crowded_expr y

points_plain : (y : Node-F Node Expr) (s : Selector) (at around : ℕ) → plain_selector y ≡ Some s → crowded_step (points_layer y) at around ≡ []
points_plain (Node-F.Select selector) s at around e = refl
points_plain (Node-F.Number value) s at around e = absurd (cc)
points_plain (Node-F.Words text) s at around e = absurd (cc)
points_plain (Node-F.Paren inner) s at around e = absurd (cc)
points_plain (Node-F.Negate inner) s at around e = absurd (cc)
points_plain (Node-F.Range selector range) s at around e = absurd (cc)
points_plain (Node-F.Subquery inner range step moment) s at around e = absurd (cc)
points_plain (Node-F.Aggregate f by arguments) s at around e = absurd (cc)
points_plain (Node-F.Pair op left right pairing) s at around e = absurd (cc)
points_plain (Node-F.Set op left right pairing) s at around e = absurd (cc)
points_plain (Node-F.Call f arguments) s at around e = absurd (cc)

points_call : (f : Func) (arguments : List Expr) (s : Selector) (at around : ℕ) → stamped_selector f arguments ≡ Some s → crowded_step (points_layer (Node-F.Call f arguments)) at around ≡ []
points_call func.Timestamp (e ∷ []) s at around is = ap (λ (rs : List QueryRefusal). rs ++ []) (ap (λ (f : ℕ → List QueryRefusal). f around) (by_layer crowded_step crowded_expr e) ∙ points_plain (out-Node e.node) s e.at around is)
points_call func.Timestamp [] s at around is = absurd (cc)
points_call func.Timestamp (e ∷ f ∷ es) s at around is = absurd (cc)
points_call (func.Element g) arguments s at around is = absurd (cc)
points_call (func.Window g) arguments s at around is = absurd (cc)
points_call func.Absent arguments s at around is = absurd (cc)
points_call func.AbsentOver arguments s at around is = absurd (cc)
points_call func.HistogramQuantile arguments s at around is = absurd (cc)
points_call func.LabelJoin arguments s at around is = absurd (cc)
points_call func.LabelReplace arguments s at around is = absurd (cc)
points_call func.Scalar arguments s at around is = absurd (cc)
points_call func.Sort arguments s at around is = absurd (cc)
points_call func.SortDesc arguments s at around is = absurd (cc)
points_call func.Time arguments s at around is = absurd (cc)
points_call func.Vector arguments s at around is = absurd (cc)

points_node : (y : Node-F Node Expr) (s : Selector) (at around : ℕ) → selector_in y ≡ Some s → crowded_step (points_layer y) at around ≡ []
points_node (Node-F.Select selector) s at around e = refl
points_node (Node-F.Call f arguments) s at around e = points_call f arguments s at around e
points_node (Node-F.Number value) s at around e = absurd (cc)
points_node (Node-F.Words text) s at around e = absurd (cc)
points_node (Node-F.Paren inner) s at around e = absurd (cc)
points_node (Node-F.Negate inner) s at around e = absurd (cc)
points_node (Node-F.Range selector range) s at around e = absurd (cc)
points_node (Node-F.Subquery inner range step moment) s at around e = absurd (cc)
points_node (Node-F.Aggregate f by arguments) s at around e = absurd (cc)
points_node (Node-F.Pair op left right pairing) s at around e = absurd (cc)
points_node (Node-F.Set op left right pairing) s at around e = absurd (cc)

selector_points : (e : Expr) (s : Selector) (around : ℕ) → selector_in (out-Node e.node) ≡ Some s → crowded e around ≡ []
selector_points e s around is = ap (λ (f : ℕ → List QueryRefusal). f around) (by_layer crowded_step crowded_expr e) ∙ points_node (out-Node e.node) s e.at around is

selector_typed : (kept : Kept) (e : Expr) (s : Selector) → selector_in (out-Node e.node) ≡ Some s → IsTyped kept e
selector_typed kept e s is =
    let j = selector_judged e s is in (
      (λ i. (j i).refusals ++ (selector_points e s 1 is i ++ result_refusals (j i).operand.gives)),
      [],
      subst (λ (x : Judgement). AreKept kept x.replacements []) (sym j) tt,
    )

-- ---- needs

module _ (asked : Asked) where
  abbrev wants : Selector → ℤ → List Need
  wants s t = Need.patterns s.rules ∷ Need.times (range_times (moment_of asked s.moment t) lookback) ∷ []

  abbrev needs_layer : Node-F Node Expr → Node-F (ℤ → List Need) (ℤ → List Need)
  needs_layer y = layer (node_needs asked) (λ e. e.node) y

  needs_plain : (y : Node-F Node Expr) (s : Selector) (t : ℤ) → plain_selector y ≡ Some s → node_needs asked (needs_layer y) t ≡ wants s t
  needs_plain (Node-F.Select selector) s t e = ap (λ (z : Selector). wants z t) (same_selector selector s e)
  needs_plain (Node-F.Number value) s t e = absurd (cc)
  needs_plain (Node-F.Words text) s t e = absurd (cc)
  needs_plain (Node-F.Paren inner) s t e = absurd (cc)
  needs_plain (Node-F.Negate inner) s t e = absurd (cc)
  needs_plain (Node-F.Range selector range) s t e = absurd (cc)
  needs_plain (Node-F.Subquery inner range step moment) s t e = absurd (cc)
  needs_plain (Node-F.Aggregate f by arguments) s t e = absurd (cc)
  needs_plain (Node-F.Pair op left right pairing) s t e = absurd (cc)
  needs_plain (Node-F.Set op left right pairing) s t e = absurd (cc)
  needs_plain (Node-F.Call f arguments) s t e = absurd (cc)

  needs_call : (f : Func) (arguments : List Expr) (s : Selector) (t : ℤ) → stamped_selector f arguments ≡ Some s → node_needs asked (needs_layer (Node-F.Call f arguments)) t ≡ wants s t
  needs_call func.Timestamp (e ∷ []) s t is = ap (λ (ns : List Need). ns ++ []) (ap (λ (f : ℤ → List Need). f t) (by_layer (node_needs asked) (λ e. e.node) e) ∙ needs_plain (out-Node e.node) s t is)
  needs_call func.Timestamp [] s t is = absurd (cc)
  needs_call func.Timestamp (e ∷ f ∷ es) s t is = absurd (cc)
  needs_call (func.Element g) arguments s t is = absurd (cc)
  needs_call (func.Window g) arguments s t is = absurd (cc)
  needs_call func.Absent arguments s t is = absurd (cc)
  needs_call func.AbsentOver arguments s t is = absurd (cc)
  needs_call func.HistogramQuantile arguments s t is = absurd (cc)
  needs_call func.LabelJoin arguments s t is = absurd (cc)
  needs_call func.LabelReplace arguments s t is = absurd (cc)
  needs_call func.Scalar arguments s t is = absurd (cc)
  needs_call func.Sort arguments s t is = absurd (cc)
  needs_call func.SortDesc arguments s t is = absurd (cc)
  needs_call func.Time arguments s t is = absurd (cc)
  needs_call func.Vector arguments s t is = absurd (cc)

  needs_node : (y : Node-F Node Expr) (s : Selector) (t : ℤ) → selector_in y ≡ Some s → node_needs asked (needs_layer y) t ≡ wants s t
  needs_node (Node-F.Select selector) s t e = ap (λ (z : Selector). wants z t) (same_selector selector s e)
  needs_node (Node-F.Call f arguments) s t e = needs_call f arguments s t e
  needs_node (Node-F.Number value) s t e = absurd (cc)
  needs_node (Node-F.Words text) s t e = absurd (cc)
  needs_node (Node-F.Paren inner) s t e = absurd (cc)
  needs_node (Node-F.Negate inner) s t e = absurd (cc)
  needs_node (Node-F.Range selector range) s t e = absurd (cc)
  needs_node (Node-F.Subquery inner range step moment) s t e = absurd (cc)
  needs_node (Node-F.Aggregate f by arguments) s t e = absurd (cc)
  needs_node (Node-F.Pair op left right pairing) s t e = absurd (cc)
  needs_node (Node-F.Set op left right pairing) s t e = absurd (cc)

  pub selector_needs : (e : Expr) (s : Selector) (t : ℤ) → selector_in (out-Node e.node) ≡ Some s → HaveTheirPatterns asked.kept s.rules → IsTime (moment_of asked s.moment t) → IsTime (moment_of asked s.moment t -ℤ lookback)
      → AreMet asked (needs_of asked e t)
  selector_needs e s t is rules ends begins =
      subst (AreMet asked) (sym (ap (λ (f : ℤ → List Need). f t) (by_layer (node_needs asked) (λ e. e.node) e) ∙ needs_node (out-Node e.node) s t is)) (rules, ((ends, (begins, tt)), tt))

-- ---- parts

part_needs : (asked : Asked) (kind : PartKind) (e : Expr) (s : Selector) (t : ℤ) → asked_selector kind e ≡ Some s → HaveTheirPatterns asked.kept s.rules → IsTime (moment_of asked s.moment t) → IsTime (moment_of asked s.moment t -ℤ lookback)
    → AreMet asked (needs_of asked e t)
part_needs asked part.Rows e s t is rules ends begins = selector_needs asked e s t is rules ends begins
part_needs asked part.Windows e s t is rules ends begins = absurd (cc)
part_needs asked (part.Partial f by) e s t is rules ends begins = absurd (cc)

pub no_windows : (kind : PartKind) (e : Expr) (s : Selector) → asked_selector kind e ≡ Some s → kind ≡ part.Windows → ⊥
no_windows part.Rows e s is k = absurd (cc)
no_windows part.Windows e s is k = absurd (cc)
no_windows (part.Partial f by) e s is k = absurd (cc)

part_form : (kept : Kept) (kind : PartKind) (e : Expr) (s : Selector) → asked_selector kind e ≡ Some s → HasForm kept e kind
part_form kept part.Rows e s is = selector_typed kept e s is
part_form kept part.Windows e s is = absurd (cc)
part_form kept (part.Partial f by) e s is = absurd (cc)

-- what is asked for of the rows of a selector, whose patterns are kept and that looks back within the times
pub may_request : WalkMomentIsMoment → (span : Grid) (kept : Kept) (r : Request) (s : Selector) (w : WalkMoment) → asked_selector r.part.kind r.part.expr ≡ Some s → HaveTheirPatterns kept s.rules → IsMomentOf (asked_over [] kept span) s.moment w
    → LeadsToTimes r.walk → ((t : ℤ) → IsInstant r.walk t → HasTimes (moment_at w t) lookback) → MayRequest span kept r
may_request law span kept r s w is rules moment leads times =
    let asked = asked_over [] kept span in
    let rows : r.part.kind ≡ part.Windows → ⊥ = no_windows r.part.kind r.part.expr s is in
    record {
      may = λ e going. record {
        going = going;
        form = part_form kept r.part.kind r.part.expr s is;
        needs = λ t on.
            let h = times t.0 on in
            let same = law asked s.moment w t.0 moment in
            part_needs asked r.part.kind r.part.expr s t.0 is rules (subst IsTime same h.ends) (subst (λ (m : ℤ). IsTime (m -ℤ lookback)) same h.begins);
        times = (ask_of r, record { walk_is = refl; kind_is = refl; window = λ k. absurd (rows k) }, record { walk = leads; windows = λ k. absurd (rows k) });
      };
      window = λ k. absurd (rows k);
    }
