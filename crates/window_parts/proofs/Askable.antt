-- The windows of a range selector may be asked for: they need what it does; and what it gives over no samples.
use Rattle.std.proofs.Common.{◌≡◌, ◌∙◌, ◌++◌, ℕ, List, [], ◌∷◌, Bool, true, false, Option, None, Some, refl, sym, ap, subst}
use Rattle.std.specs.Prelude.{ℤ, ◌-ℤ◌, ◌<ℤ◌, ◌||◌, pos, IsTrue, is_some}
use Rattle.exchange.specs.Asked.{MayRequest}
use Rattle.exchange.specs.Requests.{ask_of}
use Rattle.exchange.specs.declared.request.Request.{Request}
use Rattle.logical_plan.specs.Gathers.{given_over, over_samples, windows_of}
use Rattle.match_rule.specs.Patterns.{HaveTheirPatterns}
use Rattle.op_labels.specs.Rules.{Kept}
use Rattle.plan_parts.specs.Gathered.{IsQueryOver}
use Rattle.plan_parts.specs.Requested.{asked_with, given_by}
use Rattle.plan_serving.specs.Asking.{RangeAsked, asked_range, asked_rules, is_range_part, is_rows_part, is_served_part, range_in, rules_in_range}
use Rattle.plan_tree.specs.Worlds.{Gathered}
use Rattle.promql_ast.specs.Parts.{Part as Piece, node_parts, parts_of}
use Rattle.promql_ast.specs.declared.tree.Expr.{Expr}
use Rattle.promql_ast.specs.declared.tree.Node.{Node}
use Rattle.promql_ast.specs.declared.tree.Node.TheOpen.{Node-F}
use Rattle.promql_ast.specs.declared.tree.Node.TheVariants as ast
use Rattle.promql_ast.specs.declared.tree.Node.TheViews.{out-Node, outs-Range, roll-Node, roll-out-Node}
use Rattle.promql_ast.specs.declared.tree.Node.TheFolds.{fold-Expr, fold-Node, fold_out-Expr, fold_out-Node, map-Node}
use Rattle.promql_ast.specs.declared.tree.Selector.{Selector}
use Rattle.promql_meaning.specs.Conditions.{AreMet, Need, needs_of, node_needs, range_times}
use Rattle.promql_meaning.specs.Meaning.{meaning, node_meaning}
use Rattle.promql_meaning.specs.Selecting.{AllSeries, Asked, asked_over, moment_of}
use Rattle.promql_meaning.specs.WalkMoments.{IsMomentOf, WalkMomentIsMoment}
use Rattle.promql_meaning.specs.declared.given.Given.{Given}
use Rattle.promql_meaning.specs.declared.given.Given.TheVariants as given
use Rattle.promql_meaning.specs.declared.given.Windows.{Windows}
use Rattle.remote_api.specs.Seen.{HasForm, IsWindowOf}
use Rattle.step_table.specs.declared.cells.PartKind.{PartKind}
use Rattle.step_table.specs.declared.cells.PartKind.TheVariants as part
use Rattle.ticks.specs.Walks.{HasTimes, IsInstant, IsTime, LeadsToTimes, moment_at}
use Rattle.ticks.specs.declared.grid.Grid.{Grid}
use Rattle.ticks.specs.declared.moment.Ms.{Ms}
use Rattle.window_parts.proofs.Beneath.{lent_as}

-- a fold over the layers of an expression
module _ {A : Type 0} (node_of : Node-F A A → A) where
  abbrev layer : Node-F Node Expr → Node-F A A
  layer y = map-Node Node Expr A A (fold-Node A A node_of (λ e. e.node)) (fold-Expr A A node_of (λ e. e.node)) y

  by_layer : (e : Expr) → fold-Expr A A node_of (λ e. e.node) e ≡ node_of (layer (out-Node e.node))
  by_layer e = fold_out-Expr A A node_of (λ e. e.node) e ∙ fold_out-Node A A node_of (λ e. e.node) e.node

-- ---- a range selector's node

pub same_range : (a b : RangeAsked) → Some a ≡ Some b → a ≡ b
same_range a b e = cc

-- what is so of the node of a range selector is so of each node that is one
is_range : (P : Node-F Node Expr → RangeAsked → Type 0) → ((selector : Selector) (range : Ms) → P (Node-F.Range selector range) (record { selector = selector; range = range }))
    → (y : Node-F Node Expr) (a : RangeAsked) → range_in y ≡ Some a → P y a
is_range P f (Node-F.Range selector range) a e = subst (P (Node-F.Range selector range)) (same_range (record { selector = selector; range = range }) a e) (f selector range)
is_range P f (Node-F.Number value) a e = absurd (cc)
is_range P f (Node-F.Words text) a e = absurd (cc)
is_range P f (Node-F.Paren inner) a e = absurd (cc)
is_range P f (Node-F.Negate inner) a e = absurd (cc)
is_range P f (Node-F.Select selector) a e = absurd (cc)
is_range P f (Node-F.Subquery inner range step moment) a e = absurd (cc)
is_range P f (Node-F.Call g arguments) a e = absurd (cc)
is_range P f (Node-F.Aggregate g by arguments) a e = absurd (cc)
is_range P f (Node-F.Pair op left right pairing) a e = absurd (cc)
is_range P f (Node-F.Set op left right pairing) a e = absurd (cc)

rolled_range : (selector : Selector) (range : Ms) → roll-Node (Node-F.Range selector range) ≡ ast.Range selector range
rolled_range selector range =
    let out : out-Node (ast.Range selector range) ≡ Node-F.Range selector range = rw outs-Range refl in
    ap roll-Node (sym out) ∙ roll-out-Node (ast.Range selector range)

-- the part is one of windows, whose node is a range selector
pub windows_kind : (kind : PartKind) (e : Expr) (a : RangeAsked) → asked_range kind e ≡ Some a → kind ≡ part.Windows
windows_kind part.Rows e a is = absurd (cc)
windows_kind part.Windows e a is = refl
windows_kind (part.Partial f by) e a is = absurd (cc)

range_there : (kind : PartKind) (e : Expr) (a : RangeAsked) → asked_range kind e ≡ Some a → range_in (out-Node e.node) ≡ Some a
range_there part.Rows e a is = absurd (cc)
range_there part.Windows e a is = is
range_there (part.Partial f by) e a is = absurd (cc)

range_node : (e : Expr) (a : RangeAsked) → range_in (out-Node e.node) ≡ Some a → e.node ≡ ast.Range a.selector a.range
range_node e a is = sym (roll-out-Node e.node) ∙ is_range (λ y b. roll-Node y ≡ ast.Range b.selector b.range) rolled_range (out-Node e.node) a is

-- ---- what it has

pub range_rules : (kind : PartKind) (e : Expr) (a : RangeAsked) → asked_range kind e ≡ Some a → asked_rules kind e ≡ a.selector.rules
range_rules part.Rows e a is = absurd (cc)
range_rules part.Windows e a is = ap rules_in_range is
range_rules (part.Partial f by) e a is = absurd (cc)

pub range_parts : (kind : PartKind) (e : Expr) (a : RangeAsked) → asked_range kind e ≡ Some a → parts_of e ≡ Piece.of_rules a.selector.rules ∷ Piece.of_moment a.selector.moment ∷ Piece.of_length a.range ∷ []
range_parts kind e a is =
    by_layer node_parts e
    ∙ is_range (λ y b. node_parts (layer node_parts y) ≡ Piece.of_rules b.selector.rules ∷ Piece.of_moment b.selector.moment ∷ Piece.of_length b.range ∷ []) (λ selector range. refl) (out-Node e.node) a (range_there kind e a is)

-- kernels serve it
pub range_served : (kind : PartKind) (e : Expr) (a : RangeAsked) → asked_range kind e ≡ Some a → IsTrue (is_served_part kind e)
range_served kind e a is = second (is_rows_part kind e) (is_range_part kind e) (ap (λ (o : Option RangeAsked). is_some o) is)
  where
    second : (b c : Bool) → IsTrue c → IsTrue (b || c)
    second true c h = refl
    second false c h = h

-- ---- what it gives over no samples

module _ (asked : Asked) (t : ℤ) (kind : PartKind) (e : Expr) (a : RangeAsked) (is : asked_range kind e ≡ Some a) where
  abbrev none : Windows
  none = windows_of (given_over asked e t [])

  none_is : (none.moment ≡ record { 0 = moment_of asked a.selector.moment t }) × (none.range ≡ a.range)
  none_is =
      subst (λ (g : Given). ((windows_of g).moment ≡ record { 0 = moment_of asked a.selector.moment t }) × ((windows_of g).range ≡ a.range))
      (sym (ap (λ (f : ℤ → Given). f t) (by_layer (node_meaning (over_samples asked [])) e)))
      (is_range (λ y b. ((windows_of (node_meaning (over_samples asked []) (layer (node_meaning (over_samples asked [])) y) t)).moment ≡ record { 0 = moment_of asked b.selector.moment t })
      × ((windows_of (node_meaning (over_samples asked []) (layer (node_meaning (over_samples asked [])) y) t)).range ≡ b.range)) (λ selector range. (refl, refl)) (out-Node e.node) a (range_there kind e a is))

  pub none_moment : none.moment ≡ record { 0 = moment_of asked a.selector.moment t }
  none_moment = none_is.0

  pub none_range : none.range ≡ a.range
  none_range = none_is.1

  -- a gather of such a part gives windows
  pub given_windows : (g : Gathered) → given_by kind none g ≡ given.Windows (lent_as none g.windows)
  given_windows g = ap (λ (k : PartKind). given_by k none g) (windows_kind kind e a is)

-- ---- what may be asked

module _ (asked : Asked) where
  abbrev wants : RangeAsked → ℤ → List Need
  wants a t = Need.patterns a.selector.rules ∷ Need.times (t ∷ range_times (moment_of asked a.selector.moment t) a.range.0) ∷ []

  range_needs : (e : Expr) (a : RangeAsked) (t : ℤ) → range_in (out-Node e.node) ≡ Some a → HaveTheirPatterns asked.kept a.selector.rules → IsTime t → HasTimes (moment_of asked a.selector.moment t) a.range.0 → AreMet asked (needs_of asked e t)
  range_needs e a t is rules at times =
      subst (AreMet asked)
      (sym (ap (λ (f : ℤ → List Need). f t) (by_layer (node_needs asked) e) ∙ is_range (λ y b. node_needs asked (layer (node_needs asked) y) t ≡ wants b t) (λ selector range. refl) (out-Node e.node) a is))
      (rules, ((at, (times.ends, (times.begins, tt))), tt))

range_form : (kept : Kept) (kind : PartKind) (e : Expr) (a : RangeAsked) → asked_range kind e ≡ Some a → pos 0 <ℤ a.range.0 → HasForm kept e kind
range_form kept part.Rows e a is forward = absurd (cc)
range_form kept part.Windows e a is forward = (a.selector, a.range, range_node e a is, forward)
range_form kept (part.Partial f by) e a is forward = absurd (cc)

-- windows whose patterns are kept and that lie within the times
pub may_windows : WalkMomentIsMoment → (span : Grid) (kept : Kept) (r : Request) (a : RangeAsked) → asked_range r.part.kind r.part.expr ≡ Some a → a.range ≡ r.range → HaveTheirPatterns kept a.selector.rules
    → IsMomentOf (asked_over [] kept span) a.selector.moment r.moment → r.moment.closed ≡ a.selector.moment.closed → pos 0 <ℤ r.range.0 → LeadsToTimes r.walk → ((t : ℤ) → IsInstant r.walk t → IsTime t)
    → ((t : ℤ) → IsInstant r.walk t → HasTimes (moment_at r.moment t) r.range.0) → MayRequest span kept r
may_windows law span kept r a is reaches rules timed closed forward leads on times =
    let asked = asked_over [] kept span in
    let there = range_there r.part.kind r.part.expr a is in
    let window : IsWindowOf span r.part.expr (ask_of r) = record {
      selector = a.selector;
      selects = range_node r.part.expr a there ∙ ap (ast.Range a.selector) reaches;
      moment = record { fixed = timed.fixed; offset = timed.offset };
      closed = closed;
    } in
    record {
      may = λ e going. record {
        going = going;
        form = range_form kept r.part.kind r.part.expr a is (subst (λ (range : Ms). pos 0 <ℤ range.0) (sym reaches) forward);
        needs = λ t i. range_needs asked r.part.expr a t.0 there rules (on t.0 i)
            (subst (λ (range : Ms). HasTimes (moment_of asked a.selector.moment t.0) range.0) (sym reaches) (subst (λ (m : ℤ). HasTimes m r.range.0) (law asked a.selector.moment r.moment t.0 timed) (times t.0 i)));
        times = (ask_of r, record { walk_is = refl; kind_is = refl; window = λ k. window }, record { walk = leads; windows = λ k at i. times at.0 i });
      };
      window = λ k. window;
    }

-- what is asked for over one grid may be asked for over each with the same ends
pub may_over : WalkMomentIsMoment → (samples : AllSeries) (kept : Kept) (own : Grid) (engines : List AllSeries) (r : Request) (a : RangeAsked) → asked_range r.part.kind r.part.expr ≡ Some a → a.range ≡ r.range
    → HaveTheirPatterns kept a.selector.rules → IsMomentOf (asked_over [] kept own) a.selector.moment r.moment → r.moment.closed ≡ a.selector.moment.closed → pos 0 <ℤ r.range.0 → LeadsToTimes r.walk
    → ((t : ℤ) → IsInstant r.walk t → IsTime t) → ((t : ℤ) → IsInstant r.walk t → HasTimes (moment_at r.moment t) r.range.0) → (span : Grid) → IsQueryOver span kept (asked_with samples kept own engines) → MayRequest span kept r
may_over law samples kept own engines r a is reaches rules timed closed forward leads on times span over =
    let same : asked_over [] kept own ≡ asked_over [] kept span = λ j. record { samples = []; kept = kept; start = over.starts j; end = over.ends j; engines = [] } in
    may_windows law span kept r a is reaches rules (subst (λ (q : Asked). IsMomentOf q a.selector.moment r.moment) same timed) closed forward leads on times
