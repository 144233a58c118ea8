-- What gathers of a tree give is what those of its plan do.
use Rattle.std.proofs.Common.{◌≡◌, ◌∙◌, Bool, true, false, List, [], Option, None, Some, refl, sym, ap, subst}
use Rattle.std.specs.Prelude.{ℤ, ◌||◌, IsTrue, is_some}
use Rattle.exchange.specs.declared.request.Request.{Request}
use Rattle.logical_plan.specs.Gathers.{given_over, owed_over, windows_of}
use Rattle.op_gather.specs.Joins.{SetsStay}
use Rattle.plan_serving.specs.Asking.{asked_range, asked_selector, is_range_part, is_rows_part, is_served_part}
use Rattle.plan_tree.specs.Asking.{gathered_at}
use Rattle.plan_tree.specs.Gathering.{gives_steps}
use Rattle.plan_tree.specs.Worlds.{Gathered}
use Rattle.promql_ast.specs.declared.tree.Expr.{Expr}
use Rattle.promql_meaning.specs.Laws.{MeaningIsWellFormed}
use Rattle.promql_meaning.specs.Selecting.{AllSeries, Asked}
use Rattle.promql_meaning.specs.declared.given.Given.TheVariants.{Vector}
use Rattle.promql_meaning.specs.declared.given.Windows.{Windows}
use Rattle.step_table.specs.Laws.{UnionIsSet}
use Rattle.step_table.specs.WellFormed.{AreSets}
use Rattle.step_table.specs.declared.cells.PartKind.{PartKind}
use Rattle.step_table.specs.declared.cells.PartKind.TheVariants as part
use Rattle.plan_parts.specs.Gathered.{IsUnmarked}
use Rattle.plan_parts.specs.Laws.{GathersAreMeant}
use Rattle.plan_parts.specs.Requested.{given_by}
use Rattle.plan_parts.proofs.Gathered.{gather_gives, no_sets, owed_sets}
use Rattle.plan_parts.proofs.Unmarked.{ranges_unmarked, selectors_unmarked}

-- ---- rows

-- the rows of a selector are given as steps
pub rows_steps : (kind : PartKind) (expr : Expr) → IsTrue (is_rows_part kind expr) → IsTrue (gives_steps kind)
rows_steps part.Rows expr h = refl
rows_steps part.Windows expr h = absurd (cc)
rows_steps (part.Partial f by) expr h = absurd (cc)

-- and served
pub rows_served : (kind : PartKind) (expr : Expr) → IsTrue (is_rows_part kind expr) → IsTrue (is_served_part kind expr)
rows_served kind expr h = ap (λ (b : Bool). b || is_range_part kind expr) h

-- a step is given as a vector
pub given_step : (kind : PartKind) (none : Windows) (g : Gathered) → IsTrue (gives_steps kind) → given_by kind none g ≡ Vector g.step
given_step part.Rows none g h = refl
given_step part.Windows none g h = absurd (cc)
given_step (part.Partial f by) none g h = refl

-- ---- what is served

there : {X : Type 0} (o : Option X) → IsTrue (is_some o) → (x : X) × (o ≡ Some x)
there None h = absurd (cc)
there (Some x) h = (x, refl)

first_alone : (b : Bool) → IsTrue (b || false) → IsTrue b
first_alone true h = refl
first_alone false h = h

served_unmarked : (asked : Asked) (kind : PartKind) (expr : Expr) → IsTrue (is_served_part kind expr) → IsUnmarked asked expr kind
served_unmarked asked part.Rows expr h = let s = there (asked_selector part.Rows expr) (first_alone (is_rows_part part.Rows expr) h) in selectors_unmarked asked part.Rows expr s.0 s.1
served_unmarked asked part.Windows expr h = let a = there (asked_range part.Windows expr) h in λ t. ranges_unmarked asked [] expr a.0 t a.1
served_unmarked asked (part.Partial f by) expr h = absurd (cc)

served_sets : MeaningIsWellFormed → UnionIsSet → (asked : Asked) (kind : PartKind) (expr : Expr) (t : ℤ) → IsTrue (is_served_part kind expr) → (samples : AllSeries) → AreSets (owed_over asked expr kind t samples).marks
served_sets formed union asked part.Rows expr t h samples = owed_sets formed union asked expr part.Rows t samples refl
served_sets formed union asked part.Windows expr t h samples =
    let a = there (asked_range part.Windows expr) h in subst AreSets (sym (ranges_unmarked asked samples expr a.0 t a.1)) no_sets
served_sets formed union asked (part.Partial f by) expr t h samples = absurd (cc)

pub meant : MeaningIsWellFormed → UnionIsSet → SetsStay → GathersAreMeant
meant formed union stay asked span kept es requests query held k r t at served =
    let kind = r.part.kind in
    let expr = r.part.expr in
    gather_gives stay asked span kept es r t query held (served_sets formed union asked kind expr t served) (served_unmarked asked kind expr served)
    ∙ ap (λ (o : Option Request). given_by kind (windows_of (given_over asked expr t [])) (gathered_at span kept es o (record { 0 = t }))) (sym at)
