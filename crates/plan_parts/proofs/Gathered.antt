-- What a gather of a tree gives is what that of a plan does, over engines that hold what the query says.
use Rattle.std.proofs.Common.{◌≡◌, ◌∙◌, ℕ, List, [], ◌∷◌, map, Option, None, Some, refl, sym, ap, slice_get}
use Rattle.std.specs.Prelude.{ℤ, IfSome, IsTrue}
use Rattle.std.specs.List.{cons_option, filter_map}
use Rattle.std.specs.List.Sorted.{IsStrictlySortedBy}
use Rattle.std.specs.Option.{option_map}
use Rattle.exchange.specs.declared.request.Request.{Request}
use Rattle.logical_plan.specs.Gathers.{all_owed, gathered, given_over, joined, over_samples, owed_by, owed_over, windows_among, windows_of}
use Rattle.op_gather.specs.Joins.{SetsStay, with_sets}
use Rattle.op_labels.specs.Rules.{Kept}
use Rattle.plan_tree.specs.Asking.{cells_held, cells_of, gathered_at}
use Rattle.plan_tree.specs.Gathering.{gives_steps, joined_of}
use Rattle.promql_ast.specs.declared.tree.Expr.{Expr}
use Rattle.promql_meaning.specs.Aggregations.{keyed_values}
use Rattle.promql_meaning.specs.Givens.{marked, no_marks, step_of}
use Rattle.promql_meaning.specs.Laws.{MeaningIsWellFormed}
use Rattle.promql_meaning.specs.Meaning.{meaning}
use Rattle.promql_meaning.specs.Selecting.{AllSeries, Asked, asked_over}
use Rattle.promql_meaning.specs.declared.given.Given.TheVariants as given
use Rattle.promql_meaning.specs.declared.given.Windows.{Windows}
use Rattle.remote_api.specs.Seen.{EngineSeen, Holding}
use Rattle.remote_api.specs.declared.asks.Part.{Part}
use Rattle.step_cells.specs.Joined.{joined_partials, joined_rows, joined_windows}
use Rattle.step_cells.specs.Owed.{cells, lost_mark}
use Rattle.step_table.specs.Groups.{gathered as groups}
use Rattle.step_table.specs.KeySets.{sorted_set}
use Rattle.step_table.specs.Laws.{UnionIsSet}
use Rattle.step_table.specs.OrderLaws.{mark_cmp_ties, mark_cmp_total}
use Rattle.step_table.specs.Orders.{mark_cmp, note_cmp}
use Rattle.step_table.specs.Unions.{set_of, union, united}
use Rattle.step_table.specs.WellFormed.{AreSets}
use Rattle.step_table.specs.declared.cells.PartKind.{PartKind}
use Rattle.step_table.specs.declared.cells.PartKind.TheVariants as part
use Rattle.step_table.specs.declared.cells.StepCells.{StepCells}
use Rattle.step_table.specs.declared.marks.Mark.{Mark}
use Rattle.step_table.specs.declared.marks.Marks.{Marks}
use Rattle.step_table.specs.declared.marks.Note.{Note}
use Rattle.step_table.specs.declared.step.Step.{Step}
use Rattle.ticks.specs.declared.grid.Grid.{Grid}
use Rattle.plan_parts.specs.Gathered.{AreHeld, IsQueryOver, IsUnmarked, held_by}
use Rattle.plan_parts.specs.Requested.{given_by}

-- ---- no marks more

mark_none : (xs : List Mark) → union mark_cmp xs [] ≡ xs
mark_none [] = refl
mark_none (x ∷ xs) = refl

note_none : (xs : List Note) → union note_cmp xs [] ≡ xs
note_none [] = refl
note_none (x ∷ xs) = refl

united_none : (marks : Marks) → united marks no_marks ≡ marks
united_none marks = ap (λ (f : List Mark). record { fatal = f; notes = union note_cmp marks.notes [] }) (mark_none marks.fatal) ∙ ap (λ (n : List Note). record { fatal = marks.fatal; notes = n }) (note_none marks.notes)

marked_none : (step : Step) → marked no_marks step ≡ step
marked_none step = ap (λ (m : Marks). record { table = step.table; marks = m }) (united_none step.marks)

-- ---- marks that are sets

fatal_sets : (fatal : List Mark) → AreSets (record { fatal = set_of mark_cmp fatal; notes = [] })
unfolding IsStrictlySortedBy
fatal_sets fatal = record { fatal = sorted_set mark_cmp_total mark_cmp_ties fatal; notes = tt }

-- there are none
pub no_sets : AreSets no_marks
unfolding IsStrictlySortedBy
no_sets = record { fatal = tt; notes = tt }

-- those of what is owed as steps
pub owed_sets : MeaningIsWellFormed → UnionIsSet → (asked : Asked) (expr : Expr) (kind : PartKind) (t : ℤ) (samples : AllSeries) → IsTrue (gives_steps kind) → AreSets (owed_over asked expr kind t samples).marks
owed_sets formed union asked expr part.Rows t samples k = (formed (over_samples asked samples) expr t).marks
owed_sets formed union asked expr part.Windows t samples k = absurd (cc)
owed_sets formed union asked expr (part.Partial f by) t samples k =
    let step = step_of (given_over asked expr t samples) in
    let lost = filter_map (lost_mark f) (groups (keyed_values by step.table.rows)) in
    union step.marks (record { fatal = set_of mark_cmp lost; notes = [] }) (formed (over_samples asked samples) expr t).marks (fatal_sets lost)

option_sets : {A : Type 0} (f : A → StepCells) → ((a : A) → AreSets (f a).marks) → (o : Option A) → IfSome (option_map f o) (λ (step : StepCells). AreSets step.marks)
option_sets f sets None = tt
option_sets f sets (Some a) = sets a

cons_stays : SetsStay → (o : Option StepCells) (steps : List StepCells) → IfSome o (λ (step : StepCells). AreSets step.marks) → map with_sets steps ≡ steps → map with_sets (cons_option o steps) ≡ cons_option o steps
cons_stays stay None steps sets e = e
cons_stays stay (Some step) steps sets e = ap (λ (s : StepCells). s ∷ map with_sets steps) (stay step sets) ∙ ap (λ (ss : List StepCells). step ∷ ss) e

all_stay : SetsStay → (f : ℕ → Option StepCells) → ((i : ℕ) → IfSome (f i) (λ (step : StepCells). AreSets step.marks)) → (numbers : List ℕ) → map with_sets (filter_map f numbers) ≡ filter_map f numbers
all_stay stay f sets [] = refl
all_stay stay f sets (i ∷ numbers) = cons_stays stay (f i) (filter_map f numbers) (sets i) (all_stay stay f sets numbers)

-- ---- what each engine owes

module _ (asked : Asked) (span : Grid) (kept : Kept) (query : IsQueryOver span kept asked) (p : Part) (t : ℤ) where
  over_is : (samples : AllSeries) → over_samples asked samples ≡ asked_over samples kept span
  over_is samples = λ j. record { samples = samples; kept = query.kept_are j; start = query.starts j; end = query.ends j; engines = [] }

  held_owes : (h : Option Holding) → cells_held span kept p (record { 0 = t }) h ≡ option_map (owed_over asked p.expr p.kind t) (option_map (λ (h : Holding). h.samples) h)
  held_owes None = refl
  held_owes (Some h) = ap (λ (a : Asked). Some (cells p.kind (record { 0 = t }) (meaning a p.expr t))) (sym (over_is h.samples))

  seen_owes : (o : Option EngineSeen) → cells_of span kept p (record { 0 = t }) o ≡ option_map (owed_over asked p.expr p.kind t) (held_by o)
  seen_owes None = refl
  seen_owes (Some e) = held_owes e.holding

  module _ (es : List EngineSeen) (held : AreHeld es asked) where
    number_owes : (i : ℕ) → cells_of span kept p (record { 0 = t }) (slice_get es i) ≡ owed_by asked p.expr p.kind t i
    number_owes i = seen_owes (slice_get es i) ∙ ap (option_map (owed_over asked p.expr p.kind t)) (held i)

    pub all_owe : (numbers : List ℕ) → filter_map (λ (i : ℕ). cells_of span kept p (record { 0 = t }) (slice_get es i)) numbers ≡ all_owed asked p.expr p.kind numbers t
    all_owe numbers = ap (λ (f : ℕ → Option StepCells). filter_map f numbers) (λ j i. number_owes i j)

-- ---- what all of them come to

joins : (kind : PartKind) (t : ℤ) (steps : List StepCells) (marks : Marks) (none : Windows) → map with_sets steps ≡ steps → marks ≡ no_marks → joined kind t steps marks none ≡ given_by kind none (joined_of kind (record { 0 = t }) steps)
joins part.Rows t steps marks none stay e =
    ap (λ (m : Marks). given.Vector (marked m (joined_rows steps))) e ∙ ap given.Vector (marked_none (joined_rows steps) ∙ ap joined_rows (sym stay))
joins part.Windows t steps marks none stay e =
    ap (λ (m : Marks). given.Windows (windows_among none t steps m)) e
    ∙ ap (λ (m : Marks). given.Windows (record none { rules = []; rows = (joined_windows (record { 0 = t }) steps).rows; marks = m })) (united_none (joined_windows (record { 0 = t }) steps).marks)
    ∙ ap (λ (ss : List StepCells). given.Windows (record none { rules = []; rows = (joined_windows (record { 0 = t }) ss).rows; marks = (joined_windows (record { 0 = t }) ss).marks })) (sym stay)
joins (part.Partial f by) t steps marks none stay e =
    ap (λ (m : Marks). given.Vector (marked m (joined_partials f steps))) e ∙ ap given.Vector (marked_none (joined_partials f steps) ∙ ap (joined_partials f) (sym stay))

-- what a gather of a tree gives is what the plan's gather gives, where the marks of what engines owe are sets, and its part has none of its
-- own
pub gather_gives : SetsStay → (asked : Asked) (span : Grid) (kept : Kept) (es : List EngineSeen) (r : Request) (t : ℤ) → IsQueryOver span kept asked → AreHeld es asked
    → ((samples : AllSeries) → AreSets (owed_over asked r.part.expr r.part.kind t samples).marks) → IsUnmarked asked r.part.expr r.part.kind
    → gathered asked r.part.expr r.part.kind r.engines t ≡ given_by r.part.kind (windows_of (given_over asked r.part.expr t [])) (gathered_at span kept es (Some r) (record { 0 = t }))
gather_gives stay asked span kept es r t query held sets unmarked =
    let expr = r.part.expr in
    let kind = r.part.kind in
    let none = windows_of (given_over asked expr t []) in
    let owed = all_owed asked expr kind r.engines t in
    joins kind t owed (owed_over asked expr kind t []).marks none
    (all_stay stay (owed_by asked expr kind t) (λ i. option_sets (owed_over asked expr kind t) sets (slice_get asked.engines i)) r.engines)
    (unmarked t)
    ∙ ap (λ (ss : List StepCells). given_by kind none (joined_of kind (record { 0 = t }) ss)) (sym (all_owe asked span kept query r.part t es held r.engines))
