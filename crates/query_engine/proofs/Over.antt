-- The result of a query over engines at which samples stand.
use Rattle.std.proofs.Common.{◌≡◌, ◌∙◌, ℕ, zero, suc, ◌<◌, true, List, [], ◌∷◌, length, slice_get, take, Option, None, Some, ap, arith, refl, subst, sym}
use Rattle.std.specs.Prelude.{ℤ, Bool, Result, Ok, Err, IfOk, is_some}
use Rattle.std.specs.Option.{option_map}
use Rattle.exchange.specs.Calls.{Each}
use Rattle.exchange.specs.Standing.{Tells}
use Rattle.exchange.specs.declared.request.Request.{Request}
use Rattle.logical_plan.specs.Lowering.{PatternsArePlaced}
use Rattle.logical_plan.specs.PlanMeaning.{plan_meaning, plan_step}
use Rattle.logical_plan.specs.Shown.{shown}
use Rattle.logical_plan.specs.declared.nodes.Plan.{Plan}
use Rattle.opt_matchers.specs.Handing.{HaveLabelSets}
use Rattle.opt_remote.specs.Engines.{ArePartedOver, held_by}
use Rattle.parting_laws.specs.Parted.{Engine}
use Rattle.plan_parts.specs.Gathered.{held_by as held_there}
use Rattle.plan_parts.specs.Parts.{OncesStay}
use Rattle.plan_parts.specs.Requested.{AreMeant, asked_with}
use Rattle.plan_tree.specs.Shapes.{Shape, rule}
use Rattle.plan_tree.specs.Worlds.{Gathers, no_gathers, world}
use Rattle.promql_ast.specs.Edged.{edged}
use Rattle.promql_ast.specs.declared.tree.Expr.{Expr}
use Rattle.promql_meaning.specs.Givens.{step_of}
use Rattle.promql_meaning.specs.Meaning.{meaning, meaning_step}
use Rattle.promql_meaning.specs.Results.{grid_times, result_of}
use Rattle.promql_meaning.specs.Selecting.{AllSeries, Asked, asked_over}
use Rattle.promql_meaning.specs.declared.answer.Outcome.{Outcome}
use Rattle.promql_type.specs.Replacements.{Kept}
use Rattle.promql_type.specs.declared.replace.Placed.{Placed}
use Rattle.remote_api.specs.Seen.{EngineSeen, Holding}
use Rattle.step_table.specs.Groups.{Names}
use Rattle.step_table.specs.Timed.{steps_over}
use Rattle.ticks.specs.Listed.{IsListed}
use Rattle.ticks.specs.Walks.{IsInstant}
use Rattle.ticks.specs.declared.grid.Grid.{Grid}
use Rattle.ticks.specs.declared.walk.Walk.{Grid as GridWalk}
use Rattle.query_engine.specs.Engines.{AreHeldBy, StandAt}
use Rattle.query_engine.specs.Evaluating.{ComesTo, StandsFor, answered}
use Rattle.query_engine.proofs.Streamed.{steps_are_meant}

-- ---- what is held

told : {X : Type 0} (f : Holding → X) (o : Option Holding) (x : X) → option_map f o ≡ Some x → is_some o ≡ true
told f None x e = absurd (cc)
told f (Some h) x e = refl

pub all_tell : (declared : List Names) (es : List EngineSeen) (engines : List Engine) → length declared ≡ length es → AreHeldBy declared es engines
    → (i : ℕ) (e : EngineSeen) → slice_get es i ≡ Some e → Tells e
all_tell [] [] engines size held i e at = absurd (cc)
all_tell [] (f ∷ es) engines size held i e at = absurd (omega (arith, size))
all_tell (labels ∷ declared) [] engines size held i e at = absurd (cc)
all_tell (labels ∷ declared) (f ∷ es) [] size held i e at = absurd held
all_tell (labels ∷ declared) (f ∷ es) (x ∷ engines) size held zero e at =
    let same : f ≡ e = cc in
    subst Tells same (told (λ h. h.samples) f.holding x.samples held.0.tells)
all_tell (labels ∷ declared) (f ∷ es) (x ∷ engines) size held (suc i) e at = all_tell declared es engines (omega (arith, size)) held.1 i e at

pub are_held : (declared : List Names) (es : List EngineSeen) (engines : List Engine) → length declared ≡ length es → AreHeldBy declared es engines
    → (i : ℕ) → held_there (slice_get es i) ≡ slice_get (held_by engines) i
are_held [] [] [] size held i = refl
are_held [] (f ∷ es) engines size held i = absurd (omega (arith, size))
are_held [] [] (x ∷ engines) size held i = absurd held
are_held (labels ∷ declared) [] engines size held i = absurd (omega (arith, size))
are_held (labels ∷ declared) (f ∷ es) [] size held i = absurd held
are_held (labels ∷ declared) (f ∷ es) (x ∷ engines) size held zero = held.0.tells
are_held (labels ∷ declared) (f ∷ es) (x ∷ engines) size held (suc i) = are_held declared es engines (omega (arith, size)) held.1 i

pub as_many : (declared : List Names) (es : List EngineSeen) (engines : List Engine) → AreHeldBy declared es engines → length (held_by engines) ≡ length declared
as_many [] es [] held = refl
as_many [] es (x ∷ engines) held = absurd held
as_many (labels ∷ declared) [] engines held = absurd held
as_many (labels ∷ declared) (f ∷ es) [] held = absurd held
as_many (labels ∷ declared) (f ∷ es) (x ∷ engines) held = ap suc (as_many declared es engines held.1)

-- engines that hold what they held stand for the same ones
pub held_now : (declared : List Names) (es fs : List EngineSeen) (engines : List Engine) → Each (λ (e f : EngineSeen). f.holding ≡ e.holding) es fs → AreHeldBy declared es engines → AreHeldBy declared fs engines
held_now [] es fs [] same held = tt
held_now [] es fs (x ∷ engines) same held = absurd held
held_now (labels ∷ declared) [] fs engines same held = absurd held
held_now (labels ∷ declared) (e ∷ es) fs [] same held = absurd held
held_now (labels ∷ declared) (e ∷ es) [] (x ∷ engines) same held = absurd (nowhere (same 0 e refl).0 (same 0 e refl).1)
  where
    nowhere : (f : EngineSeen) → slice_get [] 0 ≡ Some f → ⊥
    nowhere f is = cc
held_now (labels ∷ declared) (e ∷ es) (f ∷ fs) (x ∷ engines) same held = (
  record { declared = held.0.declared; tells = ap (option_map (λ (h : Holding). h.samples)) (here (same 0 e refl).0 (same 0 e refl).1 (same 0 e refl).2) ∙ held.0.tells },
  held_now declared es fs engines (λ i y at. same (suc i) y at) held.1,
)
  where
    here : (g : EngineSeen) → Some f ≡ Some g → g.holding ≡ e.holding → f.holding ≡ e.holding
    here g is h = let s : f ≡ g = cc in ap (λ (y : EngineSeen). y.holding) s ∙ h

-- the first boxes of a list hold what those of the list do
pub held_first : (declared : List Names) (es : List EngineSeen) (engines : List Engine) (n : ℕ) → length declared ≡ n → AreHeldBy declared es engines → AreHeldBy declared (take n es) engines
held_first [] es [] n size held = tt
held_first [] es (x ∷ engines) n size held = absurd held
held_first (labels ∷ declared) [] engines n size held = absurd held
held_first (labels ∷ declared) (e ∷ es) [] n size held = absurd held
held_first (labels ∷ declared) (e ∷ es) (x ∷ engines) zero size held = absurd (omega (arith, size))
held_first (labels ∷ declared) (e ∷ es) (x ∷ engines) (suc n) size held = (held.0, held_first declared es engines n (omega (arith, size)) held.1)

-- ---- the result

pub by_requests : {X : Type 0} (requests : List Request) → (requests ≡ [] → X) → (0 < length requests → X) → X
by_requests [] none some = none refl
by_requests (r ∷ requests) none some = some (omega arith)

pub none_asked : (asked : Asked) (requests : List Request) → requests ≡ [] → AreMeant asked requests no_gathers
none_asked asked [] e k r t at served = absurd (cc)
none_asked asked (q ∷ requests) e k r t at served = absurd (cc)

-- where the plan that a tree gives reads no samples itself, and means over engines what the query means, the tree's steps are those of the query
module _ (grid : Grid) (kept : Kept) (store : AllSeries) (p : Plan) (e : Expr) (placed : List Placed) (shape : Shape) (requests : List Request) (count : ℕ)
    (listed : IsListed (GridWalk grid) (grid_times grid))
    (means : (asked : Asked) (t : ℤ) → ArePartedOver count asked → HaveLabelSets asked → PatternsArePlaced asked.kept placed e → plan_meaning asked p t ≡ shown (meaning asked e t))
    (there : PatternsArePlaced kept placed e)
    (gives : (engines : List AllSeries) (gathers : Gathers) → AreMeant (asked_with store kept grid engines) requests gathers → OncesStay (asked_with store kept grid engines) p
    → (t : ℤ) → IsInstant (GridWalk grid) t → rule (world store gathers) kept shape t ≡ plan_step (asked_with store kept grid engines) p t)
    (stay : (asked : Asked) → OncesStay asked p)
    (unread : (asked : Asked) (samples : AllSeries) (t : ℤ) → plan_meaning (record asked { samples = samples }) p t ≡ plan_meaning asked p t)
    (declared : List Names) (samples : AllSeries) (es : List EngineSeen) (size : length declared ≡ count) (stand : StandAt declared es samples) where
  abbrev held : List AllSeries
  held = held_by stand.engines

  abbrev all : Asked
  all = asked_with samples kept grid held

  parted_over : ArePartedOver count all
  parted_over = record { engines = stand.engines; parted = stand.parted; held = refl; all = as_many declared es stand.engines stand.held ∙ size }

  pub steps_meant : (gathers : Gathers) → AreMeant (asked_with store kept grid held) requests gathers
      → steps_over (rule (world store gathers) kept shape) (grid_times grid) ≡ steps_over (meaning_step all e) (grid_times grid)
  steps_meant gathers meant =
      steps_are_meant all grid p e (rule (world store gathers) kept shape) listed
      (λ t inside. gives held gathers meant (stay (asked_with store kept grid held)) t inside ∙ ap step_of (sym (unread (asked_with store kept grid held) samples t)))
      (λ t. means all t parted_over stand.sets there)

-- what is said of samples that stand at some boxes is said of those that stand at boxes which hold the same
pub stand_moved : {E : Type 0} (Said : AllSeries → Outcome → Type 0) (n m : ℕ) (es fs : List EngineSeen) → m ≡ n
    → ((declared : List Names) (engines : List Engine) → length declared ≡ n → AreHeldBy declared es engines → AreHeldBy declared fs engines) → (result : Result Outcome E)
    → IfOk result (λ o. (declared : List Names) (samples : AllSeries) → length declared ≡ m → StandAt declared fs samples → Said samples o)
    → IfOk result (λ o. (declared : List Names) (samples : AllSeries) → length declared ≡ n → StandAt declared es samples → Said samples o)
stand_moved Said n m es fs same move (Ok o) said = λ declared samples size stand.
    said declared samples (size ∙ sym same) (record { sets = stand.sets; engines = stand.engines; held = move declared stand.engines size stand.held; parted = stand.parted })
stand_moved Said n m es fs same move (Err fault) said = tt

-- an outcome that is the result of a text's tree is what the text comes to
pub comes_over : {E : Type 0} (text : List ℕ) (kept : Kept) (grid : Grid) (e tree : Expr) (instant closed : Bool) (n : ℕ) (es : List EngineSeen) → StandsFor text kept e → tree ≡ edged closed e
    → (result : Result Outcome E) → IfOk result (λ o. (declared : List Names) (samples : AllSeries) → length declared ≡ n → StandAt declared es samples → o ≡ result_of (asked_over samples kept grid) tree grid instant)
    → IfOk result (λ o. (declared : List Names) (samples : AllSeries) → length declared ≡ n → StandAt declared es samples → ComesTo text samples grid instant closed o)
comes_over text kept grid e tree instant closed n es stands edge (Ok o) is = λ declared samples size stand.
    answered kept e o stands (is declared samples size stand ∙ ap (λ (x : Expr). result_of (asked_over samples kept grid) x grid instant) edge)
comes_over text kept grid e tree instant closed n es stands edge (Err fault) is = tt
