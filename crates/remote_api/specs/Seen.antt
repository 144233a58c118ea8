-- What is seen of an engine, and what its calls make of that. (This project's own.)
use Rattle.std.specs.Prelude.{◌≡◌, ◌+◌, ◌≤◌, ◌<ℤ◌, pos, ℕ, Bool, true, false, List, [], ◌∷◌, ◌++◌, length, map, take, drop, slice_get, slice_set, is_some, Contains, Option, Some, None, Result, IfOk, IfSome, OnOk, OnErr, IsErrOf, IsTrue, ⊤}
use Rattle.std.specs.Option.{option_map}
use Rattle.edge_io.specs.Causes.{HasCause, Rose}
use Rattle.promql_ast.specs.declared.tree.Expr.{Expr}
use Rattle.promql_ast.specs.declared.tree.Node.TheVariants.{Range}
use Rattle.promql_ast.specs.declared.tree.Selector.{Selector}
use Rattle.promql_type.specs.Answers.{refusals_of}
use Rattle.promql_type.specs.Judging.{judged}
use Rattle.promql_type.specs.Replacements.{AreKept, Kept}
use Rattle.promql_type.specs.declared.replace.Placed.{Placed}
use Rattle.promql_meaning.specs.Conditions.{AreMet, needs_of}
use Rattle.promql_meaning.specs.Meaning.{meaning}
use Rattle.promql_meaning.specs.Selecting.{AllSeries, Asked, asked_over}
use Rattle.promql_meaning.specs.WalkMoments.{IsMomentOf}
use Rattle.sample_store.specs.Samples.{refusal_of, with_sample}
use Rattle.step_cells.specs.Owed.{cells, is_partial}
use Rattle.step_table.specs.Groups.{Names}
use Rattle.step_table.specs.declared.cells.PartKind.{PartKind}
use Rattle.step_table.specs.declared.cells.PartKind.TheVariants as part_kind
use Rattle.step_table.specs.declared.cells.StepCells.{StepCells}
use Rattle.ticks.specs.Listed.{IsListed}
use Rattle.ticks.specs.Walks.{IsInstant}
use Rattle.ticks.specs.declared.grid.Grid.{Grid}
use Rattle.ticks.specs.declared.moment.Ms.{Ms}
use Rattle.ticks.specs.declared.walk.Walk.{Walk}
use Rattle.xfrac.specs.declared.value.Held.{Held}
use Rattle.remote_api.specs.Strays.{AsksInTimes, early_end, stray_of}
use Rattle.remote_api.specs.declared.asks.Ask.{Ask}
use Rattle.remote_api.specs.declared.asks.Part.{Part}
use Rattle.remote_api.specs.declared.engine.EngineFail.{EngineFail}
use Rattle.remote_api.specs.declared.engine.EngineFail.TheVariants as fail
use Rattle.remote_api.specs.declared.engine.Pulled.{Pulled}
use Rattle.remote_api.specs.declared.engine.Pulled.TheVariants as pulled
use Rattle.remote_api.specs.declared.frame.Stray.{Stray}

-- ---- what is seen

-- what an engine holds: the labels that are declared to it, once they are, and its samples
pub record Holding : Type 0 where
  pub declared : Option Names
  pub samples : AllSeries

-- an ask: its part, what its steps have to be, and the patterns that were kept then; how many of its steps were given; and the steps
-- that are still to come, where the engine tells what it holds
pub record AskSeen : Type 0 where
  pub part : Part
  pub ask : Ask
  pub kept : Kept
  pub given : ℕ
  pub left : List StepCells

-- an engine: what it holds, where it tells; its asks since `begin`, and whether want of memory has spent them; how often it has
-- failed; how often it has strayed, and its last stray; and whether no call fails
pub record EngineSeen : Type 0 where
  pub holding : Option Holding
  pub asks : List AskSeen
  pub spent : Bool
  pub faults : ℕ
  pub strays : ℕ
  pub stray : Option Stray
  pub sound : Bool

-- ---- what every call keeps

-- whether an engine tells never changes, a call that fails counts a fault, and of an engine that is sound none fails
pub record HasFaults (failed : Type 0) (old new : EngineSeen) : Type 0 where
  pub tells : is_some new.holding ≡ is_some old.holding
  pub cause : HasCause old.faults new.faults failed
  pub sound : old.sound ≡ true → new.sound ≡ true
  pub never : old.sound ≡ true → failed → ⊥

-- it has the asks that it had
pub record KeepsAsks (old new : EngineSeen) : Type 0 where
  pub asks : new.asks ≡ old.asks
  pub spent : new.spent ≡ old.spent

-- it has strayed no more
pub record KeepsStrays (old new : EngineSeen) : Type 0 where
  pub strays : new.strays ≡ old.strays
  pub stray : new.stray ≡ old.stray

-- ---- what it holds

abbrev pub declared_with : Names → Holding → Holding
declared_with labels holding = record holding { declared = Some labels }

abbrev pub loaded_with : Names → Ms → Held → Holding → Holding
loaded_with labels at held holding = record holding { samples = with_sample holding.samples labels at held }

abbrev pub cleared : Holding → Holding
cleared holding = record holding { samples = [] }

-- labels have all pairs of others
abbrev pub HasLabels : Names → Names → Type 0
HasLabels declared labels = (pair : List ℕ × List ℕ) → Contains declared pair → Contains labels pair

-- no labels are declared to it yet
abbrev pub MayDeclare : EngineSeen → Type 0
MayDeclare e = IfSome e.holding (λ h. h.declared ≡ None)

pub record HasDeclared (labels : Names) (result : Result ⊤ EngineFail) (old new : EngineSeen) : Type 0 where
  pub faults : HasFaults (IsErrOf result fail.Failed) old new
  pub declared : OnOk result (new.holding ≡ option_map (declared_with labels) old.holding)
  pub unchanged : OnErr result (new.holding ≡ old.holding)
  pub asks : KeepsAsks old new
  pub strays : KeepsStrays old new

-- no ask was made; and where the engine tells, the labels have those that are declared, and a store of its samples takes this one
pub record MayLoad (labels : Names) (at : Ms) (held : Held) (e : EngineSeen) : Type 0 where
  pub unasked : e.asks ≡ []
  pub declared : IfSome e.holding (λ h. IfSome h.declared (λ names. HasLabels names labels))
  pub taken : IfSome e.holding (λ h. refusal_of h.samples labels at held ≡ None)

pub record HasLoaded (labels : Names) (at : Ms) (held : Held) (result : Result ⊤ EngineFail) (old new : EngineSeen) : Type 0 where
  pub faults : HasFaults (IsErrOf result fail.Failed) old new
  pub loaded : OnOk result (new.holding ≡ option_map (loaded_with labels at held) old.holding)
  pub unchanged : OnErr result (new.holding ≡ old.holding)
  pub asks : KeepsAsks old new
  pub strays : KeepsStrays old new

pub record IsCleared (old new : EngineSeen) : Type 0 where
  pub faults : HasFaults ⊥ old new
  pub holding : new.holding ≡ option_map cleared old.holding
  pub asks : KeepsAsks old new
  pub strays : KeepsStrays old new

-- ---- asks

pub record IsBegun (old new : EngineSeen) : Type 0 where
  pub faults : HasFaults ⊥ old new
  pub holding : new.holding ≡ old.holding
  pub forgotten : new.asks ≡ []
  pub going : new.spent ≡ false
  pub strays : KeepsStrays old new

-- windows are asked of a range selector, of its length and at its moment in a query over a grid
pub record IsWindowOf (span : Grid) (expr : Expr) (ask : Ask) : Type 0 where
  pub selector : Selector
  pub selects : expr.node ≡ Range selector ask.range
  pub moment : IsMomentOf (asked_over [] [] span) selector.moment ask.moment
  pub closed : ask.moment.closed ≡ selector.moment.closed

-- what the steps of a part at the instants of a walk have to be
pub record IsAskOf (part : Part) (walk : Walk) (span : Grid) (ask : Ask) : Type 0 where
  pub walk_is : ask.walk ≡ walk
  pub kind_is : ask.kind ≡ part.kind
  pub window : part.kind ≡ part_kind.Windows → IsWindowOf span part.expr ask

-- the tree passes the check of types, and its patterns are kept
abbrev pub IsTyped : Kept → Expr → Type 0
IsTyped kept expr = (refusals_of expr ≡ []) × (placed : List Placed) × AreKept kept (judged expr).replacements placed

-- a part that may be asked for: a range selector for windows, else a typed tree; with one of the aggregations that engines know
abbrev pub HasForm : Kept → Expr → PartKind → Type 0
HasForm kept expr part_kind.Rows = IsTyped kept expr
HasForm kept expr part_kind.Windows = (selector : Selector) × (range : Ms) × (expr.node ≡ Range selector range) × (pos 0 <ℤ range.0)
HasForm kept expr (part_kind.Partial f by) = IsTyped kept expr × IsTrue (is_partial f)

-- want of memory has spent no ask, the part may be asked for, its evaluation at each instant has what it needs, and all times are within
-- their limits
pub record MayAsk (part : Part) (walk : Walk) (span : Grid) (kept : Kept) (e : EngineSeen) : Type 0 where
  pub going : e.spent ≡ false
  pub form : HasForm kept part.expr part.kind
  pub needs : (t : Ms) → IsInstant walk t.0 → AreMet (asked_over [] kept span) (needs_of (asked_over [] kept span) part.expr t.0)
  pub times : (ask : Ask) × IsAskOf part walk span ask × AsksInTimes ask

-- what an engine owes of a part at some instants: at each the part's cells over the samples that it holds
abbrev pub owed : Asked → Part → List Ms → List StepCells
owed asked part times = map (λ (t : Ms). cells part.kind t (meaning asked part.expr t.0)) times

-- an ask of which nothing was given; what is still to come is owed of what is held
pub record IsAsked (part : Part) (walk : Walk) (span : Grid) (kept : Kept) (holding : Option Holding) (one : AskSeen) : Type 0 where
  pub part_is : one.part ≡ part
  pub ask : IsAskOf part walk span one.ask
  pub kept_are : one.kept ≡ kept
  pub given : one.given ≡ 0
  pub left : IfSome holding (λ h. (times : List Ms) → IsListed walk times → one.left ≡ owed (asked_over h.samples kept span) part times)

pub record HasAsked (part : Part) (walk : Walk) (span : Grid) (kept : Kept) (result : Result ℕ EngineFail) (old new : EngineSeen) : Type 0 where
  pub faults : HasFaults (IsErrOf result fail.Failed) old new
  pub holding : new.holding ≡ old.holding
  pub strays : KeepsStrays old new
  pub asked : IfOk result (λ place. (place ≡ length old.asks) × (one : AskSeen) × (new.asks ≡ old.asks ++ one ∷ []) × IsAsked part walk span kept old.holding one)
  pub going : OnOk result (new.spent ≡ old.spent)
  pub failed : IsErrOf result fail.Failed → KeepsAsks old new
  pub spent : IsErrOf result fail.Memory → new.spent ≡ true

-- ---- pulls

-- want of memory has spent no ask, and this one was made while these patterns were kept
abbrev pub MayPull : ℕ → Kept → EngineSeen → Type 0
MayPull place kept e = (e.spent ≡ false) × (one : AskSeen) × (slice_get e.asks place ≡ Some one) × (one.kept ≡ kept)

-- some of the steps to come are given
abbrev pub after_steps : List StepCells → AskSeen → AskSeen
after_steps steps one = record one { given = one.given + length steps; left = drop (length steps) one.left }

-- what a pull makes of its ask
abbrev pub after_pull : Pulled → List StepCells → AskSeen → AskSeen
after_pull pulled.Frame steps one = after_steps steps one
after_pull pulled.End steps one = one

-- why what a pull gives is a stray, where these instants are to come
abbrev pub stray_pulled : Pulled → Ask → List Ms → List StepCells → Option Stray
stray_pulled pulled.Frame ask times steps = stray_of ask times steps
stray_pulled pulled.End ask times steps = early_end times

-- a stray counts, and is the last one then; nothing else does
abbrev pub CountsStray : Option Stray → EngineSeen → EngineSeen → Type 0
CountsStray None old new = KeepsStrays old new
CountsStray (Some stray) old new = Rose old.strays new.strays × (new.stray ≡ Some stray)

-- an engine that tells gives one to so many of the steps that are left, or its end where none is
abbrev pub GivesOwed : ℕ → Pulled → List StepCells → AskSeen → Type 0
GivesOwed most pulled.Frame steps one = (steps ≡ take (length steps) one.left) × (1 ≤ length steps) × (length steps ≤ most)
GivesOwed most pulled.End steps one = (one.left ≡ []) × (steps ≡ [])

-- what a pull of an ask gave; an engine that tells gives no stray
pub record HasGiven (place most : ℕ) (pull : Pulled) (steps : List StepCells) (old new : EngineSeen) (one : AskSeen) : Type 0 where
  pub asks : new.asks ≡ slice_set old.asks place (after_pull pull steps one)
  pub going : new.spent ≡ old.spent
  pub gives : IfSome old.holding (λ _. GivesOwed most pull steps one)
  pub stray : (all : List Ms) → IsListed one.ask.walk all → CountsStray (stray_pulled pull one.ask (drop one.given all) steps) old new
  pub true_to_form : IfSome old.holding (λ _. (all : List Ms) → IsListed one.ask.walk all → stray_pulled pull one.ask (drop one.given all) steps ≡ None)

pub record HasPulled (place most : ℕ) (steps : List StepCells) (result : Result Pulled EngineFail) (old new : EngineSeen) : Type 0 where
  pub faults : HasFaults (IsErrOf result fail.Failed) old new
  pub holding : new.holding ≡ old.holding
  pub given : IfOk result (λ pull. (one : AskSeen) → slice_get old.asks place ≡ Some one → HasGiven place most pull steps old new one)
  pub unstrayed : OnErr result (KeepsStrays old new)
  pub failed : IsErrOf result fail.Failed → KeepsAsks old new × (steps ≡ [])
  pub spent : IsErrOf result fail.Memory → new.spent ≡ true
