-- What a tree's gathers ask of engines, and what they give of those that tell what they hold. (This project's own.)
use Rattle.std.specs.Prelude.{◌≡◌, ℕ, ℤ, List, [], ◌∷◌, slice_get, Option, None, Some, IfSome, ⊤}
use Rattle.std.specs.List.{filter_map}
use Rattle.exchange.specs.Requests.{ask_of}
use Rattle.exchange.specs.declared.request.Request.{Request}
use Rattle.op_labels.specs.Rules.{Kept}
use Rattle.promql_meaning.specs.Meaning.{meaning}
use Rattle.promql_meaning.specs.Selecting.{asked_over}
use Rattle.remote_api.specs.Seen.{EngineSeen, Holding}
use Rattle.remote_api.specs.declared.asks.Ask.{Ask}
use Rattle.remote_api.specs.declared.asks.Part.{Part}
use Rattle.step_cells.specs.Owed.{cells}
use Rattle.step_table.specs.declared.cells.StepCells.{StepCells}
use Rattle.ticks.specs.Listed.{IsListed}
use Rattle.ticks.specs.declared.grid.Grid.{Grid}
use Rattle.ticks.specs.declared.moment.Ms.{Ms}
use Rattle.ticks.specs.declared.walk.WalkMoment.{WalkMoment}
use Rattle.plan_tree.specs.declared.node.Node.{Node}
use Rattle.plan_tree.specs.declared.node.Node.TheVariants as node
use Rattle.plan_tree.specs.Gathering.{AsksSteps, AsksWindows, joined_of}
use Rattle.plan_tree.specs.Worlds.{Gathered, Gathers, none_given}

-- ---- what gathers give

-- the cells that an engine owes of a part at an instant, where it tells what it holds
abbrev pub cells_held : Grid → Kept → Part → Ms → Option Holding → Option StepCells
cells_held span kept part t None = None
cells_held span kept part t (Some h) = Some (cells part.kind t (meaning (asked_over h.samples kept span) part.expr t.0))

-- the same of the engine under a number, if there is one
abbrev pub cells_of : Grid → Kept → Part → Ms → Option EngineSeen → Option StepCells
cells_of span kept part t None = None
cells_of span kept part t (Some e) = cells_held span kept part t e.holding

-- what the cells of all engines that a request asks come to
abbrev pub gathered_at : Grid → Kept → List EngineSeen → Option Request → Ms → Gathered
gathered_at span kept es None t = none_given t.0
gathered_at span kept es (Some r) t = joined_of r.part.kind t (filter_map (λ (i : ℕ). cells_of span kept r.part t (slice_get es i)) r.engines)

-- what the gathers of requests give
abbrev pub gathered_by : Grid → Kept → List EngineSeen → List Request → Gathers
gathered_by span kept es requests place t = gathered_at span kept es (slice_get requests place) (record { 0 = t })

-- ---- what is asked

-- the request at a place asks so at some instants
pub record HasRequestFor (Asks : Ask → Type 0) (requests : List Request) (times : List Ms) (place : ℕ) : Type 0 where
  pub r : Request
  pub r_at : slice_get requests place ≡ Some r
  pub asks : Asks (ask_of r)
  pub listed : IsListed r.walk times

-- it asks for steps
abbrev pub HasRequest : List Request → List Ms → ℕ → Type 0
HasRequest requests times place = HasRequestFor AsksSteps requests times place

-- it asks for windows of a range, which end at a moment
abbrev pub HasWindowsRequest : WalkMoment → Ms → List Request → List Ms → ℕ → Type 0
HasWindowsRequest moment range requests times place = HasRequestFor (AsksWindows moment range) requests times place

-- each gather of a tree that was fed nothing yet has a request at the instants that it is fed
abbrev pub HaveRequests : List Request → List Ms → Node → Type 0
HaveRequests requests times (node.Instants kernel none) = ⊤
HaveRequests requests times (node.Select kernel) = ⊤
HaveRequests requests times (node.Series' kernel p scalar) = HaveRequests requests times scalar
HaveRequests requests times (node.Unary' kernel p rows) = HaveRequests requests times rows
HaveRequests requests times (node.Binary' kernel p rows q beside) = HaveRequests requests times rows × HaveRequests requests times beside
HaveRequests requests times (node.Clamp' kernel p rows q low r high) = HaveRequests requests times rows × HaveRequests requests times low × HaveRequests requests times high
HaveRequests requests times (node.Points' kernel inner_fed p inner q scalar) =
    HaveRequests requests times scalar × (inner_fed ≡ None) × (inside : List Ms) × IsListed kernel.walk inside × HaveRequests requests inside inner
HaveRequests requests times (node.Once' first steps p child) = HaveRequests requests (first ∷ []) child
HaveRequests requests times (node.Gather place) = HasRequest requests times place
HaveRequests requests times (node.Windows' kernel place passed p scalar) = HasWindowsRequest kernel.moment kernel.range requests times place × HaveRequests requests times scalar
