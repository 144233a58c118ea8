-- What asks make of engines, and what is owed then. (This project's own.)
use Rattle.std.specs.Prelude.{◌≡◌, ◌==◌, ◌<◌, ℕ, Bool, false, List, [], Option, Some, None, filter, length, map, slice_get}
use Rattle.std.specs.List.{AllZip, list_any}
use Rattle.promql_meaning.specs.Selecting.{asked_over}
use Rattle.promql_type.specs.Replacements.{Kept}
use Rattle.remote_api.specs.Seen.{AskSeen, EngineSeen, Holding, IsAsked, IsWindowOf, MayAsk, owed}
use Rattle.remote_api.specs.declared.asks.Part.{Part}
use Rattle.step_table.specs.declared.cells.PartKind.TheVariants as part_kind
use Rattle.step_table.specs.declared.cells.StepCells.{StepCells}
use Rattle.ticks.specs.Listed.{IsListed}
use Rattle.ticks.specs.declared.grid.Grid.{Grid}
use Rattle.ticks.specs.declared.moment.Ms.{Ms}
use Rattle.exchange.specs.Exchanging.{Exchanging}
use Rattle.exchange.specs.Requests.{ask_of}
use Rattle.exchange.specs.Standing.{Progress}
use Rattle.exchange.specs.declared.request.Request.{Request}

-- ---- what opening needs

-- a part that may be asked for, whose windows are those that its gather takes
pub record MayRequest (span : Grid) (kept : Kept) (r : Request) : Type 0 where
  pub may : (e : EngineSeen) → e.spent ≡ false → MayAsk r.part r.walk span kept e
  pub window : r.part.kind ≡ part_kind.Windows → IsWindowOf span r.part.expr (ask_of r)

-- nothing was opened, no ask was made of the engines, and each request is one of engines that there are
pub record MayOpen (span : Grid) (kept : Kept) (es : List EngineSeen) (x : Exchanging) : Type 0 where
  pub unopened : x.places ≡ []
  pub unasked : (i : ℕ) (e : EngineSeen) → slice_get es i ≡ Some e → (e.asks ≡ []) × (e.spent ≡ false)
  pub inside : (k j i : ℕ) (r : Request) → slice_get x.requests k ≡ Some r → slice_get r.engines j ≡ Some i → i < length es
  pub may : (k : ℕ) (r : Request) → slice_get x.requests k ≡ Some r → MayRequest span kept r

-- ---- which asks are made

-- whether a number is one of some
abbrev pub is_among : List ℕ → ℕ → Bool
is_among numbers i = list_any (λ (n : ℕ). n == i) numbers

-- the requests that an engine is asked for, in their order
abbrev pub requests_of : ℕ → List Request → List Request
requests_of i requests = filter (λ (r : Request). is_among r.engines i) requests

-- an ask of a request, of which nothing was given
abbrev pub IsAskFor : Grid → Kept → Option Holding → Request → AskSeen → Type 0
IsAskFor span kept holding r one = IsAsked r.part r.walk span kept holding one

-- the asks of each engine are those of the requests that it is asked for, one for each and in their order
abbrev pub AreAsked : Grid → Kept → List Request → List EngineSeen → List EngineSeen → Type 0
AreAsked span kept requests es fs =
    (i : ℕ) (e f : EngineSeen) → slice_get es i ≡ Some e → slice_get fs i ≡ Some f → AllZip (IsAskFor span kept e.holding) (requests_of i requests) f.asks

-- ---- what is owed

-- what an engine owes of a part at some instants, where it tells
abbrev pub owed_over : Grid → Kept → Part → List Ms → Option Holding → List StepCells
owed_over span kept part times None = []
owed_over span kept part times (Some h) = owed (asked_over h.samples kept span) part times

abbrev pub owed_by : Grid → Kept → Part → List Ms → Option EngineSeen → List StepCells
owed_by span kept part times None = []
owed_by span kept part times (Some e) = owed_over span kept part times e.holding

-- nothing of a request was taken, and each of its engines owes a step at each instant
pub record IsOwed (span : Grid) (kept : Kept) (es : List EngineSeen) (r : Request) (p : Progress) : Type 0 where
  pub kind : p.kind ≡ r.part.kind
  pub listed : IsListed r.walk p.all
  pub owed : p.owed ≡ map (λ (i : ℕ). owed_by span kept r.part p.all (slice_get es i)) r.engines
  pub taken : p.taken ≡ 0

-- so of each request
pub record AreOwed (span : Grid) (kept : Kept) (es : List EngineSeen) (requests : List Request) (ps : List Progress) : Type 0 where
  pub as_many : length ps ≡ length requests
  pub each : (k : ℕ) (r : Request) (p : Progress) → slice_get requests k ≡ Some r → slice_get ps k ≡ Some p → IsOwed span kept es r p
