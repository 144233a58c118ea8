-- What stands right after asks were made. (This project's own.)
use Rattle.std.specs.Prelude.{◌≡◌, ◌<◌, ◌^◌, ℕ, Bool, true, false, List, [], ◌∷◌, ◌++◌, Some, length, map, replicate, slice_get}
use Rattle.op_gather.specs.Histories.{Stands}
use Rattle.promql_type.specs.Replacements.{Kept}
use Rattle.remote_api.specs.Seen.{AskSeen, EngineSeen}
use Rattle.ticks.specs.Listed.{IsListed}
use Rattle.ticks.specs.declared.grid.Grid.{Grid}
use Rattle.ticks.specs.declared.moment.Ms.{Ms}
use Rattle.exchange.specs.Asked.{IsAskFor, is_among}
use Rattle.exchange.specs.Requests.{ask_of}
use Rattle.exchange.specs.declared.place.Asking.{Asking}
use Rattle.exchange.specs.declared.place.Place.{Place}
use Rattle.exchange.specs.declared.request.Request.{Request}

-- ---- one request

-- an engine that is asked has one ask more; another has those that it had
abbrev pub GainsAsk : Grid → Kept → Request → Bool → EngineSeen → EngineSeen → Type 0
GainsAsk span kept r true e f = (one : AskSeen) × (f.asks ≡ e.asks ++ one ∷ []) × IsAskFor span kept e.holding r one
GainsAsk span kept r false e f = f.asks ≡ e.asks

pub record IsAskedOnce (span : Grid) (kept : Kept) (r : Request) (asked : Bool) (e f : EngineSeen) : Type 0 where
  pub gains : GainsAsk span kept r asked e f
  pub holding : f.holding ≡ e.holding
  pub spent : f.spent ≡ e.spent

-- each engine under one of some numbers is asked once, and no other is
abbrev pub AskedOnce : Grid → Kept → Request → List ℕ → List EngineSeen → List EngineSeen → Type 0
AskedOnce span kept r numbers es fs = (i : ℕ) (e : EngineSeen) → slice_get es i ≡ Some e → (f : EngineSeen) × (slice_get fs i ≡ Some f) × IsAskedOnce span kept r (is_among numbers i) e f

-- asks stand right behind those that their engines had
abbrev pub AreBehind : List EngineSeen → List Asking → Type 0
AreBehind es asks = (k : ℕ) (a : Asking) (e : EngineSeen) → slice_get asks k ≡ Some a → slice_get es a.engine ≡ Some e → a.place ≡ length e.asks

-- the engines that are asked
abbrev pub engines_of : List Asking → List ℕ
engines_of asks = map (λ (a : Asking). a.engine) asks

-- ---- several requests

-- an ask of a request that was made, of which nothing was given; its engine holds what it held before all asks
pub record IsMade (span : Grid) (kept : Kept) (es fs : List EngineSeen) (r : Request) (a : Asking) : Type 0 where
  pub e : EngineSeen
  pub f : EngineSeen
  pub e_at : slice_get es a.engine ≡ Some e
  pub f_at : slice_get fs a.engine ≡ Some f
  pub one : AskSeen
  pub here : slice_get f.asks a.place ≡ Some one
  pub asked : IsAskFor span kept e.holding r one
  pub holding : f.holding ≡ e.holding
  pub going : f.spent ≡ false

-- a gather of a request whose asks were made, of which nothing was taken
pub record IsOpened (span : Grid) (kept : Kept) (es fs : List EngineSeen) (r : Request) (place : Place) : Type 0 where
  pub ask : place.gather.ask ≡ ask_of r
  pub going : place.gather.spent ≡ false
  pub few : length place.asks < 2 ^ 32
  pub fresh : (all : List Ms) → IsListed r.walk all → Stands place.gather all (replicate (length r.engines) []) 0
  pub numbers : engines_of place.asks ≡ r.engines
  pub made : (k : ℕ) (a : Asking) → slice_get place.asks k ≡ Some a → IsMade span kept es fs r a

-- each request has its gather
abbrev pub AreOpened : Grid → Kept → List EngineSeen → List EngineSeen → List Request → List Place → Type 0
AreOpened span kept es fs requests places =
    (k : ℕ) (r : Request) (place : Place) → slice_get requests k ≡ Some r → slice_get places k ≡ Some place → IsOpened span kept es fs r place

-- the asks of each gather are of its request's engines, in their order
abbrev pub AskTheirEngines : List Request → List Place → Type 0
AskTheirEngines requests places = (k : ℕ) (r : Request) (place : Place) → slice_get requests k ≡ Some r → slice_get places k ≡ Some place → engines_of place.asks ≡ r.engines

-- what is asked of each gather's engines is what its request says
abbrev pub AskTheirRequests : List Request → List Place → Type 0
AskTheirRequests requests places = (k : ℕ) (r : Request) (place : Place) → slice_get requests k ≡ Some r → slice_get places k ≡ Some place → place.gather.ask ≡ ask_of r
