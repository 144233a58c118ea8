-- What calls make of a list of engines. (This project's own.)
use Rattle.std.specs.Prelude.{◌≡◌, ◌≤◌, ℕ, true, List, [], Some, map, slice_get}
use Rattle.remote_api.specs.Seen.{AskSeen, EngineSeen}
use Rattle.exchange.specs.declared.place.Asking.{Asking}

-- each engine is to what it was as a relation says
abbrev pub Each : (EngineSeen → EngineSeen → Type 0) → List EngineSeen → List EngineSeen → Type 0
Each R es fs = (i : ℕ) (e : EngineSeen) → slice_get es i ≡ Some e → (f : EngineSeen) × (slice_get fs i ≡ Some f) × R e f

-- one engine is to what it was as a relation says, and the others are as they were
pub record IsCalled (i : ℕ) (R : EngineSeen → EngineSeen → Type 0) (es fs : List EngineSeen) : Type 0 where
  pub others : (k : ℕ) → (k ≡ i → ⊥) → slice_get fs k ≡ slice_get es k
  pub one : (e : EngineSeen) → slice_get es i ≡ Some e → (f : EngineSeen) × (slice_get fs i ≡ Some f) × R e f

-- an engine holds what it held, its faults haven't fallen, and it is sound if it was
pub record Grows (e f : EngineSeen) : Type 0 where
  pub holding : f.holding ≡ e.holding
  pub faults : e.faults ≤ f.faults
  pub sound : e.sound ≡ true → f.sound ≡ true

-- what was asked, whatever was given of it
abbrev pub what_asked : AskSeen → AskSeen
what_asked one = record one { given = 0; left = [] }

-- an engine has been asked just what it had been asked, in the same order
abbrev pub HasSameAsks : EngineSeen → EngineSeen → Type 0
HasSameAsks e f = map what_asked f.asks ≡ map what_asked e.asks

-- the ask at a place of an engine is as it was, and the engine holds what it held and may be called as before
pub record StaysAt (place : ℕ) (e f : EngineSeen) : Type 0 where
  pub ask : slice_get f.asks place ≡ slice_get e.asks place
  pub holding : f.holding ≡ e.holding
  pub spent : f.spent ≡ e.spent

-- an ask is as it was
abbrev pub AskStays : Asking → List EngineSeen → List EngineSeen → Type 0
AskStays b es fs = (e : EngineSeen) → slice_get es b.engine ≡ Some e → (f : EngineSeen) × (slice_get fs b.engine ≡ Some f) × StaysAt b.place e f
