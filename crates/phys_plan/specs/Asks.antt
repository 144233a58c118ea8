-- The engines that a tree may be stepped over. (This project's own.)
use Rattle.std.specs.Prelude.{◌≡◌, ◌<◌, ℕ, false, List, [], length, slice_get, Some}
use Rattle.exchange.specs.declared.request.Request.{Request}
use Rattle.remote_api.specs.Seen.{EngineSeen}

-- engines were begun, and asked nothing since
abbrev pub AreBegun : List EngineSeen → Type 0
AreBegun es = (i : ℕ) (e : EngineSeen) → slice_get es i ≡ Some e → (e.asks ≡ []) × (e.spent ≡ false)

-- there is an engine under each number that requests name
abbrev pub HaveEngines : List Request → List EngineSeen → Type 0
HaveEngines requests es = (k j i : ℕ) (r : Request) → slice_get requests k ≡ Some r → slice_get r.engines j ≡ Some i → i < length es
