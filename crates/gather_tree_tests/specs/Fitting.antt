-- Requests of an exchange over two engines, all at the instants of one walk. (This project's own.)
use Rattle.std.specs.Prelude.{◌≡◌, ◌^◌, ℕ, false, List, [], ◌∷◌, Some, length, slice_get}
use Rattle.std.specs.List.{AllByRecursion}
use Rattle.exchange.specs.Exchanging.{Exchanging}
use Rattle.exchange.specs.declared.request.Request.{Request}
use Rattle.remote_api.specs.Seen.{EngineSeen}
use Rattle.ticks.specs.Near.{AreNear}
use Rattle.ticks.specs.Walks.{LeadsToTimes}
use Rattle.ticks.specs.declared.walk.Walk.{Walk}
use Rattle.gather_tree_tests.specs.Askable.{IsAskable}

-- a walk stays at most 10^15 milliseconds from the time 0
pub record IsNearby (walk : Walk) : Type 0 where
  pub leads : LeadsToTimes walk
  pub near : AreNear (10 ^ 15) walk

-- two engines are asked for a part that may be asked for, at the instants of a walk
pub record IsFitting (walk : Walk) (r : Request) : Type 0 where
  pub askable : IsAskable r.part.kind r.part.expr
  pub walk_is : r.walk ≡ walk
  pub engines_are : r.engines ≡ 0 ∷ 1 ∷ []

-- so it is with each request of an exchange, of which none is opened
pub record AreFitting (walk : Walk) (x : Exchanging) : Type 0 where
  pub unopened : x.places ≡ []
  pub each : AllByRecursion (IsFitting walk) x.requests

-- there is none
pub record IsNew (x : Exchanging) : Type 0 where
  pub unopened : x.places ≡ []
  pub none : x.requests ≡ []

-- nothing was asked of any engine
abbrev pub AreUnasked : List EngineSeen → Type 0
AreUnasked es = (i : ℕ) (e : EngineSeen) → slice_get es i ≡ Some e → (e.asks ≡ []) × (e.spent ≡ false)

-- nor of two
pub record AreIdle (es : List EngineSeen) : Type 0 where
  pub two : length es ≡ 2
  pub unasked : AreUnasked es
