-- Gathers of an exchange over engines, all over the instants of one grid. (This project's own.)
use Rattle.std.specs.Prelude.{◌≡◌, ◌<◌, ◌≤◌, ℕ, false, List, [], ◌∷◌, Option, Some, length, slice_get}
use Rattle.std.specs.List.{AllByRecursion}
use Rattle.exchange.specs.Exchanging.{Exchanging}
use Rattle.exchange.specs.Standing.{AllStand, Progress}
use Rattle.exchange.specs.declared.place.Place.{Place}
use Rattle.exchange.specs.declared.request.Request.{Request}
use Rattle.promql_type.specs.Replacements.{Kept}
use Rattle.remote_api.specs.Seen.{EngineSeen}
use Rattle.ticks.specs.Listed.{IsListed}
use Rattle.ticks.specs.declared.grid.Grid.{Grid as Instants}
use Rattle.ticks.specs.declared.moment.Ms.{Ms}
use Rattle.ticks.specs.declared.walk.Walk.{Walk, Grid}
use Rattle.engine_tests.specs.Askable.{IsAskable, at_once, reach}

-- ---- before they are opened

-- two engines are asked for such a part
pub record IsFitting (g : Instants) (r : Request) : Type 0 where
  pub askable : IsAskable r.part.kind r.part.expr
  pub walk_is : r.walk ≡ Grid g
  pub moment_is : r.moment ≡ at_once
  pub range_is : r.range ≡ reach
  pub engines_are : r.engines ≡ 0 ∷ 1 ∷ []

-- so is each of some requests, of which none is opened
pub record AreFitting (g : Instants) (count : ℕ) (x : Exchanging) : Type 0 where
  pub unopened : x.places ≡ []
  pub count_is : length x.requests ≡ count
  pub each : AllByRecursion (IsFitting g) x.requests

-- nothing was asked of any engine
abbrev pub AreUnasked : List EngineSeen → Type 0
AreUnasked es = (i : ℕ) (e : EngineSeen) → slice_get es i ≡ Some e → (e.asks ≡ []) × (e.spent ≡ false)

-- ---- once they are

-- the next instant of a gather
pub record ComesTo (walk : Walk) (next : Option Ms) (p : Progress) : Type 0 where
  pub listed : IsListed walk p.all
  pub next_is : next ≡ slice_get p.all p.taken

-- All gathers stand. The next instant of the first ones, of which there are so many, is `next`, and of the others `now`.
pub record AreGoing (kept : Kept) (es : List EngineSeen) (places : List Place) (walk : Walk) (count gone : ℕ) (next now : Option Ms) : Type 0 where
  pub ps : List Progress
  pub stand : AllStand kept es places ps
  pub count_is : length ps ≡ count
  pub ahead : (k : ℕ) (p : Progress) → slice_get ps k ≡ Some p → k < gone → ComesTo walk next p
  pub waiting : (k : ℕ) (p : Progress) → slice_get ps k ≡ Some p → gone ≤ k → ComesTo walk now p
