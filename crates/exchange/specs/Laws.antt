-- What users of an exchange rely on. (This project's own.)
use Rattle.std.specs.Prelude.{◌≡◌, ℕ, List, [], Some, length, slice_get}
use Rattle.promql_type.specs.Replacements.{Kept}
use Rattle.remote_api.specs.Seen.{AskSeen, EngineSeen}
use Rattle.step_table.specs.declared.cells.StepCells.{StepCells}
use Rattle.exchange.specs.Standing.{PlaceStands, Progress, Tells}
use Rattle.exchange.specs.declared.place.Asking.{Asking}
use Rattle.exchange.specs.declared.place.Place.{Place}

-- once all instants were taken, no step is left to come of an engine that tells and owes a step at each instant
abbrev pub NothingIsLeft : Type 0
NothingIsLeft =
    (kept : Kept) (es : List EngineSeen) (place : Place) (p : Progress) (k : ℕ) (a : Asking) (e : EngineSeen) (one : AskSeen) (owes : List StepCells)
    → PlaceStands kept es place p → p.taken ≡ length p.all → slice_get place.asks k ≡ Some a → slice_get es a.engine ≡ Some e → Tells e
    → slice_get e.asks a.place ≡ Some one → slice_get p.owed k ≡ Some owes → length owes ≡ length p.all → one.left ≡ []
