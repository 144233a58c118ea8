-- Labels are declared to boxes of engines, one by one. (This project's own.)
use Rattle.std.specs.Prelude.{◌≡◌, ◌≤◌, ◌<◌, ℕ, List, Some, slice_get, IfSome}
use Rattle.remote_api.specs.Seen.{EngineSeen, KeepsStrays, MayDeclare}
use Rattle.tool_words.specs.Engines.{Labels}
use Rattle.promql_tool.specs.Boxes.{Lasts}

-- no labels are declared yet to a box from a place on
abbrev pub AreUndeclaredFrom : ℕ → List EngineSeen → Type 0
AreUndeclaredFrom from es = (i : ℕ) (e : EngineSeen) → from ≤ i → slice_get es i ≡ Some e → MayDeclare e

-- where a box tells what it holds, these labels are declared to it
abbrev pub HasItsLabels : Labels → EngineSeen → Type 0
HasItsLabels labels e = IfSome e.holding (λ h. h.declared ≡ Some labels)

-- a box stands as it did, and has these labels
pub record IsDeclared (labels : Labels) (e f : EngineSeen) : Type 0 where
  pub lasts : Lasts e f
  pub strays : KeepsStrays e f
  pub labels_are : HasItsLabels labels f

-- the k-th box has the k-th labels
abbrev pub HoldDeclared : List Labels → List EngineSeen → Type 0
HoldDeclared declared es = (k : ℕ) (labels : Labels) (e : EngineSeen) → slice_get declared k ≡ Some labels → slice_get es k ≡ Some e → HasItsLabels labels e

-- the same of the boxes before a place
abbrev pub HoldDeclaredTo : ℕ → List Labels → List EngineSeen → Type 0
HoldDeclaredTo to declared es = (k : ℕ) (labels : Labels) (e : EngineSeen) → k < to → slice_get declared k ≡ Some labels → slice_get es k ≡ Some e → HasItsLabels labels e
