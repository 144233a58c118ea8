-- What users of parts rely on. (This project's own.)
use Rattle.std.specs.Prelude.{List}
use Rattle.exchange.specs.declared.request.Request.{Request}
use Rattle.op_labels.specs.Rules.{Kept}
use Rattle.plan_tree.specs.Asking.{gathered_by}
use Rattle.promql_meaning.specs.Selecting.{Asked}
use Rattle.remote_api.specs.Seen.{EngineSeen}
use Rattle.ticks.specs.declared.grid.Grid.{Grid}
use Rattle.plan_parts.specs.Gathered.{AreHeld, IsQueryOver}
use Rattle.plan_parts.specs.Requested.{AreMeant}

-- over engines that hold what a query says, a tree's gathers give what those of its plan do
abbrev pub GathersAreMeant : Type 0
GathersAreMeant = (asked : Asked) (span : Grid) (kept : Kept) (es : List EngineSeen) (requests : List Request) → IsQueryOver span kept asked → AreHeld es asked → AreMeant asked requests (gathered_by span kept es requests)
