-- What stands before the line of an engine that was lost. (This project's own.)
use Rattle.std.specs.Prelude.{◌≡◌, ℕ, List, ◌++◌, Option}
use Rattle.edge_io.specs.Written.{appended}
use Rattle.remote_api.specs.Seen.{EngineSeen}
use Rattle.promql_tool.specs.Boxes.{HasLost}
use Rattle.promql_tool.specs.Ends.{WritesFirst}
use Rattle.promql_tool.specs.Texts.{lost_text}
use Rattle.promql_tool.specs.declared.fault.Lost.{Lost}

-- an engine was lost, and its line was written behind what is written at first
pub record StandsBefore (boxes : ℕ) (words : List (List ℕ)) (found : List ℕ → Option (List ℕ) → Type 0) (es fs : List EngineSeen) (before now : Option (List ℕ)) : Type 0 where
  pub lost : Lost
  pub one : HasLost lost es fs
  pub text : List ℕ
  pub first : WritesFirst boxes words found text
  pub written : now ≡ appended before (text ++ lost_text lost)
