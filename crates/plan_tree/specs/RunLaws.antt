-- What calls one after another make of engines. (This project's own.)
use Rattle.std.specs.Prelude.{List, Result, Ok, Err, ⊤}
use Rattle.exchange.specs.declared.fault.RunFault.{RunFault}
use Rattle.remote_api.specs.Seen.{EngineSeen}
use Rattle.plan_tree.specs.Feeding.{HasGone}

-- an answer without a fault, and the answer of a call without what it gives
abbrev pub done : Result ⊤ RunFault
done = Ok tt

abbrev pub as_done : {T : Type 0} → Result T RunFault → Result ⊤ RunFault
as_done (Ok x) = Ok tt
as_done (Err fault) = Err fault

-- where nothing was called the engines are as they were
abbrev pub NoCallHasGone : Type 0
NoCallHasGone = (es : List EngineSeen) → HasGone done es es

-- what a call makes of engines behind one that answered no fault, both make of them
abbrev pub CallsFollow : Type 0
CallsFollow = (r : Result ⊤ RunFault) (es fs gs : List EngineSeen) → HasGone done es fs → HasGone r fs gs → HasGone r es gs
