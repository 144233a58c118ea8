-- What the turns of a tree make of engines, whatever each call gives.
use Rattle.std.proofs.Common.{◌≡◌, ◌∙◌, List, subst, sym}
use Rattle.std.specs.Prelude.{Ok, Err, Result, IsErrAnd}
use Rattle.exchange.specs.declared.fault.RunFault.{RunFault}
use Rattle.exchange.specs.declared.fault.RunFault.TheVariants as run
use Rattle.remote_api.specs.Seen.{EngineSeen}
use Rattle.plan_tree.specs.Feeding.{HasGone}
use Rattle.plan_tree.specs.RunLaws.{CallsFollow, as_done, done}

-- what a call gives doesn't matter
bare : {T : Type 0} (r : Result T RunFault) (es fs : List EngineSeen) → HasGone r es fs → HasGone (as_done r) es fs
bare (Ok x) es fs h = record { many = h.many; grown = h.grown; calm = h.calm; fault = tt }
bare (Err run.Memory) es fs h = record { many = h.many; grown = h.grown; calm = tt; fault = tt }
bare (Err (run.EngineFault i)) es fs h = record { many = h.many; grown = h.grown; calm = tt; fault = h.fault }
bare (Err (run.OutOfStep i expected got)) es fs h = record { many = h.many; grown = h.grown; calm = tt; fault = h.fault }
bare (Err (run.WrongCell i at)) es fs h = record { many = h.many; grown = h.grown; calm = tt; fault = h.fault }

full : {T : Type 0} (r : Result T RunFault) (es fs : List EngineSeen) → HasGone (as_done r) es fs → HasGone r es fs
full (Ok x) es fs h = record { many = h.many; grown = h.grown; calm = h.calm; fault = tt }
full (Err run.Memory) es fs h = record { many = h.many; grown = h.grown; calm = tt; fault = tt }
full (Err (run.EngineFault i)) es fs h = record { many = h.many; grown = h.grown; calm = tt; fault = h.fault }
full (Err (run.OutOfStep i expected got)) es fs h = record { many = h.many; grown = h.grown; calm = tt; fault = h.fault }
full (Err (run.WrongCell i at)) es fs h = record { many = h.many; grown = h.grown; calm = tt; fault = h.fault }

-- a call behind turns that were made
pub behind : {T : Type 0} → CallsFollow → (r : Result T RunFault) (es fs gs : List EngineSeen) → HasGone done es fs → HasGone r fs gs → HasGone r es gs
behind follow r es fs gs a b = full r es gs (follow (as_done r) es fs gs a (bare r fs gs b))

-- one more turn that was made
pub made : {T : Type 0} → CallsFollow → (x : T) (es fs gs : List EngineSeen) → HasGone done es fs → HasGone {T = T} (Ok x) fs gs → HasGone done es gs
made follow x es fs gs a b = follow done es fs gs a (bare (Ok x) fs gs b)

-- turns that were made, whatever is given at their end
pub given : {T : Type 0} (x : T) (es fs : List EngineSeen) → HasGone done es fs → HasGone {T = T} (Ok x) es fs
given x es fs h = full (Ok x) es fs h

-- a fault of a call is that of the whole
pub faulted : {S T : Type 0} (fault : RunFault) (r : Result T RunFault) (es fs : List EngineSeen) → IsErrAnd r (λ e. e ≡ fault) → HasGone {T = S} (Err fault) es fs → HasGone r es fs
faulted fault (Ok x) es fs e h = absurd e
faulted {S} {T} fault (Err x) es fs e h = subst (λ (z : RunFault). HasGone {T = T} (Err z) es fs) (sym e) (full {T = T} (Err fault) es fs (bare {T = S} (Err fault) es fs h))

-- want of memory behind turns that were made
pub lacking : {T : Type 0} (fault : RunFault) (r : Result T RunFault) (es fs : List EngineSeen) → IsErrAnd r (λ e. e ≡ fault) → fault ≡ run.Memory → HasGone done es fs → HasGone r es fs
lacking fault (Ok x) es fs e m h = absurd e
lacking {T} fault (Err x) es fs e m h = subst (λ (z : RunFault). HasGone {T = T} (Err z) es fs) (sym (e ∙ m)) (record { many = h.many; grown = h.grown; calm = tt; fault = tt })
