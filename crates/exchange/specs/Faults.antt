-- When a fault is answered, and of which engine it tells. (This project's own.)
use Rattle.std.specs.Prelude.{◌≡◌, ⊤, ℕ, true, List, Some, Result, Ok, Err, slice_get}
use Rattle.edge_io.specs.Causes.{Rose}
use Rattle.op_gather.specs.declared.gather.GatherRefusal.{GatherRefusal}
use Rattle.op_gather.specs.declared.gather.GatherRefusal.TheVariants as refusal
use Rattle.remote_api.specs.Seen.{EngineSeen}
use Rattle.remote_api.specs.declared.frame.Stray.{Stray}
use Rattle.remote_api.specs.declared.frame.Stray.TheVariants as stray
use Rattle.exchange.specs.declared.fault.RunFault.{RunFault}
use Rattle.exchange.specs.declared.fault.RunFault.TheVariants as run
use Rattle.exchange.specs.declared.place.Asking.{Asking}
use Rattle.exchange.specs.declared.request.Request.{Request}
use Rattle.exchange.specs.Standing.{Tells}

-- what is told of an engine whose delivery a gather refused
abbrev pub fault_of : ℕ → GatherRefusal → RunFault
fault_of engine (refusal.OutOfStep expected got) = run.OutOfStep engine expected got
fault_of engine (refusal.WrongCell at) = run.WrongCell engine at
fault_of engine refusal.Memory = run.Memory

-- the faults of an engine rose, which wasn't sound then
pub record HasFailed (i : ℕ) (es fs : List EngineSeen) : Type 0 where
  pub e : EngineSeen
  pub f : EngineSeen
  pub e_at : slice_get es i ≡ Some e
  pub f_at : slice_get fs i ≡ Some f
  pub rose : Rose e.faults f.faults
  pub unsound : e.sound ≡ true → ⊥

-- the strays of an engine rose, and this is the last one; it doesn't tell what it holds
pub record HasStrayed (i : ℕ) (one : Stray) (es fs : List EngineSeen) : Type 0 where
  pub e : EngineSeen
  pub f : EngineSeen
  pub e_at : slice_get es i ≡ Some e
  pub f_at : slice_get fs i ≡ Some f
  pub rose : Rose e.strays f.strays
  pub last : f.stray ≡ Some one
  pub untold : Tells e → ⊥

-- a fault is answered only where the engine that it names has failed, or has strayed just so; memory may run out at any time
abbrev pub Faulted : {T : Type 0} → Result T RunFault → List EngineSeen → List EngineSeen → Type 0
Faulted (Ok x) es fs = ⊤
Faulted (Err (run.EngineFault i)) es fs = HasFailed i es fs
Faulted (Err (run.OutOfStep i expected got)) es fs = HasStrayed i (stray.OutOfStep expected got) es fs
Faulted (Err (run.WrongCell i at)) es fs = HasStrayed i (stray.WrongCell at) es fs
Faulted (Err run.Memory) es fs = ⊤

-- a fault names one of some engines
abbrev pub Blames : {T : Type 0} → (ℕ → Type 0) → Result T RunFault → Type 0
Blames IsOne (Ok x) = ⊤
Blames IsOne (Err (run.EngineFault i)) = IsOne i
Blames IsOne (Err (run.OutOfStep i expected got)) = IsOne i
Blames IsOne (Err (run.WrongCell i at)) = IsOne i
Blames IsOne (Err run.Memory) = ⊤

-- no engine is told to have strayed
abbrev pub IsNoStray : {T : Type 0} → Result T RunFault → Type 0
IsNoStray (Ok x) = ⊤
IsNoStray (Err (run.EngineFault i)) = ⊤
IsNoStray (Err (run.OutOfStep i expected got)) = ⊥
IsNoStray (Err (run.WrongCell i at)) = ⊥
IsNoStray (Err run.Memory) = ⊤

-- the number is among some
abbrev pub IsIn : List ℕ → ℕ → Type 0
IsIn numbers i = (k : ℕ) × (slice_get numbers k ≡ Some i)

-- an ask of the engine is among some
abbrev pub IsAskedAt : List Asking → ℕ → Type 0
IsAskedAt asks i = (k : ℕ) × (a : Asking) × (slice_get asks k ≡ Some a) × (a.engine ≡ i)

-- the engine is asked for one of some requests
abbrev pub IsAskedFor : List Request → ℕ → Type 0
IsAskedFor requests i = (k : ℕ) × (r : Request) × (slice_get requests k ≡ Some r) × IsIn r.engines i
