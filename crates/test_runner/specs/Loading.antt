-- What loading gives, unless memory runs out.
use Rattle.std.specs.Prelude.{◌≡◌, ℕ, Bool, true, false, Result, Ok, Err, IsOk, OnOk}
use Rattle.sample_store.specs.Samples.{AllSeries}
use Rattle.sample_store.specs.declared.refusal.StoreRefusal.{StoreRefusal}
use Rattle.sample_store.specs.declared.refusal.StoreRefusal.TheVariants.{Memory as NoRoom}
use Rattle.test_runner.specs.Loads.{refused_for}
use Rattle.test_runner.specs.declared.fault.RunnerFault.{RunnerFault}
use Rattle.test_runner.specs.declared.fault.RunnerFault.TheVariants.{Refused, Run, Write, Memory}

-- what comes of a line's sample that the store refuses
abbrev pub fault_for : ℕ → StoreRefusal → RunnerFault
fault_for line NoRoom = Memory
fault_for line refusal = Refused (refused_for line refusal)

-- what the store has now is what is said, or the fault is, unless memory ran out
abbrev pub Leaves : {X : Type 0} → Result X RunnerFault → AllSeries → Result AllSeries RunnerFault → Type 0
Leaves (Ok _) now said = said ≡ Ok now
Leaves (Err Memory) now said = Unit {0}
Leaves (Err Write) now said = ⊥
Leaves (Err fault) now said = said ≡ Err fault

-- what may be put: anything where it is judged as it is put, else what isn't refused
abbrev pub Allowed : Bool → Result AllSeries RunnerFault → Type 0
Allowed true said = Unit {0}
Allowed false said = IsOk said

-- something holds where no engine has failed
abbrev pub UnlessFailed : {X : Type 0} → Result X RunnerFault → Type 0 → Type 0
UnlessFailed (Err (Run fault)) Holds = Unit {0}
UnlessFailed result Holds = Holds

-- loads may be put where some series are held
abbrev pub MayPut : Bool → (AllSeries → Type 0) → (AllSeries → Result AllSeries RunnerFault) → Type 0
MayPut judges Held put = (series : AllSeries) × Held series × Allowed judges (put series)

-- loads were put: whatever series were held before, those are held now that the loads leave of them; or their fault is answered,
-- unless memory ran out or an engine failed
abbrev pub HasPut : {X : Type 0} → Bool → (Held Holds : AllSeries → Type 0) → (AllSeries → Result AllSeries RunnerFault) → Result X RunnerFault → Type 0
HasPut judges Held Holds put result =
    (series : AllSeries) → Held series → Allowed judges (put series) → (now : AllSeries) × OnOk result (Holds now) × UnlessFailed result (Leaves result now (put series))
