-- Values beside the places of their groups. (This project's own.)
use Rattle.std.specs.Prelude.{ℕ, List}
use Rattle.std.specs.List.{AllByRecursion}
use Rattle.step_batch.specs.declared.steps.Slot.{Slot}
use Rattle.xfrac.specs.Laws.{IsNumber}
use Rattle.op_rank.specs.Contenders.{number_at}
use Rattle.op_rank.specs.declared.entries.Entry.{Entry}

-- a value beside the place of its group
abbrev pub entry_of : List ℕ → Slot → Entry
entry_of groups slot = record { group = number_at groups slot; value = slot.value }

abbrev pub AreNumberEntries : List Entry → Type 0
AreNumberEntries entries = AllByRecursion (λ (e : Entry). IsNumber e.value) entries
