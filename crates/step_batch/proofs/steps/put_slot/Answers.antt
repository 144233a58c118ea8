use Rattle.std.proofs.Common.{sym, subst}
use Rattle.std.specs.Prelude.{List}
use Rattle.step_batch.specs.Lent.{SlotsRise}
use Rattle.step_batch.specs.declared.steps.Slot.{Slot}
use Rattle.step_batch.proofs.steps.put_slot.Goals as goal

pub place_among-i-requires : goal.place_among-i-requires
place_among-i-requires c = record { rising = (c.requires.0, subst (λ (s : List Slot). SlotsRise 0 c.requires.0 s) (sym c.as_slice.ensures) c.requires.1) }
