use Rattle.step_batch.proofs.Lasts.{free_places_are_free}
use Rattle.step_batch.proofs.laws.free_places_are_free.Goals as goal

pub returns : goal.returns
returns c = free_places_are_free
