use Rattle.step_batch.proofs.Places.{place_put}
use Rattle.step_batch.proofs.buffer.place_own_in.Goals as goal

pub returns-clause-place : goal.returns-clause-place
returns-clause-place c = place_put c.args.labels c.insert_full.new.self.keys c.in_ok-place.place c.in_ok-place.ensures.stored
