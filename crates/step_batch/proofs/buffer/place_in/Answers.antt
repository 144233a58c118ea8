use Rattle.std.proofs.Common.{◌≡◌, subst}
use Rattle.std.specs.Prelude.{Some, slice_get}
use Rattle.step_table.specs.Groups.{Names}
use Rattle.step_batch.proofs.Places.{place_found, place_put}
use Rattle.step_batch.proofs.buffer.place_in.Goals as goal

pub returns-in-Some-clause-place : goal.returns-in-Some-clause-place
returns-in-Some-clause-place c = place_found c.args.labels.now c.args.set.now.keys c.in-Some.i c.in-Some.ensures.index

pub returns-clause-place : goal.returns-clause-place
returns-clause-place c =
    subst (λ (z : Names). slice_get c.insert_full.new.self.keys c.in_ok-place.place ≡ Some z) c.in_ok-copy.ensures
    (place_put c.in_ok-copy.field-0 c.insert_full.new.self.keys c.in_ok-place.place c.in_ok-place.ensures.stored)
