use Rattle.std.proofs.Common.{◌≡◌, ◌∙◌, ℕ, List, ap, subst, sym}
use Rattle.step_batch.specs.Lent.{Lent}
use Rattle.step_put.specs.Puts.{AreAt}
use Rattle.step_table.specs.Groups.{Names}
use Rattle.result_rows.specs.Taken.{names_of}
use Rattle.result_rows.proofs.Placing.{fed_at}
use Rattle.result_rows.proofs.collected.Collected.take.Goals as goal

pub take_each-requires-clause-placed : goal.take_each-requires-clause-placed
take_each-requires-clause-placed c =
    let fed = c.args.batch.now.labels in
    let own = c.take.new.buffer in
    let placing = c.take.new.self in
    let at : AreAt own.labels fed placing.places =
    fed_at own placing fed (c.take.ensures.left ∙ c.self.invariant.left) c.take.ensures.named (c.in_ok-take.ensures.fed ∙ c.labels.ensures.labels) in
    let names : names_of c.make_room.new.series.items ≡ own.labels = c.in_ok-make_room.ensures.all ∙ c.labels-2.ensures.labels ∙ ap (λ (l : Lent). l.labels) c.lend-own.ensures in
    subst (λ (places : List ℕ). AreAt (names_of c.make_room.new.series.items) fed places) (sym c.places.ensures)
    (subst (λ (ns : List Names). AreAt ns fed placing.places) (sym names) at)
