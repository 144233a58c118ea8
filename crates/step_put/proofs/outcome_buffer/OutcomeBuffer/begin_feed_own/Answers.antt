use Rattle.std.proofs.Common.{◌≡◌, ◌∙◌, ◌<◌, ℕ, List, length, map, sym, ap, subst}
use Rattle.std.specs.List.{AllByRecursion}
use Rattle.step_batch.specs.Lent.{Lent}
use Rattle.step_put.specs.Placed.{left_of}
use Rattle.step_table.specs.Groups.{Names}
use Rattle.step_put.proofs.Owned.{at_below}
use Rattle.step_put.proofs.outcome_buffer.OutcomeBuffer.begin_feed_own.Goals as goal

pub look_over-requires : goal.look_over-requires
look_over-requires c =
    let n = c.renew_own.new.self in
    let labels = c.renew_own.new.buffer.labels in
    let below = at_below labels (map (left_of n.left) n.fed) n.places c.renew_own.ensures.named in
    let is : c.labels-count.result.now ≡ labels = c.labels-count.ensures.labels ∙ ap (λ (z : Lent). z.labels) c.lend.ensures in
    subst (λ (ls : List Names). AllByRecursion (λ (p : ℕ). p < length ls) c.places.result.now) (sym is) (subst (λ (ps : List ℕ). AllByRecursion (λ (p : ℕ). p < length labels) ps) (sym c.places.ensures) below)
