use Rattle.std.proofs.Common.{◌∙◌, ◌<◌, ℕ, length, sym, ap, subst}
use Rattle.std.specs.List.{All}
use Rattle.op_rank.proofs.first_rows.FirstRows.feed.Goals as goal

pub put_all-requires-clause-groups : goal.put_all-requires-clause-groups
put_all-requires-clause-groups c = c.places.ensures.count ∙ ap length (c.in_ok-renew.ensures.fed ∙ c.labels-labels.ensures.labels)

pub put_all-requires-clause-within : goal.put_all-requires-clause-within
put_all-requires-clause-within c = subst (λ (n : ℕ). All (λ (group : ℕ). group < n) c.places.result.now) (sym c.count.ensures) c.places.ensures.within
