use Rattle.std.proofs.Common.{◌∙◌, ◌<◌, ℕ, List, length, map, ap, subst, sym}
use Rattle.std.specs.Prelude.{not}
use Rattle.std.specs.List.{All}
use Rattle.std.proofs.lemmas.Result.{on_ok_weaker}
use Rattle.promql_meaning.specs.Ranks.{kept_labels}
use Rattle.step_batch.specs.Lent.{stage_of, stages}
use Rattle.step_put.specs.Puts.{AreAt}
use Rattle.step_table.specs.Groups.{Names}
use Rattle.op_rank.specs.Rules.{GroupedSteps}
use Rattle.op_rank.specs.ValueCounts.{counted_at}
use Rattle.step_put.specs.Feeding.{count_of}
use Rattle.op_rank.proofs.Steps.{unread}
use Rattle.op_rank.proofs.value_counts.ValueCounts.feed.Goals as goal

pub put_all-requires-clause-count : goal.put_all-requires-clause-count
put_all-requires-clause-count c = c.places.ensures.count ∙ ap length (c.in_ok-renew.ensures.fed ∙ c.labels.ensures.labels)

pub put_all-requires-clause-within : goal.put_all-requires-clause-within
put_all-requires-clause-within c = subst (λ (z : List Names). All (λ (place : ℕ). place < length z) c.places.result.now) (sym (c.labels-2.ensures.labels ∙ c.lend-groups.ensures)) c.places.ensures.within

pub returns-clause-lent : goal.returns-clause-lent
returns-clause-lent c =
    let by = c.args.by.now in
    let rows = c.args.rows.now in
    let places = c.places.result.now in
    on_ok_weaker c.put_all.result (λ lent arg many left.
    let own = c.renew.ensures.left ∙ ap (λ (g : GroupedSteps). g.left) c.self.view_is ∙ left in
    let at : AreAt c.renew.new.self.groups (map (kept_labels by) rows.labels) places = subst (λ (fed : List Names). AreAt c.renew.new.self.groups (map (kept_labels by) fed) places) (c.in_ok-renew.ensures.fed ∙ c.labels.ensures.labels) (c.places.ensures.there by own) in
    let placed = subst (λ (z : List Names). AreAt z (map (kept_labels by) rows.labels) places) (sym (c.labels-2.ensures.labels ∙ c.lend-groups.ensures)) at in
    lent by (record { placed = placed; set = ap not c.is_left_out.ensures })
    ∙ unread (counted_at by c.args.label.now) (stages arg) (stages rows) (count_of (stage_of arg.labels) arg.steps ∙ many ∙ sym (count_of (stage_of rows.labels) rows.steps))) c.put_all.ensures.lent
