use Rattle.std.proofs.Common.{◌≡◌, ◌∙◌, ℕ, List, length, map, sym, ap, subst}
use Rattle.std.specs.List.{IsDistinct}
use Rattle.label_set.specs.LabelEquality.{labels_eq}
use Rattle.step_batch.specs.Lent.{SlotsRise, stages}
use Rattle.step_put.specs.declared.placed.PlacedOutcome.{PlacedOutcome}
use Rattle.step_table.specs.Groups.{Names}
use Rattle.step_table.specs.Unions.{united}
use Rattle.op_buckets.specs.Histograms.{bound_in, histogram_of}
use Rattle.op_buckets.specs.Splits.{AreMade}
use Rattle.step_put.specs.Feeding.{few_here, stage_here, step_here}
use Rattle.op_buckets.proofs.Keeping.{read_counts}
use Rattle.op_buckets.proofs.Made.{filled_rise, one_made, placed_as_many}
use Rattle.op_buckets.proofs.buckets.put_one.Goals as goal

pub fill-requires : goal.fill-requires
fill-requires c =
    let kept = c.args.kept.now in
    let labels = c.args.rows.now.labels in
    let slots = c.slots-slots.result.now in
    let fed : length kept.fed.items ≡ length labels = ap length c.requires.fed in
    record {
      groups = subst (λ (n : ℕ). SlotsRise 0 n slots) (sym (placed_as_many histogram_of c.args.made.now.fed labels c.args.groups.now c.requires.there)) c.slots-slots.ensures.rising;
      bounds = subst (λ (n : ℕ). SlotsRise 0 n slots) (sym ((read_counts kept.fed.items kept.histograms.items kept.bounds.items c.requires.read).1 ∙ fed)) c.slots-slots.ensures.rising;
      fed = subst (λ (n : ℕ). SlotsRise 0 n slots) (sym fed) c.slots-slots.ensures.rising;
    }

pub put-requires-clause-later : goal.put-requires-clause-later
put-requires-clause-later c = c.requires.later c.at-at.result c.at-at.ensures

pub put-requires-clause-rising : goal.put-requires-clause-rising
put-requires-clause-rising c =
    let kept = c.args.kept.now in
    let labels = c.args.rows.now.labels in
    let slots = c.slots-slots.result.now in
    let q = c.value_asked-q.result in
    let groups = c.args.groups.now in
    let both = c.unite.new.self in
    let noted = c.in_ok-marks.marks in
    let made : AreMade q groups kept.fed.items kept.bounds.items slots both c.as_slice.result.now noted = subst (λ (z : List PlacedOutcome). AreMade q groups kept.fed.items kept.bounds.items slots both z noted) (sym c.as_slice.ensures.value) c.in_ok-marks.ensures in
    let here : AreMade q groups labels kept.bounds.items slots both c.as_slice.result.now noted = subst (λ (z : List Names). AreMade q groups z kept.bounds.items slots both c.as_slice.result.now noted) c.requires.fed made in
    filled_rise q labels c.args.made.now.fed groups kept.bounds.items slots both noted c.as_slice.result.now c.requires.distinct c.requires.there (c.requires.read.bounds ∙ ap (map bound_in) c.requires.fed) c.slots-slots.ensures.rising here

pub returns-clause-lent : goal.returns-clause-lent
returns-clause-lent c = λ p s hp hs.
    let kept = c.args.kept.now in
    let rows = c.args.rows.now in
    let quantile = c.args.quantile.now in
    let i = c.args.i in
    let slots = c.slots-slots.result.now in
    let asked = c.slots-asked.result.now in
    let q = c.value_asked-q.result in
    let groups = c.args.groups.now in
    let both = c.unite.new.self in
    let noted = c.in_ok-marks.marks in
    let made : AreMade q groups kept.fed.items kept.bounds.items slots both c.as_slice.result.now noted = subst (λ (z : List PlacedOutcome). AreMade q groups kept.fed.items kept.bounds.items slots both z noted) (sym c.as_slice.ensures.value) c.in_ok-marks.ensures in
    let here : AreMade q groups rows.labels kept.bounds.items slots both c.as_slice.result.now noted = subst (λ (z : List Names). AreMade q groups z kept.bounds.items slots both c.as_slice.result.now noted) c.requires.fed made in
    one_made c.lent_steps_are_tables.ensures.rows c.rows_ignore_order.ensures.outcomes c.sets_ignore_order.ensures.notes c.order_doesnt_matter.ensures c.order_is_total.ensures.equal c.order_is_total.ensures.reversed c.order_is_total.ensures.transitive
    rows.labels quantile.labels c.args.made.now.fed groups kept.bounds.items slots asked c.marks.result.now c.marks-2.result.now both c.at-at.result p s q c.args.made.now.left noted c.as_slice.result.now (stages c.args.made.now.lent) (stages c.put.new.self.lent)
    c.requires.there (subst (IsDistinct labels_eq) c.labels.ensures.labels c.labels.ensures.distinct) c.requires.distinct c.slots-slots.ensures.rising c.slots-asked.ensures.rising
    (few_here quantile.steps i asked c.requires.scalar c.slots-asked.ensures.slots) (c.requires.read.bounds ∙ ap (map bound_in) c.requires.fed)
    (step_here quantile.labels quantile.steps i asked c.marks-2.result.now p c.slots-asked.ensures.slots c.marks-2.ensures hp)
    (stage_here rows.labels rows.steps i c.at-at.result slots c.marks.result.now s c.at-at.ensures c.slots-slots.ensures.slots c.marks.ensures hs)
    c.requires.left c.value_asked-q.ensures (c.in_ok-unite.ensures.ok ∙ (λ j. united (c.in_ok-both.ensures j) c.marks-2.result.now)) here c.in_ok-put.ensures.lent
