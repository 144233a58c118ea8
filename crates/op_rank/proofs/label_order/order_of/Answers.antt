use Rattle.std.proofs.Common.{◌≡◌, ◌∙◌, ℕ, ◌<◌, List, length, get_or, map, sym, ap, subst}
use Rattle.op_rank.specs.LabelOrders.{ArePlaces}
use Rattle.op_rank.specs.declared.label_order.LabelAt.{LabelAt}
use Rattle.op_rank.proofs.LabelsInOrder.{inverse_are, places_apart}
use Rattle.op_rank.proofs.label_order.order_of.Goals as goal

pub ranks_of-requires-clause-apart : goal.ranks_of-requires-clause-apart
ranks_of-requires-clause-apart c =
    let same = c.as_slice-2.ensures.value ∙ c.in_ok-places.ensures ∙ ap (map (λ (one : LabelAt). one.place)) c.as_slice.ensures.value in
    let is : ArePlaces c.args.labels.now c.as_slice-2.result.now = subst (ArePlaces c.args.labels.now) (sym same) c.in_ok-all.ensures in
    places_apart c.args.labels.now c.as_slice-2.result.now is.rise

pub invariant_of-result : goal.invariant_of-result
invariant_of-result c =
    let same = c.in_ok-places.ensures ∙ ap (map (λ (one : LabelAt). one.place)) c.as_slice.ensures.value in
    let is : ArePlaces c.args.labels.now c.in_ok-places.places.items = subst (ArePlaces c.args.labels.now) (sym same) c.in_ok-all.ensures in
    let ranks = c.in_ok-ranks.ranks.items in
    record {
      inverse = inverse_are c.args.labels.now c.in_ok-places.places.items ranks is (c.in_ok-ranks.ensures.count ∙ ap length c.as_slice-2.ensures.value)
          (subst (λ (ps : List ℕ). (i : ℕ) → i < length ps → get_or ranks (get_or ps i 0) 0 ≡ i) c.as_slice-2.ensures.value c.in_ok-ranks.ensures.ranks);
    }
