use Rattle.std.proofs.Common.{◌≡◌, ◌∙◌, ◌+◌, ◌<◌, ◌++◌, ◌∷◌, [], ℕ, List, Some, ap, append_assoc, drop, length, slice_get, subst, sym}
use Rattle.std.specs.Prelude.{slice_index_or}
use Rattle.std.specs.List.{IsDistinct}
use Rattle.label_set.specs.LabelEquality.{labels_eq}
use Rattle.promql_meaning.specs.declared.answer.Point.{Point}
use Rattle.step_batch.specs.Lent.{entries_of}
use Rattle.step_table.specs.Groups.{Names, items_of}
use Rattle.result_rows.specs.Taken.{names_of, points_of, points_under}
use Rattle.result_rows.proofs.Placing.{at_place, get_below, rise_within, row_next, same_count, some_at}
use Rattle.result_rows.proofs.Under.{count_names}
use Rattle.result_rows.proofs.found.put_rows.Goals as goal

pub place_at-requires : goal.place_at-requires
place_at-requires c = rise_within 0 (length c.args.places.now) c.args.slots.now c.loop-slot.slot-index c.slot-item.result c.requires.within c.loop-slot-test.true c.slot-item.is

pub push_point-requires : goal.push_point-requires
push_point-requires c =
    let places = c.args.places.now in
    let old = c.args.series.now.items in
    let now = c.loop-slot.series.items in
    let place = c.slot-item.result.place in
    let within : place < length places = rise_within 0 (length places) c.args.slots.now c.loop-slot.slot-index c.slot-item.result c.requires.within c.loop-slot-test.true c.slot-item.is in
    let below : slice_index_or places place 0 < length old = get_below places place (length old) c.requires.there within in
    let same : length old ≡ length now = sym (count_names old) ∙ ap length (sym c.loop-slot.invariant.names) ∙ count_names now in
    subst (λ (n : ℕ). n < length now) (sym c.place_at.ensures) (subst (λ (n : ℕ). slice_index_or places place 0 < n) same below)

pub loop-slot-preserved : goal.loop-slot-preserved
loop-slot-preserved c = record {
  names = c.push_point.ensures.names ∙ c.loop-slot.invariant.names;
  points = λ fed placed q.
      let places = c.args.places.now in
      let old = c.args.series.now.items in
      let now = c.loop-slot.series.items in
      let s = c.slot-item.result in
      let i = c.loop-slot.slot-index in
      let at = c.args.at in
      let within : s.place < length places = rise_within 0 (length places) c.args.slots.now i s c.requires.within c.loop-slot-test.true c.slot-item.is in
      let own = some_at fed s.place (subst (λ (n : ℕ). s.place < n) (same_count (names_of old) fed places placed) within) in
      let there : slice_get (names_of now) c.place_at.result ≡ Some own.0 =
      ap (λ (ns : List Names). slice_get ns c.place_at.result) c.loop-slot.invariant.names ∙ ap (slice_get (names_of old)) c.place_at.ensures ∙ at_place (names_of old) fed places s.place placed within ∙ own.1 in
      let distinct : IsDistinct labels_eq (names_of now) = subst (IsDistinct labels_eq) (sym c.loop-slot.invariant.names) c.requires.distinct in
      let one : List Point = items_of (points_of at ((own.0, s.value) ∷ [])) q in
      let rest : List Point = items_of (points_of at (entries_of fed (drop (i + 1) c.args.slots.now))) q in
      ap (λ (ps : List Point). ps ++ rest) (c.in_ok-push_point.ensures.point distinct own.0 there q) ∙ append_assoc (points_under q now) one rest
      ∙ ap (λ (ps : List Point). points_under q now ++ ps) (sym (row_next q at fed c.args.slots.now i s own.0 c.loop-slot-test.true c.slot-item.is own.1))
      ∙ c.loop-slot.invariant.points fed placed q;
}
