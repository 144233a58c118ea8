use Rattle.std.proofs.Common.{◌≡◌, ◌∙◌, ◌<◌, ◌∷◌, ◌++◌, [], ℕ, List, get_or, length, map, sym, ap, subst, take}
use Rattle.std.specs.Prelude.{slice_index_or}
use Rattle.std.specs.List.{filter_map}
use Rattle.std.specs.Option.{option_to_list}
use Rattle.step_batch.specs.Lent.{entry_in, step_of}
use Rattle.step_table.specs.Groups.{Names}
use Rattle.step_table.specs.Outcomes.{row_of}
use Rattle.xfrac.specs.declared.value.XFrac.{XFrac}
use Rattle.op_aggregate.specs.Places.{groups_made}
use Rattle.op_aggregate.specs.Tallies.{or_overflow}
use Rattle.op_aggregate.proofs.OneByOne.{free_here, free_next, marks_more, ready_here, ready_within, rows_more}
use Rattle.op_aggregate.proofs.putting.put_values.Goals as goal

pub value_at-value-requires : goal.value_at-value-requires
value_at-value-requires c =
    let groups = c.args.groups.now in
    let same = c.as_slice-place-items.ensures.value in
    let n = c.loop-place.place-index in
    let p = get_or c.as_slice-place-items.result.now n 0 in
    ready_here groups.all.items groups.filled.items n p (subst (λ (z : List ℕ). n < length z) same c.loop-place-test.true) (ap (λ (z : List ℕ). get_or z n 0) same) c.requires.ready

pub put_value-requires : goal.put_value-requires
put_value-requires c =
    let groups = c.args.groups.now in
    let i = c.loop-place.invariant in
    let same = c.as_slice-place-items.ensures.value in
    let n = c.loop-place.place-index in
    let p = get_or c.as_slice-place-items.result.now n 0 in
    let l : n < length groups.filled.items = subst (λ (z : List ℕ). n < length z) same c.loop-place-test.true in
    let e : p ≡ get_or groups.filled.items n 0 = ap (λ (z : List ℕ). get_or z n 0) same in
    let within = ready_within groups.all.items p (ready_here groups.all.items groups.filled.items n p l e c.requires.ready) in
    record {
      begun = i.begun;
      there = subst (λ (z : List Names). p < length z) (sym i.labels) (subst (λ (k : ℕ). p < k) c.requires.many within);
      free = free_here c.loop-place.buffer.steps groups.filled.items n p l e i.free;
    }

pub loop-place-preserved : goal.loop-place-preserved
loop-place-preserved c =
    let groups = c.args.groups.now in
    let all = groups.all.items in
    let places = groups.filled.items in
    let labels = c.args.buffer.now.labels in
    let i = c.loop-place.invariant in
    let same = c.as_slice-place-items.ensures.value in
    let n = c.loop-place.place-index in
    let p = get_or c.as_slice-place-items.result.now n 0 in
    let l : n < length places = subst (λ (z : List ℕ). n < length z) same c.loop-place-test.true in
    let e : p ≡ get_or places n 0 = ap (λ (z : List ℕ). get_or z n 0) same in
    let value = c.value_at-value.result in
    let v = c.value_at-value.ensures in
    let done = map entry_in (filter_map row_of (groups_made groups.f labels all (take n places))) in
    record {
      labels = c.put_value.ensures.labels ∙ i.labels;
      begun = c.in_ok-overflowed.ensures.begun;
      free = free_next c.loop-place.buffer.steps c.put_value.new.buffer.steps places n p l e c.requires.apart c.in_ok-overflowed.ensures.others i.free;
      later = λ u h. c.in_ok-overflowed.ensures.later u (i.later u h);
      overflows = marks_more groups.f labels all places n p value c.loop-place.overflows c.in_ok-overflowed.overflowed c.either-overflows.result l e v c.in_ok-overflowed.ensures.overflows c.either-overflows.ensures i.overflows;
      lent = λ front at marks o.
          c.in_ok-overflowed.ensures.lent front at done marks (i.lent front at marks o)
          ∙ ap (λ (ls : List Names). front ++ record { at = at; step = step_of (done ++ map entry_in (option_to_list (row_of (record { labels = slice_index_or ls p []; value = or_overflow value })))) marks } ∷ []) i.labels
          ∙ ap (λ (z : List (Names × XFrac)). front ++ record { at = at; step = step_of z marks } ∷ []) (sym (rows_more groups.f labels all places n p value l e v));
    }
