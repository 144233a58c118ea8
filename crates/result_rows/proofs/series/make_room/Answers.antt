use Rattle.std.proofs.Common.{◌≡◌, ◌∙◌, ◌+◌, ◌≤◌, ◌++◌, ◌∷◌, [], List, Some, ap, arith, length, length-append, slice_get, subst, sym}
use Rattle.promql_meaning.specs.declared.answer.ResultSeries.{ResultSeries}
use Rattle.result_rows.specs.Taken.{AreFront, names_of, points_under}
use Rattle.result_rows.proofs.Under.{count_names, front_all, front_more, get_is, series_with, under_room}
use Rattle.result_rows.proofs.series.make_room.Goals as goal

pub loop-place-preserved : goal.loop-place-preserved
loop-place-preserved c =
    let xs = c.loop-place.series.items in
    let labels = c.args.labels.now in
    let l = c.index-labels-place.result in
    let more : c.add_series.new.series.items ≡ xs ++ series_with l [] ∷ [] = c.in_ok-add_series.ensures.ok in
    let there : slice_get labels (length xs) ≡ Some l = ap (slice_get labels) c.loop-place.invariant.count ∙ get_is labels c.loop-place.place l c.loop-place-test.true c.index-labels-place.is in
    record {
      count = ap length more ∙ length-append xs (series_with l [] ∷ []) ∙ ap (λ n. n + 1) c.loop-place.invariant.count;
      front = subst (λ (ys : List ResultSeries). AreFront (names_of ys) labels) (sym more) (front_more xs labels l c.loop-place.invariant.front there);
      points = λ q. ap (points_under q) more ∙ under_room q l xs ∙ c.loop-place.invariant.points q;
    }

pub returns-clause-all : goal.returns-clause-all
returns-clause-all c =
    let xs = c.loop-place.series.items in
    let names : length (names_of xs) ≡ length xs = count_names xs in
    let past : length c.args.labels.now ≤ length (names_of xs) = let h = c.loop-place.invariant.count in omega (arith, c.loop-place-test.false) in
    front_all (names_of xs) c.args.labels.now c.loop-place.invariant.front past
