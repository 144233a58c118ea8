use Rattle.std.proofs.Common.{◌≡◌, ◌∙◌, ◌+◌, ◌≤◌, None, drop, length, sym, ap, subst, arith}
use Rattle.std.specs.List.{filter_map}
use Rattle.promql_meaning.specs.Selecting.{fresh_sample}
use Rattle.sample_store.specs.Samples.{Samples, samples_at}
use Rattle.series_marks.specs.Marked.{is_mark, place_first, place_read, read_first}
use Rattle.series_marks.specs.Reads.{Rises, after, last_of, mark_at, read_at, until}
use Rattle.series_marks.specs.Walked.{rises_after}
use Rattle.series_marks.specs.declared.mark.Mark.{Mark}
use Rattle.op_window.specs.Sliding.{with_samples}
use Rattle.op_window.proofs.Costs.{begun_most, on_err}
use Rattle.op_window.proofs.renew.begin.Goals as goal

pub fill-requires-clause-rises : goal.fill-requires-clause-rises
fill-requires-clause-rises g c =
    let S = samples_at c.args.store.now c.args.s in
    let at : after c.args.edge.0 S ≡ drop c.place_behind-place.result S = sym c.place_behind-place.ensures.later in
    subst (λ (xs : Samples). Rises None xs) at (rises_after c.args.edge.0 S c.requires.rises)

pub returns-clause-mark : goal.returns-clause-mark
returns-clause-mark g c =
    let S = samples_at c.args.store.now c.args.s in
    let e = c.args.edge.0 in
    let at : drop c.place_behind-place.result S ≡ after e S = c.place_behind-place.ensures.later in
    is_mark e c.args.m.0 S c.in_ok-to.to (c.in_ok-to.ensures.last ∙ ap (λ (xs : Samples). last_of c.args.m.0 xs None) at) (c.in_ok-to.ensures.coming ∙ ap (after c.args.m.0) at) c.in_ok-to.ensures.ahead c.in_ok-to.ensures.within

pub returns-clause-window : goal.returns-clause-window
returns-clause-window g c =
    c.in_ok-to.ensures.filled ∙ ap (λ (xs : Samples). with_samples c.args.slices.now (filter_map fresh_sample (until c.args.m.0 xs))) c.place_behind-place.ensures.later

pub returns-clause-read : goal.returns-clause-read
returns-clause-read g c =
    let S = samples_at c.args.store.now c.args.s in
    let e = c.args.edge.0 in
    let at : after e S ≡ drop c.place_behind-place.result S = sym c.place_behind-place.ensures.later in
    let within : c.place_behind-place.result ≤ length S = c.place_behind-place.ensures.within in
    let first = place_first S (after e S) c.place_behind-place.result at within in
    let v : c.in_ok-to.to.place ≡ (mark_at e c.args.m.0 S).place = ap (λ (k : Mark). k.place) (returns-clause-mark g c) in
    let q : c.in_ok-to.to.place + length (after e S) ≡ length S + read_at e c.args.m.0 S = ap (λ k. k + length (after e S)) v ∙ place_read e c.args.m.0 S in
    read_first c.fill.new.work.fetched c.args.work.now.fetched c.place_behind-place.result c.in_ok-to.to.place (length (after e S)) (length S) (read_at e c.args.m.0 S) (c.in_ok-to.ensures.read ∙ ap (λ k. k + c.in_ok-to.to.place) c.place_behind-place.ensures.fetched) first q

pub returns-in_err-to-clause-err : goal.returns-in_err-to-clause-err
returns-in_err-to-clause-err g c =
    let S = samples_at c.args.store.now c.args.s in
    let most : c.fill.new.work.fetched ≤ c.args.work.now.fetched + read_at c.args.edge.0 c.args.m.0 S =
    begun_most c.args.edge.0 c.args.m.0 S (drop c.place_behind-place.result S) c.fill.new.work.fetched c.args.work.now.fetched c.place_behind-place.ensures.later (let h = c.in_err-to.ensures.err in let f = c.place_behind-place.ensures.fetched in omega arith) in
    on_err c.from_residual.result most
