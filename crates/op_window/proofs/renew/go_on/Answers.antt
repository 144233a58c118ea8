use Rattle.std.proofs.Common.{◌≡◌, ◌∙◌, ◌+◌, ◌≤◌, None, length, sym, ap, subst}
use Rattle.std.specs.List.{filter_map}
use Rattle.promql_meaning.specs.Selecting.{fresh_sample}
use Rattle.sample_store.specs.Samples.{Samples, samples_at}
use Rattle.series_marks.specs.Marked.{coming_mark, is_mark, last_after, place_read, read_more, rises_at, spares_mark}
use Rattle.series_marks.specs.Reads.{Rises, Spares, after, coming, last_of, mark_at, read_at, until}
use Rattle.series_marks.specs.Walked.{after_after}
use Rattle.series_marks.specs.declared.mark.Mark.{Mark}
use Rattle.op_window.specs.Sliding.{with_samples}
use Rattle.op_window.proofs.Costs.{gone_most, on_err}
use Rattle.op_window.proofs.renew.go_on.Goals as goal

pub fill-requires-clause-rises : goal.fill-requires-clause-rises
fill-requires-clause-rises g c =
    let S = samples_at c.args.store.now c.args.s in
    subst (λ (k : Mark). Rises k.last (coming S k)) (sym c.requires.mark) (rises_at c.args.reached.0.0 c.args.reached.1.0 S c.requires.rises)

pub fill-requires-clause-spares : goal.fill-requires-clause-spares
fill-requires-clause-spares g c =
    let S = samples_at c.args.store.now c.args.s in
    subst (λ (k : Mark). Spares c.args.m.0 k.last k.ahead) (sym c.requires.mark) (spares_mark c.args.reached.0.0 c.args.reached.1.0 c.args.m.0 S c.requires.later)

pub returns-clause-mark : goal.returns-clause-mark
returns-clause-mark g c =
    let S = samples_at c.args.store.now c.args.s in
    let e = c.args.reached.0.0 in
    let a = c.args.reached.1.0 in
    let b = c.args.m.0 in
    let was = ap (coming S) c.requires.mark ∙ coming_mark e a S in
    is_mark e b S c.in_ok-to.to
    (c.in_ok-to.ensures.last ∙ ap (λ (xs : Samples). last_of b xs c.args.mark.last) was ∙ ap (λ (k : Mark). last_of b (after a (after e S)) k.last) c.requires.mark ∙ last_after a b (after e S) None c.requires.later)
    (c.in_ok-to.ensures.coming ∙ ap (after b) was ∙ after_after a b (after e S) c.requires.later)
    c.in_ok-to.ensures.ahead c.in_ok-to.ensures.within

pub returns-clause-window : goal.returns-clause-window
returns-clause-window g c =
    let S = samples_at c.args.store.now c.args.s in
    c.in_ok-to.ensures.filled ∙ ap (λ (xs : Samples). with_samples c.args.slices.now (filter_map fresh_sample (until c.args.m.0 xs))) (ap (coming S) c.requires.mark ∙ coming_mark c.args.reached.0.0 c.args.reached.1.0 S)

pub returns-clause-read : goal.returns-clause-read
returns-clause-read g c =
    let S = samples_at c.args.store.now c.args.s in
    let e = c.args.reached.0.0 in
    let p = place_read e c.args.reached.1.0 S in
    let q = place_read e c.args.m.0 S in
    let w : c.args.mark.place ≡ (mark_at e c.args.reached.1.0 S).place = ap (λ (k : Mark). k.place) c.requires.mark in
    let v : c.in_ok-to.to.place ≡ (mark_at e c.args.m.0 S).place = ap (λ (k : Mark). k.place) (returns-clause-mark g c) in
    let r = c.in_ok-to.ensures.read in
    read_more c.fill.new.work.fetched c.args.work.now.fetched c.args.mark.place c.in_ok-to.to.place (mark_at e c.args.reached.1.0 S).place (mark_at e c.args.m.0 S).place (length (after e S)) (length S) (read_at e c.args.reached.1.0 S) (read_at e c.args.m.0 S) r w v p q

pub returns-in_err-to-clause-err : goal.returns-in_err-to-clause-err
returns-in_err-to-clause-err g c =
    let S = samples_at c.args.store.now c.args.s in
    let most : c.fill.new.work.fetched + read_at c.args.reached.0.0 c.args.reached.1.0 S ≤ c.args.work.now.fetched + read_at c.args.reached.0.0 c.args.m.0 S =
    gone_most c.args.reached.0.0 c.args.reached.1.0 c.args.m.0 S c.args.mark c.fill.new.work.fetched c.args.work.now.fetched c.requires.later c.requires.mark c.in_err-to.ensures.err in
    on_err c.from_residual.result most
