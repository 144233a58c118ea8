use Rattle.std.proofs.Common.{◌∙◌, ap, subst}
use Rattle.sample_store.specs.Samples.{samples_at}
use Rattle.series_marks.specs.Reaches.{IsReached}
use Rattle.series_marks.specs.Reads.{IsNoEarlier, Reached}
use Rattle.op_window.specs.Sliding.{columns_of, window_of}
use Rattle.op_window.proofs.Counts.{begun_read, gone_read}
use Rattle.op_window.proofs.Windows.{window_begun_at, window_slides_at}
use Rattle.op_window.proofs.renew.renew.Goals as goal

pub returns-in_ok-to-in-None-clause-window : goal.returns-in_ok-to-in-None-clause-window
returns-in_ok-to-in-None-clause-window g c =
    let S = samples_at c.args.store.now c.args.s in
    let span = c.args.span in
    c.forget.ensures
    ∙ window_begun_at span.closed span.edge.0 span.moment.0 span.range.0 S c.args.slices.now c.begin.new.slices c.requires.rises c.requires.span.edge c.requires.span.range
    (c.requires.window ∙ ap (λ (r : Reached). columns_of (window_of span.closed span.range.0 r S)) c.in-None.is) c.in_ok-to-in-None.ensures.window

pub returns-in_ok-settle-in-Some-clause-window : goal.returns-in_ok-settle-in-Some-clause-window
returns-in_ok-settle-in-Some-clause-window g c =
    let S = samples_at c.args.store.now c.args.s in
    let span = c.args.span in
    let r = c.in-Some.reached in
    c.settle.ensures ∙ c.forget-in-Some.ensures
    ∙ window_slides_at span.closed r.0.0 r.1.0 span.moment.0 span.range.0 span.edge.0 S c.args.slices.now c.go_on.new.slices c.requires.rises
    (subst (λ (z : Reached). IsReached span.closed span.range.0 z) c.in-Some.is c.requires.begun) (subst (λ (z : Reached). IsNoEarlier z span.moment) c.in-Some.is c.requires.later) c.requires.span.edge c.requires.span.range
    (c.requires.window ∙ ap (λ (z : Reached). columns_of (window_of span.closed span.range.0 z S)) c.in-Some.is) c.in_ok-to-in-Some.ensures.window

pub returns-in_ok-to-in-None-clause-counted : goal.returns-in_ok-to-in-None-clause-counted
returns-in_ok-to-in-None-clause-counted g c =
    begun_read c.args.reached c.args.span.edge c.args.span.moment (samples_at c.args.store.now c.args.s) c.begin.new.work.fetched c.args.work.now.fetched c.in-None.is c.in_ok-to-in-None.ensures.read

pub returns-in_ok-settle-in-Some-clause-counted : goal.returns-in_ok-settle-in-Some-clause-counted
returns-in_ok-settle-in-Some-clause-counted g c =
    gone_read c.args.reached c.in-Some.reached c.args.span.edge c.args.span.moment (samples_at c.args.store.now c.args.s) c.go_on.new.work.fetched c.args.work.now.fetched c.in-Some.is c.in_ok-to-in-Some.ensures.read
