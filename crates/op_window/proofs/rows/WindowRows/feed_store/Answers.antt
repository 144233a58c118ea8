use Rattle.std.proofs.Common.{◌≡◌, ◌∙◌, ◌+◌, ◌<◌, Some, drop, length, refl, sym, ap, subst, arith}
use Rattle.std.proofs.lemmas.List.{drop_all}
use Rattle.std.specs.Prelude.{pos, slice_get, slice_index_or}
use Rattle.func_table.specs.declared.table.Window.{Window}
use Rattle.step_batch.specs.Lent.{stages}
use Rattle.step_table.specs.Timed.{StepAt}
use Rattle.op_window.specs.Kernels.{Kernel}
use Rattle.series_marks.specs.Reaches.{Follow, reach, reach_all, reads_of}
use Rattle.series_marks.specs.Reads.{Reached}
use Rattle.series_marks.specs.Walked.{all_rise}
use Rattle.ticks.specs.declared.moment.Ms.{Ms}
use Rattle.op_window.specs.Rules.{fed_by, names_of, scalar_in, windowed_at, windows_of_series}
use Rattle.op_window.proofs.Counts.{counts_next}
use Rattle.op_window.proofs.Instants.{edge_same, follow_at, instants_at, reach_at, reach_same, reads_left_in, reads_next, reads_stay, searches_left_in, searches_next, searches_stay, walked_same}
use Rattle.op_window.proofs.Stages.{series_all, series_next_at}
use Rattle.op_window.proofs.rows.WindowRows.feed_store.Goals as goal

abbrev none : Ms
none = record { 0 = pos 0 }

pub returns-in_err-scalar-clause-fetched : goal.returns-in_err-scalar-clause-fetched
returns-in_err-scalar-clause-fetched g c =
    let k = c.args.self.now in
    let i = c.loop-i.invariant in
    reads_stay k.range.0 c.args.store.now k.series k.reached c.loop-i.self.reached (reach_all k.range.0 k.reached k.moment c.args.at.now) k.moment (drop c.loop-i.i c.args.at.now) c.loop-i.work.fetched c.args.work.now.fetched i.follow i.reached i.fetched

pub returns-in_err-scalar-clause-probed : goal.returns-in_err-scalar-clause-probed
returns-in_err-scalar-clause-probed g c =
    let k = c.args.self.now in
    let i = c.loop-i.invariant in
    searches_stay k.range.0 k.series k.reached c.loop-i.self.reached (reach_all k.range.0 k.reached k.moment c.args.at.now) k.moment (drop c.loop-i.i c.args.at.now) c.loop-i.work.probed c.args.work.now.probed i.reached i.probed

pub returns-in_err-make_ready-clause-fetched : goal.returns-in_err-make_ready-clause-fetched
returns-in_err-make_ready-clause-fetched g c =
    let k = c.args.self.now in
    let at = c.args.at.now in
    reads_stay k.range.0 c.args.store.now k.series k.reached k.reached (reach_all k.range.0 k.reached k.moment at) k.moment at c.args.work.now.fetched c.args.work.now.fetched c.requires.follow refl (omega arith)

pub returns-in_err-make_ready-clause-probed : goal.returns-in_err-make_ready-clause-probed
returns-in_err-make_ready-clause-probed g c =
    let k = c.args.self.now in
    let at = c.args.at.now in
    searches_stay k.range.0 k.series k.reached k.reached (reach_all k.range.0 k.reached k.moment at) k.moment at c.args.work.now.probed c.args.work.now.probed refl (omega arith)

pub step-requires-clause-named : goal.step-requires-clause-named
step-requires-clause-named g c = c.loop-i.invariant.named ∙ ap (names_of c.args.store.now) (sym c.loop-i.invariant.series)

pub step-requires-clause-rises : goal.step-requires-clause-rises
step-requires-clause-rises g c = all_rise c.args.store.now c.series.ensures.rising

pub returns-in_err-step-clause-fetched : goal.returns-in_err-step-clause-fetched
returns-in_err-step-clause-fetched g c =
    let k = c.args.self.now in
    let i = c.loop-i.invariant in
    let l = c.loop-i.self in
    reads_left_in k.range l.range c.args.store.now k.series l.series k.reached l.reached (reach_all k.range.0 k.reached k.moment c.args.at.now) k.moment l.moment c.args.at.now c.loop-i.i none c.step.new.work.fetched c.loop-i.work.fetched c.args.work.now.fetched
    i.range i.series i.moment c.loop-i-test.true i.follow i.reached i.fetched c.step.ensures.fetched

pub returns-in_err-step-clause-probed : goal.returns-in_err-step-clause-probed
returns-in_err-step-clause-probed g c =
    let k = c.args.self.now in
    let i = c.loop-i.invariant in
    let l = c.loop-i.self in
    searches_left_in k.range l.range k.series l.series k.reached l.reached (reach_all k.range.0 k.reached k.moment c.args.at.now) k.moment l.moment c.args.at.now c.loop-i.i none c.step.new.work.probed c.loop-i.work.probed c.args.work.now.probed
    i.range i.series i.moment c.loop-i-test.true i.reached i.probed c.step.ensures.probed

pub loop-i-preserved : goal.loop-i-preserved
loop-i-preserved g c =
    let k = c.args.self.now in
    let i = c.loop-i.invariant in
    let l = c.loop-i.self in
    let n = c.loop-i.i in
    let at = c.args.at.now in
    let store = c.args.store.now in
    let s = c.in_ok-step.ensures in
    let more = c.loop-i-test.true in
    let t : Ms = slice_index_or at n none in
    let new = c.step.new.self in
    let on : new.reached ≡ reach k.range.0 l.reached k.moment t = s.reached ∙ reach_same k.range l.range l.reached k.moment l.moment t i.range i.moment in
    record {
      series = s.series ∙ i.series;
      f = s.f ∙ i.f;
      moment = s.moment ∙ i.moment;
      range = s.range ∙ i.range;
      reached = ap (λ (r : Reached). reach_all k.range.0 r k.moment (drop (n + 1) at)) on ∙ reach_at k.range.0 l.reached k.moment at n none more ∙ i.reached;
      named = s.named ∙ i.named;
      walked = s.walked ∙ walked_same k.range l.range k.moment l.moment new.reached store k.series l.series i.range i.moment i.series;
      edge = edge_same k.range l.range k.moment l.moment new.reached i.range i.moment s.edge;
      follow = subst (λ (r : Reached). Follow k.range.0 r k.moment (drop (n + 1) at)) (sym on) (follow_at k.range.0 l.reached k.moment at n none more i.follow);
      instants = instants_at l.buffer new.buffer at n none more i.instants s.later;
      lent = series_next_at k.f l.f store k.series l.series k.moment l.moment k.range l.range at c.args.arg.now n none c.in_ok-scalar.scalar _ _ i.f i.series i.moment i.range c.requires.scalars (let h : n < length at = more in omega arith) (subst (λ (x : Window). (s : StepAt) → slice_get (fed_by x at (stages c.args.arg.now)) n ≡ Some s → c.in_ok-scalar.scalar ≡ scalar_in x s.step) (ap (λ (z : Kernel). z.f) c.self.view_is) c.in_ok-scalar.ensures) i.lent s.lent;
      fetched = reads_next store k.series l.series k.reached l.reached new.reached (reach l.range.0 l.reached l.moment t) c.step.new.work.fetched c.loop-i.work.fetched c.args.work.now.fetched i.series s.reached i.fetched c.step.ensures.fetched;
      counted = counts_next store k.series l.series k.reached l.reached new.reached (reach l.range.0 l.reached l.moment t) c.step.new.work.fetched c.loop-i.work.fetched c.args.work.now.fetched i.series s.reached i.counted s.counted;
      probed = searches_next k.series l.series k.reached l.reached new.reached (reach l.range.0 l.reached l.moment t) c.step.new.work.probed c.loop-i.work.probed c.args.work.now.probed i.series s.reached i.probed c.step.ensures.probed;
      tested = c.step.ensures.tested ∙ i.tested;
    }

pub returns-clause-lent : goal.returns-clause-lent
returns-clause-lent g c =
    let k = c.args.self.now in
    series_all k.f (windowed_at k.f (windows_of_series c.args.store.now k.series k.moment k.range)) c.args.at.now c.args.arg.now c.loop-i.i _ c.requires.scalars c.loop-i-test.false c.loop-i.invariant.lent

pub returns-clause-counted : goal.returns-clause-counted
returns-clause-counted g c =
    let k = c.args.self.now in
    let l = c.loop-i.self in
    let i = c.loop-i.invariant in
    let is : l.reached ≡ reach_all k.range.0 k.reached k.moment c.args.at.now = sym (ap (reach_all k.range.0 l.reached k.moment) (drop_all _ _ c.loop-i-test.false)) ∙ i.reached in
    subst (λ (r : Reached). c.loop-i.work.fetched + reads_of k.reached c.args.store.now k.series ≡ c.args.work.now.fetched + reads_of r c.args.store.now k.series) is i.counted
