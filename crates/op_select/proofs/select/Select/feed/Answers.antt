use Rattle.std.proofs.Common.{◌≡◌, ◌∙◌, ℕ, ◌+◌, ◌++◌, [], ◌∷◌, List, drop, get_or, map, sym, ap, subst, arith, rules}
use Rattle.std.proofs.lemmas.List.{drop_all}
use Rattle.std.specs.Prelude.{Bool, pos}
use Rattle.series_marks.specs.Counted.{begins_at, begins_next}
use Rattle.series_marks.specs.Picks.{BeginsWith, picks_of}
use Rattle.series_marks.specs.Reaches.{Follow, reach, reach_all}
use Rattle.series_marks.specs.Reads.{Reached}
use Rattle.series_marks.specs.Walked.{all_rise}
use Rattle.ticks.specs.declared.moment.Ms.{Ms}
use Rattle.ticks.specs.declared.walk.WalkMoment.{WalkMoment}
use Rattle.promql_meaning.specs.Selecting.{lookback}
use Rattle.series_marks.specs.Spent.{reads_all, reads_end, reads_left_at, searches_all, searches_left}
use Rattle.step_batch.specs.Lent.{stages}
use Rattle.step_table.specs.Timed.{StepAt}
use Rattle.op_select.specs.Newest.{selected}
use Rattle.op_select.proofs.Lefts.{follow_left, instants_left, lent_left, reach_left}
use Rattle.op_select.proofs.Picks.{picks_next}
use Rattle.op_select.proofs.select.Select.feed.Goals as goal

pub returns-in_err-make_ready-clause-fetched : goal.returns-in_err-make_ready-clause-fetched
returns-in_err-make_ready-clause-fetched g c =
    let h = reads_all lookback c.args.store.now c.args.self.now.series c.args.self.now.reached c.args.self.now.moment c.args.at.now c.requires.follow in
    omega arith

pub returns-in_err-make_ready-clause-probed : goal.returns-in_err-make_ready-clause-probed
returns-in_err-make_ready-clause-probed g c =
    let h = searches_all lookback c.args.self.now.series c.args.self.now.reached c.args.self.now.moment c.args.at.now in
    omega arith

pub step-requires-clause-rises : goal.step-requires-clause-rises
step-requires-clause-rises g c = all_rise c.args.store.now c.series.ensures.rising

pub returns-in_err-step-clause-fetched : goal.returns-in_err-step-clause-fetched
returns-in_err-step-clause-fetched g c =
    let i = c.loop-t.invariant in
    reads_left_at lookback c.args.store.now c.args.self.now.series c.loop-t.self.series c.args.self.now.reached c.loop-t.self.reached _ c.args.self.now.moment c.loop-t.self.moment c.args.at.now c.loop-t.t-index (record { 0 = pos 0 }) c.step.new.work.fetched c.loop-t.work.fetched c.args.work.now.fetched
    i.series i.moment c.loop-t-test.true i.follow i.reached i.fetched c.step.ensures.fetched

pub returns-in_err-step-clause-probed : goal.returns-in_err-step-clause-probed
returns-in_err-step-clause-probed g c =
    let i = c.loop-t.invariant in
    searches_left lookback c.args.self.now.series c.loop-t.self.series c.args.self.now.reached c.loop-t.self.reached _ c.args.self.now.moment c.loop-t.self.moment c.args.at.now c.loop-t.t-index (record { 0 = pos 0 }) c.step.new.work.probed c.loop-t.work.probed c.args.work.now.probed
    i.series i.moment c.loop-t-test.true i.reached i.probed c.step.ensures.probed

pub returns-clause-fetched : goal.returns-clause-fetched
returns-clause-fetched g c =
    let i = c.loop-t.invariant in
    reads_end lookback c.args.store.now c.args.self.now.series c.args.self.now.reached c.loop-t.self.reached c.args.self.now.moment c.args.at.now (drop c.loop-t.t-index c.args.at.now) c.loop-t.work.fetched c.args.work.now.fetched
    (drop_all _ _ c.loop-t-test.false) i.reached i.fetched

pub loop-t-preserved : goal.loop-t-preserved
loop-t-preserved g c =
    let i = c.loop-t.invariant in
    let k = c.args.self.now in
    let l = c.loop-t.self in
    let n = c.loop-t.t-index in
    let at = c.args.at.now in
    let store = c.args.store.now in
    let none : Ms = record { 0 = pos 0 } in
    let t : Ms = get_or at n none in
    let new = c.step.new.self in
    let s = c.in_ok-step.ensures in
    let more = c.loop-t-test.true in
    let on : new.reached ≡ reach lookback l.reached k.moment t = s.reached ∙ ap (λ (m : WalkMoment). reach lookback l.reached m t) i.moment in
    let sel : Ms → StepAt = selected store k.series k.moment k.stamped in
    let same : selected store l.series l.moment l.stamped t ≡ sel t =
    ap (λ (xs : List ℕ). selected store xs l.moment l.stamped t) i.series ∙ ap (λ (m : WalkMoment). selected store k.series m l.stamped t) i.moment ∙ ap (λ (b : Bool). selected store k.series k.moment b t) i.stamped in
    record {
      series = search rules;
      moment = search rules;
      stamped = search rules;
      reached = ap (λ (r : Reached). reach_all lookback r k.moment (drop (n + 1) at)) on ∙ reach_left lookback l.reached k.moment at n none more ∙ i.reached;
      marks = search rules;
      labels = search rules;
      edge = search rules;
      follow = subst (λ (r : Reached). Follow lookback r k.moment (drop (n + 1) at)) (sym on) (follow_left lookback l.reached k.moment at n none more i.follow);
      instants = instants_left l.buffer new.buffer at n none more i.instants s.later;
      lent = lent_left sel (stages l.buffer) (stages new.buffer) (map sel at) at n none more (s.lent ∙ ap (λ (x : StepAt). stages l.buffer ++ x ∷ []) same) i.lent;
      fetched = search rules;
      begins = λ first b. subst (λ (r : Reached). BeginsWith first r k.moment (drop (n + 1) at)) (sym on) (begins_next lookback first l.reached k.moment at n none more i.follow (i.begins first b));
      counted = λ first b.
          picks_next c.args.store.now k.series l.series first k.reached l.reached new.reached k.moment l.moment t c.step.new.work.fetched c.loop-t.work.fetched c.args.work.now.fetched i.series i.moment s.reached
          (begins_at first l.reached k.moment at n none more (i.begins first b)) (i.counted first b) s.counted;
      probed = search rules;
      tested = search rules;
    }

pub returns-clause-counted : goal.returns-clause-counted
returns-clause-counted g c = λ first b.
    let i = c.loop-t.invariant in
    let k = c.args.self.now in
    let l = c.loop-t.self in
    let is : l.reached ≡ reach_all lookback k.reached k.moment c.args.at.now = sym (ap (reach_all lookback l.reached k.moment) (drop_all _ _ c.loop-t-test.false)) ∙ i.reached in
    subst (λ (r : Reached). c.loop-t.work.fetched + picks_of first k.reached c.args.store.now k.series ≡ c.args.work.now.fetched + picks_of first r c.args.store.now k.series) is (i.counted first b)
