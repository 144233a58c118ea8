use Rattle.std.proofs.Common.{◌≡◌, ◌∙◌, ℕ, List, [], ◌∷◌, ◌++◌, ◌+◌, ◌<◌, get_or, length, Option, Some, refl, sym, ap, subst, arith}
use Rattle.std.specs.Prelude.{ℤ, pos, ◌||◌}
use Rattle.std.specs.List.{AllByRecursion}
use Rattle.op_labels.specs.Rules.{Kept}
use Rattle.op_window.specs.Rules.{takes_scalar as reads_scalar, windows_of_series}
use Rattle.promql_meaning.specs.Selecting.{lookback}
use Rattle.remote_api.specs.declared.asks.Ask.{Ask}
use Rattle.step_batch.specs.Lent.{Lent, stages}
use Rattle.step_kernels.specs.Unaries.{CanFeedUnary, unary_rule, unary_step}
use Rattle.step_table.specs.Timed.{steps_over}
use Rattle.subquery_rows.specs.Rings.{IsAsked, IsNextAfter, Stands, windows_of_points}
use Rattle.ticks.specs.Listed.{IsListed}
use Rattle.ticks.specs.Walks.{HasTimes, IsTime, moment_at}
use Rattle.ticks.specs.declared.moment.Ms.{Ms}
use Rattle.ticks.specs.declared.walk.Walk.{Walk}
use Rattle.ticks.specs.declared.walk.WalkMoment.{WalkMoment}
use Rattle.plan_tree.specs.declared.node.Node.{Node}
use Rattle.plan_tree.specs.declared.turns.Fed.{Fed}
use Rattle.plan_tree.specs.Counting.{fetched_by, leaf_picked}
use Rattle.plan_tree.specs.Feeding.{CanFeed}
use Rattle.plan_tree.specs.Feeds.{Goes, fed_on, last_of, once, reached_of}
use Rattle.plan_tree.specs.Gathering.{AsksWindows, CanTake, HasCome, HaveCome}
use Rattle.plan_tree.specs.Nodes.{AreGiven, CanGo, CanPass, IsThere, lent_by, rules_of, shape_of, windows_at}
use Rattle.plan_tree.specs.Shapes.{GatherOf, IsAskedOn, Shape, StaysInTimes, is_single, places_of, rule}
use Rattle.plan_tree.specs.Spending.{HasRead, IsAlong, IsSum, LeafMayRead, MayRead, leaf_read, nothing}
use Rattle.plan_tree.specs.Worlds.{world}
use Rattle.series_marks.specs.Reaches.{reads_of}
use Rattle.plan_tree.proofs.Advances.{come_next, next_takes, takes_as}
use Rattle.plan_tree.proofs.Counted.{counted_as, counted_self, counts_more, once_begun, once_counts, once_same, part_counts, select_counts, series_counts, two_counts}
use Rattle.plan_tree.proofs.Filling.{Fills, feed_kept, fill_feeds, fill_given, fill_has, fill_step, filled_behind, fills_more, fills_none, gather_made, gather_takes, labels_stay, once_repeats, points_fill, repeat_given, repeat_has, repeat_made, repeat_may, repeat_stays}
use Rattle.plan_tree.proofs.Going.{at_some, goes_rise, once_end}
use Rattle.plan_tree.proofs.Heights.{height}
use Rattle.plan_tree.proofs.Joins.{windows_given}
use Rattle.plan_tree.proofs.Kept.{Agree, Stay, agree_left, agree_right, agree_then, can_kept, come_kept, come_there, first_agrees, others_agree, second_agrees, stay_both, stay_left, stay_next, stay_rest}
use Rattle.plan_tree.proofs.Leaves.{instants_are, on_ok, select_follows, select_on, series_fed, series_on}
use Rattle.plan_tree.proofs.Numbers.{among_one, distinct_left, distinct_right, get_within}
use Rattle.plan_tree.proofs.Parts.{all_weaker, as_tree, come_made, fed_as, fed_given, kept_steps, next_fed, or_left, or_right, part_fed, part_has, read_lending, read_scalar, read_steps, read_there, stay_as, stay_more, stay_self}
use Rattle.plan_tree.proofs.Possible.{completed, completed_are, grown_none, grown_then, possible_before}
use Rattle.plan_tree.proofs.Repeats.{repeated_end}
use Rattle.plan_tree.proofs.Rings.{last_end, last_next, one_at, points_over}
use Rattle.plan_tree.proofs.Runs.{done, done_none, kernel_runs, memory_behind, on_both, on_five, own_behind, ran, run_done, run_fault, run_ok_as, run_then}
use Rattle.plan_tree.proofs.Spent.{Filled, failed_as, fed_once, fill_fails, fill_made, fill_waits, filled_end, filled_fails, filled_more, filled_none, leaf_spends, leaf_unread, made_as, once_fails, once_feeds, once_made, once_stays, part_fails, part_made, part_spends, stays_made, sum_fails, sum_made, three_fail, three_made, two_fail, two_made, unread, up_to_on}
use Rattle.plan_tree.proofs.Windowed.{are_given, there_at, windows_are, windows_over}
use Rattle.plan_tree.proofs.node.+running.Goals as goal

pub Node::feed-feed-requires : goal.Node::feed-feed-requires
Node::feed-feed-requires g t c =
    goes_rise c.args.fed c.args.at.now c.requires.goes

pub Node::feed-returns-in-Instants-clause-fed : goal.Node::feed-returns-in-Instants-clause-fed
Node::feed-returns-in-Instants-clause-fed g t c =
    let S = c.args.store.now in
    let K = c.args.patterns.now in
    let at = c.args.at.now in
    let fed = c.args.fed in
    let P = (g.O.Outside.places c.args.outside.now) in
    let k = c.in-Instants.kernel in
    ran c.feed.result c.or_memory.result c.or_memory.ensures c.feed.ensures.lent (λ e. fed_as S K _ _ P P fed at c.args.self.now _ _ c.in-Instants.is (λ c0. record {
      taken = c0.goes_on.taken;
      grown = grown_none c0.goes_on.taken;
      out = c0.goes_on.out;
      lent = λ g p. e ∙ instants_are k.rule at (stages c.lend.result) c0.goes_on.fit;
      can = λ g p. tt;
      come = tt;
    }))

pub Node::feed-returns-in-Instants-clause-run : goal.Node::feed-returns-in-Instants-clause-run
Node::feed-returns-in-Instants-clause-run g t c =
    kernel_runs c.feed.result c.or_memory.result _ c.or_memory.ensures

pub Node::feed-feed-requires-in-Select-clause-follow : goal.Node::feed-feed-requires-in-Select-clause-follow
Node::feed-feed-requires-in-Select-clause-follow g t c =
    let S = c.args.store.now in
    let K = c.args.patterns.now in
    let at = c.args.at.now in
    let fed = c.args.fed in
    let P = (g.O.Outside.places c.args.outside.now) in
    let own = as_tree S K _ P fed at c.args.self.now _ c.in-Select.is c.requires in
    let pp = completed_are own.goes_on.all own.goes_on.known own.goes_on.taken K _ P own.goes_on.out in
    select_follows S fed c.in-Select.kernel at (own.goes_on.can (completed own.goes_on.taken) pp) own.goes own.stays

pub Node::feed-feed-requires-in-Select-clause-marks : goal.Node::feed-feed-requires-in-Select-clause-marks
Node::feed-feed-requires-in-Select-clause-marks g t c =
    let S = c.args.store.now in
    let K = c.args.patterns.now in
    let at = c.args.at.now in
    let fed = c.args.fed in
    let P = (g.O.Outside.places c.args.outside.now) in
    let own = as_tree S K _ P fed at c.args.self.now _ c.in-Select.is c.requires in
    let pp = completed_are own.goes_on.all own.goes_on.known own.goes_on.taken K _ P own.goes_on.out in
    (own.goes_on.can (completed own.goes_on.taken) pp).marks

pub Node::feed-feed-requires-in-Select-clause-labels : goal.Node::feed-feed-requires-in-Select-clause-labels
Node::feed-feed-requires-in-Select-clause-labels g t c =
    let S = c.args.store.now in
    let K = c.args.patterns.now in
    let at = c.args.at.now in
    let fed = c.args.fed in
    let P = (g.O.Outside.places c.args.outside.now) in
    let own = as_tree S K _ P fed at c.args.self.now _ c.in-Select.is c.requires in
    let pp = completed_are own.goes_on.all own.goes_on.known own.goes_on.taken K _ P own.goes_on.out in
    (own.goes_on.can (completed own.goes_on.taken) pp).labels

pub Node::feed-feed-requires-in-Select-clause-reached : goal.Node::feed-feed-requires-in-Select-clause-reached
Node::feed-feed-requires-in-Select-clause-reached g t c =
    let S = c.args.store.now in
    let K = c.args.patterns.now in
    let at = c.args.at.now in
    let fed = c.args.fed in
    let P = (g.O.Outside.places c.args.outside.now) in
    let own = as_tree S K _ P fed at c.args.self.now _ c.in-Select.is c.requires in
    let pp = completed_are own.goes_on.all own.goes_on.known own.goes_on.taken K _ P own.goes_on.out in
    (own.goes_on.can (completed own.goes_on.taken) pp).edge

pub Node::feed-feed-requires-in-Select-clause-instants : goal.Node::feed-feed-requires-in-Select-clause-instants
Node::feed-feed-requires-in-Select-clause-instants g t c =
    goes_rise c.args.fed c.args.at.now c.requires.goes

pub Node::feed-returns-in-Select-clause-fed : goal.Node::feed-returns-in-Select-clause-fed
Node::feed-returns-in-Select-clause-fed g t c =
    let S = c.args.store.now in
    let K = c.args.patterns.now in
    let at = c.args.at.now in
    let fed = c.args.fed in
    let P = (g.O.Outside.places c.args.outside.now) in
    let k = c.in-Select.kernel in
    let new = c.feed-in-Select.new.self in
    let made = c.feed-in-Select.result in
    let e = c.feed-in-Select.ensures in
    ran made c.or_memory-in-Select.result c.or_memory-in-Select.ensures (on_five _ _ _ _ _ made e.lent e.reached e.marks e.labels e.edge)
    (λ f. fed_as S K _ _ P P fed at c.args.self.now _ _ c.in-Select.is (λ c0. record {
      taken = c0.goes_on.taken;
      grown = grown_none c0.goes_on.taken;
      out = c0.goes_on.out;
      lent = λ g p. f.0;
      can = λ g p. select_on S fed k new at (c0.goes_on.can g p) e.series e.moment f.1 f.2 f.3 f.4;
      come = tt;
    }))

pub Node::feed-returns-in-Select-clause-run : goal.Node::feed-returns-in-Select-clause-run
Node::feed-returns-in-Select-clause-run g t c =
    kernel_runs c.feed-in-Select.result c.or_memory-in-Select.result _ c.or_memory-in-Select.ensures

pub Node::feed-feed-requires-in-Series : goal.Node::feed-feed-requires-in-Series
Node::feed-feed-requires-in-Series g t c κs within =
    let S = c.args.store.now in
    let K = c.args.patterns.now in
    let at = c.args.at.now in
    let fed = c.args.fed in
    let P = (g.O.Outside.places c.args.outside.now) in
    let own = as_tree S K _ P fed at c.args.self.now _ c.in-Series.is c.requires in
    let scalar = c.in-Series.scalar.value in
    let f0 = part_fed S K _ P fed at _ scalar own (λ f. f.3) (λ w h. h.1) (λ all ts h. h) (λ t s. s.2) (λ h. h) (λ d. d) in
    let whole = ap (λ (n : Node). height (shape_of n)) c.in-Series.is in
    let part = ap (λ (n : Node). height (shape_of n)) c.deref_mut.ensures.value in
    (omega (arith, c.decreases, whole, part), (within.0, (within.1, fed_given S K _ P fed at K scalar c.deref_mut.result.now c.deref_mut.ensures.value (refl) f0)))

pub Node::feed-series_fed-requires-clause-there : goal.Node::feed-series_fed-requires-clause-there
Node::feed-series_fed-requires-clause-there g t c =
    let S = c.args.store.now in
    let K = c.args.patterns.now in
    let at = c.args.at.now in
    let fed = c.args.fed in
    let P = (g.O.Outside.places c.args.outside.now) in
    let own = as_tree S K _ P fed at c.args.self.now _ c.in-Series.is c.requires in
    let scalar = c.in-Series.scalar.value in
    let f0 = part_fed S K _ P fed at _ scalar own (λ f. f.3) (λ w h. h.1) (λ all ts h. h) (λ t s. s.2) (λ h. h) (λ d. d) in
    let h0 = part_has S K K _ _ P (g.O.Outside.places c.feed-in-Series.new.outside) fed at scalar c.deref_mut.result.now c.feed-in-Series.new.self c.deref_mut.ensures.value refl c.in_ok-feed-in-Series.ensures.fed c.feed-in-Series.ensures.shape c.feed-in-Series.ensures.others in
    let m0 = h0.has f0 in
    read_there (g.O.Outside.places c.feed-in-Series.new.outside) c.feed-in-Series.new.self c.deref.result.now c.deref.ensures (come_there own.goes_on.all (g.O.Outside.places c.feed-in-Series.new.outside) own.times (fed_on fed at) c.feed-in-Series.new.self m0.come)

pub Node::feed-series_fed-requires-clause-lends : goal.Node::feed-series_fed-requires-clause-lends
Node::feed-series_fed-requires-clause-lends g t c =
    let S = c.args.store.now in
    let K = c.args.patterns.now in
    let at = c.args.at.now in
    let fed = c.args.fed in
    let P = (g.O.Outside.places c.args.outside.now) in
    let own = as_tree S K _ P fed at c.args.self.now _ c.in-Series.is c.requires in
    let scalar = c.in-Series.scalar.value in
    let f0 = part_fed S K _ P fed at _ scalar own (λ f. f.3) (λ w h. h.1) (λ all ts h. h) (λ t s. s.2) (λ h. h) (λ d. d) in
    let h0 = part_has S K K _ _ P (g.O.Outside.places c.feed-in-Series.new.outside) fed at scalar c.deref_mut.result.now c.feed-in-Series.new.self c.deref_mut.ensures.value refl c.in_ok-feed-in-Series.ensures.fed c.feed-in-Series.ensures.shape c.feed-in-Series.ensures.others in
    let m0 = h0.has f0 in
    let gg = completed m0.taken in
    let pp = completed_are own.goes_on.all own.goes_on.known m0.taken K _ (g.O.Outside.places c.feed-in-Series.new.outside) m0.out in
    read_lending (world S gg) K at (g.O.Outside.places c.feed-in-Series.new.outside) scalar c.feed-in-Series.new.self c.deref.result.now h0.shape c.deref.ensures (m0.lent gg pp)

pub Node::feed-series_fed-requires-clause-scalar : goal.Node::feed-series_fed-requires-clause-scalar
Node::feed-series_fed-requires-clause-scalar g t c =
    let S = c.args.store.now in
    let K = c.args.patterns.now in
    let at = c.args.at.now in
    let fed = c.args.fed in
    let P = (g.O.Outside.places c.args.outside.now) in
    let own = as_tree S K _ P fed at c.args.self.now _ c.in-Series.is c.requires in
    let scalar = c.in-Series.scalar.value in
    let f0 = part_fed S K _ P fed at _ scalar own (λ f. f.3) (λ w h. h.1) (λ all ts h. h) (λ t s. s.2) (λ h. h) (λ d. d) in
    let h0 = part_has S K K _ _ P (g.O.Outside.places c.feed-in-Series.new.outside) fed at scalar c.deref_mut.result.now c.feed-in-Series.new.self c.deref_mut.ensures.value refl c.in_ok-feed-in-Series.ensures.fed c.feed-in-Series.ensures.shape c.feed-in-Series.ensures.others in
    let m0 = h0.has f0 in
    let gg = completed m0.taken in
    let pp = completed_are own.goes_on.all own.goes_on.known m0.taken K _ (g.O.Outside.places c.feed-in-Series.new.outside) m0.out in
    λ h. read_scalar scalar c.feed-in-Series.new.self c.deref.result.now h0.shape c.deref.ensures (own.goes_on.fit.2 h)

pub Node::feed-series_fed-requires-clause-fed : goal.Node::feed-series_fed-requires-clause-fed
Node::feed-series_fed-requires-clause-fed g t c =
    let S = c.args.store.now in
    let K = c.args.patterns.now in
    let at = c.args.at.now in
    let fed = c.args.fed in
    let P = (g.O.Outside.places c.args.outside.now) in
    let own = as_tree S K _ P fed at c.args.self.now _ c.in-Series.is c.requires in
    let scalar = c.in-Series.scalar.value in
    let k = c.in-Series.kernel in
    let kp = completed_are own.goes_on.all own.goes_on.known own.goes_on.taken K _ P own.goes_on.out in
    let goes = (own.goes_on.can (completed own.goes_on.taken) kp).0 in
    λ arg scalars. series_fed S fed k at arg goes own.goes_on.fit.0 own.goes_on.fit.1 own.goes
    (all_weaker (λ (t : Ms). IsTime t.0 × HasTimes (moment_at k.moment t.0) k.range.0 × StaysInTimes (shape_of scalar) t.0) (λ (t : Ms). HasTimes (moment_at k.moment t.0) k.range.0) at (λ t s. s.1) own.stays)
    (all_weaker (λ (t : Ms). IsTime t.0 × HasTimes (moment_at k.moment t.0) k.range.0 × StaysInTimes (shape_of scalar) t.0) (λ (t : Ms). IsTime t.0) at (λ t s. s.0) own.stays)
    scalars

pub Node::feed-returns-in_err-feed-in-Series-clause-others : goal.Node::feed-returns-in_err-feed-in-Series-clause-others
Node::feed-returns-in_err-feed-in-Series-clause-others g t c =
    let P = (g.O.Outside.places c.args.outside.now) in
    let scalar = c.in-Series.scalar.value in
    let s0 = stay_as P (g.O.Outside.places c.feed-in-Series.new.outside) scalar c.deref_mut.result.now c.deref_mut.ensures.value c.feed-in-Series.ensures.others in
    stay_self P (g.O.Outside.places c.feed-in-Series.new.outside) c.args.self.now _ c.in-Series.is (s0)

pub Node::feed-returns-in_err-feed-in-Series-clause-run : goal.Node::feed-returns-in_err-feed-in-Series-clause-run
Node::feed-returns-in_err-feed-in-Series-clause-run g t c =
    run_fault _ c.from_residual.result _ _ c.from_residual.ensures.1 c.in_err-feed-in-Series.ensures.run

pub Node::feed-returns-in_ok-feed-in-Series-clause-others : goal.Node::feed-returns-in_ok-feed-in-Series-clause-others
Node::feed-returns-in_ok-feed-in-Series-clause-others g t c =
    let P = (g.O.Outside.places c.args.outside.now) in
    let scalar = c.in-Series.scalar.value in
    let s0 = stay_as P (g.O.Outside.places c.feed-in-Series.new.outside) scalar c.deref_mut.result.now c.deref_mut.ensures.value c.feed-in-Series.ensures.others in
    stay_self P (g.O.Outside.places c.feed-in-Series.new.outside) c.args.self.now _ c.in-Series.is (s0)

pub Node::feed-returns-in_ok-feed-in-Series-clause-run : goal.Node::feed-returns-in_ok-feed-in-Series-clause-run
Node::feed-returns-in_ok-feed-in-Series-clause-run g t c =
    own_behind _ c.series_fed.result _ _ c.series_fed.ensures.memory c.in_ok-feed-in-Series.ensures.run

pub Node::feed-returns-in_ok-feed-in-Series-clause-fed : goal.Node::feed-returns-in_ok-feed-in-Series-clause-fed
Node::feed-returns-in_ok-feed-in-Series-clause-fed g t c =
    let S = c.args.store.now in
    let K = c.args.patterns.now in
    let at = c.args.at.now in
    let fed = c.args.fed in
    let P = (g.O.Outside.places c.args.outside.now) in
    let scalar = c.in-Series.scalar.value in
    on_ok c.series_fed.result (on_both _ _ c.series_fed.result c.series_fed.ensures.lent c.series_fed.ensures.reached) (λ f. fed_as S K _ _ P (g.O.Outside.places c.feed-in-Series.new.outside) fed at c.args.self.now _ _ c.in-Series.is (λ c0.
    let f0 = part_fed S K _ P fed at _ scalar c0 (λ f. f.3) (λ w h. h.1) (λ all ts h. h) (λ t s. s.2) (λ h. h) (λ d. d) in
    let h0 = part_has S K K _ _ P (g.O.Outside.places c.feed-in-Series.new.outside) fed at scalar c.deref_mut.result.now c.feed-in-Series.new.self c.deref_mut.ensures.value refl c.in_ok-feed-in-Series.ensures.fed c.feed-in-Series.ensures.shape c.feed-in-Series.ensures.others in
    let m0 = h0.has f0 in
    let k = c.in-Series.kernel in
    let e = c.series_fed.ensures in
    record {
      taken = m0.taken;
      grown = m0.grown;
      out = m0.out;
      lent = λ gg pp. f.0 (rule (world S gg) K (shape_of scalar)) (read_steps (g.O.Outside.places c.feed-in-Series.new.outside) c.feed-in-Series.new.self c.deref.result.now _ c.deref.ensures (m0.lent gg pp));
      can = λ gg pp. (series_on S fed k c.series_fed.new.kernel at (c0.goes_on.can gg (possible_before c0.goes_on.taken m0.taken gg m0.grown pp)).0 e.series e.moment e.range f.1, m0.can gg pp);
      come = m0.come;
    }))

pub Node::feed-feed-requires-in-Unary : goal.Node::feed-feed-requires-in-Unary
Node::feed-feed-requires-in-Unary g t c κs within =
    let S = c.args.store.now in
    let K = c.args.patterns.now in
    let at = c.args.at.now in
    let fed = c.args.fed in
    let P = (g.O.Outside.places c.args.outside.now) in
    let own = as_tree S K _ P fed at c.args.self.now _ c.in-Unary.is c.requires in
    let rows = c.in-Unary.rows.value in
    let f0 = part_fed S K _ P fed at _ rows own (λ f. f) (λ w h. h.1) (λ all ts h. h) (λ t s. s) (λ h. h) (λ d. d) in
    let whole = ap (λ (n : Node). height (shape_of n)) c.in-Unary.is in
    let part = ap (λ (n : Node). height (shape_of n)) c.deref_mut-in-Unary.ensures.value in
    (omega (arith, c.decreases, whole, part), (within.0, (within.1, fed_given S K _ P fed at K rows c.deref_mut-in-Unary.result.now c.deref_mut-in-Unary.ensures.value (refl) f0)))

pub Node::feed-unary_fed-requires-clause-there : goal.Node::feed-unary_fed-requires-clause-there
Node::feed-unary_fed-requires-clause-there g t c =
    let S = c.args.store.now in
    let K = c.args.patterns.now in
    let at = c.args.at.now in
    let fed = c.args.fed in
    let P = (g.O.Outside.places c.args.outside.now) in
    let own = as_tree S K _ P fed at c.args.self.now _ c.in-Unary.is c.requires in
    let rows = c.in-Unary.rows.value in
    let f0 = part_fed S K _ P fed at _ rows own (λ f. f) (λ w h. h.1) (λ all ts h. h) (λ t s. s) (λ h. h) (λ d. d) in
    let h0 = part_has S K K _ _ P (g.O.Outside.places c.feed-in-Unary.new.outside) fed at rows c.deref_mut-in-Unary.result.now c.feed-in-Unary.new.self c.deref_mut-in-Unary.ensures.value refl c.in_ok-feed-in-Unary.ensures.fed c.feed-in-Unary.ensures.shape c.feed-in-Unary.ensures.others in
    let m0 = h0.has f0 in
    read_there (g.O.Outside.places c.feed-in-Unary.new.outside) c.feed-in-Unary.new.self c.deref-in-Unary.result.now c.deref-in-Unary.ensures (come_there own.goes_on.all (g.O.Outside.places c.feed-in-Unary.new.outside) own.times (fed_on fed at) c.feed-in-Unary.new.self m0.come)

pub Node::feed-unary_fed-requires-clause-can : goal.Node::feed-unary_fed-requires-clause-can
Node::feed-unary_fed-requires-clause-can g t c =
    let S = c.args.store.now in
    let K = c.args.patterns.now in
    let at = c.args.at.now in
    let fed = c.args.fed in
    let P = (g.O.Outside.places c.args.outside.now) in
    let own = as_tree S K _ P fed at c.args.self.now _ c.in-Unary.is c.requires in
    let kp = completed_are own.goes_on.all own.goes_on.known own.goes_on.taken K _ P own.goes_on.out in
    subst (λ (x : Kept). CanFeedUnary x c.in-Unary.kernel) (sym c.feed-in-Unary.ensures.same) (own.goes_on.can (completed own.goes_on.taken) kp).0

pub Node::feed-returns-in_err-feed-in-Unary-clause-others : goal.Node::feed-returns-in_err-feed-in-Unary-clause-others
Node::feed-returns-in_err-feed-in-Unary-clause-others g t c =
    let P = (g.O.Outside.places c.args.outside.now) in
    let rows = c.in-Unary.rows.value in
    let s0 = stay_as P (g.O.Outside.places c.feed-in-Unary.new.outside) rows c.deref_mut-in-Unary.result.now c.deref_mut-in-Unary.ensures.value c.feed-in-Unary.ensures.others in
    stay_self P (g.O.Outside.places c.feed-in-Unary.new.outside) c.args.self.now _ c.in-Unary.is (s0)

pub Node::feed-returns-in_err-feed-in-Unary-clause-run : goal.Node::feed-returns-in_err-feed-in-Unary-clause-run
Node::feed-returns-in_err-feed-in-Unary-clause-run g t c =
    run_fault _ c.from_residual-in_err-feed-in-Unary.result _ _ c.from_residual-in_err-feed-in-Unary.ensures.1 c.in_err-feed-in-Unary.ensures.run

pub Node::feed-returns-in_ok-feed-in-Unary-clause-others : goal.Node::feed-returns-in_ok-feed-in-Unary-clause-others
Node::feed-returns-in_ok-feed-in-Unary-clause-others g t c =
    let P = (g.O.Outside.places c.args.outside.now) in
    let rows = c.in-Unary.rows.value in
    let s0 = stay_as P (g.O.Outside.places c.feed-in-Unary.new.outside) rows c.deref_mut-in-Unary.result.now c.deref_mut-in-Unary.ensures.value c.feed-in-Unary.ensures.others in
    stay_self P (g.O.Outside.places c.feed-in-Unary.new.outside) c.args.self.now _ c.in-Unary.is (s0)

pub Node::feed-returns-in_ok-feed-in-Unary-clause-run : goal.Node::feed-returns-in_ok-feed-in-Unary-clause-run
Node::feed-returns-in_ok-feed-in-Unary-clause-run g t c =
    own_behind _ c.unary_fed.result _ _ c.unary_fed.ensures.memory c.in_ok-feed-in-Unary.ensures.run

pub Node::feed-returns-in_ok-feed-in-Unary-clause-fed : goal.Node::feed-returns-in_ok-feed-in-Unary-clause-fed
Node::feed-returns-in_ok-feed-in-Unary-clause-fed g t c =
    let S = c.args.store.now in
    let K = c.args.patterns.now in
    let at = c.args.at.now in
    let fed = c.args.fed in
    let P = (g.O.Outside.places c.args.outside.now) in
    let rows = c.in-Unary.rows.value in
    on_ok c.unary_fed.result (c.unary_fed.ensures.lent) (λ f. fed_as S K _ _ P (g.O.Outside.places c.feed-in-Unary.new.outside) fed at c.args.self.now _ _ c.in-Unary.is (λ c0.
    let f0 = part_fed S K _ P fed at _ rows c0 (λ f. f) (λ w h. h.1) (λ all ts h. h) (λ t s. s) (λ h. h) (λ d. d) in
    let h0 = part_has S K K _ _ P (g.O.Outside.places c.feed-in-Unary.new.outside) fed at rows c.deref_mut-in-Unary.result.now c.feed-in-Unary.new.self c.deref_mut-in-Unary.ensures.value refl c.in_ok-feed-in-Unary.ensures.fed c.feed-in-Unary.ensures.shape c.feed-in-Unary.ensures.others in
    let m0 = h0.has f0 in
    record {
      taken = m0.taken;
      grown = m0.grown;
      out = m0.out;
      lent = λ gg pp. f (rule (world S gg) K (shape_of rows)) at (read_steps (g.O.Outside.places c.feed-in-Unary.new.outside) c.feed-in-Unary.new.self c.deref-in-Unary.result.now _ c.deref-in-Unary.ensures (m0.lent gg pp))
          ∙ ap (λ (x : Kept). steps_over (λ u. unary_step x (unary_rule c.in-Unary.kernel) u ((rule (world S gg) K (shape_of rows)) u)) at) c.feed-in-Unary.ensures.same;
      can = λ gg pp. (subst (λ (x : Kept). CanFeedUnary x c.unary_fed.new.kernel) c.feed-in-Unary.ensures.same c.unary_fed.ensures.can, m0.can gg pp);
      come = m0.come;
    }))

pub Node::feed-feed-requires-in-Binary : goal.Node::feed-feed-requires-in-Binary
Node::feed-feed-requires-in-Binary g t c κs within =
    let S = c.args.store.now in
    let K = c.args.patterns.now in
    let at = c.args.at.now in
    let fed = c.args.fed in
    let P = (g.O.Outside.places c.args.outside.now) in
    let own = as_tree S K _ P fed at c.args.self.now _ c.in-Binary.is c.requires in
    let rows = c.in-Binary.rows.value in
    let beside = c.in-Binary.beside.value in
    let xs = places_of (shape_of rows) in
    let ys = places_of (shape_of beside) in
    let f0 = part_fed S K _ P fed at _ rows own (λ f. f.1) (λ w h. h.0) (λ all ts h. h.0) (λ t s. s.0) (λ h. or_left (is_single (shape_of rows)) (is_single (shape_of beside)) h) (λ d. distinct_left xs ys d) in
    let whole = ap (λ (n : Node). height (shape_of n)) c.in-Binary.is in
    let part = ap (λ (n : Node). height (shape_of n)) c.deref_mut-in-Binary.ensures.value in
    (omega (arith, c.decreases, whole, part), (within.0, (within.1, fed_given S K _ P fed at K rows c.deref_mut-in-Binary.result.now c.deref_mut-in-Binary.ensures.value (refl) f0)))

pub Node::feed-feed-requires-in-Binary-2 : goal.Node::feed-feed-requires-in-Binary-2
Node::feed-feed-requires-in-Binary-2 g t c κs within =
    let S = c.args.store.now in
    let K = c.args.patterns.now in
    let at = c.args.at.now in
    let fed = c.args.fed in
    let P = (g.O.Outside.places c.args.outside.now) in
    let own = as_tree S K _ P fed at c.args.self.now _ c.in-Binary.is c.requires in
    let rows = c.in-Binary.rows.value in
    let beside = c.in-Binary.beside.value in
    let xs = places_of (shape_of rows) in
    let ys = places_of (shape_of beside) in
    let f0 = part_fed S K _ P fed at _ rows own (λ f. f.1) (λ w h. h.0) (λ all ts h. h.0) (λ t s. s.0) (λ h. or_left (is_single (shape_of rows)) (is_single (shape_of beside)) h) (λ d. distinct_left xs ys d) in
    let h0 = part_has S K K _ _ P (g.O.Outside.places c.feed-in-Binary.new.outside) fed at rows c.deref_mut-in-Binary.result.now c.feed-in-Binary.new.self c.deref_mut-in-Binary.ensures.value refl c.in_ok-feed-in-Binary.ensures.fed c.feed-in-Binary.ensures.shape c.feed-in-Binary.ensures.others in
    let m0 = h0.has f0 in
    let p1 = part_fed S K _ P fed at _ beside own (λ f. f.2) (λ w h. h.1) (λ all ts h. h.1) (λ t s. s.1) (λ h. or_right (is_single (shape_of rows)) (is_single (shape_of beside)) h) (λ d. distinct_right xs ys d) in
    let f1 = next_fed S K _ P fed at _ (g.O.Outside.places c.feed-in-Binary.new.outside) beside p1 m0.taken (m0.grown) m0.out (second_agrees xs ys P (g.O.Outside.places c.feed-in-Binary.new.outside) own.goes_on.apart h0.stay) in
    let whole = ap (λ (n : Node). height (shape_of n)) c.in-Binary.is in
    let part = ap (λ (n : Node). height (shape_of n)) c.deref_mut-in-Binary-2.ensures.value in
    (omega (arith, c.decreases, whole, part), (within.0, (within.1, fed_given S K _ (g.O.Outside.places c.feed-in-Binary.new.outside) fed at c.feed-in-Binary.new.patterns beside c.deref_mut-in-Binary-2.result.now c.deref_mut-in-Binary-2.ensures.value (c.feed-in-Binary.ensures.same) f1)))

pub Node::feed-binary_fed-requires-clause-rows : goal.Node::feed-binary_fed-requires-clause-rows
Node::feed-binary_fed-requires-clause-rows g t c =
    let S = c.args.store.now in
    let K = c.args.patterns.now in
    let at = c.args.at.now in
    let fed = c.args.fed in
    let P = (g.O.Outside.places c.args.outside.now) in
    let own = as_tree S K _ P fed at c.args.self.now _ c.in-Binary.is c.requires in
    let rows = c.in-Binary.rows.value in
    let beside = c.in-Binary.beside.value in
    let xs = places_of (shape_of rows) in
    let ys = places_of (shape_of beside) in
    let f0 = part_fed S K _ P fed at _ rows own (λ f. f.1) (λ w h. h.0) (λ all ts h. h.0) (λ t s. s.0) (λ h. or_left (is_single (shape_of rows)) (is_single (shape_of beside)) h) (λ d. distinct_left xs ys d) in
    let h0 = part_has S K K _ _ P (g.O.Outside.places c.feed-in-Binary.new.outside) fed at rows c.deref_mut-in-Binary.result.now c.feed-in-Binary.new.self c.deref_mut-in-Binary.ensures.value refl c.in_ok-feed-in-Binary.ensures.fed c.feed-in-Binary.ensures.shape c.feed-in-Binary.ensures.others in
    let m0 = h0.has f0 in
    let p1 = part_fed S K _ P fed at _ beside own (λ f. f.2) (λ w h. h.1) (λ all ts h. h.1) (λ t s. s.1) (λ h. or_right (is_single (shape_of rows)) (is_single (shape_of beside)) h) (λ d. distinct_right xs ys d) in
    let f1 = next_fed S K _ P fed at _ (g.O.Outside.places c.feed-in-Binary.new.outside) beside p1 m0.taken (m0.grown) m0.out (second_agrees xs ys P (g.O.Outside.places c.feed-in-Binary.new.outside) own.goes_on.apart h0.stay) in
    let h1 = part_has S K c.feed-in-Binary.new.patterns _ _ (g.O.Outside.places c.feed-in-Binary.new.outside) (g.O.Outside.places c.feed-in-Binary-2.new.outside) fed at beside c.deref_mut-in-Binary-2.result.now c.feed-in-Binary-2.new.self c.deref_mut-in-Binary-2.ensures.value c.feed-in-Binary.ensures.same c.in_ok-feed-in-Binary-2.ensures.fed c.feed-in-Binary-2.ensures.shape c.feed-in-Binary-2.ensures.others in
    let m1 = h1.has f1 in
    let a0 : Agree (places_of (shape_of c.feed-in-Binary.new.self)) (g.O.Outside.places c.feed-in-Binary.new.outside) (g.O.Outside.places c.feed-in-Binary-2.new.outside) = subst (λ (s : Shape). Agree (places_of s) (g.O.Outside.places c.feed-in-Binary.new.outside) (g.O.Outside.places c.feed-in-Binary-2.new.outside)) (sym h0.shape) (first_agrees xs ys (g.O.Outside.places c.feed-in-Binary.new.outside) (g.O.Outside.places c.feed-in-Binary-2.new.outside) own.goes_on.apart h1.stay) in
    read_there (g.O.Outside.places c.feed-in-Binary-2.new.outside) c.feed-in-Binary.new.self c.deref-in-Binary.result.now c.deref-in-Binary.ensures (come_there own.goes_on.all (g.O.Outside.places c.feed-in-Binary-2.new.outside) own.times (fed_on fed at) c.feed-in-Binary.new.self (come_kept own.goes_on.all (g.O.Outside.places c.feed-in-Binary.new.outside) (g.O.Outside.places c.feed-in-Binary-2.new.outside) own.times (fed_on fed at) c.feed-in-Binary.new.self a0 m0.come))

pub Node::feed-binary_fed-requires-clause-beside : goal.Node::feed-binary_fed-requires-clause-beside
Node::feed-binary_fed-requires-clause-beside g t c =
    let S = c.args.store.now in
    let K = c.args.patterns.now in
    let at = c.args.at.now in
    let fed = c.args.fed in
    let P = (g.O.Outside.places c.args.outside.now) in
    let own = as_tree S K _ P fed at c.args.self.now _ c.in-Binary.is c.requires in
    let rows = c.in-Binary.rows.value in
    let beside = c.in-Binary.beside.value in
    let xs = places_of (shape_of rows) in
    let ys = places_of (shape_of beside) in
    let f0 = part_fed S K _ P fed at _ rows own (λ f. f.1) (λ w h. h.0) (λ all ts h. h.0) (λ t s. s.0) (λ h. or_left (is_single (shape_of rows)) (is_single (shape_of beside)) h) (λ d. distinct_left xs ys d) in
    let h0 = part_has S K K _ _ P (g.O.Outside.places c.feed-in-Binary.new.outside) fed at rows c.deref_mut-in-Binary.result.now c.feed-in-Binary.new.self c.deref_mut-in-Binary.ensures.value refl c.in_ok-feed-in-Binary.ensures.fed c.feed-in-Binary.ensures.shape c.feed-in-Binary.ensures.others in
    let m0 = h0.has f0 in
    let p1 = part_fed S K _ P fed at _ beside own (λ f. f.2) (λ w h. h.1) (λ all ts h. h.1) (λ t s. s.1) (λ h. or_right (is_single (shape_of rows)) (is_single (shape_of beside)) h) (λ d. distinct_right xs ys d) in
    let f1 = next_fed S K _ P fed at _ (g.O.Outside.places c.feed-in-Binary.new.outside) beside p1 m0.taken (m0.grown) m0.out (second_agrees xs ys P (g.O.Outside.places c.feed-in-Binary.new.outside) own.goes_on.apart h0.stay) in
    let h1 = part_has S K c.feed-in-Binary.new.patterns _ _ (g.O.Outside.places c.feed-in-Binary.new.outside) (g.O.Outside.places c.feed-in-Binary-2.new.outside) fed at beside c.deref_mut-in-Binary-2.result.now c.feed-in-Binary-2.new.self c.deref_mut-in-Binary-2.ensures.value c.feed-in-Binary.ensures.same c.in_ok-feed-in-Binary-2.ensures.fed c.feed-in-Binary-2.ensures.shape c.feed-in-Binary-2.ensures.others in
    let m1 = h1.has f1 in
    read_there (g.O.Outside.places c.feed-in-Binary-2.new.outside) c.feed-in-Binary-2.new.self c.deref-in-Binary-2.result.now c.deref-in-Binary-2.ensures (come_there own.goes_on.all (g.O.Outside.places c.feed-in-Binary-2.new.outside) own.times (fed_on fed at) c.feed-in-Binary-2.new.self m1.come)

pub Node::feed-binary_fed-requires-clause-together : goal.Node::feed-binary_fed-requires-clause-together
Node::feed-binary_fed-requires-clause-together g t c =
    let S = c.args.store.now in
    let K = c.args.patterns.now in
    let at = c.args.at.now in
    let fed = c.args.fed in
    let P = (g.O.Outside.places c.args.outside.now) in
    let own = as_tree S K _ P fed at c.args.self.now _ c.in-Binary.is c.requires in
    let rows = c.in-Binary.rows.value in
    let beside = c.in-Binary.beside.value in
    let xs = places_of (shape_of rows) in
    let ys = places_of (shape_of beside) in
    let f0 = part_fed S K _ P fed at _ rows own (λ f. f.1) (λ w h. h.0) (λ all ts h. h.0) (λ t s. s.0) (λ h. or_left (is_single (shape_of rows)) (is_single (shape_of beside)) h) (λ d. distinct_left xs ys d) in
    let h0 = part_has S K K _ _ P (g.O.Outside.places c.feed-in-Binary.new.outside) fed at rows c.deref_mut-in-Binary.result.now c.feed-in-Binary.new.self c.deref_mut-in-Binary.ensures.value refl c.in_ok-feed-in-Binary.ensures.fed c.feed-in-Binary.ensures.shape c.feed-in-Binary.ensures.others in
    let m0 = h0.has f0 in
    let p1 = part_fed S K _ P fed at _ beside own (λ f. f.2) (λ w h. h.1) (λ all ts h. h.1) (λ t s. s.1) (λ h. or_right (is_single (shape_of rows)) (is_single (shape_of beside)) h) (λ d. distinct_right xs ys d) in
    let f1 = next_fed S K _ P fed at _ (g.O.Outside.places c.feed-in-Binary.new.outside) beside p1 m0.taken (m0.grown) m0.out (second_agrees xs ys P (g.O.Outside.places c.feed-in-Binary.new.outside) own.goes_on.apart h0.stay) in
    let h1 = part_has S K c.feed-in-Binary.new.patterns _ _ (g.O.Outside.places c.feed-in-Binary.new.outside) (g.O.Outside.places c.feed-in-Binary-2.new.outside) fed at beside c.deref_mut-in-Binary-2.result.now c.feed-in-Binary-2.new.self c.deref_mut-in-Binary-2.ensures.value c.feed-in-Binary.ensures.same c.in_ok-feed-in-Binary-2.ensures.fed c.feed-in-Binary-2.ensures.shape c.feed-in-Binary-2.ensures.others in
    let m1 = h1.has f1 in
    let a0 : Agree (places_of (shape_of c.feed-in-Binary.new.self)) (g.O.Outside.places c.feed-in-Binary.new.outside) (g.O.Outside.places c.feed-in-Binary-2.new.outside) = subst (λ (s : Shape). Agree (places_of s) (g.O.Outside.places c.feed-in-Binary.new.outside) (g.O.Outside.places c.feed-in-Binary-2.new.outside)) (sym h0.shape) (first_agrees xs ys (g.O.Outside.places c.feed-in-Binary.new.outside) (g.O.Outside.places c.feed-in-Binary-2.new.outside) own.goes_on.apart h1.stay) in
    let gg = completed m1.taken in
    let pp = completed_are own.goes_on.all own.goes_on.known m1.taken K _ (g.O.Outside.places c.feed-in-Binary-2.new.outside) m1.out in
    (at, read_lending (world S gg) K at (g.O.Outside.places c.feed-in-Binary-2.new.outside) rows c.feed-in-Binary.new.self c.deref-in-Binary.result.now h0.shape c.deref-in-Binary.ensures (kept_steps (g.O.Outside.places c.feed-in-Binary.new.outside) (g.O.Outside.places c.feed-in-Binary-2.new.outside) c.feed-in-Binary.new.self _ a0 (m0.lent gg (possible_before m0.taken m1.taken gg m1.grown pp))), read_lending (world S gg) K at (g.O.Outside.places c.feed-in-Binary-2.new.outside) beside c.feed-in-Binary-2.new.self c.deref-in-Binary-2.result.now h1.shape c.deref-in-Binary-2.ensures (m1.lent gg pp))

pub Node::feed-binary_fed-requires-clause-scalar : goal.Node::feed-binary_fed-requires-clause-scalar
Node::feed-binary_fed-requires-clause-scalar g t c =
    let S = c.args.store.now in
    let K = c.args.patterns.now in
    let at = c.args.at.now in
    let fed = c.args.fed in
    let P = (g.O.Outside.places c.args.outside.now) in
    let own = as_tree S K _ P fed at c.args.self.now _ c.in-Binary.is c.requires in
    let rows = c.in-Binary.rows.value in
    let beside = c.in-Binary.beside.value in
    let xs = places_of (shape_of rows) in
    let ys = places_of (shape_of beside) in
    let f0 = part_fed S K _ P fed at _ rows own (λ f. f.1) (λ w h. h.0) (λ all ts h. h.0) (λ t s. s.0) (λ h. or_left (is_single (shape_of rows)) (is_single (shape_of beside)) h) (λ d. distinct_left xs ys d) in
    let h0 = part_has S K K _ _ P (g.O.Outside.places c.feed-in-Binary.new.outside) fed at rows c.deref_mut-in-Binary.result.now c.feed-in-Binary.new.self c.deref_mut-in-Binary.ensures.value refl c.in_ok-feed-in-Binary.ensures.fed c.feed-in-Binary.ensures.shape c.feed-in-Binary.ensures.others in
    let m0 = h0.has f0 in
    let p1 = part_fed S K _ P fed at _ beside own (λ f. f.2) (λ w h. h.1) (λ all ts h. h.1) (λ t s. s.1) (λ h. or_right (is_single (shape_of rows)) (is_single (shape_of beside)) h) (λ d. distinct_right xs ys d) in
    let f1 = next_fed S K _ P fed at _ (g.O.Outside.places c.feed-in-Binary.new.outside) beside p1 m0.taken (m0.grown) m0.out (second_agrees xs ys P (g.O.Outside.places c.feed-in-Binary.new.outside) own.goes_on.apart h0.stay) in
    let h1 = part_has S K c.feed-in-Binary.new.patterns _ _ (g.O.Outside.places c.feed-in-Binary.new.outside) (g.O.Outside.places c.feed-in-Binary-2.new.outside) fed at beside c.deref_mut-in-Binary-2.result.now c.feed-in-Binary-2.new.self c.deref_mut-in-Binary-2.ensures.value c.feed-in-Binary.ensures.same c.in_ok-feed-in-Binary-2.ensures.fed c.feed-in-Binary-2.ensures.shape c.feed-in-Binary-2.ensures.others in
    let m1 = h1.has f1 in
    let a0 : Agree (places_of (shape_of c.feed-in-Binary.new.self)) (g.O.Outside.places c.feed-in-Binary.new.outside) (g.O.Outside.places c.feed-in-Binary-2.new.outside) = subst (λ (s : Shape). Agree (places_of s) (g.O.Outside.places c.feed-in-Binary.new.outside) (g.O.Outside.places c.feed-in-Binary-2.new.outside)) (sym h0.shape) (first_agrees xs ys (g.O.Outside.places c.feed-in-Binary.new.outside) (g.O.Outside.places c.feed-in-Binary-2.new.outside) own.goes_on.apart h1.stay) in
    let gg = completed m1.taken in
    let pp = completed_are own.goes_on.all own.goes_on.known m1.taken K _ (g.O.Outside.places c.feed-in-Binary-2.new.outside) m1.out in
    λ h. read_scalar beside c.feed-in-Binary-2.new.self c.deref-in-Binary-2.result.now h1.shape c.deref-in-Binary-2.ensures (own.goes_on.fit.0 h)

pub Node::feed-returns-in_err-feed-in-Binary-clause-others : goal.Node::feed-returns-in_err-feed-in-Binary-clause-others
Node::feed-returns-in_err-feed-in-Binary-clause-others g t c =
    let P = (g.O.Outside.places c.args.outside.now) in
    let rows = c.in-Binary.rows.value in
    let beside = c.in-Binary.beside.value in
    let xs = places_of (shape_of rows) in
    let ys = places_of (shape_of beside) in
    let s0 = stay_as P (g.O.Outside.places c.feed-in-Binary.new.outside) rows c.deref_mut-in-Binary.result.now c.deref_mut-in-Binary.ensures.value c.feed-in-Binary.ensures.others in
    stay_self P (g.O.Outside.places c.feed-in-Binary.new.outside) c.args.self.now _ c.in-Binary.is (stay_left xs ys P (g.O.Outside.places c.feed-in-Binary.new.outside) s0)

pub Node::feed-returns-in_err-feed-in-Binary-clause-run : goal.Node::feed-returns-in_err-feed-in-Binary-clause-run
Node::feed-returns-in_err-feed-in-Binary-clause-run g t c =
    run_fault _ c.from_residual-in_err-feed-in-Binary.result _ _ c.from_residual-in_err-feed-in-Binary.ensures.1 c.in_err-feed-in-Binary.ensures.run

pub Node::feed-returns-in_err-feed-in-Binary-2-clause-others : goal.Node::feed-returns-in_err-feed-in-Binary-2-clause-others
Node::feed-returns-in_err-feed-in-Binary-2-clause-others g t c =
    let P = (g.O.Outside.places c.args.outside.now) in
    let rows = c.in-Binary.rows.value in
    let beside = c.in-Binary.beside.value in
    let xs = places_of (shape_of rows) in
    let ys = places_of (shape_of beside) in
    let s0 = stay_as P (g.O.Outside.places c.feed-in-Binary.new.outside) rows c.deref_mut-in-Binary.result.now c.deref_mut-in-Binary.ensures.value c.feed-in-Binary.ensures.others in
    let s1 = stay_as (g.O.Outside.places c.feed-in-Binary.new.outside) (g.O.Outside.places c.feed-in-Binary-2.new.outside) beside c.deref_mut-in-Binary-2.result.now c.deref_mut-in-Binary-2.ensures.value c.feed-in-Binary-2.ensures.others in
    stay_self P (g.O.Outside.places c.feed-in-Binary-2.new.outside) c.args.self.now _ c.in-Binary.is (stay_both xs ys P (g.O.Outside.places c.feed-in-Binary.new.outside) (g.O.Outside.places c.feed-in-Binary-2.new.outside) s0 s1)

pub Node::feed-returns-in_err-feed-in-Binary-2-clause-run : goal.Node::feed-returns-in_err-feed-in-Binary-2-clause-run
Node::feed-returns-in_err-feed-in-Binary-2-clause-run g t c =
    run_then _ _ _ _ _ c.in_ok-feed-in-Binary.ensures.run (run_fault _ c.from_residual-in_err-feed-in-Binary-2.result _ _ c.from_residual-in_err-feed-in-Binary-2.ensures.1 c.in_err-feed-in-Binary-2.ensures.run)

pub Node::feed-returns-in_ok-feed-in-Binary-2-clause-others : goal.Node::feed-returns-in_ok-feed-in-Binary-2-clause-others
Node::feed-returns-in_ok-feed-in-Binary-2-clause-others g t c =
    let P = (g.O.Outside.places c.args.outside.now) in
    let rows = c.in-Binary.rows.value in
    let beside = c.in-Binary.beside.value in
    let xs = places_of (shape_of rows) in
    let ys = places_of (shape_of beside) in
    let s0 = stay_as P (g.O.Outside.places c.feed-in-Binary.new.outside) rows c.deref_mut-in-Binary.result.now c.deref_mut-in-Binary.ensures.value c.feed-in-Binary.ensures.others in
    let s1 = stay_as (g.O.Outside.places c.feed-in-Binary.new.outside) (g.O.Outside.places c.feed-in-Binary-2.new.outside) beside c.deref_mut-in-Binary-2.result.now c.deref_mut-in-Binary-2.ensures.value c.feed-in-Binary-2.ensures.others in
    stay_self P (g.O.Outside.places c.feed-in-Binary-2.new.outside) c.args.self.now _ c.in-Binary.is (stay_both xs ys P (g.O.Outside.places c.feed-in-Binary.new.outside) (g.O.Outside.places c.feed-in-Binary-2.new.outside) s0 s1)

pub Node::feed-returns-in_ok-feed-in-Binary-2-clause-run : goal.Node::feed-returns-in_ok-feed-in-Binary-2-clause-run
Node::feed-returns-in_ok-feed-in-Binary-2-clause-run g t c =
    own_behind _ c.binary_fed.result _ _ c.binary_fed.ensures.memory (run_then _ _ _ _ _ c.in_ok-feed-in-Binary.ensures.run c.in_ok-feed-in-Binary-2.ensures.run)

pub Node::feed-returns-in_ok-feed-in-Binary-2-clause-fed : goal.Node::feed-returns-in_ok-feed-in-Binary-2-clause-fed
Node::feed-returns-in_ok-feed-in-Binary-2-clause-fed g t c =
    let S = c.args.store.now in
    let K = c.args.patterns.now in
    let at = c.args.at.now in
    let fed = c.args.fed in
    let P = (g.O.Outside.places c.args.outside.now) in
    let rows = c.in-Binary.rows.value in
    let beside = c.in-Binary.beside.value in
    let xs = places_of (shape_of rows) in
    let ys = places_of (shape_of beside) in
    on_ok c.binary_fed.result (c.binary_fed.ensures.lent) (λ f. fed_as S K _ _ P (g.O.Outside.places c.feed-in-Binary-2.new.outside) fed at c.args.self.now _ _ c.in-Binary.is (λ c0.
    let f0 = part_fed S K _ P fed at _ rows c0 (λ f. f.1) (λ w h. h.0) (λ all ts h. h.0) (λ t s. s.0) (λ h. or_left (is_single (shape_of rows)) (is_single (shape_of beside)) h) (λ d. distinct_left xs ys d) in
    let h0 = part_has S K K _ _ P (g.O.Outside.places c.feed-in-Binary.new.outside) fed at rows c.deref_mut-in-Binary.result.now c.feed-in-Binary.new.self c.deref_mut-in-Binary.ensures.value refl c.in_ok-feed-in-Binary.ensures.fed c.feed-in-Binary.ensures.shape c.feed-in-Binary.ensures.others in
    let m0 = h0.has f0 in
    let p1 = part_fed S K _ P fed at _ beside c0 (λ f. f.2) (λ w h. h.1) (λ all ts h. h.1) (λ t s. s.1) (λ h. or_right (is_single (shape_of rows)) (is_single (shape_of beside)) h) (λ d. distinct_right xs ys d) in
    let f1 = next_fed S K _ P fed at _ (g.O.Outside.places c.feed-in-Binary.new.outside) beside p1 m0.taken (m0.grown) m0.out (second_agrees xs ys P (g.O.Outside.places c.feed-in-Binary.new.outside) c0.goes_on.apart h0.stay) in
    let h1 = part_has S K c.feed-in-Binary.new.patterns _ _ (g.O.Outside.places c.feed-in-Binary.new.outside) (g.O.Outside.places c.feed-in-Binary-2.new.outside) fed at beside c.deref_mut-in-Binary-2.result.now c.feed-in-Binary-2.new.self c.deref_mut-in-Binary-2.ensures.value c.feed-in-Binary.ensures.same c.in_ok-feed-in-Binary-2.ensures.fed c.feed-in-Binary-2.ensures.shape c.feed-in-Binary-2.ensures.others in
    let m1 = h1.has f1 in
    let a0 : Agree (places_of (shape_of c.feed-in-Binary.new.self)) (g.O.Outside.places c.feed-in-Binary.new.outside) (g.O.Outside.places c.feed-in-Binary-2.new.outside) = subst (λ (s : Shape). Agree (places_of s) (g.O.Outside.places c.feed-in-Binary.new.outside) (g.O.Outside.places c.feed-in-Binary-2.new.outside)) (sym h0.shape) (first_agrees xs ys (g.O.Outside.places c.feed-in-Binary.new.outside) (g.O.Outside.places c.feed-in-Binary-2.new.outside) c0.goes_on.apart h1.stay) in
    record {
      taken = m1.taken;
      grown = grown_then c0.goes_on.taken m0.taken m1.taken m0.grown m1.grown;
      out = m1.out;
      lent = λ gg pp. f (rule (world S gg) K (shape_of rows)) (rule (world S gg) K (shape_of beside)) at (read_steps (g.O.Outside.places c.feed-in-Binary-2.new.outside) c.feed-in-Binary.new.self c.deref-in-Binary.result.now _ c.deref-in-Binary.ensures (kept_steps (g.O.Outside.places c.feed-in-Binary.new.outside) (g.O.Outside.places c.feed-in-Binary-2.new.outside) c.feed-in-Binary.new.self _ a0 (m0.lent gg (possible_before m0.taken m1.taken gg m1.grown pp)))) (read_steps (g.O.Outside.places c.feed-in-Binary-2.new.outside) c.feed-in-Binary-2.new.self c.deref-in-Binary-2.result.now _ c.deref-in-Binary-2.ensures (m1.lent gg pp));
      can = λ gg pp. (can_kept (world S gg) K (g.O.Outside.places c.feed-in-Binary.new.outside) (g.O.Outside.places c.feed-in-Binary-2.new.outside) (fed_on fed at) c.feed-in-Binary.new.self a0 (m0.can gg (possible_before m0.taken m1.taken gg m1.grown pp)), m1.can gg pp);
      come = (come_kept c0.goes_on.all (g.O.Outside.places c.feed-in-Binary.new.outside) (g.O.Outside.places c.feed-in-Binary-2.new.outside) c0.times (fed_on fed at) c.feed-in-Binary.new.self a0 m0.come, m1.come);
    }))

pub Node::feed-feed-requires-in-Clamp : goal.Node::feed-feed-requires-in-Clamp
Node::feed-feed-requires-in-Clamp g t c κs within =
    let S = c.args.store.now in
    let K = c.args.patterns.now in
    let at = c.args.at.now in
    let fed = c.args.fed in
    let P = (g.O.Outside.places c.args.outside.now) in
    let own = as_tree S K _ P fed at c.args.self.now _ c.in-Clamp.is c.requires in
    let rows = c.in-Clamp.rows.value in
    let low = c.in-Clamp.low.value in
    let high = c.in-Clamp.high.value in
    let xs = places_of (shape_of rows) in
    let ys = places_of (shape_of low) in
    let zs = places_of (shape_of high) in
    let f0 = part_fed S K _ P fed at _ rows own (λ f. f.2) (λ w h. h.0) (λ all ts h. h.0) (λ t s. s.0) (λ h. or_left (is_single (shape_of rows)) (is_single (shape_of low) || is_single (shape_of high)) h) (λ d. distinct_left xs (ys ++ zs) d) in
    let whole = ap (λ (n : Node). height (shape_of n)) c.in-Clamp.is in
    let part = ap (λ (n : Node). height (shape_of n)) c.deref_mut-in-Clamp.ensures.value in
    (omega (arith, c.decreases, whole, part), (within.0, (within.1, fed_given S K _ P fed at K rows c.deref_mut-in-Clamp.result.now c.deref_mut-in-Clamp.ensures.value (refl) f0)))

pub Node::feed-feed-requires-in-Clamp-2 : goal.Node::feed-feed-requires-in-Clamp-2
Node::feed-feed-requires-in-Clamp-2 g t c κs within =
    let S = c.args.store.now in
    let K = c.args.patterns.now in
    let at = c.args.at.now in
    let fed = c.args.fed in
    let P = (g.O.Outside.places c.args.outside.now) in
    let own = as_tree S K _ P fed at c.args.self.now _ c.in-Clamp.is c.requires in
    let rows = c.in-Clamp.rows.value in
    let low = c.in-Clamp.low.value in
    let high = c.in-Clamp.high.value in
    let xs = places_of (shape_of rows) in
    let ys = places_of (shape_of low) in
    let zs = places_of (shape_of high) in
    let f0 = part_fed S K _ P fed at _ rows own (λ f. f.2) (λ w h. h.0) (λ all ts h. h.0) (λ t s. s.0) (λ h. or_left (is_single (shape_of rows)) (is_single (shape_of low) || is_single (shape_of high)) h) (λ d. distinct_left xs (ys ++ zs) d) in
    let h0 = part_has S K K _ _ P (g.O.Outside.places c.feed-in-Clamp.new.outside) fed at rows c.deref_mut-in-Clamp.result.now c.feed-in-Clamp.new.self c.deref_mut-in-Clamp.ensures.value refl c.in_ok-feed-in-Clamp.ensures.fed c.feed-in-Clamp.ensures.shape c.feed-in-Clamp.ensures.others in
    let m0 = h0.has f0 in
    let p1 = part_fed S K _ P fed at _ low own (λ f. f.3) (λ w h. h.1) (λ all ts h. h.1) (λ t s. s.1) (λ h. or_right (is_single (shape_of rows)) (is_single (shape_of low) || is_single (shape_of high)) (or_left (is_single (shape_of low)) (is_single (shape_of high)) h)) (λ d. distinct_left ys zs (distinct_right xs (ys ++ zs) d)) in
    let f1 = next_fed S K _ P fed at _ (g.O.Outside.places c.feed-in-Clamp.new.outside) low p1 m0.taken (m0.grown) m0.out (agree_left ys zs P (g.O.Outside.places c.feed-in-Clamp.new.outside) (second_agrees xs (ys ++ zs) P (g.O.Outside.places c.feed-in-Clamp.new.outside) own.goes_on.apart h0.stay)) in
    let whole = ap (λ (n : Node). height (shape_of n)) c.in-Clamp.is in
    let part = ap (λ (n : Node). height (shape_of n)) c.deref_mut-in-Clamp-2.ensures.value in
    (omega (arith, c.decreases, whole, part), (within.0, (within.1, fed_given S K _ (g.O.Outside.places c.feed-in-Clamp.new.outside) fed at c.feed-in-Clamp.new.patterns low c.deref_mut-in-Clamp-2.result.now c.deref_mut-in-Clamp-2.ensures.value (c.feed-in-Clamp.ensures.same) f1)))

pub Node::feed-feed-requires-in-Clamp-3 : goal.Node::feed-feed-requires-in-Clamp-3
Node::feed-feed-requires-in-Clamp-3 g t c κs within =
    let S = c.args.store.now in
    let K = c.args.patterns.now in
    let at = c.args.at.now in
    let fed = c.args.fed in
    let P = (g.O.Outside.places c.args.outside.now) in
    let own = as_tree S K _ P fed at c.args.self.now _ c.in-Clamp.is c.requires in
    let rows = c.in-Clamp.rows.value in
    let low = c.in-Clamp.low.value in
    let high = c.in-Clamp.high.value in
    let xs = places_of (shape_of rows) in
    let ys = places_of (shape_of low) in
    let zs = places_of (shape_of high) in
    let f0 = part_fed S K _ P fed at _ rows own (λ f. f.2) (λ w h. h.0) (λ all ts h. h.0) (λ t s. s.0) (λ h. or_left (is_single (shape_of rows)) (is_single (shape_of low) || is_single (shape_of high)) h) (λ d. distinct_left xs (ys ++ zs) d) in
    let h0 = part_has S K K _ _ P (g.O.Outside.places c.feed-in-Clamp.new.outside) fed at rows c.deref_mut-in-Clamp.result.now c.feed-in-Clamp.new.self c.deref_mut-in-Clamp.ensures.value refl c.in_ok-feed-in-Clamp.ensures.fed c.feed-in-Clamp.ensures.shape c.feed-in-Clamp.ensures.others in
    let m0 = h0.has f0 in
    let p1 = part_fed S K _ P fed at _ low own (λ f. f.3) (λ w h. h.1) (λ all ts h. h.1) (λ t s. s.1) (λ h. or_right (is_single (shape_of rows)) (is_single (shape_of low) || is_single (shape_of high)) (or_left (is_single (shape_of low)) (is_single (shape_of high)) h)) (λ d. distinct_left ys zs (distinct_right xs (ys ++ zs) d)) in
    let f1 = next_fed S K _ P fed at _ (g.O.Outside.places c.feed-in-Clamp.new.outside) low p1 m0.taken (m0.grown) m0.out (agree_left ys zs P (g.O.Outside.places c.feed-in-Clamp.new.outside) (second_agrees xs (ys ++ zs) P (g.O.Outside.places c.feed-in-Clamp.new.outside) own.goes_on.apart h0.stay)) in
    let h1 = part_has S K c.feed-in-Clamp.new.patterns _ _ (g.O.Outside.places c.feed-in-Clamp.new.outside) (g.O.Outside.places c.feed-in-Clamp-2.new.outside) fed at low c.deref_mut-in-Clamp-2.result.now c.feed-in-Clamp-2.new.self c.deref_mut-in-Clamp-2.ensures.value c.feed-in-Clamp.ensures.same c.in_ok-feed-in-Clamp-2.ensures.fed c.feed-in-Clamp-2.ensures.shape c.feed-in-Clamp-2.ensures.others in
    let m1 = h1.has f1 in
    let p2 = part_fed S K _ P fed at _ high own (λ f. f.4) (λ w h. h.2) (λ all ts h. h.2) (λ t s. s.2) (λ h. or_right (is_single (shape_of rows)) (is_single (shape_of low) || is_single (shape_of high)) (or_right (is_single (shape_of low)) (is_single (shape_of high)) h)) (λ d. distinct_right ys zs (distinct_right xs (ys ++ zs) d)) in
    let f2 = next_fed S K _ P fed at _ (g.O.Outside.places c.feed-in-Clamp-2.new.outside) high p2 m1.taken (grown_then own.goes_on.taken m0.taken m1.taken m0.grown m1.grown) m1.out (agree_then zs P (g.O.Outside.places c.feed-in-Clamp.new.outside) (g.O.Outside.places c.feed-in-Clamp-2.new.outside) (agree_right ys zs P (g.O.Outside.places c.feed-in-Clamp.new.outside) (second_agrees xs (ys ++ zs) P (g.O.Outside.places c.feed-in-Clamp.new.outside) own.goes_on.apart h0.stay)) (second_agrees ys zs (g.O.Outside.places c.feed-in-Clamp.new.outside) (g.O.Outside.places c.feed-in-Clamp-2.new.outside) (distinct_right xs (ys ++ zs) own.goes_on.apart) h1.stay)) in
    let whole = ap (λ (n : Node). height (shape_of n)) c.in-Clamp.is in
    let part = ap (λ (n : Node). height (shape_of n)) c.deref_mut-in-Clamp-3.ensures.value in
    (omega (arith, c.decreases, whole, part), (within.0, (within.1, fed_given S K _ (g.O.Outside.places c.feed-in-Clamp-2.new.outside) fed at c.feed-in-Clamp-2.new.patterns high c.deref_mut-in-Clamp-3.result.now c.deref_mut-in-Clamp-3.ensures.value (c.feed-in-Clamp-2.ensures.same ∙ c.feed-in-Clamp.ensures.same) f2)))

pub Node::feed-clamp_fed-requires-clause-rows : goal.Node::feed-clamp_fed-requires-clause-rows
Node::feed-clamp_fed-requires-clause-rows g t c =
    let S = c.args.store.now in
    let K = c.args.patterns.now in
    let at = c.args.at.now in
    let fed = c.args.fed in
    let P = (g.O.Outside.places c.args.outside.now) in
    let own = as_tree S K _ P fed at c.args.self.now _ c.in-Clamp.is c.requires in
    let rows = c.in-Clamp.rows.value in
    let low = c.in-Clamp.low.value in
    let high = c.in-Clamp.high.value in
    let xs = places_of (shape_of rows) in
    let ys = places_of (shape_of low) in
    let zs = places_of (shape_of high) in
    let f0 = part_fed S K _ P fed at _ rows own (λ f. f.2) (λ w h. h.0) (λ all ts h. h.0) (λ t s. s.0) (λ h. or_left (is_single (shape_of rows)) (is_single (shape_of low) || is_single (shape_of high)) h) (λ d. distinct_left xs (ys ++ zs) d) in
    let h0 = part_has S K K _ _ P (g.O.Outside.places c.feed-in-Clamp.new.outside) fed at rows c.deref_mut-in-Clamp.result.now c.feed-in-Clamp.new.self c.deref_mut-in-Clamp.ensures.value refl c.in_ok-feed-in-Clamp.ensures.fed c.feed-in-Clamp.ensures.shape c.feed-in-Clamp.ensures.others in
    let m0 = h0.has f0 in
    let p1 = part_fed S K _ P fed at _ low own (λ f. f.3) (λ w h. h.1) (λ all ts h. h.1) (λ t s. s.1) (λ h. or_right (is_single (shape_of rows)) (is_single (shape_of low) || is_single (shape_of high)) (or_left (is_single (shape_of low)) (is_single (shape_of high)) h)) (λ d. distinct_left ys zs (distinct_right xs (ys ++ zs) d)) in
    let f1 = next_fed S K _ P fed at _ (g.O.Outside.places c.feed-in-Clamp.new.outside) low p1 m0.taken (m0.grown) m0.out (agree_left ys zs P (g.O.Outside.places c.feed-in-Clamp.new.outside) (second_agrees xs (ys ++ zs) P (g.O.Outside.places c.feed-in-Clamp.new.outside) own.goes_on.apart h0.stay)) in
    let h1 = part_has S K c.feed-in-Clamp.new.patterns _ _ (g.O.Outside.places c.feed-in-Clamp.new.outside) (g.O.Outside.places c.feed-in-Clamp-2.new.outside) fed at low c.deref_mut-in-Clamp-2.result.now c.feed-in-Clamp-2.new.self c.deref_mut-in-Clamp-2.ensures.value c.feed-in-Clamp.ensures.same c.in_ok-feed-in-Clamp-2.ensures.fed c.feed-in-Clamp-2.ensures.shape c.feed-in-Clamp-2.ensures.others in
    let m1 = h1.has f1 in
    let p2 = part_fed S K _ P fed at _ high own (λ f. f.4) (λ w h. h.2) (λ all ts h. h.2) (λ t s. s.2) (λ h. or_right (is_single (shape_of rows)) (is_single (shape_of low) || is_single (shape_of high)) (or_right (is_single (shape_of low)) (is_single (shape_of high)) h)) (λ d. distinct_right ys zs (distinct_right xs (ys ++ zs) d)) in
    let f2 = next_fed S K _ P fed at _ (g.O.Outside.places c.feed-in-Clamp-2.new.outside) high p2 m1.taken (grown_then own.goes_on.taken m0.taken m1.taken m0.grown m1.grown) m1.out (agree_then zs P (g.O.Outside.places c.feed-in-Clamp.new.outside) (g.O.Outside.places c.feed-in-Clamp-2.new.outside) (agree_right ys zs P (g.O.Outside.places c.feed-in-Clamp.new.outside) (second_agrees xs (ys ++ zs) P (g.O.Outside.places c.feed-in-Clamp.new.outside) own.goes_on.apart h0.stay)) (second_agrees ys zs (g.O.Outside.places c.feed-in-Clamp.new.outside) (g.O.Outside.places c.feed-in-Clamp-2.new.outside) (distinct_right xs (ys ++ zs) own.goes_on.apart) h1.stay)) in
    let h2 = part_has S K c.feed-in-Clamp-2.new.patterns _ _ (g.O.Outside.places c.feed-in-Clamp-2.new.outside) (g.O.Outside.places c.feed-in-Clamp-3.new.outside) fed at high c.deref_mut-in-Clamp-3.result.now c.feed-in-Clamp-3.new.self c.deref_mut-in-Clamp-3.ensures.value (c.feed-in-Clamp-2.ensures.same ∙ c.feed-in-Clamp.ensures.same) c.in_ok-feed-in-Clamp-3.ensures.fed c.feed-in-Clamp-3.ensures.shape c.feed-in-Clamp-3.ensures.others in
    let m2 = h2.has f2 in
    let a0 : Agree (places_of (shape_of c.feed-in-Clamp.new.self)) (g.O.Outside.places c.feed-in-Clamp.new.outside) (g.O.Outside.places c.feed-in-Clamp-3.new.outside) = subst (λ (s : Shape). Agree (places_of s) (g.O.Outside.places c.feed-in-Clamp.new.outside) (g.O.Outside.places c.feed-in-Clamp-3.new.outside)) (sym h0.shape) (first_agrees xs (ys ++ zs) (g.O.Outside.places c.feed-in-Clamp.new.outside) (g.O.Outside.places c.feed-in-Clamp-3.new.outside) own.goes_on.apart (stay_both ys zs (g.O.Outside.places c.feed-in-Clamp.new.outside) (g.O.Outside.places c.feed-in-Clamp-2.new.outside) (g.O.Outside.places c.feed-in-Clamp-3.new.outside) h1.stay h2.stay)) in
    read_there (g.O.Outside.places c.feed-in-Clamp-3.new.outside) c.feed-in-Clamp.new.self c.deref-in-Clamp.result.now c.deref-in-Clamp.ensures (come_there own.goes_on.all (g.O.Outside.places c.feed-in-Clamp-3.new.outside) own.times (fed_on fed at) c.feed-in-Clamp.new.self (come_kept own.goes_on.all (g.O.Outside.places c.feed-in-Clamp.new.outside) (g.O.Outside.places c.feed-in-Clamp-3.new.outside) own.times (fed_on fed at) c.feed-in-Clamp.new.self a0 m0.come))

pub Node::feed-clamp_fed-requires-clause-low : goal.Node::feed-clamp_fed-requires-clause-low
Node::feed-clamp_fed-requires-clause-low g t c =
    let S = c.args.store.now in
    let K = c.args.patterns.now in
    let at = c.args.at.now in
    let fed = c.args.fed in
    let P = (g.O.Outside.places c.args.outside.now) in
    let own = as_tree S K _ P fed at c.args.self.now _ c.in-Clamp.is c.requires in
    let rows = c.in-Clamp.rows.value in
    let low = c.in-Clamp.low.value in
    let high = c.in-Clamp.high.value in
    let xs = places_of (shape_of rows) in
    let ys = places_of (shape_of low) in
    let zs = places_of (shape_of high) in
    let f0 = part_fed S K _ P fed at _ rows own (λ f. f.2) (λ w h. h.0) (λ all ts h. h.0) (λ t s. s.0) (λ h. or_left (is_single (shape_of rows)) (is_single (shape_of low) || is_single (shape_of high)) h) (λ d. distinct_left xs (ys ++ zs) d) in
    let h0 = part_has S K K _ _ P (g.O.Outside.places c.feed-in-Clamp.new.outside) fed at rows c.deref_mut-in-Clamp.result.now c.feed-in-Clamp.new.self c.deref_mut-in-Clamp.ensures.value refl c.in_ok-feed-in-Clamp.ensures.fed c.feed-in-Clamp.ensures.shape c.feed-in-Clamp.ensures.others in
    let m0 = h0.has f0 in
    let p1 = part_fed S K _ P fed at _ low own (λ f. f.3) (λ w h. h.1) (λ all ts h. h.1) (λ t s. s.1) (λ h. or_right (is_single (shape_of rows)) (is_single (shape_of low) || is_single (shape_of high)) (or_left (is_single (shape_of low)) (is_single (shape_of high)) h)) (λ d. distinct_left ys zs (distinct_right xs (ys ++ zs) d)) in
    let f1 = next_fed S K _ P fed at _ (g.O.Outside.places c.feed-in-Clamp.new.outside) low p1 m0.taken (m0.grown) m0.out (agree_left ys zs P (g.O.Outside.places c.feed-in-Clamp.new.outside) (second_agrees xs (ys ++ zs) P (g.O.Outside.places c.feed-in-Clamp.new.outside) own.goes_on.apart h0.stay)) in
    let h1 = part_has S K c.feed-in-Clamp.new.patterns _ _ (g.O.Outside.places c.feed-in-Clamp.new.outside) (g.O.Outside.places c.feed-in-Clamp-2.new.outside) fed at low c.deref_mut-in-Clamp-2.result.now c.feed-in-Clamp-2.new.self c.deref_mut-in-Clamp-2.ensures.value c.feed-in-Clamp.ensures.same c.in_ok-feed-in-Clamp-2.ensures.fed c.feed-in-Clamp-2.ensures.shape c.feed-in-Clamp-2.ensures.others in
    let m1 = h1.has f1 in
    let p2 = part_fed S K _ P fed at _ high own (λ f. f.4) (λ w h. h.2) (λ all ts h. h.2) (λ t s. s.2) (λ h. or_right (is_single (shape_of rows)) (is_single (shape_of low) || is_single (shape_of high)) (or_right (is_single (shape_of low)) (is_single (shape_of high)) h)) (λ d. distinct_right ys zs (distinct_right xs (ys ++ zs) d)) in
    let f2 = next_fed S K _ P fed at _ (g.O.Outside.places c.feed-in-Clamp-2.new.outside) high p2 m1.taken (grown_then own.goes_on.taken m0.taken m1.taken m0.grown m1.grown) m1.out (agree_then zs P (g.O.Outside.places c.feed-in-Clamp.new.outside) (g.O.Outside.places c.feed-in-Clamp-2.new.outside) (agree_right ys zs P (g.O.Outside.places c.feed-in-Clamp.new.outside) (second_agrees xs (ys ++ zs) P (g.O.Outside.places c.feed-in-Clamp.new.outside) own.goes_on.apart h0.stay)) (second_agrees ys zs (g.O.Outside.places c.feed-in-Clamp.new.outside) (g.O.Outside.places c.feed-in-Clamp-2.new.outside) (distinct_right xs (ys ++ zs) own.goes_on.apart) h1.stay)) in
    let h2 = part_has S K c.feed-in-Clamp-2.new.patterns _ _ (g.O.Outside.places c.feed-in-Clamp-2.new.outside) (g.O.Outside.places c.feed-in-Clamp-3.new.outside) fed at high c.deref_mut-in-Clamp-3.result.now c.feed-in-Clamp-3.new.self c.deref_mut-in-Clamp-3.ensures.value (c.feed-in-Clamp-2.ensures.same ∙ c.feed-in-Clamp.ensures.same) c.in_ok-feed-in-Clamp-3.ensures.fed c.feed-in-Clamp-3.ensures.shape c.feed-in-Clamp-3.ensures.others in
    let m2 = h2.has f2 in
    let a1 : Agree (places_of (shape_of c.feed-in-Clamp-2.new.self)) (g.O.Outside.places c.feed-in-Clamp-2.new.outside) (g.O.Outside.places c.feed-in-Clamp-3.new.outside) = subst (λ (s : Shape). Agree (places_of s) (g.O.Outside.places c.feed-in-Clamp-2.new.outside) (g.O.Outside.places c.feed-in-Clamp-3.new.outside)) (sym h1.shape) (first_agrees ys zs (g.O.Outside.places c.feed-in-Clamp-2.new.outside) (g.O.Outside.places c.feed-in-Clamp-3.new.outside) (distinct_right xs (ys ++ zs) own.goes_on.apart) h2.stay) in
    read_there (g.O.Outside.places c.feed-in-Clamp-3.new.outside) c.feed-in-Clamp-2.new.self c.deref-in-Clamp-2.result.now c.deref-in-Clamp-2.ensures (come_there own.goes_on.all (g.O.Outside.places c.feed-in-Clamp-3.new.outside) own.times (fed_on fed at) c.feed-in-Clamp-2.new.self (come_kept own.goes_on.all (g.O.Outside.places c.feed-in-Clamp-2.new.outside) (g.O.Outside.places c.feed-in-Clamp-3.new.outside) own.times (fed_on fed at) c.feed-in-Clamp-2.new.self a1 m1.come))

pub Node::feed-clamp_fed-requires-clause-high : goal.Node::feed-clamp_fed-requires-clause-high
Node::feed-clamp_fed-requires-clause-high g t c =
    let S = c.args.store.now in
    let K = c.args.patterns.now in
    let at = c.args.at.now in
    let fed = c.args.fed in
    let P = (g.O.Outside.places c.args.outside.now) in
    let own = as_tree S K _ P fed at c.args.self.now _ c.in-Clamp.is c.requires in
    let rows = c.in-Clamp.rows.value in
    let low = c.in-Clamp.low.value in
    let high = c.in-Clamp.high.value in
    let xs = places_of (shape_of rows) in
    let ys = places_of (shape_of low) in
    let zs = places_of (shape_of high) in
    let f0 = part_fed S K _ P fed at _ rows own (λ f. f.2) (λ w h. h.0) (λ all ts h. h.0) (λ t s. s.0) (λ h. or_left (is_single (shape_of rows)) (is_single (shape_of low) || is_single (shape_of high)) h) (λ d. distinct_left xs (ys ++ zs) d) in
    let h0 = part_has S K K _ _ P (g.O.Outside.places c.feed-in-Clamp.new.outside) fed at rows c.deref_mut-in-Clamp.result.now c.feed-in-Clamp.new.self c.deref_mut-in-Clamp.ensures.value refl c.in_ok-feed-in-Clamp.ensures.fed c.feed-in-Clamp.ensures.shape c.feed-in-Clamp.ensures.others in
    let m0 = h0.has f0 in
    let p1 = part_fed S K _ P fed at _ low own (λ f. f.3) (λ w h. h.1) (λ all ts h. h.1) (λ t s. s.1) (λ h. or_right (is_single (shape_of rows)) (is_single (shape_of low) || is_single (shape_of high)) (or_left (is_single (shape_of low)) (is_single (shape_of high)) h)) (λ d. distinct_left ys zs (distinct_right xs (ys ++ zs) d)) in
    let f1 = next_fed S K _ P fed at _ (g.O.Outside.places c.feed-in-Clamp.new.outside) low p1 m0.taken (m0.grown) m0.out (agree_left ys zs P (g.O.Outside.places c.feed-in-Clamp.new.outside) (second_agrees xs (ys ++ zs) P (g.O.Outside.places c.feed-in-Clamp.new.outside) own.goes_on.apart h0.stay)) in
    let h1 = part_has S K c.feed-in-Clamp.new.patterns _ _ (g.O.Outside.places c.feed-in-Clamp.new.outside) (g.O.Outside.places c.feed-in-Clamp-2.new.outside) fed at low c.deref_mut-in-Clamp-2.result.now c.feed-in-Clamp-2.new.self c.deref_mut-in-Clamp-2.ensures.value c.feed-in-Clamp.ensures.same c.in_ok-feed-in-Clamp-2.ensures.fed c.feed-in-Clamp-2.ensures.shape c.feed-in-Clamp-2.ensures.others in
    let m1 = h1.has f1 in
    let p2 = part_fed S K _ P fed at _ high own (λ f. f.4) (λ w h. h.2) (λ all ts h. h.2) (λ t s. s.2) (λ h. or_right (is_single (shape_of rows)) (is_single (shape_of low) || is_single (shape_of high)) (or_right (is_single (shape_of low)) (is_single (shape_of high)) h)) (λ d. distinct_right ys zs (distinct_right xs (ys ++ zs) d)) in
    let f2 = next_fed S K _ P fed at _ (g.O.Outside.places c.feed-in-Clamp-2.new.outside) high p2 m1.taken (grown_then own.goes_on.taken m0.taken m1.taken m0.grown m1.grown) m1.out (agree_then zs P (g.O.Outside.places c.feed-in-Clamp.new.outside) (g.O.Outside.places c.feed-in-Clamp-2.new.outside) (agree_right ys zs P (g.O.Outside.places c.feed-in-Clamp.new.outside) (second_agrees xs (ys ++ zs) P (g.O.Outside.places c.feed-in-Clamp.new.outside) own.goes_on.apart h0.stay)) (second_agrees ys zs (g.O.Outside.places c.feed-in-Clamp.new.outside) (g.O.Outside.places c.feed-in-Clamp-2.new.outside) (distinct_right xs (ys ++ zs) own.goes_on.apart) h1.stay)) in
    let h2 = part_has S K c.feed-in-Clamp-2.new.patterns _ _ (g.O.Outside.places c.feed-in-Clamp-2.new.outside) (g.O.Outside.places c.feed-in-Clamp-3.new.outside) fed at high c.deref_mut-in-Clamp-3.result.now c.feed-in-Clamp-3.new.self c.deref_mut-in-Clamp-3.ensures.value (c.feed-in-Clamp-2.ensures.same ∙ c.feed-in-Clamp.ensures.same) c.in_ok-feed-in-Clamp-3.ensures.fed c.feed-in-Clamp-3.ensures.shape c.feed-in-Clamp-3.ensures.others in
    let m2 = h2.has f2 in
    read_there (g.O.Outside.places c.feed-in-Clamp-3.new.outside) c.feed-in-Clamp-3.new.self c.deref-in-Clamp-3.result.now c.deref-in-Clamp-3.ensures (come_there own.goes_on.all (g.O.Outside.places c.feed-in-Clamp-3.new.outside) own.times (fed_on fed at) c.feed-in-Clamp-3.new.self m2.come)

pub Node::feed-clamp_fed-requires-clause-together : goal.Node::feed-clamp_fed-requires-clause-together
Node::feed-clamp_fed-requires-clause-together g t c =
    let S = c.args.store.now in
    let K = c.args.patterns.now in
    let at = c.args.at.now in
    let fed = c.args.fed in
    let P = (g.O.Outside.places c.args.outside.now) in
    let own = as_tree S K _ P fed at c.args.self.now _ c.in-Clamp.is c.requires in
    let rows = c.in-Clamp.rows.value in
    let low = c.in-Clamp.low.value in
    let high = c.in-Clamp.high.value in
    let xs = places_of (shape_of rows) in
    let ys = places_of (shape_of low) in
    let zs = places_of (shape_of high) in
    let f0 = part_fed S K _ P fed at _ rows own (λ f. f.2) (λ w h. h.0) (λ all ts h. h.0) (λ t s. s.0) (λ h. or_left (is_single (shape_of rows)) (is_single (shape_of low) || is_single (shape_of high)) h) (λ d. distinct_left xs (ys ++ zs) d) in
    let h0 = part_has S K K _ _ P (g.O.Outside.places c.feed-in-Clamp.new.outside) fed at rows c.deref_mut-in-Clamp.result.now c.feed-in-Clamp.new.self c.deref_mut-in-Clamp.ensures.value refl c.in_ok-feed-in-Clamp.ensures.fed c.feed-in-Clamp.ensures.shape c.feed-in-Clamp.ensures.others in
    let m0 = h0.has f0 in
    let p1 = part_fed S K _ P fed at _ low own (λ f. f.3) (λ w h. h.1) (λ all ts h. h.1) (λ t s. s.1) (λ h. or_right (is_single (shape_of rows)) (is_single (shape_of low) || is_single (shape_of high)) (or_left (is_single (shape_of low)) (is_single (shape_of high)) h)) (λ d. distinct_left ys zs (distinct_right xs (ys ++ zs) d)) in
    let f1 = next_fed S K _ P fed at _ (g.O.Outside.places c.feed-in-Clamp.new.outside) low p1 m0.taken (m0.grown) m0.out (agree_left ys zs P (g.O.Outside.places c.feed-in-Clamp.new.outside) (second_agrees xs (ys ++ zs) P (g.O.Outside.places c.feed-in-Clamp.new.outside) own.goes_on.apart h0.stay)) in
    let h1 = part_has S K c.feed-in-Clamp.new.patterns _ _ (g.O.Outside.places c.feed-in-Clamp.new.outside) (g.O.Outside.places c.feed-in-Clamp-2.new.outside) fed at low c.deref_mut-in-Clamp-2.result.now c.feed-in-Clamp-2.new.self c.deref_mut-in-Clamp-2.ensures.value c.feed-in-Clamp.ensures.same c.in_ok-feed-in-Clamp-2.ensures.fed c.feed-in-Clamp-2.ensures.shape c.feed-in-Clamp-2.ensures.others in
    let m1 = h1.has f1 in
    let p2 = part_fed S K _ P fed at _ high own (λ f. f.4) (λ w h. h.2) (λ all ts h. h.2) (λ t s. s.2) (λ h. or_right (is_single (shape_of rows)) (is_single (shape_of low) || is_single (shape_of high)) (or_right (is_single (shape_of low)) (is_single (shape_of high)) h)) (λ d. distinct_right ys zs (distinct_right xs (ys ++ zs) d)) in
    let f2 = next_fed S K _ P fed at _ (g.O.Outside.places c.feed-in-Clamp-2.new.outside) high p2 m1.taken (grown_then own.goes_on.taken m0.taken m1.taken m0.grown m1.grown) m1.out (agree_then zs P (g.O.Outside.places c.feed-in-Clamp.new.outside) (g.O.Outside.places c.feed-in-Clamp-2.new.outside) (agree_right ys zs P (g.O.Outside.places c.feed-in-Clamp.new.outside) (second_agrees xs (ys ++ zs) P (g.O.Outside.places c.feed-in-Clamp.new.outside) own.goes_on.apart h0.stay)) (second_agrees ys zs (g.O.Outside.places c.feed-in-Clamp.new.outside) (g.O.Outside.places c.feed-in-Clamp-2.new.outside) (distinct_right xs (ys ++ zs) own.goes_on.apart) h1.stay)) in
    let h2 = part_has S K c.feed-in-Clamp-2.new.patterns _ _ (g.O.Outside.places c.feed-in-Clamp-2.new.outside) (g.O.Outside.places c.feed-in-Clamp-3.new.outside) fed at high c.deref_mut-in-Clamp-3.result.now c.feed-in-Clamp-3.new.self c.deref_mut-in-Clamp-3.ensures.value (c.feed-in-Clamp-2.ensures.same ∙ c.feed-in-Clamp.ensures.same) c.in_ok-feed-in-Clamp-3.ensures.fed c.feed-in-Clamp-3.ensures.shape c.feed-in-Clamp-3.ensures.others in
    let m2 = h2.has f2 in
    let a0 : Agree (places_of (shape_of c.feed-in-Clamp.new.self)) (g.O.Outside.places c.feed-in-Clamp.new.outside) (g.O.Outside.places c.feed-in-Clamp-3.new.outside) = subst (λ (s : Shape). Agree (places_of s) (g.O.Outside.places c.feed-in-Clamp.new.outside) (g.O.Outside.places c.feed-in-Clamp-3.new.outside)) (sym h0.shape) (first_agrees xs (ys ++ zs) (g.O.Outside.places c.feed-in-Clamp.new.outside) (g.O.Outside.places c.feed-in-Clamp-3.new.outside) own.goes_on.apart (stay_both ys zs (g.O.Outside.places c.feed-in-Clamp.new.outside) (g.O.Outside.places c.feed-in-Clamp-2.new.outside) (g.O.Outside.places c.feed-in-Clamp-3.new.outside) h1.stay h2.stay)) in
    let a1 : Agree (places_of (shape_of c.feed-in-Clamp-2.new.self)) (g.O.Outside.places c.feed-in-Clamp-2.new.outside) (g.O.Outside.places c.feed-in-Clamp-3.new.outside) = subst (λ (s : Shape). Agree (places_of s) (g.O.Outside.places c.feed-in-Clamp-2.new.outside) (g.O.Outside.places c.feed-in-Clamp-3.new.outside)) (sym h1.shape) (first_agrees ys zs (g.O.Outside.places c.feed-in-Clamp-2.new.outside) (g.O.Outside.places c.feed-in-Clamp-3.new.outside) (distinct_right xs (ys ++ zs) own.goes_on.apart) h2.stay) in
    let gg = completed m2.taken in
    let pp = completed_are own.goes_on.all own.goes_on.known m2.taken K _ (g.O.Outside.places c.feed-in-Clamp-3.new.outside) m2.out in
    (at, read_lending (world S gg) K at (g.O.Outside.places c.feed-in-Clamp-3.new.outside) rows c.feed-in-Clamp.new.self c.deref-in-Clamp.result.now h0.shape c.deref-in-Clamp.ensures (kept_steps (g.O.Outside.places c.feed-in-Clamp.new.outside) (g.O.Outside.places c.feed-in-Clamp-3.new.outside) c.feed-in-Clamp.new.self _ a0 (m0.lent gg (possible_before m0.taken m2.taken gg (grown_then m0.taken m1.taken m2.taken m1.grown m2.grown) pp))), read_lending (world S gg) K at (g.O.Outside.places c.feed-in-Clamp-3.new.outside) low c.feed-in-Clamp-2.new.self c.deref-in-Clamp-2.result.now h1.shape c.deref-in-Clamp-2.ensures (kept_steps (g.O.Outside.places c.feed-in-Clamp-2.new.outside) (g.O.Outside.places c.feed-in-Clamp-3.new.outside) c.feed-in-Clamp-2.new.self _ a1 (m1.lent gg (possible_before m1.taken m2.taken gg m2.grown pp))), read_lending (world S gg) K at (g.O.Outside.places c.feed-in-Clamp-3.new.outside) high c.feed-in-Clamp-3.new.self c.deref-in-Clamp-3.result.now h2.shape c.deref-in-Clamp-3.ensures (m2.lent gg pp))

pub Node::feed-clamp_fed-requires-clause-scalars : goal.Node::feed-clamp_fed-requires-clause-scalars
Node::feed-clamp_fed-requires-clause-scalars g t c =
    let S = c.args.store.now in
    let K = c.args.patterns.now in
    let at = c.args.at.now in
    let fed = c.args.fed in
    let P = (g.O.Outside.places c.args.outside.now) in
    let own = as_tree S K _ P fed at c.args.self.now _ c.in-Clamp.is c.requires in
    let rows = c.in-Clamp.rows.value in
    let low = c.in-Clamp.low.value in
    let high = c.in-Clamp.high.value in
    let xs = places_of (shape_of rows) in
    let ys = places_of (shape_of low) in
    let zs = places_of (shape_of high) in
    let f0 = part_fed S K _ P fed at _ rows own (λ f. f.2) (λ w h. h.0) (λ all ts h. h.0) (λ t s. s.0) (λ h. or_left (is_single (shape_of rows)) (is_single (shape_of low) || is_single (shape_of high)) h) (λ d. distinct_left xs (ys ++ zs) d) in
    let h0 = part_has S K K _ _ P (g.O.Outside.places c.feed-in-Clamp.new.outside) fed at rows c.deref_mut-in-Clamp.result.now c.feed-in-Clamp.new.self c.deref_mut-in-Clamp.ensures.value refl c.in_ok-feed-in-Clamp.ensures.fed c.feed-in-Clamp.ensures.shape c.feed-in-Clamp.ensures.others in
    let m0 = h0.has f0 in
    let p1 = part_fed S K _ P fed at _ low own (λ f. f.3) (λ w h. h.1) (λ all ts h. h.1) (λ t s. s.1) (λ h. or_right (is_single (shape_of rows)) (is_single (shape_of low) || is_single (shape_of high)) (or_left (is_single (shape_of low)) (is_single (shape_of high)) h)) (λ d. distinct_left ys zs (distinct_right xs (ys ++ zs) d)) in
    let f1 = next_fed S K _ P fed at _ (g.O.Outside.places c.feed-in-Clamp.new.outside) low p1 m0.taken (m0.grown) m0.out (agree_left ys zs P (g.O.Outside.places c.feed-in-Clamp.new.outside) (second_agrees xs (ys ++ zs) P (g.O.Outside.places c.feed-in-Clamp.new.outside) own.goes_on.apart h0.stay)) in
    let h1 = part_has S K c.feed-in-Clamp.new.patterns _ _ (g.O.Outside.places c.feed-in-Clamp.new.outside) (g.O.Outside.places c.feed-in-Clamp-2.new.outside) fed at low c.deref_mut-in-Clamp-2.result.now c.feed-in-Clamp-2.new.self c.deref_mut-in-Clamp-2.ensures.value c.feed-in-Clamp.ensures.same c.in_ok-feed-in-Clamp-2.ensures.fed c.feed-in-Clamp-2.ensures.shape c.feed-in-Clamp-2.ensures.others in
    let m1 = h1.has f1 in
    let p2 = part_fed S K _ P fed at _ high own (λ f. f.4) (λ w h. h.2) (λ all ts h. h.2) (λ t s. s.2) (λ h. or_right (is_single (shape_of rows)) (is_single (shape_of low) || is_single (shape_of high)) (or_right (is_single (shape_of low)) (is_single (shape_of high)) h)) (λ d. distinct_right ys zs (distinct_right xs (ys ++ zs) d)) in
    let f2 = next_fed S K _ P fed at _ (g.O.Outside.places c.feed-in-Clamp-2.new.outside) high p2 m1.taken (grown_then own.goes_on.taken m0.taken m1.taken m0.grown m1.grown) m1.out (agree_then zs P (g.O.Outside.places c.feed-in-Clamp.new.outside) (g.O.Outside.places c.feed-in-Clamp-2.new.outside) (agree_right ys zs P (g.O.Outside.places c.feed-in-Clamp.new.outside) (second_agrees xs (ys ++ zs) P (g.O.Outside.places c.feed-in-Clamp.new.outside) own.goes_on.apart h0.stay)) (second_agrees ys zs (g.O.Outside.places c.feed-in-Clamp.new.outside) (g.O.Outside.places c.feed-in-Clamp-2.new.outside) (distinct_right xs (ys ++ zs) own.goes_on.apart) h1.stay)) in
    let h2 = part_has S K c.feed-in-Clamp-2.new.patterns _ _ (g.O.Outside.places c.feed-in-Clamp-2.new.outside) (g.O.Outside.places c.feed-in-Clamp-3.new.outside) fed at high c.deref_mut-in-Clamp-3.result.now c.feed-in-Clamp-3.new.self c.deref_mut-in-Clamp-3.ensures.value (c.feed-in-Clamp-2.ensures.same ∙ c.feed-in-Clamp.ensures.same) c.in_ok-feed-in-Clamp-3.ensures.fed c.feed-in-Clamp-3.ensures.shape c.feed-in-Clamp-3.ensures.others in
    let m2 = h2.has f2 in
    let a0 : Agree (places_of (shape_of c.feed-in-Clamp.new.self)) (g.O.Outside.places c.feed-in-Clamp.new.outside) (g.O.Outside.places c.feed-in-Clamp-3.new.outside) = subst (λ (s : Shape). Agree (places_of s) (g.O.Outside.places c.feed-in-Clamp.new.outside) (g.O.Outside.places c.feed-in-Clamp-3.new.outside)) (sym h0.shape) (first_agrees xs (ys ++ zs) (g.O.Outside.places c.feed-in-Clamp.new.outside) (g.O.Outside.places c.feed-in-Clamp-3.new.outside) own.goes_on.apart (stay_both ys zs (g.O.Outside.places c.feed-in-Clamp.new.outside) (g.O.Outside.places c.feed-in-Clamp-2.new.outside) (g.O.Outside.places c.feed-in-Clamp-3.new.outside) h1.stay h2.stay)) in
    let a1 : Agree (places_of (shape_of c.feed-in-Clamp-2.new.self)) (g.O.Outside.places c.feed-in-Clamp-2.new.outside) (g.O.Outside.places c.feed-in-Clamp-3.new.outside) = subst (λ (s : Shape). Agree (places_of s) (g.O.Outside.places c.feed-in-Clamp-2.new.outside) (g.O.Outside.places c.feed-in-Clamp-3.new.outside)) (sym h1.shape) (first_agrees ys zs (g.O.Outside.places c.feed-in-Clamp-2.new.outside) (g.O.Outside.places c.feed-in-Clamp-3.new.outside) (distinct_right xs (ys ++ zs) own.goes_on.apart) h2.stay) in
    let gg = completed m2.taken in
    let pp = completed_are own.goes_on.all own.goes_on.known m2.taken K _ (g.O.Outside.places c.feed-in-Clamp-3.new.outside) m2.out in
    (read_scalar low c.feed-in-Clamp-2.new.self c.deref-in-Clamp-2.result.now h1.shape c.deref-in-Clamp-2.ensures own.goes_on.fit.0, read_scalar high c.feed-in-Clamp-3.new.self c.deref-in-Clamp-3.result.now h2.shape c.deref-in-Clamp-3.ensures own.goes_on.fit.1)

pub Node::feed-returns-in_err-feed-in-Clamp-clause-others : goal.Node::feed-returns-in_err-feed-in-Clamp-clause-others
Node::feed-returns-in_err-feed-in-Clamp-clause-others g t c =
    let P = (g.O.Outside.places c.args.outside.now) in
    let rows = c.in-Clamp.rows.value in
    let low = c.in-Clamp.low.value in
    let high = c.in-Clamp.high.value in
    let xs = places_of (shape_of rows) in
    let ys = places_of (shape_of low) in
    let zs = places_of (shape_of high) in
    let s0 = stay_as P (g.O.Outside.places c.feed-in-Clamp.new.outside) rows c.deref_mut-in-Clamp.result.now c.deref_mut-in-Clamp.ensures.value c.feed-in-Clamp.ensures.others in
    stay_self P (g.O.Outside.places c.feed-in-Clamp.new.outside) c.args.self.now _ c.in-Clamp.is (stay_left xs (ys ++ zs) P (g.O.Outside.places c.feed-in-Clamp.new.outside) s0)

pub Node::feed-returns-in_err-feed-in-Clamp-clause-run : goal.Node::feed-returns-in_err-feed-in-Clamp-clause-run
Node::feed-returns-in_err-feed-in-Clamp-clause-run g t c =
    run_fault _ c.from_residual-in_err-feed-in-Clamp.result _ _ c.from_residual-in_err-feed-in-Clamp.ensures.1 c.in_err-feed-in-Clamp.ensures.run

pub Node::feed-returns-in_err-feed-in-Clamp-2-clause-others : goal.Node::feed-returns-in_err-feed-in-Clamp-2-clause-others
Node::feed-returns-in_err-feed-in-Clamp-2-clause-others g t c =
    let P = (g.O.Outside.places c.args.outside.now) in
    let rows = c.in-Clamp.rows.value in
    let low = c.in-Clamp.low.value in
    let high = c.in-Clamp.high.value in
    let xs = places_of (shape_of rows) in
    let ys = places_of (shape_of low) in
    let zs = places_of (shape_of high) in
    let s0 = stay_as P (g.O.Outside.places c.feed-in-Clamp.new.outside) rows c.deref_mut-in-Clamp.result.now c.deref_mut-in-Clamp.ensures.value c.feed-in-Clamp.ensures.others in
    let s1 = stay_as (g.O.Outside.places c.feed-in-Clamp.new.outside) (g.O.Outside.places c.feed-in-Clamp-2.new.outside) low c.deref_mut-in-Clamp-2.result.now c.deref_mut-in-Clamp-2.ensures.value c.feed-in-Clamp-2.ensures.others in
    stay_self P (g.O.Outside.places c.feed-in-Clamp-2.new.outside) c.args.self.now _ c.in-Clamp.is (stay_both xs (ys ++ zs) P (g.O.Outside.places c.feed-in-Clamp.new.outside) (g.O.Outside.places c.feed-in-Clamp-2.new.outside) s0 (stay_left ys zs (g.O.Outside.places c.feed-in-Clamp.new.outside) (g.O.Outside.places c.feed-in-Clamp-2.new.outside) s1))

pub Node::feed-returns-in_err-feed-in-Clamp-2-clause-run : goal.Node::feed-returns-in_err-feed-in-Clamp-2-clause-run
Node::feed-returns-in_err-feed-in-Clamp-2-clause-run g t c =
    run_then _ _ _ _ _ c.in_ok-feed-in-Clamp.ensures.run (run_fault _ c.from_residual-in_err-feed-in-Clamp-2.result _ _ c.from_residual-in_err-feed-in-Clamp-2.ensures.1 c.in_err-feed-in-Clamp-2.ensures.run)

pub Node::feed-returns-in_err-feed-in-Clamp-3-clause-others : goal.Node::feed-returns-in_err-feed-in-Clamp-3-clause-others
Node::feed-returns-in_err-feed-in-Clamp-3-clause-others g t c =
    let P = (g.O.Outside.places c.args.outside.now) in
    let rows = c.in-Clamp.rows.value in
    let low = c.in-Clamp.low.value in
    let high = c.in-Clamp.high.value in
    let xs = places_of (shape_of rows) in
    let ys = places_of (shape_of low) in
    let zs = places_of (shape_of high) in
    let s0 = stay_as P (g.O.Outside.places c.feed-in-Clamp.new.outside) rows c.deref_mut-in-Clamp.result.now c.deref_mut-in-Clamp.ensures.value c.feed-in-Clamp.ensures.others in
    let s1 = stay_as (g.O.Outside.places c.feed-in-Clamp.new.outside) (g.O.Outside.places c.feed-in-Clamp-2.new.outside) low c.deref_mut-in-Clamp-2.result.now c.deref_mut-in-Clamp-2.ensures.value c.feed-in-Clamp-2.ensures.others in
    let s2 = stay_as (g.O.Outside.places c.feed-in-Clamp-2.new.outside) (g.O.Outside.places c.feed-in-Clamp-3.new.outside) high c.deref_mut-in-Clamp-3.result.now c.deref_mut-in-Clamp-3.ensures.value c.feed-in-Clamp-3.ensures.others in
    stay_self P (g.O.Outside.places c.feed-in-Clamp-3.new.outside) c.args.self.now _ c.in-Clamp.is (stay_both xs (ys ++ zs) P (g.O.Outside.places c.feed-in-Clamp.new.outside) (g.O.Outside.places c.feed-in-Clamp-3.new.outside) s0 (stay_both ys zs (g.O.Outside.places c.feed-in-Clamp.new.outside) (g.O.Outside.places c.feed-in-Clamp-2.new.outside) (g.O.Outside.places c.feed-in-Clamp-3.new.outside) s1 s2))

pub Node::feed-returns-in_err-feed-in-Clamp-3-clause-run : goal.Node::feed-returns-in_err-feed-in-Clamp-3-clause-run
Node::feed-returns-in_err-feed-in-Clamp-3-clause-run g t c =
    run_then _ _ _ _ _ (run_then _ _ _ _ _ c.in_ok-feed-in-Clamp.ensures.run c.in_ok-feed-in-Clamp-2.ensures.run) (run_fault _ c.from_residual-in_err-feed-in-Clamp-3.result _ _ c.from_residual-in_err-feed-in-Clamp-3.ensures.1 c.in_err-feed-in-Clamp-3.ensures.run)

pub Node::feed-returns-in_ok-feed-in-Clamp-3-clause-others : goal.Node::feed-returns-in_ok-feed-in-Clamp-3-clause-others
Node::feed-returns-in_ok-feed-in-Clamp-3-clause-others g t c =
    let P = (g.O.Outside.places c.args.outside.now) in
    let rows = c.in-Clamp.rows.value in
    let low = c.in-Clamp.low.value in
    let high = c.in-Clamp.high.value in
    let xs = places_of (shape_of rows) in
    let ys = places_of (shape_of low) in
    let zs = places_of (shape_of high) in
    let s0 = stay_as P (g.O.Outside.places c.feed-in-Clamp.new.outside) rows c.deref_mut-in-Clamp.result.now c.deref_mut-in-Clamp.ensures.value c.feed-in-Clamp.ensures.others in
    let s1 = stay_as (g.O.Outside.places c.feed-in-Clamp.new.outside) (g.O.Outside.places c.feed-in-Clamp-2.new.outside) low c.deref_mut-in-Clamp-2.result.now c.deref_mut-in-Clamp-2.ensures.value c.feed-in-Clamp-2.ensures.others in
    let s2 = stay_as (g.O.Outside.places c.feed-in-Clamp-2.new.outside) (g.O.Outside.places c.feed-in-Clamp-3.new.outside) high c.deref_mut-in-Clamp-3.result.now c.deref_mut-in-Clamp-3.ensures.value c.feed-in-Clamp-3.ensures.others in
    stay_self P (g.O.Outside.places c.feed-in-Clamp-3.new.outside) c.args.self.now _ c.in-Clamp.is (stay_both xs (ys ++ zs) P (g.O.Outside.places c.feed-in-Clamp.new.outside) (g.O.Outside.places c.feed-in-Clamp-3.new.outside) s0 (stay_both ys zs (g.O.Outside.places c.feed-in-Clamp.new.outside) (g.O.Outside.places c.feed-in-Clamp-2.new.outside) (g.O.Outside.places c.feed-in-Clamp-3.new.outside) s1 s2))

pub Node::feed-returns-in_ok-feed-in-Clamp-3-clause-run : goal.Node::feed-returns-in_ok-feed-in-Clamp-3-clause-run
Node::feed-returns-in_ok-feed-in-Clamp-3-clause-run g t c =
    own_behind _ c.clamp_fed.result _ _ c.clamp_fed.ensures.memory (run_then _ _ _ _ _ (run_then _ _ _ _ _ c.in_ok-feed-in-Clamp.ensures.run c.in_ok-feed-in-Clamp-2.ensures.run) c.in_ok-feed-in-Clamp-3.ensures.run)

pub Node::feed-returns-in_ok-feed-in-Clamp-3-clause-fed : goal.Node::feed-returns-in_ok-feed-in-Clamp-3-clause-fed
Node::feed-returns-in_ok-feed-in-Clamp-3-clause-fed g t c =
    let S = c.args.store.now in
    let K = c.args.patterns.now in
    let at = c.args.at.now in
    let fed = c.args.fed in
    let P = (g.O.Outside.places c.args.outside.now) in
    let rows = c.in-Clamp.rows.value in
    let low = c.in-Clamp.low.value in
    let high = c.in-Clamp.high.value in
    let xs = places_of (shape_of rows) in
    let ys = places_of (shape_of low) in
    let zs = places_of (shape_of high) in
    on_ok c.clamp_fed.result (c.clamp_fed.ensures.lent) (λ f. fed_as S K _ _ P (g.O.Outside.places c.feed-in-Clamp-3.new.outside) fed at c.args.self.now _ _ c.in-Clamp.is (λ c0.
    let f0 = part_fed S K _ P fed at _ rows c0 (λ f. f.2) (λ w h. h.0) (λ all ts h. h.0) (λ t s. s.0) (λ h. or_left (is_single (shape_of rows)) (is_single (shape_of low) || is_single (shape_of high)) h) (λ d. distinct_left xs (ys ++ zs) d) in
    let h0 = part_has S K K _ _ P (g.O.Outside.places c.feed-in-Clamp.new.outside) fed at rows c.deref_mut-in-Clamp.result.now c.feed-in-Clamp.new.self c.deref_mut-in-Clamp.ensures.value refl c.in_ok-feed-in-Clamp.ensures.fed c.feed-in-Clamp.ensures.shape c.feed-in-Clamp.ensures.others in
    let m0 = h0.has f0 in
    let p1 = part_fed S K _ P fed at _ low c0 (λ f. f.3) (λ w h. h.1) (λ all ts h. h.1) (λ t s. s.1) (λ h. or_right (is_single (shape_of rows)) (is_single (shape_of low) || is_single (shape_of high)) (or_left (is_single (shape_of low)) (is_single (shape_of high)) h)) (λ d. distinct_left ys zs (distinct_right xs (ys ++ zs) d)) in
    let f1 = next_fed S K _ P fed at _ (g.O.Outside.places c.feed-in-Clamp.new.outside) low p1 m0.taken (m0.grown) m0.out (agree_left ys zs P (g.O.Outside.places c.feed-in-Clamp.new.outside) (second_agrees xs (ys ++ zs) P (g.O.Outside.places c.feed-in-Clamp.new.outside) c0.goes_on.apart h0.stay)) in
    let h1 = part_has S K c.feed-in-Clamp.new.patterns _ _ (g.O.Outside.places c.feed-in-Clamp.new.outside) (g.O.Outside.places c.feed-in-Clamp-2.new.outside) fed at low c.deref_mut-in-Clamp-2.result.now c.feed-in-Clamp-2.new.self c.deref_mut-in-Clamp-2.ensures.value c.feed-in-Clamp.ensures.same c.in_ok-feed-in-Clamp-2.ensures.fed c.feed-in-Clamp-2.ensures.shape c.feed-in-Clamp-2.ensures.others in
    let m1 = h1.has f1 in
    let p2 = part_fed S K _ P fed at _ high c0 (λ f. f.4) (λ w h. h.2) (λ all ts h. h.2) (λ t s. s.2) (λ h. or_right (is_single (shape_of rows)) (is_single (shape_of low) || is_single (shape_of high)) (or_right (is_single (shape_of low)) (is_single (shape_of high)) h)) (λ d. distinct_right ys zs (distinct_right xs (ys ++ zs) d)) in
    let f2 = next_fed S K _ P fed at _ (g.O.Outside.places c.feed-in-Clamp-2.new.outside) high p2 m1.taken (grown_then c0.goes_on.taken m0.taken m1.taken m0.grown m1.grown) m1.out (agree_then zs P (g.O.Outside.places c.feed-in-Clamp.new.outside) (g.O.Outside.places c.feed-in-Clamp-2.new.outside) (agree_right ys zs P (g.O.Outside.places c.feed-in-Clamp.new.outside) (second_agrees xs (ys ++ zs) P (g.O.Outside.places c.feed-in-Clamp.new.outside) c0.goes_on.apart h0.stay)) (second_agrees ys zs (g.O.Outside.places c.feed-in-Clamp.new.outside) (g.O.Outside.places c.feed-in-Clamp-2.new.outside) (distinct_right xs (ys ++ zs) c0.goes_on.apart) h1.stay)) in
    let h2 = part_has S K c.feed-in-Clamp-2.new.patterns _ _ (g.O.Outside.places c.feed-in-Clamp-2.new.outside) (g.O.Outside.places c.feed-in-Clamp-3.new.outside) fed at high c.deref_mut-in-Clamp-3.result.now c.feed-in-Clamp-3.new.self c.deref_mut-in-Clamp-3.ensures.value (c.feed-in-Clamp-2.ensures.same ∙ c.feed-in-Clamp.ensures.same) c.in_ok-feed-in-Clamp-3.ensures.fed c.feed-in-Clamp-3.ensures.shape c.feed-in-Clamp-3.ensures.others in
    let m2 = h2.has f2 in
    let a0 : Agree (places_of (shape_of c.feed-in-Clamp.new.self)) (g.O.Outside.places c.feed-in-Clamp.new.outside) (g.O.Outside.places c.feed-in-Clamp-3.new.outside) = subst (λ (s : Shape). Agree (places_of s) (g.O.Outside.places c.feed-in-Clamp.new.outside) (g.O.Outside.places c.feed-in-Clamp-3.new.outside)) (sym h0.shape) (first_agrees xs (ys ++ zs) (g.O.Outside.places c.feed-in-Clamp.new.outside) (g.O.Outside.places c.feed-in-Clamp-3.new.outside) c0.goes_on.apart (stay_both ys zs (g.O.Outside.places c.feed-in-Clamp.new.outside) (g.O.Outside.places c.feed-in-Clamp-2.new.outside) (g.O.Outside.places c.feed-in-Clamp-3.new.outside) h1.stay h2.stay)) in
    let a1 : Agree (places_of (shape_of c.feed-in-Clamp-2.new.self)) (g.O.Outside.places c.feed-in-Clamp-2.new.outside) (g.O.Outside.places c.feed-in-Clamp-3.new.outside) = subst (λ (s : Shape). Agree (places_of s) (g.O.Outside.places c.feed-in-Clamp-2.new.outside) (g.O.Outside.places c.feed-in-Clamp-3.new.outside)) (sym h1.shape) (first_agrees ys zs (g.O.Outside.places c.feed-in-Clamp-2.new.outside) (g.O.Outside.places c.feed-in-Clamp-3.new.outside) (distinct_right xs (ys ++ zs) c0.goes_on.apart) h2.stay) in
    record {
      taken = m2.taken;
      grown = grown_then c0.goes_on.taken m1.taken m2.taken (grown_then c0.goes_on.taken m0.taken m1.taken m0.grown m1.grown) m2.grown;
      out = m2.out;
      lent = λ gg pp. f (rule (world S gg) K (shape_of rows)) (rule (world S gg) K (shape_of low)) (rule (world S gg) K (shape_of high)) at (read_steps (g.O.Outside.places c.feed-in-Clamp-3.new.outside) c.feed-in-Clamp.new.self c.deref-in-Clamp.result.now _ c.deref-in-Clamp.ensures (kept_steps (g.O.Outside.places c.feed-in-Clamp.new.outside) (g.O.Outside.places c.feed-in-Clamp-3.new.outside) c.feed-in-Clamp.new.self _ a0 (m0.lent gg (possible_before m0.taken m2.taken gg (grown_then m0.taken m1.taken m2.taken m1.grown m2.grown) pp)))) (read_steps (g.O.Outside.places c.feed-in-Clamp-3.new.outside) c.feed-in-Clamp-2.new.self c.deref-in-Clamp-2.result.now _ c.deref-in-Clamp-2.ensures (kept_steps (g.O.Outside.places c.feed-in-Clamp-2.new.outside) (g.O.Outside.places c.feed-in-Clamp-3.new.outside) c.feed-in-Clamp-2.new.self _ a1 (m1.lent gg (possible_before m1.taken m2.taken gg m2.grown pp)))) (read_steps (g.O.Outside.places c.feed-in-Clamp-3.new.outside) c.feed-in-Clamp-3.new.self c.deref-in-Clamp-3.result.now _ c.deref-in-Clamp-3.ensures (m2.lent gg pp));
      can = λ gg pp. (
        can_kept (world S gg) K (g.O.Outside.places c.feed-in-Clamp.new.outside) (g.O.Outside.places c.feed-in-Clamp-3.new.outside) (fed_on fed at) c.feed-in-Clamp.new.self a0 (m0.can gg (possible_before m0.taken m2.taken gg (grown_then m0.taken m1.taken m2.taken m1.grown m2.grown) pp)),
        can_kept (world S gg) K (g.O.Outside.places c.feed-in-Clamp-2.new.outside) (g.O.Outside.places c.feed-in-Clamp-3.new.outside) (fed_on fed at) c.feed-in-Clamp-2.new.self a1 (m1.can gg (possible_before m1.taken m2.taken gg m2.grown pp)),
        m2.can gg pp,
      );
      come = (
        come_kept c0.goes_on.all (g.O.Outside.places c.feed-in-Clamp.new.outside) (g.O.Outside.places c.feed-in-Clamp-3.new.outside) c0.times (fed_on fed at) c.feed-in-Clamp.new.self a0 m0.come,
        come_kept c0.goes_on.all (g.O.Outside.places c.feed-in-Clamp-2.new.outside) (g.O.Outside.places c.feed-in-Clamp-3.new.outside) c0.times (fed_on fed at) c.feed-in-Clamp-2.new.self a1 m1.come,
        m2.come,
      );
    }))

pub Node::feed-feed-requires-in-Points : goal.Node::feed-feed-requires-in-Points
Node::feed-feed-requires-in-Points g t c κs within =
    let S = c.args.store.now in
    let K = c.args.patterns.now in
    let at = c.args.at.now in
    let fed = c.args.fed in
    let P = (g.O.Outside.places c.args.outside.now) in
    let own = as_tree S K _ P fed at c.args.self.now _ c.in-Points.is c.requires in
    let scalar = c.in-Points.scalar.value in
    let inner = c.in-Points.inner.value in
    let xs = places_of (shape_of scalar) in
    let ys = places_of (shape_of inner) in
    let f0 = part_fed S K _ P fed at _ scalar own (λ f. f.3) (λ w h. h.2) (λ all ts h. h.0) (λ t s. s.2) (λ h. refl) (λ d. distinct_left xs ys d) in
    let whole = ap (λ (n : Node). height (shape_of n)) c.in-Points.is in
    let part = ap (λ (n : Node). height (shape_of n)) c.deref_mut-in-Points.ensures.value in
    (omega (arith, c.decreases, whole, part), (within.0, (within.1, fed_given S K _ P fed at K scalar c.deref_mut-in-Points.result.now c.deref_mut-in-Points.ensures.value (refl) f0)))

pub Node::feed-fill-requires : goal.Node::feed-fill-requires
Node::feed-fill-requires g t c κs within =
    let S = c.args.store.now in
    let K = c.args.patterns.now in
    let at = c.args.at.now in
    let fed = c.args.fed in
    let P = (g.O.Outside.places c.args.outside.now) in
    let own = as_tree S K _ P fed at c.args.self.now _ c.in-Points.is c.requires in
    let scalar = c.in-Points.scalar.value in
    let inner = c.in-Points.inner.value in
    let xs = places_of (shape_of scalar) in
    let ys = places_of (shape_of inner) in
    let f0 = part_fed S K _ P fed at _ scalar own (λ f. f.3) (λ w h. h.2) (λ all ts h. h.0) (λ t s. s.2) (λ h. refl) (λ d. distinct_left xs ys d) in
    let h0 = part_has S K K _ _ P (g.O.Outside.places c.feed-in-Points.new.outside) fed at scalar c.deref_mut-in-Points.result.now c.feed-in-Points.new.self c.deref_mut-in-Points.ensures.value refl c.in_ok-feed-in-Points.ensures.fed c.feed-in-Points.ensures.shape c.feed-in-Points.ensures.others in
    let m0 = h0.has f0 in
    let k = c.in-Points.kernel in
    let inner_fed = c.in-Points.inner_fed in
    let u : Ms = get_or at 0 (record { 0 = pos 0 }) in
    let one : at ≡ u ∷ [] = one_at at (record { 0 = pos 0 }) (own.single refl) in
    let stays = (subst (λ (ts : List Ms). AllByRecursion (λ (t : Ms). IsTime t.0 × IsAskedOn k.walk k.points.moment k.points.range k.points.step t.0 × StaysInTimes (shape_of scalar) t.0) ts) one own.stays).0 in
    let goes = subst (λ (ts : List Ms). Goes fed ts) one own.goes in
    let agree = second_agrees xs ys P (g.O.Outside.places c.feed-in-Points.new.outside) own.goes_on.apart h0.stay in
    let kp = completed_are own.goes_on.all own.goes_on.known own.goes_on.taken K _ P own.goes_on.out in
    let cf = points_fill S K _ P (g.O.Outside.places c.feed-in-Points.new.outside) fed k inner_fed inner u own.goes_on.all own.goes_on.known own.goes_on.taken m0.taken (λ g p. ((own.goes_on.can g p).0, (own.goes_on.can g p).1)) own.goes_on.come.1 own.goes_on.come.2 own.goes_on.come.3
    own.goes_on.fit.2 (distinct_right xs ys own.goes_on.apart) own.goes_on.fit.0 (own.goes_on.can (completed own.goes_on.taken) kp).0.next stays.1 goes m0.grown m0.out agree in
    let whole = ap (λ (n : Node). height (shape_of n)) c.in-Points.is in
    let part = ap (λ (n : Node). height (shape_of n)) c.deref_mut-in-Points-2.ensures.value in
    (omega (arith, c.decreases, whole, part), (within.0, (within.1, fill_given S K c.feed-in-Points.new.patterns _ (g.O.Outside.places c.feed-in-Points.new.outside) inner_fed k u inner c.deref_mut-in-Points-2.result.now c.deref_mut-in-Points-2.ensures.value c.feed-in-Points.ensures.same cf)))

pub Node::feed-points_fed-requires-clause-there : goal.Node::feed-points_fed-requires-clause-there
Node::feed-points_fed-requires-clause-there g t c =
    let S = c.args.store.now in
    let K = c.args.patterns.now in
    let at = c.args.at.now in
    let fed = c.args.fed in
    let P = (g.O.Outside.places c.args.outside.now) in
    let own = as_tree S K _ P fed at c.args.self.now _ c.in-Points.is c.requires in
    let scalar = c.in-Points.scalar.value in
    let inner = c.in-Points.inner.value in
    let xs = places_of (shape_of scalar) in
    let ys = places_of (shape_of inner) in
    let f0 = part_fed S K _ P fed at _ scalar own (λ f. f.3) (λ w h. h.2) (λ all ts h. h.0) (λ t s. s.2) (λ h. refl) (λ d. distinct_left xs ys d) in
    let h0 = part_has S K K _ _ P (g.O.Outside.places c.feed-in-Points.new.outside) fed at scalar c.deref_mut-in-Points.result.now c.feed-in-Points.new.self c.deref_mut-in-Points.ensures.value refl c.in_ok-feed-in-Points.ensures.fed c.feed-in-Points.ensures.shape c.feed-in-Points.ensures.others in
    let m0 = h0.has f0 in
    let k = c.in-Points.kernel in
    let inner_fed = c.in-Points.inner_fed in
    let u : Ms = get_or at 0 (record { 0 = pos 0 }) in
    let one : at ≡ u ∷ [] = one_at at (record { 0 = pos 0 }) (own.single refl) in
    let stays = (subst (λ (ts : List Ms). AllByRecursion (λ (t : Ms). IsTime t.0 × IsAskedOn k.walk k.points.moment k.points.range k.points.step t.0 × StaysInTimes (shape_of scalar) t.0) ts) one own.stays).0 in
    let goes = subst (λ (ts : List Ms). Goes fed ts) one own.goes in
    let agree = second_agrees xs ys P (g.O.Outside.places c.feed-in-Points.new.outside) own.goes_on.apart h0.stay in
    let kp = completed_are own.goes_on.all own.goes_on.known own.goes_on.taken K _ P own.goes_on.out in
    let cf = points_fill S K _ P (g.O.Outside.places c.feed-in-Points.new.outside) fed k inner_fed inner u own.goes_on.all own.goes_on.known own.goes_on.taken m0.taken (λ g p. ((own.goes_on.can g p).0, (own.goes_on.can g p).1)) own.goes_on.come.1 own.goes_on.come.2 own.goes_on.come.3
    own.goes_on.fit.2 (distinct_right xs ys own.goes_on.apart) own.goes_on.fit.0 (own.goes_on.can (completed own.goes_on.taken) kp).0.next stays.1 goes m0.grown m0.out agree in
    let end = c.in_ok-inner_fed-in-Points.field-0 in
    let hf = fill_has S K c.feed-in-Points.new.patterns _ _ (g.O.Outside.places c.feed-in-Points.new.outside) (g.O.Outside.places c.fill.new.outside) inner_fed end k c.fill.new.kernel u inner c.deref_mut-in-Points-2.result.now c.fill.new.inner c.deref_mut-in-Points-2.ensures.value c.feed-in-Points.ensures.same c.in_ok-inner_fed-in-Points.ensures.filled cf in
    let stay : Stay ys (g.O.Outside.places c.feed-in-Points.new.outside) (g.O.Outside.places c.fill.new.outside) = stay_as (g.O.Outside.places c.feed-in-Points.new.outside) (g.O.Outside.places c.fill.new.outside) inner c.deref_mut-in-Points-2.result.now c.deref_mut-in-Points-2.ensures.value c.fill.ensures.others in
    let a0 : Agree (places_of (shape_of c.feed-in-Points.new.self)) (g.O.Outside.places c.feed-in-Points.new.outside) (g.O.Outside.places c.fill.new.outside) = subst (λ (s : Shape). Agree (places_of s) (g.O.Outside.places c.feed-in-Points.new.outside) (g.O.Outside.places c.fill.new.outside)) (sym h0.shape) (first_agrees xs ys (g.O.Outside.places c.feed-in-Points.new.outside) (g.O.Outside.places c.fill.new.outside) own.goes_on.apart stay) in
    let new = c.fill.new.kernel in
    let gg = completed hf.taken in
    let pp = completed_are own.goes_on.all own.goes_on.known hf.taken K _ (g.O.Outside.places c.fill.new.outside) hf.out in
    read_there (g.O.Outside.places c.fill.new.outside) c.feed-in-Points.new.self c.deref-in-Points.result.now c.deref-in-Points.ensures
    (come_there own.goes_on.all (g.O.Outside.places c.fill.new.outside) own.times (fed_on fed at) c.feed-in-Points.new.self (come_kept own.goes_on.all (g.O.Outside.places c.feed-in-Points.new.outside) (g.O.Outside.places c.fill.new.outside) own.times (fed_on fed at) c.feed-in-Points.new.self a0 m0.come))

pub Node::feed-points_fed-requires-clause-asked : goal.Node::feed-points_fed-requires-clause-asked
Node::feed-points_fed-requires-clause-asked g t c =
    let S = c.args.store.now in
    let K = c.args.patterns.now in
    let at = c.args.at.now in
    let fed = c.args.fed in
    let P = (g.O.Outside.places c.args.outside.now) in
    let own = as_tree S K _ P fed at c.args.self.now _ c.in-Points.is c.requires in
    let scalar = c.in-Points.scalar.value in
    let inner = c.in-Points.inner.value in
    let xs = places_of (shape_of scalar) in
    let ys = places_of (shape_of inner) in
    let f0 = part_fed S K _ P fed at _ scalar own (λ f. f.3) (λ w h. h.2) (λ all ts h. h.0) (λ t s. s.2) (λ h. refl) (λ d. distinct_left xs ys d) in
    let h0 = part_has S K K _ _ P (g.O.Outside.places c.feed-in-Points.new.outside) fed at scalar c.deref_mut-in-Points.result.now c.feed-in-Points.new.self c.deref_mut-in-Points.ensures.value refl c.in_ok-feed-in-Points.ensures.fed c.feed-in-Points.ensures.shape c.feed-in-Points.ensures.others in
    let m0 = h0.has f0 in
    let k = c.in-Points.kernel in
    let inner_fed = c.in-Points.inner_fed in
    let u : Ms = get_or at 0 (record { 0 = pos 0 }) in
    let one : at ≡ u ∷ [] = one_at at (record { 0 = pos 0 }) (own.single refl) in
    let stays = (subst (λ (ts : List Ms). AllByRecursion (λ (t : Ms). IsTime t.0 × IsAskedOn k.walk k.points.moment k.points.range k.points.step t.0 × StaysInTimes (shape_of scalar) t.0) ts) one own.stays).0 in
    let goes = subst (λ (ts : List Ms). Goes fed ts) one own.goes in
    let agree = second_agrees xs ys P (g.O.Outside.places c.feed-in-Points.new.outside) own.goes_on.apart h0.stay in
    let kp = completed_are own.goes_on.all own.goes_on.known own.goes_on.taken K _ P own.goes_on.out in
    let cf = points_fill S K _ P (g.O.Outside.places c.feed-in-Points.new.outside) fed k inner_fed inner u own.goes_on.all own.goes_on.known own.goes_on.taken m0.taken (λ g p. ((own.goes_on.can g p).0, (own.goes_on.can g p).1)) own.goes_on.come.1 own.goes_on.come.2 own.goes_on.come.3
    own.goes_on.fit.2 (distinct_right xs ys own.goes_on.apart) own.goes_on.fit.0 (own.goes_on.can (completed own.goes_on.taken) kp).0.next stays.1 goes m0.grown m0.out agree in
    let end = c.in_ok-inner_fed-in-Points.field-0 in
    let hf = fill_has S K c.feed-in-Points.new.patterns _ _ (g.O.Outside.places c.feed-in-Points.new.outside) (g.O.Outside.places c.fill.new.outside) inner_fed end k c.fill.new.kernel u inner c.deref_mut-in-Points-2.result.now c.fill.new.inner c.deref_mut-in-Points-2.ensures.value c.feed-in-Points.ensures.same c.in_ok-inner_fed-in-Points.ensures.filled cf in
    let stay : Stay ys (g.O.Outside.places c.feed-in-Points.new.outside) (g.O.Outside.places c.fill.new.outside) = stay_as (g.O.Outside.places c.feed-in-Points.new.outside) (g.O.Outside.places c.fill.new.outside) inner c.deref_mut-in-Points-2.result.now c.deref_mut-in-Points-2.ensures.value c.fill.ensures.others in
    let a0 : Agree (places_of (shape_of c.feed-in-Points.new.self)) (g.O.Outside.places c.feed-in-Points.new.outside) (g.O.Outside.places c.fill.new.outside) = subst (λ (s : Shape). Agree (places_of s) (g.O.Outside.places c.feed-in-Points.new.outside) (g.O.Outside.places c.fill.new.outside)) (sym h0.shape) (first_agrees xs ys (g.O.Outside.places c.feed-in-Points.new.outside) (g.O.Outside.places c.fill.new.outside) own.goes_on.apart stay) in
    let new = c.fill.new.kernel in
    let gg = completed hf.taken in
    let pp = completed_are own.goes_on.all own.goes_on.known hf.taken K _ (g.O.Outside.places c.fill.new.outside) hf.out in
    let asked = cf.asked gg (possible_before m0.taken hf.taken gg hf.grown pp) in
    let now : IsAsked new cf.outer (rule (world S gg) K (shape_of inner)) cf.last u = record { stands = hf.stands gg pp cf.outer cf.last asked; on = asked.on; later = asked.later } in
    (cf.outer, rule (world S gg) K (shape_of inner), cf.last, now)

pub Node::feed-points_fed-requires-clause-time : goal.Node::feed-points_fed-requires-clause-time
Node::feed-points_fed-requires-clause-time g t c =
    let S = c.args.store.now in
    let K = c.args.patterns.now in
    let at = c.args.at.now in
    let fed = c.args.fed in
    let P = (g.O.Outside.places c.args.outside.now) in
    let own = as_tree S K _ P fed at c.args.self.now _ c.in-Points.is c.requires in
    let scalar = c.in-Points.scalar.value in
    let inner = c.in-Points.inner.value in
    let k = c.in-Points.kernel in
    let u : Ms = get_or at 0 (record { 0 = pos 0 }) in
    let one : at ≡ u ∷ [] = one_at at (record { 0 = pos 0 }) (own.single refl) in
    (subst (λ (ts : List Ms). AllByRecursion (λ (t : Ms). IsTime t.0 × IsAskedOn k.walk k.points.moment k.points.range k.points.step t.0 × StaysInTimes (shape_of scalar) t.0) ts) one own.stays).0.0

pub Node::feed-points_fed-requires-clause-lends : goal.Node::feed-points_fed-requires-clause-lends
Node::feed-points_fed-requires-clause-lends g t c =
    let S = c.args.store.now in
    let K = c.args.patterns.now in
    let at = c.args.at.now in
    let fed = c.args.fed in
    let P = (g.O.Outside.places c.args.outside.now) in
    let own = as_tree S K _ P fed at c.args.self.now _ c.in-Points.is c.requires in
    let scalar = c.in-Points.scalar.value in
    let inner = c.in-Points.inner.value in
    let xs = places_of (shape_of scalar) in
    let ys = places_of (shape_of inner) in
    let f0 = part_fed S K _ P fed at _ scalar own (λ f. f.3) (λ w h. h.2) (λ all ts h. h.0) (λ t s. s.2) (λ h. refl) (λ d. distinct_left xs ys d) in
    let h0 = part_has S K K _ _ P (g.O.Outside.places c.feed-in-Points.new.outside) fed at scalar c.deref_mut-in-Points.result.now c.feed-in-Points.new.self c.deref_mut-in-Points.ensures.value refl c.in_ok-feed-in-Points.ensures.fed c.feed-in-Points.ensures.shape c.feed-in-Points.ensures.others in
    let m0 = h0.has f0 in
    let k = c.in-Points.kernel in
    let inner_fed = c.in-Points.inner_fed in
    let u : Ms = get_or at 0 (record { 0 = pos 0 }) in
    let one : at ≡ u ∷ [] = one_at at (record { 0 = pos 0 }) (own.single refl) in
    let stays = (subst (λ (ts : List Ms). AllByRecursion (λ (t : Ms). IsTime t.0 × IsAskedOn k.walk k.points.moment k.points.range k.points.step t.0 × StaysInTimes (shape_of scalar) t.0) ts) one own.stays).0 in
    let goes = subst (λ (ts : List Ms). Goes fed ts) one own.goes in
    let agree = second_agrees xs ys P (g.O.Outside.places c.feed-in-Points.new.outside) own.goes_on.apart h0.stay in
    let kp = completed_are own.goes_on.all own.goes_on.known own.goes_on.taken K _ P own.goes_on.out in
    let cf = points_fill S K _ P (g.O.Outside.places c.feed-in-Points.new.outside) fed k inner_fed inner u own.goes_on.all own.goes_on.known own.goes_on.taken m0.taken (λ g p. ((own.goes_on.can g p).0, (own.goes_on.can g p).1)) own.goes_on.come.1 own.goes_on.come.2 own.goes_on.come.3
    own.goes_on.fit.2 (distinct_right xs ys own.goes_on.apart) own.goes_on.fit.0 (own.goes_on.can (completed own.goes_on.taken) kp).0.next stays.1 goes m0.grown m0.out agree in
    let end = c.in_ok-inner_fed-in-Points.field-0 in
    let hf = fill_has S K c.feed-in-Points.new.patterns _ _ (g.O.Outside.places c.feed-in-Points.new.outside) (g.O.Outside.places c.fill.new.outside) inner_fed end k c.fill.new.kernel u inner c.deref_mut-in-Points-2.result.now c.fill.new.inner c.deref_mut-in-Points-2.ensures.value c.feed-in-Points.ensures.same c.in_ok-inner_fed-in-Points.ensures.filled cf in
    let stay : Stay ys (g.O.Outside.places c.feed-in-Points.new.outside) (g.O.Outside.places c.fill.new.outside) = stay_as (g.O.Outside.places c.feed-in-Points.new.outside) (g.O.Outside.places c.fill.new.outside) inner c.deref_mut-in-Points-2.result.now c.deref_mut-in-Points-2.ensures.value c.fill.ensures.others in
    let a0 : Agree (places_of (shape_of c.feed-in-Points.new.self)) (g.O.Outside.places c.feed-in-Points.new.outside) (g.O.Outside.places c.fill.new.outside) = subst (λ (s : Shape). Agree (places_of s) (g.O.Outside.places c.feed-in-Points.new.outside) (g.O.Outside.places c.fill.new.outside)) (sym h0.shape) (first_agrees xs ys (g.O.Outside.places c.feed-in-Points.new.outside) (g.O.Outside.places c.fill.new.outside) own.goes_on.apart stay) in
    let new = c.fill.new.kernel in
    let gg = completed hf.taken in
    let pp = completed_are own.goes_on.all own.goes_on.known hf.taken K _ (g.O.Outside.places c.fill.new.outside) hf.out in
    read_lending (world S gg) K (u ∷ []) (g.O.Outside.places c.fill.new.outside) scalar c.feed-in-Points.new.self c.deref-in-Points.result.now h0.shape c.deref-in-Points.ensures
    (kept_steps (g.O.Outside.places c.feed-in-Points.new.outside) (g.O.Outside.places c.fill.new.outside) c.feed-in-Points.new.self _ a0 (m0.lent gg (possible_before m0.taken hf.taken gg hf.grown pp)) ∙ ap (λ (ts : List Ms). steps_over (rule (world S gg) K (shape_of scalar)) ts) one)

pub Node::feed-points_fed-requires-clause-scalar : goal.Node::feed-points_fed-requires-clause-scalar
Node::feed-points_fed-requires-clause-scalar g t c =
    let S = c.args.store.now in
    let K = c.args.patterns.now in
    let at = c.args.at.now in
    let fed = c.args.fed in
    let P = (g.O.Outside.places c.args.outside.now) in
    let own = as_tree S K _ P fed at c.args.self.now _ c.in-Points.is c.requires in
    let scalar = c.in-Points.scalar.value in
    let inner = c.in-Points.inner.value in
    let xs = places_of (shape_of scalar) in
    let ys = places_of (shape_of inner) in
    let f0 = part_fed S K _ P fed at _ scalar own (λ f. f.3) (λ w h. h.2) (λ all ts h. h.0) (λ t s. s.2) (λ h. refl) (λ d. distinct_left xs ys d) in
    let h0 = part_has S K K _ _ P (g.O.Outside.places c.feed-in-Points.new.outside) fed at scalar c.deref_mut-in-Points.result.now c.feed-in-Points.new.self c.deref_mut-in-Points.ensures.value refl c.in_ok-feed-in-Points.ensures.fed c.feed-in-Points.ensures.shape c.feed-in-Points.ensures.others in
    let m0 = h0.has f0 in
    let k = c.in-Points.kernel in
    let inner_fed = c.in-Points.inner_fed in
    let u : Ms = get_or at 0 (record { 0 = pos 0 }) in
    let one : at ≡ u ∷ [] = one_at at (record { 0 = pos 0 }) (own.single refl) in
    let stays = (subst (λ (ts : List Ms). AllByRecursion (λ (t : Ms). IsTime t.0 × IsAskedOn k.walk k.points.moment k.points.range k.points.step t.0 × StaysInTimes (shape_of scalar) t.0) ts) one own.stays).0 in
    let goes = subst (λ (ts : List Ms). Goes fed ts) one own.goes in
    let agree = second_agrees xs ys P (g.O.Outside.places c.feed-in-Points.new.outside) own.goes_on.apart h0.stay in
    let kp = completed_are own.goes_on.all own.goes_on.known own.goes_on.taken K _ P own.goes_on.out in
    let cf = points_fill S K _ P (g.O.Outside.places c.feed-in-Points.new.outside) fed k inner_fed inner u own.goes_on.all own.goes_on.known own.goes_on.taken m0.taken (λ g p. ((own.goes_on.can g p).0, (own.goes_on.can g p).1)) own.goes_on.come.1 own.goes_on.come.2 own.goes_on.come.3
    own.goes_on.fit.2 (distinct_right xs ys own.goes_on.apart) own.goes_on.fit.0 (own.goes_on.can (completed own.goes_on.taken) kp).0.next stays.1 goes m0.grown m0.out agree in
    let end = c.in_ok-inner_fed-in-Points.field-0 in
    let hf = fill_has S K c.feed-in-Points.new.patterns _ _ (g.O.Outside.places c.feed-in-Points.new.outside) (g.O.Outside.places c.fill.new.outside) inner_fed end k c.fill.new.kernel u inner c.deref_mut-in-Points-2.result.now c.fill.new.inner c.deref_mut-in-Points-2.ensures.value c.feed-in-Points.ensures.same c.in_ok-inner_fed-in-Points.ensures.filled cf in
    let stay : Stay ys (g.O.Outside.places c.feed-in-Points.new.outside) (g.O.Outside.places c.fill.new.outside) = stay_as (g.O.Outside.places c.feed-in-Points.new.outside) (g.O.Outside.places c.fill.new.outside) inner c.deref_mut-in-Points-2.result.now c.deref_mut-in-Points-2.ensures.value c.fill.ensures.others in
    let a0 : Agree (places_of (shape_of c.feed-in-Points.new.self)) (g.O.Outside.places c.feed-in-Points.new.outside) (g.O.Outside.places c.fill.new.outside) = subst (λ (s : Shape). Agree (places_of s) (g.O.Outside.places c.feed-in-Points.new.outside) (g.O.Outside.places c.fill.new.outside)) (sym h0.shape) (first_agrees xs ys (g.O.Outside.places c.feed-in-Points.new.outside) (g.O.Outside.places c.fill.new.outside) own.goes_on.apart stay) in
    let new = c.fill.new.kernel in
    let gg = completed hf.taken in
    let pp = completed_are own.goes_on.all own.goes_on.known hf.taken K _ (g.O.Outside.places c.fill.new.outside) hf.out in
    λ h. read_scalar scalar c.feed-in-Points.new.self c.deref-in-Points.result.now h0.shape c.deref-in-Points.ensures (own.goes_on.fit.1 (sym (ap (λ f. reads_scalar f) c.fill.ensures.f) ∙ h))

pub Node::feed-returns-in_err-feed-in-Points-clause-others : goal.Node::feed-returns-in_err-feed-in-Points-clause-others
Node::feed-returns-in_err-feed-in-Points-clause-others g t c =
    let P = (g.O.Outside.places c.args.outside.now) in
    let scalar = c.in-Points.scalar.value in
    let inner = c.in-Points.inner.value in
    let xs = places_of (shape_of scalar) in
    let ys = places_of (shape_of inner) in
    let s0 = stay_as P (g.O.Outside.places c.feed-in-Points.new.outside) scalar c.deref_mut-in-Points.result.now c.deref_mut-in-Points.ensures.value c.feed-in-Points.ensures.others in
    stay_self P (g.O.Outside.places c.feed-in-Points.new.outside) c.args.self.now _ c.in-Points.is (stay_left xs ys P (g.O.Outside.places c.feed-in-Points.new.outside) s0)

pub Node::feed-returns-in_err-feed-in-Points-clause-run : goal.Node::feed-returns-in_err-feed-in-Points-clause-run
Node::feed-returns-in_err-feed-in-Points-clause-run g t c =
    run_fault _ c.from_residual-in_err-feed-in-Points.result _ _ c.from_residual-in_err-feed-in-Points.ensures.1 c.in_err-feed-in-Points.ensures.run

pub Node::feed-returns-in_err-inner_fed-in-Points-clause-others : goal.Node::feed-returns-in_err-inner_fed-in-Points-clause-others
Node::feed-returns-in_err-inner_fed-in-Points-clause-others g t c =
    let P = (g.O.Outside.places c.args.outside.now) in
    let scalar = c.in-Points.scalar.value in
    let inner = c.in-Points.inner.value in
    let xs = places_of (shape_of scalar) in
    let ys = places_of (shape_of inner) in
    let s0 = stay_as P (g.O.Outside.places c.feed-in-Points.new.outside) scalar c.deref_mut-in-Points.result.now c.deref_mut-in-Points.ensures.value c.feed-in-Points.ensures.others in
    let s1 = stay_as (g.O.Outside.places c.feed-in-Points.new.outside) (g.O.Outside.places c.fill.new.outside) inner c.deref_mut-in-Points-2.result.now c.deref_mut-in-Points-2.ensures.value c.fill.ensures.others in
    stay_self P (g.O.Outside.places c.fill.new.outside) c.args.self.now _ c.in-Points.is (stay_both xs ys P (g.O.Outside.places c.feed-in-Points.new.outside) (g.O.Outside.places c.fill.new.outside) s0 s1)

pub Node::feed-returns-in_err-inner_fed-in-Points-clause-run : goal.Node::feed-returns-in_err-inner_fed-in-Points-clause-run
Node::feed-returns-in_err-inner_fed-in-Points-clause-run g t c =
    run_then _ _ _ _ _ c.in_ok-feed-in-Points.ensures.run (run_fault _ c.from_residual-in_err-inner_fed-in-Points.result _ _ c.from_residual-in_err-inner_fed-in-Points.ensures.1 c.in_err-inner_fed-in-Points.ensures.run)

pub Node::feed-returns-in_ok-inner_fed-in-Points-clause-others : goal.Node::feed-returns-in_ok-inner_fed-in-Points-clause-others
Node::feed-returns-in_ok-inner_fed-in-Points-clause-others g t c =
    let P = (g.O.Outside.places c.args.outside.now) in
    let scalar = c.in-Points.scalar.value in
    let inner = c.in-Points.inner.value in
    let xs = places_of (shape_of scalar) in
    let ys = places_of (shape_of inner) in
    let s0 = stay_as P (g.O.Outside.places c.feed-in-Points.new.outside) scalar c.deref_mut-in-Points.result.now c.deref_mut-in-Points.ensures.value c.feed-in-Points.ensures.others in
    let s1 = stay_as (g.O.Outside.places c.feed-in-Points.new.outside) (g.O.Outside.places c.fill.new.outside) inner c.deref_mut-in-Points-2.result.now c.deref_mut-in-Points-2.ensures.value c.fill.ensures.others in
    stay_self P (g.O.Outside.places c.fill.new.outside) c.args.self.now _ c.in-Points.is (stay_both xs ys P (g.O.Outside.places c.feed-in-Points.new.outside) (g.O.Outside.places c.fill.new.outside) s0 s1)

pub Node::feed-returns-in_ok-inner_fed-in-Points-clause-run : goal.Node::feed-returns-in_ok-inner_fed-in-Points-clause-run
Node::feed-returns-in_ok-inner_fed-in-Points-clause-run g t c =
    own_behind _ c.points_fed.result _ _ c.points_fed.ensures.memory (run_then _ _ _ _ _ c.in_ok-feed-in-Points.ensures.run c.in_ok-inner_fed-in-Points.ensures.run)

pub Node::feed-returns-in_ok-inner_fed-in-Points-clause-fed : goal.Node::feed-returns-in_ok-inner_fed-in-Points-clause-fed
Node::feed-returns-in_ok-inner_fed-in-Points-clause-fed g t c =
    let S = c.args.store.now in
    let K = c.args.patterns.now in
    let at = c.args.at.now in
    let fed = c.args.fed in
    let P = (g.O.Outside.places c.args.outside.now) in
    let scalar = c.in-Points.scalar.value in
    let inner = c.in-Points.inner.value in
    let xs = places_of (shape_of scalar) in
    let ys = places_of (shape_of inner) in
    on_ok c.points_fed.result (on_both _ _ c.points_fed.result c.points_fed.ensures.lent c.points_fed.ensures.stands) (λ f. fed_as S K _ _ P (g.O.Outside.places c.fill.new.outside) fed at c.args.self.now _ _ c.in-Points.is (λ c0.
    let f0 = part_fed S K _ P fed at _ scalar c0 (λ f. f.3) (λ w h. h.2) (λ all ts h. h.0) (λ t s. s.2) (λ h. refl) (λ d. distinct_left xs ys d) in
    let h0 = part_has S K K _ _ P (g.O.Outside.places c.feed-in-Points.new.outside) fed at scalar c.deref_mut-in-Points.result.now c.feed-in-Points.new.self c.deref_mut-in-Points.ensures.value refl c.in_ok-feed-in-Points.ensures.fed c.feed-in-Points.ensures.shape c.feed-in-Points.ensures.others in
    let m0 = h0.has f0 in
    let k = c.in-Points.kernel in
    let inner_fed = c.in-Points.inner_fed in
    let u : Ms = get_or at 0 (record { 0 = pos 0 }) in
    let one : at ≡ u ∷ [] = one_at at (record { 0 = pos 0 }) (c0.single refl) in
    let stays = (subst (λ (ts : List Ms). AllByRecursion (λ (t : Ms). IsTime t.0 × IsAskedOn k.walk k.points.moment k.points.range k.points.step t.0 × StaysInTimes (shape_of scalar) t.0) ts) one c0.stays).0 in
    let goes = subst (λ (ts : List Ms). Goes fed ts) one c0.goes in
    let agree = second_agrees xs ys P (g.O.Outside.places c.feed-in-Points.new.outside) c0.goes_on.apart h0.stay in
    let kp = completed_are c0.goes_on.all c0.goes_on.known c0.goes_on.taken K _ P c0.goes_on.out in
    let cf = points_fill S K _ P (g.O.Outside.places c.feed-in-Points.new.outside) fed k inner_fed inner u c0.goes_on.all c0.goes_on.known c0.goes_on.taken m0.taken (λ g p. ((c0.goes_on.can g p).0, (c0.goes_on.can g p).1)) c0.goes_on.come.1 c0.goes_on.come.2 c0.goes_on.come.3
    c0.goes_on.fit.2 (distinct_right xs ys c0.goes_on.apart) c0.goes_on.fit.0 (c0.goes_on.can (completed c0.goes_on.taken) kp).0.next stays.1 goes m0.grown m0.out agree in
    let end = c.in_ok-inner_fed-in-Points.field-0 in
    let hf = fill_has S K c.feed-in-Points.new.patterns _ _ (g.O.Outside.places c.feed-in-Points.new.outside) (g.O.Outside.places c.fill.new.outside) inner_fed end k c.fill.new.kernel u inner c.deref_mut-in-Points-2.result.now c.fill.new.inner c.deref_mut-in-Points-2.ensures.value c.feed-in-Points.ensures.same c.in_ok-inner_fed-in-Points.ensures.filled cf in
    let stay : Stay ys (g.O.Outside.places c.feed-in-Points.new.outside) (g.O.Outside.places c.fill.new.outside) = stay_as (g.O.Outside.places c.feed-in-Points.new.outside) (g.O.Outside.places c.fill.new.outside) inner c.deref_mut-in-Points-2.result.now c.deref_mut-in-Points-2.ensures.value c.fill.ensures.others in
    let a0 : Agree (places_of (shape_of c.feed-in-Points.new.self)) (g.O.Outside.places c.feed-in-Points.new.outside) (g.O.Outside.places c.fill.new.outside) = subst (λ (s : Shape). Agree (places_of s) (g.O.Outside.places c.feed-in-Points.new.outside) (g.O.Outside.places c.fill.new.outside)) (sym h0.shape) (first_agrees xs ys (g.O.Outside.places c.feed-in-Points.new.outside) (g.O.Outside.places c.fill.new.outside) c0.goes_on.apart stay) in
    let new = c.fill.new.kernel in
    let last : last_of (fed_on fed at) ≡ Some u = last_end fed at u one in
    record {
      taken = hf.taken;
      grown = grown_then c0.goes_on.taken m0.taken hf.taken m0.grown hf.grown;
      out = hf.out;
      lent = λ gg pp.
          (let asked = cf.asked gg (possible_before m0.taken hf.taken gg hf.grown pp) in
          let now : IsAsked new cf.outer (rule (world S gg) K (shape_of inner)) cf.last u = record { stands = hf.stands gg pp cf.outer cf.last asked; on = asked.on; later = asked.later } in
          f.0 cf.outer (rule (world S gg) K (shape_of inner)) cf.last (rule (world S gg) K (shape_of scalar)) now
          (read_steps (g.O.Outside.places c.fill.new.outside) c.feed-in-Points.new.self c.deref-in-Points.result.now _ c.deref-in-Points.ensures (kept_steps (g.O.Outside.places c.feed-in-Points.new.outside) (g.O.Outside.places c.fill.new.outside) c.feed-in-Points.new.self _ a0 (m0.lent gg (possible_before m0.taken hf.taken gg hf.grown pp)) ∙ ap (λ (ts : List Ms). steps_over (rule (world S gg) K (shape_of scalar)) ts) one))
          ∙ points_over k.f new.f k.points.moment new.points.moment k.points.range new.points.range k.points.step new.points.step (rule (world S gg) K (shape_of inner)) (rule (world S gg) K (shape_of inner)) (rule (world S gg) K (shape_of scalar)) at u
          c.fill.ensures.f c.fill.ensures.moment c.fill.ensures.range c.fill.ensures.step refl one);
      can = λ gg pp.
          (let asked = cf.asked gg (possible_before m0.taken hf.taken gg hf.grown pp) in
          let now : IsAsked new cf.outer (rule (world S gg) K (shape_of inner)) cf.last u = record { stands = hf.stands gg pp cf.outer cf.last asked; on = asked.on; later = asked.later } in
          let same : shape_of c.fill.new.inner ≡ shape_of inner = c.fill.ensures.shape ∙ ap shape_of c.deref_mut-in-Points-2.ensures.value in (
            record {
              outer = cf.outer;
              stands = subst (λ (o : Option Ms). Stands c.points_fed.new.kernel cf.outer (rule (world S gg) K (shape_of c.fill.new.inner)) o) (sym last)
                  (subst (λ (s : Shape). Stands c.points_fed.new.kernel cf.outer (rule (world S gg) K s) (Some u)) (sym same) (f.1 cf.outer (rule (world S gg) K (shape_of inner)) cf.last now));
              next = subst (λ (w : Walk). IsNextAfter w (last_of end) c.points_fed.new.kernel.next) (sym c.points_fed.ensures.walk)
                  (subst (λ (o : Option Ms). IsNextAfter new.walk (last_of end) o) (sym c.points_fed.ensures.next) c.in_ok-inner_fed-in-Points.ensures.next);
            },
            hf.can gg pp,
            can_kept (world S gg) K (g.O.Outside.places c.feed-in-Points.new.outside) (g.O.Outside.places c.fill.new.outside) (fed_on fed at) c.feed-in-Points.new.self a0 (m0.can gg (possible_before m0.taken hf.taken gg hf.grown pp)),
          ));
      come = (
        come_kept c0.goes_on.all (g.O.Outside.places c.feed-in-Points.new.outside) (g.O.Outside.places c.fill.new.outside) c0.times (fed_on fed at) c.feed-in-Points.new.self a0 m0.come,
        cf.times,
        subst (λ (w : Walk). IsListed w cf.times) (sym (c.points_fed.ensures.walk ∙ c.fill.ensures.walk)) cf.listed,
        hf.come,
      );
    }))

pub Node::feed-ready-requires : goal.Node::feed-ready-requires
Node::feed-ready-requires g t c κs within =
    let S = c.args.store.now in
    let K = c.args.patterns.now in
    let at = c.args.at.now in
    let fed = c.args.fed in
    let P = (g.O.Outside.places c.args.outside.now) in
    let own = as_tree S K _ P fed at c.args.self.now _ c.in-Once.is c.requires in
    let first = c.in-Once.first in
    let child = c.in-Once.child.value in
    let cr = once_repeats S K _ P fed first child c.in-Once.steps own.goes_on.all own.goes_on.known own.goes_on.taken own.goes_on.out (λ g p. ((own.goes_on.can g p).0, (own.goes_on.can g p).1)) own.goes_on.come own.goes_on.fit own.goes_on.apart (at_some at own.some own.stays) in
    let whole = ap (λ (n : Node). height (shape_of n)) c.in-Once.is in
    let part = ap (λ (n : Node). height (shape_of n)) c.deref_mut-in-Once.ensures.value in
    (omega (arith, c.decreases, whole, part), (within.0, (within.1, repeat_given S K _ P first fed c.in-Once.steps child c.deref_mut-in-Once.result.now c.deref_mut-in-Once.ensures.value cr)))

pub Node::feed-once_fed-requires-clause-there : goal.Node::feed-once_fed-requires-clause-there
Node::feed-once_fed-requires-clause-there g t c =
    let S = c.args.store.now in
    let K = c.args.patterns.now in
    let at = c.args.at.now in
    let fed = c.args.fed in
    let P = (g.O.Outside.places c.args.outside.now) in
    let own = as_tree S K _ P fed at c.args.self.now _ c.in-Once.is c.requires in
    let first = c.in-Once.first in
    let child = c.in-Once.child.value in
    let cr = once_repeats S K _ P fed first child c.in-Once.steps own.goes_on.all own.goes_on.known own.goes_on.taken own.goes_on.out (λ g p. ((own.goes_on.can g p).0, (own.goes_on.can g p).1)) own.goes_on.come own.goes_on.fit own.goes_on.apart (at_some at own.some own.stays) in
    let m0 = repeat_has S K _ _ P (g.O.Outside.places c.ready.new.outside) first fed c.in-Once.steps child c.deref_mut-in-Once.result.now c.ready.new.child c.deref_mut-in-Once.ensures.value c.in_ok-ready-in-Once.ensures.made cr in
    read_there (g.O.Outside.places c.ready.new.outside) c.ready.new.child c.deref-in-Once.result.now c.deref-in-Once.ensures (come_there own.goes_on.all (g.O.Outside.places c.ready.new.outside) (first ∷ []) (fed_once first) c.ready.new.child m0.come)

pub Node::feed-once_fed-requires-clause-named : goal.Node::feed-once_fed-requires-clause-named
Node::feed-once_fed-requires-clause-named g t c =
    c.in_ok-ready-in-Once.ensures.named ∙ ap (λ (n : Node). (lent_by (g.O.Outside.places c.ready.new.outside) n).labels) (sym c.deref-in-Once.ensures)

pub Node::feed-once_fed-requires-clause-one : goal.Node::feed-once_fed-requires-clause-one
Node::feed-once_fed-requires-clause-one g t c =
    let S = c.args.store.now in
    let K = c.args.patterns.now in
    let at = c.args.at.now in
    let fed = c.args.fed in
    let P = (g.O.Outside.places c.args.outside.now) in
    let own = as_tree S K _ P fed at c.args.self.now _ c.in-Once.is c.requires in
    let first = c.in-Once.first in
    let child = c.in-Once.child.value in
    let cr = once_repeats S K _ P fed first child c.in-Once.steps own.goes_on.all own.goes_on.known own.goes_on.taken own.goes_on.out (λ g p. ((own.goes_on.can g p).0, (own.goes_on.can g p).1)) own.goes_on.come own.goes_on.fit own.goes_on.apart (at_some at own.some own.stays) in
    let m0 = repeat_has S K _ _ P (g.O.Outside.places c.ready.new.outside) first fed c.in-Once.steps child c.deref_mut-in-Once.result.now c.ready.new.child c.deref_mut-in-Once.ensures.value c.in_ok-ready-in-Once.ensures.made cr in
    let gg = completed m0.taken in
    let pp = completed_are own.goes_on.all own.goes_on.known m0.taken K _ (g.O.Outside.places c.ready.new.outside) m0.out in
    (record { at = first; step = rule (world S gg) K (shape_of child) first.0 }, read_steps (g.O.Outside.places c.ready.new.outside) c.ready.new.child c.deref-in-Once.result.now _ c.deref-in-Once.ensures (m0.lent gg pp))

pub Node::feed-once_fed-requires-clause-rising : goal.Node::feed-once_fed-requires-clause-rising
Node::feed-once_fed-requires-clause-rising g t c =
    goes_rise c.args.fed c.args.at.now c.requires.goes

pub Node::feed-returns-in_err-ready-in-Once-clause-others : goal.Node::feed-returns-in_err-ready-in-Once-clause-others
Node::feed-returns-in_err-ready-in-Once-clause-others g t c =
    let P = (g.O.Outside.places c.args.outside.now) in
    stay_self P (g.O.Outside.places c.ready.new.outside) c.args.self.now _ c.in-Once.is (stay_as P (g.O.Outside.places c.ready.new.outside) c.in-Once.child.value c.deref_mut-in-Once.result.now c.deref_mut-in-Once.ensures.value c.ready.ensures.others)

pub Node::feed-returns-in_err-ready-in-Once-clause-run : goal.Node::feed-returns-in_err-ready-in-Once-clause-run
Node::feed-returns-in_err-ready-in-Once-clause-run g t c =
    run_fault _ c.from_residual-in_err-ready-in-Once.result _ _ c.from_residual-in_err-ready-in-Once.ensures.1 c.in_err-ready-in-Once.ensures.run

pub Node::feed-returns-in_ok-ready-in-Once-clause-others : goal.Node::feed-returns-in_ok-ready-in-Once-clause-others
Node::feed-returns-in_ok-ready-in-Once-clause-others g t c =
    let P = (g.O.Outside.places c.args.outside.now) in
    stay_self P (g.O.Outside.places c.ready.new.outside) c.args.self.now _ c.in-Once.is (stay_as P (g.O.Outside.places c.ready.new.outside) c.in-Once.child.value c.deref_mut-in-Once.result.now c.deref_mut-in-Once.ensures.value c.ready.ensures.others)

pub Node::feed-returns-in_ok-ready-in-Once-clause-run : goal.Node::feed-returns-in_ok-ready-in-Once-clause-run
Node::feed-returns-in_ok-ready-in-Once-clause-run g t c =
    own_behind _ c.once_fed.result _ _ c.once_fed.ensures.memory c.in_ok-ready-in-Once.ensures.run

pub Node::feed-returns-in_ok-ready-in-Once-clause-fed : goal.Node::feed-returns-in_ok-ready-in-Once-clause-fed
Node::feed-returns-in_ok-ready-in-Once-clause-fed g t c =
    let S = c.args.store.now in
    let K = c.args.patterns.now in
    let at = c.args.at.now in
    let fed = c.args.fed in
    let P = (g.O.Outside.places c.args.outside.now) in
    on_ok c.once_fed.result (on_both _ _ c.once_fed.result c.once_fed.ensures.lent c.once_fed.ensures.named) (λ f. fed_as S K _ _ P (g.O.Outside.places c.ready.new.outside) fed at c.args.self.now _ _ c.in-Once.is (λ c0.
    let first = c.in-Once.first in
    let child = c.in-Once.child.value in
    let cr = once_repeats S K _ P fed first child c.in-Once.steps c0.goes_on.all c0.goes_on.known c0.goes_on.taken c0.goes_on.out (λ g p. ((c0.goes_on.can g p).0, (c0.goes_on.can g p).1)) c0.goes_on.come c0.goes_on.fit c0.goes_on.apart (at_some at c0.some c0.stays) in
    let m0 = repeat_has S K _ _ P (g.O.Outside.places c.ready.new.outside) first fed c.in-Once.steps child c.deref_mut-in-Once.result.now c.ready.new.child c.deref_mut-in-Once.ensures.value c.in_ok-ready-in-Once.ensures.made cr in
    let end = once_end first fed at c0.some in
    record {
      taken = m0.taken;
      grown = m0.grown;
      out = m0.out;
      lent = λ gg pp. f.0 (record { at = first; step = rule (world S gg) K (shape_of child) first.0 }) (read_steps (g.O.Outside.places c.ready.new.outside) c.ready.new.child c.deref-in-Once.result.now _ c.deref-in-Once.ensures (m0.lent gg pp));
      can = λ gg pp. (
        subst (λ (o : Option Fed). CanGo (world S gg) K (g.O.Outside.places c.ready.new.outside) o c.ready.new.child) (sym end) (m0.can gg pp),
        repeated_end (world S gg) K first (shape_of c.ready.new.child) (lent_by (g.O.Outside.places c.ready.new.outside) c.ready.new.child) c.once_fed.new.steps.labels (fed_on fed at)
            (m0.lent gg pp ∙ ap (λ (s : Shape). steps_over (rule (world S gg) K s) (first ∷ [])) (sym (c.ready.ensures.shape ∙ ap shape_of c.deref_mut-in-Once.ensures.value)))
            (f.1 ∙ ap (λ (n : Node). (lent_by (g.O.Outside.places c.ready.new.outside) n).labels) c.deref-in-Once.ensures),
      );
      come = subst (λ (o : Option Fed). HaveCome c0.goes_on.all (g.O.Outside.places c.ready.new.outside) (first ∷ []) o c.ready.new.child) (sym end) m0.come;
    }))

pub Node::feed-feed_gather-requires : goal.Node::feed-feed_gather-requires
Node::feed-feed_gather-requires g t c =
    let S = c.args.store.now in
    let K = c.args.patterns.now in
    let at = c.args.at.now in
    let fed = c.args.fed in
    let P = (g.O.Outside.places c.args.outside.now) in
    let own = as_tree S K _ P fed at c.args.self.now _ c.in-Gather.is c.requires in
    let one = one_at at (record { 0 = pos 0 }) (own.single refl) in
    (get_or at 0 (record { 0 = pos 0 }), gather_takes S K _ P fed at c.in-Gather.place own (get_or at 0 (record { 0 = pos 0 })) one)

pub Node::feed-returns-in-Gather-clause-fed : goal.Node::feed-returns-in-Gather-clause-fed
Node::feed-returns-in-Gather-clause-fed g t c =
    let S = c.args.store.now in
    let K = c.args.patterns.now in
    let at = c.args.at.now in
    let fed = c.args.fed in
    let P = (g.O.Outside.places c.args.outside.now) in
    let u : Ms = get_or at 0 (record { 0 = pos 0 }) in
    on_ok c.feed_gather.result c.feed_gather.ensures.taken (λ f. fed_as S K _ _ P (g.O.Outside.places c.feed_gather.new.outside) fed at c.args.self.now _ _ c.in-Gather.is (λ c0.
    let one = one_at at (record { 0 = pos 0 }) (c0.single refl) in
    gather_made S K _ _ P (g.O.Outside.places c.feed_gather.new.outside) fed at c.in-Gather.place c0 u one c.feed_gather.new.place c.feed_gather.ensures.leaf (f u (gather_takes S K _ P fed at c.in-Gather.place c0 u one))))

pub Node::feed-returns-in-Gather-clause-others : goal.Node::feed-returns-in-Gather-clause-others
Node::feed-returns-in-Gather-clause-others g t c =
    let P = (g.O.Outside.places c.args.outside.now) in
    stay_self P (g.O.Outside.places c.feed_gather.new.outside) c.args.self.now _ c.in-Gather.is (λ k n. c.feed_gather.ensures.others k (λ e. n (among_one c.in-Gather.place k e)))

pub Node::feed-returns-in-Gather-clause-spent : goal.Node::feed-returns-in-Gather-clause-spent
Node::feed-returns-in-Gather-clause-spent g t c =
    let S = c.args.store.now in let to = fed_on c.args.fed c.args.at.now in let w = c.args.work.now in
    made_as S c.args.fed to c.feed_gather.result c.args.self.now _ (λ read. read ≡ nothing) w w c.in-Gather.is
    (stays_made (λ read. read ≡ nothing) w)

pub Node::feed-returns-in-Gather-clause-shape : goal.Node::feed-returns-in-Gather-clause-shape
Node::feed-returns-in-Gather-clause-shape g t c =
    ap GatherOf c.feed_gather.ensures.leaf ∙ ap shape_of (sym c.in-Gather.is)

pub Node::feed-feed-requires-in-Windows : goal.Node::feed-feed-requires-in-Windows
Node::feed-feed-requires-in-Windows g t c κs within =
    let S = c.args.store.now in
    let K = c.args.patterns.now in
    let at = c.args.at.now in
    let fed = c.args.fed in
    let P = (g.O.Outside.places c.args.outside.now) in
    let own = as_tree S K _ P fed at c.args.self.now _ c.in-Windows.is c.requires in
    let scalar = c.in-Windows.scalar.value in
    let f0 = part_fed S K _ P fed at _ scalar own (λ f. f.1) (λ w h. h.1) (λ all ts h. h.1) (λ t s. s.2) (λ h. refl) (λ d. d.1) in
    let whole = ap (λ (n : Node). height (shape_of n)) c.in-Windows.is in
    let part = ap (λ (n : Node). height (shape_of n)) c.deref_mut-in-Windows.ensures.value in
    (omega (arith, c.decreases, whole, part), (within.0, (within.1, fed_given S K _ P fed at K scalar c.deref_mut-in-Windows.result.now c.deref_mut-in-Windows.ensures.value (refl) f0)))

pub Node::feed-returns-in_err-feed-in-Windows-clause-others : goal.Node::feed-returns-in_err-feed-in-Windows-clause-others
Node::feed-returns-in_err-feed-in-Windows-clause-others g t c =
    let P = (g.O.Outside.places c.args.outside.now) in
    let scalar = c.in-Windows.scalar.value in
    let s0 = stay_as P (g.O.Outside.places c.feed-in-Windows.new.outside) scalar c.deref_mut-in-Windows.result.now c.deref_mut-in-Windows.ensures.value c.feed-in-Windows.ensures.others in
    stay_self P (g.O.Outside.places c.feed-in-Windows.new.outside) c.args.self.now _ c.in-Windows.is (stay_rest (places_of (shape_of scalar)) c.in-Windows.place P (g.O.Outside.places c.feed-in-Windows.new.outside) s0)

pub Node::feed-returns-in_err-feed-in-Windows-clause-run : goal.Node::feed-returns-in_err-feed-in-Windows-clause-run
Node::feed-returns-in_err-feed-in-Windows-clause-run g t c =
    run_fault _ c.from_residual-in_err-feed-in-Windows.result _ _ c.from_residual-in_err-feed-in-Windows.ensures.1 c.in_err-feed-in-Windows.ensures.run

pub Node::feed-feed_gather-requires-in-Windows : goal.Node::feed-feed_gather-requires-in-Windows
Node::feed-feed_gather-requires-in-Windows g t c =
    let S = c.args.store.now in
    let K = c.args.patterns.now in
    let at = c.args.at.now in
    let fed = c.args.fed in
    let P = (g.O.Outside.places c.args.outside.now) in
    let own = as_tree S K _ P fed at c.args.self.now _ c.in-Windows.is c.requires in
    let scalar = c.in-Windows.scalar.value in
    let f0 = part_fed S K _ P fed at _ scalar own (λ f. f.1) (λ w h. h.1) (λ all ts h. h.1) (λ t s. s.2) (λ h. refl) (λ d. d.1) in
    let h0 = part_has S K K _ _ P (g.O.Outside.places c.feed-in-Windows.new.outside) fed at scalar c.deref_mut-in-Windows.result.now c.feed-in-Windows.new.self c.deref_mut-in-Windows.ensures.value refl c.in_ok-feed-in-Windows.ensures.fed c.feed-in-Windows.ensures.shape c.feed-in-Windows.ensures.others in
    let m0 = h0.has f0 in
    let kernel = c.in-Windows.kernel in
    let k = c.in-Windows.place in
    let u : Ms = get_or at 0 (record { 0 = pos 0 }) in
    let one : at ≡ u ∷ [] = one_at at (record { 0 = pos 0 }) (own.single refl) in
    let ct = next_takes (AsksWindows kernel.moment kernel.range) K _ P (g.O.Outside.places c.feed-in-Windows.new.outside) k own.goes_on.all own.goes_on.known m0.taken own.times fed at u one own.goes_on.come.0 (h0.stay k own.goes_on.apart.0) m0.out own.due in
    (u, subst (λ (x : Kept). CanTake x (g.O.Outside.engines c.feed-in-Windows.new.outside) (g.O.Outside.places c.feed-in-Windows.new.outside) k u) (sym c.feed-in-Windows.ensures.same) ct)

pub Node::feed-returns-in_err-feed_gather-in-Windows-clause-others : goal.Node::feed-returns-in_err-feed_gather-in-Windows-clause-others
Node::feed-returns-in_err-feed_gather-in-Windows-clause-others g t c =
    let P = (g.O.Outside.places c.args.outside.now) in
    let scalar = c.in-Windows.scalar.value in
    let s0 = stay_as P (g.O.Outside.places c.feed-in-Windows.new.outside) scalar c.deref_mut-in-Windows.result.now c.deref_mut-in-Windows.ensures.value c.feed-in-Windows.ensures.others in
    stay_self P (g.O.Outside.places c.feed_gather-in-Windows.new.outside) c.args.self.now _ c.in-Windows.is (stay_next (places_of (shape_of scalar)) c.in-Windows.place P (g.O.Outside.places c.feed-in-Windows.new.outside) (g.O.Outside.places c.feed_gather-in-Windows.new.outside) s0 c.feed_gather-in-Windows.ensures.others)

pub Node::feed-returns-in_ok-feed_gather-in-Windows-clause-others : goal.Node::feed-returns-in_ok-feed_gather-in-Windows-clause-others
Node::feed-returns-in_ok-feed_gather-in-Windows-clause-others g t c =
    let P = (g.O.Outside.places c.args.outside.now) in
    let scalar = c.in-Windows.scalar.value in
    let s0 = stay_as P (g.O.Outside.places c.feed-in-Windows.new.outside) scalar c.deref_mut-in-Windows.result.now c.deref_mut-in-Windows.ensures.value c.feed-in-Windows.ensures.others in
    stay_self P (g.O.Outside.places c.feed_gather-in-Windows.new.outside) c.args.self.now _ c.in-Windows.is (stay_next (places_of (shape_of scalar)) c.in-Windows.place P (g.O.Outside.places c.feed-in-Windows.new.outside) (g.O.Outside.places c.feed_gather-in-Windows.new.outside) s0 c.feed_gather-in-Windows.ensures.others)

pub Node::feed-returns-in_err-feed_gather-in-Windows-clause-run : goal.Node::feed-returns-in_err-feed_gather-in-Windows-clause-run
Node::feed-returns-in_err-feed_gather-in-Windows-clause-run g t c =
    run_then _ _ _ _ _ c.in_ok-feed-in-Windows.ensures.run (run_fault _ c.from_residual-in_err-feed_gather-in-Windows.result _ _ c.from_residual-in_err-feed_gather-in-Windows.ensures.1 c.in_err-feed_gather-in-Windows.ensures.run)

pub Node::feed-returns-in_ok-feed_gather-in-Windows-clause-run : goal.Node::feed-returns-in_ok-feed_gather-in-Windows-clause-run
Node::feed-returns-in_ok-feed_gather-in-Windows-clause-run g t c =
    own_behind _ c.windows_fed.result _ _ c.windows_fed.ensures.memory (run_then _ _ _ _ _ c.in_ok-feed-in-Windows.ensures.run c.in_ok-feed_gather-in-Windows.ensures.run)

pub Node::feed-windows_fed-requires-clause-there : goal.Node::feed-windows_fed-requires-clause-there
Node::feed-windows_fed-requires-clause-there g t c =
    let S = c.args.store.now in
    let K = c.args.patterns.now in
    let at = c.args.at.now in
    let fed = c.args.fed in
    let P = (g.O.Outside.places c.args.outside.now) in
    let own = as_tree S K _ P fed at c.args.self.now _ c.in-Windows.is c.requires in
    let scalar = c.in-Windows.scalar.value in
    let f0 = part_fed S K _ P fed at _ scalar own (λ f. f.1) (λ w h. h.1) (λ all ts h. h.1) (λ t s. s.2) (λ h. refl) (λ d. d.1) in
    let h0 = part_has S K K _ _ P (g.O.Outside.places c.feed-in-Windows.new.outside) fed at scalar c.deref_mut-in-Windows.result.now c.feed-in-Windows.new.self c.deref_mut-in-Windows.ensures.value refl c.in_ok-feed-in-Windows.ensures.fed c.feed-in-Windows.ensures.shape c.feed-in-Windows.ensures.others in
    let m0 = h0.has f0 in
    let kernel = c.in-Windows.kernel in
    let k = c.in-Windows.place in
    let u : Ms = get_or at 0 (record { 0 = pos 0 }) in
    let one : at ≡ u ∷ [] = one_at at (record { 0 = pos 0 }) (own.single refl) in
    let ct = next_takes (AsksWindows kernel.moment kernel.range) K _ P (g.O.Outside.places c.feed-in-Windows.new.outside) k own.goes_on.all own.goes_on.known m0.taken own.times fed at u one own.goes_on.come.0 (h0.stay k own.goes_on.apart.0) m0.out own.due in
    let a0 : Agree (places_of (shape_of c.feed-in-Windows.new.self)) (g.O.Outside.places c.feed-in-Windows.new.outside) (g.O.Outside.places c.feed_gather-in-Windows.new.outside) = subst (λ (s : Shape). Agree (places_of s) (g.O.Outside.places c.feed-in-Windows.new.outside) (g.O.Outside.places c.feed_gather-in-Windows.new.outside)) (sym h0.shape) (others_agree (places_of (shape_of scalar)) k (g.O.Outside.places c.feed-in-Windows.new.outside) (g.O.Outside.places c.feed_gather-in-Windows.new.outside) own.goes_on.apart.0 c.feed_gather-in-Windows.ensures.others) in
    read_there (g.O.Outside.places c.feed_gather-in-Windows.new.outside) c.feed-in-Windows.new.self c.deref-in-Windows.result.now c.deref-in-Windows.ensures
    (come_there own.goes_on.all (g.O.Outside.places c.feed_gather-in-Windows.new.outside) own.times (fed_on fed at) c.feed-in-Windows.new.self (come_kept own.goes_on.all (g.O.Outside.places c.feed-in-Windows.new.outside) (g.O.Outside.places c.feed_gather-in-Windows.new.outside) own.times (fed_on fed at) c.feed-in-Windows.new.self a0 m0.come))

pub Node::feed-windows_fed-requires-clause-place : goal.Node::feed-windows_fed-requires-clause-place
Node::feed-windows_fed-requires-clause-place g t c =
    let S = c.args.store.now in
    let K = c.args.patterns.now in
    let at = c.args.at.now in
    let fed = c.args.fed in
    let P = (g.O.Outside.places c.args.outside.now) in
    let own = as_tree S K _ P fed at c.args.self.now _ c.in-Windows.is c.requires in
    let scalar = c.in-Windows.scalar.value in
    let f0 = part_fed S K _ P fed at _ scalar own (λ f. f.1) (λ w h. h.1) (λ all ts h. h.1) (λ t s. s.2) (λ h. refl) (λ d. d.1) in
    let h0 = part_has S K K _ _ P (g.O.Outside.places c.feed-in-Windows.new.outside) fed at scalar c.deref_mut-in-Windows.result.now c.feed-in-Windows.new.self c.deref_mut-in-Windows.ensures.value refl c.in_ok-feed-in-Windows.ensures.fed c.feed-in-Windows.ensures.shape c.feed-in-Windows.ensures.others in
    let m0 = h0.has f0 in
    let kernel = c.in-Windows.kernel in
    let k = c.in-Windows.place in
    let u : Ms = get_or at 0 (record { 0 = pos 0 }) in
    let one : at ≡ u ∷ [] = one_at at (record { 0 = pos 0 }) (own.single refl) in
    let ct = next_takes (AsksWindows kernel.moment kernel.range) K _ P (g.O.Outside.places c.feed-in-Windows.new.outside) k own.goes_on.all own.goes_on.known m0.taken own.times fed at u one own.goes_on.come.0 (h0.stay k own.goes_on.apart.0) m0.out own.due in
    let ht = takes_as K c.feed-in-Windows.new.patterns _ _ (g.O.Outside.places c.feed-in-Windows.new.outside) (g.O.Outside.places c.feed_gather-in-Windows.new.outside) k u c.feed-in-Windows.ensures.same (λ x. c.in_ok-feed_gather-in-Windows.ensures.taken u x) ct in
    let leaf : c.feed_gather-in-Windows.new.place ≡ k = c.feed_gather-in-Windows.ensures.leaf in
    let asks = subst (λ (a : Ask). AsksWindows kernel.moment kernel.range a) (sym ht.asks) own.goes_on.come.0.asks in
    let inside = ht.windows asks.kind in
    let here : (windows_at (g.O.Outside.places c.feed_gather-in-Windows.new.outside) c.feed_gather-in-Windows.new.place).at ≡ u = ap (λ n. (windows_at (g.O.Outside.places c.feed_gather-in-Windows.new.outside) n).at) leaf ∙ there_at (g.O.Outside.places c.feed_gather-in-Windows.new.outside) k u ht.place ht.here inside in
    subst (λ n. n < length (g.O.Outside.places c.feed_gather-in-Windows.new.outside)) (sym leaf) (get_within (g.O.Outside.places c.feed_gather-in-Windows.new.outside) k ht.place ht.here)

pub Node::feed-windows_fed-requires-clause-pass : goal.Node::feed-windows_fed-requires-clause-pass
Node::feed-windows_fed-requires-clause-pass g t c =
    let S = c.args.store.now in
    let K = c.args.patterns.now in
    let at = c.args.at.now in
    let fed = c.args.fed in
    let P = (g.O.Outside.places c.args.outside.now) in
    let own = as_tree S K _ P fed at c.args.self.now _ c.in-Windows.is c.requires in
    let kp = completed_are own.goes_on.all own.goes_on.known own.goes_on.taken K _ P own.goes_on.out in
    subst (λ (x : Kept). CanPass x c.in-Windows.passed) (sym (c.feed_gather-in-Windows.ensures.same ∙ c.feed-in-Windows.ensures.same)) (own.goes_on.can (completed own.goes_on.taken) kp).0

pub Node::feed-windows_fed-requires-clause-given : goal.Node::feed-windows_fed-requires-clause-given
Node::feed-windows_fed-requires-clause-given g t c =
    let S = c.args.store.now in
    let K = c.args.patterns.now in
    let at = c.args.at.now in
    let fed = c.args.fed in
    let P = (g.O.Outside.places c.args.outside.now) in
    let own = as_tree S K _ P fed at c.args.self.now _ c.in-Windows.is c.requires in
    let scalar = c.in-Windows.scalar.value in
    let f0 = part_fed S K _ P fed at _ scalar own (λ f. f.1) (λ w h. h.1) (λ all ts h. h.1) (λ t s. s.2) (λ h. refl) (λ d. d.1) in
    let h0 = part_has S K K _ _ P (g.O.Outside.places c.feed-in-Windows.new.outside) fed at scalar c.deref_mut-in-Windows.result.now c.feed-in-Windows.new.self c.deref_mut-in-Windows.ensures.value refl c.in_ok-feed-in-Windows.ensures.fed c.feed-in-Windows.ensures.shape c.feed-in-Windows.ensures.others in
    let m0 = h0.has f0 in
    let kernel = c.in-Windows.kernel in
    let k = c.in-Windows.place in
    let u : Ms = get_or at 0 (record { 0 = pos 0 }) in
    let one : at ≡ u ∷ [] = one_at at (record { 0 = pos 0 }) (own.single refl) in
    let ct = next_takes (AsksWindows kernel.moment kernel.range) K _ P (g.O.Outside.places c.feed-in-Windows.new.outside) k own.goes_on.all own.goes_on.known m0.taken own.times fed at u one own.goes_on.come.0 (h0.stay k own.goes_on.apart.0) m0.out own.due in
    let ht = takes_as K c.feed-in-Windows.new.patterns _ _ (g.O.Outside.places c.feed-in-Windows.new.outside) (g.O.Outside.places c.feed_gather-in-Windows.new.outside) k u c.feed-in-Windows.ensures.same (λ x. c.in_ok-feed_gather-in-Windows.ensures.taken u x) ct in
    let leaf : c.feed_gather-in-Windows.new.place ≡ k = c.feed_gather-in-Windows.ensures.leaf in
    let asks = subst (λ (a : Ask). AsksWindows kernel.moment kernel.range a) (sym ht.asks) own.goes_on.come.0.asks in
    let inside = ht.windows asks.kind in
    let here : (windows_at (g.O.Outside.places c.feed_gather-in-Windows.new.outside) c.feed_gather-in-Windows.new.place).at ≡ u = ap (λ n. (windows_at (g.O.Outside.places c.feed_gather-in-Windows.new.outside) n).at) leaf ∙ there_at (g.O.Outside.places c.feed_gather-in-Windows.new.outside) k u ht.place ht.here inside in
    let stays = (subst (λ (ts : List Ms). AllByRecursion (λ (t : Ms). IsTime t.0 × HasTimes (moment_at kernel.moment t.0) kernel.range.0 × StaysInTimes (shape_of scalar) t.0) ts) one own.stays).0 in
    subst (λ n. AreGiven kernel (windows_at (g.O.Outside.places c.feed_gather-in-Windows.new.outside) n)) (sym leaf) (are_given (g.O.Outside.places c.feed_gather-in-Windows.new.outside) k u ht.place ht.here kernel asks inside stays.0 stays.1)

pub Node::feed-windows_fed-requires-clause-lends : goal.Node::feed-windows_fed-requires-clause-lends
Node::feed-windows_fed-requires-clause-lends g t c =
    let S = c.args.store.now in
    let K = c.args.patterns.now in
    let at = c.args.at.now in
    let fed = c.args.fed in
    let P = (g.O.Outside.places c.args.outside.now) in
    let own = as_tree S K _ P fed at c.args.self.now _ c.in-Windows.is c.requires in
    let scalar = c.in-Windows.scalar.value in
    let f0 = part_fed S K _ P fed at _ scalar own (λ f. f.1) (λ w h. h.1) (λ all ts h. h.1) (λ t s. s.2) (λ h. refl) (λ d. d.1) in
    let h0 = part_has S K K _ _ P (g.O.Outside.places c.feed-in-Windows.new.outside) fed at scalar c.deref_mut-in-Windows.result.now c.feed-in-Windows.new.self c.deref_mut-in-Windows.ensures.value refl c.in_ok-feed-in-Windows.ensures.fed c.feed-in-Windows.ensures.shape c.feed-in-Windows.ensures.others in
    let m0 = h0.has f0 in
    let kernel = c.in-Windows.kernel in
    let k = c.in-Windows.place in
    let u : Ms = get_or at 0 (record { 0 = pos 0 }) in
    let one : at ≡ u ∷ [] = one_at at (record { 0 = pos 0 }) (own.single refl) in
    let ct = next_takes (AsksWindows kernel.moment kernel.range) K _ P (g.O.Outside.places c.feed-in-Windows.new.outside) k own.goes_on.all own.goes_on.known m0.taken own.times fed at u one own.goes_on.come.0 (h0.stay k own.goes_on.apart.0) m0.out own.due in
    let ht = takes_as K c.feed-in-Windows.new.patterns _ _ (g.O.Outside.places c.feed-in-Windows.new.outside) (g.O.Outside.places c.feed_gather-in-Windows.new.outside) k u c.feed-in-Windows.ensures.same (λ x. c.in_ok-feed_gather-in-Windows.ensures.taken u x) ct in
    let leaf : c.feed_gather-in-Windows.new.place ≡ k = c.feed_gather-in-Windows.ensures.leaf in
    let asks = subst (λ (a : Ask). AsksWindows kernel.moment kernel.range a) (sym ht.asks) own.goes_on.come.0.asks in
    let inside = ht.windows asks.kind in
    let here : (windows_at (g.O.Outside.places c.feed_gather-in-Windows.new.outside) c.feed_gather-in-Windows.new.place).at ≡ u = ap (λ n. (windows_at (g.O.Outside.places c.feed_gather-in-Windows.new.outside) n).at) leaf ∙ there_at (g.O.Outside.places c.feed_gather-in-Windows.new.outside) k u ht.place ht.here inside in
    let a0 : Agree (places_of (shape_of c.feed-in-Windows.new.self)) (g.O.Outside.places c.feed-in-Windows.new.outside) (g.O.Outside.places c.feed_gather-in-Windows.new.outside) = subst (λ (s : Shape). Agree (places_of s) (g.O.Outside.places c.feed-in-Windows.new.outside) (g.O.Outside.places c.feed_gather-in-Windows.new.outside)) (sym h0.shape) (others_agree (places_of (shape_of scalar)) k (g.O.Outside.places c.feed-in-Windows.new.outside) (g.O.Outside.places c.feed_gather-in-Windows.new.outside) own.goes_on.apart.0 c.feed_gather-in-Windows.ensures.others) in
    let gg = completed m0.taken in
    let pp = completed_are own.goes_on.all own.goes_on.known m0.taken K _ (g.O.Outside.places c.feed-in-Windows.new.outside) m0.out in
    let w = world S gg in
    read_lending w K ((windows_at (g.O.Outside.places c.feed_gather-in-Windows.new.outside) c.feed_gather-in-Windows.new.place).at ∷ []) (g.O.Outside.places c.feed_gather-in-Windows.new.outside) scalar c.feed-in-Windows.new.self c.deref-in-Windows.result.now h0.shape c.deref-in-Windows.ensures
    (kept_steps (g.O.Outside.places c.feed-in-Windows.new.outside) (g.O.Outside.places c.feed_gather-in-Windows.new.outside) c.feed-in-Windows.new.self _ a0 (m0.lent gg pp) ∙ ap (λ (ts : List Ms). steps_over (rule w K (shape_of scalar)) ts) (one ∙ ap (λ (v : Ms). v ∷ []) (sym here)))

pub Node::feed-windows_fed-requires-clause-scalar : goal.Node::feed-windows_fed-requires-clause-scalar
Node::feed-windows_fed-requires-clause-scalar g t c =
    let S = c.args.store.now in
    let K = c.args.patterns.now in
    let at = c.args.at.now in
    let fed = c.args.fed in
    let P = (g.O.Outside.places c.args.outside.now) in
    let own = as_tree S K _ P fed at c.args.self.now _ c.in-Windows.is c.requires in
    let scalar = c.in-Windows.scalar.value in
    let f0 = part_fed S K _ P fed at _ scalar own (λ f. f.1) (λ w h. h.1) (λ all ts h. h.1) (λ t s. s.2) (λ h. refl) (λ d. d.1) in
    let h0 = part_has S K K _ _ P (g.O.Outside.places c.feed-in-Windows.new.outside) fed at scalar c.deref_mut-in-Windows.result.now c.feed-in-Windows.new.self c.deref_mut-in-Windows.ensures.value refl c.in_ok-feed-in-Windows.ensures.fed c.feed-in-Windows.ensures.shape c.feed-in-Windows.ensures.others in
    let m0 = h0.has f0 in
    λ h. read_scalar scalar c.feed-in-Windows.new.self c.deref-in-Windows.result.now h0.shape c.deref-in-Windows.ensures (own.goes_on.fit.0 h)

pub Node::feed-returns-in_ok-feed_gather-in-Windows-clause-fed : goal.Node::feed-returns-in_ok-feed_gather-in-Windows-clause-fed
Node::feed-returns-in_ok-feed_gather-in-Windows-clause-fed g t c =
    let S = c.args.store.now in
    let K = c.args.patterns.now in
    let at = c.args.at.now in
    let fed = c.args.fed in
    let P = (g.O.Outside.places c.args.outside.now) in
    on_ok c.windows_fed.result c.windows_fed.ensures.lent (λ f. fed_as S K _ _ P (g.O.Outside.places c.feed_gather-in-Windows.new.outside) fed at c.args.self.now _ _ c.in-Windows.is (λ c0.
    let scalar = c.in-Windows.scalar.value in
    let f0 = part_fed S K _ P fed at _ scalar c0 (λ f. f.1) (λ w h. h.1) (λ all ts h. h.1) (λ t s. s.2) (λ h. refl) (λ d. d.1) in
    let h0 = part_has S K K _ _ P (g.O.Outside.places c.feed-in-Windows.new.outside) fed at scalar c.deref_mut-in-Windows.result.now c.feed-in-Windows.new.self c.deref_mut-in-Windows.ensures.value refl c.in_ok-feed-in-Windows.ensures.fed c.feed-in-Windows.ensures.shape c.feed-in-Windows.ensures.others in
    let m0 = h0.has f0 in
    let kernel = c.in-Windows.kernel in
    let k = c.in-Windows.place in
    let u : Ms = get_or at 0 (record { 0 = pos 0 }) in
    let one : at ≡ u ∷ [] = one_at at (record { 0 = pos 0 }) (c0.single refl) in
    let ct = next_takes (AsksWindows kernel.moment kernel.range) K _ P (g.O.Outside.places c.feed-in-Windows.new.outside) k c0.goes_on.all c0.goes_on.known m0.taken c0.times fed at u one c0.goes_on.come.0 (h0.stay k c0.goes_on.apart.0) m0.out c0.due in
    let ht = takes_as K c.feed-in-Windows.new.patterns _ _ (g.O.Outside.places c.feed-in-Windows.new.outside) (g.O.Outside.places c.feed_gather-in-Windows.new.outside) k u c.feed-in-Windows.ensures.same (λ x. c.in_ok-feed_gather-in-Windows.ensures.taken u x) ct in
    let leaf : c.feed_gather-in-Windows.new.place ≡ k = c.feed_gather-in-Windows.ensures.leaf in
    let asks = subst (λ (a : Ask). AsksWindows kernel.moment kernel.range a) (sym ht.asks) c0.goes_on.come.0.asks in
    let inside = ht.windows asks.kind in
    let here : (windows_at (g.O.Outside.places c.feed_gather-in-Windows.new.outside) c.feed_gather-in-Windows.new.place).at ≡ u = ap (λ n. (windows_at (g.O.Outside.places c.feed_gather-in-Windows.new.outside) n).at) leaf ∙ there_at (g.O.Outside.places c.feed_gather-in-Windows.new.outside) k u ht.place ht.here inside in
    let a0 : Agree (places_of (shape_of c.feed-in-Windows.new.self)) (g.O.Outside.places c.feed-in-Windows.new.outside) (g.O.Outside.places c.feed_gather-in-Windows.new.outside) = subst (λ (s : Shape). Agree (places_of s) (g.O.Outside.places c.feed-in-Windows.new.outside) (g.O.Outside.places c.feed_gather-in-Windows.new.outside)) (sym h0.shape) (others_agree (places_of (shape_of scalar)) k (g.O.Outside.places c.feed-in-Windows.new.outside) (g.O.Outside.places c.feed_gather-in-Windows.new.outside) c0.goes_on.apart.0 c.feed_gather-in-Windows.ensures.others) in
    let new = c.windows_fed.new.kernel in
    let come = come_next (AsksWindows kernel.moment kernel.range) K (g.O.Outside.engines c.feed-in-Windows.new.outside) P (g.O.Outside.places c.feed-in-Windows.new.outside) k c0.goes_on.all c0.goes_on.known m0.taken c0.times fed at u one c0.goes_on.come.0 (g.O.Outside.places c.feed_gather-in-Windows.new.outside) _ ht in
    record {
      taken = ht.now;
      grown = grown_then c0.goes_on.taken m0.taken ht.now m0.grown ht.grown;
      out = ht.out;
      lent = λ gg pp.
          (let scalar_rule = rule (world S gg) K (shape_of scalar) in
          let is : windows_at (g.O.Outside.places c.feed_gather-in-Windows.new.outside) c.feed_gather-in-Windows.new.place ≡ (gg k u.0).windows =
          ap (λ n. windows_at (g.O.Outside.places c.feed_gather-in-Windows.new.outside) n) leaf ∙ windows_are (g.O.Outside.places c.feed_gather-in-Windows.new.outside) k u ht.place ht.here ∙ windows_given u ht.place.gather.lent ht.place.gather.windows ht.place.gather.ask.kind (gg k u.0) asks.kind (ht.lent gg pp) in
          f scalar_rule (read_steps (g.O.Outside.places c.feed_gather-in-Windows.new.outside) c.feed-in-Windows.new.self c.deref-in-Windows.result.now _ c.deref-in-Windows.ensures
          (kept_steps (g.O.Outside.places c.feed-in-Windows.new.outside) (g.O.Outside.places c.feed_gather-in-Windows.new.outside) c.feed-in-Windows.new.self _ a0 (m0.lent gg (possible_before m0.taken ht.now gg ht.grown pp)) ∙ ap (λ (ts : List Ms). steps_over scalar_rule ts) (one ∙ ap (λ (v : Ms). v ∷ []) (sym here))))
          ∙ windows_over K c.feed_gather-in-Windows.new.patterns kernel.f kernel.moment kernel.range (rules_of c.in-Windows.passed) scalar_rule k gg (windows_at (g.O.Outside.places c.feed_gather-in-Windows.new.outside) c.feed_gather-in-Windows.new.place) u at (c.feed_gather-in-Windows.ensures.same ∙ c.feed-in-Windows.ensures.same) here is one);
      can = λ gg pp. (
        subst (λ (x : Kept). CanPass x c.windows_fed.new.passed) (c.feed_gather-in-Windows.ensures.same ∙ c.feed-in-Windows.ensures.same) c.windows_fed.ensures.pass,
        can_kept (world S gg) K (g.O.Outside.places c.feed-in-Windows.new.outside) (g.O.Outside.places c.feed_gather-in-Windows.new.outside) (fed_on fed at) c.feed-in-Windows.new.self a0 (m0.can gg (possible_before m0.taken ht.now gg ht.grown pp)),
      );
      come = (
        subst (λ n. HasCome (AsksWindows new.moment new.range) c0.goes_on.all (g.O.Outside.places c.feed_gather-in-Windows.new.outside) c0.times (fed_on fed at) n) (sym leaf)
            (subst (λ (m : WalkMoment). HasCome (AsksWindows m new.range) c0.goes_on.all (g.O.Outside.places c.feed_gather-in-Windows.new.outside) c0.times (fed_on fed at) k) (sym c.windows_fed.ensures.moment)
            (subst (λ (r : Ms). HasCome (AsksWindows kernel.moment r) c0.goes_on.all (g.O.Outside.places c.feed_gather-in-Windows.new.outside) c0.times (fed_on fed at) k) (sym c.windows_fed.ensures.range) come)),
        come_kept c0.goes_on.all (g.O.Outside.places c.feed-in-Windows.new.outside) (g.O.Outside.places c.feed_gather-in-Windows.new.outside) c0.times (fed_on fed at) c.feed-in-Windows.new.self a0 m0.come,
      );
    }))

pub fill-loop-u-init : goal.fill-loop-u-init
fill-loop-u-init g t c =
    let spent = filled_none c.args.store.now c.args.kernel.now.walk c.args.fed c.args.inner.now c.args.work.now in
    record {
      f = refl;
      walk = refl;
      moment = refl;
      range = refl;
      step = refl;
      shape = refl;
      same = refl;
      next = c.requires.next;
      filled = fills_none c.args.store.now c.args.patterns.now _ (g.O.Outside.places c.args.outside.now) c.args.fed c.args.kernel.now c.args.t c.args.inner.now;
      others = λ k n. refl;
      names = refl;
      run = done_none _;
      spent = spent;
      counted = refl;
    }

pub fill-wanted-requires : goal.fill-wanted-requires
fill-wanted-requires g t c =
    let S = c.args.store.now in
    let K = c.args.patterns.now in
    let P = (g.O.Outside.places c.args.outside.now) in
    let k0 = c.args.kernel.now in
    let inner0 = c.args.inner.now in
    let inv = c.loop-u.invariant in
    let r = c.requires in
    let h = inv.filled r in
    let gg = completed h.taken in
    let pp = completed_are r.goes_on.all r.goes_on.known h.taken K _ (g.O.Outside.places c.loop-u.outside) h.out in
    let asked = r.asked gg (possible_before r.goes_on.taken h.taken gg h.grown pp) in
    (r.outer, rule (world S gg) K (shape_of inner0), r.last, record { stands = h.stands gg pp r.outer r.last asked; on = asked.on; later = asked.later })

pub fill-feed-requires : goal.fill-feed-requires
fill-feed-requires g t c κs within =
    let S = c.args.store.now in
    let K = c.args.patterns.now in
    let P = (g.O.Outside.places c.args.outside.now) in
    let k0 = c.args.kernel.now in
    let inner0 = c.args.inner.now in
    let inv = c.loop-u.invariant in
    let r = c.requires in
    let h = inv.filled r in
    let gg = completed h.taken in
    let pp = completed_are r.goes_on.all r.goes_on.known h.taken K _ (g.O.Outside.places c.loop-u.outside) h.out in
    let k = c.loop-u.kernel in
    let u = c.in-Some.u in
    let next : k.next ≡ Some u = subst (λ (o : Option Ms). Rattle.std.specs.Prelude.IfSome o (λ v. k.next ≡ Some v)) c.in-Some.is c.wanted.ensures.next in
    let after : IsNextAfter k.walk (last_of c.loop-u.now) (Some u) = subst (λ (o : Option Ms). IsNextAfter k.walk (last_of c.loop-u.now) o) next inv.next in
    let walks = c.walks_are_listed.ensures in
    let cf = fill_feeds S K _ P c.args.fed k0 c.args.t inner0 walks.first walks.next _ (g.O.Outside.places c.loop-u.outside) c.loop-u.now k c.loop-u.inner u inv.shape inv.walk after r h in
    let part = ap height inv.shape in
    (omega (arith, c.decreases, part), (within.0, (within.1, fed_given S K _ (g.O.Outside.places c.loop-u.outside) c.loop-u.now (u ∷ []) c.loop-u.patterns c.loop-u.inner c.loop-u.inner refl inv.same cf)))

pub fill-inner_taken-requires-clause-there : goal.fill-inner_taken-requires-clause-there
fill-inner_taken-requires-clause-there g t c =
    let S = c.args.store.now in
    let K = c.args.patterns.now in
    let P = (g.O.Outside.places c.args.outside.now) in
    let k0 = c.args.kernel.now in
    let inner0 = c.args.inner.now in
    let inv = c.loop-u.invariant in
    let r = c.requires in
    let h = inv.filled r in
    let gg = completed h.taken in
    let pp = completed_are r.goes_on.all r.goes_on.known h.taken K _ (g.O.Outside.places c.loop-u.outside) h.out in
    let k = c.loop-u.kernel in
    let u = c.in-Some.u in
    let next : k.next ≡ Some u = subst (λ (o : Option Ms). Rattle.std.specs.Prelude.IfSome o (λ v. k.next ≡ Some v)) c.in-Some.is c.wanted.ensures.next in
    let after : IsNextAfter k.walk (last_of c.loop-u.now) (Some u) = subst (λ (o : Option Ms). IsNextAfter k.walk (last_of c.loop-u.now) o) next inv.next in
    let walks = c.walks_are_listed.ensures in
    let cf = fill_feeds S K _ P c.args.fed k0 c.args.t inner0 walks.first walks.next _ (g.O.Outside.places c.loop-u.outside) c.loop-u.now k c.loop-u.inner u inv.shape inv.walk after r h in
    let to = fed_on c.loop-u.now (u ∷ []) in
    let end = (g.O.Outside.places c.feed.new.outside) in
    let hf = feed_kept S K c.loop-u.patterns _ _ (g.O.Outside.places c.loop-u.outside) end c.loop-u.now (u ∷ []) c.loop-u.inner c.feed.new.self inv.same c.in_ok-feed.ensures.fed in
    let m = hf cf in
    come_there r.goes_on.all end r.times to c.feed.new.self m.come

pub fill-inner_taken-requires-clause-next : goal.fill-inner_taken-requires-clause-next
fill-inner_taken-requires-clause-next g t c =
    let S = c.args.store.now in
    let K = c.args.patterns.now in
    let P = (g.O.Outside.places c.args.outside.now) in
    let k0 = c.args.kernel.now in
    let inner0 = c.args.inner.now in
    let inv = c.loop-u.invariant in
    let r = c.requires in
    let h = inv.filled r in
    let gg = completed h.taken in
    let pp = completed_are r.goes_on.all r.goes_on.known h.taken K _ (g.O.Outside.places c.loop-u.outside) h.out in
    let k = c.loop-u.kernel in
    let u = c.in-Some.u in
    let next : k.next ≡ Some u = subst (λ (o : Option Ms). Rattle.std.specs.Prelude.IfSome o (λ v. k.next ≡ Some v)) c.in-Some.is c.wanted.ensures.next in
    let after : IsNextAfter k.walk (last_of c.loop-u.now) (Some u) = subst (λ (o : Option Ms). IsNextAfter k.walk (last_of c.loop-u.now) o) next inv.next in
    let walks = c.walks_are_listed.ensures in
    let cf = fill_feeds S K _ P c.args.fed k0 c.args.t inner0 walks.first walks.next _ (g.O.Outside.places c.loop-u.outside) c.loop-u.now k c.loop-u.inner u inv.shape inv.walk after r h in
    let to = fed_on c.loop-u.now (u ∷ []) in
    let end = (g.O.Outside.places c.feed.new.outside) in
    let hf = feed_kept S K c.loop-u.patterns _ _ (g.O.Outside.places c.loop-u.outside) end c.loop-u.now (u ∷ []) c.loop-u.inner c.feed.new.self inv.same c.in_ok-feed.ensures.fed in
    let m = hf cf in
    let gm = completed m.taken in
    let pm = completed_are r.goes_on.all r.goes_on.known m.taken K _ end m.out in
    (r.outer, rule (world S gm) K (shape_of inner0), r.last, u, fill_step S K _ _ _ P (g.O.Outside.places c.loop-u.outside) end c.args.fed c.loop-u.now k0 k c.args.t inner0 c.loop-u.inner c.feed.new.self u inv.shape next c.marks_are_sets.ensures (lent_by (g.O.Outside.places c.feed.new.outside) c.feed.new.self) refl r h m gm pm)

pub fill-returns-in_err-feed-clause-others : goal.fill-returns-in_err-feed-clause-others
fill-returns-in_err-feed-clause-others g t c =
    stay_more (g.O.Outside.places c.args.outside.now) (g.O.Outside.places c.loop-u.outside) (g.O.Outside.places c.feed.new.outside) c.args.inner.now c.loop-u.inner c.loop-u.invariant.shape c.loop-u.invariant.others c.feed.ensures.others

pub fill-returns-in_err-feed-clause-run : goal.fill-returns-in_err-feed-clause-run
fill-returns-in_err-feed-clause-run g t c =
    run_then _ _ _ _ _ c.loop-u.invariant.run (run_fault _ c.from_residual.result _ _ c.from_residual.ensures.1 c.in_err-feed.ensures.run)

pub fill-returns-in_err-inner_taken-clause-others : goal.fill-returns-in_err-inner_taken-clause-others
fill-returns-in_err-inner_taken-clause-others g t c =
    stay_more (g.O.Outside.places c.args.outside.now) (g.O.Outside.places c.loop-u.outside) (g.O.Outside.places c.feed.new.outside) c.args.inner.now c.loop-u.inner c.loop-u.invariant.shape c.loop-u.invariant.others c.feed.ensures.others

pub fill-returns-in_err-inner_taken-clause-run : goal.fill-returns-in_err-inner_taken-clause-run
fill-returns-in_err-inner_taken-clause-run g t c =
    run_then _ _ _ _ _ c.loop-u.invariant.run (memory_behind _ c.from_residual-in_err-inner_taken.result _ _ _ c.from_residual-in_err-inner_taken.ensures.1 c.in_err-inner_taken.ensures.memory c.in_ok-feed.ensures.run)

pub fill-loop-u-preserved : goal.fill-loop-u-preserved
fill-loop-u-preserved g t c =
    let S = c.args.store.now in
    let K = c.args.patterns.now in
    let P = (g.O.Outside.places c.args.outside.now) in
    let k0 = c.args.kernel.now in
    let inner0 = c.args.inner.now in
    let inv = c.loop-u.invariant in
    let k = c.loop-u.kernel in
    let u = c.in-Some.u in
    let next : k.next ≡ Some u = subst (λ (o : Option Ms). Rattle.std.specs.Prelude.IfSome o (λ v. k.next ≡ Some v)) c.in-Some.is c.wanted.ensures.next in
    let after : IsNextAfter k.walk (last_of c.loop-u.now) (Some u) = subst (λ (o : Option Ms). IsNextAfter k.walk (last_of c.loop-u.now) o) next inv.next in
    let walks = c.walks_are_listed.ensures in
    let end = (g.O.Outside.places c.feed.new.outside) in
    let to = fed_on c.loop-u.now (u ∷ []) in
    let took = c.inner_taken.ensures in
    let ok = c.in_ok-inner_taken.ensures in
    let stands = ok.stands in
    let lasts = ok.last in
    let walk = k0.walk in
    let more = filled_more S walk c.args.fed c.loop-u.now u inner0 c.loop-u.inner c.feed.new.self c.args.work.now c.loop-u.work c.feed.new.work inv.spent inv.shape k.walk inv.walk after c.in_ok-feed.ensures.spent in
    let now : c.fed_with-now.result ≡ to = c.fed_with-now.ensures in
    let hf = feed_kept S K c.loop-u.patterns _ _ (g.O.Outside.places c.loop-u.outside) end c.loop-u.now (u ∷ []) c.loop-u.inner c.feed.new.self inv.same c.in_ok-feed.ensures.fed in
    let filled = fills_more S K _ _ _ P (g.O.Outside.places c.loop-u.outside) end c.args.fed c.loop-u.now k0 k c.args.t inner0 c.loop-u.inner c.feed.new.self u inv.shape next c.marks_are_sets.ensures (lent_by (g.O.Outside.places c.feed.new.outside) c.feed.new.self) refl walks.first walks.next c.inner_taken.new.kernel inv.walk after inv.filled hf stands in
    record {
      f = took.f ∙ inv.f;
      walk = took.walk ∙ inv.walk;
      moment = took.moment ∙ inv.moment;
      range = took.range ∙ inv.range;
      step = took.step ∙ inv.step;
      shape = c.feed.ensures.shape ∙ inv.shape;
      same = c.feed.ensures.same ∙ inv.same;
      next = subst (λ (o : Option Ms). IsNextAfter c.inner_taken.new.kernel.walk o c.inner_taken.new.kernel.next) (lasts ∙ next ∙ sym (ap last_of now ∙ last_next c.loop-u.now u))
          (filled_behind S K _ _ P end c.args.fed to k0 c.inner_taken.new.kernel c.args.t inner0 c.feed.new.self filled c.requires);
      filled = subst (λ (o : Option Fed). Fills S K (g.O.Outside.engines c.args.outside.now) (g.O.Outside.engines c.feed.new.outside) P end c.args.fed o k0 c.inner_taken.new.kernel c.args.t inner0 c.feed.new.self) (sym now) filled;
      others = stay_more P (g.O.Outside.places c.loop-u.outside) end inner0 c.loop-u.inner inv.shape inv.others c.feed.ensures.others;
      names = c.feed.ensures.names ∙ inv.names;
      run = run_done _ _ _ (run_then _ _ _ _ _ inv.run c.in_ok-feed.ensures.run);
      spent = subst (λ (o : Option Fed). Filled S walk c.args.fed o inner0 c.feed.new.self c.args.work.now c.feed.new.work) (sym now) more;
      counted = counts_more S c.args.fed c.loop-u.now c.fed_with-now.result to inner0 c.loop-u.inner c.feed.new.self c.args.work.now.fetched c.loop-u.work.fetched c.feed.new.work.fetched now inv.counted c.in_ok-feed.ensures.counted;
    }

pub fill-returns-clause-run : goal.fill-returns-clause-run
fill-returns-clause-run g t c =
    run_ok_as c.loop-u.now _ _ c.loop-u.invariant.run

pub ready-returns-in-Some-clause-made : goal.ready-returns-in-Some-clause-made
ready-returns-in-Some-clause-made g t c =
    let S = c.args.store.now in
    let K = c.args.patterns.now in
    let P = (g.O.Outside.places c.args.outside.now) in
    let first = c.args.first in
    let child = c.args.child.now in
    repeat_stays S K _ P first c.args.steps.now child c.args.fed c.in-Some.field-0 c.in-Some.is

pub ready-returns-in-Some-clause-named : goal.ready-returns-in-Some-clause-named
ready-returns-in-Some-clause-named g t c =
    let S = c.args.store.now in
    let K = c.args.patterns.now in
    let P = (g.O.Outside.places c.args.outside.now) in
    let first = c.args.first in
    let child = c.args.child.now in
    labels_stay S K _ P first c.args.steps.now child c.args.fed c.in-Some.field-0 c.in-Some.is c.requires

pub ready-returns-in-Some-clause-run : goal.ready-returns-in-Some-clause-run
ready-returns-in-Some-clause-run g t c =
    done_none _

pub ready-feed-requires : goal.ready-feed-requires
ready-feed-requires g t c κs within =
    let S = c.args.store.now in
    let K = c.args.patterns.now in
    let P = (g.O.Outside.places c.args.outside.now) in
    let first = c.args.first in
    let child = c.args.child.now in
    (omega (arith, c.decreases), (within.0, (within.1, repeat_may S K _ P first c.args.steps.now child c.args.fed c.in-None.is c.requires)))

pub ready-child_named-requires : goal.ready-child_named-requires
ready-child_named-requires g t c =
    let S = c.args.store.now in
    let K = c.args.patterns.now in
    let P = (g.O.Outside.places c.args.outside.now) in
    let first = c.args.first in
    let child = c.args.child.now in
    let end = (g.O.Outside.places c.feed.new.outside) in
    let m = c.in_ok-feed-in-None.ensures.fed (repeat_may S K _ P first c.args.steps.now child c.args.fed c.in-None.is c.requires) in
    record { there = come_made S K _ end _ _ _ _ _ _ _ c.feed.new.self m }

pub ready-returns-in_err-feed-in-None-clause-run : goal.ready-returns-in_err-feed-in-None-clause-run
ready-returns-in_err-feed-in-None-clause-run g t c =
    run_fault _ c.from_residual.result _ _ c.from_residual.ensures.1 c.in_err-feed-in-None.ensures.run

pub ready-returns-in_ok-feed-in-None-clause-run : goal.ready-returns-in_ok-feed-in-None-clause-run
ready-returns-in_ok-feed-in-None-clause-run g t c =
    own_behind _ c.child_named.result _ _ c.child_named.ensures.memory c.in_ok-feed-in-None.ensures.run

pub ready-returns-in_ok-feed-in-None-clause-made : goal.ready-returns-in_ok-feed-in-None-clause-made
ready-returns-in_ok-feed-in-None-clause-made g t c =
    let S = c.args.store.now in
    let K = c.args.patterns.now in
    let P = (g.O.Outside.places c.args.outside.now) in
    let first = c.args.first in
    let child = c.args.child.now in
    let end = (g.O.Outside.places c.feed.new.outside) in
    on_ok c.child_named.result c.child_named.ensures.named (λ f. repeat_made S K _ P first c.args.steps.now child _ end c.args.fed c.feed.new.self c.in-None.is c.in_ok-feed-in-None.ensures.fed)

-- ---- what is spent

pub Node::feed-returns-in-Instants-clause-spent : goal.Node::feed-returns-in-Instants-clause-spent
Node::feed-returns-in-Instants-clause-spent g t c =
    let S = c.args.store.now in let to = fed_on c.args.fed c.args.at.now in let w = c.args.work.now in
    made_as S c.args.fed to c.or_memory.result c.args.self.now _ (λ read. read ≡ nothing) w w c.in-Instants.is
    (stays_made (λ read. read ≡ nothing) w)

pub Node::feed-returns-in-Select-clause-spent : goal.Node::feed-returns-in-Select-clause-spent
Node::feed-returns-in-Select-clause-spent g t c =
    let S = c.args.store.now in let to = fed_on c.args.fed c.args.at.now in let w = c.args.work.now in
    let k = c.in-Select.kernel in let e = c.feed-in-Select.ensures in let new = c.feed-in-Select.new.self in
    let K = c.args.patterns.now in let P = (g.O.Outside.places c.args.outside.now) in let own = as_tree S K _ P c.args.fed c.args.at.now c.args.self.now _ c.in-Select.is c.requires in
    let goes = own.goes_on.can (completed own.goes_on.taken) (completed_are own.goes_on.all own.goes_on.known own.goes_on.taken K _ P own.goes_on.out) in
    made_as S c.args.fed to c.or_memory-in-Select.result c.args.self.now _ (λ read. read ≡ leaf_read lookback S new.series new.moment to) w c.feed-in-Select.new.work c.in-Select.is
    (leaf_spends lookback lookback S k.series new.series k.moment new.moment c.args.fed c.args.at.now k.reached w c.feed-in-Select.new.work goes.reached e.fetched e.probed e.tested refl e.series e.moment)

pub Node::feed-returns-in_err-feed-in-Series-clause-spent : goal.Node::feed-returns-in_err-feed-in-Series-clause-spent
Node::feed-returns-in_err-feed-in-Series-clause-spent g t c =
    let S = c.args.store.now in let to = fed_on c.args.fed c.args.at.now in let w = c.args.work.now in
    let k = c.in-Series.kernel in let scalar = c.in-Series.scalar.value in
    failed_as _ S c.args.fed to c.from_residual.result c.from_residual.ensures.1 c.args.self.now _ (IsSum (HasRead S to c.feed-in-Series.new.self) (λ read. read ≡ leaf_read k.range.0 S k.series k.moment to)) w c.feed-in-Series.new.work c.in-Series.is
    (λ was h. sum_fails (HasRead S c.args.fed scalar) (λ read. read ≡ leaf_read k.range.0 S k.series k.moment c.args.fed) (MayRead S to (shape_of scalar)) (LeafMayRead k.range.0 S k.series k.moment to) w c.feed-in-Series.new.work c.feed-in-Series.new.work was h
    (part_fails S c.args.fed to c.feed-in-Series.result c.deref_mut.result.now scalar c.feed-in-Series.new.self w c.feed-in-Series.new.work c.deref_mut.ensures.value c.feed-in-Series.ensures.spent)
    (leaf_unread k.range.0 S k.series k.moment c.args.fed to c.feed-in-Series.new.work (up_to_on c.args.fed c.args.at.now c.requires.goes)))

pub Node::feed-returns-in_ok-feed-in-Series-clause-spent : goal.Node::feed-returns-in_ok-feed-in-Series-clause-spent
Node::feed-returns-in_ok-feed-in-Series-clause-spent g t c =
    let S = c.args.store.now in let to = fed_on c.args.fed c.args.at.now in let w = c.args.work.now in
    let k = c.in-Series.kernel in let e = c.series_fed.ensures in let new = c.series_fed.new.kernel in let scalar = c.in-Series.scalar.value in
    let K = c.args.patterns.now in let P = (g.O.Outside.places c.args.outside.now) in let own = as_tree S K _ P c.args.fed c.args.at.now c.args.self.now _ c.in-Series.is c.requires in
    let goes = own.goes_on.can (completed own.goes_on.taken) (completed_are own.goes_on.all own.goes_on.known own.goes_on.taken K _ P own.goes_on.out) in
    made_as S c.args.fed to c.series_fed.result c.args.self.now _ (IsSum (HasRead S to c.feed-in-Series.new.self) (λ read. read ≡ leaf_read new.range.0 S new.series new.moment to)) w c.series_fed.new.work c.in-Series.is
    (λ was h. sum_made (HasRead S c.args.fed scalar) (λ read. read ≡ leaf_read k.range.0 S k.series k.moment c.args.fed) (MayRead S to (shape_of scalar)) (LeafMayRead k.range.0 S k.series k.moment to)
    (HasRead S to c.feed-in-Series.new.self) (λ read. read ≡ leaf_read new.range.0 S new.series new.moment to) w c.feed-in-Series.new.work c.series_fed.new.work was h
    (part_spends S c.args.fed to c.deref_mut.result.now scalar c.feed-in-Series.new.self w c.feed-in-Series.new.work c.deref_mut.ensures.value c.in_ok-feed-in-Series.ensures.spent)
    (leaf_spends k.range.0 new.range.0 S k.series new.series k.moment new.moment c.args.fed c.args.at.now k.reached c.feed-in-Series.new.work c.series_fed.new.work goes.0.reached e.fetched e.probed e.tested (ap (λ (r : Ms). r.0) e.range) e.series e.moment))

pub Node::feed-returns-in_err-feed-in-Unary-clause-spent : goal.Node::feed-returns-in_err-feed-in-Unary-clause-spent
Node::feed-returns-in_err-feed-in-Unary-clause-spent g t c =
    let S = c.args.store.now in let to = fed_on c.args.fed c.args.at.now in let w = c.args.work.now in
    failed_as _ S c.args.fed to c.from_residual-in_err-feed-in-Unary.result c.from_residual-in_err-feed-in-Unary.ensures.1 c.args.self.now _ (HasRead S to c.feed-in-Unary.new.self) w c.feed-in-Unary.new.work c.in-Unary.is
    (part_fails S c.args.fed to c.feed-in-Unary.result c.deref_mut-in-Unary.result.now c.in-Unary.rows.value c.feed-in-Unary.new.self w c.feed-in-Unary.new.work c.deref_mut-in-Unary.ensures.value c.feed-in-Unary.ensures.spent)

pub Node::feed-returns-in_ok-feed-in-Unary-clause-spent : goal.Node::feed-returns-in_ok-feed-in-Unary-clause-spent
Node::feed-returns-in_ok-feed-in-Unary-clause-spent g t c =
    let S = c.args.store.now in let to = fed_on c.args.fed c.args.at.now in let w = c.args.work.now in
    made_as S c.args.fed to c.unary_fed.result c.args.self.now _ (HasRead S to c.feed-in-Unary.new.self) w c.feed-in-Unary.new.work c.in-Unary.is
    (part_spends S c.args.fed to c.deref_mut-in-Unary.result.now c.in-Unary.rows.value c.feed-in-Unary.new.self w c.feed-in-Unary.new.work c.deref_mut-in-Unary.ensures.value c.in_ok-feed-in-Unary.ensures.spent)

pub Node::feed-returns-in_err-feed-in-Binary-clause-spent : goal.Node::feed-returns-in_err-feed-in-Binary-clause-spent
Node::feed-returns-in_err-feed-in-Binary-clause-spent g t c =
    let S = c.args.store.now in let to = fed_on c.args.fed c.args.at.now in let w = c.args.work.now in
    let rows = c.in-Binary.rows.value in let beside = c.in-Binary.beside.value in
    let x = c.feed-in-Binary.new.work in
    failed_as _ S c.args.fed to c.from_residual-in_err-feed-in-Binary.result c.from_residual-in_err-feed-in-Binary.ensures.1 c.args.self.now _ (IsSum (HasRead S to c.feed-in-Binary.new.self) (HasRead S to beside)) w x c.in-Binary.is
    (two_fail S c.args.fed to rows beside w x x (part_fails S c.args.fed to c.feed-in-Binary.result c.deref_mut-in-Binary.result.now rows c.feed-in-Binary.new.self w x c.deref_mut-in-Binary.ensures.value c.feed-in-Binary.ensures.spent) (unread S c.args.fed to beside x (up_to_on c.args.fed c.args.at.now c.requires.goes)))

pub Node::feed-returns-in_err-feed-in-Binary-2-clause-spent : goal.Node::feed-returns-in_err-feed-in-Binary-2-clause-spent
Node::feed-returns-in_err-feed-in-Binary-2-clause-spent g t c =
    let S = c.args.store.now in let to = fed_on c.args.fed c.args.at.now in let w = c.args.work.now in
    let rows = c.in-Binary.rows.value in let beside = c.in-Binary.beside.value in
    let x = c.feed-in-Binary.new.work in let y = c.feed-in-Binary-2.new.work in
    failed_as _ S c.args.fed to c.from_residual-in_err-feed-in-Binary-2.result c.from_residual-in_err-feed-in-Binary-2.ensures.1 c.args.self.now _ (IsSum (HasRead S to c.feed-in-Binary.new.self) (HasRead S to c.feed-in-Binary-2.new.self)) w y c.in-Binary.is
    (two_fail S c.args.fed to rows beside w x y (part_made S c.args.fed to rows c.feed-in-Binary.new.self w x (part_spends S c.args.fed to c.deref_mut-in-Binary.result.now rows c.feed-in-Binary.new.self w x c.deref_mut-in-Binary.ensures.value c.in_ok-feed-in-Binary.ensures.spent))
    (part_fails S c.args.fed to c.feed-in-Binary-2.result c.deref_mut-in-Binary-2.result.now beside c.feed-in-Binary-2.new.self x y c.deref_mut-in-Binary-2.ensures.value c.feed-in-Binary-2.ensures.spent))

pub Node::feed-returns-in_ok-feed-in-Binary-2-clause-spent : goal.Node::feed-returns-in_ok-feed-in-Binary-2-clause-spent
Node::feed-returns-in_ok-feed-in-Binary-2-clause-spent g t c =
    let S = c.args.store.now in let to = fed_on c.args.fed c.args.at.now in let w = c.args.work.now in
    let rows = c.in-Binary.rows.value in let beside = c.in-Binary.beside.value in
    let x = c.feed-in-Binary.new.work in let y = c.feed-in-Binary-2.new.work in
    made_as S c.args.fed to c.binary_fed.result c.args.self.now _ (IsSum (HasRead S to c.feed-in-Binary.new.self) (HasRead S to c.feed-in-Binary-2.new.self)) w y c.in-Binary.is
    (two_made S c.args.fed to rows beside c.feed-in-Binary.new.self c.feed-in-Binary-2.new.self w x y (part_spends S c.args.fed to c.deref_mut-in-Binary.result.now rows c.feed-in-Binary.new.self w x c.deref_mut-in-Binary.ensures.value c.in_ok-feed-in-Binary.ensures.spent)
    (part_spends S c.args.fed to c.deref_mut-in-Binary-2.result.now beside c.feed-in-Binary-2.new.self x y c.deref_mut-in-Binary-2.ensures.value c.in_ok-feed-in-Binary-2.ensures.spent))

pub Node::feed-returns-in_err-feed-in-Clamp-clause-spent : goal.Node::feed-returns-in_err-feed-in-Clamp-clause-spent
Node::feed-returns-in_err-feed-in-Clamp-clause-spent g t c =
    let S = c.args.store.now in let to = fed_on c.args.fed c.args.at.now in let w = c.args.work.now in
    let rows = c.in-Clamp.rows.value in let low = c.in-Clamp.low.value in let high = c.in-Clamp.high.value in
    let x = c.feed-in-Clamp.new.work in let up = up_to_on c.args.fed c.args.at.now c.requires.goes in
    failed_as _ S c.args.fed to c.from_residual-in_err-feed-in-Clamp.result c.from_residual-in_err-feed-in-Clamp.ensures.1 c.args.self.now _ (IsSum (HasRead S to c.feed-in-Clamp.new.self) (IsSum (HasRead S to low) (HasRead S to high))) w x c.in-Clamp.is
    (three_fail S c.args.fed to rows low high w x x x (part_fails S c.args.fed to c.feed-in-Clamp.result c.deref_mut-in-Clamp.result.now rows c.feed-in-Clamp.new.self w x c.deref_mut-in-Clamp.ensures.value c.feed-in-Clamp.ensures.spent) (unread S c.args.fed to low x up) (unread S c.args.fed to high x up))

pub Node::feed-returns-in_err-feed-in-Clamp-2-clause-spent : goal.Node::feed-returns-in_err-feed-in-Clamp-2-clause-spent
Node::feed-returns-in_err-feed-in-Clamp-2-clause-spent g t c =
    let S = c.args.store.now in let to = fed_on c.args.fed c.args.at.now in let w = c.args.work.now in
    let rows = c.in-Clamp.rows.value in let low = c.in-Clamp.low.value in let high = c.in-Clamp.high.value in
    let x = c.feed-in-Clamp.new.work in let y = c.feed-in-Clamp-2.new.work in
    failed_as _ S c.args.fed to c.from_residual-in_err-feed-in-Clamp-2.result c.from_residual-in_err-feed-in-Clamp-2.ensures.1 c.args.self.now _ (IsSum (HasRead S to c.feed-in-Clamp.new.self) (IsSum (HasRead S to c.feed-in-Clamp-2.new.self) (HasRead S to high))) w y c.in-Clamp.is
    (three_fail S c.args.fed to rows low high w x y y (part_made S c.args.fed to rows c.feed-in-Clamp.new.self w x (part_spends S c.args.fed to c.deref_mut-in-Clamp.result.now rows c.feed-in-Clamp.new.self w x c.deref_mut-in-Clamp.ensures.value c.in_ok-feed-in-Clamp.ensures.spent))
    (part_fails S c.args.fed to c.feed-in-Clamp-2.result c.deref_mut-in-Clamp-2.result.now low c.feed-in-Clamp-2.new.self x y c.deref_mut-in-Clamp-2.ensures.value c.feed-in-Clamp-2.ensures.spent) (unread S c.args.fed to high y (up_to_on c.args.fed c.args.at.now c.requires.goes)))

pub Node::feed-returns-in_err-feed-in-Clamp-3-clause-spent : goal.Node::feed-returns-in_err-feed-in-Clamp-3-clause-spent
Node::feed-returns-in_err-feed-in-Clamp-3-clause-spent g t c =
    let S = c.args.store.now in let to = fed_on c.args.fed c.args.at.now in let w = c.args.work.now in
    let rows = c.in-Clamp.rows.value in let low = c.in-Clamp.low.value in let high = c.in-Clamp.high.value in
    let x = c.feed-in-Clamp.new.work in let y = c.feed-in-Clamp-2.new.work in let z = c.feed-in-Clamp-3.new.work in
    failed_as _ S c.args.fed to c.from_residual-in_err-feed-in-Clamp-3.result c.from_residual-in_err-feed-in-Clamp-3.ensures.1 c.args.self.now _ (IsSum (HasRead S to c.feed-in-Clamp.new.self) (IsSum (HasRead S to c.feed-in-Clamp-2.new.self) (HasRead S to c.feed-in-Clamp-3.new.self))) w z c.in-Clamp.is
    (three_fail S c.args.fed to rows low high w x y z (part_made S c.args.fed to rows c.feed-in-Clamp.new.self w x (part_spends S c.args.fed to c.deref_mut-in-Clamp.result.now rows c.feed-in-Clamp.new.self w x c.deref_mut-in-Clamp.ensures.value c.in_ok-feed-in-Clamp.ensures.spent))
    (part_made S c.args.fed to low c.feed-in-Clamp-2.new.self x y (part_spends S c.args.fed to c.deref_mut-in-Clamp-2.result.now low c.feed-in-Clamp-2.new.self x y c.deref_mut-in-Clamp-2.ensures.value c.in_ok-feed-in-Clamp-2.ensures.spent))
    (part_fails S c.args.fed to c.feed-in-Clamp-3.result c.deref_mut-in-Clamp-3.result.now high c.feed-in-Clamp-3.new.self y z c.deref_mut-in-Clamp-3.ensures.value c.feed-in-Clamp-3.ensures.spent))

pub Node::feed-returns-in_ok-feed-in-Clamp-3-clause-spent : goal.Node::feed-returns-in_ok-feed-in-Clamp-3-clause-spent
Node::feed-returns-in_ok-feed-in-Clamp-3-clause-spent g t c =
    let S = c.args.store.now in let to = fed_on c.args.fed c.args.at.now in let w = c.args.work.now in
    let rows = c.in-Clamp.rows.value in let low = c.in-Clamp.low.value in let high = c.in-Clamp.high.value in
    let x = c.feed-in-Clamp.new.work in let y = c.feed-in-Clamp-2.new.work in let z = c.feed-in-Clamp-3.new.work in
    made_as S c.args.fed to c.clamp_fed.result c.args.self.now _ (IsSum (HasRead S to c.feed-in-Clamp.new.self) (IsSum (HasRead S to c.feed-in-Clamp-2.new.self) (HasRead S to c.feed-in-Clamp-3.new.self))) w z c.in-Clamp.is
    (three_made S c.args.fed to rows low high c.feed-in-Clamp.new.self c.feed-in-Clamp-2.new.self c.feed-in-Clamp-3.new.self w x y z (part_spends S c.args.fed to c.deref_mut-in-Clamp.result.now rows c.feed-in-Clamp.new.self w x c.deref_mut-in-Clamp.ensures.value c.in_ok-feed-in-Clamp.ensures.spent)
    (part_spends S c.args.fed to c.deref_mut-in-Clamp-2.result.now low c.feed-in-Clamp-2.new.self x y c.deref_mut-in-Clamp-2.ensures.value c.in_ok-feed-in-Clamp-2.ensures.spent)
    (part_spends S c.args.fed to c.deref_mut-in-Clamp-3.result.now high c.feed-in-Clamp-3.new.self y z c.deref_mut-in-Clamp-3.ensures.value c.in_ok-feed-in-Clamp-3.ensures.spent))

pub Node::feed-returns-in_err-feed-in-Points-clause-spent : goal.Node::feed-returns-in_err-feed-in-Points-clause-spent
Node::feed-returns-in_err-feed-in-Points-clause-spent g t c =
    let S = c.args.store.now in let to = fed_on c.args.fed c.args.at.now in let w = c.args.work.now in
    let k = c.in-Points.kernel in let inner_fed = c.in-Points.inner_fed in
    let inner = c.in-Points.inner.value in let scalar = c.in-Points.scalar.value in let x = c.feed-in-Points.new.work in
    failed_as _ S c.args.fed to c.from_residual-in_err-feed-in-Points.result c.from_residual-in_err-feed-in-Points.ensures.1 c.args.self.now _ (λ read. IsAlong k.walk inner_fed × IsSum (HasRead S to c.feed-in-Points.new.self) (HasRead S inner_fed inner) read) w x c.in-Points.is
    (fill_waits S k.walk inner_fed c.args.fed to inner inner inner scalar w x x refl (part_fails S c.args.fed to c.feed-in-Points.result c.deref_mut-in-Points.result.now scalar c.feed-in-Points.new.self w x c.deref_mut-in-Points.ensures.value c.feed-in-Points.ensures.spent))

pub Node::feed-returns-in_err-inner_fed-in-Points-clause-spent : goal.Node::feed-returns-in_err-inner_fed-in-Points-clause-spent
Node::feed-returns-in_err-inner_fed-in-Points-clause-spent g t c =
    let S = c.args.store.now in let to = fed_on c.args.fed c.args.at.now in let w = c.args.work.now in
    let k = c.in-Points.kernel in let inner_fed = c.in-Points.inner_fed in
    let inner = c.in-Points.inner.value in let scalar = c.in-Points.scalar.value in let x = c.feed-in-Points.new.work in
    failed_as _ S c.args.fed to c.from_residual-in_err-inner_fed-in-Points.result c.from_residual-in_err-inner_fed-in-Points.ensures.1 c.args.self.now _ (λ read. IsAlong c.fill.new.kernel.walk inner_fed × IsSum (HasRead S to c.feed-in-Points.new.self) (HasRead S inner_fed c.fill.new.inner) read) w c.fill.new.work c.in-Points.is
    (fill_fails S k.walk inner_fed c.args.fed to inner c.deref_mut-in-Points-2.result.now c.fill.new.inner scalar w x c.fill.new.work c.deref_mut-in-Points-2.ensures.value c.fill.result
    (part_made S c.args.fed to scalar c.feed-in-Points.new.self w x (part_spends S c.args.fed to c.deref_mut-in-Points.result.now scalar c.feed-in-Points.new.self w x c.deref_mut-in-Points.ensures.value c.in_ok-feed-in-Points.ensures.spent)) c.fill.ensures.spent)

pub Node::feed-returns-in_ok-inner_fed-in-Points-clause-spent : goal.Node::feed-returns-in_ok-inner_fed-in-Points-clause-spent
Node::feed-returns-in_ok-inner_fed-in-Points-clause-spent g t c =
    let S = c.args.store.now in let to = fed_on c.args.fed c.args.at.now in let w = c.args.work.now in
    let k = c.in-Points.kernel in let inner_fed = c.in-Points.inner_fed in
    let inner = c.in-Points.inner.value in let scalar = c.in-Points.scalar.value in let x = c.feed-in-Points.new.work in
    let end = c.in_ok-inner_fed-in-Points.field-0 in
    made_as S c.args.fed to c.points_fed.result c.args.self.now _ (λ read. IsAlong c.points_fed.new.kernel.walk end × IsSum (HasRead S to c.feed-in-Points.new.self) (HasRead S end c.fill.new.inner) read) w c.fill.new.work c.in-Points.is
    (fill_made S k.walk inner_fed c.args.fed to inner c.deref_mut-in-Points-2.result.now c.fill.new.inner scalar w x c.fill.new.work c.deref_mut-in-Points-2.ensures.value end c.points_fed.new.kernel.walk c.feed-in-Points.new.self (c.points_fed.ensures.walk ∙ c.fill.ensures.walk)
    (part_spends S c.args.fed to c.deref_mut-in-Points.result.now scalar c.feed-in-Points.new.self w x c.deref_mut-in-Points.ensures.value c.in_ok-feed-in-Points.ensures.spent) c.in_ok-inner_fed-in-Points.ensures.spent)

pub Node::feed-returns-in_err-ready-in-Once-clause-spent : goal.Node::feed-returns-in_err-ready-in-Once-clause-spent
Node::feed-returns-in_err-ready-in-Once-clause-spent g t c =
    let S = c.args.store.now in let to = fed_on c.args.fed c.args.at.now in let w = c.args.work.now in
    let first = c.in-Once.first in let child = c.in-Once.child.value in let x = c.ready.new.work in
    failed_as _ S c.args.fed to c.from_residual-in_err-ready-in-Once.result c.from_residual-in_err-ready-in-Once.ensures.1 c.args.self.now _ (HasRead S (once first to) c.ready.new.child) w x c.in-Once.is
    (once_fails S first c.args.fed c.args.at.now c.requires.some child w x (part_fails S (once first c.args.fed) (fed_once first) c.ready.result c.deref_mut-in-Once.result.now child c.ready.new.child w x c.deref_mut-in-Once.ensures.value c.ready.ensures.spent))

pub Node::feed-returns-in_ok-ready-in-Once-clause-spent : goal.Node::feed-returns-in_ok-ready-in-Once-clause-spent
Node::feed-returns-in_ok-ready-in-Once-clause-spent g t c =
    let S = c.args.store.now in let to = fed_on c.args.fed c.args.at.now in let w = c.args.work.now in
    let first = c.in-Once.first in let child = c.in-Once.child.value in let x = c.ready.new.work in
    made_as S c.args.fed to c.once_fed.result c.args.self.now _ (HasRead S (once first to) c.ready.new.child) w x c.in-Once.is
    (once_made S first c.args.fed c.args.at.now c.requires.some child w x c.ready.new.child (part_spends S (once first c.args.fed) (fed_once first) c.deref_mut-in-Once.result.now child c.ready.new.child w x c.deref_mut-in-Once.ensures.value c.in_ok-ready-in-Once.ensures.spent))

pub Node::feed-returns-in_err-feed-in-Windows-clause-spent : goal.Node::feed-returns-in_err-feed-in-Windows-clause-spent
Node::feed-returns-in_err-feed-in-Windows-clause-spent g t c =
    let S = c.args.store.now in let to = fed_on c.args.fed c.args.at.now in let w = c.args.work.now in
    failed_as _ S c.args.fed to c.from_residual-in_err-feed-in-Windows.result c.from_residual-in_err-feed-in-Windows.ensures.1 c.args.self.now _ (HasRead S to c.feed-in-Windows.new.self) w c.feed-in-Windows.new.work c.in-Windows.is
    (part_fails S c.args.fed to c.feed-in-Windows.result c.deref_mut-in-Windows.result.now c.in-Windows.scalar.value c.feed-in-Windows.new.self w c.feed-in-Windows.new.work c.deref_mut-in-Windows.ensures.value c.feed-in-Windows.ensures.spent)

pub Node::feed-returns-in_err-feed_gather-in-Windows-clause-spent : goal.Node::feed-returns-in_err-feed_gather-in-Windows-clause-spent
Node::feed-returns-in_err-feed_gather-in-Windows-clause-spent g t c =
    let S = c.args.store.now in let to = fed_on c.args.fed c.args.at.now in let w = c.args.work.now in
    let scalar = c.in-Windows.scalar.value in let x = c.feed-in-Windows.new.work in
    failed_as _ S c.args.fed to c.from_residual-in_err-feed_gather-in-Windows.result c.from_residual-in_err-feed_gather-in-Windows.ensures.1 c.args.self.now _ (HasRead S to c.feed-in-Windows.new.self) w x c.in-Windows.is
    (part_made S c.args.fed to scalar c.feed-in-Windows.new.self w x (part_spends S c.args.fed to c.deref_mut-in-Windows.result.now scalar c.feed-in-Windows.new.self w x c.deref_mut-in-Windows.ensures.value c.in_ok-feed-in-Windows.ensures.spent))

pub Node::feed-returns-in_ok-feed_gather-in-Windows-clause-spent : goal.Node::feed-returns-in_ok-feed_gather-in-Windows-clause-spent
Node::feed-returns-in_ok-feed_gather-in-Windows-clause-spent g t c =
    let S = c.args.store.now in let to = fed_on c.args.fed c.args.at.now in let w = c.args.work.now in
    made_as S c.args.fed to c.windows_fed.result c.args.self.now _ (HasRead S to c.feed-in-Windows.new.self) w c.feed-in-Windows.new.work c.in-Windows.is
    (part_spends S c.args.fed to c.deref_mut-in-Windows.result.now c.in-Windows.scalar.value c.feed-in-Windows.new.self w c.feed-in-Windows.new.work c.deref_mut-in-Windows.ensures.value c.in_ok-feed-in-Windows.ensures.spent)

pub fill-returns-in_err-feed-clause-spent : goal.fill-returns-in_err-feed-clause-spent
fill-returns-in_err-feed-clause-spent g t c =
    let inv = c.loop-u.invariant in
    let k = c.loop-u.kernel in
    let u = c.in-Some.u in
    let next : k.next ≡ Some u = subst (λ (o : Option Ms). Rattle.std.specs.Prelude.IfSome o (λ v. k.next ≡ Some v)) c.in-Some.is c.wanted.ensures.next in
    let after : IsNextAfter k.walk (last_of c.loop-u.now) (Some u) = subst (λ (o : Option Ms). IsNextAfter k.walk (last_of c.loop-u.now) o) next inv.next in
    filled_fails c.args.store.now c.args.kernel.now.walk c.args.fed c.loop-u.now u c.args.inner.now c.loop-u.inner c.feed.new.self c.args.work.now c.loop-u.work c.feed.new.work inv.spent inv.shape k.walk inv.walk after
    _ c.from_residual.result c.from_residual.ensures.1 c.feed.new.self (λ was h. (c.feed.ensures.spent was h).0)

pub fill-returns-in_err-inner_taken-clause-spent : goal.fill-returns-in_err-inner_taken-clause-spent
fill-returns-in_err-inner_taken-clause-spent g t c =
    let inv = c.loop-u.invariant in
    let k = c.loop-u.kernel in
    let u = c.in-Some.u in
    let next : k.next ≡ Some u = subst (λ (o : Option Ms). Rattle.std.specs.Prelude.IfSome o (λ v. k.next ≡ Some v)) c.in-Some.is c.wanted.ensures.next in
    let after : IsNextAfter k.walk (last_of c.loop-u.now) (Some u) = subst (λ (o : Option Ms). IsNextAfter k.walk (last_of c.loop-u.now) o) next inv.next in
    filled_fails c.args.store.now c.args.kernel.now.walk c.args.fed c.loop-u.now u c.args.inner.now c.loop-u.inner c.feed.new.self c.args.work.now c.loop-u.work c.feed.new.work inv.spent inv.shape k.walk inv.walk after
    _ c.from_residual-in_err-inner_taken.result c.from_residual-in_err-inner_taken.ensures.1 c.feed.new.self (λ was h. (c.feed.ensures.spent was h).0)

pub fill-returns-clause-spent : goal.fill-returns-clause-spent
fill-returns-clause-spent g t c =
    filled_end c.args.store.now c.args.kernel.now.walk c.args.fed c.loop-u.now c.args.inner.now c.loop-u.inner c.args.work.now c.loop-u.work c.loop-u.invariant.spent

pub ready-returns-in-Some-clause-spent : goal.ready-returns-in-Some-clause-spent
ready-returns-in-Some-clause-spent g t c = once_stays c.args.store.now c.args.first c.args.fed c.in-Some.field-0 c.args.child.now c.args.work.now c.in-Some.is

pub ready-returns-in_ok-feed-in-None-clause-spent : goal.ready-returns-in_ok-feed-in-None-clause-spent
ready-returns-in_ok-feed-in-None-clause-spent g t c =
    once_feeds c.args.store.now c.args.first c.args.fed c.child_named.result c.args.child.now c.feed.new.self c.args.work.now c.feed.new.work c.in-None.is c.in_ok-feed-in-None.ensures.spent

-- ---- what was counted

pub Node::feed-returns-in-Instants-clause-counted : goal.Node::feed-returns-in-Instants-clause-counted
Node::feed-returns-in-Instants-clause-counted g t c =
    let w = c.args.work.now.fetched in
    counted_as c.args.store.now c.args.fed c.or_memory.result c.args.self.now _ w w 0 c.in-Instants.is refl

pub Node::feed-returns-in-Select-clause-counted : goal.Node::feed-returns-in-Select-clause-counted
Node::feed-returns-in-Select-clause-counted g t c =
    let S = c.args.store.now in let fed = c.args.fed in let at = c.args.at.now in let w = c.args.work.now.fetched in let x = c.feed-in-Select.new.work.fetched in
    let k = c.in-Select.kernel in let e = c.feed-in-Select.ensures in let new = c.feed-in-Select.new.self in
    let K = c.args.patterns.now in let P = (g.O.Outside.places c.args.outside.now) in let own = as_tree S K _ P fed at c.args.self.now _ c.in-Select.is c.requires in
    let goes = own.goes_on.can (completed own.goes_on.taken) (completed_are own.goes_on.all own.goes_on.known own.goes_on.taken K _ P own.goes_on.out) in
    ran c.feed-in-Select.result c.or_memory-in-Select.result c.or_memory-in-Select.ensures e.counted
    (λ h. counted_self S fed c.args.self.now _ x w (leaf_picked S new.series new.moment (fed_on fed at)) c.in-Select.is
    (select_counts S k.series new.series k.moment new.moment fed at k.reached x w goes.reached goes.edge e.series e.moment h))

pub Node::feed-returns-in_ok-feed-in-Series-clause-counted : goal.Node::feed-returns-in_ok-feed-in-Series-clause-counted
Node::feed-returns-in_ok-feed-in-Series-clause-counted g t c =
    let S = c.args.store.now in let fed = c.args.fed in let at = c.args.at.now in let to = fed_on fed at in
    let w = c.args.work.now.fetched in let x = c.feed-in-Series.new.work.fetched in let y = c.series_fed.new.work.fetched in
    let k = c.in-Series.kernel in let e = c.series_fed.ensures in let new = c.series_fed.new.kernel in let scalar = c.in-Series.scalar.value in
    let K = c.args.patterns.now in let P = (g.O.Outside.places c.args.outside.now) in let own = as_tree S K _ P fed at c.args.self.now _ c.in-Series.is c.requires in
    let goes = own.goes_on.can (completed own.goes_on.taken) (completed_are own.goes_on.all own.goes_on.known own.goes_on.taken K _ P own.goes_on.out) in
    let from_leaf : ℕ = reads_of (reached_of k.range.0 k.moment fed) S k.series in
    let to_leaf : ℕ = reads_of (reached_of new.range.0 new.moment to) S new.series in
    let first = part_counts S fed c.deref_mut.result.now scalar x w (fetched_by S to c.feed-in-Series.new.self) c.deref_mut.ensures.value c.in_ok-feed-in-Series.ensures.counted in
    on_ok c.series_fed.result e.counted
    (λ h. counted_self S fed c.args.self.now _ y w (fetched_by S to c.feed-in-Series.new.self + to_leaf) c.in-Series.is
    (two_counts w x y (fetched_by S fed scalar) from_leaf (fetched_by S to c.feed-in-Series.new.self) to_leaf first
    (series_counts k.range.0 new.range.0 S k.series new.series k.moment new.moment fed at k.reached y x goes.0.reached (ap (λ (r : Ms). r.0) e.range) e.series e.moment h)))

pub Node::feed-returns-in_ok-feed-in-Unary-clause-counted : goal.Node::feed-returns-in_ok-feed-in-Unary-clause-counted
Node::feed-returns-in_ok-feed-in-Unary-clause-counted g t c =
    let S = c.args.store.now in let fed = c.args.fed in let to = fed_on fed c.args.at.now in
    let w = c.args.work.now.fetched in let x = c.feed-in-Unary.new.work.fetched in let n = fetched_by S to c.feed-in-Unary.new.self in
    counted_as S fed c.unary_fed.result c.args.self.now _ x w n c.in-Unary.is
    (part_counts S fed c.deref_mut-in-Unary.result.now c.in-Unary.rows.value x w n c.deref_mut-in-Unary.ensures.value c.in_ok-feed-in-Unary.ensures.counted)

pub Node::feed-returns-in_ok-feed-in-Binary-2-clause-counted : goal.Node::feed-returns-in_ok-feed-in-Binary-2-clause-counted
Node::feed-returns-in_ok-feed-in-Binary-2-clause-counted g t c =
    let S = c.args.store.now in let fed = c.args.fed in let to = fed_on fed c.args.at.now in
    let rows = c.in-Binary.rows.value in let beside = c.in-Binary.beside.value in
    let w = c.args.work.now.fetched in let x = c.feed-in-Binary.new.work.fetched in let y = c.feed-in-Binary-2.new.work.fetched in
    let m = fetched_by S to c.feed-in-Binary.new.self in let n = fetched_by S to c.feed-in-Binary-2.new.self in
    counted_as S fed c.binary_fed.result c.args.self.now _ y w (m + n) c.in-Binary.is
    (two_counts w x y (fetched_by S fed rows) (fetched_by S fed beside) m n (part_counts S fed c.deref_mut-in-Binary.result.now rows x w m c.deref_mut-in-Binary.ensures.value c.in_ok-feed-in-Binary.ensures.counted)
    (part_counts S fed c.deref_mut-in-Binary-2.result.now beside y x n c.deref_mut-in-Binary-2.ensures.value c.in_ok-feed-in-Binary-2.ensures.counted))

pub Node::feed-returns-in_ok-feed-in-Clamp-3-clause-counted : goal.Node::feed-returns-in_ok-feed-in-Clamp-3-clause-counted
Node::feed-returns-in_ok-feed-in-Clamp-3-clause-counted g t c =
    let S = c.args.store.now in let fed = c.args.fed in let to = fed_on fed c.args.at.now in
    let rows = c.in-Clamp.rows.value in let low = c.in-Clamp.low.value in let high = c.in-Clamp.high.value in
    let w = c.args.work.now.fetched in let x = c.feed-in-Clamp.new.work.fetched in let y = c.feed-in-Clamp-2.new.work.fetched in let z = c.feed-in-Clamp-3.new.work.fetched in
    let l = fetched_by S to c.feed-in-Clamp.new.self in let m = fetched_by S to c.feed-in-Clamp-2.new.self in let n = fetched_by S to c.feed-in-Clamp-3.new.self in
    counted_as S fed c.clamp_fed.result c.args.self.now _ z w (l + (m + n)) c.in-Clamp.is
    (two_counts w x z (fetched_by S fed rows) (fetched_by S fed low + fetched_by S fed high) l (m + n) (part_counts S fed c.deref_mut-in-Clamp.result.now rows x w l c.deref_mut-in-Clamp.ensures.value c.in_ok-feed-in-Clamp.ensures.counted)
    (two_counts x y z (fetched_by S fed low) (fetched_by S fed high) m n (part_counts S fed c.deref_mut-in-Clamp-2.result.now low y x m c.deref_mut-in-Clamp-2.ensures.value c.in_ok-feed-in-Clamp-2.ensures.counted)
    (part_counts S fed c.deref_mut-in-Clamp-3.result.now high z y n c.deref_mut-in-Clamp-3.ensures.value c.in_ok-feed-in-Clamp-3.ensures.counted)))

pub Node::feed-returns-in_ok-inner_fed-in-Points-clause-counted : goal.Node::feed-returns-in_ok-inner_fed-in-Points-clause-counted
Node::feed-returns-in_ok-inner_fed-in-Points-clause-counted g t c =
    let S = c.args.store.now in let fed = c.args.fed in let to = fed_on fed c.args.at.now in
    let inner_fed = c.in-Points.inner_fed in let inner = c.in-Points.inner.value in let scalar = c.in-Points.scalar.value in let end = c.in_ok-inner_fed-in-Points.field-0 in
    let w = c.args.work.now.fetched in let x = c.feed-in-Points.new.work.fetched in let y = c.fill.new.work.fetched in
    let m = fetched_by S to c.feed-in-Points.new.self in let n = fetched_by S end c.fill.new.inner in
    counted_as S fed c.points_fed.result c.args.self.now _ y w (m + n) c.in-Points.is
    (two_counts w x y (fetched_by S fed scalar) (fetched_by S inner_fed inner) m n (part_counts S fed c.deref_mut-in-Points.result.now scalar x w m c.deref_mut-in-Points.ensures.value c.in_ok-feed-in-Points.ensures.counted)
    (part_counts S inner_fed c.deref_mut-in-Points-2.result.now inner y x n c.deref_mut-in-Points-2.ensures.value c.in_ok-inner_fed-in-Points.ensures.counted))

pub Node::feed-returns-in_ok-ready-in-Once-clause-counted : goal.Node::feed-returns-in_ok-ready-in-Once-clause-counted
Node::feed-returns-in_ok-ready-in-Once-clause-counted g t c =
    let S = c.args.store.now in let fed = c.args.fed in let at = c.args.at.now in let first = c.in-Once.first in let child = c.in-Once.child.value in
    let w = c.args.work.now.fetched in let x = c.ready.new.work.fetched in
    counted_as S fed c.once_fed.result c.args.self.now _ x w (fetched_by S (once first (fed_on fed at)) c.ready.new.child) c.in-Once.is
    (once_counts S first fed at child c.ready.new.child x w c.requires.some
    (part_counts S (once first fed) c.deref_mut-in-Once.result.now child x w (fetched_by S (fed_once first) c.ready.new.child) c.deref_mut-in-Once.ensures.value c.in_ok-ready-in-Once.ensures.counted))

pub Node::feed-returns-in-Gather-clause-counted : goal.Node::feed-returns-in-Gather-clause-counted
Node::feed-returns-in-Gather-clause-counted g t c =
    let w = c.args.work.now.fetched in
    counted_as c.args.store.now c.args.fed c.feed_gather.result c.args.self.now _ w w 0 c.in-Gather.is refl

pub Node::feed-returns-in_ok-feed_gather-in-Windows-clause-counted : goal.Node::feed-returns-in_ok-feed_gather-in-Windows-clause-counted
Node::feed-returns-in_ok-feed_gather-in-Windows-clause-counted g t c =
    let S = c.args.store.now in let fed = c.args.fed in let to = fed_on fed c.args.at.now in
    let w = c.args.work.now.fetched in let x = c.feed-in-Windows.new.work.fetched in let n = fetched_by S to c.feed-in-Windows.new.self in
    counted_as S fed c.windows_fed.result c.args.self.now _ x w n c.in-Windows.is
    (part_counts S fed c.deref_mut-in-Windows.result.now c.in-Windows.scalar.value x w n c.deref_mut-in-Windows.ensures.value c.in_ok-feed-in-Windows.ensures.counted)

pub fill-returns-clause-counted : goal.fill-returns-clause-counted
fill-returns-clause-counted g t c = c.loop-u.invariant.counted

pub ready-returns-in-Some-clause-counted : goal.ready-returns-in-Some-clause-counted
ready-returns-in-Some-clause-counted g t c = once_same c.args.store.now c.args.first c.args.fed c.in-Some.field-0 c.args.child.now c.args.work.now.fetched c.in-Some.is

pub ready-returns-in_ok-feed-in-None-clause-counted : goal.ready-returns-in_ok-feed-in-None-clause-counted
ready-returns-in_ok-feed-in-None-clause-counted g t c =
    once_begun c.args.store.now c.args.first c.args.fed c.child_named.result c.args.child.now c.feed.new.self c.feed.new.work.fetched c.args.work.now.fetched c.in-None.is c.in_ok-feed-in-None.ensures.counted
