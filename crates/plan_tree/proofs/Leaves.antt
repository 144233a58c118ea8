-- What the kernels at the leaves of a tree need and give.
use Rattle.std.proofs.Common.{◌≡◌, ◌∙◌, List, [], ◌∷◌, map, Option, refl, sym, ap, subst}
use Rattle.std.specs.Prelude.{ℤ, ◌<ℤ◌, pos, ℕ, Result, Ok, Err, OnOk, IsTrue, not}
use Rattle.std.specs.List.{AllByRecursion}
use Rattle.op_select.specs.Newest.{AreNamed, marks_of, names_of}
use Rattle.op_select.specs.declared.select.Select.{Select}
use Rattle.op_small.specs.Rules.{bare, small, small_at, smalls}
use Rattle.op_small.specs.declared.rule.SmallRule.{SmallRule}
use Rattle.op_small.specs.declared.rule.SmallRule.TheVariants.{Number, Time, Stamp, Scalar, Vector, Absent}
use Rattle.op_window.specs.Feeds.{CanFeedStore, HasReached}
use Rattle.op_window.specs.Kernels.{Kernel}
use Rattle.op_window.specs.Rules.{AreTimes, HasScalars}
use Rattle.op_window.specs.Sliding.{walked_of}
use Rattle.promql_meaning.specs.Givens.{barren, no_marks}
use Rattle.promql_meaning.specs.Selecting.{lookback}
use Rattle.sample_store.specs.Samples.{AllSeries}
use Rattle.series_marks.specs.Reaches.{AreThere, Follow, IsReached, reach_all}
use Rattle.series_marks.specs.Reads.{Reached}
use Rattle.step_batch.specs.Lent.{Lent}
use Rattle.step_table.specs.Groups.{Names}
use Rattle.step_table.specs.Timed.{StepAt, steps_over}
use Rattle.ticks.specs.Walks.{HasTimes, moment_at}
use Rattle.ticks.specs.declared.moment.Ms.{Ms}
use Rattle.ticks.specs.declared.walk.WalkMoment.{WalkMoment}
use Rattle.plan_tree.specs.declared.turns.Fed.{Fed}
use Rattle.plan_tree.specs.Feeds.{Goes, fed_on, reached_of}
use Rattle.plan_tree.specs.Nodes.{SelectGoes, SeriesGoes}
use Rattle.step_kernels.specs.Unaries.{reads_rows}
use Rattle.plan_tree.proofs.Going.{goes_follow, goes_rise, reach_end}

-- ---- answers that are told of Ok

pub on_ok : {A E P Q : Type 0} (r : Result A E) → OnOk r P → (P → Q) → OnOk r Q
on_ok (Ok a) p f = f p
on_ok (Err e) p f = tt

pub on_ok_all : {A E P Q R S T : Type 0} (r : Result A E) → OnOk r P → OnOk r Q → OnOk r R → OnOk r S → (P → Q → R → S → T) → OnOk r T
on_ok_all (Ok a) p q r s f = f p q r s
on_ok_all (Err e) p q r s f = tt

-- ---- numbers and the time

small_over : (one : SmallRule) (at : List Ms) → map (small_at one) (bare at) ≡ steps_over (λ t. small one t (barren no_marks)) at
small_over one [] = refl
small_over one (t ∷ at) = ap (λ (rest : List StepAt). record { at = t; step = small one t.0 (barren no_marks) } ∷ rest) (small_over one at)

pub instants_are : (one : SmallRule) (at : List Ms) (rows : List StepAt) → IsTrue (not (reads_rows one)) → smalls one at rows ≡ steps_over (λ t. small one t (barren no_marks)) at
instants_are (Number value) at rows h = small_over (Number value) at
instants_are Time at rows h = small_over Time at
instants_are (Stamp own) at rows h = absurd (cc)
instants_are Scalar at rows h = absurd (cc)
instants_are Vector at rows h = absurd (cc)
instants_are (Absent labels) at rows h = absurd (cc)

-- ---- selectors

pub select_follows : (store : AllSeries) (fed : Option Fed) (k : Select) (at : List Ms) → SelectGoes store fed k → Goes fed at → AllByRecursion (λ (t : Ms). HasTimes (moment_at k.moment t.0) lookback) at → Follow lookback k.reached k.moment at
select_follows store fed k at s g a = subst (λ (r : Reached). Follow lookback r k.moment at) (sym s.reached) (goes_follow lookback k.moment fed at g a)

named : (reached : Reached) (labels : List Names) (store : AllSeries) (series : List ℕ) → labels ≡ names_of store series → AreNamed reached labels store series
named Rattle.std.specs.Prelude.None labels store series e = tt
named (Rattle.std.specs.Prelude.Some r) labels store series e = e

pub select_on : (store : AllSeries) (fed : Option Fed) (k new : Select) (at : List Ms) → SelectGoes store fed k → new.series ≡ k.series → new.moment ≡ k.moment
    → new.reached ≡ reach_all lookback k.reached k.moment at → new.marks ≡ marks_of new.reached store k.series → new.buffer.labels ≡ names_of store k.series → IsReached k.moment.closed lookback new.reached
    → SelectGoes store (fed_on fed at) new
select_on store fed k new at s series moment reached marks labels edge = record {
  marks = marks ∙ ap (λ (ns : List ℕ). marks_of new.reached store ns) (sym series);
  labels = named new.reached new.buffer.labels store new.series (labels ∙ ap (λ (ns : List ℕ). names_of store ns) (sym series));
  reached = reached ∙ ap (λ (r : Reached). reach_all lookback r k.moment at) s.reached ∙ reach_end lookback k.moment fed at ∙ ap (λ (m : WalkMoment). reached_of lookback m (fed_on fed at)) (sym moment);
  edge = subst (λ (m : WalkMoment). IsReached m.closed lookback new.reached) (sym moment) edge;
}

-- ---- functions of the windows of series

pub series_fed : (store : AllSeries) (fed : Option Fed) (k : Kernel) (at : List Ms) (arg : Lent) → SeriesGoes store fed k → AreThere store k.series → pos 0 <ℤ k.range.0 → Goes fed at
    → AllByRecursion (λ (t : Ms). HasTimes (moment_at k.moment t.0) k.range.0) at → AreTimes at → HasScalars k.f at arg → CanFeedStore k store at arg
series_fed store fed k at arg s there range g a times scalars = record {
  there = there;
  walked = s.walked;
  range = range;
  reached = s.edge;
  follow = subst (λ (r : Reached). Follow k.range.0 r k.moment at) (sym s.reached) (goes_follow k.range.0 k.moment fed at g a);
  instants = goes_rise fed at g;
  times = times;
  scalars = scalars;
}

pub series_on : (store : AllSeries) (fed : Option Fed) (k new : Kernel) (at : List Ms) → SeriesGoes store fed k → new.series ≡ k.series → new.moment ≡ k.moment → new.range ≡ k.range → HasReached k new store at
    → SeriesGoes store (fed_on fed at) new
series_on store fed k new at s series moment range h = record {
  walked = h.walked ∙ (λ j. walked_of (sym moment j).closed (sym range j).0 new.reached store (sym series j));
  reached = h.reached ∙ ap (λ (r : Reached). reach_all k.range.0 r k.moment at) s.reached ∙ reach_end k.range.0 k.moment fed at ∙ (λ j. reached_of (sym range j).0 (sym moment j) (fed_on fed at));
  edge = subst (λ (m : WalkMoment). IsReached m.closed new.range.0 new.reached) (sym moment) (subst (λ (r : Ms). IsReached k.moment.closed r.0 new.reached) (sym range) h.edge);
}
