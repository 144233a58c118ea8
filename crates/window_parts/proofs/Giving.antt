-- What functions of windows give, of what their scalars and the inner expressions of subqueries give.
use Rattle.std.proofs.Common.{◌≡◌, ◌∙◌, ℕ, Bool, true, false, List, [], ◌∷◌, ◌++◌, map, get_or, refl, sym, ap, ap₂}
use Rattle.std.specs.Prelude.{ℤ, pos, ◌<ℤ◌}
use Rattle.std.specs.List.{AllByRecursion}
use Rattle.std.proofs.lemmas.List.Elements.{All-contains_itself, recursion_from_All}
use Rattle.func_table.specs.declared.table.Window.{Window as WindowFunction}
use Rattle.func_table.specs.declared.table.Window.TheVariants.{PredictLinear, QuantileOver}
use Rattle.label_set.specs.declared.rules.Rule.{Rule}
use Rattle.logical_plan.specs.Lowering.{planned}
use Rattle.logical_plan.specs.PlanFolds.{of-Filter, of-Range, of-Subquery, of-Window}
use Rattle.logical_plan.specs.PlanMeaning.{Meant, givens_at, node_meant, plain, plan_meaning, plan_meant, plan_step, window_given}
use Rattle.logical_plan.specs.PlanRules.{filtered, selector_of}
use Rattle.logical_plan.specs.declared.nodes.Plan.{Plan}
use Rattle.logical_plan.specs.declared.nodes.PlanNode.{PlanNode}
use Rattle.logical_plan.specs.declared.nodes.PlanNode.TheVariants as node
use Rattle.op_window.specs.Rules.{takes_scalar, windows_of_lent, windows_of_series}
use Rattle.promql_ast.specs.declared.tree.Moment.{Moment}
use Rattle.promql_meaning.specs.Filters.{MoreRulesFilterWindows}
use Rattle.promql_meaning.specs.Givens.{no_marks, step_of}
use Rattle.promql_meaning.specs.Laws.{MultiplesAreAll}
use Rattle.promql_meaning.specs.Meaning.{step_at, windowed_by}
use Rattle.promql_meaning.specs.Selecting.{Asked, moment_of, selected_windows, window_rows}
use Rattle.promql_meaning.specs.Subqueries.{as_times, multiples, points_of, points_of_steps}
use Rattle.promql_meaning.specs.WalkMoments.{IsMomentOf, WalkMomentIsMoment}
use Rattle.promql_meaning.specs.declared.given.Given.TheVariants as given
use Rattle.promql_meaning.specs.declared.given.Windows.{Windows}
use Rattle.sample_store.specs.Samples.{chosen}
use Rattle.series_marks.specs.Reaches.{numbered}
use Rattle.step_batch.specs.LentWindows.{WindowsAt}
use Rattle.step_table.specs.Timed.{StepAt, steps_over}
use Rattle.step_table.specs.declared.step.Step.{Step}
use Rattle.ticks.specs.Walks.{IsInWindow, moment_at}
use Rattle.ticks.specs.declared.moment.Ms.{Ms}
use Rattle.ticks.specs.declared.walk.WalkMoment.{WalkMoment}
use Rattle.plan_parts.specs.Gives.{Gives, given_as}
use Rattle.window_parts.proofs.Beneath.{lent_as}

-- ---- scalars

-- a function that takes no scalar gives the same with any
pub without_scalar : (f : WindowFunction) (t : ℤ) (a b : Step) (windows : Windows) → takes_scalar f ≡ false → windowed_by f t a windows ≡ windowed_by f t b windows
without_scalar PredictLinear t a b windows e = absurd (cc)
without_scalar QuantileOver t a b windows e = absurd (cc)
without_scalar f t a b windows e = refl

-- what a child gives, as a step
pub given_step : (scalar : Bool) (step : Step) → step_of (given_as scalar step) ≡ step
given_step true step = refl
given_step false step = refl

-- ---- windows

-- the windows of a subquery are one where its inner expressions give one step at each of its instants
module _ (law : MultiplesAreAll) (closed : Bool) (f g : ℤ → Step) (range step : Ms) (m : ℤ) (forward : pos 0 <ℤ step.0) where
  steps_same : (us : List ℤ) → AllByRecursion (λ (u : ℤ). f u ≡ g u) us → steps_over f (as_times us) ≡ steps_over g (as_times us)
  steps_same [] a = refl
  steps_same (u ∷ us) a = ap₂ (λ (s : Step) (steps : List StepAt). record { at = record { 0 = u }; step = s } ∷ steps) a.0 (steps_same us a.1)

  pub points_same : ((u : ℤ) → IsInWindow closed m range.0 step.0 u → f u ≡ g u) → points_of closed f range step m ≡ points_of closed g range step m
  points_same same =
      let us : List ℤ = multiples closed m range.0 step.0 in
      let all : AllByRecursion (λ (u : ℤ). f u ≡ g u) us = recursion_from_All (λ (u : ℤ). f u ≡ g u) us (λ k d w.
      let is = (law closed m range.0 step.0 (get_or us k d) forward).0 (All-contains_itself us k d w) in
      same (get_or us k d) (record { from_edge = is.from_edge; to_moment = is.up_to; on_step = is.multiple })) in
      ap (points_of_steps range m) (steps_same us all)

-- ---- plans

module _ (asked : Asked) where
  abbrev M : Plan → Meant
  M = plan_meant asked

  abbrev scalar_at : List Plan → ℤ → Step
  scalar_at arguments t = step_at (givens_at (map M arguments) t) 0

  abbrev there : (p : Plan) (n : PlanNode) → p.node ≡ n → M p ≡ M (planned p.at n)
  there p n e = ap (λ (m : PlanNode). M (planned p.at m)) e

  abbrev gives_at : {x y : Meant} → x ≡ y → (t : ℤ) → x.gives t ≡ y.gives t
  gives_at e t = ap (λ (m : Meant). m.gives t) e

  -- ---- range selectors

  -- the windows of a range
  abbrev ranged : List Rule → Moment → Ms → ℤ → Windows
  ranged rules moment range t = record {
    moment = record { 0 = moment_of asked moment t };
    range = range;
    rules = [];
    rows = selected_windows asked (selector_of rules moment) range.0 t;
    marks = no_marks;
  }

  abbrev range_at : ℕ → List Rule → Moment → Ms → Plan
  range_at at rules moment range = planned at (node.Range rules moment range)

  ranged_is : (at : ℕ) (rules : List Rule) (moment : Moment) (range : Ms) (t : ℤ) → plan_meaning asked (range_at at rules moment range) t ≡ given.Windows (ranged rules moment range t)
  ranged_is at rules moment range = gives_at (of-Range (node_meant asked) (λ q. q.node) at rules moment range)

  pub range_gives : (p : Plan) (rules : List Rule) (moment : Moment) (range : Ms) → p.node ≡ node.Range rules moment range
      → (t : ℤ) → plan_meaning asked p t ≡ plan_meaning asked (range_at p.at rules moment range) t
  range_gives p rules moment range e = gives_at (there p (node.Range rules moment range) e)

  -- a filter over what gives a range gives that of the joined rules
  pub filter_gives : MoreRulesFilterWindows → (p base : Plan) (rules more : List Rule) (moment : Moment) (range : Ms) → p.node ≡ node.Filter base more
      → ((t : ℤ) → plan_meaning asked base t ≡ plan_meaning asked (range_at base.at rules moment range) t)
      → (t : ℤ) → plan_meaning asked p t ≡ plan_meaning asked (range_at p.at (rules ++ more) moment range) t
  filter_gives law p base rules more moment range e i t =
      gives_at (there p (node.Filter base more) e ∙ of-Filter (node_meant asked) (λ q. q.node) p.at base more) t
      ∙ ap (filtered asked.kept more) (i t ∙ ranged_is base.at rules moment range t)
      ∙ (λ j. given.Windows (record (ranged rules moment range t) { rows = sym (law asked.samples asked.kept rules more moment.closed (moment_of asked moment t) range.0) j }))
      ∙ sym (ranged_is p.at (rules ++ more) moment range t)

  -- ---- functions of windows

  module _ (On : ℤ → Type 0) where
    -- a function of windows, from what its windows are
    over_windows : (p inner : Plan) (f : WindowFunction) (arguments : List Plan) (x : ℤ → Step) (windows meant : ℤ → Windows)
        → p.node ≡ node.Window f inner arguments → ((t : ℤ) → plan_meaning asked inner t ≡ given.Windows (meant t)) → ((t : ℤ) → On t → meant t ≡ windows t)
        → ((t : ℤ) → On t → (w : Windows) → windowed_by f t (x t) w ≡ windowed_by f t (scalar_at arguments t) w)
        → Gives asked On p false false (λ t. windowed_by f t (x t) (windows t))
    over_windows p inner f arguments x windows meant e i same scalar =
        let is : M p ≡ plain (λ t. given.Vector (window_given f t (givens_at (map M arguments) t) ((M inner).gives t))) = there p (node.Window f inner arguments) e ∙ of-Window (node_meant asked) (λ q. q.node) p.at f inner arguments in
        record {
          stamped = ap (λ (m : Meant). m.own) is;
          gives = λ t w. gives_at is t
              ∙ ap given.Vector (ap (window_given f t (givens_at (map M arguments) t)) (i t)
              ∙ (ap (windowed_by f t (scalar_at arguments t)) (same t w) ∙ sym (scalar t w (windows t))));
        }

    -- over the series that rules choose, whose windows end at moments that are the range's own
    pub series_gives : WalkMomentIsMoment → (p inner : Plan) (f : WindowFunction) (arguments : List Plan) (rules : List Rule) (moment : Moment) (range : Ms) (series : List ℕ) (walk : WalkMoment) (x : ℤ → Step)
        → numbered asked.samples series ≡ chosen asked.kept rules asked.samples → IsMomentOf asked moment walk → walk.closed ≡ moment.closed
        → p.node ≡ node.Window f inner arguments → ((t : ℤ) → plan_meaning asked inner t ≡ plan_meaning asked (range_at inner.at rules moment range) t)
        → ((t : ℤ) → On t → (w : Windows) → windowed_by f t (x t) w ≡ windowed_by f t (scalar_at arguments t) w)
        → Gives asked On p false false (λ t. windowed_by f t (x t) (windows_of_series asked.samples series walk range (record { 0 = t })))
    series_gives moments p inner f arguments rules moment range series walk x these timed closed e i scalar =
        over_windows p inner f arguments x (λ t. windows_of_series asked.samples series walk range (record { 0 = t })) (ranged rules moment range) e
        (λ t. i t ∙ ranged_is inner.at rules moment range t)
        (λ t w j. record {
          moment = record { 0 = sym (moments asked moment walk t timed) j };
          range = range;
          rules = [];
          rows = window_rows (sym closed j) (sym (moments asked moment walk t timed) j) range.0 (sym these j);
          marks = no_marks;
        })
        scalar

    -- over windows that are lent, at moments and of a range that are the plan's
    pub lent_gives : (p inner : Plan) (f : WindowFunction) (arguments : List Plan) (moment : WalkMoment) (range : Ms) (x : ℤ → Step) (none : ℤ → Windows) (ws : ℤ → WindowsAt)
        → p.node ≡ node.Window f inner arguments → ((t : ℤ) → plan_meaning asked inner t ≡ given.Windows (lent_as (none t) (ws t)))
        → ((t : ℤ) → (none t).moment ≡ record { 0 = moment_at moment t }) → ((t : ℤ) → (none t).range ≡ range)
        → ((t : ℤ) → On t → (w : Windows) → windowed_by f t (x t) w ≡ windowed_by f t (scalar_at arguments t) w)
        → Gives asked On p false false (λ t. windowed_by f t (x t) (windows_of_lent (ws t) moment range (record { 0 = t })))
    lent_gives p inner f arguments moment range x none ws e i timed reaches scalar =
        over_windows p inner f arguments x (λ t. windows_of_lent (ws t) moment range (record { 0 = t })) (λ t. lent_as (none t) (ws t)) e i
        (λ t w j. record { moment = timed t j; range = reaches t j; rules = []; rows = (ws t).rows; marks = (ws t).marks })
        scalar

    -- over a subquery, whose inner expression gives these steps at its inner instants
    pub points_give : WalkMomentIsMoment → MultiplesAreAll → (p inner q : Plan) (f : WindowFunction) (arguments : List Plan) (moment : Moment) (range step : Ms) (walk : WalkMoment) (x y : ℤ → Step)
        → IsMomentOf asked moment walk → walk.closed ≡ moment.closed → pos 0 <ℤ step.0
        → p.node ≡ node.Window f inner arguments → inner.node ≡ node.Subquery q range step moment
        → ((t u : ℤ) → On t → IsInWindow walk.closed (moment_at walk t) range.0 step.0 u → plan_step asked q u ≡ y u)
        → ((t : ℤ) → On t → (w : Windows) → windowed_by f t (x t) w ≡ windowed_by f t (scalar_at arguments t) w)
        → Gives asked On p false false (λ t. windowed_by f t (x t) (points_of walk.closed y range step (moment_at walk t)))
    points_give moments law p inner q f arguments moment range step walk x y timed closed forward e i same scalar =
        over_windows p inner f arguments x (λ t. points_of walk.closed y range step (moment_at walk t)) (λ t. points_of moment.closed (plan_step asked q) range step (moment_of asked moment t)) e
        (gives_at (there inner (node.Subquery q range step moment) i ∙ of-Subquery (node_meant asked) (λ r. r.node) inner.at q range step moment))
        (λ t w. (λ j. points_of (sym closed j) (plan_step asked q) range step (sym (moments asked moment walk t timed) j))
        ∙ points_same law walk.closed (plan_step asked q) y range step (moment_at walk t) forward (λ u v. same t u w v))
        scalar
