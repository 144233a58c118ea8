-- Parts for functions of windows: what may be fed, and what is given.
use Rattle.std.proofs.Common.{◌≡◌, ◌∙◌, ℕ, ◌<◌, length, get_or, Bool, false, List, [], ◌∷◌, ◌++◌, map, Option, Some, None, refl, sym, ap, subst, arith}
use Rattle.std.specs.Prelude.{ℤ, pos, ◌<ℤ◌, IfOk, IfSome, IsTrue, Result, Ok, Err}
use Rattle.std.proofs.lemmas.List.Elements.{All-contains_itself, recursion_from_All}
use Rattle.exchange.specs.Asked.{MayRequest}
use Rattle.exchange.specs.declared.request.Request.{Request}
use Rattle.func_table.specs.declared.table.Window.{Window as WindowFunction}
use Rattle.label_set.specs.declared.rules.Rule.{Rule}
use Rattle.logical_plan.specs.Gathers.{given_over, windows_of}
use Rattle.logical_plan.specs.Lowering.{planned}
use Rattle.logical_plan.specs.PlanMeaning.{givens_at, plan_meant}
use Rattle.logical_plan.specs.declared.nodes.Plan.{Plan}
use Rattle.logical_plan.specs.declared.nodes.PlanNode.TheVariants as node
use Rattle.op_window.specs.Rules.{takes_scalar}
use Rattle.plan_tree.specs.Asking.{HaveRequests}
use Rattle.plan_tree.specs.Worlds.{Gathers, world}
use Rattle.plan_tree.specs.Nodes.{MayStart, shape_of}
use Rattle.plan_tree.specs.Shapes.{IsFit, PointsOf, SeriesOf, Shape, StaysInTimes, WindowsOf, passing, places_of, rule}
use Rattle.plan_tree.specs.Spending.{IsAtMost, IsFresh, nothing}
use Rattle.plan_work.specs.PlanBounds.{Bounding, arguments_bound, plan_bound}
use Rattle.plan_work.specs.PlanLaws.{IsBare, NoSelectorCostsNothing}
use Rattle.plan_work.specs.TreeBounds.{GivenWindowsStay, IsWithin, StaysWithin, SubqueriesStay, WindowsStay}
use Rattle.promql_ast.specs.declared.tree.Moment.{Moment}
use Rattle.promql_meaning.specs.Laws.{MultiplesAreAll}
use Rattle.promql_meaning.specs.Meaning.{step_at, windowed_by}
use Rattle.promql_meaning.specs.Selecting.{AllSeries, Asked}
use Rattle.promql_meaning.specs.Givens.{step_of}
use Rattle.promql_meaning.specs.WalkMoments.{IsMomentOf, WalkMomentIsMoment}
use Rattle.sample_store.specs.Samples.{IsSelected, chosen}
use Rattle.series_marks.specs.Reaches.{AreThere, numbered}
use Rattle.step_table.specs.declared.step.Step.{Step}
use Rattle.ticks.specs.Listed.{IsListed}
use Rattle.ticks.specs.Walks.{HasTimes, IsInstant, IsTime, moment_at, multiples-instants}
use Rattle.ticks.specs.declared.grid.Grid.{Grid}
use Rattle.ticks.specs.declared.moment.Ms.{Ms}
use Rattle.ticks.specs.declared.walk.Walk.{Walk}
use Rattle.ticks.specs.declared.walk.Walk.TheVariants.{Multiples}
use Rattle.ticks.specs.declared.walk.WalkMoment.{WalkMoment}
use Rattle.xfrac.specs.declared.value.XFrac.{XFrac}
use Rattle.plan_parts.specs.Adding.{added_then, each_as, each_both, each_none, each_one, get_last, meant_before, one_added, own_both, own_one, turned}
use Rattle.plan_parts.specs.Gathered.{IsQueryOver}
use Rattle.plan_parts.specs.Gives.{Gives}
use Rattle.plan_parts.specs.Parts.{IsAskedIn, IsChild, IsPart, OncesStay, below, of_subquery, of_window, of_window_argument, under}
use Rattle.plan_parts.specs.Requested.{AreAdded, AreMeant, EachAdded, HaveOwn, MayMake}
use Rattle.plan_parts.specs.declared.parts.Part.{Part}
use Rattle.plan_serving.specs.Asking.{RangeAsked, asked_range}
use Rattle.window_parts.specs.Engines.{IsGatherUnder}
use Rattle.window_parts.specs.Over.{IsArgument, IsOfArgument, IsRangeOf, IsScalarOf}
use Rattle.window_parts.specs.declared.selectors.RangeSelector.{RangeSelector}
use Rattle.window_parts.proofs.Askable.{given_windows, none_moment, none_range, range_served}
use Rattle.window_parts.proofs.Beneath.{asked_under, under_gives}
use Rattle.window_parts.proofs.Giving.{given_step, lent_gives, points_give, series_gives, without_scalar}

pub ok_at : {X E : Type 0} (P : X → Type 0) (r : Result X E) (x : X) → r ≡ Ok x → IfOk r P → P x
ok_at P r x e h = subst (λ z. IfOk z P) e h

pub some_at : {X : Type 0} (P : X → Type 0) (o : Option X) (x : X) → o ≡ Some x → IfSome o P → P x
some_at P o x e h = subst (λ z. IfSome z P) e h

pub ok_then : {X E : Type 0} {P Q : X → Type 0} (r : Result X E) → IfOk r P → ((x : X) → P x → Q x) → IfOk r Q
ok_then (Ok x) h f = f x h
ok_then (Err e) h f = h

-- ---- scalars

-- what costs nothing is within any bound
nothing_within : (asked : Asked) (at : List Ms) (p : Plan) (most : Bounding) (shape : Shape) → plan_bound asked p at ≡ nothing → IsWithin asked at (plan_bound asked p) shape → IsWithin asked at most shape
nothing_within asked at p most shape is w =
    let none : IsAtMost w.cost nothing = subst (IsAtMost w.cost) is w.within in
    record { cost = w.cost; of = w.of; within = record { fetched = (let f = none.fetched in omega arith); probed = (let q = none.probed in omega arith) } }

-- the only argument is all of them
only_within : (asked : Asked) (at : List Ms) (a : Plan) (shape : Shape) → IsWithin asked at (plan_bound asked a) shape → IsWithin asked at (arguments_bound asked (a ∷ [])) shape
only_within asked at a shape w =
    record { cost = w.cost; of = w.of; within = record { fetched = (let f = w.within.fetched in omega arith); probed = (let q = w.within.probed in omega arith) } }

-- where a function takes no scalar, a number stands for it
pub unread : NoSelectorCostsNothing → (asked : Asked) (walk : Walk) (before now : List Request) (f : WindowFunction) (arguments : List Plan) (part : Part) (value : XFrac) → takes_scalar f ≡ false
    → ((asked : Asked) (walk : Walk) (requests : List Request) (p : Plan) → p.node ≡ node.Number value → IsPart asked walk requests requests p part) → before ≡ now → IsScalarOf asked walk before now f arguments part
unread free asked walk before now f arguments part value e number same =
    let p : Plan = planned 0 (node.Number value) in
    let n = number asked walk before p refl in
    subst (λ (rs : List Request). IsScalarOf asked walk before rs f arguments part) same (record {
      sound = n.sound;
      added = n.added;
      owns = n.owns;
      asks = n.asks;
      named = each_none (IsOfArgument arguments) before;
      make = n.make;
      scalar = λ h. absurd (cc);
      gives = λ gathers meant stay t on w. without_scalar f t (rule (world asked.samples gathers) asked.kept (shape_of part.tree) t) (step_at (givens_at (map (plan_meant asked) arguments) t) 0) w e;
      within = λ at listed. nothing_within asked at p (arguments_bound asked arguments) (shape_of part.tree) (free asked p at (IsBare.of_number value refl)) (n.within at listed);
    })

-- where there is no argument no request is added
pub none_argued : (asked : Asked) (walk : Walk) (before now : List Request) (arguments : List Plan) → IsArgument asked walk before now arguments None → before ≡ now
none_argued asked walk before now [] i = i
none_argued asked walk before now (a ∷ []) i = absurd i
none_argued asked walk before now (a ∷ b ∷ arguments) i = absurd i

-- a part of the argument is a scalar for it
pub read : (asked : Asked) (walk : Walk) (before now : List Request) (f : WindowFunction) (arguments : List Plan) (part : Part) → IsTrue part.scalar → IsArgument asked walk before now arguments (Some part)
    → IsScalarOf asked walk before now f arguments part
read asked walk before now f [] part s i = absurd i
read asked walk before now f (a ∷ []) part s i = record {
  sound = i.sound;
  added = i.added;
  owns = i.owns;
  asks = i.asks;
  named = each_as (λ (r : Request). IsAskedIn r a) (IsOfArgument (a ∷ [])) before now (λ r asked_in. (a, refl, asked_in)) i.named;
  make = i.make;
  scalar = λ h. i.scalar s;
  gives = λ gathers meant stay t on w. ap (λ (x : Step). windowed_by f t x w)
      (sym (ap step_of ((i.gives gathers meant (stay a refl)).gives t on) ∙ given_step part.scalar (rule (world asked.samples gathers) asked.kept (shape_of part.tree) t)));
  within = λ at listed. only_within asked at a (shape_of part.tree) (i.within at listed);
}
read asked walk before now f (a ∷ b ∷ arguments) part s i = absurd i

-- ---- the series of a selector

pub selected_there : (kept : List (Bool × List ℕ)) (rules : List Rule) (store : AllSeries) (series : List ℕ) → IsSelected kept rules store series → AreThere store series
selected_there kept rules store series selected =
    recursion_from_All (λ (n : ℕ). n < length store) series (λ k d w. ((selected.exact (get_or series k d)).0 (All-contains_itself series k d w)).0)

-- ---- parts

onces_below : (asked : Asked) (c p : Plan) → IsChild c p → OncesStay asked p → OncesStay asked c
onces_below asked c p child stay = record { same = λ q once. stay.same q (below c p child once) }

-- what stands below the Once nodes of an argument stays where it does below those of the function
argument_stays : (asked : Asked) (p inner : Plan) (f : WindowFunction) (arguments : List Plan) → p.node ≡ node.Window f inner arguments → OncesStay asked p → (a : Plan) → arguments ≡ a ∷ [] → OncesStay asked a
argument_stays asked p inner f arguments e stay a is = onces_below asked a p (of_window_argument f inner [] [] (e ∙ ap (node.Window f inner) is)) stay

-- so are its requests some of the function
argument_named : (p inner : Plan) (f : WindowFunction) (arguments : List Plan) → p.node ≡ node.Window f inner arguments → (before now : List Request) → EachAdded (IsOfArgument arguments) before now → EachAdded (λ (r : Request). IsAskedIn r p) before now
argument_named p inner f arguments e before now = each_as (IsOfArgument arguments) (λ (r : Request). IsAskedIn r p) before now
    (λ r of. under of.0 p (of_window_argument f inner [] [] (e ∙ ap (node.Window f inner) of.1)) of.2)

module _ (asked : Asked) (walk : Walk) (before now : List Request) (p : Plan) (part : Part) where
  -- a part of this shape
  shaped : (shape : Shape) → shape_of part.tree ≡ shape → part.scalar ≡ false → part.own ≡ false → IsFit asked.samples shape → MayStart asked.samples asked.kept part.tree → AreAdded before now → HaveOwn before now (places_of shape)
      → ((times : List Ms) → IsListed walk times → HaveRequests now times part.tree) → EachAdded (λ (r : Request). IsAskedIn r p) before now → ((span : Grid) → IsQueryOver span asked.kept asked → MayMake span asked.kept before now) → ((t : ℤ) → IsInstant walk t → StaysInTimes shape t)
      → IsFresh part.tree → ((gathers : Gathers) → AreMeant asked now gathers → OncesStay asked p → Gives asked (IsInstant walk) p false false (rule (world asked.samples gathers) asked.kept shape)) → StaysWithin asked walk p shape → IsPart asked walk before now p part
  shaped shape is plain rows fit can added owns asks named make times fresh gives within = record {
    sound = record {
      fit = subst (IsFit asked.samples) (sym is) fit;
      can = can;
      times = λ t i. subst (λ (s : Shape). StaysInTimes s t) (sym is) (times t i);
      fresh = fresh;
    };
    added = added;
    owns = subst (λ (s : Shape). HaveOwn before now (places_of s)) (sym is) owns;
    asks = asks;
    named = named;
    make = make;
    scalar = λ h. absurd (cc);
    gives = λ gathers meant stay. subst (λ (b : Bool). Gives asked (IsInstant walk) p b part.own (rule (world asked.samples gathers) asked.kept (shape_of part.tree))) (sym plain)
        (subst (λ (o : Bool). Gives asked (IsInstant walk) p false o (rule (world asked.samples gathers) asked.kept (shape_of part.tree))) (sym rows)
        (subst (λ (s : Shape). Gives asked (IsInstant walk) p false false (rule (world asked.samples gathers) asked.kept s)) (sym is) (gives gathers meant stay)));
    within = subst (StaysWithin asked walk p) (sym is) within;
  }

module _ (asked : Asked) (walk : Walk) (before between now : List Request) (p inner : Plan) (f : WindowFunction) (arguments : List Plan) (e : p.node ≡ node.Window f inner arguments) (part scalar : Part)
    (one : IsScalarOf asked walk between now f arguments scalar) where
  abbrev S : AllSeries
  S = asked.samples

  abbrev K : List (Bool × List ℕ)
  K = asked.kept

  pub points_part : WalkMomentIsMoment → MultiplesAreAll → SubqueriesStay → (q : Plan) (moment : Moment) (range step : Ms) (at : WalkMoment) (child : Part) → shape_of part.tree ≡ PointsOf f (Multiples walk at range step) at range step (shape_of child.tree) (shape_of scalar.tree)
      → part.scalar ≡ false → part.own ≡ false → MayStart S K part.tree → ((times : List Ms) → IsListed walk times → HaveRequests now times part.tree) → IsFresh part.tree → IsPart asked (Multiples walk at range step) before between q child
      → IsMomentOf asked moment at → at.closed ≡ moment.closed → pos 0 <ℤ step.0
      → ((t : ℤ) → IsInstant walk t → IsTime t) → inner.node ≡ node.Subquery q range step moment → IsPart asked walk before now p part
  points_part moments law stays q moment range step at child is plain rows can asks fresh r timed closed forward on i =
      shaped asked walk before now p part (PointsOf f (Multiples walk at range step) at range step (shape_of child.tree) (shape_of scalar.tree)) is plain rows (r.sound.times, one.scalar, r.sound.fit, one.sound.fit) can (added_then before between now r.added one.added)
      (own_both before now between now before between (places_of (shape_of scalar.tree)) (places_of (shape_of child.tree)) (turned before between now r.added one.added) one.owns r.owns) asks
      (each_both (λ (x : Request). IsAskedIn x p) before now between now before between (turned before between now r.added one.added) (argument_named p inner f arguments e between now one.named)
      (each_as (λ (x : Request). IsAskedIn x q) (λ (x : Request). IsAskedIn x p) before between (λ x asked_in. under inner p (of_window f arguments e) (under q inner (of_subquery range step moment i) asked_in)) r.named))
      (λ span over. each_both (MayRequest span K) before now between now before between (turned before between now r.added one.added) (one.make span over) (r.make span over))
      (λ t w. (on t w, (walk, refl, w), one.sound.times t w)) fresh
      (λ gathers meant stay.
      let given = r.gives gathers (meant_before asked between now gathers one.added meant) (onces_below asked q inner (of_subquery range step moment i) (onces_below asked inner p (of_window f arguments e) stay)) in
      points_give asked (IsInstant walk) moments law p inner q f arguments moment range step at (rule (world S gathers) K (shape_of scalar.tree)) (rule (world S gathers) K (shape_of child.tree)) timed closed forward e i
      (λ t u w v. ap step_of (given.gives u (coe 1 0 (k. multiples-instants walk at range step u k) (t, w, v))) ∙ given_step child.scalar (rule (world S gathers) K (shape_of child.tree) u))
      (one.gives gathers meant (argument_stays asked p inner f arguments e stay)))
      (stays asked walk p inner q f arguments moment range step at (shape_of child.tree) (shape_of scalar.tree) e i timed closed forward r.within one.within)

module _ (asked : Asked) (walk : Walk) (before now : List Request) (p inner : Plan) (f : WindowFunction) (arguments : List Plan) (e : p.node ≡ node.Window f inner arguments) (part scalar : Part)
    (one : IsScalarOf asked walk before now f arguments scalar) where
  pub series_part : WalkMomentIsMoment → WindowsStay → (selector : RangeSelector) (series : List ℕ) (at : WalkMoment) → shape_of part.tree ≡ SeriesOf series f at selector.range (shape_of scalar.tree) → part.scalar ≡ false → part.own ≡ false
      → MayStart asked.samples asked.kept part.tree → ((times : List Ms) → IsListed walk times → HaveRequests now times part.tree) → IsFresh part.tree → IsSelected asked.kept selector.rules asked.samples series
      → numbered asked.samples series ≡ chosen asked.kept selector.rules asked.samples → IsMomentOf asked selector.moment at → at.closed ≡ selector.moment.closed → pos 0 <ℤ selector.range.0
      → ((t : ℤ) → IsInstant walk t → IsTime t) → ((t : ℤ) → IsInstant walk t → HasTimes (moment_at at t) selector.range.0) → IsRangeOf asked inner selector → IsPart asked walk before now p part
  series_part moments stays selector series at is plain rows can asks fresh selected these timed closed forward on times i =
      let there : AreThere asked.samples series = selected_there asked.kept selector.rules asked.samples series selected in
      shaped asked walk before now p part (SeriesOf series f at selector.range (shape_of scalar.tree)) is plain rows (there, forward, one.scalar, one.sound.fit) can one.added one.owns asks
      (argument_named p inner f arguments e before now one.named) one.make
      (λ t w. (on t w, times t w, one.sound.times t w)) fresh
      (λ gathers meant stay. series_gives asked (IsInstant walk) moments p inner f arguments selector.rules selector.moment selector.range series at (rule (world asked.samples gathers) asked.kept (shape_of scalar.tree)) these timed closed e i.gives
      (one.gives gathers meant (argument_stays asked p inner f arguments e stay)))
      (stays asked walk p inner f arguments selector.rules selector.moment selector.range series at (shape_of scalar.tree) e i.within there these timed closed one.within)

-- ---- windows that engines give

-- the requests of a part are written as another list
pub requested : (asked : Asked) (walk : Walk) (before now new : List Request) (p : Plan) (part : Part) → new ≡ now → IsPart asked walk before now p part → IsPart asked walk before new p part
requested asked walk before now new p part e h = subst (λ (rs : List Request). IsPart asked walk before rs p part) (sym e) h

-- a request is added for them, behind those of the scalar
module _ (asked : Asked) (walk : Walk) (before between : List Request) (p inner : Plan) (f : WindowFunction) (arguments : List Plan) (e : p.node ≡ node.Window f inner arguments) (part scalar : Part)
    (one : IsScalarOf asked walk before between f arguments scalar) (r : Request) where
  -- the requests by then
  abbrev with_one : List Request
  with_one = between ++ r ∷ []

  pub gathered_part : WalkMomentIsMoment → GivenWindowsStay → (rules : Option (List Rule)) (a : RangeAsked) → IsGatherUnder r.part r.engines rules inner → asked_range r.part.kind r.part.expr ≡ Some a → a.range ≡ r.range
      → IsMomentOf asked a.selector.moment r.moment → shape_of part.tree ≡ WindowsOf (length between) f r.moment r.range rules (shape_of scalar.tree) → part.scalar ≡ false → part.own ≡ false
      → MayStart asked.samples asked.kept part.tree → ((times : List Ms) → IsListed walk times → HaveRequests with_one times part.tree) → IsFresh part.tree
      → ((span : Grid) → IsQueryOver span asked.kept asked → MayRequest span asked.kept r) → ((t : ℤ) → IsInstant walk t → IsTime t) → ((t : ℤ) → IsInstant walk t → HasTimes (moment_at r.moment t) r.range.0)
      → IsPart asked walk before with_one p part
  gathered_part moments stays rules a under_it asks reaches timed is plain rows can requests fresh may on times =
      let added = one_added between r in
      let turn = turned before between with_one one.added added in
      let place = length between in
      let in_p : IsAskedIn r p = under inner p (of_window f arguments e) (asked_under r under_it) in
      shaped asked walk before with_one p part (WindowsOf place f r.moment r.range rules (shape_of scalar.tree)) is plain rows (one.scalar, one.sound.fit) can (added_then before between with_one one.added added)
      (own_both before with_one between with_one before between (place ∷ []) (places_of (shape_of scalar.tree)) turn (own_one between r) one.owns) requests
      (each_both (λ (x : Request). IsAskedIn x p) before with_one between with_one before between turn (each_one (λ (x : Request). IsAskedIn x p) between r in_p) (argument_named p inner f arguments e before between one.named))
      (λ span over. each_both (MayRequest span asked.kept) before with_one between with_one before between turn (each_one (MayRequest span asked.kept) between r (may span over)) (one.make span over))
      (λ t w. (on t w, times t w, one.sound.times t w)) fresh
      (λ gathers meant stay.
      let expr = r.part.expr in
      let kind = r.part.kind in
      let given_at = λ (t : ℤ). meant place r t (get_last between r) (range_served kind expr a asks) ∙ given_windows asked t kind expr a asks (gathers place t) in
      lent_gives asked (IsInstant walk) p inner f arguments r.moment r.range (rule (world asked.samples gathers) asked.kept (shape_of scalar.tree)) (λ t. windows_of (given_over asked expr t []))
      (λ t. passing asked.kept rules (gathers place t).windows) e
      (λ t. under_gives asked r.part r.engines under_it t (windows_of (given_over asked expr t [])) (gathers place t).windows (given_at t))
      (λ t. none_moment asked t kind expr a asks ∙ (λ j. record { 0 = sym (moments asked a.selector.moment r.moment t timed) j }))
      (λ t. none_range asked t kind expr a asks ∙ reaches)
      (one.gives gathers (meant_before asked between with_one gathers added meant) (argument_stays asked p inner f arguments e stay)))
      (stays asked walk p inner f arguments place r.moment r.range rules (shape_of scalar.tree) e one.within)
