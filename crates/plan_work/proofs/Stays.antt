-- The trees of nodes stay within the bounds of plans.
use Rattle.std.proofs.Common.{◌≡◌, ℕ, zero, suc, ◌<◌, get_or, List, [], ◌∷◌, length, refl, sym, ap, subst, arith}
use Rattle.plan_tree.specs.Shapes.{Shape}
use Rattle.plan_tree.specs.Spending.{Cost, IsAtMost, IsBound, RisesBy, both, leaf_bound, nothing, once_at}
use Rattle.promql_meaning.specs.Selecting.{Asked, lookback}
use Rattle.promql_meaning.specs.WalkMoments.{WalkMomentIsMoment}
use Rattle.logical_plan.specs.declared.nodes.Plan.{Plan}
use Rattle.ticks.specs.Listed.{IsListed}
use Rattle.ticks.specs.declared.moment.Ms.{Ms}
use Rattle.ticks.specs.declared.walk.Walk.TheVariants.{Fixed}
use Rattle.plan_work.specs.PlanBounds.{arguments_bound, first_alone, inner_times, plan_bound, selector_bound}
use Rattle.plan_work.specs.PlanLaws.{InnerTimesAreListed, IsOver}
use Rattle.plan_work.specs.TreeBounds.{BesidesStay, GathersStay, GivenWindowsStay, NumbersStay, OnceTreesStay, OversNumbersStay, OversStay, SamesStay, SelectorsStay, SpendingStays, SubqueriesStay, ThreesStay, WindowsStay}
use Rattle.plan_work.proofs.Idle.{idle}
use Rattle.plan_work.proofs.Leaves.{leaves_cost}
use Rattle.plan_work.proofs.Nodes.{beside_either, once, over, selector, subqueries, three, windows}
use Rattle.plan_work.proofs.Sums.{at_bound, beside_least, both_least, both_turned, none_least, same_least, then_least, with_none}

pub numbers_stay : NumbersStay
numbers_stay asked walk p one at listed = record { cost = nothing; of = refl; within = none_least (plan_bound asked p at) }

pub gathers_stay : GathersStay
gathers_stay asked walk p place at listed = record { cost = nothing; of = refl; within = none_least (plan_bound asked p at) }

pub selectors_stay : WalkMomentIsMoment → SelectorsStay
selectors_stay law asked walk p rules moment stamped series own e there chosen of closed at listed =
    let leaf = leaf_bound lookback asked.samples series own at in
    let wide = selector_bound lookback asked rules moment at in
    record {
      cost = leaf;
      of = refl;
      within = at_bound leaf wide (plan_bound asked p at) (selector asked p at rules moment stamped e) (same_least leaf wide (leaves_cost law lookback asked rules moment own series at there chosen of closed));
    }

-- ---- one child

-- what a tree costs within the bound of the child is within that of the node
over_within : (asked : Asked) (c p : Plan) (at : List Ms) (cost : Cost) → IsOver c p → IsAtMost cost (plan_bound asked c at) → IsAtMost cost (plan_bound asked p at)
over_within asked c p at cost o h = at_bound cost (plan_bound asked c at) (plan_bound asked p at) (over asked c p at o) h

pub overs_stay : OversStay
overs_stay asked walk c p one rows o w at listed = let k = w at listed in record { cost = k.cost; of = k.of; within = over_within asked c p at k.cost o k.within }

pub sames_stay : SamesStay
sames_stay asked walk c p rows o w at listed = let k = w at listed in record { cost = k.cost; of = k.of; within = over_within asked c p at k.cost o k.within }

pub overs_numbers_stay : OversNumbersStay
overs_numbers_stay asked walk c p one number rows o w at listed =
    let k = w at listed in
    record {
      cost = both k.cost nothing;
      of = (k.cost, nothing, k.of, refl, refl);
      within = over_within asked c p at (both k.cost nothing) o (with_none k.cost (plan_bound asked c at) k.within);
    }

-- ---- two and three children

pub besides_stay : BesidesStay
besides_stay asked walk left right p one first second b v w at listed =
    let k = v at listed in
    let l = w at listed in
    record {
      cost = both k.cost l.cost;
      of = (k.cost, l.cost, k.of, l.of, refl);
      within = at_bound (both k.cost l.cost) (both (plan_bound asked left at) (plan_bound asked right at)) (plan_bound asked p at) (beside_either asked left right p at b)
          (both_least k.cost l.cost (plan_bound asked left at) (plan_bound asked right at) k.within l.within);
    }

pub threes_stay : ThreesStay
threes_stay asked walk rows low high p one first second third t u v w at listed =
    let k = u at listed in
    let l = v at listed in
    let m = w at listed in
    let beside = both (plan_bound asked low at) (plan_bound asked high at) in
    let all = both k.cost (both l.cost m.cost) in
    record {
      cost = all;
      of = (k.cost, both l.cost m.cost, k.of, (l.cost, m.cost, l.of, m.of, refl), refl);
      within = at_bound all (both (plan_bound asked rows at) beside) (plan_bound asked p at) (three asked rows low high p at t)
          (both_least k.cost (both l.cost m.cost) (plan_bound asked rows at) beside k.within (both_least l.cost m.cost (plan_bound asked low at) (plan_bound asked high at) l.within m.within));
    }

-- ---- functions of windows

pub windows_stay : WalkMomentIsMoment → WindowsStay
windows_stay law asked walk p inner f arguments rules moment range series own scalar e most there chosen of closed rest at listed =
    let r = rest at listed in
    let leaf = leaf_bound range.0 asked.samples series own at in
    let inside = plan_bound asked inner at in
    let others = arguments_bound asked arguments at in
    let leaf_within : IsAtMost leaf inside =
    subst (λ (c : Cost). IsAtMost c inside) (sym (leaves_cost law range.0 asked rules moment own series at there chosen of closed)) (most at) in
    record {
      cost = both r.cost leaf;
      of = (r.cost, leaf, r.of, refl, refl);
      within = at_bound (both r.cost leaf) (both inside others) (plan_bound asked p at) (windows asked p inner f arguments at e) (both_turned leaf r.cost inside others leaf_within r.within);
    }

pub given_windows_stay : GivenWindowsStay
given_windows_stay asked walk p inner f arguments place own range rules scalar e rest at listed =
    let r = rest at listed in
    let inside = plan_bound asked inner at in
    let others = arguments_bound asked arguments at in
    record {
      cost = r.cost;
      of = r.of;
      within = at_bound r.cost (both inside others) (plan_bound asked p at) (windows asked p inner f arguments at e) (beside_least r.cost inside others r.within);
    }

pub subqueries_stay : InnerTimesAreListed → SubqueriesStay
subqueries_stay law asked walk p inner q f arguments moment range step own rows scalar e i of closed forward below rest at listed =
    let r = rest at listed in
    let times = inner_times asked moment range step at in
    let all = law asked walk at moment own range step listed of closed forward in
    let b = below times all in
    let inside = plan_bound asked inner at in
    let others = arguments_bound asked arguments at in
    let rows_within : IsAtMost b.cost inside = at_bound b.cost (plan_bound asked q times) inside (subqueries asked inner q moment range step at i) b.within in
    record {
      cost = both r.cost b.cost;
      of = (times, all, (r.cost, b.cost, r.of, b.of, refl));
      within = at_bound (both r.cost b.cost) (both inside others) (plan_bound asked p at) (windows asked p inner f arguments at e) (both_turned b.cost r.cost inside others rows_within r.within);
    }

-- ---- a part that is computed once

alone_at : (t u : Ms) (k : ℕ) → k < length (t ∷ []) → get_or (t ∷ []) k u ≡ u → u.0 ≡ t.0
alone_at t u zero less e = sym (ap (λ (z : Ms). z.0) e)
alone_at t u (suc k) less e = absurd (omega (arith, less))

fixed_listed : (t : Ms) → IsListed (Fixed t) (t ∷ [])
fixed_listed t = record { rising = (tt, tt); instants = λ u. (λ h. alone_at t u h.0 h.1 h.2, λ is. (0, omega arith, λ j. record { 0 = sym is j })) }

-- at no instant it costs no more than at its own
asked_once : (asked : Asked) (first : Ms) (child : Shape) (most : Cost) (at : List Ms) → IsBound asked.samples (first ∷ []) child most → (less : Cost) × IsBound asked.samples (once_at first at) child less × IsAtMost less most
asked_once asked first child most [] of = idle asked.samples (first ∷ []) child most of
asked_once asked first child most (t ∷ at) of = (most, of, same_least most most refl)

pub onces_stay : OnceTreesStay
onces_stay asked walk c p first child e begins w at listed =
    let k = w (first ∷ []) (fixed_listed first) in
    let own : IsAtMost k.cost (plan_bound asked c (first_alone at)) = subst (λ (t : Ms). IsAtMost k.cost (plan_bound asked c (t ∷ []))) (begins at listed) k.within in
    let less = asked_once asked first child k.cost at k.of in
    record {
      cost = less.0;
      of = less.1;
      within = at_bound less.0 (plan_bound asked c (first_alone at)) (plan_bound asked p at) (once asked c p at e) (then_least less.0 k.cost (plan_bound asked c (first_alone at)) less.2 own);
    }

-- ---- what is spent

pub spending_stays : SpendingStays
spending_stays asked walk p shape at start now stays listed within =
    let k = stays at listed in
    let r : RisesBy start now k.cost = within at k.cost listed k.of in
    record {
      fetched = (let a = r.fetched in let b = k.within.fetched in omega arith);
      probed = (let a = r.probed in let b = k.within.probed in omega arith);
      tested = r.tested;
    }
