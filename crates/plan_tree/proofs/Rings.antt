-- A subquery that is asked, and its inner tree.
use Rattle.std.proofs.Common.{◌≡◌, ◌∙◌, List, [], ◌∷◌, length, get_or, arith, Option, None, Some, refl, sym, ap, subst}
use Rattle.std.specs.Prelude.{ℤ}
use Rattle.func_table.specs.declared.table.Window.{Window}
use Rattle.op_labels.specs.Rules.{Kept}
use Rattle.op_subquery.specs.Walked.{inner_walk}
use Rattle.promql_meaning.specs.Meaning.{windowed_by}
use Rattle.promql_meaning.specs.Subqueries.{points_of}
use Rattle.subquery_rows.specs.Rings.{IsAsked, IsNextAfter, IsPast, Ring, Stands}
use Rattle.step_table.specs.Timed.{steps_over}
use Rattle.step_table.specs.declared.step.Step.{Step}
use Rattle.ticks.specs.Listed.{IsListed}
use Rattle.ticks.specs.Walks.{IsInstant, LeadsToTimes, moment_at}
use Rattle.ticks.specs.declared.moment.Ms.{Ms}
use Rattle.ticks.specs.declared.walk.Walk.{Walk}
use Rattle.ticks.specs.declared.walk.WalkMoment.{WalkMoment}
use Rattle.plan_tree.specs.declared.turns.Fed.{Fed}
use Rattle.plan_tree.specs.Feeds.{Goes, fed_on, last_of}
use Rattle.plan_tree.specs.Nodes.{PointsGo}
use Rattle.plan_tree.specs.Shapes.{IsAskedOn, Shape, rule}
use Rattle.plan_tree.specs.Worlds.{World}

-- it stands alike for two outer walks whose inner instants are the same
pub stands_for : (ring : Ring) (a b : Walk) (inner : ℤ → Step) (last : Option Ms) → inner_walk ring.points a ≡ inner_walk ring.points b → Stands ring a inner last → Stands ring b inner last
stands_for ring a b inner last e s = record {
  walk = s.walk ∙ e;
  count = s.count;
  of = record {
    times = s.of.times;
    listed = subst (λ (w : Walk). IsListed w s.of.times) e s.of.listed;
    leads = subst LeadsToTimes e s.of.leads;
    fed = s.of.fed;
  };
  next = s.next;
  behind = s.behind;
  reached = s.reached;
}

pub past_of : (fed : Option Fed) (t : Ms) → Goes fed (t ∷ []) → IsPast (last_of fed) t
past_of None t g = tt
past_of (Some fed) t g = g.0

-- the next inner instant is one of the walk, behind those that were fed
pub next_on : (walk : Walk) (last : Option Ms) (u : Ms) → IsNextAfter walk last (Some u) → IsInstant walk u.0
next_on walk None u n = n.instant
next_on walk (Some s) u n = n.instant

pub next_goes : (walk : Walk) (fed : Option Fed) (u : Ms) → IsNextAfter walk (last_of fed) (Some u) → Goes fed (u ∷ [])
next_goes walk None u n = (tt, tt)
next_goes walk (Some fed) u n = (n.later, tt)

pub last_next : (fed : Option Fed) (u : Ms) → last_of (fed_on fed (u ∷ [])) ≡ Some u
last_next None u = refl
last_next (Some fed) u = refl

-- ---- what is asked of a subquery

pub points_asked : (w : World) (kept : Kept) (fed : Option Fed) (kernel : Ring) (inner_fed : Option Fed) (inner : Shape) (t : Ms) → PointsGo w kept fed kernel inner_fed inner
    → (a : IsAskedOn kernel.walk kernel.points.moment kernel.points.range kernel.points.step t.0) → Goes fed (t ∷ []) → IsAsked kernel a.0 (rule w kept inner) (last_of fed) t
points_asked w kept fed kernel inner_fed inner t p a g = record {
  stands = stands_for kernel p.outer a.0 (rule w kept inner) (last_of fed) (sym p.stands.walk ∙ a.1) p.stands;
  on = a.2;
  later = past_of fed t g;
}

-- the one instant that is fed
pub one_at : (at : List Ms) (d : Ms) → length at ≡ 1 → at ≡ get_or at 0 d ∷ []
one_at [] d e = absurd (omega arith)
one_at (t ∷ []) d e = refl
one_at (t ∷ u ∷ at) d e = absurd (omega arith)

-- what is given is the subquery's function of its windows
pub points_over : (f made : Window) (moment now : WalkMoment) (range r step s : Ms) (inner meant g : ℤ → Step) (at : List Ms) (t : Ms) → made ≡ f → now ≡ moment → r ≡ range → s ≡ step → meant ≡ inner → at ≡ t ∷ []
    → steps_over (λ u. windowed_by made u (g u) (points_of now.closed meant r s (moment_at now u))) (t ∷ []) ≡ steps_over (λ u. windowed_by f u (g u) (points_of moment.closed inner range step (moment_at moment u))) at
points_over f made moment now range r step s inner meant g at t ef em er es ei ea =
    λ j. steps_over (λ u. windowed_by (ef j) u (g u) (points_of (em j).closed (ei j) (er j) (es j) (moment_at (em j) u))) (sym ea j)

pub last_end : (fed : Option Fed) (at : List Ms) (t : Ms) → at ≡ t ∷ [] → last_of (fed_on fed at) ≡ Some t
last_end fed at t e = ap (λ (ts : List Ms). last_of (fed_on fed ts)) e ∙ last_next fed t
