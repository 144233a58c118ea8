use Rattle.std.proofs.Common.{◌≡◌, ◌∙◌, ap, subst, sym, rules}
use Rattle.std.specs.Prelude.{pos, ◌<ℤ◌}
use Rattle.ticks.specs.Walks.{LeadsToTimes}
use Rattle.ticks.specs.declared.walk.Walk.{Walk}
use Rattle.ticks.specs.declared.walk.Walk.TheVariants.{Multiples}
use Rattle.plan_parts.specs.Courses.{Courses, LiesBetween}
use Rattle.plan_parts.proofs.Windows.{inner_between, inner_times}
use Rattle.plan_parts.proofs.course.Course.inner.Goals as goal

pub invariant_of-result : goal.invariant_of-result
invariant_of-result c =
    let walk = c.args.self.now.walk in
    let moment = c.args.moment.now in
    let range = c.args.range in
    let step = c.args.step in
    let windows = c.in-Some.ensures.windows in
    let seen : c.self.inside.walk ≡ walk = ap (λ (s : Courses). s.walk) c.self.view_is in
    let same : c.in_ok-outer.outer ≡ walk = c.in_ok-outer.ensures ∙ c.in_ok-copy.ensures ∙ seen in
    let forward : pos 0 <ℤ step.0 = search rules in
    let times : LeadsToTimes (Multiples walk moment range step) = inner_times walk moment range step c.in-Some.low.0 c.in-Some.high.0 (subst LeadsToTimes seen c.self.invariant.0) windows forward in
    let between : LiesBetween (Multiples walk moment range step) c.in-Some.low.0 c.in-Some.high.0 = inner_between walk moment range step c.in-Some.low.0 c.in-Some.high.0 windows in (
      subst (λ (w : Walk). LeadsToTimes (Multiples w moment range step)) (sym same) times,
      windows.early,
      windows.late,
      subst (λ (w : Walk). LiesBetween (Multiples w moment range step) c.in-Some.low.0 c.in-Some.high.0) (sym same) between,
    )
