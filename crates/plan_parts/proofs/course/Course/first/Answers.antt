use Rattle.std.proofs.Common.{Option, ap, subst, arith}
use Rattle.std.specs.Prelude.{pos, unwrap_or}
use Rattle.std.proofs.lemmas.Int.{ints}
use Rattle.plan_work.specs.TreeBounds.{BeginsAt}
use Rattle.ticks.specs.Listed.{IsFirst}
use Rattle.ticks.specs.declared.moment.Ms.{Ms}
use Rattle.ticks.specs.declared.walk.Walk.{Walk}
use Rattle.plan_parts.specs.Courses.{Courses}
use Rattle.plan_parts.proofs.Beginning.{begins}
use Rattle.plan_parts.proofs.course.Course.first.Goals as goal

pub returns-in-Some-clause-begins : goal.returns-in-Some-clause-begins
returns-in-Some-clause-begins c =
    let walk = c.self.inside.walk in
    let is : IsFirst walk c.first.result = record { instant = c.first.ensures.instant; least = c.first.ensures.least; none = c.first.ensures.none } in
    subst (λ (w : Walk). BeginsAt w c.in-Some.t) (ap (λ (s : Courses). s.walk) c.self.view_is)
    (subst (λ (o : Option Ms). BeginsAt walk (unwrap_or o (record { 0 = pos 0 }))) c.in-Some.is (begins c.walks_are_listed.ensures.first walk c.first.result is))

pub returns-in-None-clause-begins : goal.returns-in-None-clause-begins
returns-in-None-clause-begins c =
    let walk = c.self.inside.walk in
    let is : IsFirst walk c.first.result = record { instant = c.first.ensures.instant; least = c.first.ensures.least; none = c.first.ensures.none } in
    subst (λ (w : Walk). BeginsAt w (record { 0 = pos 0 })) (ap (λ (s : Courses). s.walk) c.self.view_is)
    (subst (λ (o : Option Ms). BeginsAt walk (unwrap_or o (record { 0 = pos 0 }))) c.in-None.is (begins c.walks_are_listed.ensures.first walk c.first.result is))

pub returns-in-None-clause-time : goal.returns-in-None-clause-time
returns-in-None-clause-time c = record { low = omega (arith, ints); high = omega (arith, ints) }
