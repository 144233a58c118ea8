use Rattle.std.proofs.Common.{◌≡◌, ◌+◌, Option, ℕ, refl, subst, sym}
use Rattle.std.specs.Prelude.{IsSomeAnd, MatchResult, Result}
use Rattle.std.proofs.lemmas.Result.{err_from_is_err_and}
use Rattle.plan_parts.specs.Courses.{Courses, IsCourseNear, ReachBack}
use Rattle.plan_parts.specs.declared.unbuilt.Unbuilt.{Unbuilt}
use Rattle.plan_parts.specs.declared.unbuilt.Unbuilt.TheVariants.{Memory}
use Rattle.window_parts.specs.declared.over.Subquery.{Subquery}
use Rattle.window_parts.proofs.over.inside.Goals as goal

pub returns-in-Some-clause-inside : goal.returns-in-Some-clause-inside
returns-in-Some-clause-inside c = λ samples kept engines.
    let moment = c.settled-moment.ensures.moment samples kept in
    record { timed = record { fixed = moment.fixed; offset = moment.offset }; closed = c.settled-moment.ensures.closed; range_is = refl; step_is = refl }

-- what is built, at the instants of one subquery more
abbrev IsBuiltNear : ℕ → Result Subquery Unbuilt → Type 0
IsBuiltNear n built = MatchResult built (λ s. IsCourseNear (n + 1) s.course) (λ e. e ≡ Memory)

pub returns-in_err-inner-clause-total : goal.returns-in_err-inner-clause-total
returns-in_err-inner-clause-total c = λ n few near timed long steps.
    let r = c.from_residual in
    let p = err_from_is_err_and r.result r.ensures.1 in
    subst (IsBuiltNear n) (sym p.1) p.2

pub returns-in-None-clause-total : goal.returns-in-None-clause-total
returns-in-None-clause-total c = λ n few near timed long steps.
    let reach : ReachBack n c.args.outer.now c.settled-moment.result c.args.range = record { near = near; timed = c.settled-moment.ensures.near timed; long = long } in
    absurd (subst (λ (o : Option Courses). IsSomeAnd o (IsCourseNear (n + 1))) c.in-None.is (c.in_ok-inner.ensures.near n few reach steps.0))

pub returns-in-Some-clause-total : goal.returns-in-Some-clause-total
returns-in-Some-clause-total c = λ n few near timed long steps.
    let reach : ReachBack n c.args.outer.now c.settled-moment.result c.args.range = record { near = near; timed = c.settled-moment.ensures.near timed; long = long } in
    subst (λ (o : Option Courses). IsSomeAnd o (IsCourseNear (n + 1))) c.in-Some.is (c.in_ok-inner.ensures.near n few reach steps.0)
