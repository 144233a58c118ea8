-- The moment of a walk is the moment of the meaning.
use Rattle.std.proofs.Common.{◌≡◌, ◌∙◌, ℤ, refl, ap, Option, None, Some}
use Rattle.std.specs.Prelude.{◌-ℤ◌}
use Rattle.promql_ast.specs.declared.tree.Fixed.{Fixed}
use Rattle.promql_ast.specs.declared.tree.Fixed.TheVariants.{At, Start, End}
use Rattle.ticks.specs.Walks.{moment_at}
use Rattle.ticks.specs.declared.moment.Ms.{Ms}
use Rattle.ticks.specs.declared.walk.WalkMoment.{WalkMoment}
use Rattle.promql_meaning.specs.Selecting.{base_of}
use Rattle.promql_meaning.specs.WalkMoments.{WalkMomentIsMoment, fixed_time}

by_fixed : (start end t : ℤ) (fixed : Option Fixed) (offset : Ms) (walk : WalkMoment) → moment_at (record walk { fixed = fixed_time start end fixed; offset = offset }) t ≡ base_of start end t fixed -ℤ offset.0
by_fixed start end t None offset walk = refl
by_fixed start end t (Some (At at)) offset walk = refl
by_fixed start end t (Some Start) offset walk = refl
by_fixed start end t (Some End) offset walk = refl

pub walk_moment_is : WalkMomentIsMoment
walk_moment_is asked moment walk t is =
    let same : walk ≡ record walk { fixed = fixed_time asked.start asked.end moment.fixed; offset = moment.offset } = λ i. record walk { fixed = is.fixed i; offset = is.offset i } in
    ap (λ (w : WalkMoment). moment_at w t) same ∙ by_fixed asked.start asked.end t moment.fixed moment.offset walk
