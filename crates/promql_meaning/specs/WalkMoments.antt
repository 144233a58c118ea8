-- The moments of walks, which a plan takes its instants from, beside the moments of an expression. (This project's own.)
use Rattle.std.specs.Prelude.{◌≡◌, ℤ, Option, None, Some}
use Rattle.promql_ast.specs.declared.tree.Fixed.{Fixed}
use Rattle.promql_ast.specs.declared.tree.Fixed.TheVariants.{At, Start, End}
use Rattle.promql_ast.specs.declared.tree.Moment.{Moment}
use Rattle.ticks.specs.Walks.{moment_at}
use Rattle.ticks.specs.declared.moment.Ms.{Ms}
use Rattle.ticks.specs.declared.walk.WalkMoment.{WalkMoment}
use Rattle.promql_meaning.specs.Selecting.{Asked, moment_of}

-- the fixed time of `@`, if there is one: a time, or an end of the query's own grid
abbrev pub fixed_time : ℤ → ℤ → Option Fixed → Option Ms
fixed_time start end None = None
fixed_time start end (Some (At at)) = Some at
fixed_time start end (Some Start) = Some (record { 0 = start })
fixed_time start end (Some End) = Some (record { 0 = end })

-- a walk's moment has the fixed time and the offset of an expression's
pub record IsMomentOf (asked : Asked) (moment : Moment) (walk : WalkMoment) : Type 0 where
  pub fixed : walk.fixed ≡ fixed_time asked.start asked.end moment.fixed
  pub offset : walk.offset ≡ moment.offset

-- then it is the moment of the meaning at each instant
abbrev pub WalkMomentIsMoment : Type 0
WalkMomentIsMoment = (asked : Asked) (moment : Moment) (walk : WalkMoment) (t : ℤ) → IsMomentOf asked moment walk → moment_at walk t ≡ moment_of asked moment t
