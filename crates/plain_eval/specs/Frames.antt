-- What is given has the samples of its windows in their ranges. (Our own.)
use Rattle.std.specs.Prelude.{ℤ, ⊤}
use Rattle.promql_meaning.specs.declared.given.Given.{Given}
use Rattle.promql_meaning.specs.declared.given.Given.TheVariants.{Scalar, Vector, Selected, Windows, Words}
use Rattle.step_rules.specs.Frames.{AreFramed}

-- what is given at an instant has such windows, if it has any
abbrev pub IsFramed : ℤ → Given → Type 0
IsFramed t (Scalar step) = ⊤
IsFramed t (Vector step) = ⊤
IsFramed t (Selected selection) = ⊤
IsFramed t (Windows windows) = AreFramed t windows
IsFramed t (Words text) = ⊤
