-- A counter that is never reset, and aggregations over windows.
use Rattle.std.proofs.Common.{◌≡◌, ◌∙◌, ℕ, true, List, [], ◌∷◌, length, map, filter, refl, ap}
use Rattle.std.specs.Prelude.{count_by}
use Rattle.std.proofs.lemmas.List.{nil_from_length}
use Rattle.std.proofs.lemmas.List.Sums.{length-filter}
use Rattle.std.proofs.lemmas.Bool.{false≢true}
use Rattle.xfrac.specs.Arithmetic.{arithmetic, whole_number}
use Rattle.xfrac.specs.Forming.{negated}
use Rattle.xfrac.specs.Order.{compares}
use Rattle.xfrac.specs.Sequencing.{◌>>=◌}
use Rattle.xfrac.specs.declared.value.ArithOp.TheVariants.{Sub}
use Rattle.xfrac.specs.declared.value.CompareOp.TheVariants.{Lt}
use Rattle.xfrac.specs.declared.value.XFrac.{XFrac}
use Rattle.func_table.specs.declared.table.Window.TheVariants.{Rate, Increase, Delta, Irate, Idelta, Deriv, PredictLinear, Changes, Resets, AvgOver, MinOver, MaxOver, SumOver, CountOver, StdvarOver, QuantileOver, LastOver, PresentOver}
use Rattle.window_fn.specs.Aggregates.{place_of, total}
use Rattle.window_fn.specs.Increases.{carried, change, increase, layout_of, lost}
use Rattle.window_fn.specs.Laws.{IncreaseWithoutResets, TimesDontMatter}
use Rattle.window_fn.specs.Points.{first_of, last_of, neighbours}
use Rattle.window_fn.specs.Steps.{resets}

none_counted : (n : ℕ) → whole_number n ≡ whole_number 0 → n ≡ 0
none_counted n e = ap place_of e

nothing_lost : (values : List XFrac) → resets values ≡ whole_number 0 → lost values ≡ []
nothing_lost values e =
    let pairs = filter (λ (p : XFrac × XFrac). compares Lt p.1 p.0) (neighbours values) in
    let none : length pairs ≡ 0 = length-filter (λ p. compares Lt p.1 p.0) (neighbours values) ∙ none_counted (count_by (λ p. compares Lt p.1 p.0) (neighbours values)) e in
    ap (map (λ p. p.0)) (nil_from_length pairs none)

plain_change : (values : List XFrac) → resets values ≡ whole_number 0 → change true values ≡ arithmetic Sub (last_of values) (first_of values)
plain_change values e = ap (λ l. total (last_of values ∷ negated (first_of values) ∷ l)) (nothing_lost values e)

pub plain_increase : IncreaseWithoutResets
unfolding increase
plain_increase times values frame e =
    ap (λ r. r >>= λ change. layout_of times frame >>= λ layout. carried true layout (first_of values) change) (plain_change values e)

pub any_times : TimesDontMatter
any_times AvgOver times others values frame other arg is = refl
any_times MinOver times others values frame other arg is = refl
any_times MaxOver times others values frame other arg is = refl
any_times SumOver times others values frame other arg is = refl
any_times CountOver times others values frame other arg is = refl
any_times StdvarOver times others values frame other arg is = refl
any_times QuantileOver times others values frame other arg is = refl
any_times Rate times others values frame other arg is = absurd (false≢true is)
any_times Increase times others values frame other arg is = absurd (false≢true is)
any_times Delta times others values frame other arg is = absurd (false≢true is)
any_times Irate times others values frame other arg is = absurd (false≢true is)
any_times Idelta times others values frame other arg is = absurd (false≢true is)
any_times Deriv times others values frame other arg is = absurd (false≢true is)
any_times PredictLinear times others values frame other arg is = absurd (false≢true is)
any_times Changes times others values frame other arg is = absurd (false≢true is)
any_times Resets times others values frame other arg is = absurd (false≢true is)
any_times LastOver times others values frame other arg is = absurd (false≢true is)
any_times PresentOver times others values frame other arg is = absurd (false≢true is)
