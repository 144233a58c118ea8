-- A tree that is asked at no instant costs no more than at some.
use Rattle.std.proofs.Common.{◌≡◌, ℕ, List, [], refl, arith}
use Rattle.std.specs.Prelude.{ℤ}
use Rattle.plan_tree.specs.Shapes.{BinaryOf, ClampOf, GatherOf, InstantsOf, OnceOf, PointsOf, SelectOf, SeriesOf, Shape, UnaryOf, WindowsOf}
use Rattle.plan_tree.specs.Spending.{Cost, IsAtMost, IsBound, IsSum, both, leaf_bound, once_at}
use Rattle.promql_meaning.specs.Selecting.{lookback}
use Rattle.sample_store.specs.Samples.{AllSeries}
use Rattle.ticks.specs.declared.moment.Ms.{Ms}
use Rattle.ticks.specs.declared.walk.WalkMoment.{WalkMoment}
use Rattle.plan_work.proofs.Sums.{at_bound, both_least, same_least}

-- one of these costs is no more than a cost
abbrev IsLess : (Cost → Type 0) → Cost → Type 0
IsLess Is most = (less : Cost) × Is less × IsAtMost less most

leaf_idle : (back : ℤ) (store : AllSeries) (series : List ℕ) (moment : WalkMoment) (at : List Ms) (most : Cost) → most ≡ leaf_bound back store series moment at → IsLess (λ less. less ≡ leaf_bound back store series moment []) most
leaf_idle back store series moment at most is = (leaf_bound back store series moment [], refl, at_bound (leaf_bound back store series moment []) (leaf_bound back store series moment at) most is (record { fetched = omega arith; probed = omega arith }))

sum_idle : (P Q R S : Cost → Type 0) (most : Cost) → ((a : Cost) → P a → IsLess R a) → ((b : Cost) → Q b → IsLess S b) → IsSum P Q most → IsLess (IsSum R S) most
sum_idle P Q R S most f g (a, b, p, q, is) =
    let one = f a p in
    let two = g b q in
    (both one.0 two.0, (one.0, two.0, one.1, two.1, refl), at_bound (both one.0 two.0) (both a b) most is (both_least one.0 two.0 a b one.2 two.2))

pub idle : (store : AllSeries) (at : List Ms) (shape : Shape) (most : Cost) → IsBound store at shape most → IsLess (IsBound store [] shape) most
idle store at (InstantsOf one) most h = (most, h, same_least most most refl)
idle store at (SelectOf series moment stamped) most h = leaf_idle lookback store series moment at most h
idle store at (SeriesOf series f moment range scalar) most h =
    sum_idle (IsBound store at scalar) (λ n. n ≡ leaf_bound range.0 store series moment at) (IsBound store [] scalar) (λ n. n ≡ leaf_bound range.0 store series moment []) most (λ a. idle store at scalar a) (λ a. leaf_idle range.0 store series moment at a) h
idle store at (UnaryOf one rows) most h = idle store at rows most h
idle store at (BinaryOf one rows beside) most h =
    sum_idle (IsBound store at rows) (IsBound store at beside) (IsBound store [] rows) (IsBound store [] beside) most (λ a. idle store at rows a) (λ a. idle store at beside a) h
idle store at (ClampOf one rows low high) most h =
    sum_idle (IsBound store at rows) (IsSum (IsBound store at low) (IsBound store at high)) (IsBound store [] rows) (IsSum (IsBound store [] low) (IsBound store [] high)) most (λ a. idle store at rows a)
    (λ a. sum_idle (IsBound store at low) (IsBound store at high) (IsBound store [] low) (IsBound store [] high) a (λ b. idle store at low b) (λ b. idle store at high b)) h
idle store at (PointsOf f walk moment range step inner scalar) most (times, listed, h) =
    let less = sum_idle (IsBound store at scalar) (IsBound store times inner) (IsBound store [] scalar) (IsBound store times inner) most (λ a. idle store at scalar a) (λ a is. (a, is, same_least a a refl)) h in
    (less.0, (times, listed, less.1), less.2)
idle store at (OnceOf first child) most h = idle store (once_at first at) child most h
idle store at (GatherOf place) most h = (most, h, same_least most most refl)
idle store at (WindowsOf place f moment range rules scalar) most h = idle store at scalar most h
