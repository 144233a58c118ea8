-- A tree has one bound.
use Rattle.std.proofs.Common.{◌≡◌, ◌∙◌, List, refl, subst}
use Rattle.promql_meaning.specs.Selecting.{lookback}
use Rattle.ticks.specs.Listed.{EachWalkIsListed, ListsAreOne}
use Rattle.ticks.specs.declared.moment.Ms.{Ms}
use Rattle.plan_tree.specs.Laws.{EachTreeHasOneBound}
use Rattle.plan_tree.specs.Shapes.{BinaryOf, ClampOf, GatherOf, InstantsOf, OnceOf, PointsOf, SelectOf, SeriesOf, UnaryOf, WindowsOf}
use Rattle.plan_tree.specs.Spending.{Cost, IsBound, IsSum, both, leaf_bound, nothing, once_at}

-- there is one cost of a kind
abbrev Only : (Cost → Type 0) → Type 0
Only P = (most : Cost) × P most × ((other : Cost) → P other → other ≡ most)

known : (a : Cost) → Only (λ most. most ≡ a)
known a = (a, refl, λ other is. is)

sum_same : (P Q : Cost → Type 0) (a b other : Cost) → ((c : Cost) → P c → c ≡ a) → ((d : Cost) → Q d → d ≡ b) → IsSum P Q other → other ≡ both a b
sum_same P Q a b other f g (c, d, r, s, is) = is ∙ (λ j. both (f c r j) (g d s j))

sum_only : (P Q : Cost → Type 0) → Only P → Only Q → Only (IsSum P Q)
sum_only P Q (a, p, f) (b, q, g) = (both a b, (a, b, p, q, refl), λ other sum. sum_same P Q a b other f g sum)

pub one_bound : EachWalkIsListed → ListsAreOne → EachTreeHasOneBound
one_bound each alone store times (InstantsOf one) h = known nothing
one_bound each alone store times (SelectOf series moment stamped) h = known (leaf_bound lookback store series moment times)
one_bound each alone store times (SeriesOf series f moment range scalar) h =
    let leaf = leaf_bound range.0 store series moment times in
    sum_only (IsBound store times scalar) (λ most. most ≡ leaf) (one_bound each alone store times scalar h) (known leaf)
one_bound each alone store times (UnaryOf one rows) h = one_bound each alone store times rows h
one_bound each alone store times (BinaryOf one rows beside) h = sum_only (IsBound store times rows) (IsBound store times beside) (one_bound each alone store times rows h.0) (one_bound each alone store times beside h.1)
one_bound each alone store times (ClampOf one rows low high) h =
    sum_only (IsBound store times rows) (IsSum (IsBound store times low) (IsBound store times high)) (one_bound each alone store times rows h.0)
    (sum_only (IsBound store times low) (IsBound store times high) (one_bound each alone store times low h.1) (one_bound each alone store times high h.2))
one_bound each alone store times (PointsOf f walk moment range step inner scalar) h =
    let listed = each walk h.0 in
    let sum = sum_only (IsBound store times scalar) (IsBound store listed.0 inner) (one_bound each alone store times scalar h.2) (one_bound each alone store listed.0 inner h.1) in (
      sum.0,
      (listed.0, listed.1, sum.1),
      λ other is. sum.2 other (subst (λ (ts : List Ms). IsSum (IsBound store times scalar) (IsBound store ts inner) other) (alone walk is.0 listed.0 is.1 listed.1) is.2),
    )
one_bound each alone store times (OnceOf first child) h = one_bound each alone store (once_at first times) child h
one_bound each alone store times (GatherOf place) h = known nothing
one_bound each alone store times (WindowsOf place f moment range rules scalar) h = one_bound each alone store times scalar h
