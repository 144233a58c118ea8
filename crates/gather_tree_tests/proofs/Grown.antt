-- Trees over gathers, and walks near the time 0.
use Rattle.std.proofs.Common.{◌≡◌, ◌∙◌, ℕ, zero, suc, ◌+◌, ◌<◌, ◌≤◌, ◌^◌, List, [], ◌∷◌, ◌++◌, length, get_or, refl, sym, ap, subst, arith}
use Rattle.std.specs.Prelude.{ℤ, pos, ◌-ℤ◌, Option, Contains}
use Rattle.std.proofs.lemmas.Int.{ints}
use Rattle.exchange.specs.Exchanging.{Exchanging}
use Rattle.exchange.specs.declared.place.Place.{Place}
use Rattle.op_labels.specs.Rules.{Kept}
use Rattle.plan_tree.specs.Asking.{HaveRequests}
use Rattle.plan_tree.specs.Nodes.{CanGo, shape_of}
use Rattle.plan_tree.specs.Shapes.{AreDistinct, IsFit, Shape, StaysInTimes, places_of}
use Rattle.plan_tree.specs.Worlds.{World}
use Rattle.plan_tree.specs.declared.node.Node.{Node}
use Rattle.plan_tree.specs.declared.node.Node.TheVariants as node
use Rattle.plan_tree.specs.declared.turns.Fed.{Fed}
use Rattle.sample_store.specs.Samples.{AllSeries}
use Rattle.ticks.specs.Listed.{IsListed}
use Rattle.ticks.specs.Near.{AreNear, GridsAreNear, IsNear, SubqueriesStayNear}
use Rattle.ticks.specs.Walks.{IsTime}
use Rattle.ticks.specs.declared.grid.Grid.{Grid as Instants}
use Rattle.ticks.specs.declared.moment.Ms.{Ms}
use Rattle.ticks.specs.declared.walk.Walk.{Walk, Fixed, Grid}
use Rattle.ticks.specs.declared.walk.Walk.TheVariants.{Multiples}
use Rattle.gather_tree_tests.specs.Fitting.{AreFitting, IsNearby}
use Rattle.gather_tree_tests.specs.Growing.{at_once, reach, stride}
use Rattle.gather_tree_tests.proofs.Requests.{has_request}

-- ---- walks

farther : (bound far : ℕ) (t : ℤ) → bound ≤ far → IsNear bound t → IsNear far t
farther bound far t w n =
    let low = n.low in
    let high = n.high in
    record { low = omega (arith, ints, low, w); high = omega (arith, ints, high, w) }

pub grid_nearby : GridsAreNear → (g : Instants) → IsNearby (Grid g)
grid_nearby grids g = record { leads = tt; near = λ t on. farther (10 ^ 14) (10 ^ 15) t (omega arith) (grids g t on) }

pub grid_time : (g : Instants) (t : ℤ) → IsNear (10 ^ 15) t → IsTime t
grid_time g t n =
    let low = n.low in
    let high = n.high in
    record { low = omega (arith, ints, low, high); high = omega (arith, ints, low, high) }

pub inner_nearby : GridsAreNear → SubqueriesStayNear → (g : Instants) → IsNearby (Multiples (Grid g) at_once reach stride)
inner_nearby grids subqueries g =
    let n = subqueries (Grid g) at_once reach stride (10 ^ 14) 20 (omega arith) tt (λ o on. moment_near o (grids g o on)) (omega (arith, ints)) (omega (arith, ints)) (omega (arith, ints)) in
    record { leads = n.0; near = λ t on. farther (10 ^ 14 + 20) (10 ^ 15) t (omega arith) (n.1 t on) }
  where
    moment_near : (o : ℤ) → IsNear (10 ^ 14) o → IsNear (10 ^ 14) (o -ℤ pos 0)
    moment_near o n =
        let low = n.low in
        let high = n.high in
        record { low = omega (arith, ints, low); high = omega (arith, ints, high) }

pub fixed_nearby : IsNearby (Fixed (record { 0 = pos 10 }))
fixed_nearby = record {
  leads = record { low = omega (arith, ints); high = omega (arith, ints) };
  near = λ t is. record { low = omega (arith, ints, is); high = omega (arith, ints, is) };
}

alone_at : (t u : Ms) (k : ℕ) → k < length (t ∷ []) → get_or (t ∷ []) k u ≡ u → u.0 ≡ t.0
alone_at t u zero less e = sym (ap (λ (z : Ms). z.0) e)
alone_at t u (suc k) less e = absurd (omega (arith, less))

pub fixed_listed : (t : Ms) → IsListed (Fixed t) (t ∷ [])
fixed_listed t = record { rising = (tt, tt); instants = λ u. (λ h. alone_at t u h.0 h.1 h.2, λ is. (0, omega arith, λ j. record { 0 = sym is j })) }

-- ---- a gather as a leaf

pub leaf_asked : (walk : Walk) (x : Exchanging) (times : List Ms) (n : Node) (k : ℕ) → n ≡ node.Gather k → k < length x.requests → AreFitting walk x → IsListed walk times → HaveRequests x.requests times n
leaf_asked walk x times n k is w f listed = subst (λ (m : Node). HaveRequests x.requests times m) (sym is) (has_request walk x times k w f listed)

pub leaf_goes : (w : World) (kept : Kept) (places : List Place) (fed : Option Fed) (n : Node) (k : ℕ) → n ≡ node.Gather k → CanGo w kept places fed n
leaf_goes w kept places fed n k is = subst (λ (m : Node). CanGo w kept places fed m) (sym is) tt

pub leaf_fits : (store : AllSeries) (n : Node) (k : ℕ) → n ≡ node.Gather k → IsFit store (shape_of n)
leaf_fits store n k is = subst (λ (m : Node). IsFit store (shape_of m)) (sym is) tt

pub leaf_stays : (t : ℤ) (n : Node) (k : ℕ) → n ≡ node.Gather k → StaysInTimes (shape_of n) t
leaf_stays t n k is = subst (λ (m : Node). StaysInTimes (shape_of m) t) (sym is) tt

leaf_place : (n : Node) (k : ℕ) → n ≡ node.Gather k → places_of (shape_of n) ≡ k ∷ []
leaf_place n k is = ap (λ (m : Node). places_of (shape_of m)) is

-- ---- places

none_inside : (k : ℕ) → Contains [] k → ⊥
none_inside k h = let w = h.1 in omega (arith, w)

alone_is : (j k : ℕ) → Contains (j ∷ []) k → j ≡ k
alone_is j k h = at h.0 h.1 h.2
  where
    at : (i : ℕ) → i < length (j ∷ []) → get_or (j ∷ []) i k ≡ k → j ≡ k
    at zero w e = e
    at (suc i) w e = absurd (omega (arith, w))

pub one_apart : (n : Node) (k : ℕ) → n ≡ node.Gather k → AreDistinct (places_of (shape_of n))
one_apart n k is = subst AreDistinct (sym (leaf_place n k is)) (none_inside k, tt)

pub two_apart : (m n : Node) (j k : ℕ) → m ≡ node.Gather j → n ≡ node.Gather k → j < k → AreDistinct (places_of (shape_of m) ++ places_of (shape_of n))
two_apart m n j k is also w =
    let both : places_of (shape_of m) ++ places_of (shape_of n) ≡ j ∷ k ∷ [] = λ i. leaf_place m j is i ++ leaf_place n k also i in
    subst AreDistinct (sym both) (λ h. (let same = alone_is k j h in omega (arith, same, w)), (none_inside k, tt))
