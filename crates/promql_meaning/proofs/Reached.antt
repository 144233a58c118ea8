-- What a tree needs, from what its parts are.
use Rattle.std.proofs.Common.{ℕ, zero, suc, ◌+◌, ◌*◌, ◌≤◌, List, [], ◌∷◌, ◌++◌, map, sym, subst, arith}
use Rattle.std.specs.Prelude.{◌^◌, Bool, max, ℤ, pos, negsuc, neg_ℤ, ◌-ℤ◌, ◌<ℤ◌, ◌≤ℤ◌, Option, None, Some}
use Rattle.std.specs.List.{AllByRecursion}
use Rattle.std.proofs.lemmas.Int.{ints}
use Rattle.holders.specs.Joins.{back_of, both_of, front_of}
use Rattle.match_rule.specs.Patterns.{HaveTheirPatterns}
use Rattle.promql_ast.specs.Depth.{depth, greatest, node_depth}
use Rattle.promql_ast.specs.declared.tree.Expr.{Expr}
use Rattle.promql_ast.specs.declared.tree.Fixed.{Fixed}
use Rattle.promql_ast.specs.declared.tree.Fixed.TheVariants.{At, Start, End}
use Rattle.promql_ast.specs.declared.tree.Moment.{Moment}
use Rattle.promql_ast.specs.declared.tree.Node.{Node}
use Rattle.promql_ast.specs.declared.tree.Node.TheOpen.{Node-F}
use Rattle.promql_ast.specs.declared.tree.Node.TheViews.{roll-Node, roll-Expr}
use Rattle.promql_ast.specs.declared.tree.Node.TheFolds.{map-Node, fold-Node, fold-roll-Node, fold-roll-Expr, ind-Expr}
use Rattle.ticks.specs.Edges.{before, before-near, from-edge}
use Rattle.ticks.specs.Walks.{IsTime}
use Rattle.ticks.specs.declared.moment.Ms.{Ms}
use Rattle.promql_meaning.specs.Conditions.{AreMet, IsMet, Need, needs_at, needs_of, needs_over, node_needs}
use Rattle.promql_meaning.specs.Laws.{IsMultipleIn}
use Rattle.promql_ast.specs.Parts.{AreWithin, IsFixedWithin, IsWithin, Part, all_of as all_parts, node_parts, parts_of}
use Rattle.promql_meaning.specs.Reaches.{EndsWithin, NeedsAreMet, reach}
use Rattle.promql_meaning.specs.Selecting.{Asked, base_of, lookback, moment_of}
use Rattle.promql_meaning.specs.Subqueries.{as_times, first_multiple, multiples}
use Rattle.promql_meaning.proofs.Points.{after_is_multiple, all_up_to, first_from, rem_in}

-- ---- times

abbrev Near : ℕ → ℤ → Type 0
Near n t = (neg_ℤ (pos n) ≤ℤ t) × (t ≤ℤ pos n)

is_time : (n : ℕ) (t : ℤ) → Near n t → n ≤ 2 ^ 60 → IsTime t
is_time n t near top = record { low = omega (arith, ints, near.0, top); high = omega (arith, ints, near.1, top) }

near_less : (n m : ℕ) (t u : ℤ) → Near n t → Near m u → Near (n + m) (t -ℤ u)
near_less n m t u a b = (omega (arith, ints, a.0, a.1, b.0, b.1), omega (arith, ints, a.0, a.1, b.0, b.1))

nearer : (n m : ℕ) (t : ℤ) → n ≤ m → Near n t → Near m t
nearer n m t le a = (omega (arith, ints, a.0, le), omega (arith, ints, a.1, le))

length_near : (n : ℕ) (t : ℤ) → pos 0 <ℤ t → t ≤ℤ pos n → Near n t
length_near n t positive le = (omega (arith, ints, positive), le)

reach_some : (longest d : ℕ) → 1 ≤ d → 3 * longest ≤ reach longest d
reach_some longest zero some = absurd (omega (arith, some))
reach_some longest (suc d) some = omega arith

module _ (asked : Asked) (longest latest : ℕ) (far : 300000 ≤ longest) (ends : EndsWithin latest asked) where
  abbrev Within : List Part → Type 0
  Within = AreWithin (HaveTheirPatterns asked.kept) longest latest

  base_near : (n : ℕ) (t : ℤ) (fixed : Option Fixed) → latest ≤ n → Near n t → IsFixedWithin latest fixed → Near n (base_of asked.start asked.end t fixed)
  base_near n t None le near is = near
  base_near n t (Some (At at)) le near is = nearer latest n at.0 le is
  base_near n t (Some Start) le near is = nearer latest n asked.start le ends.start
  base_near n t (Some End) le near is = nearer latest n asked.end le ends.end

  moment_near : (n : ℕ) (t : ℤ) (moment : Moment) → latest ≤ n → Near n t → IsWithin (HaveTheirPatterns asked.kept) longest latest (Part.of_moment moment) → Near (n + longest) (moment_of asked moment t)
  moment_near n t moment le near is = near_less n longest (base_of asked.start asked.end t moment.fixed) moment.offset.0 (base_near n t moment.fixed le near is.0) is.1

  -- the needs of a tree of so many levels at an instant so near
  abbrev AreMetFor : ℕ → List Part → (ℤ → List Need) → Type 0
  AreMetFor levels parts needs =
      (n d : ℕ) (t : ℤ) → levels ≤ d → latest ≤ n → n + reach longest d ≤ 2 ^ 60 → Near n t → Within parts → AreMet asked (needs t)

  abbrev Fits : Expr → Type 0
  Fits e = AreMetFor (depth e) (parts_of e) (needs_of asked e)

  abbrev node_levels : Node → ℕ
  node_levels = fold-Node ℕ ℕ node_depth (λ e. e.node)

  abbrev parts_in : Node → List Part
  parts_in = fold-Node (List Part) (List Part) node_parts (λ e. e.node)

  abbrev needs_in : Node → ℤ → List Need
  needs_in = fold-Node (ℤ → List Need) (ℤ → List Need) (node_needs asked) (λ e. e.node)

  abbrev NodeFits : Node → Type 0
  NodeFits node = AreMetFor (node_levels node) (parts_in node) (needs_in node)

  abbrev Fitting : Type 0
  Fitting = Node-F ((n : Node) × NodeFits n) ((e : Expr) × Fits e)

  abbrev plain : Fitting → Node-F Node Expr
  plain = map-Node ((n : Node) × NodeFits n) ((e : Expr) × Fits e) Node Expr (λ n. n.0) (λ e. e.0)

  selector_met : (n d : ℕ) (t : ℤ) (moment : Moment) (range : ℤ) → 1 ≤ d → latest ≤ n → n + reach longest d ≤ 2 ^ 60 → Near n t
      → IsWithin (HaveTheirPatterns asked.kept) longest latest (Part.of_moment moment) → Near longest range
      → IsTime (moment_of asked moment t) × IsTime (moment_of asked moment t -ℤ range)
  selector_met n d t moment range some le top near is length =
      let m = moment_near n t moment le near is in
      let r = reach_some longest d some in (
        is_time (n + longest) _ m (omega (arith, top, r)),
        is_time (n + longest + longest) _ (near_less (n + longest) longest _ range m length) (omega (arith, top, r)),
      )

  near_itself : (n d : ℕ) (t : ℤ) → n + reach longest d ≤ 2 ^ 60 → Near n t → IsTime t
  near_itself n d t top near = is_time n t near (omega (arith, top))

  -- the expression of a subquery at each of its instants
  over_times : (e : Expr) (n d : ℕ) (us : List ℤ) → Fits e → depth e ≤ d → latest ≤ n → n + reach longest d ≤ 2 ^ 60 → Within (parts_of e) → AllByRecursion (Near n) us
      → AreMet asked (needs_over (needs_of asked e) (as_times us))
  over_times e n d [] fits levels le top within all = tt
  over_times e n d (u ∷ us) fits levels le top within all =
      both_of (IsMet asked.kept) (needs_of asked e u) (needs_over (needs_of asked e) (as_times us)) (fits n d u levels le top all.0 within)
      (over_times e n d us fits levels le top within all.1)

  all_times : (n : ℕ) (us : List ℤ) → n ≤ 2 ^ 60 → AllByRecursion (Near n) us → AllByRecursion IsTime us
  all_times n [] top all = tt
  all_times n (u ∷ us) top all = (is_time n u all.0 top, all_times n us top all.1)

  in_range : (n : ℕ) (closed : Bool) (edge m step : ℤ) (us : List ℤ) → Near n edge → Near n m → AllByRecursion (IsMultipleIn closed edge m step) us → AllByRecursion (Near n) us
  in_range n closed edge m step [] low high all = tt
  in_range n closed edge m step (u ∷ us) low high all =
      let b = from-edge closed edge u all.0.from_edge in
      let t = all.0.up_to in
      ((omega (arith, ints, low.0, b), omega (arith, ints, high.1, t)), in_range n closed edge m step us low high all.1)

  points_near : (n : ℕ) (closed : Bool) (m range step : ℤ) → pos 0 <ℤ step → Near n (m -ℤ range) → Near n m → AllByRecursion (Near n) (multiples closed m range step)
  points_near n closed m range (pos s) positive low high =
      let some : 1 ≤ s = omega (arith, ints, positive) in
      in_range n closed (m -ℤ range) m (pos s) (multiples closed m range (pos s)) low high
      (all_up_to closed (m -ℤ range) m s (first_multiple closed (pos s) (m -ℤ range)) some (first_from closed (m -ℤ range) s some) (after_is_multiple (before closed (m -ℤ range)) s some))
  points_near n closed m range (negsuc s) positive low high = absurd (omega (arith, ints, positive))

  first_near : (n l : ℕ) (closed : Bool) (edge step : ℤ) → pos 0 <ℤ step → step ≤ℤ pos l → Near n edge → Near (n + l) (first_multiple closed step edge)
  first_near n l closed edge (pos s) positive le near =
      let some : 1 ≤ s = omega (arith, ints, positive) in
      let b = before-near closed edge in
      let r = rem_in (before closed edge) s some in
      (omega (arith, ints, near.0, b.0, r.1), omega (arith, ints, near.1, b.1, r.0, le))
  first_near n l closed edge (negsuc s) positive le near = absurd (omega (arith, ints, positive))

  subquery_met : (e : Expr) (range step : Ms) (moment : Moment) (n d : ℕ) (t : ℤ) → Fits e → 1 + depth e ≤ d → latest ≤ n → n + reach longest d ≤ 2 ^ 60 → Near n t
      → IsWithin (HaveTheirPatterns asked.kept) longest latest (Part.of_moment moment) → IsWithin (HaveTheirPatterns asked.kept) longest latest (Part.of_length range)
      → IsWithin (HaveTheirPatterns asked.kept) longest latest (Part.of_length step) → Within (parts_of e)
      → AreMet asked (node_needs asked (Node-F.Subquery (needs_of asked e) range step moment) t)
  subquery_met e range step moment n zero t fits levels le top near is length by within = absurd (omega (arith, levels))
  subquery_met e range step moment n (suc d) t fits levels le top near is length by within =
      let m = moment_near n t moment le near is in
      let edge = near_less (n + longest) longest _ range.0 m (length_near longest range.0 length.0 length.1) in
      let further : Near (n + longest + longest) (moment_of asked moment t) = nearer (n + longest) (n + longest + longest) _ (omega arith) m in
      let points = points_near (n + longest + longest) moment.closed (moment_of asked moment t) range.0 step.0 by.0 edge further in
      let ends :
      IsTime t
      × (IsTime step.0 × (IsTime (first_multiple moment.closed step.0 (moment_of asked moment t -ℤ range.0)) × (IsTime (moment_of asked moment t) × (IsTime (moment_of asked moment t -ℤ range.0) × Unit {0})))) = (
        is_time n t near (omega (arith, top)),
        (
          is_time longest step.0 (length_near longest step.0 by.0 by.1) (omega (arith, top)),
          (
            is_time (n + longest + longest + longest) _ (first_near (n + longest + longest) longest moment.closed _ step.0 by.0 by.1 edge) (omega (arith, top)),
            (is_time (n + longest) _ m (omega (arith, top)), (is_time (n + longest + longest) _ edge (omega (arith, top)), tt)),
          ),
        ),
      ) in (
        by.0,
        (
          ends,
          (
            all_times (n + longest + longest) (multiples moment.closed (moment_of asked moment t) range.0 step.0) (omega (arith, top)) points,
            over_times e (n + longest + longest) d (multiples moment.closed (moment_of asked moment t) range.0 step.0) fits (omega (arith, levels)) (omega (arith, le)) (omega (arith, top)) within points,
          ),
        ),
      )

  abbrev Fitted : Type 0
  Fitted = (e : Expr) × Fits e

  arguments_met : (items : List Fitted) (n d : ℕ) (t : ℤ) → greatest (map depth (map (λ e. e.0) items)) ≤ d → latest ≤ n → n + reach longest d ≤ 2 ^ 60 → Near n t
      → Within (all_parts (map parts_of (map (λ e. e.0) items))) → AreMet asked (needs_at (map (needs_of asked) (map (λ e. e.0) items)) t)
  arguments_met [] n d t levels le top near within = tt
  arguments_met (item ∷ items) n d t levels le top near within =
      let own = front_of (IsWithin (HaveTheirPatterns asked.kept) longest latest) (parts_of item.0) (all_parts (map parts_of (map (λ e. e.0) items))) within in
      let others = back_of (IsWithin (HaveTheirPatterns asked.kept) longest latest) (parts_of item.0) (all_parts (map parts_of (map (λ e. e.0) items))) within in
      both_of (IsMet asked.kept) (needs_of asked item.0 t) (needs_at (map (needs_of asked) (map (λ e. e.0) items)) t)
      (item.1 n d t (at_most_left (depth item.0) (greatest (map depth (map (λ e. e.0) items))) d levels) le top near own)
      (arguments_met items n d t (at_most_right (depth item.0) (greatest (map depth (map (λ e. e.0) items))) d levels) le top near others)
    where
      at_most_left : (a b d : ℕ) → max a b ≤ d → a ≤ d
      at_most_left a b d h = omega (arith, h)

      at_most_right : (a b d : ℕ) → max a b ≤ d → b ≤ d
      at_most_right a b d h = omega (arith, h)

  sides_met : (l r : Fitted) (n d : ℕ) (t : ℤ) → 1 + max (depth l.0) (depth r.0) ≤ d → latest ≤ n → n + reach longest d ≤ 2 ^ 60 → Near n t
      → Within (parts_of l.0 ++ parts_of r.0) → AreMet asked (needs_of asked l.0 t ++ needs_of asked r.0 t)
  sides_met l r n d t levels le top near within =
      both_of (IsMet asked.kept) (needs_of asked l.0 t) (needs_of asked r.0 t)
      (l.1 n d t (omega (arith, levels)) le top near (front_of (IsWithin (HaveTheirPatterns asked.kept) longest latest) (parts_of l.0) (parts_of r.0) within))
      (r.1 n d t (omega (arith, levels)) le top near (back_of (IsWithin (HaveTheirPatterns asked.kept) longest latest) (parts_of l.0) (parts_of r.0) within))

  level : (y : Fitting) (n d : ℕ) (t : ℤ) → node_depth (map-Node Node Expr ℕ ℕ node_levels depth (plain y)) ≤ d → latest ≤ n → n + reach longest d ≤ 2 ^ 60 → Near n t
      → Within (node_parts (map-Node Node Expr (List Part) (List Part) parts_in parts_of (plain y)))
      → AreMet asked (node_needs asked (map-Node Node Expr (ℤ → List Need) (ℤ → List Need) needs_in (needs_of asked) (plain y)) t)
  level (Node-F.Number value) n d t levels le top near within = tt
  level (Node-F.Words text) n d t levels le top near within = tt
  level (Node-F.Paren e) n d t levels le top near within = e.1 n d t (omega (arith, levels)) le top near within
  level (Node-F.Negate e) n d t levels le top near within = e.1 n d t (omega (arith, levels)) le top near within
  level (Node-F.Select selector) n d t levels le top near within =
      let times = selector_met n d t selector.moment lookback levels le top near within.1.0 (omega (arith, ints), omega (arith, ints, far)) in
      (within.0, ((times.0, (times.1, tt)), tt))
  level (Node-F.Range selector range) n d t levels le top near within =
      let times = selector_met n d t selector.moment range.0 levels le top near within.1.0 (length_near longest range.0 within.1.1.0.0 within.1.1.0.1) in
      (within.0, ((near_itself n d t top near, (times.0, (times.1, tt))), tt))
  level (Node-F.Subquery e range step moment) n d t levels le top near within =
      subquery_met e.0 range step moment n d t e.1 levels le top near within.0 within.1.0 within.1.1.0 within.1.1.1
  level (Node-F.Call f items) n d t levels le top near within = arguments_met items n d t (omega (arith, levels)) le top near within
  level (Node-F.Aggregate f by items) n d t levels le top near within = arguments_met items n d t (omega (arith, levels)) le top near within
  level (Node-F.Pair op l r pairing) n d t levels le top near within = sides_met l r n d t levels le top near within
  level (Node-F.Set op l r pairing) n d t levels le top near within = sides_met l r n d t levels le top near within

  node_fits : (y : Fitting) → NodeFits (roll-Node (plain y))
  node_fits y n d t levels le top near within =
      subst (λ f. AreMet asked (f t)) (sym (fold-roll-Node (ℤ → List Need) (ℤ → List Need) (node_needs asked) (λ e. e.node) (plain y)))
      (level y n d t (subst (λ k. k ≤ d) (fold-roll-Node ℕ ℕ node_depth (λ e. e.node) (plain y)) levels) le top near
      (subst Within (fold-roll-Node (List Part) (List Part) node_parts (λ e. e.node) (plain y)) within))

  expr_fits : (at : ℕ) (node : Node) → NodeFits node → Fits (roll-Expr (record { at = at; node = node }))
  expr_fits at node is n d t levels le top near within =
      subst (λ f. AreMet asked (f t)) (sym (fold-roll-Expr (ℤ → List Need) (ℤ → List Need) (node_needs asked) (λ e. e.node) (record { at = at; node = node })))
      (is n d t (subst (λ k. k ≤ d) (fold-roll-Expr ℕ ℕ node_depth (λ e. e.node) (record { at = at; node = node })) levels) le top near
      (subst Within (fold-roll-Expr (List Part) (List Part) node_parts (λ e. e.node) (record { at = at; node = node })) within))

  all_fit : (e : Expr) → Fits e
  all_fit = ind-Expr NodeFits Fits
      (λ x y is. subst (λ z. NodeFits (roll-Node z)) is (node_fits y))
      (λ x y is. subst (λ z. Fits (roll-Expr z)) is (expr_fits y.at y.node.0 y.node.1))

pub needs_met : NeedsAreMet
needs_met asked e t longest latest far top ends near within = all_fit asked longest latest far ends e latest (depth e) t (omega arith) (omega arith) top near within
