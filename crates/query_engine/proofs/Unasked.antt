-- A plan that kernels serve without engines asks engines for no part.
use Rattle.std.proofs.Common.{◌≡◌, ℕ, Bool, true, false, List, [], ◌∷◌, map, refl, sym, subst}
use Rattle.std.specs.Prelude.{◌&&◌, ◌||◌}
use Rattle.holders.specs.Joins.{both_of}
use Rattle.logical_plan.specs.declared.nodes.Plan.{Plan}
use Rattle.logical_plan.specs.declared.nodes.PlanNode.{PlanNode}
use Rattle.logical_plan.specs.declared.nodes.PlanNode.TheOpen.{PlanNode-F}
use Rattle.logical_plan.specs.declared.nodes.PlanNode.TheViews.{roll-PlanNode, roll-Plan}
use Rattle.logical_plan.specs.declared.nodes.PlanNode.TheFolds.{map-PlanNode, fold-PlanNode, fold-roll-PlanNode, fold-roll-Plan, ind-Plan}
use Rattle.opt_remote.specs.Parts.{AreAskedOf, IsAskedOf, Part, all_parts, node_parts, parts_asked}
use Rattle.plan_serving.specs.Serving.{IsServed, Serving, are_served, node_serving, serving}
use Rattle.promql_type.specs.Replacements.{Kept}

left_true : (a b : Bool) → (a && b) ≡ true → a ≡ true
left_true true b e = refl
left_true false b e = e

right_true : (a b : Bool) → (a && b) ≡ true → b ≡ true
right_true true b e = e
right_true false b e = absurd (cc)

abbrev serving_in : PlanNode → Serving
serving_in = fold-PlanNode Serving Serving node_serving (λ p. p.node)

abbrev parts_in : PlanNode → List Part
parts_in = fold-PlanNode (List Part) (List Part) node_parts (λ p. p.node)

module _ (engines : List ℕ) where
  abbrev Are : List Part → Type 0
  Are parts = AreAskedOf engines parts

  abbrev IsFine : Plan → Type 0
  IsFine p = (serving p).served ≡ true → Are (parts_asked p)

  abbrev IsFineNode : PlanNode → Type 0
  IsFineNode n = (serving_in n).served ≡ true → Are (parts_in n)

  abbrev Child : Type 0
  Child = (p : Plan) × IsFine p

  abbrev Layer : Type 0
  Layer = PlanNode-F ((n : PlanNode) × IsFineNode n) Child

  abbrev plans : Layer → PlanNode-F PlanNode Plan
  plans = map-PlanNode ((n : PlanNode) × IsFineNode n) Child PlanNode Plan (λ n. n.0) (λ p. p.0)

  abbrev servings : Layer → PlanNode-F Serving Serving
  servings y = map-PlanNode PlanNode Plan Serving Serving serving_in serving (plans y)

  abbrev all_asked : Layer → PlanNode-F (List Part) (List Part)
  all_asked y = map-PlanNode PlanNode Plan (List Part) (List Part) parts_in parts_asked (plans y)

  abbrev served_of : List Child → List Serving
  served_of ps = map serving (map (λ (p : Child). p.0) ps)

  abbrev asked_of : List Child → List (List Part)
  asked_of ps = map parts_asked (map (λ (p : Child). p.0) ps)

  below : (ps : List Child) → are_served (served_of ps) ≡ true → Are (all_parts (asked_of ps))
  below [] e = tt
  below (p ∷ ps) e =
      both_of (IsAskedOf engines) (parts_asked p.0) (all_parts (asked_of ps)) (p.1 (left_true (serving p.0).served (are_served (served_of ps)) e)) (below ps (right_true (serving p.0).served (are_served (served_of ps)) e))

  kids : (own : Bool) (ps : List Child) → (own && are_served (served_of ps)) ≡ true → Are (all_parts (asked_of ps))
  kids own ps e = below ps (right_true own (are_served (served_of ps)) e)

  level : (y : Layer) → (node_serving (servings y)).served ≡ true → Are (node_parts (all_asked y))
  level (PlanNode-F.Number value) = kids true []
  level PlanNode-F.Time = kids true []
  level (PlanNode-F.Select rules moment stamped) = kids true []
  level (PlanNode-F.Range rules moment range) = kids true []
  level (PlanNode-F.Subquery p range step moment) = kids true (p ∷ [])
  level (PlanNode-F.Element f p ps) = kids true (p ∷ ps)
  level (PlanNode-F.Stamp p) = kids true (p ∷ [])
  level (PlanNode-F.Window f p ps) = kids ((serving p.0).ranges || (serving p.0).points) (p ∷ ps)
  level (PlanNode-F.Absent labels p) = kids true (p ∷ [])
  level (PlanNode-F.Buckets p q) = kids true (p ∷ q ∷ [])
  level (PlanNode-F.Relabel rule p) = kids true (p ∷ [])
  level (PlanNode-F.Sort down p) = kids true (p ∷ [])
  level (PlanNode-F.ScalarOf p) = kids true (p ∷ [])
  level (PlanNode-F.VectorOf p) = kids true (p ∷ [])
  level (PlanNode-F.Group f by ps label) = kids true ps
  level (PlanNode-F.Pair op p q pairing) = kids true (p ∷ q ∷ [])
  level (PlanNode-F.Set op p q pairing) = kids true (p ∷ q ∷ [])
  level (PlanNode-F.Filter p rules) = kids true (p ∷ [])
  level (PlanNode-F.Ratio p q) = kids true (p ∷ q ∷ [])
  level (PlanNode-F.Once p) = kids true (p ∷ [])
  level (PlanNode-F.Gather expr kind numbers) = λ e. absurd (cc)

  node_fine : (y : Layer) → IsFineNode (roll-PlanNode (plans y))
  node_fine y =
      let n = roll-PlanNode (plans y) in
      subst (λ (s : Serving). s.served ≡ true → Are (parts_in n)) (sym (fold-roll-PlanNode Serving Serving node_serving (λ p. p.node) (plans y)))
      (subst (λ (parts : List Part). (node_serving (servings y)).served ≡ true → Are parts) (sym (fold-roll-PlanNode (List Part) (List Part) node_parts (λ p. p.node) (plans y))) (level y))

  plan_fine : (at : ℕ) (n : PlanNode) → IsFineNode n → IsFine (roll-Plan (record { at = at; node = n }))
  plan_fine at n fine =
      let p = roll-Plan (record { at = at; node = n }) in
      subst (λ (s : Serving). s.served ≡ true → Are (parts_asked p)) (sym (fold-roll-Plan Serving Serving node_serving (λ p. p.node) (record { at = at; node = n })))
      (subst (λ (parts : List Part). (serving_in n).served ≡ true → Are parts) (sym (fold-roll-Plan (List Part) (List Part) node_parts (λ p. p.node) (record { at = at; node = n }))) fine)

  every : (p : Plan) → IsFine p
  every = ind-Plan IsFineNode IsFine
      (λ x y is. subst (λ z. IsFineNode (roll-PlanNode z)) is (node_fine y))
      (λ x y is. subst (λ z. IsFine (roll-Plan z)) is (plan_fine y.at y.node.0 y.node.1))

-- so each part of it, of which there is none, is one that all of some engines are asked for
pub served_asks_none : (engines : List ℕ) (kept : Kept) (p : Plan) → IsServed kept p → AreAskedOf engines (parts_asked p)
served_asks_none engines kept p served = every engines p served.windows
