-- What holds of each plan where it holds of a node whose children it holds of, and what a fold makes of such a node, for proofs. (This
-- project's own.)
use Rattle.std.proofs.Common.{◌≡◌, ◌∙◌, ℕ, List, [], ◌∷◌, map, ap, subst}
use Rattle.std.specs.List.{AllByRecursion}
use Rattle.logical_plan.specs.Lowering.{planned}
use Rattle.logical_plan.specs.Validity.{children}
use Rattle.logical_plan.specs.declared.nodes.Plan.{Plan}
use Rattle.logical_plan.specs.declared.nodes.PlanNode.{PlanNode}
use Rattle.logical_plan.specs.declared.nodes.PlanNode.TheOpen.{PlanNode-F, Plan-F}
use Rattle.logical_plan.specs.declared.nodes.PlanNode.TheViews.{roll-Plan, roll-PlanNode}
use Rattle.logical_plan.specs.declared.nodes.PlanNode.TheFolds.{fold-Plan, fold-PlanNode, fold-roll-Plan, fold-roll-PlanNode, ind-Plan, map-PlanNode}

-- ---- what a fold makes of a node over plans

module _ {A B : Type 0} (node_step : PlanNode-F A B → A) (plan_step : Plan-F A B → B) where
  -- a node with what the fold makes of each child in its place
  abbrev pub folded : PlanNode-F PlanNode Plan → PlanNode-F A B
  folded = map-PlanNode PlanNode Plan A B (fold-PlanNode A B node_step plan_step) (fold-Plan A B node_step plan_step)

  pub rolled : (at : ℕ) (y : PlanNode-F PlanNode Plan) → fold-Plan A B node_step plan_step (planned at (roll-PlanNode y)) ≡ plan_step (record { at = at; node = node_step (folded y) })
  rolled at y =
      fold-roll-Plan A B node_step plan_step (record { at = at; node = roll-PlanNode y })
      ∙ ap (λ (a : A). plan_step (record { at = at; node = a })) (fold-roll-PlanNode A B node_step plan_step y)

-- ---- plans by their nodes

module _ (P : Plan → Type 0) (node_holds : (at : ℕ) (y : PlanNode-F PlanNode Plan) → AllByRecursion P (children y) → P (planned at (roll-PlanNode y))) where
  abbrev IsNode : PlanNode → Type 0
  IsNode n = (at : ℕ) → P (planned at n)

  abbrev Held : Type 0
  Held = (p : Plan) × P p

  abbrev Layer : Type 0
  Layer = PlanNode-F ((n : PlanNode) × IsNode n) Held

  abbrev bare : Layer → PlanNode-F PlanNode Plan
  bare = map-PlanNode ((n : PlanNode) × IsNode n) Held PlanNode Plan (λ n. n.0) (λ p. p.0)

  all_held : (items : List Held) → AllByRecursion P (map (λ (p : Held). p.0) items)
  all_held [] = tt
  all_held (p ∷ ps) = (p.1, all_held ps)

  children_held : (y : Layer) → AllByRecursion P (children (bare y))
  children_held (PlanNode-F.Number value) = tt
  children_held PlanNode-F.Time = tt
  children_held (PlanNode-F.Select rules moment stamped) = tt
  children_held (PlanNode-F.Range rules moment range) = tt
  children_held (PlanNode-F.Subquery p range step moment) = (p.1, tt)
  children_held (PlanNode-F.Element f p ps) = (p.1, all_held ps)
  children_held (PlanNode-F.Stamp p) = (p.1, tt)
  children_held (PlanNode-F.Window f p ps) = (p.1, all_held ps)
  children_held (PlanNode-F.Absent labels p) = (p.1, tt)
  children_held (PlanNode-F.Buckets q p) = (q.1, (p.1, tt))
  children_held (PlanNode-F.Relabel rule p) = (p.1, tt)
  children_held (PlanNode-F.Sort down p) = (p.1, tt)
  children_held (PlanNode-F.ScalarOf p) = (p.1, tt)
  children_held (PlanNode-F.VectorOf p) = (p.1, tt)
  children_held (PlanNode-F.Group f by ps label) = all_held ps
  children_held (PlanNode-F.Pair op p q pairing) = (p.1, (q.1, tt))
  children_held (PlanNode-F.Set op p q pairing) = (p.1, (q.1, tt))
  children_held (PlanNode-F.Filter p rules) = (p.1, tt)
  children_held (PlanNode-F.Ratio p q) = (p.1, (q.1, tt))
  children_held (PlanNode-F.Once p) = (p.1, tt)
  children_held (PlanNode-F.Gather expr kind engines) = tt

  pub every : (p : Plan) → P p
  every = ind-Plan IsNode P
      (λ x y is. subst (λ z. IsNode (roll-PlanNode z)) is (λ (at : ℕ). node_holds at (bare y) (children_held y)))
      (λ x y is. subst (λ z. P (roll-Plan z)) is (y.node.1 y.at))
