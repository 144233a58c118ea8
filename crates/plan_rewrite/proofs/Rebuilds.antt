-- A plan whose nodes are changed, each into one that means the same, means the same.
use Rattle.std.proofs.Common.{◌≡◌, ◌∙◌, ℕ, List, [], ◌∷◌, map, ap, ap₂, sym, refl, subst}
use Rattle.promql_meaning.specs.Selecting.{Asked}
use Rattle.logical_plan.specs.declared.nodes.Plan.{Plan}
use Rattle.logical_plan.specs.declared.nodes.PlanNode.{PlanNode}
use Rattle.logical_plan.specs.declared.nodes.PlanNode.TheOpen.{PlanNode-F}
use Rattle.logical_plan.specs.declared.nodes.PlanNode.TheViews.{out-PlanNode, roll-PlanNode, roll-Plan, roll-out-PlanNode}
use Rattle.logical_plan.specs.declared.nodes.PlanNode.TheFolds.{fold-PlanNode, fold-roll-PlanNode, fold-roll-Plan, ind-Plan, map-PlanNode}
use Rattle.logical_plan.specs.PlanMeaning.{Meant, node_meant, plan_meant}
use Rattle.plan_rewrite.specs.Rebuilding.{Change, KeepsMeaning, changed, node_of, rebuilt}

module _ (asked : Asked) (change : Change) where
  abbrev M : Plan → Meant
  M = plan_meant asked

  abbrev again : Plan → Plan
  again = rebuilt change

  abbrev node_again : PlanNode → PlanNode
  node_again = fold-PlanNode PlanNode Plan roll-PlanNode (changed change)

  abbrev IsKept : Plan → Type 0
  IsKept p = M (again p) ≡ M p

  abbrev IsKeptNode : PlanNode → Type 0
  IsKeptNode n = node_of asked (node_again n) ≡ node_of asked n

  abbrev Kept : Type 0
  Kept = (p : Plan) × IsKept p

  abbrev Layer : Type 0
  Layer = PlanNode-F ((n : PlanNode) × IsKeptNode n) Kept

  abbrev bare : Layer → PlanNode-F PlanNode Plan
  bare = map-PlanNode ((n : PlanNode) × IsKeptNode n) Kept PlanNode Plan (λ e. e.0) (λ e. e.0)

  all_kept : (items : List Kept) → map M (map again (map (λ e. e.0) items)) ≡ map M (map (λ e. e.0) items)
  all_kept [] = refl
  all_kept (e ∷ es) = ap₂ (λ x xs. x ∷ xs) e.1 (all_kept es)

  level : (y : Layer)
      → node_meant asked (map-PlanNode PlanNode Plan Meant Meant (node_of asked) M (map-PlanNode PlanNode Plan PlanNode Plan node_again again (bare y)))
      ≡ node_meant asked (map-PlanNode PlanNode Plan Meant Meant (node_of asked) M (bare y))
  level (PlanNode-F.Number value) = refl
  level PlanNode-F.Time = refl
  level (PlanNode-F.Select rules moment stamped) = refl
  level (PlanNode-F.Range rules moment range) = refl
  level (PlanNode-F.Subquery inner range step moment) = ap (λ x. node_meant asked (PlanNode-F.Subquery x range step moment)) inner.1
  level (PlanNode-F.Element f inner arguments) = ap₂ (λ x y. node_meant asked (PlanNode-F.Element f x y)) inner.1 (all_kept arguments)
  level (PlanNode-F.Stamp inner) = ap (λ x. node_meant asked (PlanNode-F.Stamp x)) inner.1
  level (PlanNode-F.Window f inner arguments) = ap₂ (λ x y. node_meant asked (PlanNode-F.Window f x y)) inner.1 (all_kept arguments)
  level (PlanNode-F.Absent labels inner) = ap (λ x. node_meant asked (PlanNode-F.Absent labels x)) inner.1
  level (PlanNode-F.Buckets quantile inner) = ap₂ (λ x y. node_meant asked (PlanNode-F.Buckets x y)) quantile.1 inner.1
  level (PlanNode-F.Relabel rule inner) = ap (λ x. node_meant asked (PlanNode-F.Relabel rule x)) inner.1
  level (PlanNode-F.Sort down inner) = ap (λ x. node_meant asked (PlanNode-F.Sort down x)) inner.1
  level (PlanNode-F.ScalarOf inner) = ap (λ x. node_meant asked (PlanNode-F.ScalarOf x)) inner.1
  level (PlanNode-F.VectorOf inner) = ap (λ x. node_meant asked (PlanNode-F.VectorOf x)) inner.1
  level (PlanNode-F.Group f by arguments label) = ap (λ x. node_meant asked (PlanNode-F.Group f by x label)) (all_kept arguments)
  level (PlanNode-F.Pair op left right pairing) = ap₂ (λ x y. node_meant asked (PlanNode-F.Pair op x y pairing)) left.1 right.1
  level (PlanNode-F.Set op left right pairing) = ap₂ (λ x y. node_meant asked (PlanNode-F.Set op x y pairing)) left.1 right.1
  level (PlanNode-F.Filter base rules) = ap (λ x. node_meant asked (PlanNode-F.Filter x rules)) base.1
  level (PlanNode-F.Ratio sum count) = ap₂ (λ x y. node_meant asked (PlanNode-F.Ratio x y)) sum.1 count.1
  level (PlanNode-F.Once inner) = ap (λ x. node_meant asked (PlanNode-F.Once x)) inner.1
  level (PlanNode-F.Gather expr kind engines) = refl

  node_kept : (y : Layer) → IsKeptNode (roll-PlanNode (bare y))
  node_kept y =
      ap (node_of asked) (fold-roll-PlanNode PlanNode Plan roll-PlanNode (changed change) (bare y))
      ∙ fold-roll-PlanNode Meant Meant (node_meant asked) (λ p. p.node) (map-PlanNode PlanNode Plan PlanNode Plan node_again again (bare y))
      ∙ level y ∙ sym (fold-roll-PlanNode Meant Meant (node_meant asked) (λ p. p.node) (bare y))

  module _ (keeps : KeepsMeaning asked change) where
    plan_kept : (at : ℕ) (n : PlanNode) → IsKeptNode n → IsKept (roll-Plan (record { at = at; node = n }))
    plan_kept at n kept =
        ap M (fold-roll-Plan PlanNode Plan roll-PlanNode (changed change) (record { at = at; node = n }))
        ∙ fold-roll-Plan Meant Meant (node_meant asked) (λ p. p.node) (record { at = at; node = change at (out-PlanNode (node_again n)) })
        ∙ keeps at (out-PlanNode (node_again n)) ∙ ap (node_of asked) (roll-out-PlanNode (node_again n)) ∙ kept ∙ sym (fold-roll-Plan Meant Meant (node_meant asked) (λ p. p.node) (record { at = at; node = n }))

    every : (p : Plan) → IsKept p
    every = ind-Plan IsKeptNode IsKept
        (λ x y is. subst (λ z. IsKeptNode (roll-PlanNode z)) is (node_kept y))
        (λ x y is. subst (λ z. IsKept (roll-Plan z)) is (plan_kept y.at y.node.0 y.node.1))

pub rebuilt_keeps : (asked : Asked) (change : Change) (p : Plan) → KeepsMeaning asked change → plan_meant asked (rebuilt change p) ≡ plan_meant asked p
rebuilt_keeps asked change p keeps = every asked change keeps p
