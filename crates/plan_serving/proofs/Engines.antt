-- What kernels serve without engines they serve over engines too.
use Rattle.std.proofs.Common.{ℕ, List, [], ◌∷◌, map, sym, subst, true, false}
use Rattle.promql_type.specs.Replacements.{Kept}
use Rattle.logical_plan.specs.declared.nodes.Plan.{Plan}
use Rattle.logical_plan.specs.declared.nodes.PlanNode.{PlanNode}
use Rattle.logical_plan.specs.declared.nodes.PlanNode.TheOpen.{PlanNode-F}
use Rattle.logical_plan.specs.declared.nodes.PlanNode.TheViews.{roll-PlanNode, roll-Plan}
use Rattle.logical_plan.specs.declared.nodes.PlanNode.TheFolds.{map-PlanNode, fold-PlanNode, fold-roll-PlanNode, fold-roll-Plan, ind-Plan}
use Rattle.plan_serving.specs.Serving.{Serving, node_serving, node_serving_over, serving, serving_over}
use Rattle.plan_serving.specs.ServingLaws.{ServedPlansAreServedOver}
use Rattle.plan_serving.specs.Stays.{AllStay, Stays, filter_stays, over_stays, plain_stays, relabel_stays, stays_itself, window_stays}

abbrev before_in : PlanNode → Serving
before_in = fold-PlanNode Serving Serving node_serving (λ p. p.node)

abbrev after_in : PlanNode → Serving
after_in = fold-PlanNode Serving Serving node_serving_over (λ p. p.node)

module _ (kept : Kept) where
  abbrev IsFine : Plan → Type 0
  IsFine p = Stays kept (serving p) (serving_over p)

  abbrev IsFineNode : PlanNode → Type 0
  IsFineNode n = Stays kept (before_in n) (after_in n)

  abbrev Part : Type 0
  Part = (p : Plan) × IsFine p

  abbrev Layer : Type 0
  Layer = PlanNode-F ((n : PlanNode) × IsFineNode n) Part

  abbrev plans : Layer → PlanNode-F PlanNode Plan
  plans = map-PlanNode ((n : PlanNode) × IsFineNode n) Part PlanNode Plan (λ n. n.0) (λ p. p.0)

  abbrev before : Layer → PlanNode-F Serving Serving
  before y = map-PlanNode PlanNode Plan Serving Serving before_in serving (plans y)

  abbrev after : Layer → PlanNode-F Serving Serving
  after y = map-PlanNode PlanNode Plan Serving Serving after_in serving_over (plans y)

  abbrev befores : List Part → List Serving
  befores ps = map serving (map (λ (p : Part). p.0) ps)

  abbrev afters : List Part → List Serving
  afters ps = map serving_over (map (λ (p : Part). p.0) ps)

  all_stay : (ps : List Part) → AllStay kept (befores ps) (afters ps)
  all_stay [] = tt
  all_stay (p ∷ ps) = (p.1, all_stay ps)

  two_stay : (p q : Part) → AllStay kept (serving p.0 ∷ serving q.0 ∷ []) (serving_over p.0 ∷ serving_over q.0 ∷ [])
  two_stay p q = (p.1, (q.1, tt))

  level : (y : Layer) → Stays kept (node_serving (before y)) (node_serving_over (after y))
  level (PlanNode-F.Number value) = stays_itself kept _
  level PlanNode-F.Time = stays_itself kept _
  level (PlanNode-F.Select rules moment stamped) = stays_itself kept _
  level (PlanNode-F.Range rules moment range) = stays_itself kept _
  level (PlanNode-F.Subquery p range step moment) = over_stays kept false true true false true true [] [] (serving p.0 ∷ []) (serving_over p.0 ∷ []) (λ e. e) (λ e. e) (λ e. e) (p.1, tt)
  level (PlanNode-F.Element f p ps) = plain_stays kept (serving p.0 ∷ befores ps) (serving_over p.0 ∷ afters ps) (p.1, all_stay ps)
  level (PlanNode-F.Stamp p) = plain_stays kept (serving p.0 ∷ []) (serving_over p.0 ∷ []) (p.1, tt)
  level (PlanNode-F.Window f p ps) = window_stays kept (serving p.0) (serving_over p.0) (befores ps) (afters ps) p.1 (all_stay ps)
  level (PlanNode-F.Absent labels p) = plain_stays kept (serving p.0 ∷ []) (serving_over p.0 ∷ []) (p.1, tt)
  level (PlanNode-F.Buckets p q) = plain_stays kept (serving p.0 ∷ serving q.0 ∷ []) (serving_over p.0 ∷ serving_over q.0 ∷ []) (two_stay p q)
  level (PlanNode-F.Relabel rule p) = relabel_stays kept rule (serving p.0) (serving_over p.0) p.1
  level (PlanNode-F.Sort down p) = plain_stays kept (serving p.0 ∷ []) (serving_over p.0 ∷ []) (p.1, tt)
  level (PlanNode-F.ScalarOf p) = plain_stays kept (serving p.0 ∷ []) (serving_over p.0 ∷ []) (p.1, tt)
  level (PlanNode-F.VectorOf p) = plain_stays kept (serving p.0 ∷ []) (serving_over p.0 ∷ []) (p.1, tt)
  level (PlanNode-F.Group f by ps label) = plain_stays kept (befores ps) (afters ps) (all_stay ps)
  level (PlanNode-F.Pair op p q pairing) = plain_stays kept (serving p.0 ∷ serving q.0 ∷ []) (serving_over p.0 ∷ serving_over q.0 ∷ []) (two_stay p q)
  level (PlanNode-F.Set op p q pairing) = plain_stays kept (serving p.0 ∷ serving q.0 ∷ []) (serving_over p.0 ∷ serving_over q.0 ∷ []) (two_stay p q)
  level (PlanNode-F.Filter p rules) = filter_stays kept rules (serving p.0) (serving_over p.0) p.1
  level (PlanNode-F.Ratio p q) = plain_stays kept (serving p.0 ∷ serving q.0 ∷ []) (serving_over p.0 ∷ serving_over q.0 ∷ []) (two_stay p q)
  level (PlanNode-F.Once p) = plain_stays kept (serving p.0 ∷ []) (serving_over p.0 ∷ []) (p.1, tt)
  -- no part is served without engines
  level (PlanNode-F.Gather expr kind engines) = record { ranges = λ e. e; points = λ e. e; served = λ e. absurd (cc); rules = λ h. h; patterns = λ h. h }

  node_fine : (y : Layer) → IsFineNode (roll-PlanNode (plans y))
  node_fine y =
      let n = roll-PlanNode (plans y) in
      subst (λ (s : Serving). Stays kept s (after_in n)) (sym (fold-roll-PlanNode Serving Serving node_serving (λ p. p.node) (plans y)))
      (subst (λ (s : Serving). Stays kept (node_serving (before y)) s) (sym (fold-roll-PlanNode Serving Serving node_serving_over (λ p. p.node) (plans y))) (level y))

  plan_fine : (at : ℕ) (n : PlanNode) → IsFineNode n → IsFine (roll-Plan (record { at = at; node = n }))
  plan_fine at n fine =
      let p = roll-Plan (record { at = at; node = n }) in
      subst (λ (s : Serving). Stays kept s (serving_over p)) (sym (fold-roll-Plan Serving Serving node_serving (λ p. p.node) (record { at = at; node = n })))
      (subst (λ (s : Serving). Stays kept (before_in n) s) (sym (fold-roll-Plan Serving Serving node_serving_over (λ p. p.node) (record { at = at; node = n }))) fine)

  every : (p : Plan) → IsFine p
  every = ind-Plan IsFineNode IsFine
      (λ x y is. subst (λ z. IsFineNode (roll-PlanNode z)) is (node_fine y))
      (λ x y is. subst (λ z. IsFine (roll-Plan z)) is (plan_fine y.at y.node.0 y.node.1))

pub served_over : ServedPlansAreServedOver
served_over kept p is =
    let s = every kept p in
    record { windows = s.served is.windows; rules = s.rules is.rules; patterns = s.patterns is.patterns }
