-- A plan in which no selector is left reads no samples of the store.
use Rattle.std.proofs.Common.{◌≡◌, ◌∙◌, ℕ, List, [], ◌∷◌, map, ap, ap₂, sym, refl, subst, Bool, true}
use Rattle.std.specs.Prelude.{◌&&◌}
use Rattle.label_set.specs.declared.rules.Relabel.{Relabel as Relabelling}
use Rattle.label_set.specs.declared.rules.Relabel.TheVariants as relabel
use Rattle.promql_meaning.specs.Selecting.{AllSeries, Asked}
use Rattle.promql_meaning.specs.Steadiness.{all_hold}
use Rattle.logical_plan.specs.PlanMeaning.{Meant, node_meant, plan_meant}
use Rattle.logical_plan.specs.declared.nodes.Plan.{Plan}
use Rattle.logical_plan.specs.declared.nodes.PlanNode.{PlanNode}
use Rattle.logical_plan.specs.declared.nodes.PlanNode.TheOpen.{PlanNode-F}
use Rattle.logical_plan.specs.declared.nodes.PlanNode.TheViews.{roll-PlanNode, roll-Plan}
use Rattle.logical_plan.specs.declared.nodes.PlanNode.TheFolds.{map-PlanNode, fold-PlanNode, fold-roll-PlanNode, fold-roll-Plan, ind-Plan}
use Rattle.opt_remote.specs.Laws.{StoresAreNotRead, over_store}
use Rattle.opt_remote.specs.Parts.{is_gathered, node_gathered}
use Rattle.opt_remote.proofs.Ands.{left, right}

abbrev gathered_in : PlanNode → Bool
gathered_in = fold-PlanNode Bool Bool node_gathered (λ p. p.node)

abbrev meant_in : Asked → PlanNode → Meant
meant_in asked = fold-PlanNode Meant Meant (node_meant asked) (λ p. p.node)

module _ (asked : Asked) (samples : AllSeries) where
  abbrev other : Asked
  other = over_store asked samples

  -- what a plan gives, and what it gives over the other samples
  abbrev M : Plan → Meant
  M = plan_meant asked

  abbrev O : Plan → Meant
  O = plan_meant other

  abbrev IsSame : Plan → Type 0
  IsSame p = is_gathered p ≡ true → O p ≡ M p

  abbrev IsSameNode : PlanNode → Type 0
  IsSameNode n = gathered_in n ≡ true → meant_in other n ≡ meant_in asked n

  abbrev Known : Type 0
  Known = (p : Plan) × IsSame p

  abbrev Layer : Type 0
  Layer = PlanNode-F ((n : PlanNode) × IsSameNode n) Known

  abbrev plans : Layer → PlanNode-F PlanNode Plan
  plans = map-PlanNode ((n : PlanNode) × IsSameNode n) Known PlanNode Plan (λ n. n.0) (λ p. p.0)

  abbrev gathered : Layer → PlanNode-F Bool Bool
  gathered y = map-PlanNode PlanNode Plan Bool Bool gathered_in is_gathered (plans y)

  abbrev given : Layer → PlanNode-F Meant Meant
  given y = map-PlanNode PlanNode Plan Meant Meant (meant_in asked) M (plans y)

  abbrev given_other : Layer → PlanNode-F Meant Meant
  given_other y = map-PlanNode PlanNode Plan Meant Meant (meant_in other) O (plans y)

  abbrev plans_in : List Known → List Plan
  plans_in ps = map (λ (p : Known). p.0) ps

  -- ---- children

  all_same : (ps : List Known) → all_hold (map is_gathered (plans_in ps)) ≡ true → map O (plans_in ps) ≡ map M (plans_in ps)
  all_same [] e = refl
  all_same (p ∷ ps) e =
      ap₂ (λ (m : Meant) (ms : List Meant). m ∷ ms) (p.1 (left (is_gathered p.0) (all_hold (map is_gathered (plans_in ps))) e))
      (all_same ps (right (is_gathered p.0) (all_hold (map is_gathered (plans_in ps))) e))

  one_same : (p : Known) → (is_gathered p.0 && true) ≡ true → O p.0 ≡ M p.0
  one_same p e = p.1 (left (is_gathered p.0) true e)

  -- a node over one, over two, and over one and some more
  over_one : (of : Meant → Meant) (p : Known) → (is_gathered p.0 && true) ≡ true → of (O p.0) ≡ of (M p.0)
  over_one of p e = ap of (one_same p e)

  over_two : (of : Meant → Meant → Meant) (p q : Known) → (is_gathered p.0 && (is_gathered q.0 && true)) ≡ true → of (O p.0) (O q.0) ≡ of (M p.0) (M q.0)
  over_two of p q e =
      ap₂ of (p.1 (left (is_gathered p.0) (is_gathered q.0 && true) e)) (one_same q (right (is_gathered p.0) (is_gathered q.0 && true) e))

  over_more : (of : Meant → List Meant → Meant) (p : Known) (ps : List Known) → (is_gathered p.0 && all_hold (map is_gathered (plans_in ps))) ≡ true
      → of (O p.0) (map O (plans_in ps)) ≡ of (M p.0) (map M (plans_in ps))
  over_more of p ps e =
      ap₂ of (p.1 (left (is_gathered p.0) (all_hold (map is_gathered (plans_in ps))) e)) (all_same ps (right (is_gathered p.0) (all_hold (map is_gathered (plans_in ps))) e))

  -- ---- nodes

  relabelled : (rule : Relabelling) (p : Known) → (is_gathered p.0 && true) ≡ true → node_meant other (PlanNode-F.Relabel rule (O p.0)) ≡ node_meant asked (PlanNode-F.Relabel rule (M p.0))
  relabelled (relabel.Replace target template source pattern) p e = over_one (λ m. node_meant asked (PlanNode-F.Relabel (relabel.Replace target template source pattern) m)) p e
  relabelled (relabel.Join target separator sources) p e = over_one (λ m. node_meant asked (PlanNode-F.Relabel (relabel.Join target separator sources) m)) p e
  relabelled (relabel.Filter rules) p e = over_one (λ m. node_meant asked (PlanNode-F.Relabel (relabel.Filter rules) m)) p e

  level : (y : Layer) → node_gathered (gathered y) ≡ true → node_meant other (given_other y) ≡ node_meant asked (given y)
  level (PlanNode-F.Number value) e = refl
  level PlanNode-F.Time e = refl
  level (PlanNode-F.Select rules moment stamped) e = absurd (cc)
  level (PlanNode-F.Range rules moment range) e = absurd (cc)
  level (PlanNode-F.Subquery p range step moment) e = over_one (λ m. node_meant asked (PlanNode-F.Subquery m range step moment)) p e
  level (PlanNode-F.Element f p ps) e = over_more (λ m ms. node_meant asked (PlanNode-F.Element f m ms)) p ps e
  level (PlanNode-F.Stamp p) e = over_one (λ m. node_meant asked (PlanNode-F.Stamp m)) p e
  level (PlanNode-F.Window f p ps) e = over_more (λ m ms. node_meant asked (PlanNode-F.Window f m ms)) p ps e
  level (PlanNode-F.Absent labels p) e = over_one (λ m. node_meant asked (PlanNode-F.Absent labels m)) p e
  level (PlanNode-F.Buckets p q) e = over_two (λ m n. node_meant asked (PlanNode-F.Buckets m n)) p q e
  level (PlanNode-F.Relabel rule p) e = relabelled rule p e
  level (PlanNode-F.Sort down p) e = over_one (λ m. node_meant asked (PlanNode-F.Sort down m)) p e
  level (PlanNode-F.ScalarOf p) e = over_one (λ m. node_meant asked (PlanNode-F.ScalarOf m)) p e
  level (PlanNode-F.VectorOf p) e = over_one (λ m. node_meant asked (PlanNode-F.VectorOf m)) p e
  level (PlanNode-F.Group f grouping ps label) e = ap (λ (ms : List Meant). node_meant asked (PlanNode-F.Group f grouping ms label)) (all_same ps e)
  level (PlanNode-F.Pair op p q pairing) e = over_two (λ m n. node_meant asked (PlanNode-F.Pair op m n pairing)) p q e
  level (PlanNode-F.Set op p q pairing) e = over_two (λ m n. node_meant asked (PlanNode-F.Set op m n pairing)) p q e
  level (PlanNode-F.Filter p rules) e = over_one (λ m. node_meant asked (PlanNode-F.Filter m rules)) p e
  level (PlanNode-F.Ratio p q) e = over_two (λ m n. node_meant asked (PlanNode-F.Ratio m n)) p q e
  level (PlanNode-F.Once p) e = one_same p e
  level (PlanNode-F.Gather expr kind numbers) e = refl

  -- ---- plans

  node_same : (y : Layer) → IsSameNode (roll-PlanNode (plans y))
  node_same y e =
      fold-roll-PlanNode Meant Meant (node_meant other) (λ p. p.node) (plans y)
      ∙ level y (sym (fold-roll-PlanNode Bool Bool node_gathered (λ p. p.node) (plans y)) ∙ e)
      ∙ sym (fold-roll-PlanNode Meant Meant (node_meant asked) (λ p. p.node) (plans y))

  plan_same : (at : ℕ) (n : PlanNode) → IsSameNode n → IsSame (roll-Plan (record { at = at; node = n }))
  plan_same at n same e =
      fold-roll-Plan Meant Meant (node_meant other) (λ p. p.node) (record { at = at; node = n })
      ∙ same (sym (fold-roll-Plan Bool Bool node_gathered (λ p. p.node) (record { at = at; node = n })) ∙ e)
      ∙ sym (fold-roll-Plan Meant Meant (node_meant asked) (λ p. p.node) (record { at = at; node = n }))

  every : (p : Plan) → IsSame p
  every = ind-Plan IsSameNode IsSame
      (λ x y is. subst (λ z. IsSameNode (roll-PlanNode z)) is (node_same y))
      (λ x y is. subst (λ z. IsSame (roll-Plan z)) is (plan_same y.at y.node.0 y.node.1))

-- ---- the law

pub stores_not_read : StoresAreNotRead
stores_not_read asked samples p t e = ap (λ (m : Meant). m.gives t) (every asked samples p e)
