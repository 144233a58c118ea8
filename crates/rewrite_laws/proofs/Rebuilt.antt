-- A plan whose nodes are changed one by one, each into one that is related to it, is related to what it was.
use Rattle.std.proofs.Common.{◌≡◌, ◌∙◌, ℕ, List, [], ◌∷◌, map, ap, sym, refl, subst}
use Rattle.label_set.specs.declared.rules.Rule.{Rule}
use Rattle.logical_plan.specs.declared.nodes.Plan.{Plan}
use Rattle.logical_plan.specs.declared.nodes.PlanNode.{PlanNode}
use Rattle.logical_plan.specs.declared.nodes.PlanNode.TheOpen.{PlanNode-F, Plan-F}
use Rattle.logical_plan.specs.declared.nodes.PlanNode.TheViews.{out-PlanNode, roll-PlanNode, roll-Plan, roll-out-PlanNode}
use Rattle.logical_plan.specs.declared.nodes.PlanNode.TheFolds.{fold-Plan, fold-PlanNode, fold-roll-PlanNode, fold-roll-Plan, ind-Plan, map-PlanNode}
use Rattle.logical_plan.specs.Lowering.{planned}
use Rattle.plan_rewrite.specs.Rebuilding.{Change, changed, rebuilt}
use Rattle.rewrite_laws.proofs.Follows.{Child, Follows, bares, befores}

module _ {A B : Type 0} (node_step : PlanNode-F A B → A) (plan_step : Plan-F A B → B) where
  abbrev pub of : Plan → B
  of = fold-Plan A B node_step plan_step

  abbrev pub of_node : PlanNode → A
  of_node = fold-PlanNode A B node_step plan_step

  abbrev pub made : ℕ → PlanNode-F A B → B
  made at y = plan_step (record { at = at; node = node_step y })

  -- a node with what the fold makes of each child in its place
  abbrev pub folded : PlanNode-F PlanNode Plan → PlanNode-F A B
  folded y = map-PlanNode PlanNode Plan A B of_node of y

  pub rolled : (at : ℕ) (y : PlanNode-F PlanNode Plan) → of (planned at (roll-PlanNode y)) ≡ made at (folded y)
  rolled at y =
      fold-roll-Plan A B node_step plan_step (record { at = at; node = roll-PlanNode y })
      ∙ ap (λ (a : A). plan_step (record { at = at; node = a })) (fold-roll-PlanNode A B node_step plan_step y)

module _ {B : Type 0} (Kept : B → B → Type 0) where
  pub kept_by : (a b c d : B) → a ≡ c → b ≡ d → Kept c d → Kept a b
  kept_by a b c d e f k = subst (λ x. Kept x b) (sym e) (subst (Kept c) (sym f) k)

  pub over_lists : (f g : List B → B) (bs cs ds es : List B) → bs ≡ cs → ds ≡ es → Kept (f bs) (g ds) → Kept (f cs) (g es)
  over_lists f g bs cs ds es e h k = subst (λ x. Kept (f x) (g es)) e (subst (λ x. Kept (f bs) (g x)) h k)

module _ {A B : Type 0} {Good : Rule → Type 0} (node_step : PlanNode-F A B → A) (plan_step : Plan-F A B → B) (Loose Kept : B → B → Type 0)
    (follows : Follows A B node_step plan_step Good Loose Kept) (change : Change)
    (keeps : (at : ℕ) (y : PlanNode-F PlanNode Plan) → Kept (of node_step plan_step (planned at (roll-PlanNode y))) (of node_step plan_step (planned at (change at y)))) where
  abbrev F : Plan → B
  F = of node_step plan_step

  abbrev again : Plan → Plan
  again = rebuilt change

  abbrev node_again : PlanNode → PlanNode
  node_again = fold-PlanNode PlanNode Plan roll-PlanNode (changed change)

  abbrev IsKept : Plan → Type 0
  IsKept p = Kept (F p) (F (again p))

  abbrev IsKeptNode : PlanNode → Type 0
  IsKeptNode n = (at : ℕ) → Kept (F (planned at n)) (F (planned at (node_again n)))

  abbrev Part : Type 0
  Part = (p : Plan) × IsKept p

  abbrev Layer : Type 0
  Layer = PlanNode-F ((n : PlanNode) × IsKeptNode n) Part

  abbrev plans : Layer → PlanNode-F PlanNode Plan
  plans = map-PlanNode ((n : PlanNode) × IsKeptNode n) Part PlanNode Plan (λ e. e.0) (λ e. e.0)

  abbrev plans_again : Layer → PlanNode-F PlanNode Plan
  plans_again y = map-PlanNode PlanNode Plan PlanNode Plan node_again again (plans y)

  abbrev C : Type 0
  C = Child B Loose Kept

  abbrev child : Part → C
  child p = record { before = F p.0; bare = F (again p.0); whole = F (again p.0); loose = follows.loosely (F p.0) (F (again p.0)) p.1; kept = p.1 }

  abbrev parts_in : List Part → List Plan
  parts_in ps = map (λ (p : Part). p.0) ps

  befores_are : (ps : List Part) → befores (map child ps) ≡ map F (parts_in ps)
  befores_are [] = refl
  befores_are (p ∷ ps) = ap (λ bs. F p.0 ∷ bs) (befores_are ps)

  bares_are : (ps : List Part) → bares (map child ps) ≡ map F (map again (parts_in ps))
  bares_are [] = refl
  bares_are (p ∷ ps) = ap (λ bs. F (again p.0) ∷ bs) (bares_are ps)

  abbrev M : ℕ → PlanNode-F A B → B
  M = made node_step plan_step

  level : (at : ℕ) (y : Layer) → Kept (M at (folded node_step plan_step (plans y))) (M at (folded node_step plan_step (plans_again y)))
  level at (PlanNode-F.Number value) = follows.levels at (PlanNode-F.Number value)
  level at PlanNode-F.Time = follows.levels at PlanNode-F.Time
  level at (PlanNode-F.Select rules moment stamped) = follows.levels at (PlanNode-F.Select rules moment stamped)
  level at (PlanNode-F.Range rules moment range) = follows.levels at (PlanNode-F.Range rules moment range)
  level at (PlanNode-F.Subquery c range step moment) = follows.levels at (PlanNode-F.Subquery (child c) range step moment)
  level at (PlanNode-F.Element f c cs) =
      over_lists Kept (λ bs. M at (PlanNode-F.Element f (F c.0) bs)) (λ bs. M at (PlanNode-F.Element f (F (again c.0)) bs))
      _ _ _ _ (befores_are cs) (bares_are cs) (follows.levels at (PlanNode-F.Element f (child c) (map child cs)))
  level at (PlanNode-F.Stamp c) = follows.levels at (PlanNode-F.Stamp (child c))
  level at (PlanNode-F.Window f c cs) =
      over_lists Kept (λ bs. M at (PlanNode-F.Window f (F c.0) bs)) (λ bs. M at (PlanNode-F.Window f (F (again c.0)) bs))
      _ _ _ _ (befores_are cs) (bares_are cs) (follows.levels at (PlanNode-F.Window f (child c) (map child cs)))
  level at (PlanNode-F.Absent labels c) = follows.levels at (PlanNode-F.Absent labels (child c))
  level at (PlanNode-F.Buckets c d) = follows.levels at (PlanNode-F.Buckets (child c) (child d))
  level at (PlanNode-F.Relabel rule c) = follows.levels at (PlanNode-F.Relabel rule (child c))
  level at (PlanNode-F.Sort down c) = follows.levels at (PlanNode-F.Sort down (child c))
  level at (PlanNode-F.ScalarOf c) = follows.levels at (PlanNode-F.ScalarOf (child c))
  level at (PlanNode-F.VectorOf c) = follows.levels at (PlanNode-F.VectorOf (child c))
  level at (PlanNode-F.Group f grouping cs label) =
      over_lists Kept (λ bs. M at (PlanNode-F.Group f grouping bs label)) (λ bs. M at (PlanNode-F.Group f grouping bs label))
      _ _ _ _ (befores_are cs) (bares_are cs) (follows.levels at (PlanNode-F.Group f grouping (map child cs) label))
  level at (PlanNode-F.Pair op c d pairing) = follows.levels at (PlanNode-F.Pair op (child c) (child d) pairing)
  level at (PlanNode-F.Set op c d pairing) = follows.levels at (PlanNode-F.Set op (child c) (child d) pairing)
  level at (PlanNode-F.Filter c rules) = follows.levels at (PlanNode-F.Filter (child c) rules)
  level at (PlanNode-F.Ratio c d) = follows.levels at (PlanNode-F.Ratio (child c) (child d))
  level at (PlanNode-F.Once c) = follows.levels at (PlanNode-F.Once (child c))
  level at (PlanNode-F.Gather expr kind engines) = follows.levels at (PlanNode-F.Gather expr kind engines)

  node_kept : (y : Layer) → IsKeptNode (roll-PlanNode (plans y))
  node_kept y at =
      kept_by Kept _ _ _ _ (rolled node_step plan_step at (plans y))
      (ap (λ (n : PlanNode). F (planned at n)) (fold-roll-PlanNode PlanNode Plan roll-PlanNode (changed change) (plans y)) ∙ rolled node_step plan_step at (plans_again y))
      (level at y)

  plan_kept : (at : ℕ) (n : PlanNode) → IsKeptNode n → IsKept (planned at n)
  plan_kept at n kept =
      let y = out-PlanNode (node_again n) in
      let changed_is : F (again (planned at n)) ≡ F (planned at (change at y)) = ap F (fold-roll-Plan PlanNode Plan roll-PlanNode (changed change) (record { at = at; node = n })) in
      let last : Kept (F (planned at (node_again n))) (F (planned at (change at y))) =
      subst (λ m. Kept (F (planned at m)) (F (planned at (change at y)))) (roll-out-PlanNode (node_again n)) (keeps at y) in
      subst (Kept (F (planned at n))) (sym changed_is) (follows.joined _ _ _ (kept at) last)

  pub every : (p : Plan) → Kept (F p) (F (again p))
  every = ind-Plan IsKeptNode IsKept
      (λ x y is. subst (λ z. IsKeptNode (roll-PlanNode z)) is (node_kept y))
      (λ x y is. subst (λ z. IsKept (roll-Plan z)) is (plan_kept y.at y.node.0 y.node.1))
