-- A plan in which selectors become parts that engines are asked for is related to what it was.
use Rattle.std.proofs.Common.{◌≡◌, ◌∙◌, ℕ, List, [], ◌∷◌, map, ap, sym, refl, subst, true, false, cond}
use Rattle.label_set.specs.declared.rules.Rule.{Rule}
use Rattle.promql_ast.specs.declared.tree.Expr.{Expr}
use Rattle.promql_ast.specs.declared.tree.Moment.{Moment}
use Rattle.promql_ast.specs.declared.tree.Node.TheVariants.{Call}
use Rattle.func_table.specs.declared.table.Func.TheVariants.{Timestamp}
use Rattle.promql_type.specs.Replacements.{Kept}
use Rattle.step_table.specs.declared.cells.PartKind.{PartKind}
use Rattle.step_table.specs.declared.cells.PartKind.TheVariants as part
use Rattle.ticks.specs.declared.moment.Ms.{Ms}
use Rattle.logical_plan.specs.declared.nodes.Plan.{Plan}
use Rattle.logical_plan.specs.declared.nodes.PlanNode.{PlanNode}
use Rattle.logical_plan.specs.declared.nodes.PlanNode.TheVariants as node
use Rattle.logical_plan.specs.declared.nodes.PlanNode.TheOpen.{PlanNode-F, Plan-F}
use Rattle.logical_plan.specs.declared.nodes.PlanNode.TheViews.{out-PlanNode, roll-PlanNode, roll-Plan, roll-out-PlanNode}
use Rattle.logical_plan.specs.declared.nodes.PlanNode.TheFolds.{fold-Plan, fold-PlanNode, fold-roll-PlanNode, fold-roll-Plan, ind-Plan, map-PlanNode}
use Rattle.logical_plan.specs.Lowering.{planned}
use Rattle.logical_plan.specs.PartExprs.{expressed, expression_of, expression_step}
use Rattle.logical_plan.specs.PlanFolds.{of-Gather, of-Range, of-Select, of-Stamp}
use Rattle.plan_rewrite.specs.Rebuilding.{Change, changed, rebuilt}
use Rattle.opt_remote.specs.Gathering.{gather, gather_selector, is_stamped_selector}
use Rattle.opt_remote.proofs.Stamped.{by_stamp, select_is}
use Rattle.opt_remote.proofs.Follows.{Child, Follows, afters, befores, instant, ranged, timestamp}

-- ---- folds over rolled nodes

module _ {A B : Type 0} (node_step : PlanNode-F A B → A) (plan_step : Plan-F A B → B) where
  abbrev pub of : Plan → B
  of = fold-Plan A B node_step plan_step

  abbrev pub of_node : PlanNode → A
  of_node = fold-PlanNode A B node_step plan_step

  abbrev pub made : ℕ → PlanNode-F A B → B
  made at y = plan_step (record { at = at; node = node_step y })

  -- a node with what the fold makes of each child in its place
  abbrev pub folded : PlanNode-F PlanNode Plan → PlanNode-F A B
  folded y = map-PlanNode PlanNode Plan A B of_node of y

  pub rolled : (at : ℕ) (y : PlanNode-F PlanNode Plan) → of (planned at (roll-PlanNode y)) ≡ made at (folded y)
  rolled at y =
      fold-roll-Plan A B node_step plan_step (record { at = at; node = roll-PlanNode y })
      ∙ ap (λ (a : A). plan_step (record { at = at; node = a })) (fold-roll-PlanNode A B node_step plan_step y)

-- what becomes of a plan whose node is known
pub rebuilt_rolled : (change : Change) (at : ℕ) (y : PlanNode-F PlanNode Plan)
    → rebuilt change (planned at (roll-PlanNode y))
    ≡ planned at (change at (out-PlanNode (roll-PlanNode (map-PlanNode PlanNode Plan PlanNode Plan (fold-PlanNode PlanNode Plan roll-PlanNode (changed change)) (rebuilt change) y))))
rebuilt_rolled change at y =
    fold-roll-Plan PlanNode Plan roll-PlanNode (changed change) (record { at = at; node = roll-PlanNode y })
    ∙ ap (λ (n : PlanNode). planned at (change at (out-PlanNode n))) (fold-roll-PlanNode PlanNode Plan roll-PlanNode (changed change) y)

-- ---- relations

module _ {B : Type 0} (K : B → B → Type 0) where
  pub kept_by : (a b c d : B) → a ≡ c → b ≡ d → K c d → K a b
  kept_by a b c d e f k = subst (λ x. K x b) (sym e) (subst (K c) (sym f) k)

  over_lists : (f g : List B → B) (bs cs ds es : List B) → bs ≡ cs → ds ≡ es → K (f bs) (g ds) → K (f cs) (g es)
  over_lists f g bs cs ds es e h k = subst (λ x. K (f x) (g es)) e (subst (λ x. K (f bs) (g x)) h k)

module _ {A B : Type 0} (node_step : PlanNode-F A B → A) (plan_step : Plan-F A B → B) (K : B → B → Type 0) (engines : List ℕ) (follows : Follows A B node_step plan_step K engines) where
  abbrev F : Plan → B
  F = of node_step plan_step

  abbrev M : ℕ → PlanNode-F A B → B
  M = made node_step plan_step

  -- ---- a node and what becomes of it

  module _ (kept : Kept) (at : ℕ) where
    abbrev Becomes : PlanNode-F PlanNode Plan → PlanNode → Type 0
    Becomes y n = K (F (planned at (roll-PlanNode y))) (F (planned at n))

    becomes : (y : PlanNode-F PlanNode Plan) (n : PlanNode) (b : B) → F (planned at n) ≡ b → K (M at (folded node_step plan_step y)) b → Becomes y n
    becomes y n b is k = kept_by K _ _ _ _ (rolled node_step plan_step at y) is k

    -- a node that becomes a part, whose expression is known
    becomes_part : (y : PlanNode-F PlanNode Plan) (n : PlanNode) (kind : PartKind) (e : Expr) → expression_of kept (planned at n) ≡ e
        → K (M at (folded node_step plan_step y)) (M at (PlanNode-F.Gather e kind engines)) → Becomes y (gather engines kept kind at n)
    becomes_part y n kind e is k =
        becomes y (gather engines kept kind at n) (M at (PlanNode-F.Gather e kind engines))
        (ap (λ (x : Expr). F (planned at (node.Gather x kind engines))) is ∙ of-Gather node_step plan_step at e kind engines) k

    rows_become : (rules : List Rule) (moment : Moment) → Becomes (PlanNode-F.Select rules moment false) (gather engines kept part.Rows at (node.Select rules moment false))
    rows_become rules moment =
        becomes_part (PlanNode-F.Select rules moment false) (node.Select rules moment false) part.Rows (instant at rules moment)
        (of-Select (expression_step kept) (λ p. p.node p.at) at rules moment false) (follows.rows at rules moment)

    windows_become : (rules : List Rule) (moment : Moment) (range : Ms) → Becomes (PlanNode-F.Range rules moment range) (gather engines kept part.Windows at (node.Range rules moment range))
    windows_become rules moment range =
        becomes_part (PlanNode-F.Range rules moment range) (node.Range rules moment range) part.Windows (ranged at rules moment range)
        (of-Range (expression_step kept) (λ p. p.node p.at) at rules moment range) (follows.windows at rules moment range)

    module _ (inner : Plan) where
      -- what the fold makes of a selector whose own times are read
      selector_made : (rules : List Rule) (moment : Moment) → inner.node ≡ node.Select rules moment true → F inner ≡ M inner.at (PlanNode-F.Select rules moment true)
      selector_made rules moment is = ap (λ (n : PlanNode). F (planned inner.at n)) is ∙ of-Select node_step plan_step inner.at rules moment true

      expression_is : (rules : List Rule) (moment : Moment) → inner.node ≡ node.Select rules moment true → expression_of kept inner ≡ instant inner.at rules moment
      expression_is rules moment is =
          ap (λ (n : PlanNode). expression_of kept (planned inner.at n)) is ∙ of-Select (expression_step kept) (λ p. p.node p.at) inner.at rules moment true

      times_become : (rules : List Rule) (moment : Moment) → inner.node ≡ node.Select rules moment true → Becomes (PlanNode-F.Stamp inner) (gather engines kept part.Rows at (node.Stamp inner))
      times_become rules moment is =
          becomes_part (PlanNode-F.Stamp inner) (node.Stamp inner) part.Rows (timestamp at inner.at rules moment)
          (of-Stamp (expression_step kept) (λ p. p.node p.at) at inner ∙ ap (λ (x : Expr). expressed at (Call Timestamp (x ∷ []))) (expression_is rules moment is))
          (subst (λ (b : B). K (M at (PlanNode-F.Stamp b)) (M at (PlanNode-F.Gather (timestamp at inner.at rules moment) part.Rows engines))) (sym (selector_made rules moment is)) (follows.times at inner.at rules moment))

      once_becomes : (rules : List Rule) (moment : Moment) → inner.node ≡ node.Select rules moment true → Becomes (PlanNode-F.Once inner) inner.node
      once_becomes rules moment is =
          becomes (PlanNode-F.Once inner) inner.node (M at (PlanNode-F.Select rules moment true))
          (ap (λ (n : PlanNode). F (planned at n)) is ∙ of-Select node_step plan_step at rules moment true)
          (subst (λ (b : B). K (M at (PlanNode-F.Once b)) (M at (PlanNode-F.Select rules moment true))) (sym (selector_made rules moment is)) (follows.onces at inner.at rules moment))

      stamp_stays : Becomes (PlanNode-F.Stamp inner) (node.Stamp inner)
      unfolding roll-PlanNode denote.Hole.Carrier.roll
      stamp_stays = follows.itself _

      once_stays : Becomes (PlanNode-F.Once inner) (node.Once inner)
      unfolding roll-PlanNode denote.Hole.Carrier.roll
      once_stays = follows.itself _

      stamps_become : Becomes (PlanNode-F.Stamp inner) (cond (is_stamped_selector (out-PlanNode inner.node)) (gather engines kept part.Rows at (node.Stamp inner)) (node.Stamp inner))
      stamps_become =
          by_stamp (λ y b. out-PlanNode inner.node ≡ y → Becomes (PlanNode-F.Stamp inner) (cond b (gather engines kept part.Rows at (node.Stamp inner)) (node.Stamp inner))) (out-PlanNode inner.node)
          (λ rules moment is. times_become rules moment (select_is inner rules moment true is)) (λ x is. stamp_stays) refl

      onces_become : Becomes (PlanNode-F.Once inner) (cond (is_stamped_selector (out-PlanNode inner.node)) inner.node (node.Once inner))
      onces_become =
          by_stamp (λ y b. out-PlanNode inner.node ≡ y → Becomes (PlanNode-F.Once inner) (cond b inner.node (node.Once inner))) (out-PlanNode inner.node)
          (λ rules moment is. once_becomes rules moment (select_is inner rules moment true is)) (λ x is. once_stays) refl

  nodes_become : (kept : Kept) (at : ℕ) (y : PlanNode-F PlanNode Plan) → K (F (planned at (roll-PlanNode y))) (F (planned at (gather_selector engines kept at y)))
  nodes_become kept at (PlanNode-F.Select rules moment false) = rows_become kept at rules moment
  nodes_become kept at (PlanNode-F.Select rules moment true) = follows.itself _
  nodes_become kept at (PlanNode-F.Range rules moment range) = windows_become kept at rules moment range
  nodes_become kept at (PlanNode-F.Stamp inner) = stamps_become kept at inner
  nodes_become kept at (PlanNode-F.Once inner) = onces_become kept at inner
  nodes_become kept at (PlanNode-F.Number value) = follows.itself _
  nodes_become kept at PlanNode-F.Time = follows.itself _
  nodes_become kept at (PlanNode-F.Subquery inner range step moment) = follows.itself _
  nodes_become kept at (PlanNode-F.Element f inner arguments) = follows.itself _
  nodes_become kept at (PlanNode-F.Window f inner arguments) = follows.itself _
  nodes_become kept at (PlanNode-F.Absent labels inner) = follows.itself _
  nodes_become kept at (PlanNode-F.Buckets quantile inner) = follows.itself _
  nodes_become kept at (PlanNode-F.Relabel rule inner) = follows.itself _
  nodes_become kept at (PlanNode-F.Sort down inner) = follows.itself _
  nodes_become kept at (PlanNode-F.ScalarOf inner) = follows.itself _
  nodes_become kept at (PlanNode-F.VectorOf inner) = follows.itself _
  nodes_become kept at (PlanNode-F.Group f by arguments label) = follows.itself _
  nodes_become kept at (PlanNode-F.Pair op left right pairing) = follows.itself _
  nodes_become kept at (PlanNode-F.Set op left right pairing) = follows.itself _
  nodes_become kept at (PlanNode-F.Filter base rules) = follows.itself _
  nodes_become kept at (PlanNode-F.Ratio sum count) = follows.itself _
  nodes_become kept at (PlanNode-F.Gather expr kind numbers) = follows.itself _

  -- ---- a plan and what becomes of it

  module _ (kept : Kept) where
    abbrev change : Change
    change = gather_selector engines kept

    abbrev again : Plan → Plan
    again = rebuilt change

    abbrev node_again : PlanNode → PlanNode
    node_again = fold-PlanNode PlanNode Plan roll-PlanNode (changed change)

    abbrev IsKept : Plan → Type 0
    IsKept p = K (F p) (F (again p))

    abbrev IsKeptNode : PlanNode → Type 0
    IsKeptNode n = (at : ℕ) → K (F (planned at n)) (F (planned at (node_again n)))

    abbrev Known : Type 0
    Known = (p : Plan) × IsKept p

    abbrev Layer : Type 0
    Layer = PlanNode-F ((n : PlanNode) × IsKeptNode n) Known

    abbrev plans : Layer → PlanNode-F PlanNode Plan
    plans = map-PlanNode ((n : PlanNode) × IsKeptNode n) Known PlanNode Plan (λ e. e.0) (λ e. e.0)

    abbrev plans_again : Layer → PlanNode-F PlanNode Plan
    plans_again y = map-PlanNode PlanNode Plan PlanNode Plan node_again again (plans y)

    abbrev C : Type 0
    C = Child B K

    abbrev child : Known → C
    child p = record { before = F p.0; after = F (again p.0); kept = p.1 }

    abbrev plans_in : List Known → List Plan
    plans_in ps = map (λ (p : Known). p.0) ps

    befores_are : (ps : List Known) → befores (map child ps) ≡ map F (plans_in ps)
    befores_are [] = refl
    befores_are (p ∷ ps) = ap (λ bs. F p.0 ∷ bs) (befores_are ps)

    afters_are : (ps : List Known) → afters (map child ps) ≡ map F (map again (plans_in ps))
    afters_are [] = refl
    afters_are (p ∷ ps) = ap (λ bs. F (again p.0) ∷ bs) (afters_are ps)

    level : (at : ℕ) (y : Layer) → K (M at (folded node_step plan_step (plans y))) (M at (folded node_step plan_step (plans_again y)))
    level at (PlanNode-F.Number value) = follows.levels at (PlanNode-F.Number value)
    level at PlanNode-F.Time = follows.levels at PlanNode-F.Time
    level at (PlanNode-F.Select rules moment stamped) = follows.levels at (PlanNode-F.Select rules moment stamped)
    level at (PlanNode-F.Range rules moment range) = follows.levels at (PlanNode-F.Range rules moment range)
    level at (PlanNode-F.Subquery c range step moment) = follows.levels at (PlanNode-F.Subquery (child c) range step moment)
    level at (PlanNode-F.Element f c cs) =
        over_lists K (λ bs. M at (PlanNode-F.Element f (F c.0) bs)) (λ bs. M at (PlanNode-F.Element f (F (again c.0)) bs))
        _ _ _ _ (befores_are cs) (afters_are cs) (follows.levels at (PlanNode-F.Element f (child c) (map child cs)))
    level at (PlanNode-F.Stamp c) = follows.levels at (PlanNode-F.Stamp (child c))
    level at (PlanNode-F.Window f c cs) =
        over_lists K (λ bs. M at (PlanNode-F.Window f (F c.0) bs)) (λ bs. M at (PlanNode-F.Window f (F (again c.0)) bs))
        _ _ _ _ (befores_are cs) (afters_are cs) (follows.levels at (PlanNode-F.Window f (child c) (map child cs)))
    level at (PlanNode-F.Absent labels c) = follows.levels at (PlanNode-F.Absent labels (child c))
    level at (PlanNode-F.Buckets c d) = follows.levels at (PlanNode-F.Buckets (child c) (child d))
    level at (PlanNode-F.Relabel rule c) = follows.levels at (PlanNode-F.Relabel rule (child c))
    level at (PlanNode-F.Sort down c) = follows.levels at (PlanNode-F.Sort down (child c))
    level at (PlanNode-F.ScalarOf c) = follows.levels at (PlanNode-F.ScalarOf (child c))
    level at (PlanNode-F.VectorOf c) = follows.levels at (PlanNode-F.VectorOf (child c))
    level at (PlanNode-F.Group f grouping cs label) =
        over_lists K (λ bs. M at (PlanNode-F.Group f grouping bs label)) (λ bs. M at (PlanNode-F.Group f grouping bs label))
        _ _ _ _ (befores_are cs) (afters_are cs) (follows.levels at (PlanNode-F.Group f grouping (map child cs) label))
    level at (PlanNode-F.Pair op c d pairing) = follows.levels at (PlanNode-F.Pair op (child c) (child d) pairing)
    level at (PlanNode-F.Set op c d pairing) = follows.levels at (PlanNode-F.Set op (child c) (child d) pairing)
    level at (PlanNode-F.Filter c rules) = follows.levels at (PlanNode-F.Filter (child c) rules)
    level at (PlanNode-F.Ratio c d) = follows.levels at (PlanNode-F.Ratio (child c) (child d))
    level at (PlanNode-F.Once c) = follows.levels at (PlanNode-F.Once (child c))
    level at (PlanNode-F.Gather expr kind numbers) = follows.levels at (PlanNode-F.Gather expr kind numbers)

    node_kept : (y : Layer) → IsKeptNode (roll-PlanNode (plans y))
    node_kept y at =
        kept_by K _ _ _ _ (rolled node_step plan_step at (plans y))
        (ap (λ (n : PlanNode). F (planned at n)) (fold-roll-PlanNode PlanNode Plan roll-PlanNode (changed change) (plans y)) ∙ rolled node_step plan_step at (plans_again y))
        (level at y)

    plan_kept : (at : ℕ) (n : PlanNode) → IsKeptNode n → IsKept (planned at n)
    plan_kept at n known =
        let y = out-PlanNode (node_again n) in
        let changed_is : F (again (planned at n)) ≡ F (planned at (change at y)) = ap F (fold-roll-Plan PlanNode Plan roll-PlanNode (changed change) (record { at = at; node = n })) in
        let last : K (F (planned at (node_again n))) (F (planned at (change at y))) =
        subst (λ m. K (F (planned at m)) (F (planned at (change at y)))) (roll-out-PlanNode (node_again n)) (nodes_become kept at y) in
        subst (K (F (planned at n))) (sym changed_is) (follows.joined _ _ _ (known at) last)

    pub every : (p : Plan) → K (F p) (F (again p))
    every = ind-Plan IsKeptNode IsKept
        (λ x y is. subst (λ z. IsKeptNode (roll-PlanNode z)) is (node_kept y))
        (λ x y is. subst (λ z. IsKept (roll-Plan z)) is (plan_kept y.at y.node.0 y.node.1))
