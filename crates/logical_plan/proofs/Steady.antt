-- A steady plan means the same at each instant.
use Rattle.std.proofs.Common.{◌≡◌, ◌∙◌, ℕ, List, [], ◌∷◌, map, ap, ap₂, sym, refl, subst, true, false}
use Rattle.std.specs.Prelude.{ℤ}
use Rattle.func_table.specs.declared.table.Window.{Window as WindowFunction}
use Rattle.func_table.specs.declared.table.Window.TheVariants as window
use Rattle.xfrac.specs.declared.value.XFrac.{XFrac}
use Rattle.step_table.specs.Sets.{combined}
use Rattle.step_table.specs.Unions.{united}
use Rattle.step_table.specs.declared.marks.Marks.{Marks}
use Rattle.step_table.specs.declared.step.Step.{Step}
use Rattle.promql_meaning.specs.Buckets.{bucket_quantiles}
use Rattle.promql_meaning.specs.Givens.{by_value, no_marks, step_of, value_in, with_scalar}
use Rattle.promql_meaning.specs.Meaning.{as_scalar, operation, step_at, windowed_by, zero_number}
use Rattle.promql_meaning.specs.Selecting.{Asked, newest_rows, passing, window_rows}
use Rattle.promql_meaning.specs.Steadiness.{steady_window}
use Rattle.promql_meaning.specs.Subqueries.{points_of}
use Rattle.promql_meaning.specs.declared.given.Given.{Given}
use Rattle.promql_meaning.specs.declared.given.Given.TheVariants as given
use Rattle.promql_meaning.specs.declared.given.Windows.{Windows}
use Rattle.logical_plan.specs.declared.steadiness.Facts.{Facts}
use Rattle.logical_plan.specs.declared.nodes.Plan.{Plan}
use Rattle.logical_plan.specs.declared.nodes.PlanNode.{PlanNode}
use Rattle.logical_plan.specs.declared.nodes.PlanNode.TheOpen.{PlanNode-F}
use Rattle.logical_plan.specs.declared.nodes.PlanNode.TheViews.{roll-PlanNode, roll-Plan}
use Rattle.logical_plan.specs.declared.nodes.PlanNode.TheFolds.{map-PlanNode, fold-PlanNode, fold-roll-PlanNode, fold-roll-Plan, ind-Plan}
use Rattle.logical_plan.specs.PlanMeaning.{Meant, element_given, givens_at, group_given, node_meant, plan_meant, relabel_given, window_given}
use Rattle.logical_plan.specs.PlanRules.{absent_under, filtered, newest_of, ratio, stamp}
use Rattle.logical_plan.specs.Steadiness.{SteadyPlanStays, all_of, both, constant, known, node_facts, still_if}
use Rattle.logical_plan.proofs.PartSteady.{IsStill, first_still, gathers_stay, left_of, left_still, moment_stays, own_false, right_of, right_still, windowed_stays}

-- ---- functions of windows

by_stays : (f : WindowFunction) (t u : ℤ) (scalar : Step) (w : Windows) → steady_window f ≡ true → windowed_by f t scalar w ≡ windowed_by f u scalar w
by_stays window.Rate t u scalar w h = windowed_stays window.Rate t u zero_number w h
by_stays window.Increase t u scalar w h = windowed_stays window.Increase t u zero_number w h
by_stays window.Delta t u scalar w h = windowed_stays window.Delta t u zero_number w h
by_stays window.Irate t u scalar w h = windowed_stays window.Irate t u zero_number w h
by_stays window.Idelta t u scalar w h = windowed_stays window.Idelta t u zero_number w h
by_stays window.Deriv t u scalar w h = windowed_stays window.Deriv t u zero_number w h
by_stays window.PredictLinear t u scalar w h = absurd (cc)
by_stays window.Changes t u scalar w h = windowed_stays window.Changes t u zero_number w h
by_stays window.Resets t u scalar w h = windowed_stays window.Resets t u zero_number w h
by_stays window.AvgOver t u scalar w h = windowed_stays window.AvgOver t u zero_number w h
by_stays window.MinOver t u scalar w h = windowed_stays window.MinOver t u zero_number w h
by_stays window.MaxOver t u scalar w h = windowed_stays window.MaxOver t u zero_number w h
by_stays window.SumOver t u scalar w h = windowed_stays window.SumOver t u zero_number w h
by_stays window.CountOver t u scalar w h = windowed_stays window.CountOver t u zero_number w h
by_stays window.StdvarOver t u scalar w h = windowed_stays window.StdvarOver t u zero_number w h
by_stays window.QuantileOver t u scalar w h =
    let marks : Marks = united w.marks scalar.marks in
    ap (λ (g : XFrac → Step). by_value (value_in scalar) marks g) (λ i arg. windowed_stays window.QuantileOver t u arg (record w { marks = marks }) h i)
by_stays window.LastOver t u scalar w h = windowed_stays window.LastOver t u zero_number w h
by_stays window.PresentOver t u scalar w h = windowed_stays window.PresentOver t u zero_number w h

given_stays : (f : WindowFunction) (t u : ℤ) (arguments : List Given) (g : Given) → steady_window f ≡ true → window_given f t arguments g ≡ window_given f u arguments g
given_stays f t u arguments (given.Scalar step) h = refl
given_stays f t u arguments (given.Vector step) h = refl
given_stays f t u arguments (given.Selected selection) h = refl
given_stays f t u arguments (given.Windows w) h = by_stays f t u (step_at arguments 0) w h
given_stays f t u arguments (given.Words text) h = refl

module _ (asked : Asked) where
  -- what is still means the same at each instant; the samples' own times are known as such
  record Stays (f : Facts) (m : Meant) : Type 0 where
    gives : IsStill f → (t u : ℤ) → m.gives t ≡ m.gives u
    own : f.own ≡ m.own
    stamped : f.own ≡ true → f.still ≡ true

  -- not of the samples' own times
  others : (f : Facts) (m : ℤ → Given) → f.own ≡ false → (IsStill f → (t u : ℤ) → m t ≡ m u) → Stays f (record { own = false; gives = m })
  others f m own gives = record { gives = gives; own = own; stamped = λ h. absurd (cc) }

  abbrev known_in : PlanNode → Facts
  known_in = fold-PlanNode Facts Facts (node_facts (λ f. f)) (λ p. p.node)

  abbrev meant_in : PlanNode → Meant
  meant_in = fold-PlanNode Meant Meant (node_meant asked) (λ p. p.node)

  abbrev PlanStays : Plan → Type 0
  PlanStays p = Stays (known p) (plan_meant asked p)

  abbrev NodeStays : PlanNode → Type 0
  NodeStays n = Stays (known_in n) (meant_in n)

  abbrev Staying : Type 0
  Staying = (p : Plan) × PlanStays p

  abbrev Layer : Type 0
  Layer = PlanNode-F ((n : PlanNode) × NodeStays n) Staying

  abbrev bare : Layer → PlanNode-F PlanNode Plan
  bare = map-PlanNode ((n : PlanNode) × NodeStays n) Staying PlanNode Plan (λ n. n.0) (λ p. p.0)

  abbrev facts_of : List Staying → List Facts
  facts_of items = map (λ f. f) (map known (map (λ p. p.0) items))

  abbrev meanings : List Staying → List Meant
  meanings items = map (plan_meant asked) (map (λ p. p.0) items)

  arguments_stay : (f : Facts) (items : List Staying) (t u : ℤ) → IsStill (all_of f (facts_of items)) → givens_at (meanings items) t ≡ givens_at (meanings items) u
  arguments_stay f [] t u s = refl
  arguments_stay f (p ∷ ps) t u s =
      let own : IsStill (known p.0) = right_still f (known p.0) (first_still (both f (known p.0)) (facts_of ps) s) in
      ap₂ (λ x xs. x ∷ xs) (p.1.gives own t u) (arguments_stay (both f (known p.0)) ps t u s)

  -- one part
  over : (p : Staying) (h : Given → Given) → Stays (both constant (known p.0)) (record { own = false; gives = λ t. h ((plan_meant asked p.0).gives t) })
  over p h = others _ _ refl (λ s t u. ap h (p.1.gives (right_still constant (known p.0) s) t u))

  -- two parts
  over_both : (l r : Staying) (h : Given → Given → Given)
      → Stays (both (known l.0) (known r.0)) (record { own = false; gives = λ t. h ((plan_meant asked l.0).gives t) ((plan_meant asked r.0).gives t) })
  over_both l r h =
      others _ _ refl (λ s t u. ap₂ h (l.1.gives (left_still (known l.0) (known r.0) s) t u) (r.1.gives (right_still (known l.0) (known r.0) s) t u))

  level : (y : Layer) → Stays (node_facts (λ f. f) (map-PlanNode PlanNode Plan Facts Facts known_in known (bare y))) (node_meant asked (map-PlanNode PlanNode Plan Meant Meant meant_in (plan_meant asked) (bare y)))
  level (PlanNode-F.Number value) = others _ _ refl (λ s t u. refl)
  level PlanNode-F.Time = others _ _ refl (λ s t u. absurd (no_time s.still))
    where
      no_time : (false ≡ true) → ⊥
      no_time h = absurd (cc)
  level (PlanNode-F.Select rules moment stamped) = record {
    gives = λ s t u. ap (λ m. given.Vector (newest_of stamped (newest_rows moment.closed m (passing asked.samples asked.kept rules)))) (moment_stays asked moment t u s.fixed);
    own = refl;
    stamped = λ h. refl;
  }
  level (PlanNode-F.Range rules moment range) =
      others _ _ refl (λ s t u. ap (λ m. given.Windows (record { moment = record { 0 = m }; range = range; rules = []; rows = window_rows moment.closed m range.0 (passing asked.samples asked.kept rules); marks = no_marks })) (moment_stays asked moment t u s.fixed))
  level (PlanNode-F.Subquery p range step moment) =
      others _ _ refl (λ s t u. ap (λ m. given.Windows (points_of moment.closed (λ v. step_of ((plan_meant asked p.0).gives v)) range step m)) (moment_stays asked moment t u s.fixed))
  level (PlanNode-F.Element f p ps) =
      others _ _ (own_false (both constant (known p.0)) (facts_of ps) refl)
      (λ s t u. ap₂ (element_given f) (arguments_stay (both constant (known p.0)) ps t u s) (p.1.gives (right_still constant (known p.0) (first_still (both constant (known p.0)) (facts_of ps) s)) t u))
  level (PlanNode-F.Stamp p) = others _ _ refl stays
    where
      stays : IsStill (still_if (known p.0).own (both constant (known p.0))) → (t u : ℤ)
          → given.Vector (stamp (plan_meant asked p.0).own t (step_of ((plan_meant asked p.0).gives t))) ≡ given.Vector (stamp (plan_meant asked p.0).own u (step_of ((plan_meant asked p.0).gives u)))
      stays s t u =
          let own : (plan_meant asked p.0).own ≡ true = sym p.1.own ∙ left_of (known p.0).own (known p.0).still s.still in
          let still : IsStill (known p.0) = record { fixed = s.fixed; still = right_of (known p.0).own (known p.0).still s.still } in
          ap (λ b. given.Vector (stamp b t (step_of ((plan_meant asked p.0).gives t)))) own
          ∙ ap (λ g. given.Vector (stamp true t (step_of g))) (p.1.gives still t u)
          ∙ ap (λ b. given.Vector (stamp b u (step_of ((plan_meant asked p.0).gives u)))) (sym own)
  level (PlanNode-F.Window f p ps) =
      others _ _ (own_false (both constant (known p.0)) (facts_of ps) refl) stays
    where
      all : Facts
      all = all_of (both constant (known p.0)) (facts_of ps)

      stays : IsStill (still_if (steady_window f) all) → (t u : ℤ)
          → given.Vector (window_given f t (givens_at (meanings ps) t) ((plan_meant asked p.0).gives t)) ≡ given.Vector (window_given f u (givens_at (meanings ps) u) ((plan_meant asked p.0).gives u))
      stays s t u =
          let still : IsStill all = record { fixed = s.fixed; still = right_of (steady_window f) all.still s.still } in
          ap₂ (λ gs g. given.Vector (window_given f t gs g)) (arguments_stay (both constant (known p.0)) ps t u still)
          (p.1.gives (right_still constant (known p.0) (first_still (both constant (known p.0)) (facts_of ps) still)) t u)
          ∙ ap given.Vector (given_stays f t u (givens_at (meanings ps) u) ((plan_meant asked p.0).gives u) (left_of (steady_window f) all.still s.still))
  level (PlanNode-F.Absent labels p) = over p (λ g. given.Vector (absent_under labels g))
  level (PlanNode-F.Buckets q p) = over_both q p (λ a b. given.Vector (with_scalar bucket_quantiles (step_of a) (step_of b)))
  level (PlanNode-F.Relabel rule p) = over p (relabel_given asked rule)
  level (PlanNode-F.Sort down p) = over p (λ g. given.Vector (step_of g))
  level (PlanNode-F.ScalarOf p) = over p (λ g. given.Scalar (as_scalar (step_of g)))
  level (PlanNode-F.VectorOf p) = over p (λ g. given.Vector (step_of g))
  level (PlanNode-F.Group f by ps label) =
      others _ _ (own_false constant (facts_of ps) refl) (λ s t u. ap (λ gs. given.Vector (group_given f by label gs)) (arguments_stay constant ps t u s))
  level (PlanNode-F.Pair op l r pairing) = over_both l r (operation op pairing)
  level (PlanNode-F.Set op l r pairing) = over_both l r (λ a b. given.Vector (combined (step_of a) (step_of b) op pairing))
  level (PlanNode-F.Filter p rules) =
      others _ _ refl (λ s t u. ap (filtered asked.kept rules) (p.1.gives (record { fixed = s.fixed; still = s.still }) t u))
  level (PlanNode-F.Ratio l r) = over_both l r (λ a b. given.Vector (ratio (step_of a) (step_of b)))
  level (PlanNode-F.Once p) = p.1
  level (PlanNode-F.Gather expr kind engines) = others _ _ refl (λ s t u. gathers_stay asked expr kind engines (record { fixed = s.fixed; still = s.still }) t u)

  node_stays : (y : Layer) → NodeStays (roll-PlanNode (bare y))
  node_stays y =
      subst (λ (f : Facts). Stays f (meant_in (roll-PlanNode (bare y)))) (sym (fold-roll-PlanNode Facts Facts (node_facts (λ f. f)) (λ p. p.node) (bare y)))
      (subst (λ (m : Meant). Stays (node_facts (λ f. f) (map-PlanNode PlanNode Plan Facts Facts known_in known (bare y))) m) (sym (fold-roll-PlanNode Meant Meant (node_meant asked) (λ p. p.node) (bare y))) (level y))

  plan_stays : (at : ℕ) (n : PlanNode) → NodeStays n → PlanStays (roll-Plan (record { at = at; node = n }))
  plan_stays at n is =
      subst (λ (f : Facts). Stays f (plan_meant asked (roll-Plan (record { at = at; node = n })))) (sym (fold-roll-Plan Facts Facts (node_facts (λ f. f)) (λ p. p.node) (record { at = at; node = n })))
      (subst (λ (m : Meant). Stays (known_in n) m) (sym (fold-roll-Plan Meant Meant (node_meant asked) (λ p. p.node) (record { at = at; node = n }))) is)

  all_stay : (p : Plan) → PlanStays p
  all_stay = ind-Plan NodeStays PlanStays
      (λ x y is. subst (λ z. NodeStays (roll-PlanNode z)) is (node_stays y))
      (λ x y is. subst (λ z. PlanStays (roll-Plan z)) is (plan_stays y.at y.node.0 y.node.1))

pub steady_stays : SteadyPlanStays
steady_stays asked p t u h =
    (all_stay asked p).gives (record { fixed = left_of (known p).fixed (known p).still h; still = right_of (known p).fixed (known p).still h }) t u
