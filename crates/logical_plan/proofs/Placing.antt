-- Once nodes change no fold to which they are nothing; what they stand over is steady.
use Rattle.std.proofs.Common.{◌≡◌, ◌∙◌, ℕ, List, [], ◌∷◌, map, ap, ap₂, sym, refl, subst, Bool, true, false}
use Rattle.std.specs.Prelude.{ℤ, not, ◌||◌, ◌&&◌}
use Rattle.promql_meaning.specs.Selecting.{Asked}
use Rattle.promql_meaning.specs.Steadiness.{has_fixed, steady_window}
use Rattle.logical_plan.specs.declared.steadiness.Facts.{Facts}
use Rattle.logical_plan.specs.declared.nodes.Plan.{Plan}
use Rattle.logical_plan.specs.declared.nodes.PlanNode.{PlanNode}
use Rattle.logical_plan.specs.declared.nodes.PlanNode.TheOpen.{PlanNode-F, Plan-F}
use Rattle.logical_plan.specs.declared.nodes.PlanNode.TheViews.{roll-PlanNode, roll-Plan}
use Rattle.logical_plan.specs.declared.nodes.PlanNode.TheFolds.{map-PlanNode, fold-PlanNode, fold-Plan, fold-roll-PlanNode, fold-roll-Plan, ind-Plan}
use Rattle.logical_plan.specs.Lowering.{planned}
use Rattle.logical_plan.specs.Onces.{Onced, node_over, once_node, once_of, placed_over, placed_plan, with_onces, wrapped}
use Rattle.logical_plan.specs.PlanFolds.{of-Number, of-Time, of-Select, of-Range, of-Subquery, of-Element, of-Stamp, of-Window, of-Absent, of-Buckets, of-Relabel, of-Sort, of-ScalarOf, of-VectorOf, of-Group, of-Pair, of-Set, of-Filter, of-Ratio, of-Once, of-Gather}
use Rattle.logical_plan.specs.PlanMeaning.{Meant, node_meant, plan_meaning}
use Rattle.logical_plan.specs.Steadiness.{Checked, OncesAreSteady, all_good, all_of, both, checked, constant, is_once, is_steady, known, node_checked, node_facts, still_if}

abbrev onces_in : PlanNode → ℕ → Onced
onces_in = fold-PlanNode (ℕ → Onced) Onced once_node (λ p. p.node p.at)

-- ---- any fold to which a Once node is nothing

module _ {A B : Type 0} (node_step : PlanNode-F A B → A) (plan_step : Plan-F A B → B)
    (nothing : (at : ℕ) (b : B) → plan_step (record { at = at; node = node_step (PlanNode-F.Once b) }) ≡ b) where
  abbrev of : Plan → B
  of = fold-Plan A B node_step plan_step

  abbrev in_node : PlanNode → A
  in_node = fold-PlanNode A B node_step plan_step

  abbrev IsKept : Plan → Type 0
  IsKept p = (inside : Bool) → of ((once_of p).plan inside) ≡ of p

  abbrev IsKeptNode : PlanNode → Type 0
  IsKeptNode n = (at : ℕ) (inside : Bool) → of ((onces_in n at).plan inside) ≡ plan_step (record { at = at; node = in_node n })

  abbrev Kept : Type 0
  Kept = (p : Plan) × IsKept p

  abbrev Layer : Type 0
  Layer = PlanNode-F ((n : PlanNode) × IsKeptNode n) Kept

  abbrev bare : Layer → PlanNode-F PlanNode Plan
  bare = map-PlanNode ((n : PlanNode) × IsKeptNode n) Kept PlanNode Plan (λ n. n.0) (λ p. p.0)

  abbrev onced : Layer → PlanNode-F (ℕ → Onced) Onced
  onced y = map-PlanNode PlanNode Plan (ℕ → Onced) Onced onces_in once_of (bare y)

  abbrev folded : Layer → PlanNode-F A B
  folded y = map-PlanNode PlanNode Plan A B in_node of (bare y)

  abbrev at_place : ℕ → PlanNode-F A B → B
  at_place at y = plan_step (record { at = at; node = node_step y })

  wrapped_is : (once : Bool) (at : ℕ) (n : PlanNode) → of (wrapped once at n) ≡ of (planned at n)
  wrapped_is true at n = of-Once node_step plan_step at (planned at n) ∙ nothing at (of (planned at n))
  wrapped_is false at n = refl

  all_same : (items : List Kept) (inside : Bool) → map of (map (λ (o : Onced). o.plan inside) (map once_of (map (λ p. p.0) items))) ≡ map of (map (λ p. p.0) items)
  all_same [] inside = refl
  all_same (p ∷ ps) inside = ap₂ (λ x xs. x ∷ xs) (p.1 inside) (all_same ps inside)

  -- a node over the children with their Once nodes
  over_same : (y : Layer) (at : ℕ) (inside : Bool) → of (planned at (node_over (λ (o : Onced). o.plan inside) (onced y))) ≡ at_place at (folded y)
  over_same (PlanNode-F.Number value) at inside = of-Number node_step plan_step at value
  over_same PlanNode-F.Time at inside = of-Time node_step plan_step at
  over_same (PlanNode-F.Select rules moment stamped) at inside = of-Select node_step plan_step at rules moment stamped
  over_same (PlanNode-F.Range rules moment range) at inside = of-Range node_step plan_step at rules moment range
  over_same (PlanNode-F.Subquery p range step moment) at inside =
      of-Subquery node_step plan_step at ((once_of p.0).plan inside) range step moment ∙ ap (λ x. at_place at (PlanNode-F.Subquery x range step moment)) (p.1 inside)
  over_same (PlanNode-F.Element f p ps) at inside =
      of-Element node_step plan_step at f ((once_of p.0).plan inside) _ ∙ ap₂ (λ x xs. at_place at (PlanNode-F.Element f x xs)) (p.1 inside) (all_same ps inside)
  over_same (PlanNode-F.Stamp p) at inside = of-Stamp node_step plan_step at ((once_of p.0).plan inside) ∙ ap (λ x. at_place at (PlanNode-F.Stamp x)) (p.1 inside)
  over_same (PlanNode-F.Window f p ps) at inside =
      of-Window node_step plan_step at f ((once_of p.0).plan inside) _ ∙ ap₂ (λ x xs. at_place at (PlanNode-F.Window f x xs)) (p.1 inside) (all_same ps inside)
  over_same (PlanNode-F.Absent labels p) at inside =
      of-Absent node_step plan_step at labels ((once_of p.0).plan inside) ∙ ap (λ x. at_place at (PlanNode-F.Absent labels x)) (p.1 inside)
  over_same (PlanNode-F.Buckets q p) at inside =
      of-Buckets node_step plan_step at ((once_of q.0).plan inside) ((once_of p.0).plan inside) ∙ ap₂ (λ x z. at_place at (PlanNode-F.Buckets x z)) (q.1 inside) (p.1 inside)
  over_same (PlanNode-F.Relabel rule p) at inside =
      of-Relabel node_step plan_step at rule ((once_of p.0).plan inside) ∙ ap (λ x. at_place at (PlanNode-F.Relabel rule x)) (p.1 inside)
  over_same (PlanNode-F.Sort down p) at inside =
      of-Sort node_step plan_step at down ((once_of p.0).plan inside) ∙ ap (λ x. at_place at (PlanNode-F.Sort down x)) (p.1 inside)
  over_same (PlanNode-F.ScalarOf p) at inside = of-ScalarOf node_step plan_step at ((once_of p.0).plan inside) ∙ ap (λ x. at_place at (PlanNode-F.ScalarOf x)) (p.1 inside)
  over_same (PlanNode-F.VectorOf p) at inside = of-VectorOf node_step plan_step at ((once_of p.0).plan inside) ∙ ap (λ x. at_place at (PlanNode-F.VectorOf x)) (p.1 inside)
  over_same (PlanNode-F.Group f by ps label) at inside =
      of-Group node_step plan_step at f by _ label ∙ ap (λ xs. at_place at (PlanNode-F.Group f by xs label)) (all_same ps inside)
  over_same (PlanNode-F.Pair op l r pairing) at inside =
      of-Pair node_step plan_step at op ((once_of l.0).plan inside) ((once_of r.0).plan inside) pairing ∙ ap₂ (λ x z. at_place at (PlanNode-F.Pair op x z pairing)) (l.1 inside) (r.1 inside)
  over_same (PlanNode-F.Set op l r pairing) at inside =
      of-Set node_step plan_step at op ((once_of l.0).plan inside) ((once_of r.0).plan inside) pairing ∙ ap₂ (λ x z. at_place at (PlanNode-F.Set op x z pairing)) (l.1 inside) (r.1 inside)
  over_same (PlanNode-F.Filter p rules) at inside =
      of-Filter node_step plan_step at ((once_of p.0).plan inside) rules ∙ ap (λ x. at_place at (PlanNode-F.Filter x rules)) (p.1 inside)
  over_same (PlanNode-F.Ratio l r) at inside =
      of-Ratio node_step plan_step at ((once_of l.0).plan inside) ((once_of r.0).plan inside) ∙ ap₂ (λ x z. at_place at (PlanNode-F.Ratio x z)) (l.1 inside) (r.1 inside)
  over_same (PlanNode-F.Once p) at inside = of-Once node_step plan_step at ((once_of p.0).plan inside) ∙ ap (λ x. at_place at (PlanNode-F.Once x)) (p.1 inside)
  over_same (PlanNode-F.Gather expr kind engines) at inside = of-Gather node_step plan_step at expr kind engines

  under_same : (y : Layer) (at : ℕ) (inside : Bool) → of (placed_over (onced y) at inside) ≡ at_place at (folded y)
  under_same y at inside =
      let known_facts = node_facts (λ (o : Onced). o.facts) (onced y) in
      let below = inside || (not inside && is_once known_facts) in
      wrapped_is (not inside && is_once known_facts) at (node_over (λ (o : Onced). o.plan below) (onced y)) ∙ over_same y at below

  level : (y : Layer) (at : ℕ) (inside : Bool) → of ((once_node (onced y) at).plan inside) ≡ at_place at (folded y)
  level (PlanNode-F.Number value) at inside = under_same (PlanNode-F.Number value) at inside
  level PlanNode-F.Time at inside = under_same PlanNode-F.Time at inside
  level (PlanNode-F.Select rules moment stamped) at inside = under_same (PlanNode-F.Select rules moment stamped) at inside
  level (PlanNode-F.Range rules moment range) at inside = under_same (PlanNode-F.Range rules moment range) at inside
  level (PlanNode-F.Subquery p range step moment) at inside = under_same (PlanNode-F.Subquery p range step moment) at inside
  level (PlanNode-F.Element f p ps) at inside = under_same (PlanNode-F.Element f p ps) at inside
  level (PlanNode-F.Stamp p) at inside = under_same (PlanNode-F.Stamp p) at inside
  level (PlanNode-F.Window f p ps) at inside = under_same (PlanNode-F.Window f p ps) at inside
  level (PlanNode-F.Absent labels p) at inside = under_same (PlanNode-F.Absent labels p) at inside
  level (PlanNode-F.Buckets q p) at inside = under_same (PlanNode-F.Buckets q p) at inside
  level (PlanNode-F.Relabel rule p) at inside = under_same (PlanNode-F.Relabel rule p) at inside
  level (PlanNode-F.Sort down p) at inside = under_same (PlanNode-F.Sort down p) at inside
  level (PlanNode-F.ScalarOf p) at inside = under_same (PlanNode-F.ScalarOf p) at inside
  level (PlanNode-F.VectorOf p) at inside = under_same (PlanNode-F.VectorOf p) at inside
  level (PlanNode-F.Group f by ps label) at inside = under_same (PlanNode-F.Group f by ps label) at inside
  level (PlanNode-F.Pair op l r pairing) at inside = under_same (PlanNode-F.Pair op l r pairing) at inside
  level (PlanNode-F.Set op l r pairing) at inside = under_same (PlanNode-F.Set op l r pairing) at inside
  level (PlanNode-F.Filter p rules) at inside = under_same (PlanNode-F.Filter p rules) at inside
  level (PlanNode-F.Ratio l r) at inside = under_same (PlanNode-F.Ratio l r) at inside
  level (PlanNode-F.Once p) at inside = p.1 inside ∙ sym (nothing at (of p.0))
  level (PlanNode-F.Gather expr kind engines) at inside = under_same (PlanNode-F.Gather expr kind engines) at inside

  node_kept : (y : Layer) → IsKeptNode (roll-PlanNode (bare y))
  node_kept y at inside =
      ap (λ (f : ℕ → Onced). of ((f at).plan inside)) (fold-roll-PlanNode (ℕ → Onced) Onced once_node (λ p. p.node p.at) (bare y))
      ∙ level y at inside
      ∙ ap (λ (a : A). plan_step (record { at = at; node = a })) (sym (fold-roll-PlanNode A B node_step plan_step (bare y)))

  plan_kept : (at : ℕ) (n : PlanNode) → IsKeptNode n → IsKept (roll-Plan (record { at = at; node = n }))
  plan_kept at n kept inside =
      ap (λ (o : Onced). of (o.plan inside)) (fold-roll-Plan (ℕ → Onced) Onced once_node (λ p. p.node p.at) (record { at = at; node = n }))
      ∙ kept at inside
      ∙ sym (fold-roll-Plan A B node_step plan_step (record { at = at; node = n }))

  pub onces_are_nothing : (p : Plan) → IsKept p
  onces_are_nothing = ind-Plan IsKeptNode IsKept
      (λ x y is. subst (λ z. IsKeptNode (roll-PlanNode z)) is (node_kept y))
      (λ x y is. subst (λ z. IsKept (roll-Plan z)) is (plan_kept y.at y.node.0 y.node.1))

-- ---- what is known of a plan by any fold that tells it

module _ {A B : Type 0} (node_step : PlanNode-F A B → A) (plan_step : Plan-F A B → B) (facts_of : B → Facts)
    (tells : (at : ℕ) (y : PlanNode-F A B) → facts_of (plan_step (record { at = at; node = node_step y })) ≡ node_facts facts_of y) where
  abbrev told : Plan → B
  told = fold-Plan A B node_step plan_step

  abbrev told_in : PlanNode → A
  told_in = fold-PlanNode A B node_step plan_step

  abbrev known_in : PlanNode → Facts
  known_in = fold-PlanNode Facts Facts (node_facts (λ f. f)) (λ p. p.node)

  abbrev IsTold : Plan → Type 0
  IsTold p = facts_of (told p) ≡ known p

  abbrev IsToldNode : PlanNode → Type 0
  IsToldNode n = (at : ℕ) → facts_of (plan_step (record { at = at; node = told_in n })) ≡ known_in n

  abbrev Told : Type 0
  Told = (p : Plan) × IsTold p

  abbrev ToldLayer : Type 0
  ToldLayer = PlanNode-F ((n : PlanNode) × IsToldNode n) Told

  abbrev bare_told : ToldLayer → PlanNode-F PlanNode Plan
  bare_told = map-PlanNode ((n : PlanNode) × IsToldNode n) Told PlanNode Plan (λ n. n.0) (λ p. p.0)

  all_told : (items : List Told) → map facts_of (map told (map (λ p. p.0) items)) ≡ map (λ f. f) (map known (map (λ p. p.0) items))
  all_told [] = refl
  all_told (p ∷ ps) = ap₂ (λ x xs. x ∷ xs) p.1 (all_told ps)

  level_told : (y : ToldLayer) → node_facts facts_of (map-PlanNode PlanNode Plan A B told_in told (bare_told y)) ≡ node_facts (λ f. f) (map-PlanNode PlanNode Plan Facts Facts known_in known (bare_told y))
  level_told (PlanNode-F.Number value) = refl
  level_told PlanNode-F.Time = refl
  level_told (PlanNode-F.Select rules moment stamped) = refl
  level_told (PlanNode-F.Range rules moment range) = refl
  level_told (PlanNode-F.Subquery p range step moment) = ap (λ (f : Facts). record f { table = false; fixed = has_fixed moment.fixed; own = false }) p.1
  level_told (PlanNode-F.Element f p ps) = ap₂ (λ x xs. all_of (both constant x) xs) p.1 (all_told ps)
  level_told (PlanNode-F.Stamp p) = ap (λ (f : Facts). still_if f.own (both constant f)) p.1
  level_told (PlanNode-F.Window f p ps) = ap₂ (λ x xs. still_if (steady_window f) (all_of (both constant x) xs)) p.1 (all_told ps)
  level_told (PlanNode-F.Absent labels p) = ap (both constant) p.1
  level_told (PlanNode-F.Buckets q p) = ap₂ both q.1 p.1
  level_told (PlanNode-F.Relabel rule p) = ap (both constant) p.1
  level_told (PlanNode-F.Sort down p) = ap (both constant) p.1
  level_told (PlanNode-F.ScalarOf p) = ap (both constant) p.1
  level_told (PlanNode-F.VectorOf p) = ap (both constant) p.1
  level_told (PlanNode-F.Group f by ps label) = ap (all_of constant) (all_told ps)
  level_told (PlanNode-F.Pair op l r pairing) = ap₂ both l.1 r.1
  level_told (PlanNode-F.Set op l r pairing) = ap₂ both l.1 r.1
  level_told (PlanNode-F.Filter p rules) = ap (λ (f : Facts). record f { own = false }) p.1
  level_told (PlanNode-F.Ratio l r) = ap₂ both l.1 r.1
  level_told (PlanNode-F.Once p) = p.1
  level_told (PlanNode-F.Gather expr kind engines) = refl

  node_told : (y : ToldLayer) → IsToldNode (roll-PlanNode (bare_told y))
  node_told y at =
      ap (λ (a : A). facts_of (plan_step (record { at = at; node = a }))) (fold-roll-PlanNode A B node_step plan_step (bare_told y))
      ∙ tells at (map-PlanNode PlanNode Plan A B told_in told (bare_told y))
      ∙ level_told y
      ∙ sym (fold-roll-PlanNode Facts Facts (node_facts (λ f. f)) (λ p. p.node) (bare_told y))

  plan_told : (at : ℕ) (n : PlanNode) → IsToldNode n → IsTold (roll-Plan (record { at = at; node = n }))
  plan_told at n is =
      ap facts_of (fold-roll-Plan A B node_step plan_step (record { at = at; node = n }))
      ∙ is at
      ∙ sym (fold-roll-Plan Facts Facts (node_facts (λ f. f)) (λ p. p.node) (record { at = at; node = n }))

  pub facts_are_told : (p : Plan) → IsTold p
  facts_are_told = ind-Plan IsToldNode IsTold
      (λ x y is. subst (λ z. IsToldNode (roll-PlanNode z)) is (node_told y))
      (λ x y is. subst (λ z. IsTold (roll-Plan z)) is (plan_told y.at y.node.0 y.node.1))

checked_facts : (p : Plan) → (checked p).facts ≡ known p
checked_facts p = facts_are_told node_checked (λ p. p.node) (λ (c : Checked). c.facts) (λ at y. refl) p

once_facts : (p : Plan) → (once_of p).facts ≡ known p
once_facts p = facts_are_told once_node (λ p. p.node p.at) (λ (o : Onced). o.facts) (λ at y. refl) p

-- a plan with its Once nodes is known to be what it is without them
once_known : (p : Plan) (inside : Bool) → known ((once_of p).plan inside) ≡ known p
once_known p inside = onces_are_nothing (node_facts (λ f. f)) (λ p. p.node) (λ at f. refl) p inside

-- ---- each Once node stands over a steady plan

and_true : (a b : Bool) → a ≡ true → b ≡ true → (a && b) ≡ true
and_true true b h i = i
and_true false b h i = absurd (cc)

steady_of : (a b s : Bool) → (a && b && s) ≡ true → s ≡ true
steady_of true true s h = h
steady_of true false s h = absurd (cc)
steady_of false true s h = absurd (cc)
steady_of false false s h = absurd (cc)

once_is_steady : (f : Facts) → is_once f ≡ true → is_steady f ≡ true
once_is_steady f h = steady_of f.table f.selects (is_steady f) h

abbrev IsGood : Plan → Type 0
IsGood p = (inside : Bool) → (checked ((once_of p).plan inside)).good ≡ true

abbrev IsGoodNode : PlanNode → Type 0
IsGoodNode n = (at : ℕ) (inside : Bool) → (checked ((onces_in n at).plan inside)).good ≡ true

abbrev Good : Type 0
Good = (p : Plan) × IsGood p

abbrev GoodLayer : Type 0
GoodLayer = PlanNode-F ((n : PlanNode) × IsGoodNode n) Good

abbrev plain : GoodLayer → PlanNode-F PlanNode Plan
plain = map-PlanNode ((n : PlanNode) × IsGoodNode n) Good PlanNode Plan (λ n. n.0) (λ p. p.0)

abbrev placed_in : GoodLayer → PlanNode-F (ℕ → Onced) Onced
placed_in y = map-PlanNode PlanNode Plan (ℕ → Onced) Onced onces_in once_of (plain y)

all_are_good : (items : List Good) (inside : Bool) → all_good (map checked (map (λ (o : Onced). o.plan inside) (map once_of (map (λ p. p.0) items)))) ≡ true
all_are_good [] inside = refl
all_are_good (p ∷ ps) inside =
    and_true (checked ((once_of p.0).plan inside)).good (all_good (map checked (map (λ (o : Onced). o.plan inside) (map once_of (map (λ p. p.0) ps))))) (p.1 inside) (all_are_good ps inside)

wrapped_good : (once : Bool) (at : ℕ) (n : PlanNode) → (checked (planned at n)).good ≡ true → (once ≡ true → is_steady (checked (planned at n)).facts ≡ true) → (checked (wrapped once at n)).good ≡ true
wrapped_good true at n good steady =
    ap (λ (c : Checked). c.good) (of-Once node_checked (λ p. p.node) at (planned at n))
    ∙ and_true (checked (planned at n)).good (is_steady (checked (planned at n)).facts) good (steady refl)
wrapped_good false at n good steady = good

-- a node that is no Once node, over children that are good
kind_good : (y : GoodLayer) → ((at : ℕ) → placed_plan (placed_in y) at ≡ placed_over (placed_in y) at)
    → ((at : ℕ) (inside : Bool) → (checked (planned at (node_over (λ (o : Onced). o.plan inside) (placed_in y)))).good ≡ true)
    → IsGoodNode (roll-PlanNode (plain y))
kind_good y same over at inside =
    ap (λ (f : ℕ → Onced). (checked ((f at).plan inside)).good) (fold-roll-PlanNode (ℕ → Onced) Onced once_node (λ p. p.node p.at) (plain y))
    ∙ ap (λ (f : Bool → Plan). (checked (f inside)).good) (same at)
    ∙ wrapped_good once at (node_over (λ (o : Onced). o.plan (inside || once)) (placed_in y)) (over at (inside || once)) steady
  where
    f : Facts
    f = node_facts (λ (o : Onced). o.facts) (placed_in y)

    once : Bool
    once = not inside && is_once f

    p : Plan
    p = planned at (roll-PlanNode (plain y))

    rolled : once_of p ≡ once_node (placed_in y) at
    rolled = fold-roll-Plan (ℕ → Onced) Onced once_node (λ p. p.node p.at) (record { at = at; node = roll-PlanNode (plain y) })
        ∙ ap (λ (h : ℕ → Onced). h at) (fold-roll-PlanNode (ℕ → Onced) Onced once_node (λ p. p.node p.at) (plain y))

    -- what stands under it is known to be what the plan is
    is_known : (checked (planned at (node_over (λ (o : Onced). o.plan true) (placed_in y)))).facts ≡ f
    is_known =
        checked_facts (planned at (node_over (λ (o : Onced). o.plan true) (placed_in y)))
        ∙ ap known (ap (λ (h : Bool → Plan). h true) (sym (same at)) ∙ ap (λ (o : Onced). o.plan true) (sym rolled))
        ∙ once_known p true
        ∙ sym (once_facts p)
        ∙ ap (λ (o : Onced). o.facts) rolled

    was_once : (a b : Bool) → (not a && b) ≡ true → (a ≡ false) × (b ≡ true)
    was_once false b h = (refl, h)
    was_once true b h = absurd (cc)

    below : (a b : Bool) → b ≡ true → (a || b) ≡ true
    below true b h = refl
    below false b h = h

    steady : once ≡ true → is_steady (checked (planned at (node_over (λ (o : Onced). o.plan (inside || once)) (placed_in y)))).facts ≡ true
    steady h =
        ap (λ (b : Bool). is_steady (checked (planned at (node_over (λ (o : Onced). o.plan b) (placed_in y)))).facts) (below inside once h)
        ∙ ap is_steady is_known ∙ once_is_steady f ((was_once inside (is_once f) h).1)

good_of : (p : Plan) (c : Checked) → checked p ≡ c → c.good ≡ true → (checked p).good ≡ true
good_of p c is good = ap (λ (c : Checked). c.good) is ∙ good

node_fits : (y : GoodLayer) → IsGoodNode (roll-PlanNode (plain y))
node_fits (PlanNode-F.Number value) = kind_good (PlanNode-F.Number value) (λ at. refl) (λ at b. good_of _ _ (of-Number node_checked (λ p. p.node) at value) refl)
node_fits PlanNode-F.Time = kind_good PlanNode-F.Time (λ at. refl) (λ at b. good_of _ _ (of-Time node_checked (λ p. p.node) at) refl)
node_fits (PlanNode-F.Select rules moment stamped) =
    kind_good (PlanNode-F.Select rules moment stamped) (λ at. refl) (λ at b. good_of _ _ (of-Select node_checked (λ p. p.node) at rules moment stamped) refl)
node_fits (PlanNode-F.Range rules moment range) =
    kind_good (PlanNode-F.Range rules moment range) (λ at. refl) (λ at b. good_of _ _ (of-Range node_checked (λ p. p.node) at rules moment range) refl)
node_fits (PlanNode-F.Subquery p range step moment) =
    kind_good (PlanNode-F.Subquery p range step moment) (λ at. refl) (λ at b. good_of _ _ (of-Subquery node_checked (λ p. p.node) at _ range step moment) (p.1 b))
node_fits (PlanNode-F.Element f p ps) =
    kind_good (PlanNode-F.Element f p ps) (λ at. refl) (λ at b. good_of _ _ (of-Element node_checked (λ p. p.node) at f _ _) (and_true _ _ (p.1 b) (all_are_good ps b)))
node_fits (PlanNode-F.Stamp p) = kind_good (PlanNode-F.Stamp p) (λ at. refl) (λ at b. good_of _ _ (of-Stamp node_checked (λ p. p.node) at _) (p.1 b))
node_fits (PlanNode-F.Window f p ps) =
    kind_good (PlanNode-F.Window f p ps) (λ at. refl) (λ at b. good_of _ _ (of-Window node_checked (λ p. p.node) at f _ _) (and_true _ _ (p.1 b) (all_are_good ps b)))
node_fits (PlanNode-F.Absent labels p) = kind_good (PlanNode-F.Absent labels p) (λ at. refl) (λ at b. good_of _ _ (of-Absent node_checked (λ p. p.node) at labels _) (p.1 b))
node_fits (PlanNode-F.Buckets q p) =
    kind_good (PlanNode-F.Buckets q p) (λ at. refl) (λ at b. good_of _ _ (of-Buckets node_checked (λ p. p.node) at _ _) (and_true _ _ (q.1 b) (p.1 b)))
node_fits (PlanNode-F.Relabel rule p) = kind_good (PlanNode-F.Relabel rule p) (λ at. refl) (λ at b. good_of _ _ (of-Relabel node_checked (λ p. p.node) at rule _) (p.1 b))
node_fits (PlanNode-F.Sort down p) = kind_good (PlanNode-F.Sort down p) (λ at. refl) (λ at b. good_of _ _ (of-Sort node_checked (λ p. p.node) at down _) (p.1 b))
node_fits (PlanNode-F.ScalarOf p) = kind_good (PlanNode-F.ScalarOf p) (λ at. refl) (λ at b. good_of _ _ (of-ScalarOf node_checked (λ p. p.node) at _) (p.1 b))
node_fits (PlanNode-F.VectorOf p) = kind_good (PlanNode-F.VectorOf p) (λ at. refl) (λ at b. good_of _ _ (of-VectorOf node_checked (λ p. p.node) at _) (p.1 b))
node_fits (PlanNode-F.Group f by ps label) =
    kind_good (PlanNode-F.Group f by ps label) (λ at. refl) (λ at b. good_of _ _ (of-Group node_checked (λ p. p.node) at f by _ label) (all_are_good ps b))
node_fits (PlanNode-F.Pair op l r pairing) =
    kind_good (PlanNode-F.Pair op l r pairing) (λ at. refl) (λ at b. good_of _ _ (of-Pair node_checked (λ p. p.node) at op _ _ pairing) (and_true _ _ (l.1 b) (r.1 b)))
node_fits (PlanNode-F.Set op l r pairing) =
    kind_good (PlanNode-F.Set op l r pairing) (λ at. refl) (λ at b. good_of _ _ (of-Set node_checked (λ p. p.node) at op _ _ pairing) (and_true _ _ (l.1 b) (r.1 b)))
node_fits (PlanNode-F.Filter p rules) = kind_good (PlanNode-F.Filter p rules) (λ at. refl) (λ at b. good_of _ _ (of-Filter node_checked (λ p. p.node) at _ rules) (p.1 b))
node_fits (PlanNode-F.Ratio l r) =
    kind_good (PlanNode-F.Ratio l r) (λ at. refl) (λ at b. good_of _ _ (of-Ratio node_checked (λ p. p.node) at _ _) (and_true _ _ (l.1 b) (r.1 b)))
node_fits (PlanNode-F.Once p) =
    λ at inside. ap (λ (f : ℕ → Onced). (checked ((f at).plan inside)).good) (fold-roll-PlanNode (ℕ → Onced) Onced once_node (λ p. p.node p.at) (PlanNode-F.Once p.0)) ∙ p.1 inside
node_fits (PlanNode-F.Gather expr kind engines) =
    kind_good (PlanNode-F.Gather expr kind engines) (λ at. refl) (λ at b. good_of _ _ (of-Gather node_checked (λ p. p.node) at expr kind engines) refl)

plan_fits : (at : ℕ) (n : PlanNode) → IsGoodNode n → IsGood (roll-Plan (record { at = at; node = n }))
plan_fits at n good inside = ap (λ (o : Onced). (checked (o.plan inside)).good) (fold-roll-Plan (ℕ → Onced) Onced once_node (λ p. p.node p.at) (record { at = at; node = n })) ∙ good at inside

all_fit : (p : Plan) → IsGood p
all_fit = ind-Plan IsGoodNode IsGood
    (λ x y is. subst (λ z. IsGoodNode (roll-PlanNode z)) is (node_fits y))
    (λ x y is. subst (λ z. IsGood (roll-Plan z)) is (plan_fits y.at y.node.0 y.node.1))

pub onces_are_steady : (p : Plan) → OncesAreSteady (with_onces p)
onces_are_steady p = all_fit p false

pub onces_keep : (asked : Asked) (p : Plan) (t : ℤ) → plan_meaning asked (with_onces p) t ≡ plan_meaning asked p t
onces_keep asked p t = ap (λ (m : Meant). m.gives t) (onces_are_nothing (node_meant asked) (λ p. p.node) (λ at m. refl) p false)
