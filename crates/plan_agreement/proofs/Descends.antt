-- What becomes of a plan in which parts are replaced is related to it, where what is put in the place of a part is related to that.
use Rattle.std.proofs.Common.{◌≡◌, ◌∙◌, ℕ, List, [], ◌∷◌, map, ap, ap₂, sym, refl, subst, Option, Some, None}
use Rattle.std.specs.Prelude.{unwrap_or, ⊤}
use Rattle.std.specs.List.{AllByRecursion, AllZip}
use Rattle.logical_plan.specs.Lowering.{planned}
use Rattle.logical_plan.specs.Onces.{node_over}
use Rattle.logical_plan.specs.PlanFolds.{by_node, layer_of, of-Number, of-Time, of-Select, of-Range, of-Subquery, of-Element, of-Stamp, of-Window, of-Absent, of-Buckets, of-Relabel, of-Sort, of-ScalarOf, of-VectorOf, of-Group, of-Pair, of-Set, of-Filter, of-Ratio, of-Once, of-Gather}
use Rattle.logical_plan.specs.Validity.{children}
use Rattle.logical_plan.specs.declared.nodes.Plan.{Plan}
use Rattle.logical_plan.specs.declared.nodes.PlanNode.{PlanNode}
use Rattle.logical_plan.specs.declared.nodes.PlanNode.TheVariants as node
use Rattle.logical_plan.specs.declared.nodes.PlanNode.TheOpen.{PlanNode-F, Plan-F}
use Rattle.logical_plan.specs.declared.nodes.PlanNode.TheViews.{out-PlanNode, out-roll-PlanNode, roll-PlanNode, roll-Plan, roll-out-PlanNode, outs-Number, outs-Time, outs-Select, outs-Range, outs-Subquery, outs-Element, outs-Stamp, outs-Window, outs-Absent, outs-Buckets, outs-Relabel, outs-Sort, outs-ScalarOf, outs-VectorOf, outs-Group, outs-Pair, outs-Set, outs-Filter, outs-Ratio, outs-Once, outs-Gather}
use Rattle.logical_plan.specs.declared.nodes.PlanNode.TheFolds.{fold-Plan, fold-PlanNode, fold-roll-PlanNode, fold-roll-Plan, ind-Plan, map-PlanNode}
use Rattle.plan_agreement.specs.Descents.{Descent, Replacing, descended, descent, descent_node}
use Rattle.plan_agreement.specs.SameNodes.{SameNode, number, time, select, range, subquery, element, stamp, window, absent, buckets, relabel, sort, scalar_of, vector_of, group, pair, set, filtered, ratio, once, gather}

-- a node is rolled up of what it is
rolls : (n : PlanNode) (y : PlanNode-F PlanNode Plan) → out-PlanNode n ≡ y → n ≡ roll-PlanNode y
rolls n y e = sym (roll-out-PlanNode n) ∙ ap roll-PlanNode e

module _ {A B : Type 0} (node_step : PlanNode-F A B → A) (plan_step : Plan-F A B → B) where
  abbrev pub of : Plan → B
  of = fold-Plan A B node_step plan_step

  abbrev pub of_node : PlanNode → A
  of_node = fold-PlanNode A B node_step plan_step

  abbrev pub made : ℕ → PlanNode-F A B → B
  made at y = plan_step (record { at = at; node = node_step y })

  -- a node with what the fold makes of each child in its place
  abbrev pub folded : PlanNode-F PlanNode Plan → PlanNode-F A B
  folded y = map-PlanNode PlanNode Plan A B of_node of y

  pub rolled : (at : ℕ) (y : PlanNode-F PlanNode Plan) → of (planned at (roll-PlanNode y)) ≡ made at (folded y)
  rolled at y =
      fold-roll-Plan A B node_step plan_step (record { at = at; node = roll-PlanNode y })
      ∙ ap (λ (a : A). plan_step (record { at = at; node = a })) (fold-roll-PlanNode A B node_step plan_step y)

trivial : (ps : List Plan) → AllByRecursion (λ p. ⊤) ps
trivial [] = tt
trivial (p ∷ ps) = (tt, trivial ps)

module _ (f : Replacing) where
  abbrev descents_of : PlanNode-F PlanNode Plan → PlanNode-F (ℕ → Descent) Descent
  descents_of = folded (descent_node f) (λ p. p.node p.at)

  -- ---- what is left as it is

  module _ (part : Descent → Plan) (over : (y : PlanNode-F (ℕ → Descent) Descent) (at : ℕ) → part (descent_node f y at) ≡ planned at (node_over part y)) where
    abbrev IsSelf : Plan → Type 0
    IsSelf p = part (descent f p) ≡ p

    abbrev IsSelfNode : PlanNode → Type 0
    IsSelfNode n = (at : ℕ) → IsSelf (planned at n)

    abbrev Self : Type 0
    Self = (p : Plan) × IsSelf p

    abbrev SelfLayer : Type 0
    SelfLayer = PlanNode-F ((n : PlanNode) × IsSelfNode n) Self

    abbrev selves : SelfLayer → PlanNode-F PlanNode Plan
    selves = map-PlanNode ((n : PlanNode) × IsSelfNode n) Self PlanNode Plan (λ e. e.0) (λ e. e.0)

    all_selves : (ps : List Self) → map part (map (descent f) (map (λ (p : Self). p.0) ps)) ≡ map (λ (p : Self). p.0) ps
    all_selves [] = refl
    all_selves (p ∷ ps) = ap₂ (λ (q : Plan) (qs : List Plan). q ∷ qs) p.1 (all_selves ps)

    over_self : (y : SelfLayer) → node_over part (descents_of (selves y)) ≡ roll-PlanNode (selves y)
    over_self (PlanNode-F.Number value) = rolls (node.Number value) _ (rw outs-Number refl)
    over_self PlanNode-F.Time = rolls node.Time _ (rw outs-Time refl)
    over_self (PlanNode-F.Select rules moment stamped) = rolls (node.Select rules moment stamped) _ (rw outs-Select refl)
    over_self (PlanNode-F.Range rules moment length) = rolls (node.Range rules moment length) _ (rw outs-Range refl)
    over_self (PlanNode-F.Subquery c length step moment) = ap (λ q. node.Subquery q length step moment) c.1 ∙ rolls (node.Subquery c.0 length step moment) _ (rw outs-Subquery refl)
    over_self (PlanNode-F.Element g c cs) = ap₂ (node.Element g) c.1 (all_selves cs) ∙ rolls (node.Element g c.0 (map (λ (p : Self). p.0) cs)) _ (rw outs-Element refl)
    over_self (PlanNode-F.Stamp c) = ap node.Stamp c.1 ∙ rolls (node.Stamp c.0) _ (rw outs-Stamp refl)
    over_self (PlanNode-F.Window g c cs) = ap₂ (node.Window g) c.1 (all_selves cs) ∙ rolls (node.Window g c.0 (map (λ (p : Self). p.0) cs)) _ (rw outs-Window refl)
    over_self (PlanNode-F.Absent labels c) = ap (node.Absent labels) c.1 ∙ rolls (node.Absent labels c.0) _ (rw outs-Absent refl)
    over_self (PlanNode-F.Buckets c d) = ap₂ node.Buckets c.1 d.1 ∙ rolls (node.Buckets c.0 d.0) _ (rw outs-Buckets refl)
    over_self (PlanNode-F.Relabel rule c) = ap (node.Relabel rule) c.1 ∙ rolls (node.Relabel rule c.0) _ (rw outs-Relabel refl)
    over_self (PlanNode-F.Sort down c) = ap (node.Sort down) c.1 ∙ rolls (node.Sort down c.0) _ (rw outs-Sort refl)
    over_self (PlanNode-F.ScalarOf c) = ap node.ScalarOf c.1 ∙ rolls (node.ScalarOf c.0) _ (rw outs-ScalarOf refl)
    over_self (PlanNode-F.VectorOf c) = ap node.VectorOf c.1 ∙ rolls (node.VectorOf c.0) _ (rw outs-VectorOf refl)
    over_self (PlanNode-F.Group g grouping cs label) = ap (λ qs. node.Group g grouping qs label) (all_selves cs) ∙ rolls (node.Group g grouping (map (λ (p : Self). p.0) cs) label) _ (rw outs-Group refl)
    over_self (PlanNode-F.Pair op c d pairing) = ap₂ (λ q r. node.Pair op q r pairing) c.1 d.1 ∙ rolls (node.Pair op c.0 d.0 pairing) _ (rw outs-Pair refl)
    over_self (PlanNode-F.Set op c d pairing) = ap₂ (λ q r. node.Set op q r pairing) c.1 d.1 ∙ rolls (node.Set op c.0 d.0 pairing) _ (rw outs-Set refl)
    over_self (PlanNode-F.Filter c rules) = ap (λ q. node.Filter q rules) c.1 ∙ rolls (node.Filter c.0 rules) _ (rw outs-Filter refl)
    over_self (PlanNode-F.Ratio c d) = ap₂ node.Ratio c.1 d.1 ∙ rolls (node.Ratio c.0 d.0) _ (rw outs-Ratio refl)
    over_self (PlanNode-F.Once c) = ap node.Once c.1 ∙ rolls (node.Once c.0) _ (rw outs-Once refl)
    over_self (PlanNode-F.Gather expr kind engines) = rolls (node.Gather expr kind engines) _ (rw outs-Gather refl)

    node_self : (y : SelfLayer) → IsSelfNode (roll-PlanNode (selves y))
    node_self y at = ap part (rolled (descent_node f) (λ p. p.node p.at) at (selves y)) ∙ over (descents_of (selves y)) at ∙ ap (planned at) (over_self y)

    pub itself : (p : Plan) → part (descent f p) ≡ p
    itself = ind-Plan IsSelfNode IsSelf
        (λ x y is. subst (λ z. IsSelfNode (roll-PlanNode z)) is (node_self y))
        (λ x y is. subst (λ z. IsSelf (roll-Plan z)) is (y.node.1 y.at))

  pub before_is : (p : Plan) → (descent f p).before ≡ p
  before_is = itself (λ (d : Descent). d.before) (λ y at. refl)

  pub nothing_replaced : ((q : Plan) → f q ≡ None) → (p : Plan) → descended f p ≡ p
  nothing_replaced none =
      itself (λ (d : Descent). d.after)
      (λ y at. ap (λ (o : Option Plan). unwrap_or o (planned at (node_over (λ (d : Descent). d.after) y))) (none (planned at (node_over (λ (d : Descent). d.before) y))))

  -- ---- what is related to what it was

  module _ {A B : Type 0} (node_step : PlanNode-F A B → A) (plan_step : Plan-F A B → B) (R : B → B → Type 0)
      (levels : (at : ℕ) (y z : PlanNode-F A B) → SameNode R y z → R (made node_step plan_step at y) (made node_step plan_step at z))
      (V : Plan → Type 0) (down : (p : Plan) → V p → AllByRecursion V (children (out-PlanNode p.node))) (puts : (p q : Plan) → f p ≡ Some q → V p → R (of node_step plan_step q) (of node_step plan_step p)) where
    abbrev F : Plan → B
    F = of node_step plan_step

    abbrev IsKept : Plan → Type 0
    IsKept p = V p → R (F (descended f p)) (F p)

    abbrev IsKeptNode : PlanNode → Type 0
    IsKeptNode n = (at : ℕ) → IsKept (planned at n)

    abbrev Part : Type 0
    Part = (p : Plan) × IsKept p

    abbrev Layer : Type 0
    Layer = PlanNode-F ((n : PlanNode) × IsKeptNode n) Part

    abbrev plans : Layer → PlanNode-F PlanNode Plan
    plans = map-PlanNode ((n : PlanNode) × IsKeptNode n) Part PlanNode Plan (λ e. e.0) (λ e. e.0)

    abbrev after : Descent → Plan
    after d = d.after

    abbrev afters : List Part → List Plan
    afters cs = map after (map (descent f) (map (λ (p : Part). p.0) cs))

    all_kept : (cs : List Part) → AllByRecursion V (map (λ (p : Part). p.0) cs) → AllZip R (map F (afters cs)) (map F (map (λ (p : Part). p.0) cs))
    all_kept [] v = tt
    all_kept (c ∷ cs) v = (c.1 v.0, all_kept cs v.1)

    abbrev M : ℕ → PlanNode-F A B → B
    M = made node_step plan_step

    -- what is made of a node over what becomes of its children, of which the fold is known
    over : (at : ℕ) (q : Plan) (y z : PlanNode-F A B) → F q ≡ M at y → SameNode R y z → R (F q) (M at z)
    over at q y z e s = subst (λ (b : B). R b (M at z)) (sym e) (levels at y z s)

    level : (at : ℕ) (y : Layer) → AllByRecursion V (children (plans y)) → R (F (planned at (node_over after (descents_of (plans y))))) (M at (folded node_step plan_step (plans y)))
    level at (PlanNode-F.Number value) v = over at _ _ _ (of-Number node_step plan_step at value) (number value)
    level at PlanNode-F.Time v = over at _ _ _ (of-Time node_step plan_step at) time
    level at (PlanNode-F.Select rules moment stamped) v = over at _ _ _ (of-Select node_step plan_step at rules moment stamped) (select rules moment stamped)
    level at (PlanNode-F.Range rules moment length) v = over at _ _ _ (of-Range node_step plan_step at rules moment length) (range rules moment length)
    level at (PlanNode-F.Subquery c length step moment) v =
        over at _ _ _ (of-Subquery node_step plan_step at (descended f c.0) length step moment) (subquery (F (descended f c.0)) (F c.0) length step moment (c.1 v.0))
    level at (PlanNode-F.Element g c cs) v =
        over at _ _ _ (of-Element node_step plan_step at g (descended f c.0) (afters cs)) (element g (F (descended f c.0)) (F c.0) (map F (afters cs)) (map F (map (λ (p : Part). p.0) cs)) (c.1 v.0) (all_kept cs v.1))
    level at (PlanNode-F.Stamp c) v = over at _ _ _ (of-Stamp node_step plan_step at (descended f c.0)) (stamp (F (descended f c.0)) (F c.0) (c.1 v.0))
    level at (PlanNode-F.Window g c cs) v =
        over at _ _ _ (of-Window node_step plan_step at g (descended f c.0) (afters cs)) (window g (F (descended f c.0)) (F c.0) (map F (afters cs)) (map F (map (λ (p : Part). p.0) cs)) (c.1 v.0) (all_kept cs v.1))
    level at (PlanNode-F.Absent labels c) v = over at _ _ _ (of-Absent node_step plan_step at labels (descended f c.0)) (absent labels (F (descended f c.0)) (F c.0) (c.1 v.0))
    level at (PlanNode-F.Buckets c d) v =
        over at _ _ _ (of-Buckets node_step plan_step at (descended f c.0) (descended f d.0)) (buckets (F (descended f c.0)) (F (descended f d.0)) (F c.0) (F d.0) (c.1 v.0) (d.1 v.1.0))
    level at (PlanNode-F.Relabel rule c) v = over at _ _ _ (of-Relabel node_step plan_step at rule (descended f c.0)) (relabel rule (F (descended f c.0)) (F c.0) (c.1 v.0))
    level at (PlanNode-F.Sort down c) v = over at _ _ _ (of-Sort node_step plan_step at down (descended f c.0)) (sort down (F (descended f c.0)) (F c.0) (c.1 v.0))
    level at (PlanNode-F.ScalarOf c) v = over at _ _ _ (of-ScalarOf node_step plan_step at (descended f c.0)) (scalar_of (F (descended f c.0)) (F c.0) (c.1 v.0))
    level at (PlanNode-F.VectorOf c) v = over at _ _ _ (of-VectorOf node_step plan_step at (descended f c.0)) (vector_of (F (descended f c.0)) (F c.0) (c.1 v.0))
    level at (PlanNode-F.Group g grouping cs label) v =
        over at _ _ _ (of-Group node_step plan_step at g grouping (afters cs) label) (group g grouping (map F (afters cs)) (map F (map (λ (p : Part). p.0) cs)) label (all_kept cs v))
    level at (PlanNode-F.Pair op c d pairing) v =
        over at _ _ _ (of-Pair node_step plan_step at op (descended f c.0) (descended f d.0) pairing) (pair op (F (descended f c.0)) (F (descended f d.0)) (F c.0) (F d.0) pairing (c.1 v.0) (d.1 v.1.0))
    level at (PlanNode-F.Set op c d pairing) v =
        over at _ _ _ (of-Set node_step plan_step at op (descended f c.0) (descended f d.0) pairing) (set op (F (descended f c.0)) (F (descended f d.0)) (F c.0) (F d.0) pairing (c.1 v.0) (d.1 v.1.0))
    level at (PlanNode-F.Filter c rules) v = over at _ _ _ (of-Filter node_step plan_step at (descended f c.0) rules) (filtered (F (descended f c.0)) (F c.0) rules (c.1 v.0))
    level at (PlanNode-F.Ratio c d) v =
        over at _ _ _ (of-Ratio node_step plan_step at (descended f c.0) (descended f d.0)) (ratio (F (descended f c.0)) (F (descended f d.0)) (F c.0) (F d.0) (c.1 v.0) (d.1 v.1.0))
    level at (PlanNode-F.Once c) v = over at _ _ _ (of-Once node_step plan_step at (descended f c.0)) (once (F (descended f c.0)) (F c.0) (c.1 v.0))
    level at (PlanNode-F.Gather expr kind engines) v = over at _ _ _ (of-Gather node_step plan_step at expr kind engines) (gather expr kind engines)

    -- a plan or what is put in its place
    either : (p rest : Plan) → V p → R (F rest) (F p) → (o : Option Plan) → f p ≡ o → R (F (unwrap_or o rest)) (F p)
    either p rest v k None e = k
    either p rest v k (Some q) e = puts p q e v

    node_kept : (y : Layer) → IsKeptNode (roll-PlanNode (plans y))
    node_kept y at v =
        let p : Plan = planned at (roll-PlanNode (plans y)) in
        let ds : PlanNode-F (ℕ → Descent) Descent = descents_of (plans y) in
        let before : Plan = planned at (node_over (λ (d : Descent). d.before) ds) in
        let rest : Plan = planned at (node_over after ds) in
        let is : descent f p ≡ descent_node f ds at = rolled (descent_node f) (λ p. p.node p.at) at (plans y) in
        let same : before ≡ p = sym (ap (λ (d : Descent). d.before) is) ∙ before_is p in
        let becomes : descended f p ≡ unwrap_or (f p) rest = ap (λ (d : Descent). d.after) is ∙ ap (λ (q : Plan). unwrap_or (f q) rest) same in
        let below : AllByRecursion V (children (plans y)) = subst (λ (z : PlanNode-F PlanNode Plan). AllByRecursion V (children z)) (out-roll-PlanNode (plans y)) (down p v) in
        let kept : R (F rest) (F p) = subst (R (F rest)) (sym (rolled node_step plan_step at (plans y))) (level at y below) in
        subst (λ (q : Plan). R (F q) (F p)) (sym becomes) (either p rest v kept (f p) refl)

    pub every_in : (p : Plan) → V p → R (F (descended f p)) (F p)
    every_in = ind-Plan IsKeptNode IsKept
        (λ x y is. subst (λ z. IsKeptNode (roll-PlanNode z)) is (node_kept y))
        (λ x y is. subst (λ z. IsKept (roll-Plan z)) is (y.node.1 y.at))

  module _ {A B : Type 0} (node_step : PlanNode-F A B → A) (plan_step : Plan-F A B → B) (R : B → B → Type 0)
      (levels : (at : ℕ) (y z : PlanNode-F A B) → SameNode R y z → R (made node_step plan_step at y) (made node_step plan_step at z))
      (puts : (p q : Plan) → f p ≡ Some q → R (of node_step plan_step q) (of node_step plan_step p)) where
    pub every : (p : Plan) → R (of node_step plan_step (descended f p)) (of node_step plan_step p)
    every p = every_in node_step plan_step R levels (λ q. ⊤) (λ q v. trivial (children (out-PlanNode q.node))) (λ p q e v. puts p q e) p tt

-- ---- one node after another

module _ {A B C D : Type 0} (g : A → C) (h : B → D) (of_child : D → Plan) where
  abbrev over_child : B → Plan
  over_child b = of_child (h b)

  mapped_twice : (bs : List B) → map of_child (map h bs) ≡ map over_child bs
  mapped_twice [] = refl
  mapped_twice (b ∷ bs) = ap (λ (ps : List Plan). over_child b ∷ ps) (mapped_twice bs)

  over_mapped : (y : PlanNode-F A B) → node_over of_child (map-PlanNode A B C D g h y) ≡ node_over over_child y
  over_mapped (PlanNode-F.Number value) = refl
  over_mapped PlanNode-F.Time = refl
  over_mapped (PlanNode-F.Select rules moment stamped) = refl
  over_mapped (PlanNode-F.Range rules moment length) = refl
  over_mapped (PlanNode-F.Subquery c length step moment) = refl
  over_mapped (PlanNode-F.Element f c cs) = ap (node.Element f (over_child c)) (mapped_twice cs)
  over_mapped (PlanNode-F.Stamp c) = refl
  over_mapped (PlanNode-F.Window f c cs) = ap (node.Window f (over_child c)) (mapped_twice cs)
  over_mapped (PlanNode-F.Absent labels c) = refl
  over_mapped (PlanNode-F.Buckets c d) = refl
  over_mapped (PlanNode-F.Relabel rule c) = refl
  over_mapped (PlanNode-F.Sort down c) = refl
  over_mapped (PlanNode-F.ScalarOf c) = refl
  over_mapped (PlanNode-F.VectorOf c) = refl
  over_mapped (PlanNode-F.Group f grouping cs label) = ap (λ (ps : List Plan). node.Group f grouping ps label) (mapped_twice cs)
  over_mapped (PlanNode-F.Pair op c d pairing) = refl
  over_mapped (PlanNode-F.Set op c d pairing) = refl
  over_mapped (PlanNode-F.Filter c rules) = refl
  over_mapped (PlanNode-F.Ratio c d) = refl
  over_mapped (PlanNode-F.Once c) = refl
  over_mapped (PlanNode-F.Gather expr kind engines) = refl

pub descended_by_node : (f : Replacing) (p : Plan) → descended f p ≡ unwrap_or (f p) (planned p.at (node_over (descended f) (out-PlanNode p.node)))
descended_by_node f p =
    let y : PlanNode-F (ℕ → Descent) Descent = layer_of (descent_node f) (λ p. p.node p.at) p in
    let is : descent f p ≡ descent_node f y p.at = by_node (descent_node f) (λ p. p.node p.at) p in
    let same : planned p.at (node_over (λ (d : Descent). d.before) y) ≡ p = sym (ap (λ (d : Descent). d.before) is) ∙ before_is f p in
    ap (λ (d : Descent). d.after) is
    ∙ ap (λ (q : Plan). unwrap_or (f q) (planned p.at (node_over (λ (d : Descent). d.after) y))) same
    ∙ ap (λ (n : PlanNode). unwrap_or (f p) (planned p.at n)) (over_mapped (fold-PlanNode (ℕ → Descent) Descent (descent_node f) (λ p. p.node p.at)) (descent f) (λ (d : Descent). d.after) (out-PlanNode p.node))
