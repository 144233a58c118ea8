-- Children of plans that are typed, within the limits and served are so too.
use Rattle.std.proofs.Common.{◌≡◌, ◌≤◌, ◌∙◌, ℕ, List, [], ◌∷◌, map, Bool, true, false, ap, sym, subst, arith}
use Rattle.std.specs.Prelude.{◌&&◌, ⊤}
use Rattle.std.specs.List.{AllByRecursion}
use Rattle.frac_text.specs.Times.{time_limit}
use Rattle.holders.specs.Joins.{back_of, front_of}
use Rattle.label_set.specs.declared.rules.PatternId.{PatternId}
use Rattle.label_set.specs.declared.rules.Rule.{Rule}
use Rattle.logical_plan.specs.PlanFolds.{by_node}
use Rattle.logical_plan.specs.PlanTypes.{Typing, are_sound, is_element, is_group, is_of, is_pair, is_relabel, is_sound, is_stamped, is_unstamped, is_window, kinds_of, node_typed, node_typing, typing}
use Rattle.logical_plan.specs.Validity.{Measure, all_parts, children, measured, node_measure, own_parts}
use Rattle.logical_plan.specs.declared.nodes.Plan.{Plan}
use Rattle.logical_plan.specs.declared.nodes.PlanNode.TheOpen.{PlanNode-F}
use Rattle.match_rule.specs.Patterns.{HasItsPattern, HaveTheirPatterns, IsWholeId}
use Rattle.op_labels.specs.Rules.{Kept}
use Rattle.promql_ast.specs.Depth.{greatest}
use Rattle.promql_ast.specs.Parts.{AreWithin, IsWithin, Part}
use Rattle.promql_type.specs.Kinds.{is_kind}
use Rattle.promql_type.specs.declared.kind.Kind.{Kind}
use Rattle.promql_type.specs.declared.kind.Kind.TheVariants.{Scalar, Vector}
use Rattle.ticks.specs.Durations.{hundred_years}
use Rattle.plan_bases.specs.Bases.{HoldsPlan, Lists}
use Rattle.plan_bases.specs.LeafLaws.{ReadingHolds, children_hold}
use Rattle.plan_bases.specs.Leaves.{Reading, node_reading, reading}
use Rattle.plan_parts.specs.Parts.{IsChild}
use Rattle.plan_serving.specs.Serving.{Asks, IsServedBy, Serving, all_patterns, all_rules, are_served, asks_selectors, node_serving_by, own_patterns, own_rules, own_served, serving_by}
use Rattle.phys_plan.specs.Growth.{IsInPlace}
use Rattle.phys_plan.proofs.Layers.{child_in, in_all, layer}

pub left_true : (a b : Bool) → (a && b) ≡ true → a ≡ true
left_true true b h = λ i. true
left_true false b h = h

pub right_true : (a b : Bool) → (a && b) ≡ true → b ≡ true
right_true true b h = h
right_true false b h = absurd (cc)

-- ---- types

abbrev HasType : Typing → Type 0
HasType t = t.typed ≡ true

sound_typed : (t : Typing) → is_sound t ≡ true → HasType t
sound_typed t h = left_true t.typed (is_unstamped t.select) h

all_sound : (ts : List Typing) → are_sound ts ≡ true → AllByRecursion HasType ts
all_sound [] h = tt
all_sound (t ∷ ts) h = (sound_typed t (left_true (is_sound t) (are_sound ts) h), all_sound ts (right_true (is_sound t) (are_sound ts) h))

of_typed : (kind : Kind) (t : Typing) → is_of kind t ≡ true → HasType t
of_typed kind t h = sound_typed t (left_true (is_sound t) (is_kind kind t.kind) h)

called_typed : (t : Typing) (ts : List Typing) (b : Bool) → (is_sound t && are_sound ts && b) ≡ true → AllByRecursion HasType (t ∷ ts)
called_typed t ts b h =
    let both = left_true (is_sound t && are_sound ts) b h in
    (sound_typed t (left_true (is_sound t) (are_sound ts) both), all_sound ts (right_true (is_sound t) (are_sound ts) both))

typed_all : (y : PlanNode-F Typing Typing) → node_typed y ≡ true → AllByRecursion HasType (children y)
typed_all (PlanNode-F.Number value) h = tt
typed_all PlanNode-F.Time h = tt
typed_all (PlanNode-F.Select rules moment stamped) h = tt
typed_all (PlanNode-F.Range rules moment range) h = tt
typed_all (PlanNode-F.Subquery inner range step moment) h = (of_typed Vector inner h, tt)
typed_all (PlanNode-F.Element f inner arguments) h = called_typed inner arguments (is_element f inner.kind (kinds_of arguments)) h
typed_all (PlanNode-F.Stamp inner) h = (left_true inner.typed (is_stamped inner.select) (left_true (inner.typed && is_stamped inner.select) (is_kind Vector inner.kind) h), tt)
typed_all (PlanNode-F.Window f inner arguments) h = called_typed inner arguments (is_window f inner.kind (kinds_of arguments)) h
typed_all (PlanNode-F.Absent labels inner) h = (of_typed Vector inner h, tt)
typed_all (PlanNode-F.Buckets quantile inner) h = (of_typed Scalar quantile (left_true (is_of Scalar quantile) (is_of Vector inner) h), (of_typed Vector inner (right_true (is_of Scalar quantile) (is_of Vector inner) h), tt))
typed_all (PlanNode-F.Relabel rule inner) h = (of_typed Vector inner (right_true (is_relabel rule) (is_of Vector inner) h), tt)
typed_all (PlanNode-F.Sort down inner) h = (of_typed Vector inner h, tt)
typed_all (PlanNode-F.ScalarOf inner) h = (of_typed Vector inner h, tt)
typed_all (PlanNode-F.VectorOf inner) h = (of_typed Scalar inner h, tt)
typed_all (PlanNode-F.Group f by arguments label) h = all_sound arguments (left_true (are_sound arguments) (is_group f (kinds_of arguments) label) h)
typed_all (PlanNode-F.Pair op left right pairing) h =
    let both = left_true (is_sound left && is_sound right) (is_pair op pairing left.kind right.kind) h in
    (sound_typed left (left_true (is_sound left) (is_sound right) both), (sound_typed right (right_true (is_sound left) (is_sound right) both), tt))
typed_all (PlanNode-F.Set op left right pairing) h = (of_typed Vector left (left_true (is_of Vector left) (is_of Vector right) h), (of_typed Vector right (right_true (is_of Vector left) (is_of Vector right) h), tt))
typed_all (PlanNode-F.Filter base rules) h = (sound_typed base (left_true (is_sound base) _ h), tt)
typed_all (PlanNode-F.Ratio sum count) h = (of_typed Vector sum (left_true (is_of Vector sum) (is_of Vector count) h), (of_typed Vector count (right_true (is_of Vector sum) (is_of Vector count) h), tt))
typed_all (PlanNode-F.Once inner) h = (h, tt)
typed_all (PlanNode-F.Gather expr kind engines) h = tt

-- ---- limits and depths

abbrev pub Fits : Part → Type 0
Fits = IsWithin (λ rules. ⊤) hundred_years time_limit

abbrev Within : List Part → Type 0
Within parts = AreWithin (λ rules. ⊤) hundred_years time_limit parts

abbrev HasLimits : Measure → Type 0
HasLimits m = Within m.parts

all_within : (ms : List Measure) → Within (all_parts ms) → AllByRecursion HasLimits ms
all_within [] w = tt
all_within (m ∷ ms) w = (front_of Fits m.parts (all_parts ms) w, all_within ms (back_of Fits m.parts (all_parts ms) w))

within_all : (y : PlanNode-F (ℕ → Measure) Measure) (at : ℕ) → HasLimits (node_measure y at) → AllByRecursion HasLimits (children y)
within_all (PlanNode-F.Once inner) at w = (w, tt)
within_all y at w = all_within (children y) (back_of Fits (own_parts y) (all_parts (children y)) w)

abbrev IsShallow : ℕ → Measure → Type 0
IsShallow d m = m.depth ≤ d

all_shallow : (d : ℕ) (ms : List Measure) → greatest (map (λ (m : Measure). m.depth) ms) ≤ d → AllByRecursion (IsShallow d) ms
all_shallow d [] h = tt
all_shallow d (m ∷ ms) h = (omega (arith, h), all_shallow d ms (omega (arith, h)))

shallow_all : (y : PlanNode-F (ℕ → Measure) Measure) (at d : ℕ) → (node_measure y at).depth ≤ d → AllByRecursion (IsShallow d) (children y)
shallow_all (PlanNode-F.Once inner) at d h = (h, tt)
shallow_all (PlanNode-F.Filter base rules) at d h = (h, tt)
shallow_all (PlanNode-F.Ratio sum count) at d h = all_shallow d (sum ∷ count ∷ []) h
shallow_all y at d h = all_shallow d (children y) (omega (arith, h))

-- ---- what kernels serve

abbrev HasKernels : Serving → Type 0
HasKernels s = s.served ≡ true

all_served : (ss : List Serving) → are_served ss ≡ true → AllByRecursion HasKernels ss
all_served [] h = tt
all_served (s ∷ ss) h = (left_true s.served (are_served ss) h, all_served ss (right_true s.served (are_served ss) h))

module _ (kept : Kept) where
  abbrev IsKept : Rule → Type 0
  IsKept rule = HasItsPattern kept rule.kind

  abbrev IsKeptId : PatternId → Type 0
  IsKeptId id = IsWholeId kept id.0

  abbrev KeepsRules : Serving → Type 0
  KeepsRules s = HaveTheirPatterns kept s.rules

  abbrev KeepsIds : Serving → Type 0
  KeepsIds s = AllByRecursion IsKeptId s.patterns

  rules_all : (ss : List Serving) → HaveTheirPatterns kept (all_rules ss) → AllByRecursion KeepsRules ss
  rules_all [] h = tt
  rules_all (s ∷ ss) h = (front_of IsKept s.rules (all_rules ss) h, rules_all ss (back_of IsKept s.rules (all_rules ss) h))

  ids_all : (ss : List Serving) → AllByRecursion IsKeptId (all_patterns ss) → AllByRecursion KeepsIds ss
  ids_all [] h = tt
  ids_all (s ∷ ss) h = (front_of IsKeptId s.patterns (all_patterns ss) h, ids_all ss (back_of IsKeptId s.patterns (all_patterns ss) h))

  -- ---- a child

  abbrev typing_layer : Plan → PlanNode-F Typing Typing
  typing_layer p = layer node_typing (λ q. q.node) p.node

  abbrev measure_layer : Plan → PlanNode-F (ℕ → Measure) Measure
  measure_layer p = layer node_measure (λ q. q.node q.at) p.node

  abbrev serving_layer : Asks → Plan → PlanNode-F Serving Serving
  serving_layer asks p = layer (node_serving_by asks) (λ q. q.node) p.node

  abbrev reading_layer : Plan → PlanNode-F Reading Reading
  reading_layer p = layer node_reading (λ q. q.node) p.node

  measure_is : (p : Plan) → measured p ≡ node_measure (measure_layer p) p.at
  measure_is p = by_node node_measure (λ q. q.node q.at) p

  serving_is : (asks : Asks) (p : Plan) → serving_by asks p ≡ node_serving_by asks (serving_layer asks p)
  serving_is asks p = by_node (node_serving_by asks) (λ q. q.node) p

  pub served_below : (asks : Asks) {c p : Plan} → IsChild c p → IsServedBy asks kept p → IsServedBy asks kept c
  served_below asks {c = c} {p = p} child s =
      let ss = children (serving_layer asks p) in
      let there = child_in (node_serving_by asks) (λ q. q.node) child in
      let is = subst (λ (t : Serving). HasKernels t × KeepsRules t × KeepsIds t) (serving_is asks p) (s.windows, s.rules, s.patterns) in
      record {
        windows = in_all HasKernels ss (serving_by asks c) (all_served ss (right_true (own_served asks (serving_layer asks p)) (are_served ss) is.0)) there;
        rules = in_all KeepsRules ss (serving_by asks c) (rules_all ss (back_of IsKept (own_rules (serving_layer asks p)) (all_rules ss) is.1)) there;
        patterns = in_all KeepsIds ss (serving_by asks c) (ids_all ss (back_of IsKeptId (own_patterns (serving_layer asks p)) (all_patterns ss) is.2)) there;
      }

  pub typed_below : {c p : Plan} → IsChild c p → (typing p).typed ≡ true → (typing c).typed ≡ true
  typed_below {c = c} {p = p} child h =
      in_all HasType (children (typing_layer p)) (typing c)
      (typed_all (typing_layer p) (sym (ap (λ (t : Typing). t.typed) (by_node node_typing (λ q. q.node) p)) ∙ h)) (child_in node_typing (λ q. q.node) child)

  pub within_below : {c p : Plan} → IsChild c p → HasLimits (measured p) → HasLimits (measured c)
  within_below {c = c} {p = p} child w =
      in_all HasLimits (children (measure_layer p)) (measured c) (within_all (measure_layer p) p.at (subst HasLimits (measure_is p) w)) (child_in node_measure (λ q. q.node q.at) child)

  pub shallow_below : {c p : Plan} → IsChild c p → (measured c).depth ≤ (measured p).depth
  shallow_below {c = c} {p = p} child =
      in_all (IsShallow (measured p).depth) (children (measure_layer p)) (measured c)
      (shallow_all (measure_layer p) p.at (measured p).depth (subst (λ (m : Measure). m.depth ≤ (measured p).depth) (measure_is p) (omega arith))) (child_in node_measure (λ q. q.node q.at) child)

  pub holds_below : (lists : Lists) {c p : Plan} → IsChild c p → HoldsPlan kept lists p → HoldsPlan kept lists c
  holds_below lists {c = c} {p = p} child h =
      in_all (ReadingHolds kept lists) (children (reading_layer p)) (reading c)
      (children_hold kept lists (reading_layer p) (subst (ReadingHolds kept lists) (by_node node_reading (λ q. q.node) p) h)) (child_in node_reading (λ q. q.node) child)

  pub in_place_below : (n : ℕ) {c p : Plan} → IsChild c p → IsInPlace kept n p → IsInPlace kept n c
  in_place_below n {c = c} {p = p} child i = record {
    typed = typed_below child i.typed;
    within = within_below child i.within;
    served = served_below asks_selectors child i.served;
    room = (let deep = shallow_below child in let room = i.room in omega arith);
  }
