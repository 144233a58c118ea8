-- What stands below the Once nodes of a plan gives the same at all instants, where it is steady.
use Rattle.std.proofs.Common.{◌≡◌, ◌∙◌, ℕ, List, [], ◌∷◌, ◌++◌, map, ap, ap₂, refl, sym, subst, Bool, true, false}
use Rattle.std.specs.Prelude.{◌&&◌}
use Rattle.logical_plan.specs.Lowering.{planned}
use Rattle.logical_plan.specs.PlanFolds.{of-Absent, of-Buckets, of-Element, of-Filter, of-Group, of-Once, of-Pair, of-Ratio, of-Relabel, of-ScalarOf, of-Set, of-Sort, of-Stamp, of-Subquery, of-VectorOf, of-Window}
use Rattle.logical_plan.specs.Steadiness.{Checked, OncesAreSteady, SteadyPlanStays, all_good, all_of, both, checked, constant, is_steady, known, node_checked, node_facts, still_if}
use Rattle.logical_plan.specs.declared.nodes.Plan.{Plan}
use Rattle.logical_plan.specs.declared.nodes.PlanNode.{PlanNode}
use Rattle.logical_plan.specs.declared.nodes.PlanNode.TheVariants as node
use Rattle.logical_plan.specs.declared.nodes.PlanNode.TheOpen.{PlanNode-F}
use Rattle.logical_plan.specs.declared.nodes.PlanNode.TheViews.{roll-Plan, roll-PlanNode}
use Rattle.logical_plan.specs.declared.nodes.PlanNode.TheFolds.{map-PlanNode, fold-PlanNode, fold-roll-Plan, fold-roll-PlanNode, ind-Plan}
use Rattle.logical_plan.specs.declared.steadiness.Facts.{Facts}
use Rattle.promql_meaning.specs.Selecting.{Asked}
use Rattle.promql_meaning.specs.Steadiness.{has_fixed, steady_window}
use Rattle.plan_parts.specs.Parts.{IsChild, IsOnced, OncesStay}

-- ---- what is known of a plan is told by both folds

abbrev checked_in : PlanNode → Checked
checked_in = fold-PlanNode Checked Checked node_checked (λ p. p.node)

abbrev known_in : PlanNode → Facts
known_in = fold-PlanNode Facts Facts (node_facts (λ f. f)) (λ p. p.node)

abbrev IsTold : Plan → Type 0
IsTold p = (checked p).facts ≡ known p

abbrev IsToldNode : PlanNode → Type 0
IsToldNode n = (checked_in n).facts ≡ known_in n

abbrev Told : Type 0
Told = (p : Plan) × IsTold p

abbrev Layer : Type 0
Layer = PlanNode-F ((n : PlanNode) × IsToldNode n) Told

abbrev bare : Layer → PlanNode-F PlanNode Plan
bare = map-PlanNode ((n : PlanNode) × IsToldNode n) Told PlanNode Plan (λ n. n.0) (λ p. p.0)

all_told : (ps : List Told) → map (λ (c : Checked). c.facts) (map checked (map (λ p. p.0) ps)) ≡ map (λ (f : Facts). f) (map known (map (λ p. p.0) ps))
all_told [] = refl
all_told (p ∷ ps) = ap₂ (λ f fs. f ∷ fs) p.1 (all_told ps)

level : (y : Layer) → node_facts (λ (c : Checked). c.facts) (map-PlanNode PlanNode Plan Checked Checked checked_in checked (bare y)) ≡ node_facts (λ (f : Facts). f) (map-PlanNode PlanNode Plan Facts Facts known_in known (bare y))
level (PlanNode-F.Number value) = refl
level PlanNode-F.Time = refl
level (PlanNode-F.Select rules moment stamped) = refl
level (PlanNode-F.Range rules moment range) = refl
level (PlanNode-F.Subquery p range step moment) = ap (λ (f : Facts). record f { table = false; fixed = has_fixed moment.fixed; own = false }) p.1
level (PlanNode-F.Element f p ps) = ap₂ (λ (a : Facts) (b : List Facts). all_of (both constant a) b) p.1 (all_told ps)
level (PlanNode-F.Stamp p) = ap (λ (f : Facts). still_if f.own (both constant f)) p.1
level (PlanNode-F.Window f p ps) = ap₂ (λ (a : Facts) (b : List Facts). still_if (steady_window f) (all_of (both constant a) b)) p.1 (all_told ps)
level (PlanNode-F.Absent labels p) = ap (both constant) p.1
level (PlanNode-F.Buckets q p) = ap₂ both q.1 p.1
level (PlanNode-F.Relabel rule p) = ap (both constant) p.1
level (PlanNode-F.Sort down p) = ap (both constant) p.1
level (PlanNode-F.ScalarOf p) = ap (both constant) p.1
level (PlanNode-F.VectorOf p) = ap (both constant) p.1
level (PlanNode-F.Group f by ps label) = ap (all_of constant) (all_told ps)
level (PlanNode-F.Pair op l r pairing) = ap₂ both l.1 r.1
level (PlanNode-F.Set op l r pairing) = ap₂ both l.1 r.1
level (PlanNode-F.Filter p rules) = ap (λ (f : Facts). record f { own = false }) p.1
level (PlanNode-F.Ratio s c) = ap₂ both s.1 c.1
level (PlanNode-F.Once p) = p.1
level (PlanNode-F.Gather expr kind engines) = refl

node_told : (y : Layer) → IsToldNode (roll-PlanNode (bare y))
node_told y =
    ap (λ (c : Checked). c.facts) (fold-roll-PlanNode Checked Checked node_checked (λ p. p.node) (bare y)) ∙ level y
    ∙ sym (fold-roll-PlanNode Facts Facts (node_facts (λ f. f)) (λ p. p.node) (bare y))

plan_told : (at : ℕ) (n : PlanNode) → IsToldNode n → IsTold (roll-Plan (record { at = at; node = n }))
plan_told at n is =
    ap (λ (c : Checked). c.facts) (fold-roll-Plan Checked Checked node_checked (λ p. p.node) (record { at = at; node = n })) ∙ is
    ∙ sym (fold-roll-Plan Facts Facts (node_facts (λ f. f)) (λ p. p.node) (record { at = at; node = n }))

told : (p : Plan) → IsTold p
told = ind-Plan IsToldNode IsTold
    (λ x y is. subst (λ z. IsToldNode (roll-PlanNode z)) is (node_told y))
    (λ x y is. subst (λ z. IsTold (roll-Plan z)) is (plan_told y.at y.node.0 y.node.1))

-- ---- children

left_true : (a b : Bool) → (a && b) ≡ true → a ≡ true
left_true true b h = refl
left_true false b h = h

right_true : (a b : Bool) → (a && b) ≡ true → b ≡ true
right_true true b h = h
right_true false b h = absurd (cc)

one_of : (before after : List Plan) (c : Plan) → all_good (map checked (before ++ c ∷ after)) ≡ true → (checked c).good ≡ true
one_of [] after c h = left_true (checked c).good (all_good (map checked after)) h
one_of (p ∷ before) after c h = one_of before after c (right_true (checked p).good (all_good (map checked (before ++ c ∷ after))) h)

-- of a plan with this node the same is told as of its node
abbrev good : Plan → Bool
good p = (checked p).good

at_node : (p : Plan) (n : PlanNode) (b : Bool) → p.node ≡ n → good p ≡ true → good (planned p.at n) ≡ b → b ≡ true
at_node p n b is h same = sym same ∙ subst (λ (m : PlanNode). good (planned p.at m) ≡ true) is h

abbrev told_by : Checked → Bool
told_by c = c.good

child_good : {c p : Plan} → IsChild c p → good p ≡ true → good c ≡ true
child_good {c = c} {p = p} (IsChild.of_subquery range step moment is) =
    λ h. at_node p (node.Subquery c range step moment) _ is h (ap told_by (of-Subquery node_checked (λ q. q.node) p.at c range step moment))
child_good {c = c} {p = p} (IsChild.of_element f arguments is) =
    λ h. left_true (good c) (all_good (map checked arguments)) (at_node p (node.Element f c arguments) _ is h (ap told_by (of-Element node_checked (λ q. q.node) p.at f c arguments)))
child_good {c = c} {p = p} (IsChild.of_element_argument f inner before after is) =
    λ h. one_of before after c (right_true (good inner) (all_good (map checked (before ++ c ∷ after)))
    (at_node p (node.Element f inner (before ++ c ∷ after)) _ is h (ap told_by (of-Element node_checked (λ q. q.node) p.at f inner (before ++ c ∷ after)))))
child_good {c = c} {p = p} (IsChild.of_stamp is) = λ h. at_node p (node.Stamp c) _ is h (ap told_by (of-Stamp node_checked (λ q. q.node) p.at c))
child_good {c = c} {p = p} (IsChild.of_window f arguments is) =
    λ h. left_true (good c) (all_good (map checked arguments)) (at_node p (node.Window f c arguments) _ is h (ap told_by (of-Window node_checked (λ q. q.node) p.at f c arguments)))
child_good {c = c} {p = p} (IsChild.of_window_argument f inner before after is) =
    λ h. one_of before after c (right_true (good inner) (all_good (map checked (before ++ c ∷ after)))
    (at_node p (node.Window f inner (before ++ c ∷ after)) _ is h (ap told_by (of-Window node_checked (λ q. q.node) p.at f inner (before ++ c ∷ after)))))
child_good {c = c} {p = p} (IsChild.of_absent labels is) = λ h. at_node p (node.Absent labels c) _ is h (ap told_by (of-Absent node_checked (λ q. q.node) p.at labels c))
child_good {c = c} {p = p} (IsChild.of_quantile inner is) =
    λ h. left_true (good c) (good inner) (at_node p (node.Buckets c inner) _ is h (ap told_by (of-Buckets node_checked (λ q. q.node) p.at c inner)))
child_good {c = c} {p = p} (IsChild.of_buckets quantile is) =
    λ h. right_true (good quantile) (good c) (at_node p (node.Buckets quantile c) _ is h (ap told_by (of-Buckets node_checked (λ q. q.node) p.at quantile c)))
child_good {c = c} {p = p} (IsChild.of_relabel rule is) = λ h. at_node p (node.Relabel rule c) _ is h (ap told_by (of-Relabel node_checked (λ q. q.node) p.at rule c))
child_good {c = c} {p = p} (IsChild.of_sort down is) = λ h. at_node p (node.Sort down c) _ is h (ap told_by (of-Sort node_checked (λ q. q.node) p.at down c))
child_good {c = c} {p = p} (IsChild.of_scalar is) = λ h. at_node p (node.ScalarOf c) _ is h (ap told_by (of-ScalarOf node_checked (λ q. q.node) p.at c))
child_good {c = c} {p = p} (IsChild.of_vector is) = λ h. at_node p (node.VectorOf c) _ is h (ap told_by (of-VectorOf node_checked (λ q. q.node) p.at c))
child_good {c = c} {p = p} (IsChild.of_group f by before after label is) =
    λ h. one_of before after c (at_node p (node.Group f by (before ++ c ∷ after) label) _ is h (ap told_by (of-Group node_checked (λ q. q.node) p.at f by (before ++ c ∷ after) label)))
child_good {c = c} {p = p} (IsChild.of_left op right pairing is) =
    λ h. left_true (good c) (good right) (at_node p (node.Pair op c right pairing) _ is h (ap told_by (of-Pair node_checked (λ q. q.node) p.at op c right pairing)))
child_good {c = c} {p = p} (IsChild.of_right op left pairing is) =
    λ h. right_true (good left) (good c) (at_node p (node.Pair op left c pairing) _ is h (ap told_by (of-Pair node_checked (λ q. q.node) p.at op left c pairing)))
child_good {c = c} {p = p} (IsChild.of_set_left op right pairing is) =
    λ h. left_true (good c) (good right) (at_node p (node.Set op c right pairing) _ is h (ap told_by (of-Set node_checked (λ q. q.node) p.at op c right pairing)))
child_good {c = c} {p = p} (IsChild.of_set_right op left pairing is) =
    λ h. right_true (good left) (good c) (at_node p (node.Set op left c pairing) _ is h (ap told_by (of-Set node_checked (λ q. q.node) p.at op left c pairing)))
child_good {c = c} {p = p} (IsChild.of_filter rules is) = λ h. at_node p (node.Filter c rules) _ is h (ap told_by (of-Filter node_checked (λ q. q.node) p.at c rules))
child_good {c = c} {p = p} (IsChild.of_sum count is) =
    λ h. left_true (good c) (good count) (at_node p (node.Ratio c count) _ is h (ap told_by (of-Ratio node_checked (λ q. q.node) p.at c count)))
child_good {c = c} {p = p} (IsChild.of_count sum is) =
    λ h. right_true (good sum) (good c) (at_node p (node.Ratio sum c) _ is h (ap told_by (of-Ratio node_checked (λ q. q.node) p.at sum c)))
child_good {c = c} {p = p} (IsChild.of_once is) =
    λ h. left_true (good c) (is_steady (checked c).facts) (at_node p (node.Once c) _ is h (ap told_by (of-Once node_checked (λ q. q.node) p.at c)))

-- ---- Once nodes

once_steady : (c p : Plan) → p.node ≡ node.Once c → good p ≡ true → is_steady (known c) ≡ true
once_steady c p is h =
    subst (λ (f : Facts). is_steady f ≡ true) (told c)
    (right_true (good c) (is_steady (checked c).facts) (at_node p (node.Once c) _ is h (ap told_by (of-Once node_checked (λ q. q.node) p.at c))))

onced_steady : {q p : Plan} → IsOnced q p → good p ≡ true → is_steady (known q) ≡ true
onced_steady {q = q} (IsOnced.here p is) = λ h. once_steady q p is h
onced_steady {q = q} (IsOnced.below c p child once) = λ h. onced_steady once (child_good child h)

pub onces_stay : SteadyPlanStays → (asked : Asked) (p : Plan) → OncesAreSteady p → OncesStay asked p
onces_stay stays asked p steady = record { same = λ q part t u. stays asked q t u (onced_steady part steady) }
