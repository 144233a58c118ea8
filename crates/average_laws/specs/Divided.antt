-- What is divided by what in the parts of a plan, for proofs. (This project's own.)
use Rattle.std.proofs.Common.{◌≡◌, ◌∙◌, ℕ, List, [], ◌∷◌, ◌++◌, map, ap, ap₂, sym, refl, subst}
use Rattle.std.specs.List.{AllByRecursion}
use Rattle.holders.specs.Joins.{back_of, front_of}
use Rattle.logical_plan.specs.Lowering.{planned}
use Rattle.logical_plan.specs.Onces.{node_over}
use Rattle.logical_plan.specs.PlanFolds.{by_node}
use Rattle.logical_plan.specs.Validity.{children}
use Rattle.logical_plan.specs.declared.nodes.Plan.{Plan}
use Rattle.logical_plan.specs.declared.nodes.PlanNode.{PlanNode}
use Rattle.logical_plan.specs.declared.nodes.PlanNode.TheVariants as node
use Rattle.logical_plan.specs.declared.nodes.PlanNode.TheOpen.{PlanNode-F}
use Rattle.logical_plan.specs.declared.nodes.PlanNode.TheViews.{out-PlanNode, roll-PlanNode, roll-out-PlanNode, outs-Number, outs-Time, outs-Select, outs-Range, outs-Subquery, outs-Element, outs-Stamp, outs-Window, outs-Absent, outs-Buckets, outs-Relabel, outs-Sort, outs-ScalarOf, outs-VectorOf, outs-Group, outs-Pair, outs-Set, outs-Filter, outs-Ratio, outs-Once, outs-Gather}
use Rattle.expressed_laws.specs.Induction.{every, folded, rolled}
use Rattle.average_laws.specs.Ratios.{Divisions, HasAverages, IsAverage, all_ratios, divisions, node_divisions, own_ratios, ratios_in}

-- a node is rolled up of what it is
pub rolls : (n : PlanNode) (y : PlanNode-F PlanNode Plan) → out-PlanNode n ≡ y → n ≡ roll-PlanNode y
rolls n y e = sym (roll-out-PlanNode n) ∙ ap roll-PlanNode e

abbrev pub plan_of : Divisions → Plan
plan_of d = d.plan

abbrev IsSelf : Plan → Type 0
IsSelf p = plan_of (divisions p) ≡ p

abbrev pub Layer : Type 0
Layer = PlanNode-F PlanNode Plan

abbrev pub divided : Layer → PlanNode-F (ℕ → Divisions) Divisions
divided = folded node_divisions (λ p. p.node p.at)

all_selves : (ps : List Plan) → AllByRecursion IsSelf ps → map plan_of (map divisions ps) ≡ ps
all_selves [] held = refl
all_selves (p ∷ ps) held = ap₂ (λ (q : Plan) (qs : List Plan). q ∷ qs) held.0 (all_selves ps held.1)

over_self : (y : Layer) → AllByRecursion IsSelf (children y) → node_over plan_of (divided y) ≡ roll-PlanNode y
over_self (PlanNode-F.Number value) h = rolls (node.Number value) _ (rw outs-Number refl)
over_self PlanNode-F.Time h = rolls node.Time _ (rw outs-Time refl)
over_self (PlanNode-F.Select rules moment stamped) h = rolls (node.Select rules moment stamped) _ (rw outs-Select refl)
over_self (PlanNode-F.Range rules moment length) h = rolls (node.Range rules moment length) _ (rw outs-Range refl)
over_self (PlanNode-F.Subquery p length step moment) h = ap (λ q. node.Subquery q length step moment) h.0 ∙ rolls (node.Subquery p length step moment) _ (rw outs-Subquery refl)
over_self (PlanNode-F.Element f p ps) h = ap₂ (node.Element f) h.0 (all_selves ps h.1) ∙ rolls (node.Element f p ps) _ (rw outs-Element refl)
over_self (PlanNode-F.Stamp p) h = ap node.Stamp h.0 ∙ rolls (node.Stamp p) _ (rw outs-Stamp refl)
over_self (PlanNode-F.Window f p ps) h = ap₂ (node.Window f) h.0 (all_selves ps h.1) ∙ rolls (node.Window f p ps) _ (rw outs-Window refl)
over_self (PlanNode-F.Absent labels p) h = ap (node.Absent labels) h.0 ∙ rolls (node.Absent labels p) _ (rw outs-Absent refl)
over_self (PlanNode-F.Buckets q p) h = ap₂ node.Buckets h.0 h.1.0 ∙ rolls (node.Buckets q p) _ (rw outs-Buckets refl)
over_self (PlanNode-F.Relabel rule p) h = ap (node.Relabel rule) h.0 ∙ rolls (node.Relabel rule p) _ (rw outs-Relabel refl)
over_self (PlanNode-F.Sort down p) h = ap (node.Sort down) h.0 ∙ rolls (node.Sort down p) _ (rw outs-Sort refl)
over_self (PlanNode-F.ScalarOf p) h = ap node.ScalarOf h.0 ∙ rolls (node.ScalarOf p) _ (rw outs-ScalarOf refl)
over_self (PlanNode-F.VectorOf p) h = ap node.VectorOf h.0 ∙ rolls (node.VectorOf p) _ (rw outs-VectorOf refl)
over_self (PlanNode-F.Group f by ps label) h = ap (λ qs. node.Group f by qs label) (all_selves ps h) ∙ rolls (node.Group f by ps label) _ (rw outs-Group refl)
over_self (PlanNode-F.Pair op p q pairing) h = ap₂ (λ a b. node.Pair op a b pairing) h.0 h.1.0 ∙ rolls (node.Pair op p q pairing) _ (rw outs-Pair refl)
over_self (PlanNode-F.Set op p q pairing) h = ap₂ (λ a b. node.Set op a b pairing) h.0 h.1.0 ∙ rolls (node.Set op p q pairing) _ (rw outs-Set refl)
over_self (PlanNode-F.Filter p rules) h = ap (λ q. node.Filter q rules) h.0 ∙ rolls (node.Filter p rules) _ (rw outs-Filter refl)
over_self (PlanNode-F.Ratio p q) h = ap₂ node.Ratio h.0 h.1.0 ∙ rolls (node.Ratio p q) _ (rw outs-Ratio refl)
over_self (PlanNode-F.Once p) h = ap node.Once h.0 ∙ rolls (node.Once p) _ (rw outs-Once refl)
over_self (PlanNode-F.Gather e kind engines) h = rolls (node.Gather e kind engines) _ (rw outs-Gather refl)

node_self : (at : ℕ) (y : Layer) → AllByRecursion IsSelf (children y) → IsSelf (planned at (roll-PlanNode y))
node_self at y h = ap plan_of (rolled node_divisions (λ p. p.node p.at) at y) ∙ ap (planned at) (over_self y h)

-- the plan that is kept with the ratios is the plan
pub itself : (p : Plan) → IsSelf p
itself = every IsSelf node_self

-- ---- the averages of parts

abbrev pub Averages : List (Plan × Plan) → Type 0
Averages ratios = AllByRecursion IsAverage ratios

each_averages : (ps : List Plan) → Averages (all_ratios (map divisions ps)) → AllByRecursion HasAverages ps
each_averages [] all = tt
each_averages (p ∷ ps) all = (front_of IsAverage (ratios_in p) (all_ratios (map divisions ps)) all, each_averages ps (back_of IsAverage (ratios_in p) (all_ratios (map divisions ps)) all))

below : (y : Layer) → Averages (own_ratios (divided y) ++ all_ratios (children (divided y))) → AllByRecursion HasAverages (children y)
below (PlanNode-F.Number value) all = tt
below PlanNode-F.Time all = tt
below (PlanNode-F.Select rules moment stamped) all = tt
below (PlanNode-F.Range rules moment range) all = tt
below (PlanNode-F.Subquery p range step moment) all = each_averages (p ∷ []) all
below (PlanNode-F.Element f p ps) all = each_averages (p ∷ ps) all
below (PlanNode-F.Stamp p) all = each_averages (p ∷ []) all
below (PlanNode-F.Window f p ps) all = each_averages (p ∷ ps) all
below (PlanNode-F.Absent labels p) all = each_averages (p ∷ []) all
below (PlanNode-F.Buckets q p) all = each_averages (q ∷ p ∷ []) all
below (PlanNode-F.Relabel rule p) all = each_averages (p ∷ []) all
below (PlanNode-F.Sort down p) all = each_averages (p ∷ []) all
below (PlanNode-F.ScalarOf p) all = each_averages (p ∷ []) all
below (PlanNode-F.VectorOf p) all = each_averages (p ∷ []) all
below (PlanNode-F.Group f grouping ps label) all = each_averages ps all
below (PlanNode-F.Pair op p q pairing) all = each_averages (p ∷ q ∷ []) all
below (PlanNode-F.Set op p q pairing) all = each_averages (p ∷ q ∷ []) all
below (PlanNode-F.Filter p rules) all = each_averages (p ∷ []) all
below (PlanNode-F.Ratio p q) all = each_averages (p ∷ q ∷ []) all.1
below (PlanNode-F.Once p) all = each_averages (p ∷ []) all
below (PlanNode-F.Gather e kind engines) all = tt

ratios_are : (p : Plan) → HasAverages p → Averages (own_ratios (divided (out-PlanNode p.node)) ++ all_ratios (children (divided (out-PlanNode p.node))))
ratios_are p all = subst (λ (d : Divisions). Averages d.ratios) (by_node node_divisions (λ p. p.node p.at) p) all

-- the ratios of a node at a place
pub ratios_of : (at : ℕ) (y : Layer) → ratios_in (planned at (roll-PlanNode y)) ≡ own_ratios (divided y) ++ all_ratios (children (divided y))
ratios_of at y = ap (λ (d : Divisions). d.ratios) (rolled node_divisions (λ p. p.node p.at) at y)

-- each ratio of a node's children is an average where each of its own plan is
pub averages_under : (at : ℕ) (y : Layer) → HasAverages (planned at (roll-PlanNode y)) → AllByRecursion HasAverages (children y)
averages_under at y all = below y (subst Averages (ratios_of at y) all)

pub averages_below : (p : Plan) → HasAverages p → AllByRecursion HasAverages (children (out-PlanNode p.node))
averages_below p all = below (out-PlanNode p.node) (ratios_are p all)

-- what is divided by what is an average
pub is_average : (p sum count : Plan) → out-PlanNode p.node ≡ PlanNode-F.Ratio sum count → HasAverages p → IsAverage (sum, count)
is_average p sum count is all =
    let own = (subst (λ (z : Layer). Averages (own_ratios (divided z) ++ all_ratios (children (divided z)))) is (ratios_are p all)).0 in
    subst (λ (s : Plan). IsAverage (s, count)) (itself sum) (subst (λ (c : Plan). IsAverage (plan_of (divisions sum), c)) (itself count) own)
