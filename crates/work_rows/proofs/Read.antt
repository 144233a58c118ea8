-- What the plans of the rows read of the samples, node by node.
use Rattle.std.proofs.Common.{◌≡◌, ◌∙◌, List, [], ◌∷◌, ◌++◌, ap, ap₂}
use Rattle.std.specs.Prelude.{false}
use Rattle.func_table.specs.declared.table.Aggregate.TheVariants as aggregate
use Rattle.label_set.specs.declared.rules.Pairing.{Pairing}
use Rattle.label_set.specs.declared.rules.Rule.{Rule}
use Rattle.logical_plan.specs.PlanFolds.{of-Filter, of-Group, of-Pair, of-ScalarOf, of-Select}
use Rattle.logical_plan.specs.declared.nodes.Plan.{Plan}
use Rattle.logical_plan.specs.declared.nodes.PlanNode.TheVariants as node
use Rattle.plan_bases.specs.Leaves.{Reading, alone, bare, filtered, inside, leaves_of, node_reading, over, reading}
use Rattle.plan_bases.specs.declared.leaves.Leaf.{Leaf}
use Rattle.promql_ast.specs.declared.tree.Moment.{Moment}
use Rattle.xfrac.specs.declared.value.PairOp.{PairOp}
use Rattle.work_rows.specs.Rows.{select, sum_of}
use Rattle.work_rows.specs.Samples.{plan}

selects : (rules : List Rule) (moment : Moment) → reading (select rules moment) ≡ alone (bare rules)
selects rules moment = of-Select node_reading (λ q. q.node) 0 rules moment false

filters : (rules more : List Rule) (moment : Moment) → reading (plan (node.Filter (select rules moment) more)) ≡ alone (filtered (bare rules) more)
filters rules more moment = of-Filter node_reading (λ q. q.node) 0 (select rules moment) more ∙ ap (λ (r : Reading). over r more) (selects rules moment)

sums : (p : Plan) (r : Reading) → reading p ≡ r → reading (sum_of p) ≡ inside (r.leaves ++ [])
sums p r e = of-Group node_reading (λ q. q.node) 0 aggregate.Sum (record { without = false; names = [] }) (p ∷ []) [] ∙ ap (λ (r : Reading). inside (r.leaves ++ [])) e

scalars : (p : Plan) (r : Reading) → reading p ≡ r → reading (plan (node.ScalarOf p)) ≡ inside (r.leaves ++ [])
scalars p r e = of-ScalarOf node_reading (λ q. q.node) 0 p ∙ ap (λ (r : Reading). inside (r.leaves ++ [])) e

pairs : (op : PairOp) (pairing : Pairing) (left right : Plan) (l r : Reading) → reading left ≡ l → reading right ≡ r → reading (plan (node.Pair op left right pairing)) ≡ inside (l.leaves ++ (r.leaves ++ []))
pairs op pairing left right l r d e =
    of-Pair node_reading (λ q. q.node) 0 op left right pairing ∙ ap₂ (λ (l r : Reading). inside (l.leaves ++ (r.leaves ++ []))) d e

-- one leaf, summed, beside the sum of a selector as a scalar
pub divided : (op : PairOp) (pairing : Pairing) (part : Plan) (leaf : Leaf) (rules : List Rule) (moment : Moment) → reading part ≡ alone leaf
    → leaves_of (plan (node.Pair op (sum_of part) (plan (node.ScalarOf (sum_of (select rules moment)))) pairing)) ≡ leaf ∷ bare rules ∷ []
divided op pairing part leaf rules moment e =
    ap (λ (r : Reading). r.leaves) (pairs op pairing (sum_of part) (plan (node.ScalarOf (sum_of (select rules moment)))) (inside (leaf ∷ [])) (inside (bare rules ∷ []))
    (sums part (alone leaf) e)
    (scalars (sum_of (select rules moment)) (inside (bare rules ∷ [])) (sums (select rules moment) (alone (bare rules)) (selects rules moment))))

pub written : (op : PairOp) (pairing : Pairing) (rules others : List Rule) (moment : Moment)
    → leaves_of (plan (node.Pair op (sum_of (select rules moment)) (plan (node.ScalarOf (sum_of (select others moment)))) pairing)) ≡ bare rules ∷ bare others ∷ []
written op pairing rules others moment = divided op pairing (select rules moment) (bare rules) others moment (selects rules moment)

pub merged : (op : PairOp) (pairing : Pairing) (rules more : List Rule) (moment : Moment)
    → leaves_of (plan (node.Pair op (sum_of (plan (node.Filter (select rules moment) more))) (plan (node.ScalarOf (sum_of (select rules moment)))) pairing)) ≡ filtered (bare rules) more ∷ bare rules ∷ []
merged op pairing rules more moment = divided op pairing (plan (node.Filter (select rules moment) more)) (filtered (bare rules) more) rules moment (filters rules more moment)

pub twice : (op : PairOp) (pairing : Pairing) (rules : List Rule) (moment : Moment)
    → leaves_of (plan (node.Pair op (select rules moment) (select rules moment) pairing)) ≡ bare rules ∷ bare rules ∷ []
twice op pairing rules moment =
    ap (λ (r : Reading). r.leaves) (pairs op pairing (select rules moment) (select rules moment) (alone (bare rules)) (alone (bare rules)) (selects rules moment) (selects rules moment))
