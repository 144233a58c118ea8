-- The equations of `crowded`, and why a count of points may stand still above the limit.
use Rattle.std.proofs.Common.{◌≡◌, ◌<◌, ◌≤◌, ◌+◌, ◌*◌, ℕ, zero, suc, refl, ap, ap₂, ◌∙◌, sym, subst, map, drop, min, get_or, length, List, [], ◌∷◌, ◌++◌, arith}
use Rattle.std.specs.Prelude.{Option, nat_lt}
use Rattle.std.proofs.lemmas.List.{drop_more}
use Rattle.std.proofs.Math.ListN.{drop_of_length-le}
use Rattle.func_table.specs.declared.table.SetOp.{SetOp}
use Rattle.label_set.specs.declared.rules.Pairing.{Pairing}
use Rattle.ticks.specs.declared.moment.Ms.{Ms}
use Rattle.xfrac.specs.declared.value.PairOp.{PairOp}
use Rattle.promql_ast.specs.declared.refusal.QueryRefusal.{QueryRefusal}
use Rattle.promql_ast.specs.declared.refusal.QueryRefusal.TheVariants.{TooManyPoints}
use Rattle.promql_ast.specs.declared.tree.Moment.{Moment}
use Rattle.promql_ast.specs.declared.tree.Expr.{Expr}
use Rattle.promql_ast.specs.declared.tree.Node.{Node}
use Rattle.promql_ast.specs.declared.tree.Node.TheVariants.{Subquery, Pair, Set}
use Rattle.promql_ast.specs.declared.tree.Node.TheOpen.{Node-F}
use Rattle.promql_ast.specs.declared.tree.Node.TheViews.{roll-Node, roll-Expr}
use Rattle.promql_ast.specs.declared.tree.Node.TheFolds.{map-Node, fold-Node, fold-roll-Node, fold-roll-Expr, ind-Expr}
use Rattle.promql_ast.specs.Folds.{fold-Subquery, fold-Pair, fold-Set}
use Rattle.promql_type.specs.Points.{all_crowded, crowded, crowded_expr, crowded_step, most_points, points}
use Rattle.promql_type.specs.Refusals.{lesser, least}
use Rattle.promql_type.specs.Rules.{where_true}
use Rattle.promql_type.proofs.Leasts.{least_append, lesser_assoc, last_none}

abbrev At : Type 0
At = ℕ → ℕ → List QueryRefusal

abbrev Around : Type 0
Around = ℕ → List QueryRefusal

abbrev node_crowded : Node → At
node_crowded = fold-Node At Around crowded_step crowded_expr

capped_product : (c n p : ℕ) → min (min n c * p) c ≡ min (n * p) c
capped_product c n zero = grind arith
capped_product c n (suc p) = grind arith

same_test : (x : ℕ) → nat_lt most_points (min x 200001) ≡ nat_lt most_points x
same_test x = grind arith

abbrev IsCapped : Expr → Type 0
IsCapped e = (n : ℕ) → crowded e (min n 200001) ≡ crowded e n

abbrev IsCappedNode : Node → Type 0
IsCappedNode node = (at n : ℕ) → node_crowded node at (min n 200001) ≡ node_crowded node at n

abbrev Given : Type 0
Given = Node-F ((n : Node) × IsCappedNode n) ((e : Expr) × IsCapped e)

abbrev plain : Given → Node-F Node Expr
plain = map-Node ((n : Node) × IsCappedNode n) ((e : Expr) × IsCapped e) Node Expr (λ e. e.0) (λ e. e.0)

all_capped : (items : List ((e : Expr) × IsCapped e)) (n : ℕ)
    → all_crowded (map crowded (map (λ e. e.0) items)) (min n 200001) ≡ all_crowded (map crowded (map (λ e. e.0) items)) n
all_capped [] n = refl
all_capped (e ∷ es) n = ap₂ (λ xs ys. xs ++ ys) (e.1 n) (all_capped es n)

inside_capped : (e : Expr) → IsCapped e → (n p : ℕ) → crowded e (min n 200001 * p) ≡ crowded e (n * p)
inside_capped e is n p = sym (is (min n 200001 * p)) ∙ ap (crowded e) (capped_product 200001 n p) ∙ is (n * p)

own_capped : (n p at : ℕ) → where_true (nat_lt most_points (min n 200001 * p)) (TooManyPoints at) ≡ where_true (nat_lt most_points (n * p)) (TooManyPoints at)
own_capped n p at =
    ap (λ b. where_true b (TooManyPoints at)) (sym (same_test (min n 200001 * p)) ∙ ap (nat_lt most_points) (capped_product 200001 n p) ∙ same_test (n * p))

level : (y : Given) (at n : ℕ)
    → crowded_step (map-Node Node Expr At Around node_crowded crowded (plain y)) at (min n 200001) ≡ crowded_step (map-Node Node Expr At Around node_crowded crowded (plain y)) at n
level (Node-F.Number value) at n = refl
level (Node-F.Words text) at n = refl
level (Node-F.Paren e) at n = e.1 n
level (Node-F.Negate e) at n = e.1 n
level (Node-F.Select selector) at n = refl
level (Node-F.Range selector range) at n = refl
level (Node-F.Subquery e range step moment) at n = ap₂ (λ xs ys. xs ++ ys) (own_capped n (points range step) at) (inside_capped e.0 e.1 n (points range step))
level (Node-F.Call f items) at n = all_capped items n
level (Node-F.Aggregate f grouping items) at n = all_capped items n
level (Node-F.Pair op a b pairing) at n = ap₂ (λ xs ys. xs ++ ys) (a.1 n) (b.1 n)
level (Node-F.Set op a b pairing) at n = ap₂ (λ xs ys. xs ++ ys) (a.1 n) (b.1 n)

node_capped : (y : Given) → IsCappedNode (roll-Node (plain y))
node_capped y at n =
    ap (λ f. f at (min n 200001)) (fold-roll-Node At Around crowded_step crowded_expr (plain y)) ∙ level y at n ∙ sym (ap (λ f. f at n) (fold-roll-Node At Around crowded_step crowded_expr (plain y)))

expr_capped : (at : ℕ) (n : Node) → IsCappedNode n → IsCapped (roll-Expr (record { at = at; node = n }))
expr_capped at node is n =
    ap (λ f. f (min n 200001)) (fold-roll-Expr At Around crowded_step crowded_expr (record { at = at; node = node })) ∙ is at n
    ∙ sym (ap (λ f. f n) (fold-roll-Expr At Around crowded_step crowded_expr (record { at = at; node = node })))

pub capped : (e : Expr) → IsCapped e
capped = ind-Expr IsCappedNode IsCapped
    (λ x y is. subst (λ z. IsCappedNode (roll-Node z)) is (node_capped y))
    (λ x y is. subst (λ z. IsCapped (roll-Expr z)) is (expr_capped y.at y.node.0 y.node.1))

-- what a subquery brings, with the count of points as far as the limit
pub least_subquery : (e inner : Expr) (range step : Ms) (moment : Moment) (around inside : ℕ) → e.node ≡ Subquery inner range step moment
    → inside ≡ min (around * points range step) 200001
    → least (crowded e around) ≡ lesser (least (where_true (nat_lt most_points inside) (TooManyPoints e.at))) (least (crowded inner inside))
least_subquery e inner range step moment around inside is counted =
    let p = points range step in
    ap (λ f. least (f around)) (fold-Subquery crowded_step crowded_expr e inner range step moment is)
    ∙ least_append (where_true (nat_lt most_points (around * p)) (TooManyPoints e.at)) (crowded inner (around * p))
    ∙ ap₂ (λ b rs. lesser (least (where_true b (TooManyPoints e.at))) (least rs))
    (sym (ap (nat_lt most_points) counted ∙ same_test (around * p))) (sym (ap (crowded inner) counted ∙ capped inner (around * p)))

pub least_pair : (e : Expr) (op : PairOp) (left right : Expr) (pairing : Pairing) (around : ℕ) → e.node ≡ Pair op left right pairing
    → least (crowded e around) ≡ lesser (least (crowded left around)) (least (crowded right around))
least_pair e op left right pairing around is =
    ap (λ f. least (f around)) (fold-Pair crowded_step crowded_expr e op left right pairing is) ∙ least_append (crowded left around) (crowded right around)

pub least_set : (e : Expr) (op : SetOp) (left right : Expr) (pairing : Pairing) (around : ℕ) → e.node ≡ Set op left right pairing
    → least (crowded e around) ≡ lesser (least (crowded left around)) (least (crowded right around))
least_set e op left right pairing around is =
    ap (λ f. least (f around)) (fold-Set crowded_step crowded_expr e op left right pairing is) ∙ least_append (crowded left around) (crowded right around)

pub next_crowded : (sofar new : Option QueryRefusal) (items : List Expr) (i : ℕ) (item : Expr) (around : ℕ) → i < length items → item ≡ get_or items i item
    → new ≡ lesser sofar (least (crowded item around))
    → lesser new (least (all_crowded (map crowded (drop (i + 1) items)) around)) ≡ lesser sofar (least (all_crowded (map crowded (drop i items)) around))
next_crowded sofar new items i item around lt is now =
    let rest : List QueryRefusal = all_crowded (map crowded (drop (i + 1) items)) around in
    let split : drop i items ≡ item ∷ drop (i + 1) items = drop_more items i item lt ∙ ap (λ x. x ∷ drop (i + 1) items) (sym is) in
    ap (λ x. lesser x (least rest)) now
    ∙ lesser_assoc sofar (least (crowded item around)) (least rest)
    ∙ ap (lesser sofar) (sym (least_append (crowded item around) rest))
    ∙ ap (λ es. lesser sofar (least (all_crowded (map crowded es) around))) (sym split)

pub no_crowded : (sofar : Option QueryRefusal) (items : List Expr) (i around : ℕ) → length items ≤ i
    → lesser sofar (least (all_crowded (map crowded (drop i items)) around)) ≡ sofar
no_crowded sofar items i around le = ap (λ es. lesser sofar (least (all_crowded (map crowded es) around))) (drop_of_length-le items le) ∙ last_none sofar
