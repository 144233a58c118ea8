-- What has few enough points inside of subqueries that have so many together has them inside of subqueries that have fewer.
use Rattle.std.proofs.Common.{◌≡◌, ◌∙◌, ◌≤◌, ◌*◌, ℕ, Bool, true, false, List, [], ◌∷◌, ◌++◌, map, sym, refl, subst, Option, None, arith}
use Rattle.std.specs.Prelude.{◌&&◌, not, nat_lt}
use Rattle.std.specs.List.{AllZip}
use Rattle.std.proofs.Math.Nat.{mul-le-mul_right}
use Rattle.promql_ast.specs.declared.refusal.QueryRefusal.{QueryRefusal}
use Rattle.promql_ast.specs.declared.refusal.QueryRefusal.TheVariants.{TooManyPoints}
use Rattle.promql_ast.specs.declared.tree.Expr.{Expr}
use Rattle.promql_ast.specs.declared.tree.Node.{Node}
use Rattle.promql_ast.specs.declared.tree.Node.TheOpen.{Node-F}
use Rattle.promql_ast.specs.declared.tree.Node.TheViews.{roll-Node, roll-Expr}
use Rattle.promql_ast.specs.declared.tree.Node.TheFolds.{map-Node, fold-Node, fold-roll-Node, fold-roll-Expr, ind-Expr}
use Rattle.promql_type.specs.Points.{all_crowded, crowded, crowded_expr, crowded_step, most_points, points}
use Rattle.promql_type.specs.Rules.{where_true}
use Rattle.logical_plan.specs.PlanTypes.{has_none}
use Rattle.logical_plan.specs.Validity.{Measure, are_few, measured, node_measure}
use Rattle.logical_plan.specs.declared.nodes.Plan.{Plan}
use Rattle.logical_plan.specs.declared.nodes.PlanNode.TheOpen.{PlanNode-F}
use Rattle.plan_agreement.specs.Descents.{descended}
use Rattle.plan_agreement.specs.SameNodes.{SameNode, number, time, select, range, subquery, element, stamp, window, absent, buckets, relabel, sort, scalar_of, vector_of, group, pair, set, filtered, ratio, once, gather}
use Rattle.plan_agreement.proofs.Ands.{both_follow}
use Rattle.plan_agreement.proofs.Descends.{every, nothing_replaced}

-- ---- expressions

abbrev At : Type 0
At = ℕ → ℕ → List QueryRefusal

abbrev Around : Type 0
Around = ℕ → List QueryRefusal

abbrev crowded_in : Node → At
crowded_in = fold-Node At Around crowded_step crowded_expr

none_joined : (xs ys : List QueryRefusal) → has_none (xs ++ ys) ≡ (has_none xs && has_none ys)
none_joined [] ys = refl
none_joined (x ∷ xs) ys = refl

-- where two parts have none with fewer, so do both
joined_less : (a b c d : List QueryRefusal) → (has_none c ≡ true → has_none a ≡ true) → (has_none d ≡ true → has_none b ≡ true) → has_none (c ++ d) ≡ true → has_none (a ++ b) ≡ true
joined_less a b c d f g h = none_joined a b ∙ both_follow (has_none c) (has_none d) (has_none a) (has_none b) f g (sym (none_joined c d) ∙ h)

pub test_less : (m n : ℕ) → m ≤ n → not (nat_lt most_points n) ≡ true → not (nat_lt most_points m) ≡ true
test_less m n l h = grind arith

own_less : (b c : Bool) (r : QueryRefusal) → (not c ≡ true → not b ≡ true) → has_none (where_true c r) ≡ true → has_none (where_true b r) ≡ true
own_less true true r f h = h
own_less true false r f h = let no : not true ≡ true = f refl in absurd (cc)
own_less false c r f h = refl

abbrev IsLess : Expr → Type 0
IsLess e = (m n : ℕ) → m ≤ n → has_none (crowded e n) ≡ true → has_none (crowded e m) ≡ true

abbrev IsLessNode : Node → Type 0
IsLessNode x = (at m n : ℕ) → m ≤ n → has_none (crowded_in x at n) ≡ true → has_none (crowded_in x at m) ≡ true

abbrev Item : Type 0
Item = (e : Expr) × IsLess e

abbrev Layer : Type 0
Layer = Node-F ((x : Node) × IsLessNode x) Item

abbrev plain : Layer → Node-F Node Expr
plain = map-Node ((x : Node) × IsLessNode x) Item Node Expr (λ e. e.0) (λ e. e.0)

all_less : (items : List Item) (m n : ℕ) → m ≤ n → has_none (all_crowded (map crowded (map (λ (e : Item). e.0) items)) n) ≡ true → has_none (all_crowded (map crowded (map (λ (e : Item). e.0) items)) m) ≡ true
all_less [] m n l h = refl
all_less (e ∷ es) m n l h =
    joined_less (crowded e.0 m) (all_crowded (map crowded (map (λ (e : Item). e.0) es)) m) (crowded e.0 n) (all_crowded (map crowded (map (λ (e : Item). e.0) es)) n) (e.1 m n l) (all_less es m n l) h

level : (y : Layer) (at m n : ℕ) → m ≤ n
    → has_none (crowded_step (map-Node Node Expr At Around crowded_in crowded (plain y)) at n) ≡ true → has_none (crowded_step (map-Node Node Expr At Around crowded_in crowded (plain y)) at m) ≡ true
level (Node-F.Number value) at m n l h = refl
level (Node-F.Words text) at m n l h = refl
level (Node-F.Paren e) at m n l h = e.1 m n l h
level (Node-F.Negate e) at m n l h = e.1 m n l h
level (Node-F.Select selector) at m n l h = refl
level (Node-F.Range selector length) at m n l h = refl
level (Node-F.Subquery e length step moment) at m n l h =
    let p : ℕ = points length step in
    let more : m * p ≤ n * p = mul-le-mul_right p l in
    joined_less (where_true (nat_lt most_points (m * p)) (TooManyPoints at)) (crowded e.0 (m * p)) (where_true (nat_lt most_points (n * p)) (TooManyPoints at)) (crowded e.0 (n * p))
    (own_less (nat_lt most_points (m * p)) (nat_lt most_points (n * p)) (TooManyPoints at) (test_less (m * p) (n * p) more)) (e.1 (m * p) (n * p) more) h
level (Node-F.Call f items) at m n l h = all_less items m n l h
level (Node-F.Aggregate f grouping items) at m n l h = all_less items m n l h
level (Node-F.Pair op a b pairing) at m n l h = joined_less (crowded a.0 m) (crowded b.0 m) (crowded a.0 n) (crowded b.0 n) (a.1 m n l) (b.1 m n l) h
level (Node-F.Set op a b pairing) at m n l h = joined_less (crowded a.0 m) (crowded b.0 m) (crowded a.0 n) (crowded b.0 n) (a.1 m n l) (b.1 m n l) h

node_less : (y : Layer) → IsLessNode (roll-Node (plain y))
node_less y at m n l =
    subst (λ (f : At). has_none (f at n) ≡ true → has_none (f at m) ≡ true) (sym (fold-roll-Node At Around crowded_step crowded_expr (plain y))) (level y at m n l)

expr_less : (at : ℕ) (x : Node) → IsLessNode x → IsLess (roll-Expr (record { at = at; node = x }))
expr_less at x is m n l =
    subst (λ (f : Around). has_none (f n) ≡ true → has_none (f m) ≡ true) (sym (fold-roll-Expr At Around crowded_step crowded_expr (record { at = at; node = x }))) (is at m n l)

crowds_less : (e : Expr) → IsLess e
crowds_less = ind-Expr IsLessNode IsLess
    (λ x y is. subst (λ z. IsLessNode (roll-Node z)) is (node_less y))
    (λ x y is. subst (λ z. IsLess (roll-Expr z)) is (expr_less y.at y.node.0 y.node.1))

-- ---- plans

abbrev FewLess : Measure → Type 0
FewLess c = (m n : ℕ) → m ≤ n → c.few n ≡ true → c.few m ≡ true

-- the first of two has what is asked of children
abbrev First : Measure → Measure → Type 0
First c d = FewLess c

few_less : (xs ys : List Measure) → AllZip First xs ys → (m n : ℕ) → m ≤ n → are_few xs n ≡ true → are_few xs m ≡ true
few_less [] [] z m n l h = refl
few_less [] (y ∷ ys) z m n l h = absurd z
few_less (x ∷ xs) [] z m n l h = absurd z
few_less (x ∷ xs) (y ∷ ys) z m n l h = both_follow (x.few n) (are_few xs n) (x.few m) (are_few xs m) (z.0 m n l) (few_less xs ys z.1 m n l) h

one_less : (a b : Measure) → First a b → (m n : ℕ) → m ≤ n → are_few (a ∷ []) n ≡ true → are_few (a ∷ []) m ≡ true
one_less a b k = few_less (a ∷ []) (b ∷ []) (k, tt)

two_less : (a b c d : Measure) → First a c → First b d → (m n : ℕ) → m ≤ n → are_few (a ∷ b ∷ []) n ≡ true → are_few (a ∷ b ∷ []) m ≡ true
two_less a b c d k j = few_less (a ∷ b ∷ []) (c ∷ d ∷ []) (k, (j, tt))

levels : (at : ℕ) (y z : PlanNode-F (ℕ → Measure) Measure) → SameNode First y z → FewLess (node_measure y at)
levels at _ _ (number value) = λ m n l h. refl
levels at _ _ time = λ m n l h. refl
levels at _ _ (select rules moment stamped) = λ m n l h. refl
levels at _ _ (range rules moment length) = λ m n l h. refl
levels at _ _ (subquery a b length step moment k) = λ m n l h.
    let p : ℕ = points length step in
    let more : m * p ≤ n * p = mul-le-mul_right p l in
    both_follow (not (nat_lt most_points (n * p))) (a.few (n * p)) (not (nat_lt most_points (m * p))) (a.few (m * p)) (test_less (m * p) (n * p) more) (k (m * p) (n * p) more) h
levels at _ _ (element f a b xs ys k z) = few_less (a ∷ xs) (b ∷ ys) (k, z)
levels at _ _ (stamp a b k) = one_less a b k
levels at _ _ (window f a b xs ys k z) = few_less (a ∷ xs) (b ∷ ys) (k, z)
levels at _ _ (absent labels a b k) = one_less a b k
levels at _ _ (buckets a b c d k j) = two_less a b c d k j
levels at _ _ (relabel rule a b k) = one_less a b k
levels at _ _ (sort down a b k) = one_less a b k
levels at _ _ (scalar_of a b k) = one_less a b k
levels at _ _ (vector_of a b k) = one_less a b k
levels at _ _ (group f grouping xs ys label z) = few_less xs ys z
levels at _ _ (pair op a b c d pairing k j) = two_less a b c d k j
levels at _ _ (set op a b c d pairing k j) = two_less a b c d k j
levels at _ _ (filtered a b rules k) = one_less a b k
levels at _ _ (ratio a b c d k j) = two_less a b c d k j
levels at _ _ (once a b k) = k
levels at _ _ (gather expr kind engines) = λ m n l h. crowds_less expr m n l h

pub plans_less : (p : Plan) → FewLess (measured p)
plans_less p =
    let none : Plan → Option Plan = λ q. None in
    let all : FewLess (measured (descended none p)) = every none node_measure (λ p. p.node p.at) First (λ at y z s. levels at y z s) (λ p q e. absurd (cc)) p in
    subst (λ (q : Plan). FewLess (measured q)) (nothing_replaced none (λ q. refl) p) all
