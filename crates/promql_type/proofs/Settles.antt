-- A typed tree is judged as the tree that it is made of.
use Rattle.std.proofs.Common.{◌≡◌, ◌∙◌, ℕ, List, [], ◌∷◌, ◌++◌, map, ap, ap₂, sym, refl, subst, Bool, true, false}
use Rattle.label_set.specs.declared.rules.Pairing.{Pairing}
use Rattle.xfrac.specs.declared.value.PairOp.{PairOp}
use Rattle.promql_ast.specs.declared.tree.Expr.{Expr}
use Rattle.promql_ast.specs.declared.tree.Node.{Node}
use Rattle.promql_ast.specs.declared.tree.Node.TheVariants.{Number, Words, Paren, Negate, Select, Range, Subquery, Call, Aggregate, Pair, Set}
use Rattle.promql_ast.specs.declared.tree.Node.TheOpen.{Node-F}
use Rattle.promql_ast.specs.declared.tree.Node.TheViews.{roll-Node, roll-Expr, outs-Number, outs-Words, outs-Paren, outs-Negate, outs-Select, outs-Range, outs-Subquery, outs-Call, outs-Aggregate, outs-Pair, outs-Set}
use Rattle.promql_ast.specs.declared.tree.Node.TheFolds.{map-Node, fold-Node, fold_out-Node, fold-roll-Node, fold-roll-Expr, ind-Expr}
use Rattle.promql_type.specs.declared.kind.Operand.{Operand}
use Rattle.promql_type.specs.Judging.{Judgement, judged, node_step, expr_step}
use Rattle.promql_type.specs.Rules.{matching_refusals, pair_refusals, operand_refusals, comparison_refusals}
use Rattle.promql_type.specs.Settled.{kind_of, pairing_beside, settled, settled_expr, settled_pairing, settled_step}

abbrev At : Type 0
At = ℕ → Judgement

abbrev node_judged : Node → At
node_judged = fold-Node At Judgement node_step expr_step

abbrev pub node_settled : Node → Node
node_settled = fold-Node Node Expr settled_step settled_expr

abbrev IsKept : Expr → Type 0
IsKept e = judged (settled e) ≡ judged e

abbrev IsKeptNode : Node → Type 0
IsKeptNode n = (at : ℕ) → node_judged (node_settled n) at ≡ node_judged n at

abbrev Given : Type 0
Given = Node-F ((n : Node) × IsKeptNode n) ((e : Expr) × IsKept e)

abbrev plain : Given → Node-F Node Expr
plain = map-Node ((n : Node) × IsKeptNode n) ((e : Expr) × IsKept e) Node Expr (λ e. e.0) (λ e. e.0)

same_matching : (b : Bool) (p : Pairing) (left right : Operand) → matching_refusals (pairing_beside b p) left right ≡ matching_refusals p left right
same_matching false p left right = refl
same_matching true p left right = of_names p.names refl
  where
    of_names : (names : List (List ℕ)) → names ≡ p.names → matching_refusals (pairing_beside true p) left right ≡ matching_refusals p left right
    of_names [] is = rw (sym is) refl
    of_names (name ∷ names) is = rw (sym is) refl

same_pair : (op : PairOp) (b : Bool) (p : Pairing) (left right : Operand) (at : ℕ)
    → pair_refusals op (pairing_beside b p) left right at ≡ pair_refusals op p left right at
same_pair op b p left right at =
    ap (λ m. (operand_refusals left ++ operand_refusals right) ++ (m ++ comparison_refusals op left right at)) (same_matching b p left right)

all_kept : (items : List ((e : Expr) × IsKept e)) → map judged (map settled (map (λ e. e.0) items)) ≡ map judged (map (λ e. e.0) items)
all_kept [] = refl
all_kept (e ∷ es) = ap₂ (λ x xs. x ∷ xs) e.1 (all_kept es)

-- one level, of the nodes that are judged
level : (y : Given) (at : ℕ) → node_judged (settled_step (map-Node Node Expr Node Expr node_settled settled (plain y))) at ≡ node_step (map-Node Node Expr At Judgement node_judged judged (plain y)) at
level (Node-F.Number value) at = ap (λ f. f at) (fold_out-Node At Judgement node_step expr_step (Number value)) ∙ rw outs-Number refl
level (Node-F.Words text) at = ap (λ f. f at) (fold_out-Node At Judgement node_step expr_step (Words text)) ∙ rw outs-Words refl
level (Node-F.Paren e) at =
    ap (λ f. f at) (fold_out-Node At Judgement node_step expr_step (Paren (settled e.0))) ∙ rw outs-Paren (ap (λ j. node_step (Node-F.Paren j) at) e.1)
level (Node-F.Negate e) at =
    ap (λ f. f at) (fold_out-Node At Judgement node_step expr_step (Negate (settled e.0))) ∙ rw outs-Negate (ap (λ j. node_step (Node-F.Negate j) at) e.1)
level (Node-F.Select selector) at = ap (λ f. f at) (fold_out-Node At Judgement node_step expr_step (Select selector)) ∙ rw outs-Select refl
level (Node-F.Range selector range) at = ap (λ f. f at) (fold_out-Node At Judgement node_step expr_step (Range selector range)) ∙ rw outs-Range refl
level (Node-F.Subquery e range step moment) at =
    ap (λ f. f at) (fold_out-Node At Judgement node_step expr_step (Subquery (settled e.0) range step moment))
    ∙ rw outs-Subquery (ap (λ j. node_step (Node-F.Subquery j range step moment) at) e.1)
level (Node-F.Call f items) at =
    ap (λ g. g at) (fold_out-Node At Judgement node_step expr_step (Call f (map settled (map (λ e. e.0) items))))
    ∙ rw outs-Call (ap (λ js. node_step (Node-F.Call f js) at) (all_kept items))
level (Node-F.Aggregate f grouping items) at =
    ap (λ g. g at) (fold_out-Node At Judgement node_step expr_step (Aggregate f grouping (map settled (map (λ e. e.0) items))))
    ∙ rw outs-Aggregate (ap (λ js. node_step (Node-F.Aggregate f grouping js) at) (all_kept items))
level (Node-F.Pair op a b pairing) at =
    ap (λ f. f at) (fold_out-Node At Judgement node_step expr_step (Pair op (settled a.0) (settled b.0) (settled_pairing (kind_of (settled a.0)) (kind_of (settled b.0)) pairing)))
    ∙ rw outs-Pair (same_step (settled a.0) (settled b.0)
    ∙ ap₂ (λ x y. node_step (Node-F.Pair op x y pairing) at) a.1 b.1)
  where
    same_step : (l r : Expr) → node_step (Node-F.Pair op (judged l) (judged r) (settled_pairing (kind_of l) (kind_of r) pairing)) at ≡ node_step (Node-F.Pair op (judged l) (judged r) pairing) at
    same_step l r = ap (λ own. record (node_step (Node-F.Pair op (judged l) (judged r) pairing) at) { refusals = ((judged l).refusals ++ (judged r).refusals) ++ own }) (same_pair op _ pairing (judged l).operand (judged r).operand at)
level (Node-F.Set op a b pairing) at =
    ap (λ f. f at) (fold_out-Node At Judgement node_step expr_step (Set op (settled a.0) (settled b.0) pairing))
    ∙ rw outs-Set (ap₂ (λ x y. node_step (Node-F.Set op x y pairing) at) a.1 b.1)

node_kept : (y : Given) → IsKeptNode (roll-Node (plain y))
node_kept y at =
    ap (λ n. node_judged n at) (fold-roll-Node Node Expr settled_step settled_expr (plain y)) ∙ level y at ∙ sym (ap (λ f. f at) (fold-roll-Node At Judgement node_step expr_step (plain y)))

expr_kept : (at : ℕ) (n : Node) → IsKeptNode n → IsKept (roll-Expr (record { at = at; node = n }))
expr_kept at n kept =
    ap judged (fold-roll-Expr Node Expr settled_step settled_expr (record { at = at; node = n }))
    ∙ fold-roll-Expr At Judgement node_step expr_step (record { at = at; node = node_settled n }) ∙ kept at
    ∙ sym (fold-roll-Expr At Judgement node_step expr_step (record { at = at; node = n }))

pub settled_is_judged : (e : Expr) → judged (settled e) ≡ judged e
settled_is_judged = ind-Expr IsKeptNode IsKept
    (λ x y is. subst (λ z. IsKeptNode (roll-Node z)) is (node_kept y))
    (λ x y is. subst (λ z. IsKept (roll-Expr z)) is (expr_kept y.at y.node.0 y.node.1))
