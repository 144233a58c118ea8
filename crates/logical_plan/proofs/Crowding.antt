-- Typing a tree leaves its subqueries, and so how many points they have.
use Rattle.std.proofs.Common.{◌≡◌, ◌∙◌, ◌≤◌, ℕ, List, [], ◌∷◌, ◌++◌, map, ap, ap₂, sym, refl, subst}
use Rattle.std.specs.Prelude.{⊤}
use Rattle.label_set.specs.declared.rules.Rule.{Rule}
use Rattle.match_rule.specs.Patterns.{HaveTheirPatterns}
use Rattle.promql_ast.specs.Parts.{AreWithin, Part, parts_of}
use Rattle.promql_ast.specs.declared.refusal.QueryRefusal.{QueryRefusal}
use Rattle.promql_ast.specs.declared.tree.Expr.{Expr}
use Rattle.promql_ast.specs.declared.tree.Node.{Node}
use Rattle.promql_ast.specs.declared.tree.Node.TheVariants.{Number, Words, Paren, Negate, Select, Range, Subquery, Call, Aggregate, Pair, Set}
use Rattle.promql_ast.specs.declared.tree.Node.TheOpen.{Node-F}
use Rattle.promql_ast.specs.declared.tree.Node.TheViews.{roll-Node, roll-Expr, outs-Number, outs-Words, outs-Paren, outs-Negate, outs-Select, outs-Range, outs-Subquery, outs-Call, outs-Aggregate, outs-Pair, outs-Set}
use Rattle.promql_ast.specs.declared.tree.Node.TheFolds.{map-Node, fold-Node, fold_out-Node, fold-roll-Node, fold-roll-Expr, ind-Expr}
use Rattle.promql_type.specs.Judging.{judged}
use Rattle.promql_type.specs.Points.{crowded, crowded_expr, crowded_step}
use Rattle.promql_type.specs.Rules.{result_refusals}
use Rattle.promql_type.specs.Settled.{kind_of, settled, settled_expr, settled_pairing, settled_step}
use Rattle.logical_plan.specs.Validity.{CheckedTreesAreWithinLimits}
use Rattle.logical_plan.proofs.Fronts.{back_none, front_none}

abbrev OfNode : Type 0
OfNode = ℕ → ℕ → List QueryRefusal

abbrev OfTree : Type 0
OfTree = ℕ → List QueryRefusal

abbrev crowded_in : Node → OfNode
crowded_in = fold-Node OfNode OfTree crowded_step crowded_expr

abbrev settled_in : Node → Node
settled_in = fold-Node Node Expr settled_step settled_expr

abbrev IsKept : Expr → Type 0
IsKept e = crowded (settled e) ≡ crowded e

abbrev IsKeptNode : Node → Type 0
IsKeptNode n = crowded_in (settled_in n) ≡ crowded_in n

abbrev Kept : Type 0
Kept = (e : Expr) × IsKept e

abbrev Layer : Type 0
Layer = Node-F ((n : Node) × IsKeptNode n) Kept

abbrev bare : Layer → Node-F Node Expr
bare = map-Node ((n : Node) × IsKeptNode n) Kept Node Expr (λ n. n.0) (λ e. e.0)

all_kept : (items : List Kept) → map crowded (map settled (map (λ e. e.0) items)) ≡ map crowded (map (λ e. e.0) items)
all_kept [] = refl
all_kept (e ∷ es) = ap₂ (λ x xs. x ∷ xs) e.1 (all_kept es)

level : (y : Layer) → crowded_in (settled_step (map-Node Node Expr Node Expr settled_in settled (bare y))) ≡ crowded_step (map-Node Node Expr OfNode OfTree crowded_in crowded (bare y))
level (Node-F.Number value) = fold_out-Node OfNode OfTree crowded_step crowded_expr (Number value) ∙ rw outs-Number refl
level (Node-F.Words text) = fold_out-Node OfNode OfTree crowded_step crowded_expr (Words text) ∙ rw outs-Words refl
level (Node-F.Paren e) = fold_out-Node OfNode OfTree crowded_step crowded_expr (Paren (settled e.0)) ∙ rw outs-Paren (ap (λ a. crowded_step (Node-F.Paren a)) e.1)
level (Node-F.Negate e) = fold_out-Node OfNode OfTree crowded_step crowded_expr (Negate (settled e.0)) ∙ rw outs-Negate (ap (λ a. crowded_step (Node-F.Negate a)) e.1)
level (Node-F.Select selector) = fold_out-Node OfNode OfTree crowded_step crowded_expr (Select selector) ∙ rw outs-Select refl
level (Node-F.Range selector range) = fold_out-Node OfNode OfTree crowded_step crowded_expr (Range selector range) ∙ rw outs-Range refl
level (Node-F.Subquery e range step moment) =
    fold_out-Node OfNode OfTree crowded_step crowded_expr (Subquery (settled e.0) range step moment)
    ∙ rw outs-Subquery (ap (λ a. crowded_step (Node-F.Subquery a range step moment)) e.1)
level (Node-F.Call f items) =
    fold_out-Node OfNode OfTree crowded_step crowded_expr (Call f (map settled (map (λ e. e.0) items))) ∙ rw outs-Call (ap (λ xs. crowded_step (Node-F.Call f xs)) (all_kept items))
level (Node-F.Aggregate f by items) =
    fold_out-Node OfNode OfTree crowded_step crowded_expr (Aggregate f by (map settled (map (λ e. e.0) items)))
    ∙ rw outs-Aggregate (ap (λ xs. crowded_step (Node-F.Aggregate f by xs)) (all_kept items))
level (Node-F.Pair op l r pairing) =
    fold_out-Node OfNode OfTree crowded_step crowded_expr (Pair op (settled l.0) (settled r.0) (settled_pairing (kind_of (settled l.0)) (kind_of (settled r.0)) pairing))
    ∙ rw outs-Pair (ap₂ (λ x z. crowded_step (Node-F.Pair op x z pairing)) l.1 r.1)
level (Node-F.Set op l r pairing) =
    fold_out-Node OfNode OfTree crowded_step crowded_expr (Set op (settled l.0) (settled r.0) pairing)
    ∙ rw outs-Set (ap₂ (λ x z. crowded_step (Node-F.Set op x z pairing)) l.1 r.1)

node_kept : (y : Layer) → IsKeptNode (roll-Node (bare y))
node_kept y =
    ap crowded_in (fold-roll-Node Node Expr settled_step settled_expr (bare y)) ∙ level y ∙ sym (fold-roll-Node OfNode OfTree crowded_step crowded_expr (bare y))

expr_kept : (at : ℕ) (n : Node) → IsKeptNode n → IsKept (roll-Expr (record { at = at; node = n }))
expr_kept at n kept =
    ap crowded (fold-roll-Expr Node Expr settled_step settled_expr (record { at = at; node = n }))
    ∙ fold-roll-Expr OfNode OfTree crowded_step crowded_expr (record { at = at; node = settled_in n })
    ∙ ap (λ (f : OfNode). f at) kept
    ∙ sym (fold-roll-Expr OfNode OfTree crowded_step crowded_expr (record { at = at; node = n }))

settled_crowded : (e : Expr) → crowded (settled e) ≡ crowded e
settled_crowded = ind-Expr IsKeptNode IsKept
    (λ x y is. subst (λ z. IsKeptNode (roll-Node z)) is (node_kept y))
    (λ x y is. subst (λ z. IsKept (roll-Expr z)) is (expr_kept y.at y.node.0 y.node.1))

-- ---- what reading and checking tell

within_alone : (HoldsOf : List Rule → Type 0) (longest latest : ℕ) (parts : List Part) → AreWithin HoldsOf longest latest parts → AreWithin (λ rules. ⊤) longest latest parts
within_alone HoldsOf longest latest [] within = tt
within_alone HoldsOf longest latest (Part.of_rules rules ∷ parts) within = (record {}, within_alone HoldsOf longest latest parts within.1)
within_alone HoldsOf longest latest (Part.of_moment moment ∷ parts) within = (within.0, within_alone HoldsOf longest latest parts within.1)
within_alone HoldsOf longest latest (Part.of_length time ∷ parts) within = (within.0, within_alone HoldsOf longest latest parts within.1)

pub checked_within : CheckedTreesAreWithinLimits
checked_within kept longest latest e typed is taken parts deep within shallow = record {
  within = subst (AreWithin (λ rules. ⊤) longest latest) (sym parts) (within_alone (HaveTheirPatterns kept) longest latest (parts_of e) within);
  few = ap (λ t. crowded t 1) is ∙ ap (λ f. f 1) (settled_crowded e)
      ∙ front_none (crowded e 1) (result_refusals (kind_of e)) (back_none (judged e).refusals (crowded e 1 ++ result_refusals (kind_of e)) taken);
  shallow = subst (λ d. d ≤ 128) (sym deep) shallow;
}
