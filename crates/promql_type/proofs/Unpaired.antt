-- What a tree tells whatever its pairings are, its typed tree tells too.
use Rattle.std.proofs.Common.{◌≡◌, ◌∙◌, List, [], ◌∷◌, map, ap, ap₂, sym, refl, subst, ℕ}
use Rattle.label_set.specs.declared.rules.Pairing.{Pairing}
use Rattle.xfrac.specs.declared.value.PairOp.{PairOp}
use Rattle.promql_ast.specs.Depth.{depth, node_depth}
use Rattle.promql_ast.specs.Parts.{node_parts, parts_of}
use Rattle.promql_ast.specs.declared.tree.Expr.{Expr}
use Rattle.promql_ast.specs.declared.tree.Node.{Node}
use Rattle.promql_ast.specs.declared.tree.Node.TheVariants.{Number, Words, Paren, Negate, Select, Range, Subquery, Call, Aggregate, Pair, Set}
use Rattle.promql_ast.specs.declared.tree.Node.TheOpen.{Node-F}
use Rattle.promql_ast.specs.declared.tree.Node.TheViews.{roll-Node, roll-Expr, outs-Number, outs-Words, outs-Paren, outs-Negate, outs-Select, outs-Range, outs-Subquery, outs-Call, outs-Aggregate, outs-Pair, outs-Set}
use Rattle.promql_ast.specs.declared.tree.Node.TheFolds.{map-Node, fold-Expr, fold-Node, fold_out-Node, fold-roll-Node, fold-roll-Expr, ind-Expr}
use Rattle.promql_type.specs.Settled.{kind_of, settled, settled_expr, settled_pairing, settled_step}
use Rattle.promql_type.proofs.Settles.{node_settled}

module _ {A : Type 0} (step : Node-F A A → A)
    (unpaired : (op : PairOp) (left right : A) (p q : Pairing) → step (Node-F.Pair op left right p) ≡ step (Node-F.Pair op left right q)) where
  abbrev told : Expr → A
  told = fold-Expr A A step (λ e. e.node)

  abbrev node_told : Node → A
  node_told = fold-Node A A step (λ e. e.node)

  abbrev IsTold : Expr → Type 0
  IsTold e = told (settled e) ≡ told e

  abbrev IsToldNode : Node → Type 0
  IsToldNode n = node_told (node_settled n) ≡ node_told n

  abbrev Given : Type 0
  Given = Node-F ((n : Node) × IsToldNode n) ((e : Expr) × IsTold e)

  abbrev plain : Given → Node-F Node Expr
  plain = map-Node ((n : Node) × IsToldNode n) ((e : Expr) × IsTold e) Node Expr (λ e. e.0) (λ e. e.0)

  all_told : (items : List ((e : Expr) × IsTold e)) → map told (map settled (map (λ e. e.0) items)) ≡ map told (map (λ e. e.0) items)
  all_told [] = refl
  all_told (e ∷ es) = ap₂ (λ x xs. x ∷ xs) e.1 (all_told es)

  -- one level
  level : (y : Given) → node_told (settled_step (map-Node Node Expr Node Expr node_settled settled (plain y))) ≡ step (map-Node Node Expr A A node_told told (plain y))
  level (Node-F.Number value) = fold_out-Node A A step (λ e. e.node) (Number value) ∙ rw outs-Number refl
  level (Node-F.Words text) = fold_out-Node A A step (λ e. e.node) (Words text) ∙ rw outs-Words refl
  level (Node-F.Paren e) = fold_out-Node A A step (λ e. e.node) (Paren (settled e.0)) ∙ rw outs-Paren (ap (λ a. step (Node-F.Paren a)) e.1)
  level (Node-F.Negate e) = fold_out-Node A A step (λ e. e.node) (Negate (settled e.0)) ∙ rw outs-Negate (ap (λ a. step (Node-F.Negate a)) e.1)
  level (Node-F.Select selector) = fold_out-Node A A step (λ e. e.node) (Select selector) ∙ rw outs-Select refl
  level (Node-F.Range selector range) = fold_out-Node A A step (λ e. e.node) (Range selector range) ∙ rw outs-Range refl
  level (Node-F.Subquery e range size moment) =
      fold_out-Node A A step (λ e. e.node) (Subquery (settled e.0) range size moment) ∙ rw outs-Subquery (ap (λ a. step (Node-F.Subquery a range size moment)) e.1)
  level (Node-F.Call f items) =
      fold_out-Node A A step (λ e. e.node) (Call f (map settled (map (λ e. e.0) items))) ∙ rw outs-Call (ap (λ bs. step (Node-F.Call f bs)) (all_told items))
  level (Node-F.Aggregate f grouping items) =
      fold_out-Node A A step (λ e. e.node) (Aggregate f grouping (map settled (map (λ e. e.0) items)))
      ∙ rw outs-Aggregate (ap (λ bs. step (Node-F.Aggregate f grouping bs)) (all_told items))
  level (Node-F.Pair op a b pairing) =
      let kept = settled_pairing (kind_of (settled a.0)) (kind_of (settled b.0)) pairing in
      fold_out-Node A A step (λ e. e.node) (Pair op (settled a.0) (settled b.0) kept)
      ∙ rw outs-Pair (unpaired op (told (settled a.0)) (told (settled b.0)) kept pairing ∙ ap₂ (λ x y. step (Node-F.Pair op x y pairing)) a.1 b.1)
  level (Node-F.Set op a b pairing) =
      fold_out-Node A A step (λ e. e.node) (Set op (settled a.0) (settled b.0) pairing) ∙ rw outs-Set (ap₂ (λ x y. step (Node-F.Set op x y pairing)) a.1 b.1)

  node_kept : (y : Given) → IsToldNode (roll-Node (plain y))
  node_kept y = ap node_told (fold-roll-Node Node Expr settled_step settled_expr (plain y)) ∙ level y ∙ sym (fold-roll-Node A A step (λ e. e.node) (plain y))

  expr_kept : (at : ℕ) (n : Node) → IsToldNode n → IsTold (roll-Expr (record { at = at; node = n }))
  expr_kept at n kept =
      ap told (fold-roll-Expr Node Expr settled_step settled_expr (record { at = at; node = n }))
      ∙ fold-roll-Expr A A step (λ e. e.node) (record { at = at; node = node_settled n }) ∙ kept
      ∙ sym (fold-roll-Expr A A step (λ e. e.node) (record { at = at; node = n }))

  pub told_of_settled : (e : Expr) → told (settled e) ≡ told e
  told_of_settled = ind-Expr IsToldNode IsTold
      (λ x y is. subst (λ z. IsToldNode (roll-Node z)) is (node_kept y))
      (λ x y is. subst (λ z. IsTold (roll-Expr z)) is (expr_kept y.at y.node.0 y.node.1))

pub settled_parts : (e : Expr) → parts_of (settled e) ≡ parts_of e
settled_parts = told_of_settled node_parts (λ op left right p q. refl)

pub settled_depth : (e : Expr) → depth (settled e) ≡ depth e
settled_depth = told_of_settled node_depth (λ op left right p q. refl)
