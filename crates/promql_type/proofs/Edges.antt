-- Typing looks at no moment.
use Rattle.std.proofs.Common.{◌≡◌, ◌∙◌, ◌++◌, ℕ, Bool, List, [], ◌∷◌, map, ap, ap₂, sym, refl, subst}
use Rattle.promql_ast.specs.Edged.{edged, edged_expr, edged_moment, edged_step}
use Rattle.promql_ast.specs.EdgedFolds.{edged_rolls, fold_unmoved, with_edge}
use Rattle.promql_ast.specs.declared.refusal.QueryRefusal.{QueryRefusal}
use Rattle.promql_ast.specs.declared.tree.Expr.{Expr}
use Rattle.promql_ast.specs.declared.tree.Node.{Node}
use Rattle.promql_ast.specs.declared.tree.Node.TheVariants.{Number, Words, Paren, Negate, Select, Range, Subquery, Call, Aggregate, Pair, Set, rolls-Number, rolls-Words, rolls-Paren, rolls-Negate, rolls-Select, rolls-Range, rolls-Subquery, rolls-Call, rolls-Aggregate, rolls-Pair, rolls-Set}
use Rattle.promql_ast.specs.declared.tree.Node.TheOpen.{Node-F}
use Rattle.promql_ast.specs.declared.tree.Node.TheViews.{roll-Node, roll-Expr}
use Rattle.promql_ast.specs.declared.tree.Node.TheFolds.{map-Node, fold-Node, fold-roll-Node, fold-roll-Expr, ind-Expr}
use Rattle.promql_type.specs.declared.kind.Kind.{Kind}
use Rattle.promql_type.specs.Edges.{EdgesAreJudgedAlike, EdgesAreRefusedAlike, EdgesStayTyped}
use Rattle.promql_type.specs.Judging.{Judgement, Layer, expr_step, node_step}
use Rattle.promql_type.specs.Points.{crowded, crowded_expr, crowded_step}
use Rattle.promql_type.specs.Rules.{result_refusals}
use Rattle.promql_type.specs.Settled.{kind_of, settled, settled_expr, settled_pairing, settled_step}
use Rattle.promql_type.proofs.Settles.{node_settled}

-- ---- judging

judged_by : (closed : Bool) (y : Layer) → node_step (with_edge closed y) ≡ node_step y
judged_by closed (Node-F.Number value) = refl
judged_by closed (Node-F.Words text) = refl
judged_by closed (Node-F.Paren inner) = refl
judged_by closed (Node-F.Negate inner) = refl
judged_by closed (Node-F.Select selector) = refl
judged_by closed (Node-F.Range selector range) = refl
judged_by closed (Node-F.Subquery inner range step moment) = refl
judged_by closed (Node-F.Call f arguments) = refl
judged_by closed (Node-F.Aggregate f grouping arguments) = refl
judged_by closed (Node-F.Pair op left right pairing) = refl
judged_by closed (Node-F.Set op left right pairing) = refl

pub judged_alike : EdgesAreJudgedAlike
judged_alike closed e = fold_unmoved closed node_step expr_step (judged_by closed) e

crowded_by : (closed : Bool) (y : Node-F (ℕ → ℕ → List QueryRefusal) (ℕ → List QueryRefusal)) → crowded_step (with_edge closed y) ≡ crowded_step y
crowded_by closed (Node-F.Number value) = refl
crowded_by closed (Node-F.Words text) = refl
crowded_by closed (Node-F.Paren inner) = refl
crowded_by closed (Node-F.Negate inner) = refl
crowded_by closed (Node-F.Select selector) = refl
crowded_by closed (Node-F.Range selector range) = refl
crowded_by closed (Node-F.Subquery inner range step moment) = refl
crowded_by closed (Node-F.Call f arguments) = refl
crowded_by closed (Node-F.Aggregate f grouping arguments) = refl
crowded_by closed (Node-F.Pair op left right pairing) = refl
crowded_by closed (Node-F.Set op left right pairing) = refl

crowded_alike : (closed : Bool) (e : Expr) → crowded (edged closed e) ≡ crowded e
crowded_alike closed e = fold_unmoved closed crowded_step crowded_expr (crowded_by closed) e

kind_alike : (closed : Bool) (e : Expr) → kind_of (edged closed e) ≡ kind_of e
kind_alike closed e = ap (λ (j : Judgement). j.operand.gives) (judged_alike closed e)

pub refused_alike : EdgesAreRefusedAlike
refused_alike closed e =
    ap₂ (λ (j : Judgement) (c : ℕ → List QueryRefusal). j.refusals ++ (c 1 ++ result_refusals j.operand.gives)) (judged_alike closed e) (crowded_alike closed e)

-- ---- the typed tree

-- a node without the matching words that are dropped
abbrev unpaired : Node-F Node Expr → Node-F Node Expr
unpaired (Node-F.Pair op left right pairing) = Node-F.Pair op left right (settled_pairing (kind_of left) (kind_of right) pairing)
unpaired y = y

settled_rolls : (y : Node-F Node Expr) → settled_step y ≡ roll-Node (unpaired y)
settled_rolls (Node-F.Number value) = sym (rolls-Number value)
settled_rolls (Node-F.Words text) = sym (rolls-Words text)
settled_rolls (Node-F.Paren inner) = sym (rolls-Paren inner)
settled_rolls (Node-F.Negate inner) = sym (rolls-Negate inner)
settled_rolls (Node-F.Select selector) = sym (rolls-Select selector)
settled_rolls (Node-F.Range selector range) = sym (rolls-Range selector range)
settled_rolls (Node-F.Subquery inner range step moment) = sym (rolls-Subquery inner range step moment)
settled_rolls (Node-F.Call f arguments) = sym (rolls-Call f arguments)
settled_rolls (Node-F.Aggregate f grouping arguments) = sym (rolls-Aggregate f grouping arguments)
settled_rolls (Node-F.Pair op left right pairing) = sym (rolls-Pair op left right (settled_pairing (kind_of left) (kind_of right) pairing))
settled_rolls (Node-F.Set op left right pairing) = sym (rolls-Set op left right pairing)

module _ (closed : Bool) where
  abbrev edged_node : Node → Node
  edged_node = fold-Node Node Expr (edged_step closed) edged_expr

  abbrev IsSame : Expr → Type 0
  IsSame e = settled (edged closed e) ≡ edged closed (settled e)

  abbrev IsSameNode : Node → Type 0
  IsSameNode n = node_settled (edged_node n) ≡ edged_node (node_settled n)

  abbrev Given : Type 0
  Given = Node-F ((n : Node) × IsSameNode n) ((e : Expr) × IsSame e)

  abbrev plain : Given → Node-F Node Expr
  plain = map-Node ((n : Node) × IsSameNode n) ((e : Expr) × IsSame e) Node Expr (λ e. e.0) (λ e. e.0)

  all_same : (items : List ((e : Expr) × IsSame e)) → map settled (map (edged closed) (map (λ e. e.0) items)) ≡ map (edged closed) (map settled (map (λ e. e.0) items))
  all_same [] = refl
  all_same (e ∷ es) = ap₂ (λ x xs. x ∷ xs) e.1 (all_same es)

  kind_same : (a : (e : Expr) × IsSame e) → kind_of (settled (edged closed a.0)) ≡ kind_of (settled a.0)
  kind_same a = ap kind_of a.1 ∙ kind_alike closed (settled a.0)

  -- one level, where the children are the same
  level : (y : Given) → settled_step (map-Node Node Expr Node Expr node_settled settled (with_edge closed (map-Node Node Expr Node Expr edged_node (edged closed) (plain y))))
      ≡ edged_step closed (map-Node Node Expr Node Expr edged_node (edged closed) (unpaired (map-Node Node Expr Node Expr node_settled settled (plain y))))
  level (Node-F.Number value) = refl
  level (Node-F.Words text) = refl
  level (Node-F.Paren e) = ap Paren e.1
  level (Node-F.Negate e) = ap Negate e.1
  level (Node-F.Select selector) = refl
  level (Node-F.Range selector range) = refl
  level (Node-F.Subquery e range step moment) = ap (λ (x : Expr). Subquery x range step (edged_moment closed moment)) e.1
  level (Node-F.Call f items) = ap (λ (xs : List Expr). Call f xs) (all_same items)
  level (Node-F.Aggregate f grouping items) = ap (λ (xs : List Expr). Aggregate f grouping xs) (all_same items)
  level (Node-F.Pair op a b pairing) =
      ap₂ (λ (k l : Kind). Pair op (settled (edged closed a.0)) (settled (edged closed b.0)) (settled_pairing k l pairing)) (kind_same a) (kind_same b)
      ∙ ap₂ (λ (x y : Expr). Pair op x y (settled_pairing (kind_of (settled a.0)) (kind_of (settled b.0)) pairing)) a.1 b.1
  level (Node-F.Set op a b pairing) = ap₂ (λ (x y : Expr). Set op x y pairing) a.1 b.1

  node_same : (y : Given) → IsSameNode (roll-Node (plain y))
  node_same y =
      let inner : Node-F Node Expr = map-Node Node Expr Node Expr edged_node (edged closed) (plain y) in
      let typed : Node-F Node Expr = map-Node Node Expr Node Expr node_settled settled (plain y) in
      ap node_settled (fold-roll-Node Node Expr (edged_step closed) edged_expr (plain y) ∙ edged_rolls closed inner)
      ∙ fold-roll-Node Node Expr settled_step settled_expr (with_edge closed inner) ∙ level y
      ∙ sym (ap edged_node (fold-roll-Node Node Expr settled_step settled_expr (plain y) ∙ settled_rolls typed)
      ∙ fold-roll-Node Node Expr (edged_step closed) edged_expr (unpaired typed))

  expr_same : (at : ℕ) (n : Node) → IsSameNode n → IsSame (roll-Expr (record { at = at; node = n }))
  expr_same at n same =
      ap settled (fold-roll-Expr Node Expr (edged_step closed) edged_expr (record { at = at; node = n }))
      ∙ fold-roll-Expr Node Expr settled_step settled_expr (record { at = at; node = edged_node n })
      ∙ ap (λ (m : Node). roll-Expr (record { at = at; node = m })) same
      ∙ sym (ap (edged closed) (fold-roll-Expr Node Expr settled_step settled_expr (record { at = at; node = n }))
      ∙ fold-roll-Expr Node Expr (edged_step closed) edged_expr (record { at = at; node = node_settled n }))

  pub typed_alike : (e : Expr) → settled (edged closed e) ≡ edged closed (settled e)
  typed_alike = ind-Expr IsSameNode IsSame
      (λ x y is. subst (λ z. IsSameNode (roll-Node z)) is (node_same y))
      (λ x y is. subst (λ z. IsSame (roll-Expr z)) is (expr_same y.at y.node.0 y.node.1))

pub stay_typed : EdgesStayTyped
stay_typed closed e = typed_alike closed e
