-- What trees have once an edge is set.
use Rattle.std.proofs.Common.{◌≡◌, ◌∙◌, ℕ, Bool, List, [], ◌∷◌, map, ap, ap₂, refl, sym, subst}
use Rattle.std.specs.Prelude.{⊤}
use Rattle.std.specs.List.{AllByRecursion}
use Rattle.holders.specs.Joins.{back_of, front_of}
use Rattle.promql_ast.specs.declared.tree.Expr.{Expr}
use Rattle.promql_ast.specs.declared.tree.Moment.{Moment}
use Rattle.promql_ast.specs.declared.tree.Selector.{Selector}
use Rattle.promql_ast.specs.declared.tree.Node.{Node}
use Rattle.promql_ast.specs.declared.tree.Node.TheOpen.{Node-F}
use Rattle.promql_ast.specs.declared.tree.Node.TheViews.{roll-Node, roll-Expr}
use Rattle.promql_ast.specs.declared.tree.Node.TheFolds.{map-Node, fold-Node, fold-roll-Node, fold-roll-Expr, ind-Expr}
use Rattle.promql_ast.specs.Edged.{AreEdged, EdgedTreesStay, EdgesAreSet, IsEdged, LastEdgeCounts, edged, edged_expr, edged_moment, edged_selector, edged_step}
use Rattle.promql_ast.specs.EdgedFolds.{edged_part, edged_rolls, fold_unmoved, parts_of_edged, with_edge}
use Rattle.promql_ast.specs.Parts.{Part, all_of, node_parts, parts_of}

-- ---- all moments have it

any_parts : (parts : List Part) → AllByRecursion (λ (part : Part). ⊤) parts
any_parts [] = tt
any_parts (part ∷ parts) = (tt, any_parts parts)

part_set : (closed : Bool) (part : Part) → ⊤ → IsEdged closed (edged_part closed part)
part_set closed (Part.of_rules rules) is = tt
part_set closed (Part.of_moment moment) is = refl
part_set closed (Part.of_length length) is = tt

pub are_set : EdgesAreSet
are_set closed e = parts_of_edged closed (λ part. ⊤) (IsEdged closed) (part_set closed) e (any_parts (parts_of e))

-- ---- the last one counts

last_by : (first last : Bool) (y : Node-F Node Expr) → edged_step last (with_edge first y) ≡ edged_step last y
last_by first last (Node-F.Number value) = refl
last_by first last (Node-F.Words text) = refl
last_by first last (Node-F.Paren inner) = refl
last_by first last (Node-F.Negate inner) = refl
last_by first last (Node-F.Select selector) = refl
last_by first last (Node-F.Range selector range) = refl
last_by first last (Node-F.Subquery inner range step moment) = refl
last_by first last (Node-F.Call f arguments) = refl
last_by first last (Node-F.Aggregate f grouping arguments) = refl
last_by first last (Node-F.Pair op left right pairing) = refl
last_by first last (Node-F.Set op left right pairing) = refl

pub last_counts : LastEdgeCounts
last_counts first last e = fold_unmoved first (edged_step last) edged_expr (last_by first last) e

-- ---- a tree that has it stays

same_moment : (closed : Bool) (moment : Moment) → moment.closed ≡ closed → edged_moment closed moment ≡ moment
same_moment closed moment is = ap (λ (c : Bool). record moment { closed = c }) (sym is)

same_selector : (closed : Bool) (selector : Selector) → selector.moment.closed ≡ closed → edged_selector closed selector ≡ selector
same_selector closed selector is = ap (λ (m : Moment). record selector { moment = m }) (same_moment closed selector.moment is)

module _ (closed : Bool) where
  abbrev edged_node : Node → Node
  edged_node = fold-Node Node Expr (edged_step closed) edged_expr

  abbrev parts_at : Node → List Part
  parts_at = fold-Node (List Part) (List Part) node_parts (λ e. e.node)

  abbrev IsStill : Expr → Type 0
  IsStill e = AreEdged closed e → edged closed e ≡ e

  abbrev IsStillNode : Node → Type 0
  IsStillNode n = AllByRecursion (IsEdged closed) (parts_at n) → edged_node n ≡ n

  abbrev Given : Type 0
  Given = Node-F ((n : Node) × IsStillNode n) ((e : Expr) × IsStill e)

  abbrev plain : Given → Node-F Node Expr
  plain = map-Node ((n : Node) × IsStillNode n) ((e : Expr) × IsStill e) Node Expr (λ e. e.0) (λ e. e.0)

  all_still : (items : List ((e : Expr) × IsStill e)) → AllByRecursion (IsEdged closed) (all_of (map parts_of (map (λ e. e.0) items)))
      → map (edged closed) (map (λ e. e.0) items) ≡ map (λ e. e.0) items
  all_still [] all = refl
  all_still (e ∷ es) all =
      let others : List Part = all_of (map parts_of (map (λ e. e.0) es)) in
      ap₂ (λ x xs. x ∷ xs) (e.1 (front_of (IsEdged closed) (parts_of e.0) others all)) (all_still es (back_of (IsEdged closed) (parts_of e.0) others all))

  level : (y : Given) → AllByRecursion (IsEdged closed) (node_parts (map-Node Node Expr (List Part) (List Part) parts_at parts_of (plain y)))
      → with_edge closed (map-Node Node Expr Node Expr edged_node (edged closed) (plain y)) ≡ plain y
  level (Node-F.Number value) all = refl
  level (Node-F.Words text) all = refl
  level (Node-F.Paren e) all = ap (λ x. Node-F.Paren x) (e.1 all)
  level (Node-F.Negate e) all = ap (λ x. Node-F.Negate x) (e.1 all)
  level (Node-F.Select selector) all = ap (λ x. Node-F.Select x) (same_selector closed selector all.1.0)
  level (Node-F.Range selector range) all = ap (λ x. Node-F.Range x range) (same_selector closed selector all.1.0)
  level (Node-F.Subquery e range step moment) all = ap₂ (λ x m. Node-F.Subquery x range step m) (e.1 all.1.1.1) (same_moment closed moment all.0)
  level (Node-F.Call f items) all = ap (λ xs. Node-F.Call f xs) (all_still items all)
  level (Node-F.Aggregate f grouping items) all = ap (λ xs. Node-F.Aggregate f grouping xs) (all_still items all)
  level (Node-F.Pair op a b pairing) all =
      ap₂ (λ x y. Node-F.Pair op x y pairing) (a.1 (front_of (IsEdged closed) (parts_of a.0) (parts_of b.0) all)) (b.1 (back_of (IsEdged closed) (parts_of a.0) (parts_of b.0) all))
  level (Node-F.Set op a b pairing) all =
      ap₂ (λ x y. Node-F.Set op x y pairing) (a.1 (front_of (IsEdged closed) (parts_of a.0) (parts_of b.0) all)) (b.1 (back_of (IsEdged closed) (parts_of a.0) (parts_of b.0) all))

  node_still : (y : Given) → IsStillNode (roll-Node (plain y))
  node_still y all =
      fold-roll-Node Node Expr (edged_step closed) edged_expr (plain y) ∙ edged_rolls closed (map-Node Node Expr Node Expr edged_node (edged closed) (plain y))
      ∙ ap roll-Node (level y (subst (AllByRecursion (IsEdged closed)) (fold-roll-Node (List Part) (List Part) node_parts (λ e. e.node) (plain y)) all))

  expr_still : (place : ℕ) (n : Node) → IsStillNode n → IsStill (roll-Expr (record { at = place; node = n }))
  expr_still place n still all =
      fold-roll-Expr Node Expr (edged_step closed) edged_expr (record { at = place; node = n })
      ∙ ap (λ (m : Node). roll-Expr (record { at = place; node = m }))
      (still (subst (AllByRecursion (IsEdged closed)) (fold-roll-Expr (List Part) (List Part) node_parts (λ e. e.node) (record { at = place; node = n })) all))

  still_trees : (e : Expr) → IsStill e
  still_trees = ind-Expr IsStillNode IsStill
      (λ x y is. subst (λ z. IsStillNode (roll-Node z)) is (node_still y))
      (λ x y is. subst (λ z. IsStill (roll-Expr z)) is (expr_still y.at y.node.0 y.node.1))

pub stay : EdgedTreesStay
stay closed e are = still_trees closed e are
