-- A fold of a tree whose moments were given an edge is a fold of the tree itself, whose step looks at each node with that edge.
-- Proofs that an edge changes nothing but selections rest on it.
use Rattle.std.proofs.Common.{◌≡◌, ◌∙◌, ℕ, Bool, List, [], ◌∷◌, ◌++◌, map, ap, ap₂, refl, sym, subst}
use Rattle.std.specs.List.{AllByRecursion}
use Rattle.holders.specs.Joins.{back_of, both_of, front_of}
use Rattle.label_set.specs.declared.rules.Rule.{Rule}
use Rattle.promql_ast.specs.declared.tree.Expr.{Expr}
use Rattle.promql_ast.specs.declared.tree.Node.{Node}
use Rattle.promql_ast.specs.declared.tree.Node.TheVariants.{rolls-Number, rolls-Words, rolls-Paren, rolls-Negate, rolls-Select, rolls-Range, rolls-Subquery, rolls-Call, rolls-Aggregate, rolls-Pair, rolls-Set}
use Rattle.promql_ast.specs.declared.tree.Node.TheOpen.{Node-F, Expr-F}
use Rattle.promql_ast.specs.declared.tree.Node.TheViews.{roll-Node, roll-Expr}
use Rattle.promql_ast.specs.declared.tree.Node.TheFolds.{map-Node, fold-Expr, fold-Node, fold-roll-Node, fold-roll-Expr, ind-Expr}
use Rattle.promql_ast.specs.Depth.{depth, node_depth}
use Rattle.promql_ast.specs.Edged.{edged, edged_expr, edged_moment, edged_selector, edged_step}
use Rattle.promql_ast.specs.Parts.{AreWithin, IsWithin, Part, all_of, node_parts, parts_of}

-- a node whose moment has an edge, with what its children give
abbrev pub with_edge : {A B : Type 0} → Bool → Node-F A B → Node-F A B
with_edge closed (Node-F.Number value) = Node-F.Number value
with_edge closed (Node-F.Words text) = Node-F.Words text
with_edge closed (Node-F.Paren inner) = Node-F.Paren inner
with_edge closed (Node-F.Negate inner) = Node-F.Negate inner
with_edge closed (Node-F.Select selector) = Node-F.Select (edged_selector closed selector)
with_edge closed (Node-F.Range selector range) = Node-F.Range (edged_selector closed selector) range
with_edge closed (Node-F.Subquery inner range step moment) = Node-F.Subquery inner range step (edged_moment closed moment)
with_edge closed (Node-F.Call f arguments) = Node-F.Call f arguments
with_edge closed (Node-F.Aggregate f grouping arguments) = Node-F.Aggregate f grouping arguments
with_edge closed (Node-F.Pair op left right pairing) = Node-F.Pair op left right pairing
with_edge closed (Node-F.Set op left right pairing) = Node-F.Set op left right pairing

pub edged_rolls : (closed : Bool) (y : Node-F Node Expr) → edged_step closed y ≡ roll-Node (with_edge closed y)
unfolding roll-Node denote.Hole.Carrier.roll
edged_rolls closed (Node-F.Number value) = rolls-Number value
edged_rolls closed (Node-F.Words text) = rolls-Words text
edged_rolls closed (Node-F.Paren inner) = rolls-Paren inner
edged_rolls closed (Node-F.Negate inner) = rolls-Negate inner
edged_rolls closed (Node-F.Select selector) = rolls-Select (edged_selector closed selector)
edged_rolls closed (Node-F.Range selector range) = rolls-Range (edged_selector closed selector) range
edged_rolls closed (Node-F.Subquery inner range step moment) = rolls-Subquery inner range step (edged_moment closed moment)
edged_rolls closed (Node-F.Call f arguments) = rolls-Call f arguments
edged_rolls closed (Node-F.Aggregate f grouping arguments) = rolls-Aggregate f grouping arguments
edged_rolls closed (Node-F.Pair op left right pairing) = rolls-Pair op left right pairing
edged_rolls closed (Node-F.Set op left right pairing) = rolls-Set op left right pairing

module _ (closed : Bool) {A B : Type 0} (node_step : Node-F A B → A) (expr_step : Expr-F A B → B) where
  abbrev edged_node : Node → Node
  edged_node = fold-Node Node Expr (edged_step closed) edged_expr

  abbrev of : Expr → B
  of = fold-Expr A B node_step expr_step

  abbrev at : Node → A
  at = fold-Node A B node_step expr_step

  abbrev seen_step : Node-F A B → A
  seen_step y = node_step (with_edge closed y)

  abbrev seen : Expr → B
  seen = fold-Expr A B seen_step expr_step

  abbrev seen_at : Node → A
  seen_at = fold-Node A B seen_step expr_step

  abbrev IsFused : Expr → Type 0
  IsFused e = of (edged closed e) ≡ seen e

  abbrev IsFusedNode : Node → Type 0
  IsFusedNode n = at (edged_node n) ≡ seen_at n

  abbrev Given : Type 0
  Given = Node-F ((n : Node) × IsFusedNode n) ((e : Expr) × IsFused e)

  abbrev plain : Given → Node-F Node Expr
  plain = map-Node ((n : Node) × IsFusedNode n) ((e : Expr) × IsFused e) Node Expr (λ e. e.0) (λ e. e.0)

  all_fused : (items : List ((e : Expr) × IsFused e)) → map of (map (edged closed) (map (λ e. e.0) items)) ≡ map seen (map (λ e. e.0) items)
  all_fused [] = refl
  all_fused (e ∷ es) = ap₂ (λ x xs. x ∷ xs) e.1 (all_fused es)

  -- one level
  level : (y : Given) → map-Node Node Expr A B at of (with_edge closed (map-Node Node Expr Node Expr edged_node (edged closed) (plain y)))
      ≡ with_edge closed (map-Node Node Expr A B seen_at seen (plain y))
  level (Node-F.Number value) = refl
  level (Node-F.Words text) = refl
  level (Node-F.Paren e) = ap (λ x. Node-F.Paren x) e.1
  level (Node-F.Negate e) = ap (λ x. Node-F.Negate x) e.1
  level (Node-F.Select selector) = refl
  level (Node-F.Range selector range) = refl
  level (Node-F.Subquery e range step moment) = ap (λ x. Node-F.Subquery x range step (edged_moment closed moment)) e.1
  level (Node-F.Call f items) = ap (λ xs. Node-F.Call f xs) (all_fused items)
  level (Node-F.Aggregate f grouping items) = ap (λ xs. Node-F.Aggregate f grouping xs) (all_fused items)
  level (Node-F.Pair op a b pairing) = ap₂ (λ x y. Node-F.Pair op x y pairing) a.1 b.1
  level (Node-F.Set op a b pairing) = ap₂ (λ x y. Node-F.Set op x y pairing) a.1 b.1

  node_fused : (y : Given) → IsFusedNode (roll-Node (plain y))
  node_fused y =
      let inner : Node-F Node Expr = map-Node Node Expr Node Expr edged_node (edged closed) (plain y) in
      ap at (fold-roll-Node Node Expr (edged_step closed) edged_expr (plain y) ∙ edged_rolls closed inner)
      ∙ fold-roll-Node A B node_step expr_step (with_edge closed inner) ∙ ap node_step (level y)
      ∙ sym (fold-roll-Node A B seen_step expr_step (plain y))

  expr_fused : (place : ℕ) (n : Node) → IsFusedNode n → IsFused (roll-Expr (record { at = place; node = n }))
  expr_fused place n fused =
      ap of (fold-roll-Expr Node Expr (edged_step closed) edged_expr (record { at = place; node = n }))
      ∙ fold-roll-Expr A B node_step expr_step (record { at = place; node = edged_node n })
      ∙ ap (λ (a : A). expr_step (record { at = place; node = a })) fused
      ∙ sym (fold-roll-Expr A B seen_step expr_step (record { at = place; node = n }))

  pub fold_of_edged : (e : Expr) → of (edged closed e) ≡ seen e
  fold_of_edged = ind-Expr IsFusedNode IsFused
      (λ x y is. subst (λ z. IsFusedNode (roll-Node z)) is (node_fused y))
      (λ x y is. subst (λ z. IsFused (roll-Expr z)) is (expr_fused y.at y.node.0 y.node.1))

  -- a fold that doesn't look at moments gives the same
  pub fold_unmoved : ((y : Node-F A B) → node_step (with_edge closed y) ≡ node_step y) → (e : Expr) → of (edged closed e) ≡ of e
  fold_unmoved same e = fold_of_edged e ∙ ap (λ (step : Node-F A B → A). fold-Expr A B step expr_step e) (λ i y. same y i)

-- so does the depth of a tree
depth_by : (closed : Bool) (y : Node-F ℕ ℕ) → node_depth (with_edge closed y) ≡ node_depth y
depth_by closed (Node-F.Number value) = refl
depth_by closed (Node-F.Words text) = refl
depth_by closed (Node-F.Paren inner) = refl
depth_by closed (Node-F.Negate inner) = refl
depth_by closed (Node-F.Select selector) = refl
depth_by closed (Node-F.Range selector range) = refl
depth_by closed (Node-F.Subquery inner range step moment) = refl
depth_by closed (Node-F.Call f arguments) = refl
depth_by closed (Node-F.Aggregate f grouping arguments) = refl
depth_by closed (Node-F.Pair op left right pairing) = refl
depth_by closed (Node-F.Set op left right pairing) = refl

pub edged_depth : (closed : Bool) (e : Expr) → depth (edged closed e) ≡ depth e
edged_depth closed = fold_unmoved closed node_depth (λ e. e.node) (depth_by closed)

-- ---- parts

-- a part, with the edge where it is a moment
abbrev pub edged_part : Bool → Part → Part
edged_part closed (Part.of_rules rules) = Part.of_rules rules
edged_part closed (Part.of_moment moment) = Part.of_moment (edged_moment closed moment)
edged_part closed (Part.of_length length) = Part.of_length length

-- what the parts of a tree give, where they have the edge
module _ (closed : Bool) (P Q : Part → Type 0) (turns : (part : Part) → P part → Q (edged_part closed part)) where
  abbrev parts_at : Node → List Part
  parts_at = fold-Node (List Part) (List Part) node_parts (λ e. e.node)

  abbrev part_step : Node-F (List Part) (List Part) → List Part
  part_step y = node_parts (with_edge closed y)

  abbrev edged_parts : Expr → List Part
  edged_parts = fold-Expr (List Part) (List Part) part_step (λ e. e.node)

  abbrev edged_parts_at : Node → List Part
  edged_parts_at = fold-Node (List Part) (List Part) part_step (λ e. e.node)

  abbrev Turns : Expr → Type 0
  Turns e = AllByRecursion P (parts_of e) → AllByRecursion Q (edged_parts e)

  abbrev TurnsNode : Node → Type 0
  TurnsNode n = AllByRecursion P (parts_at n) → AllByRecursion Q (edged_parts_at n)

  abbrev Turning : Type 0
  Turning = Node-F ((n : Node) × TurnsNode n) ((e : Expr) × Turns e)

  abbrev turned : Turning → Node-F Node Expr
  turned = map-Node ((n : Node) × TurnsNode n) ((e : Expr) × Turns e) Node Expr (λ e. e.0) (λ e. e.0)

  all_turn : (items : List ((e : Expr) × Turns e)) → AllByRecursion P (all_of (map parts_of (map (λ e. e.0) items)))
      → AllByRecursion Q (all_of (map edged_parts (map (λ e. e.0) items)))
  all_turn [] all = tt
  all_turn (e ∷ es) all =
      let others : List Part = all_of (map parts_of (map (λ e. e.0) es)) in
      both_of Q (edged_parts e.0) (all_of (map edged_parts (map (λ e. e.0) es))) (e.1 (front_of P (parts_of e.0) others all)) (all_turn es (back_of P (parts_of e.0) others all))

  sides_turn : (a b : (e : Expr) × Turns e) → AllByRecursion P (parts_of a.0 ++ parts_of b.0) → AllByRecursion Q (edged_parts a.0 ++ edged_parts b.0)
  sides_turn a b all =
      both_of Q (edged_parts a.0) (edged_parts b.0) (a.1 (front_of P (parts_of a.0) (parts_of b.0) all)) (b.1 (back_of P (parts_of a.0) (parts_of b.0) all))

  parts_turn : (y : Turning) → AllByRecursion P (node_parts (map-Node Node Expr (List Part) (List Part) parts_at parts_of (turned y)))
      → AllByRecursion Q (part_step (map-Node Node Expr (List Part) (List Part) edged_parts_at edged_parts (turned y)))
  parts_turn (Node-F.Number value) all = tt
  parts_turn (Node-F.Words text) all = tt
  parts_turn (Node-F.Paren e) all = e.1 all
  parts_turn (Node-F.Negate e) all = e.1 all
  parts_turn (Node-F.Select selector) all = (turns (Part.of_rules selector.rules) all.0, (turns (Part.of_moment selector.moment) all.1.0, tt))
  parts_turn (Node-F.Range selector range) all =
      (turns (Part.of_rules selector.rules) all.0, (turns (Part.of_moment selector.moment) all.1.0, (turns (Part.of_length range) all.1.1.0, tt)))
  parts_turn (Node-F.Subquery e range step moment) all =
      (turns (Part.of_moment moment) all.0, (turns (Part.of_length range) all.1.0, (turns (Part.of_length step) all.1.1.0, e.1 all.1.1.1)))
  parts_turn (Node-F.Call f items) all = all_turn items all
  parts_turn (Node-F.Aggregate f grouping items) all = all_turn items all
  parts_turn (Node-F.Pair op a b pairing) all = sides_turn a b all
  parts_turn (Node-F.Set op a b pairing) all = sides_turn a b all

  node_turns : (y : Turning) → TurnsNode (roll-Node (turned y))
  node_turns y all =
      subst (AllByRecursion Q) (sym (fold-roll-Node (List Part) (List Part) part_step (λ e. e.node) (turned y)))
      (parts_turn y (subst (AllByRecursion P) (fold-roll-Node (List Part) (List Part) node_parts (λ e. e.node) (turned y)) all))

  expr_turns : (place : ℕ) (n : Node) → TurnsNode n → Turns (roll-Expr (record { at = place; node = n }))
  expr_turns place n turn all =
      subst (AllByRecursion Q) (sym (fold-roll-Expr (List Part) (List Part) part_step (λ e. e.node) (record { at = place; node = n })))
      (turn (subst (AllByRecursion P) (fold-roll-Expr (List Part) (List Part) node_parts (λ e. e.node) (record { at = place; node = n })) all))

  turned_parts : (e : Expr) → Turns e
  turned_parts = ind-Expr TurnsNode Turns
      (λ x y is. subst (λ z. TurnsNode (roll-Node z)) is (node_turns y))
      (λ x y is. subst (λ z. Turns (roll-Expr z)) is (expr_turns y.at y.node.0 y.node.1))

  pub parts_of_edged : (e : Expr) → AllByRecursion P (parts_of e) → AllByRecursion Q (parts_of (edged closed e))
  parts_of_edged e all = subst (AllByRecursion Q) (sym (fold_of_edged closed node_parts (λ e. e.node) e)) (turned_parts e all)

-- the parts lie within the limits that they lay within
module _ (HoldsOf : List Rule → Type 0) (longest latest : ℕ) (closed : Bool) where
  part_within : (part : Part) → IsWithin HoldsOf longest latest part → IsWithin HoldsOf longest latest (edged_part closed part)
  part_within (Part.of_rules rules) is = is
  part_within (Part.of_moment moment) is = is
  part_within (Part.of_length length) is = is

  pub edged_within : (e : Expr) → AreWithin HoldsOf longest latest (parts_of e) → AreWithin HoldsOf longest latest (parts_of (edged closed e))
  edged_within e all = parts_of_edged closed (IsWithin HoldsOf longest latest) (IsWithin HoldsOf longest latest) part_within e all
