-- Lists of arguments by their lengths, and the parts of a node that is seen in two ways.
use Rattle.std.proofs.Common.{◌≡◌, ◌∙◌, ◌<◌, ◌≤◌, arith, length, List, [], ◌∷◌, ap, refl, sym}
use Rattle.std.specs.Prelude.{slice_index_or}
use Rattle.func_table.specs.declared.table.Element.{Element}
use Rattle.func_table.specs.declared.table.Window.{Window as WindowFunction}
use Rattle.logical_plan.specs.declared.nodes.Plan.{Plan}
use Rattle.logical_plan.specs.declared.nodes.PlanNode.TheVariants as node
use Rattle.logical_plan.specs.declared.nodes.PlanNode.TheOpen.{PlanNode-F}
use Rattle.logical_plan.specs.declared.nodes.PlanNode.TheViews.{out-PlanNode, outs-Element, outs-Window}

-- ---- lists

module _ {X : Type 0} where
  pub none_of : (s xs : List X) → s ≡ xs → length s < 1 → xs ≡ []
  none_of [] xs e h = sym e
  none_of (x ∷ s) xs e h = absurd (omega arith)

  pub one_at : (s xs : List X) (d : X) → s ≡ xs → 1 ≤ length s → length s < 2 → xs ≡ slice_index_or s 0 d ∷ []
  one_at [] xs d e h k = absurd (omega arith)
  one_at (x ∷ []) xs d e h k = sym e
  one_at (x ∷ y ∷ s) xs d e h k = absurd (omega arith)

  pub two_at : (s xs : List X) (d : X) → s ≡ xs → 2 ≤ length s → length s < 3 → xs ≡ slice_index_or s 0 d ∷ slice_index_or s 1 d ∷ []
  two_at [] xs d e h k = absurd (omega arith)
  two_at (x ∷ []) xs d e h k = absurd (omega arith)
  two_at (x ∷ y ∷ []) xs d e h k = sym e
  two_at (x ∷ y ∷ z ∷ s) xs d e h k = absurd (omega arith)

  pub one_of : (s xs : List X) (a : X) → s ≡ xs → a ≡ slice_index_or s 0 a → 1 ≤ length s → length s < 2 → xs ≡ a ∷ []
  one_of [] xs a e is h k = absurd (omega arith)
  one_of (x ∷ []) xs a e is h k = sym e ∙ ap (λ (y : X). y ∷ []) (sym is)
  one_of (x ∷ y ∷ s) xs a e is h k = absurd (omega arith)

  pub two_of : (s xs : List X) (a b : X) → s ≡ xs → a ≡ slice_index_or s 0 a → b ≡ slice_index_or s 1 b → 2 ≤ length s → length s < 3 → xs ≡ a ∷ b ∷ []
  two_of [] xs a b e is also h k = absurd (omega arith)
  two_of (x ∷ []) xs a b e is also h k = absurd (omega arith)
  two_of (x ∷ y ∷ []) xs a b e is also h k = sym e ∙ (λ i. sym is i ∷ sym also i ∷ [])
  two_of (x ∷ y ∷ z ∷ s) xs a b e is also h k = absurd (omega arith)

-- ---- functions of windows

pub window_inner : (f g : WindowFunction) (p q : Plan) (xs ys : List Plan) → node.Window f p xs ≡ node.Window g q ys → p ≡ q
window_inner f g p q xs ys e =
    let one : out-PlanNode (node.Window f p xs) ≡ PlanNode-F.Window f p xs = rw outs-Window refl in
    let other : out-PlanNode (node.Window g q ys) ≡ PlanNode-F.Window g q ys = rw outs-Window refl in
    let same : PlanNode-F.Window f p xs ≡ PlanNode-F.Window g q ys = sym one ∙ ap out-PlanNode e ∙ other in cc

pub window_arguments : (f g : WindowFunction) (p q : Plan) (xs ys : List Plan) → node.Window f p xs ≡ node.Window g q ys → xs ≡ ys
window_arguments f g p q xs ys e =
    let one : out-PlanNode (node.Window f p xs) ≡ PlanNode-F.Window f p xs = rw outs-Window refl in
    let other : out-PlanNode (node.Window g q ys) ≡ PlanNode-F.Window g q ys = rw outs-Window refl in
    let same : PlanNode-F.Window f p xs ≡ PlanNode-F.Window g q ys = sym one ∙ ap out-PlanNode e ∙ other in cc

-- ---- functions of rows

pub element_arguments : (f g : Element) (p q : Plan) (xs ys : List Plan) → node.Element f p xs ≡ node.Element g q ys → xs ≡ ys
element_arguments f g p q xs ys e =
    let one : out-PlanNode (node.Element f p xs) ≡ PlanNode-F.Element f p xs = rw outs-Element refl in
    let other : out-PlanNode (node.Element g q ys) ≡ PlanNode-F.Element g q ys = rw outs-Element refl in
    let same : PlanNode-F.Element f p xs ≡ PlanNode-F.Element g q ys = sym one ∙ ap out-PlanNode e ∙ other in cc
