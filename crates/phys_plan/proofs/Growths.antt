-- Which plans stand below a plan that has a tree, and that they have one.
use Rattle.std.proofs.Common.{◌≡◌, ◌∙◌, ◌≤◌, ℕ, suc, arith, length, List, [], ◌∷◌, map, Bool, true, false, ap, refl, sym, subst}
use Rattle.std.specs.Prelude.{◌&&◌, ◌||◌, Option, Result}
use Rattle.func_table.specs.declared.table.Aggregate.{Aggregate}
use Rattle.func_table.specs.declared.table.Element.{Element}
use Rattle.func_table.specs.declared.table.SetOp.{SetOp}
use Rattle.func_table.specs.declared.table.Window.{Window as WindowFunction}
use Rattle.label_set.specs.declared.rules.Grouping.{Grouping}
use Rattle.label_set.specs.declared.rules.Pairing.{Pairing}
use Rattle.label_set.specs.declared.rules.Relabel.{Relabel as Relabelling}
use Rattle.label_set.specs.declared.rules.Rule.{Rule}
use Rattle.logical_plan.specs.Lowering.{planned}
use Rattle.logical_plan.specs.PlanFolds.{of-Gather, of-Number, of-Time, of-Select, of-Range, of-Subquery, of-Element, of-Stamp, of-Window, of-Absent, of-Buckets, of-Relabel, of-Sort, of-ScalarOf, of-VectorOf, of-Group, of-Pair, of-Set, of-Filter, of-Ratio, of-Once}
use Rattle.logical_plan.specs.PlanTypes.{Typing, are_sound, has_none, is_element, is_group, is_of, is_pair, is_relabel, is_sound, is_stamped, is_window, kinds_of, node_typing, operand_of, typing}
use Rattle.logical_plan.specs.declared.nodes.Plan.{Plan}
use Rattle.logical_plan.specs.declared.nodes.PlanNode.{PlanNode}
use Rattle.logical_plan.specs.declared.nodes.PlanNode.TheVariants as node
use Rattle.logical_plan.specs.declared.nodes.PlanNode.TheOpen.{PlanNode-F}
use Rattle.op_labels.specs.Rules.{Kept}
use Rattle.promql_type.specs.Kinds.{is_kind, is_number, is_scalar}
use Rattle.promql_type.specs.Rules.{comparison_refusals, matching_refusals}
use Rattle.promql_type.specs.declared.kind.Kind.{Kind}
use Rattle.promql_type.specs.declared.kind.Kind.TheVariants.{Scalar, Vector, Windows, Words}
use Rattle.promql_ast.specs.declared.tree.Expr.{Expr}
use Rattle.promql_ast.specs.declared.tree.Moment.{Moment}
use Rattle.step_table.specs.Groups.{Names}
use Rattle.step_table.specs.declared.cells.PartKind.{PartKind}
use Rattle.ticks.specs.declared.moment.Ms.{Ms}
use Rattle.xfrac.specs.declared.value.PairOp.{PairOp}
use Rattle.xfrac.specs.declared.value.XFrac.{XFrac}
use Rattle.plan_bases.specs.Bases.{Lists}
use Rattle.plan_parts.specs.Parts.{IsBuilt, IsChild}
use Rattle.plan_parts.specs.declared.parts.Part.{Part}
use Rattle.plan_parts.specs.declared.unbuilt.Unbuilt.{Unbuilt}
use Rattle.phys_plan.specs.Growth.{CanGrow, GivesNumbers}
use Rattle.phys_plan.proofs.InPlace.{holds_below, in_place_below, left_true, right_true}
use Rattle.phys_plan.proofs.KindsOf.{IsNumber, element_alone, element_beside_one, element_beside_two, element_few, group_alone, group_beside, group_few, of_kind, pair_numbers, scalar_number, vector_number, window_beside, window_few}

-- ---- what nodes give

abbrev pub T : Plan → Typing
T = typing

-- what a node is, of what its children are
abbrev pub N : PlanNode-F Typing Typing → Typing
N = node_typing

there : (p : Plan) (n : PlanNode) → p.node ≡ n → T p ≡ T (planned p.at n)
there p n e = ap (λ (m : PlanNode). T (planned p.at m)) e

pub typing-Number : (p : Plan) (value : XFrac) → p.node ≡ node.Number value → T p ≡ N (PlanNode-F.Number value)
typing-Number p value e = there p (node.Number value) e ∙ of-Number node_typing (λ q. q.node) p.at value

pub typing-Time : (p : Plan) → p.node ≡ node.Time → T p ≡ N PlanNode-F.Time
typing-Time p e = there p node.Time e ∙ of-Time node_typing (λ q. q.node) p.at

pub typing-Select : (p : Plan) (rules : List Rule) (moment : Moment) (stamped : Bool) → p.node ≡ node.Select rules moment stamped → T p ≡ N (PlanNode-F.Select rules moment stamped)
typing-Select p rules moment stamped e = there p (node.Select rules moment stamped) e ∙ of-Select node_typing (λ q. q.node) p.at rules moment stamped

pub typing-Gather : (p : Plan) (expr : Expr) (kind : PartKind) (engines : List ℕ) → p.node ≡ node.Gather expr kind engines → T p ≡ N (PlanNode-F.Gather expr kind engines)
typing-Gather p expr kind engines e = there p (node.Gather expr kind engines) e ∙ of-Gather node_typing (λ q. q.node) p.at expr kind engines

pub typing-Range : (p : Plan) (rules : List Rule) (moment : Moment) (range : Ms) → p.node ≡ node.Range rules moment range → T p ≡ N (PlanNode-F.Range rules moment range)
typing-Range p rules moment range e = there p (node.Range rules moment range) e ∙ of-Range node_typing (λ q. q.node) p.at rules moment range

pub typing-Subquery : (p inner : Plan) (range step : Ms) (moment : Moment) → p.node ≡ node.Subquery inner range step moment → T p ≡ N (PlanNode-F.Subquery (T inner) range step moment)
typing-Subquery p inner range step moment e = there p (node.Subquery inner range step moment) e ∙ of-Subquery node_typing (λ q. q.node) p.at inner range step moment

pub typing-Element : (p : Plan) (f : Element) (inner : Plan) (arguments : List Plan) → p.node ≡ node.Element f inner arguments → T p ≡ N (PlanNode-F.Element f (T inner) (map T arguments))
typing-Element p f inner arguments e = there p (node.Element f inner arguments) e ∙ of-Element node_typing (λ q. q.node) p.at f inner arguments

pub typing-Stamp : (p inner : Plan) → p.node ≡ node.Stamp inner → T p ≡ N (PlanNode-F.Stamp (T inner))
typing-Stamp p inner e = there p (node.Stamp inner) e ∙ of-Stamp node_typing (λ q. q.node) p.at inner

pub typing-Window : (p : Plan) (f : WindowFunction) (inner : Plan) (arguments : List Plan) → p.node ≡ node.Window f inner arguments → T p ≡ N (PlanNode-F.Window f (T inner) (map T arguments))
typing-Window p f inner arguments e = there p (node.Window f inner arguments) e ∙ of-Window node_typing (λ q. q.node) p.at f inner arguments

pub typing-Absent : (p : Plan) (labels : Option Names) (inner : Plan) → p.node ≡ node.Absent labels inner → T p ≡ N (PlanNode-F.Absent labels (T inner))
typing-Absent p labels inner e = there p (node.Absent labels inner) e ∙ of-Absent node_typing (λ q. q.node) p.at labels inner

pub typing-Buckets : (p quantile inner : Plan) → p.node ≡ node.Buckets quantile inner → T p ≡ N (PlanNode-F.Buckets (T quantile) (T inner))
typing-Buckets p quantile inner e = there p (node.Buckets quantile inner) e ∙ of-Buckets node_typing (λ q. q.node) p.at quantile inner

pub typing-Relabel : (p : Plan) (rule : Relabelling) (inner : Plan) → p.node ≡ node.Relabel rule inner → T p ≡ N (PlanNode-F.Relabel rule (T inner))
typing-Relabel p rule inner e = there p (node.Relabel rule inner) e ∙ of-Relabel node_typing (λ q. q.node) p.at rule inner

pub typing-Sort : (p : Plan) (down : Bool) (inner : Plan) → p.node ≡ node.Sort down inner → T p ≡ N (PlanNode-F.Sort down (T inner))
typing-Sort p down inner e = there p (node.Sort down inner) e ∙ of-Sort node_typing (λ q. q.node) p.at down inner

pub typing-ScalarOf : (p inner : Plan) → p.node ≡ node.ScalarOf inner → T p ≡ N (PlanNode-F.ScalarOf (T inner))
typing-ScalarOf p inner e = there p (node.ScalarOf inner) e ∙ of-ScalarOf node_typing (λ q. q.node) p.at inner

pub typing-VectorOf : (p inner : Plan) → p.node ≡ node.VectorOf inner → T p ≡ N (PlanNode-F.VectorOf (T inner))
typing-VectorOf p inner e = there p (node.VectorOf inner) e ∙ of-VectorOf node_typing (λ q. q.node) p.at inner

pub typing-Group : (p : Plan) (f : Aggregate) (by : Grouping) (arguments : List Plan) (label : List ℕ) → p.node ≡ node.Group f by arguments label → T p ≡ N (PlanNode-F.Group f by (map T arguments) label)
typing-Group p f by arguments label e = there p (node.Group f by arguments label) e ∙ of-Group node_typing (λ q. q.node) p.at f by arguments label

pub typing-Pair : (p : Plan) (op : PairOp) (left right : Plan) (pairing : Pairing) → p.node ≡ node.Pair op left right pairing → T p ≡ N (PlanNode-F.Pair op (T left) (T right) pairing)
typing-Pair p op left right pairing e = there p (node.Pair op left right pairing) e ∙ of-Pair node_typing (λ q. q.node) p.at op left right pairing

pub typing-Set : (p : Plan) (op : SetOp) (left right : Plan) (pairing : Pairing) → p.node ≡ node.Set op left right pairing → T p ≡ N (PlanNode-F.Set op (T left) (T right) pairing)
typing-Set p op left right pairing e = there p (node.Set op left right pairing) e ∙ of-Set node_typing (λ q. q.node) p.at op left right pairing

pub typing-Filter : (p base : Plan) (rules : List Rule) → p.node ≡ node.Filter base rules → T p ≡ N (PlanNode-F.Filter (T base) rules)
typing-Filter p base rules e = there p (node.Filter base rules) e ∙ of-Filter node_typing (λ q. q.node) p.at base rules

pub typing-Ratio : (p sum count : Plan) → p.node ≡ node.Ratio sum count → T p ≡ N (PlanNode-F.Ratio (T sum) (T count))
typing-Ratio p sum count e = there p (node.Ratio sum count) e ∙ of-Ratio node_typing (λ q. q.node) p.at sum count

pub typing-Once : (p inner : Plan) → p.node ≡ node.Once inner → T p ≡ T inner
typing-Once p inner e = there p (node.Once inner) e ∙ of-Once node_typing (λ q. q.node) p.at inner

-- what is built of a node is of the kind that the node gives
pub as_kind : (p : Plan) (t : Typing) (built : Result Part Unbuilt) → T p ≡ t → IsBuilt (is_scalar t.kind) built → IsBuilt (is_scalar (T p).kind) built
as_kind p t built e h = subst (λ (s : Typing). IsBuilt (is_scalar s.kind) built) (sym e) h

pub told : {s t : Typing} → s ≡ t → s.typed ≡ true → t.typed ≡ true
told e h = sym (ap (λ (t : Typing). t.typed) e) ∙ h

-- windows are no numbers
pub no_windows : (p : Plan) (t : Typing) → T p ≡ t → t.kind ≡ Windows → GivesNumbers p → ⊥
no_windows p t e w h = let none : false ≡ true = sym (ap is_number (ap (λ (s : Typing). s.kind) e ∙ w)) ∙ h in absurd (cc)

kinds_count : (ps : List Plan) → length (kinds_of (map T ps)) ≡ length ps
kinds_count [] = refl
kinds_count (p ∷ ps) = ap suc (kinds_count ps)

-- ---- children that have trees

module _ (kept : Kept) (lists : Lists) (n : ℕ) where
  abbrev Can : Plan → Type 0
  Can = CanGrow kept lists n

  grow : {c p : Plan} → IsChild c p → Can p → IsNumber (T c).kind → Can c
  grow child can number = record { placed = in_place_below kept n child can.placed; number = number; holds = holds_below kept lists child can.holds }

  vector_below : {c p : Plan} → IsChild c p → Can p → is_of Vector (T c) ≡ true → Can c
  vector_below {c = c} child can h = grow child can (vector_number (T c).kind (of_kind Vector (T c) h))

  scalar_below : {c p : Plan} → IsChild c p → Can p → is_of Scalar (T c) ≡ true → Can c
  scalar_below {c = c} child can h = grow child can (scalar_number (T c).kind (of_kind Scalar (T c) h))

  pub grows-Stamp : (p inner : Plan) → p.node ≡ node.Stamp inner → Can p → Can inner
  grows-Stamp p inner e can =
      let t = T inner in
      grow (IsChild.of_stamp e) can (vector_number t.kind (right_true (t.typed && is_stamped t.select) (is_kind Vector t.kind) (told (typing-Stamp p inner e) can.placed.typed)))

  pub grows-Absent : (p : Plan) (labels : Option Names) (inner : Plan) → p.node ≡ node.Absent labels inner → Can p → Can inner
  grows-Absent p labels inner e can = vector_below (IsChild.of_absent labels e) can (told (typing-Absent p labels inner e) can.placed.typed)

  pub grows-Relabel : (p : Plan) (rule : Relabelling) (inner : Plan) → p.node ≡ node.Relabel rule inner → Can p → Can inner
  grows-Relabel p rule inner e can =
      vector_below (IsChild.of_relabel rule e) can (right_true (is_relabel rule) (is_of Vector (T inner)) (told (typing-Relabel p rule inner e) can.placed.typed))

  pub grows-Sort : (p : Plan) (down : Bool) (inner : Plan) → p.node ≡ node.Sort down inner → Can p → Can inner
  grows-Sort p down inner e can = vector_below (IsChild.of_sort down e) can (told (typing-Sort p down inner e) can.placed.typed)

  pub grows-ScalarOf : (p inner : Plan) → p.node ≡ node.ScalarOf inner → Can p → Can inner
  grows-ScalarOf p inner e can = vector_below (IsChild.of_scalar e) can (told (typing-ScalarOf p inner e) can.placed.typed)

  pub grows-VectorOf : (p inner : Plan) → p.node ≡ node.VectorOf inner → Can p → Can inner
  grows-VectorOf p inner e can = scalar_below (IsChild.of_vector e) can (told (typing-VectorOf p inner e) can.placed.typed)

  pub grows-Once : (p inner : Plan) → p.node ≡ node.Once inner → Can p → Can inner
  grows-Once p inner e can = grow (IsChild.of_once e) can (subst (λ (t : Typing). IsNumber t.kind) (typing-Once p inner e) can.number)

  pub grows-Filter : (p base : Plan) (rules : List Rule) → p.node ≡ node.Filter base rules → Can p → Can base
  grows-Filter p base rules e can = grow (IsChild.of_filter rules e) can (subst (λ (t : Typing). IsNumber t.kind) (typing-Filter p base rules e) can.number)

  -- a filter of rows gives a vector
  pub vector-Filter : (p base : Plan) (rules : List Rule) → p.node ≡ node.Filter base rules → Can p → is_scalar (T p).kind ≡ false
  vector-Filter p base rules e can =
      let b = T base in
      let of : (is_kind Vector b.kind || is_kind Windows b.kind) ≡ true = right_true (is_sound b) (is_kind Vector b.kind || is_kind Windows b.kind) (told (typing-Filter p base rules e) can.placed.typed) in
      ap (λ (t : Typing). is_scalar t.kind) (typing-Filter p base rules e) ∙ by b.kind of
    where
      by : (kind : Kind) → (is_kind Vector kind || is_kind Windows kind) ≡ true → is_scalar kind ≡ false
      by Scalar h = absurd (cc)
      by Vector h = refl
      by Windows h = refl
      by Words h = refl

  -- ---- two children

  pub grows-Buckets : (p quantile inner : Plan) → p.node ≡ node.Buckets quantile inner → Can p → Can quantile × Can inner
  grows-Buckets p quantile inner e can =
      let h = told (typing-Buckets p quantile inner e) can.placed.typed in
      let q = is_of Scalar (T quantile) in let i = is_of Vector (T inner) in
      (scalar_below (IsChild.of_quantile inner e) can (left_true q i h), vector_below (IsChild.of_buckets quantile e) can (right_true q i h))

  -- the quantile is a scalar
  pub scalar-Buckets : (p quantile inner : Plan) → p.node ≡ node.Buckets quantile inner → Can p → is_scalar (T quantile).kind ≡ true
  scalar-Buckets p quantile inner e can =
      let h = told (typing-Buckets p quantile inner e) can.placed.typed in
      by (T quantile).kind (of_kind Scalar (T quantile) (left_true (is_of Scalar (T quantile)) (is_of Vector (T inner)) h))
    where
      by : (kind : Kind) → is_kind Scalar kind ≡ true → is_scalar kind ≡ true
      by Scalar h = refl
      by Vector h = absurd (cc)
      by Windows h = absurd (cc)
      by Words h = absurd (cc)

  pub grows-Pair : (p : Plan) (op : PairOp) (left right : Plan) (pairing : Pairing) → p.node ≡ node.Pair op left right pairing → Can p → Can left × Can right
  grows-Pair p op left right pairing e can =
      let l = T left in let r = T right in
      let h = right_true (is_sound l && is_sound r) (is_pair op pairing l.kind r.kind) (told (typing-Pair p op left right pairing e) can.placed.typed) in
      let ns = pair_numbers l.kind r.kind (has_none (matching_refusals pairing (operand_of l.kind) (operand_of r.kind))) (has_none (comparison_refusals op (operand_of l.kind) (operand_of r.kind) 0)) h in
      (grow (IsChild.of_left op right pairing e) can ns.0, grow (IsChild.of_right op left pairing e) can ns.1)

  pub grows-Set : (p : Plan) (op : SetOp) (left right : Plan) (pairing : Pairing) → p.node ≡ node.Set op left right pairing → Can p → Can left × Can right
  grows-Set p op left right pairing e can =
      let h = told (typing-Set p op left right pairing e) can.placed.typed in
      let l = is_of Vector (T left) in let r = is_of Vector (T right) in
      (vector_below (IsChild.of_set_left op right pairing e) can (left_true l r h), vector_below (IsChild.of_set_right op left pairing e) can (right_true l r h))

  pub grows-Ratio : (p sum count : Plan) → p.node ≡ node.Ratio sum count → Can p → Can sum × Can count
  grows-Ratio p sum count e can =
      let h = told (typing-Ratio p sum count e) can.placed.typed in
      let l = is_of Vector (T sum) in let r = is_of Vector (T count) in
      (vector_below (IsChild.of_sum count e) can (left_true l r h), vector_below (IsChild.of_count sum e) can (right_true l r h))

  -- ---- functions and aggregations

  pub takes-Element : (p : Plan) (f : Element) (inner : Plan) (arguments : List Plan) → p.node ≡ node.Element f inner arguments → Can p → is_element f (T inner).kind (kinds_of (map T arguments)) ≡ true
  takes-Element p f inner arguments e can =
      right_true (is_sound (T inner) && are_sound (map T arguments)) (is_element f (T inner).kind (kinds_of (map T arguments))) (told (typing-Element p f inner arguments e) can.placed.typed)

  pub grows-Element : (p : Plan) (f : Element) (inner : Plan) → p.node ≡ node.Element f inner [] → Can p → Can inner
  grows-Element p f inner e can = grow (IsChild.of_element f [] e) can (element_alone f (T inner).kind (takes-Element p f inner [] e can))

  pub grows-Element-one : (p : Plan) (f : Element) (inner a : Plan) → p.node ≡ node.Element f inner (a ∷ []) → Can p → Can inner × Can a
  grows-Element-one p f inner a e can =
      let ns = element_beside_one f (T inner).kind (T a).kind (takes-Element p f inner (a ∷ []) e can) in
      (grow (IsChild.of_element f (a ∷ []) e) can ns.0, grow (IsChild.of_element_argument f inner [] [] e) can ns.1)

  pub grows-Element-two : (p : Plan) (f : Element) (inner a b : Plan) → p.node ≡ node.Element f inner (a ∷ b ∷ []) → Can p → Can inner × Can a × Can b
  grows-Element-two p f inner a b e can =
      let ns = element_beside_two f (T inner).kind (T a).kind (T b).kind (takes-Element p f inner (a ∷ b ∷ []) e can) in
      (grow (IsChild.of_element f (a ∷ b ∷ []) e) can ns.0, grow (IsChild.of_element_argument f inner [] (b ∷ []) e) can ns.1, grow (IsChild.of_element_argument f inner (a ∷ []) [] e) can ns.2)

  -- there are at most two arguments
  pub few-Element : (p : Plan) (f : Element) (inner : Plan) (arguments : List Plan) → p.node ≡ node.Element f inner arguments → Can p → length arguments ≤ 2
  few-Element p f inner arguments e can =
      let few = element_few f (T inner).kind (kinds_of (map T arguments)) (takes-Element p f inner arguments e can) in
      let count = kinds_count arguments in omega arith

  pub takes-Group : (p : Plan) (f : Aggregate) (by : Grouping) (arguments : List Plan) (label : List ℕ) → p.node ≡ node.Group f by arguments label → Can p → is_group f (kinds_of (map T arguments)) label ≡ true
  takes-Group p f by arguments label e can =
      right_true (are_sound (map T arguments)) (is_group f (kinds_of (map T arguments)) label) (told (typing-Group p f by arguments label e) can.placed.typed)

  pub grows-Group : (p : Plan) (f : Aggregate) (by : Grouping) (a : Plan) (label : List ℕ) → p.node ≡ node.Group f by (a ∷ []) label → Can p → Can a
  grows-Group p f by a label e can = grow (IsChild.of_group f by [] [] label e) can (group_alone f (T a).kind label (takes-Group p f by (a ∷ []) label e can))

  pub grows-Group-two : (p : Plan) (f : Aggregate) (by : Grouping) (a b : Plan) (label : List ℕ) → p.node ≡ node.Group f by (a ∷ b ∷ []) label → Can p → Can a × Can b
  grows-Group-two p f by a b label e can =
      let ns = group_beside f (T a).kind (T b).kind label (takes-Group p f by (a ∷ b ∷ []) label e can) in
      (grow (IsChild.of_group f by [] (b ∷ []) label e) can ns.0, grow (IsChild.of_group f by (a ∷ []) [] label e) can ns.1)

  -- there are one or two arguments
  pub few-Group : (p : Plan) (f : Aggregate) (by : Grouping) (arguments : List Plan) (label : List ℕ) → p.node ≡ node.Group f by arguments label → Can p → (1 ≤ length arguments) × (length arguments ≤ 2)
  few-Group p f by arguments label e can =
      let few = group_few f (kinds_of (map T arguments)) label (takes-Group p f by arguments label e can) in
      let count = kinds_count arguments in (omega arith, omega arith)

  -- ---- functions of windows

  pub takes-Window : (p : Plan) (f : WindowFunction) (inner : Plan) (arguments : List Plan) → p.node ≡ node.Window f inner arguments → Can p → is_window f (T inner).kind (kinds_of (map T arguments)) ≡ true
  takes-Window p f inner arguments e can =
      right_true (is_sound (T inner) && are_sound (map T arguments)) (is_window f (T inner).kind (kinds_of (map T arguments))) (told (typing-Window p f inner arguments e) can.placed.typed)

  pub grows-Window : (p : Plan) (f : WindowFunction) (inner a : Plan) → p.node ≡ node.Window f inner (a ∷ []) → Can p → Can a
  grows-Window p f inner a e can = grow (IsChild.of_window_argument f inner [] [] e) can (window_beside f (T inner).kind (T a).kind (takes-Window p f inner (a ∷ []) e can))

  -- there is at most one further argument
  pub few-Window : (p : Plan) (f : WindowFunction) (inner : Plan) (arguments : List Plan) → p.node ≡ node.Window f inner arguments → Can p → length arguments ≤ 1
  few-Window p f inner arguments e can =
      let few = window_few f (T inner).kind (kinds_of (map T arguments)) (takes-Window p f inner arguments e can) in
      let count = kinds_count arguments in omega arith
