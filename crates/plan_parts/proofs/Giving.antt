-- What each kind of node gives, of what its children give.
use Rattle.std.proofs.Common.{◌≡◌, ◌∙◌, ℕ, Bool, true, false, List, [], ◌∷◌, map, Option, Some, None, refl, ap, ap₂}
use Rattle.std.specs.Prelude.{ℤ, slice_get, unwrap_or}
use Rattle.std.specs.Option.{option_map}
use Rattle.func_table.specs.declared.table.Aggregate.{Aggregate}
use Rattle.func_table.specs.declared.table.Aggregate.TheVariants as aggregate
use Rattle.func_table.specs.declared.table.Element.{Element}
use Rattle.func_table.specs.declared.table.Element.TheVariants as element
use Rattle.func_table.specs.declared.table.SetOp.{SetOp}
use Rattle.label_set.specs.declared.rules.Grouping.{Grouping}
use Rattle.label_set.specs.declared.rules.Pairing.{Pairing}
use Rattle.label_set.specs.declared.rules.Relabel.{Relabel}
use Rattle.label_set.specs.declared.rules.Relabel.TheVariants.{Replace, Join, Filter}
use Rattle.label_set.specs.declared.rules.Rule.{Rule}
use Rattle.logical_plan.specs.Gathers.{gathered}
use Rattle.logical_plan.specs.Lowering.{planned}
use Rattle.logical_plan.specs.PlanFolds.{of-Number, of-Time, of-Element, of-Stamp, of-Absent, of-Buckets, of-Relabel, of-Sort, of-ScalarOf, of-VectorOf, of-Group, of-Pair, of-Set, of-Filter, of-Ratio, of-Once, of-Gather}
use Rattle.logical_plan.specs.PlanMeaning.{Meant, element_given, givens_at, group_given, node_meant, plain, plan_meaning, plan_meant, relabel_given}
use Rattle.logical_plan.specs.PlanRules.{absent_under, filtered, ratio, stamp, text_or_empty}
use Rattle.logical_plan.specs.declared.nodes.Plan.{Plan}
use Rattle.logical_plan.specs.declared.nodes.PlanNode.{PlanNode}
use Rattle.logical_plan.specs.declared.nodes.PlanNode.TheVariants as node
use Rattle.op_aggregate.specs.Rules.{aggregated_step, is_grouped}
use Rattle.op_element.specs.Rules.{element_step, reads_first, reads_second}
use Rattle.op_element.specs.declared.formula.ElementRule.TheVariants as formula
use Rattle.op_labels.specs.Rules.{relabelled_step}
use Rattle.op_small.specs.Rules.{small}
use Rattle.op_small.specs.declared.rule.SmallRule.TheVariants as rule
use Rattle.promql_ast.specs.declared.tree.Expr.{Expr}
use Rattle.promql_meaning.specs.Absences.{absence_under}
use Rattle.promql_meaning.specs.Buckets.{bucket_quantiles}
use Rattle.promql_meaning.specs.Elements.{operated_rows, time_step}
use Rattle.promql_meaning.specs.Givens.{scalar_step, step_of, with_scalar}
use Rattle.promql_meaning.specs.Meaning.{aggregated_with, applied_to, as_scalar, operation}
use Rattle.promql_meaning.specs.Relabels.{label_joined, label_replaced}
use Rattle.promql_meaning.specs.Selecting.{Asked}
use Rattle.promql_meaning.specs.declared.given.Given.{Given}
use Rattle.promql_meaning.specs.declared.given.Given.TheVariants as given
use Rattle.step_table.specs.Groups.{Names}
use Rattle.step_table.specs.Matching.{paired}
use Rattle.step_table.specs.Sets.{combined}
use Rattle.step_table.specs.declared.cells.PartKind.{PartKind}
use Rattle.step_table.specs.declared.step.Step.{Step}
use Rattle.xfrac.specs.Arithmetic.{whole_number}
use Rattle.xfrac.specs.declared.value.PairOp.{PairOp}
use Rattle.xfrac.specs.declared.value.XFrac.{XFrac}
use Rattle.plan_parts.specs.Gives.{Gives, given_as}
use Rattle.plan_parts.specs.Parts.{keeps_scalar, reads_parameter}

step_as : (scalar : Bool) (step : Step) → step_of (given_as scalar step) ≡ step
step_as true step = refl
step_as false step = refl

module _ (asked : Asked) (On : ℤ → Type 0) where
  abbrev M : Plan → Meant
  M = plan_meant asked

  abbrev there : (p : Plan) (n : PlanNode) → p.node ≡ n → M p ≡ M (planned p.at n)
  there p n e = ap (λ (m : PlanNode). M (planned p.at m)) e

  -- what is plain, from what its node gives
  plainly : (p : Plan) (h : ℤ → Given) (scalar : Bool) (f : ℤ → Step) → M p ≡ plain h → ((t : ℤ) → On t → h t ≡ given_as scalar (f t)) → Gives asked On p scalar false f
  plainly p h scalar f e k = record { stamped = ap (λ (m : Meant). m.own) e; gives = λ t w. ap (λ (m : Meant). m.gives t) e ∙ k t w }

  -- what a node gives of a child's step
  of_step : (p : Plan) (s o : Bool) (f : ℤ → Step) (t : ℤ) → On t → Gives asked On p s o f → step_of (plan_meaning asked p t) ≡ f t
  of_step p s o f t w g = ap step_of (g.gives t w) ∙ step_as s (f t)

  -- ---- instants

  pub number_gives : (p : Plan) (value : XFrac) → p.node ≡ node.Number value → Gives asked On p true false (λ t. scalar_step value)
  number_gives p value e = plainly p _ true (λ t. scalar_step value) (there p (node.Number value) e ∙ of-Number (node_meant asked) (λ q. q.node) p.at value) (λ t w. refl)

  pub time_gives : (p : Plan) → p.node ≡ node.Time → Gives asked On p true false time_step
  time_gives p e = plainly p _ true time_step (there p node.Time e ∙ of-Time (node_meant asked) (λ q. q.node) p.at) (λ t w. refl)

  -- ---- gathers

  pub gather_step : (p : Plan) (expr : Expr) (kind : PartKind) (engines : List ℕ) (f : ℤ → Step) → p.node ≡ node.Gather expr kind engines → ((t : ℤ) → On t → gathered asked expr kind engines t ≡ given.Vector (f t)) → Gives asked On p false false f
  gather_step p expr kind engines f e k = plainly p (gathered asked expr kind engines) false f (there p (node.Gather expr kind engines) e ∙ of-Gather (node_meant asked) (λ q. q.node) p.at expr kind engines) k

  -- ---- one child

  module _ (p inner : Plan) (s o : Bool) (f : ℤ → Step) (g : Gives asked On inner s o f) where
    pub stamp_gives : p.node ≡ node.Stamp inner → Gives asked On p false false (λ t. small (rule.Stamp o) t (f t))
    stamp_gives e =
        plainly p _ false (λ t. small (rule.Stamp o) t (f t)) (there p (node.Stamp inner) e ∙ of-Stamp (node_meant asked) (λ q. q.node) p.at inner)
        (λ t w. ap given.Vector (ap₂ (λ (b : Bool) (x : Step). stamp b t x) g.stamped (of_step inner s o f t w g) ∙ same o t (f t)))
      where
        same : (o : Bool) (t : ℤ) (x : Step) → stamp o t x ≡ small (rule.Stamp o) t x
        same true t x = refl
        same false t x = refl

    pub absent_gives : (labels : Option Names) → p.node ≡ node.Absent labels inner → Gives asked On p false false (λ t. small (rule.Absent labels) t (f t))
    absent_gives labels e =
        plainly p _ false (λ t. small (rule.Absent labels) t (f t)) (there p (node.Absent labels inner) e ∙ of-Absent (node_meant asked) (λ q. q.node) p.at labels inner)
        (λ t w. ap given.Vector (ap (absent_under labels) (g.gives t w) ∙ same s (f t)))
      where
        same : (s : Bool) (x : Step) → absent_under labels (given_as s x) ≡ absence_under labels x.table.rows x.marks
        same true x = refl
        same false x = refl

    pub relabel_gives : (rule : Relabel) → p.node ≡ node.Relabel rule inner → Gives asked On p false false (λ t. relabelled_step asked.kept rule (f t))
    relabel_gives rule e =
        plainly p _ false (λ t. relabelled_step asked.kept rule (f t)) (there p (node.Relabel rule inner) e ∙ of-Relabel (node_meant asked) (λ q. q.node) p.at rule inner)
        (λ t w. ap (relabel_given asked rule) (g.gives t w) ∙ same rule s (f t))
      where
        text : (o : Option (Bool × List ℕ)) → text_or_empty o ≡ unwrap_or (option_map (λ (p : Bool × List ℕ). p.1) o) []
        text None = refl
        text (Some pattern) = refl

        same : (rule : Relabel) (s : Bool) (x : Step) → relabel_given asked rule (given_as s x) ≡ given.Vector (relabelled_step asked.kept rule x)
        same (Replace target template source pattern) s x =
            ap given.Vector (ap₂ (λ (w : List ℕ) (y : Step). label_replaced target template source w y) (text (slice_get asked.kept pattern.0)) (step_as s x))
        same (Join target separator sources) s x = ap (λ (y : Step). given.Vector (label_joined target separator sources y)) (step_as s x)
        same (Filter rules) true x = refl
        same (Filter rules) false x = refl

    pub filter_gives : (rules : List Rule) → p.node ≡ node.Filter inner rules → Gives asked On p false false (λ t. relabelled_step asked.kept (Filter rules) (f t))
    filter_gives rules e =
        plainly p _ false (λ t. relabelled_step asked.kept (Filter rules) (f t)) (there p (node.Filter inner rules) e ∙ of-Filter (node_meant asked) (λ q. q.node) p.at inner rules)
        (λ t w. ap (filtered asked.kept rules) (g.gives t w) ∙ same s (f t))
      where
        same : (s : Bool) (x : Step) → filtered asked.kept rules (given_as s x) ≡ given.Vector (relabelled_step asked.kept (Filter rules) x)
        same true x = refl
        same false x = refl

    pub sort_gives : (down : Bool) → p.node ≡ node.Sort down inner → Gives asked On p false false f
    sort_gives down e =
        plainly p _ false f (there p (node.Sort down inner) e ∙ of-Sort (node_meant asked) (λ q. q.node) p.at down inner) (λ t w. ap given.Vector (of_step inner s o f t w g))

    pub vector_gives : p.node ≡ node.VectorOf inner → Gives asked On p false false f
    vector_gives e =
        plainly p _ false f (there p (node.VectorOf inner) e ∙ of-VectorOf (node_meant asked) (λ q. q.node) p.at inner) (λ t w. ap given.Vector (of_step inner s o f t w g))

    pub scalar_gives : p.node ≡ node.ScalarOf inner → Gives asked On p true false (λ t. small rule.Scalar t (f t))
    scalar_gives e =
        plainly p _ true (λ t. as_scalar (f t)) (there p (node.ScalarOf inner) e ∙ of-ScalarOf (node_meant asked) (λ q. q.node) p.at inner)
        (λ t w. ap (λ (x : Step). given.Scalar (as_scalar x)) (of_step inner s o f t w g))

  -- ---- functions of rows

  abbrev element_meant : (f : Element) (p inner : Plan) (arguments : List Plan) → p.node ≡ node.Element f inner arguments
      → M p ≡ plain (λ t. element_given f (givens_at (map M arguments) t) (plan_meaning asked inner t))
  element_meant f p inner arguments e = there p (node.Element f inner arguments) e ∙ of-Element (node_meant asked) (λ q. q.node) p.at f inner arguments

  -- a function that reads no scalar
  pub alone_gives : (f : Element) (p inner : Plan) (s o : Bool) (x : ℤ → Step) → Gives asked On inner s o x → p.node ≡ node.Element f inner [] → reads_first (formula.Apply f) ≡ false
      → Gives asked On p (keeps_scalar f s) false (λ t. element_step (formula.Apply f) (x t) (x t) (x t))
  alone_gives f p inner s o x g e n =
      plainly p _ (keeps_scalar f s) (λ t. element_step (formula.Apply f) (x t) (x t) (x t)) (element_meant f p inner [] e) (λ t w. ap (λ (h : Given). element_given f [] h) (g.gives t w) ∙ same f n s (x t))
    where
      same : (f : Element) → reads_first (formula.Apply f) ≡ false → (s : Bool) (x : Step) → element_given f [] (given_as s x) ≡ given_as (keeps_scalar f s) (element_step (formula.Apply f) x x x)
      same element.Neg n true x = refl
      same element.Neg n false x = refl
      same element.Round n s x = absurd (cc)
      same element.Clamp n s x = absurd (cc)
      same element.ClampMin n s x = absurd (cc)
      same element.ClampMax n s x = absurd (cc)
      same f n true x = refl
      same f n false x = refl

  pub round_gives : (p inner : Plan) (s o : Bool) (x : ℤ → Step) → Gives asked On inner s o x → p.node ≡ node.Element element.Round inner []
      → Gives asked On p false false (λ t. element_step (formula.Apply element.Round) (scalar_step (whole_number 1)) (scalar_step (whole_number 1)) (x t))
  round_gives p inner s o x g e =
      plainly p _ false (λ t. element_step (formula.Apply element.Round) (scalar_step (whole_number 1)) (scalar_step (whole_number 1)) (x t)) (element_meant element.Round p inner [] e)
      (λ t w. ap (λ (h : Given). element_given element.Round [] h) (g.gives t w) ∙ same s (x t))
    where
      same : (s : Bool) (x : Step) → element_given element.Round [] (given_as s x) ≡ given.Vector (element_step (formula.Apply element.Round) (scalar_step (whole_number 1)) (scalar_step (whole_number 1)) x)
      same true x = refl
      same false x = refl

  -- a function that reads one scalar
  pub beside_gives : (f : Element) (p inner a : Plan) (s o r q : Bool) (x y : ℤ → Step) → Gives asked On inner s o x → Gives asked On a r q y → p.node ≡ node.Element f inner (a ∷ []) → reads_first (formula.Apply f) ≡ true → reads_second (formula.Apply f) ≡ false
      → Gives asked On p false false (λ t. element_step (formula.Apply f) (y t) (y t) (x t))
  beside_gives f p inner a s o r q x y g h e n m =
      plainly p _ false (λ t. element_step (formula.Apply f) (y t) (y t) (x t)) (element_meant f p inner (a ∷ []) e)
      (λ t w. ap₂ (λ (u v : Given). element_given f (v ∷ []) u) (g.gives t w) (h.gives t w) ∙ same f n m s r (x t) (y t))
    where
      same : (f : Element) → reads_first (formula.Apply f) ≡ true → reads_second (formula.Apply f) ≡ false → (s r : Bool) (x y : Step)
          → element_given f (given_as r y ∷ []) (given_as s x) ≡ given.Vector (element_step (formula.Apply f) y y x)
      same element.Round n m true true x y = refl
      same element.Round n m true false x y = refl
      same element.Round n m false true x y = refl
      same element.Round n m false false x y = refl
      same element.ClampMin n m true true x y = refl
      same element.ClampMin n m true false x y = refl
      same element.ClampMin n m false true x y = refl
      same element.ClampMin n m false false x y = refl
      same element.ClampMax n m true true x y = refl
      same element.ClampMax n m true false x y = refl
      same element.ClampMax n m false true x y = refl
      same element.ClampMax n m false false x y = refl
      same element.Clamp n m s r x y = absurd (cc)
      same f n m s r x y = absurd (cc)

  pub clamp_gives : (p inner a b : Plan) (s o r q r' q' : Bool) (x y z : ℤ → Step) → Gives asked On inner s o x → Gives asked On a r q y → Gives asked On b r' q' z → p.node ≡ node.Element element.Clamp inner (a ∷ b ∷ [])
      → Gives asked On p false false (λ t. element_step (formula.Apply element.Clamp) (y t) (z t) (x t))
  clamp_gives p inner a b s o r q r' q' x y z g h k e =
      plainly p _ false (λ t. element_step (formula.Apply element.Clamp) (y t) (z t) (x t)) (element_meant element.Clamp p inner (a ∷ b ∷ []) e)
      (λ t w. ap given.Vector (λ j. applied_to element.Clamp (of_step a r q y t w h j) (of_step b r' q' z t w k j) (of_step inner s o x t w g j)))

  -- ---- two children

  pub buckets_gives : (p a inner : Plan) (s o r q : Bool) (x y : ℤ → Step) → Gives asked On inner s o x → Gives asked On a r q y → p.node ≡ node.Buckets a inner → Gives asked On p false false (λ t. with_scalar bucket_quantiles (y t) (x t))
  buckets_gives p a inner s o r q x y g h e =
      plainly p _ false (λ t. with_scalar bucket_quantiles (y t) (x t)) (there p (node.Buckets a inner) e ∙ of-Buckets (node_meant asked) (λ q. q.node) p.at a inner)
      (λ t w. ap given.Vector (ap₂ (λ (u v : Step). with_scalar bucket_quantiles u v) (of_step a r q y t w h) (of_step inner s o x t w g)))

  module _ (p left right : Plan) (s o r q : Bool) (x y : ℤ → Step) (g : Gives asked On left s o x) (h : Gives asked On right r q y) where
    pub set_gives : (op : SetOp) (pairing : Pairing) → p.node ≡ node.Set op left right pairing → Gives asked On p false false (λ t. combined (x t) (y t) op pairing)
    set_gives op pairing e =
        plainly p _ false (λ t. combined (x t) (y t) op pairing) (there p (node.Set op left right pairing) e ∙ of-Set (node_meant asked) (λ q. q.node) p.at op left right pairing)
        (λ t w. ap given.Vector (ap₂ (λ (u v : Step). combined u v op pairing) (of_step left s o x t w g) (of_step right r q y t w h)))

    pub ratio_gives : p.node ≡ node.Ratio left right → Gives asked On p false false (λ t. ratio (x t) (y t))
    ratio_gives e =
        plainly p _ false (λ t. ratio (x t) (y t)) (there p (node.Ratio left right) e ∙ of-Ratio (node_meant asked) (λ q. q.node) p.at left right)
        (λ t w. ap given.Vector (ap₂ ratio (of_step left s o x t w g) (of_step right r q y t w h)))

    module _ (op : PairOp) (pairing : Pairing) (e : p.node ≡ node.Pair op left right pairing) where
      pair_meant : M p ≡ plain (λ t. operation op pairing (plan_meaning asked left t) (plan_meaning asked right t))
      pair_meant = there p (node.Pair op left right pairing) e ∙ of-Pair (node_meant asked) (λ q. q.node) p.at op left right pairing

      pair_at : (t : ℤ) → On t → operation op pairing (plan_meaning asked left t) (plan_meaning asked right t) ≡ operation op pairing (given_as s (x t)) (given_as r (y t))
      pair_at t w = ap₂ (operation op pairing) (g.gives t w) (h.gives t w)

      -- the scalar on the right, beside a vector or another scalar
      pub right_gives : r ≡ true → Gives asked On p s false (λ t. element_step (formula.WithScalar op false) (y t) (y t) (x t))
      right_gives n = plainly p _ s (λ t. element_step (formula.WithScalar op false) (y t) (y t) (x t)) pair_meant (λ t w. pair_at t w ∙ ap (λ (b : Bool). operation op pairing (given_as s (x t)) (given_as b (y t))) n ∙ same s (x t) (y t))
        where
          same : (s : Bool) (x y : Step) → operation op pairing (given_as s x) (given.Scalar y) ≡ given_as s (with_scalar (operated_rows op false) y x)
          same true x y = refl
          same false x y = refl

      -- the scalar on the left of a vector
      pub left_gives : s ≡ true → r ≡ false → Gives asked On p false false (λ t. element_step (formula.WithScalar op true) (x t) (x t) (y t))
      left_gives n m =
          plainly p _ false (λ t. element_step (formula.WithScalar op true) (x t) (x t) (y t)) pair_meant (λ t w. pair_at t w ∙ ap₂ (λ (a b : Bool). operation op pairing (given_as a (x t)) (given_as b (y t))) n m)

      pub vectors_give : s ≡ false → r ≡ false → Gives asked On p false false (λ t. paired (x t) (y t) op pairing)
      vectors_give n m = plainly p _ false (λ t. paired (x t) (y t) op pairing) pair_meant (λ t w. pair_at t w ∙ ap₂ (λ (a b : Bool). operation op pairing (given_as a (x t)) (given_as b (y t))) n m)

  -- ---- aggregations

  abbrev group_meant : (f : Aggregate) (by : Grouping) (label : List ℕ) (p : Plan) (arguments : List Plan) → p.node ≡ node.Group f by arguments label
      → M p ≡ plain (λ t. given.Vector (group_given f by label (givens_at (map M arguments) t)))
  group_meant f by label p arguments e = there p (node.Group f by arguments label) e ∙ of-Group (node_meant asked) (λ q. q.node) p.at f by arguments label

  pub grouped_gives : (f : Aggregate) (by : Grouping) (label : List ℕ) (p a : Plan) (s o : Bool) (x : ℤ → Step) → Gives asked On a s o x → p.node ≡ node.Group f by (a ∷ []) label → is_grouped f ≡ true → Gives asked On p false false (λ t. aggregated_step f by (x t))
  grouped_gives f by label p a s o x g e n =
      plainly p _ false (λ t. aggregated_step f by (x t)) (group_meant f by label p (a ∷ []) e) (λ t w. ap given.Vector (same f n (plan_meaning asked a t) ∙ ap (aggregated_step f by) (of_step a s o x t w g)))
    where
      same : (f : Aggregate) → is_grouped f ≡ true → (h : Given) → group_given f by label (h ∷ []) ≡ aggregated_step f by (step_of h)
      same aggregate.TopK n h = absurd (cc)
      same aggregate.BottomK n h = absurd (cc)
      same aggregate.Quantile n h = absurd (cc)
      same aggregate.CountValues n h = absurd (cc)
      same f n h = refl

  pub ranked_gives : (f : Aggregate) (by : Grouping) (label : List ℕ) (p k a : Plan) (s o r q : Bool) (x y : ℤ → Step) → Gives asked On a s o x → Gives asked On k r q y → p.node ≡ node.Group f by (k ∷ a ∷ []) label → reads_parameter f ≡ true
      → Gives asked On p false false (λ t. aggregated_with f by label (y t) (x t))
  ranked_gives f by label p k a s o r q x y g h e n =
      plainly p _ false (λ t. aggregated_with f by label (y t) (x t)) (group_meant f by label p (k ∷ a ∷ []) e)
      (λ t w. ap given.Vector (same f n (plan_meaning asked k t) (plan_meaning asked a t) ∙ ap₂ (aggregated_with f by label) (of_step k r q y t w h) (of_step a s o x t w g)))
    where
      same : (f : Aggregate) → reads_parameter f ≡ true → (u v : Given) → group_given f by label (u ∷ v ∷ []) ≡ aggregated_with f by label (step_of u) (step_of v)
      same aggregate.TopK n u v = refl
      same aggregate.BottomK n u v = refl
      same aggregate.Quantile n u v = refl
      same f n u v = absurd (cc)

  -- count_values reads no parameter, so that any step may stand there
  pub counted_gives : (by : Grouping) (label : List ℕ) (p a : Plan) (s o : Bool) (x y : ℤ → Step) → Gives asked On a s o x → p.node ≡ node.Group aggregate.CountValues by (a ∷ []) label
      → Gives asked On p false false (λ t. aggregated_with aggregate.CountValues by label (y t) (x t))
  counted_gives by label p a s o x y g e =
      plainly p _ false (λ t. aggregated_with aggregate.CountValues by label (y t) (x t)) (group_meant aggregate.CountValues by label p (a ∷ []) e)
      (λ t w. ap given.Vector (ap (λ (z : Step). aggregated_with aggregate.CountValues by label (y t) z) (of_step a s o x t w g)))

-- ---- a part that is computed once

-- a Once node gives what its child gives at any instant, where that is the same at all instants
pub once_gives : (asked : Asked) (On Below : ℤ → Type 0) (p inner : Plan) (s o : Bool) (f : ℤ → Step) (first : ℤ) → Gives asked Below inner s o f → Below first → p.node ≡ node.Once inner
    → ((t u : ℤ) → plan_meaning asked inner t ≡ plan_meaning asked inner u) → Gives asked On p s o (λ t. f first)
once_gives asked On Below p inner s o f first g w e fixed =
    let same : plan_meant asked p ≡ plan_meant asked inner = ap (λ (m : PlanNode). plan_meant asked (planned p.at m)) e ∙ of-Once (node_meant asked) (λ q. q.node) p.at inner in
    record { stamped = ap (λ (m : Meant). m.own) same ∙ g.stamped; gives = λ t v. ap (λ (m : Meant). m.gives t) same ∙ fixed t first ∙ g.gives first w }
