-- A typed plan without its sorts means what it meant.
use Rattle.std.proofs.Common.{◌≡◌, ◌∙◌, ℕ, List, [], ◌∷◌, map, ap, ap₂, sym, refl, subst, Bool, true, false}
use Rattle.std.specs.Prelude.{ℤ, ◌&&◌, ◌||◌, ⊤}
use Rattle.func_table.specs.declared.table.Element.{Element as ElementFunction}
use Rattle.func_table.specs.declared.table.Element.TheVariants as element
use Rattle.label_set.specs.declared.rules.Pairing.{Pairing}
use Rattle.label_set.specs.declared.rules.Relabel.{Relabel as Relabelling}
use Rattle.label_set.specs.declared.rules.Relabel.TheVariants as relabel
use Rattle.label_set.specs.declared.rules.Rule.{Rule}
use Rattle.promql_type.specs.Kinds.{both, is_kind, is_number}
use Rattle.promql_type.specs.declared.kind.Kind.{Kind}
use Rattle.promql_type.specs.declared.kind.Kind.TheVariants.{Scalar, Vector, Windows, Words}
use Rattle.xfrac.specs.declared.value.PairOp.{PairOp}
use Rattle.step_table.specs.declared.cells.PartKind.{PartKind}
use Rattle.step_table.specs.declared.cells.PartKind.TheVariants as part
use Rattle.step_table.specs.declared.cells.StepCells.{StepCells}
use Rattle.step_table.specs.declared.marks.Marks.{Marks}
use Rattle.step_table.specs.declared.step.Step.{Step}
use Rattle.promql_meaning.specs.Givens.{step_of}
use Rattle.promql_meaning.specs.Meaning.{negation, operation}
use Rattle.promql_meaning.specs.Selecting.{Asked}
use Rattle.promql_meaning.specs.declared.given.Given.{Given}
use Rattle.promql_meaning.specs.declared.given.Given.TheVariants as given
use Rattle.promql_meaning.specs.declared.given.Windows.{Windows as WindowsGiven}
use Rattle.logical_plan.specs.declared.nodes.Plan.{Plan}
use Rattle.logical_plan.specs.declared.nodes.PlanNode.{PlanNode}
use Rattle.logical_plan.specs.declared.nodes.PlanNode.TheOpen.{PlanNode-F, Plan-F}
use Rattle.logical_plan.specs.declared.nodes.PlanNode.TheViews.{roll-PlanNode, roll-Plan}
use Rattle.logical_plan.specs.declared.nodes.PlanNode.TheFolds.{fold-PlanNode, fold-Plan, fold-roll-PlanNode, fold-roll-Plan, ind-Plan, map-PlanNode}
use Rattle.logical_plan.specs.Gathers.{joined}
use Rattle.logical_plan.specs.PlanFolds.{of-Number, of-Time, of-Select, of-Range, of-Subquery, of-Element, of-Stamp, of-Window, of-Absent, of-Buckets, of-Relabel, of-Sort, of-ScalarOf, of-VectorOf, of-Group, of-Pair, of-Set, of-Filter, of-Ratio, of-Once, of-Gather}
use Rattle.logical_plan.specs.PlanMeaning.{Meant, element_given, givens_at, group_given, node_meant, plain, plan_meaning, plan_meant, relabel_given, window_given}
use Rattle.logical_plan.specs.PlanRules.{filtered}
use Rattle.logical_plan.specs.PlanTypes.{IsTyped, Typing, are_sound, element_kind, is_element, is_group, is_of, is_pair, is_relabel, is_sound, is_stamped, is_unstamped, is_window, kinds_of, node_kind, node_typed, node_typing, part_gives, typing}
use Rattle.opt_selects.specs.Trimming.{trim, trim_node, trimmed}

left : (a b : Bool) → (a && b) ≡ true → a ≡ true
left true b e = refl
left false b e = absurd (cc)

right : (a b : Bool) → (a && b) ≡ true → b ≡ true
right true b e = e
right false b e = absurd (cc)

-- ---- what is given is of its kind

abbrev Fits : Kind → Given → Type 0
Fits Scalar g = (s : Step) × (g ≡ given.Scalar s)
Fits Vector g = (s : Step) × (g ≡ given.Vector s)
Fits Windows g = (w : WindowsGiven) × (g ≡ given.Windows w)
Fits Words g = ⊤

-- a vector is the vector of its step
vector_is : (k : Kind) (g : Given) → is_kind Vector k ≡ true → Fits k g → given.Vector (step_of g) ≡ g
vector_is Scalar g e f = absurd (cc)
vector_is Vector g e f = ap (λ (x : Given). given.Vector (step_of x)) f.1 ∙ sym f.1
vector_is Windows g e f = absurd (cc)
vector_is Words g e f = absurd (cc)

negation_fits : (k : Kind) (g : Given) → is_number k ≡ true → Fits k g → Fits (both k k) (negation g)
negation_fits Scalar g e f = (_, ap negation f.1)
negation_fits Vector g e f = (_, ap negation f.1)
negation_fits Windows g e f = absurd (cc)
negation_fits Words g e f = absurd (cc)

operation_fits : (op : PairOp) (pairing : Pairing) (j k : Kind) (g h : Given) → is_number j ≡ true → is_number k ≡ true → Fits j g → Fits k h → Fits (both j k) (operation op pairing g h)
operation_fits op pairing Scalar Scalar g h a b f q = (_, ap₂ (operation op pairing) f.1 q.1)
operation_fits op pairing Scalar Vector g h a b f q = (_, ap₂ (operation op pairing) f.1 q.1)
operation_fits op pairing Vector Scalar g h a b f q = (_, ap₂ (operation op pairing) f.1 q.1)
operation_fits op pairing Vector Vector g h a b f q = (_, ap₂ (operation op pairing) f.1 q.1)
operation_fits op pairing Windows k g h a b f q = absurd (cc)
operation_fits op pairing Words k g h a b f q = absurd (cc)
operation_fits op pairing Scalar Windows g h a b f q = absurd (cc)
operation_fits op pairing Scalar Words g h a b f q = absurd (cc)
operation_fits op pairing Vector Windows g h a b f q = absurd (cc)
operation_fits op pairing Vector Words g h a b f q = absurd (cc)

filtered_fits : (kept : List (Bool × List ℕ)) (rules : List Rule) (k : Kind) (g : Given) → (is_kind Vector k || is_kind Windows k) ≡ true → Fits k g → Fits k (filtered kept rules g)
filtered_fits kept rules Scalar g e f = absurd (cc)
filtered_fits kept rules Vector g e f = (_, ap (filtered kept rules) f.1)
filtered_fits kept rules Windows g e f = (_, ap (filtered kept rules) f.1)
filtered_fits kept rules Words g e f = absurd (cc)

-- ---- children of typed nodes

sound_typed : (t : Typing) → is_sound t ≡ true → t.typed ≡ true
sound_typed t e = left t.typed (is_unstamped t.select) e

of_typed : (k : Kind) (t : Typing) → is_of k t ≡ true → t.typed ≡ true
of_typed k t e = sound_typed t (left (is_sound t) (is_kind k t.kind) e)

of_kind : (k : Kind) (t : Typing) → is_of k t ≡ true → is_kind k t.kind ≡ true
of_kind k t e = right (is_sound t) (is_kind k t.kind) e

-- ---- any fold of a node that is rolled up

module _ {A B : Type 0} (node_step : PlanNode-F A B → A) (plan_step : Plan-F A B → B) where
  rolled_up : (at : ℕ) (y : PlanNode-F PlanNode Plan)
      → fold-Plan A B node_step plan_step (roll-Plan (record { at = at; node = roll-PlanNode y }))
      ≡ plan_step (record { at = at; node = node_step (map-PlanNode PlanNode Plan A B (fold-PlanNode A B node_step plan_step) (fold-Plan A B node_step plan_step) y) })
  rolled_up at y =
      fold-roll-Plan A B node_step plan_step (record { at = at; node = roll-PlanNode y })
      ∙ ap (λ (a : A). plan_step (record { at = at; node = a })) (fold-roll-PlanNode A B node_step plan_step y)

-- ---- each plan

module _ (asked : Asked) where
  abbrev M : Plan → Meant
  M = plan_meant asked

  record Fine (p : Plan) : Type 0 where
    fits : (t : ℤ) → Fits (typing p).kind ((M p).gives t)
    whole : M (trimmed p true) ≡ M p
    bare : (t : ℤ) → (M (trimmed p false)).gives t ≡ (M p).gives t

  abbrev IsFine : Plan → Type 0
  IsFine p = (typing p).typed ≡ true → Fine p

  abbrev IsFineNode : PlanNode → Type 0
  IsFineNode n = (at : ℕ) → IsFine (roll-Plan (record { at = at; node = n }))

  abbrev Child : Type 0
  Child = (p : Plan) × IsFine p

  abbrev Layer : Type 0
  Layer = PlanNode-F ((n : PlanNode) × IsFineNode n) Child

  abbrev plans : Layer → PlanNode-F PlanNode Plan
  plans = map-PlanNode ((n : PlanNode) × IsFineNode n) Child PlanNode Plan (λ n. n.0) (λ p. p.0)

  abbrev typings : Layer → PlanNode-F Typing Typing
  typings y = map-PlanNode PlanNode Plan Typing Typing (fold-PlanNode Typing Typing node_typing (λ p. p.node)) typing (plans y)

  abbrev meanings : Layer → PlanNode-F Meant Meant
  meanings y = map-PlanNode PlanNode Plan Meant Meant (fold-PlanNode Meant Meant (node_meant asked) (λ p. p.node)) M (plans y)

  abbrev trims : Layer → PlanNode-F (ℕ → Bool → Plan) (Bool → Plan)
  trims y = map-PlanNode PlanNode Plan (ℕ → Bool → Plan) (Bool → Plan) (fold-PlanNode (ℕ → Bool → Plan) (Bool → Plan) trim_node (λ p. p.node p.at)) trimmed (plans y)

  -- what a plan gives, whatever its rows are
  abbrev given_by : Meant → Meant
  given_by m = plain m.gives

  bare_same : (c : Child) → (typing c.0).typed ≡ true → given_by (M (trimmed c.0 false)) ≡ given_by (M c.0)
  bare_same c e = λ i. plain (λ (t : ℤ). (c.1 e).bare t i)

  abbrev without_sorts : List Child → List Plan
  without_sorts items = map (λ (of : Bool → Plan). of false) (map trimmed (map (λ (c : Child). c.0) items))

  all_same : (items : List Child) (t : ℤ) → are_sound (map typing (map (λ (c : Child). c.0) items)) ≡ true
      → givens_at (map M (without_sorts items)) t ≡ givens_at (map M (map (λ (c : Child). c.0) items)) t
  all_same [] t e = refl
  all_same (c ∷ items) t e =
      ap₂ (λ (x : Given) (xs : List Given). x ∷ xs) ((c.1 (sound_typed (typing c.0) (left (is_sound (typing c.0)) (are_sound (map typing (map (λ (c : Child). c.0) items))) e))).bare t)
      (all_same items t (right (is_sound (typing c.0)) (are_sound (map typing (map (λ (c : Child). c.0) items))) e))

  record Level (at : ℕ) (y : Layer) : Type 0 where
    fits : (t : ℤ) → Fits (node_kind (typings y)) ((node_meant asked (meanings y)).gives t)
    whole : M (trim_node (trims y) at true) ≡ node_meant asked (meanings y)
    bare : (t : ℤ) → (M (trim_node (trims y) at false)).gives t ≡ (node_meant asked (meanings y)).gives t

  element_fits : (f : ElementFunction) (arguments : List Given) (k : Kind) (g : Given) → ((f ≡ element.Neg) → is_number k ≡ true) → Fits k g → Fits (element_kind f k) (element_given f arguments g)
  element_fits element.Neg arguments k g e f = negation_fits k g (e refl) f
  element_fits element.Abs arguments k g e f = (_, refl)
  element_fits element.Ceil arguments k g e f = (_, refl)
  element_fits element.Floor arguments k g e f = (_, refl)
  element_fits element.Round arguments k g e f = (_, refl)
  element_fits element.Sgn arguments k g e f = (_, refl)
  element_fits element.Clamp arguments k g e f = (_, refl)
  element_fits element.ClampMin arguments k g e f = (_, refl)
  element_fits element.ClampMax arguments k g e f = (_, refl)
  element_fits (element.Calendar part) arguments k g e f = (_, refl)

  -- minus takes a number
  minus_number : (f : ElementFunction) (k : Kind) (kinds : List Kind) → is_element f k kinds ≡ true → (f ≡ element.Neg) → is_number k ≡ true
  minus_number f k kinds e is = by kinds (ap (λ (x : ElementFunction). is_element x k kinds) (sym is) ∙ e)
    where
      by : (kinds : List Kind) → is_element element.Neg k kinds ≡ true → is_number k ≡ true
      by [] e = e
      by (kind ∷ kinds) e = absurd (cc)

  abbrev kinds_in : List Child → List Kind
  kinds_in items = kinds_of (map typing (map (λ (c : Child). c.0) items))

  abbrev all_sound : List Child → Bool
  all_sound items = are_sound (map typing (map (λ (c : Child). c.0) items))

  relabel_fits : (rule : Relabelling) (g : Given) → is_relabel rule ≡ true → Fits Vector (relabel_given asked rule g)
  relabel_fits (relabel.Replace target template source pattern) g e = (_, refl)
  relabel_fits (relabel.Join target separator sources) g e = (_, refl)
  relabel_fits (relabel.Filter rules) g e = absurd (cc)

  gathered_fits : (kind : PartKind) (t : ℤ) (steps : List StepCells) (marks : Marks) (none : WindowsGiven) → Fits (part_gives kind) (joined kind t steps marks none)
  gathered_fits part.Rows t steps marks none = (_, refl)
  gathered_fits part.Windows t steps marks none = (_, refl)
  gathered_fits (part.Partial f by) t steps marks none = (_, refl)

  left_number : (op : PairOp) (pairing : Pairing) (j k : Kind) → is_pair op pairing j k ≡ true → is_number j ≡ true
  left_number op pairing j k e = left (is_number j) (is_number k) (left (is_number j && is_number k) _ (left _ _ e))

  right_number : (op : PairOp) (pairing : Pairing) (j k : Kind) → is_pair op pairing j k ≡ true → is_number k ≡ true
  right_number op pairing j k e = right (is_number j) (is_number k) (left (is_number j && is_number k) _ (left _ _ e))

  level : (at : ℕ) (y : Layer) → node_typed (typings y) ≡ true → Level at y
  level at (PlanNode-F.Number value) e =
      let whole = of-Number (node_meant asked) (λ p. p.node) at value in
      record { fits = λ t. (_, refl); whole = whole; bare = λ t. ap (λ (m : Meant). m.gives t) whole }
  level at PlanNode-F.Time e =
      let whole = of-Time (node_meant asked) (λ p. p.node) at in
      record { fits = λ t. (_, refl); whole = whole; bare = λ t. ap (λ (m : Meant). m.gives t) whole }
  level at (PlanNode-F.Select rules moment stamped) e =
      let whole = of-Select (node_meant asked) (λ p. p.node) at rules moment stamped in
      record { fits = λ t. (_, refl); whole = whole; bare = λ t. ap (λ (m : Meant). m.gives t) whole }
  level at (PlanNode-F.Range rules moment range) e =
      let whole = of-Range (node_meant asked) (λ p. p.node) at rules moment range in
      record { fits = λ t. (_, refl); whole = whole; bare = λ t. ap (λ (m : Meant). m.gives t) whole }
  level at (PlanNode-F.Subquery c range step moment) e =
      let whole = of-Subquery (node_meant asked) (λ p. p.node) at (trimmed c.0 false) range step moment ∙ ap (λ (x : Meant). node_meant asked (PlanNode-F.Subquery x range step moment)) (bare_same c (of_typed Vector (typing c.0) e)) in
      record { fits = λ t. (_, refl); whole = whole; bare = λ t. ap (λ (m : Meant). m.gives t) whole }
  level at (PlanNode-F.Element f c cs) e =
      let sound : (is_sound (typing c.0) && all_sound cs) ≡ true = left (is_sound (typing c.0) && all_sound cs) (is_element f (typing c.0).kind (kinds_in cs)) e in
      let typed = sound_typed (typing c.0) (left (is_sound (typing c.0)) (all_sound cs) sound) in
      let rest = right (is_sound (typing c.0)) (all_sound cs) sound in
      let whole = of-Element (node_meant asked) (λ p. p.node) at f (trimmed c.0 false) (without_sorts cs) ∙ (λ i. plain (λ (t : ℤ). element_given f (all_same cs t rest i) ((c.1 typed).bare t i))) in
      record { fits = λ t. element_fits f (givens_at (map M (map (λ (c : Child). c.0) cs)) t) (typing c.0).kind ((M c.0).gives t) (minus_number f (typing c.0).kind (kinds_in cs) (right (is_sound (typing c.0) && all_sound cs) (is_element f (typing c.0).kind (kinds_in cs)) e)) ((c.1 typed).fits t); whole = whole; bare = λ t. ap (λ (m : Meant). m.gives t) whole }
  level at (PlanNode-F.Stamp c) e =
      let typed = left (typing c.0).typed (is_stamped (typing c.0).select) (left ((typing c.0).typed && is_stamped (typing c.0).select) (is_kind Vector (typing c.0).kind) e) in
      let whole = of-Stamp (node_meant asked) (λ p. p.node) at (trimmed c.0 true) ∙ ap (λ (x : Meant). node_meant asked (PlanNode-F.Stamp x)) (c.1 typed).whole in
      record { fits = λ t. (_, refl); whole = whole; bare = λ t. ap (λ (m : Meant). m.gives t) whole }
  level at (PlanNode-F.Window f c cs) e =
      let sound : (is_sound (typing c.0) && all_sound cs) ≡ true = left (is_sound (typing c.0) && all_sound cs) (is_window f (typing c.0).kind (kinds_in cs)) e in
      let typed = sound_typed (typing c.0) (left (is_sound (typing c.0)) (all_sound cs) sound) in
      let rest = right (is_sound (typing c.0)) (all_sound cs) sound in
      let whole = of-Window (node_meant asked) (λ p. p.node) at f (trimmed c.0 false) (without_sorts cs) ∙ (λ i. plain (λ (t : ℤ). given.Vector (window_given f t (all_same cs t rest i) ((c.1 typed).bare t i)))) in
      record { fits = λ t. (_, refl); whole = whole; bare = λ t. ap (λ (m : Meant). m.gives t) whole }
  level at (PlanNode-F.Absent labels c) e =
      let whole = of-Absent (node_meant asked) (λ p. p.node) at labels (trimmed c.0 false) ∙ ap (λ (x : Meant). node_meant asked (PlanNode-F.Absent labels x)) (bare_same c (of_typed Vector (typing c.0) e)) in
      record { fits = λ t. (_, refl); whole = whole; bare = λ t. ap (λ (m : Meant). m.gives t) whole }
  level at (PlanNode-F.Buckets c d) e =
      let typed_c = of_typed Scalar (typing c.0) (left (is_of Scalar (typing c.0)) (is_of Vector (typing d.0)) e) in
      let typed_d = of_typed Vector (typing d.0) (right (is_of Scalar (typing c.0)) (is_of Vector (typing d.0)) e) in
      let whole = of-Buckets (node_meant asked) (λ p. p.node) at (trimmed c.0 false) (trimmed d.0 false) ∙ ap₂ (λ (x y : Meant). node_meant asked (PlanNode-F.Buckets x y)) (bare_same c typed_c) (bare_same d typed_d) in
      record { fits = λ t. (_, refl); whole = whole; bare = λ t. ap (λ (m : Meant). m.gives t) whole }
  level at (PlanNode-F.Relabel rule c) e =
      let whole = of-Relabel (node_meant asked) (λ p. p.node) at rule (trimmed c.0 false) ∙ ap (λ (x : Meant). node_meant asked (PlanNode-F.Relabel rule x)) (bare_same c (of_typed Vector (typing c.0) (right (is_relabel rule) (is_of Vector (typing c.0)) e))) in
      record { fits = λ t. relabel_fits rule ((M c.0).gives t) (left (is_relabel rule) (is_of Vector (typing c.0)) e); whole = whole; bare = λ t. ap (λ (m : Meant). m.gives t) whole }
  level at (PlanNode-F.Sort down c) e =
      let typed = of_typed Vector (typing c.0) e in
      record {
        fits = λ t. (_, refl);
        whole = of-Sort (node_meant asked) (λ p. p.node) at down (trimmed c.0 false) ∙ ap (λ (x : Meant). node_meant asked (PlanNode-F.Sort down x)) (bare_same c typed);
        bare = λ t. (c.1 typed).bare t ∙ sym (vector_is (typing c.0).kind ((M c.0).gives t) (of_kind Vector (typing c.0) e) ((c.1 typed).fits t));
      }
  level at (PlanNode-F.ScalarOf c) e =
      let whole = of-ScalarOf (node_meant asked) (λ p. p.node) at (trimmed c.0 false) ∙ ap (λ (x : Meant). node_meant asked (PlanNode-F.ScalarOf x)) (bare_same c (of_typed Vector (typing c.0) e)) in
      record { fits = λ t. (_, refl); whole = whole; bare = λ t. ap (λ (m : Meant). m.gives t) whole }
  level at (PlanNode-F.VectorOf c) e =
      let whole = of-VectorOf (node_meant asked) (λ p. p.node) at (trimmed c.0 false) ∙ ap (λ (x : Meant). node_meant asked (PlanNode-F.VectorOf x)) (bare_same c (of_typed Scalar (typing c.0) e)) in
      record { fits = λ t. (_, refl); whole = whole; bare = λ t. ap (λ (m : Meant). m.gives t) whole }
  level at (PlanNode-F.Group f grouping cs label) e =
      let rest = left (all_sound cs) (is_group f (kinds_in cs) label) e in
      let whole = of-Group (node_meant asked) (λ p. p.node) at f grouping (without_sorts cs) label ∙ (λ i. plain (λ (t : ℤ). given.Vector (group_given f grouping label (all_same cs t rest i)))) in
      record { fits = λ t. (_, refl); whole = whole; bare = λ t. ap (λ (m : Meant). m.gives t) whole }
  level at (PlanNode-F.Pair op c d pairing) e =
      let sound = left (is_sound (typing c.0) && is_sound (typing d.0)) (is_pair op pairing (typing c.0).kind (typing d.0).kind) e in
      let paired = right (is_sound (typing c.0) && is_sound (typing d.0)) (is_pair op pairing (typing c.0).kind (typing d.0).kind) e in
      let typed_c = sound_typed (typing c.0) (left (is_sound (typing c.0)) (is_sound (typing d.0)) sound) in
      let typed_d = sound_typed (typing d.0) (right (is_sound (typing c.0)) (is_sound (typing d.0)) sound) in
      let whole = of-Pair (node_meant asked) (λ p. p.node) at op (trimmed c.0 false) (trimmed d.0 false) pairing ∙ ap₂ (λ (x y : Meant). node_meant asked (PlanNode-F.Pair op x y pairing)) (bare_same c typed_c) (bare_same d typed_d) in
      record { fits = λ t. operation_fits op pairing (typing c.0).kind (typing d.0).kind ((M c.0).gives t) ((M d.0).gives t) (left_number op pairing (typing c.0).kind (typing d.0).kind paired) (right_number op pairing (typing c.0).kind (typing d.0).kind paired) ((c.1 typed_c).fits t) ((d.1 typed_d).fits t); whole = whole; bare = λ t. ap (λ (m : Meant). m.gives t) whole }
  level at (PlanNode-F.Set op c d pairing) e =
      let typed_c = of_typed Vector (typing c.0) (left (is_of Vector (typing c.0)) (is_of Vector (typing d.0)) e) in
      let typed_d = of_typed Vector (typing d.0) (right (is_of Vector (typing c.0)) (is_of Vector (typing d.0)) e) in
      let whole = of-Set (node_meant asked) (λ p. p.node) at op (trimmed c.0 false) (trimmed d.0 false) pairing ∙ ap₂ (λ (x y : Meant). node_meant asked (PlanNode-F.Set op x y pairing)) (bare_same c typed_c) (bare_same d typed_d) in
      record { fits = λ t. (_, refl); whole = whole; bare = λ t. ap (λ (m : Meant). m.gives t) whole }
  level at (PlanNode-F.Filter c rules) e =
      let typed = sound_typed (typing c.0) (left (is_sound (typing c.0)) (is_kind Vector (typing c.0).kind || is_kind Windows (typing c.0).kind) e) in
      let whole = of-Filter (node_meant asked) (λ p. p.node) at (trimmed c.0 false) rules ∙ ap (λ (x : Meant). node_meant asked (PlanNode-F.Filter x rules)) (bare_same c typed) in
      record { fits = λ t. filtered_fits asked.kept rules (typing c.0).kind ((M c.0).gives t) (right (is_sound (typing c.0)) (is_kind Vector (typing c.0).kind || is_kind Windows (typing c.0).kind) e) ((c.1 typed).fits t); whole = whole; bare = λ t. ap (λ (m : Meant). m.gives t) whole }
  level at (PlanNode-F.Ratio c d) e =
      let typed_c = of_typed Vector (typing c.0) (left (is_of Vector (typing c.0)) (is_of Vector (typing d.0)) e) in
      let typed_d = of_typed Vector (typing d.0) (right (is_of Vector (typing c.0)) (is_of Vector (typing d.0)) e) in
      let whole = of-Ratio (node_meant asked) (λ p. p.node) at (trimmed c.0 false) (trimmed d.0 false) ∙ ap₂ (λ (x y : Meant). node_meant asked (PlanNode-F.Ratio x y)) (bare_same c typed_c) (bare_same d typed_d) in
      record { fits = λ t. (_, refl); whole = whole; bare = λ t. ap (λ (m : Meant). m.gives t) whole }
  level at (PlanNode-F.Once c) e = record {
    fits = (c.1 e).fits;
    whole = of-Once (node_meant asked) (λ p. p.node) at (trimmed c.0 true) ∙ (c.1 e).whole;
    bare = λ t. ap (λ (m : Meant). m.gives t) (of-Once (node_meant asked) (λ p. p.node) at (trimmed c.0 false)) ∙ (c.1 e).bare t;
  }
  level at (PlanNode-F.Gather expr kind engines) e =
      let whole = of-Gather (node_meant asked) (λ p. p.node) at expr kind engines in
      record { fits = λ t. gathered_fits kind t _ _ _; whole = whole; bare = λ t. ap (λ (m : Meant). m.gives t) whole }

  node_fine : (y : Layer) → IsFineNode (roll-PlanNode (plans y))
  node_fine y at e =
      let typing_is = rolled_up node_typing (λ p. p.node) at (plans y) in
      let means_is = rolled_up (node_meant asked) (λ p. p.node) at (plans y) in
      let trims_is = rolled_up trim_node (λ p. p.node p.at) at (plans y) in
      let l = level at y (ap (λ (t : Typing). t.typed) (sym typing_is) ∙ e) in
      record {
        fits = λ t. subst (λ (k : Typing). Fits k.kind ((M (roll-Plan (record { at = at; node = roll-PlanNode (plans y) }))).gives t)) (sym typing_is) (subst (λ (m : Meant). Fits (node_kind (typings y)) (m.gives t)) (sym means_is) (l.fits t));
        whole = ap (λ (of : Bool → Plan). M (of true)) trims_is ∙ l.whole ∙ sym means_is;
        bare = λ t. ap (λ (of : Bool → Plan). (M (of false)).gives t) trims_is ∙ l.bare t ∙ ap (λ (m : Meant). m.gives t) (sym means_is);
      }

  every : (p : Plan) → IsFine p
  every = ind-Plan IsFineNode IsFine
      (λ x y is. subst (λ z. IsFineNode (roll-PlanNode z)) is (node_fine y))
      (λ x y is. subst (λ z. IsFine (roll-Plan z)) is (y.node.1 y.at))

pub trim_means : (asked : Asked) (p : Plan) → IsTyped p → (t : ℤ) → plan_meaning asked (trim p) t ≡ plan_meaning asked p t
trim_means asked p typed t = ap (λ (m : Meant). m.gives t) (every asked p (sound_typed (typing p) typed)).whole
