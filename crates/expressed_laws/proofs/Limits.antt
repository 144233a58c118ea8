-- The expression of a plan is within the limits of the plan and as steady, has no selector where the plan has none, and gives a scalar
-- where the plan does.
use Rattle.std.proofs.Common.{◌≡◌, ◌∙◌, ◌≤◌, ℕ, ◌+◌, List, [], ◌∷◌, ◌++◌, map, ap, sym, refl, subst, Bool, true, false, arith}
use Rattle.std.proofs.lemmas.Bool.{false≢true, true≢false}
use Rattle.std.specs.Prelude.{◌&&◌, ◌||◌, max, ⊤}
use Rattle.std.specs.List.{AllByRecursion}
use Rattle.func_table.specs.declared.table.Aggregate.{Aggregate as AggregateFunction}
use Rattle.func_table.specs.declared.table.Aggregate.TheVariants as aggregate
use Rattle.func_table.specs.declared.table.Element.{Element as ElementFunction}
use Rattle.func_table.specs.declared.table.Element.TheVariants as element
use Rattle.func_table.specs.declared.table.Func.{Func}
use Rattle.func_table.specs.declared.table.Func.TheVariants as func
use Rattle.func_table.specs.declared.table.SetOp.{SetOp}
use Rattle.func_table.specs.declared.table.Window.{Window as WindowFunction}
use Rattle.func_table.specs.declared.table.Window.TheVariants as window
use Rattle.holders.specs.Joins.{back_of, both_of, front_of}
use Rattle.label_set.specs.declared.rules.Grouping.{Grouping}
use Rattle.label_set.specs.declared.rules.Pairing.{Pairing}
use Rattle.label_set.specs.declared.rules.Relabel.{Relabel as Relabelling}
use Rattle.label_set.specs.declared.rules.Relabel.TheVariants as relabel
use Rattle.promql_ast.specs.Depth.{depth, greatest, node_depth}
use Rattle.promql_ast.specs.Folds.{fold-Aggregate, fold-Call, fold-Negate, fold-Number, fold-Pair, fold-Range, fold-Select, fold-Set, fold-Subquery, fold-Words}
use Rattle.promql_ast.specs.Parts.{AreWithin, IsWithin, Part, node_parts, parts_of}
use Rattle.promql_ast.specs.Parts.{all_of as joined_parts}
use Rattle.promql_ast.specs.declared.tree.Expr.{Expr}
use Rattle.promql_ast.specs.declared.tree.Moment.{Moment}
use Rattle.promql_ast.specs.declared.tree.Node.TheOpen.{Node-F}
use Rattle.promql_ast.specs.declared.tree.Node.TheVariants.{Aggregate, Call, Negate, Number, Pair, Range, Select, Set, Subquery}
use Rattle.promql_meaning.specs.Results.{gives_scalar, node_gives_scalar}
use Rattle.promql_meaning.specs.Steadiness.{all_hold, steady_element, steady_window}
use Rattle.promql_type.specs.Kinds.{both as both_kinds, is_kind}
use Rattle.promql_type.specs.Replacements.{Kept}
use Rattle.promql_type.specs.declared.kind.Kind.{Kind}
use Rattle.promql_type.specs.declared.kind.Kind.TheVariants.{Scalar, Vector, Windows, Words}
use Rattle.ticks.specs.declared.moment.Ms.{Ms}
use Rattle.xfrac.specs.declared.value.PairOp.{PairOp}
use Rattle.logical_plan.specs.Lowering.{planned}
use Rattle.logical_plan.specs.PartExprs.{element_expression, expressed, expression_of, expression_step, group_arguments, is_expressible, node_expressible, relabel_expression, sort_function, window_expression, worded}
use Rattle.logical_plan.specs.PlanRules.{pattern_text, selector_of}
use Rattle.logical_plan.specs.PlanTypes.{Typing, are_sound, element_kind, is_element, is_filled, is_group, is_of, is_pair, is_relabel, is_sound, is_stamped, is_unstamped, is_window, kinds_of, node_typing, typing}
use Rattle.logical_plan.specs.Steadiness.{Checked, all_of, both, checked, constant, is_still_call, known_part, node_checked, part_facts, selected, still_if}
use Rattle.logical_plan.specs.Validity.{Measure, all_parts, children, measured, node_measure}
use Rattle.logical_plan.specs.declared.nodes.Plan.{Plan}
use Rattle.logical_plan.specs.declared.nodes.PlanNode.{PlanNode}
use Rattle.logical_plan.specs.declared.nodes.PlanNode.TheOpen.{PlanNode-F}
use Rattle.logical_plan.specs.declared.nodes.PlanNode.TheViews.{roll-PlanNode}
use Rattle.logical_plan.specs.declared.steadiness.Facts.{Facts}
use Rattle.expressed_laws.specs.Expressions.{ExpressionsAreAsSteady, ExpressionsAreWithin, ExpressionsHaveNoSelector, HasExpression, ScalarsGiveScalars}
use Rattle.expressed_laws.proofs.Ands.{both_true, left_true, right_true}
use Rattle.expressed_laws.specs.Induction.{every, folded, rolled}
use Rattle.expressed_laws.proofs.Means.{too_many_before}

-- ---- facts of several

left_false : (a b : Bool) → (a || b) ≡ false → a ≡ false
left_false true b h = absurd (true≢false h)
left_false false b h = refl

right_false : (a b : Bool) → (a || b) ≡ false → b ≡ false
right_false true b h = absurd (true≢false h)
right_false false b h = h

abbrev AreFixed : List Facts → Type 0
AreFixed fs = AllByRecursion (λ (f : Facts). f.fixed ≡ true) fs

abbrev AreStill : List Facts → Type 0
AreStill fs = AllByRecursion (λ (f : Facts). f.still ≡ true) fs

abbrev AreConstant : List Facts → Type 0
AreConstant fs = AllByRecursion (λ (f : Facts). f.selects ≡ false) fs

all_fixed : (a : Facts) (fs : List Facts) → a.fixed ≡ true → AreFixed fs → (all_of a fs).fixed ≡ true
all_fixed a [] h all = h
all_fixed a (f ∷ fs) h all = all_fixed (both a f) fs (both_true a.fixed f.fixed h all.0) all.1

all_still : (a : Facts) (fs : List Facts) → a.still ≡ true → AreStill fs → (all_of a fs).still ≡ true
all_still a [] h all = h
all_still a (f ∷ fs) h all = all_still (both a f) fs (both_true a.still f.still h all.0) all.1

each_fixed : (a : Facts) (fs : List Facts) → (all_of a fs).fixed ≡ true → (a.fixed ≡ true) × AreFixed fs
each_fixed a [] h = (h, tt)
each_fixed a (f ∷ fs) h = let r = each_fixed (both a f) fs h in (left_true a.fixed f.fixed r.0, (right_true a.fixed f.fixed r.0, r.1))

each_still : (a : Facts) (fs : List Facts) → (all_of a fs).still ≡ true → (a.still ≡ true) × AreStill fs
each_still a [] h = (h, tt)
each_still a (f ∷ fs) h = let r = each_still (both a f) fs h in (left_true a.still f.still r.0, (right_true a.still f.still r.0, r.1))

each_constant : (a : Facts) (fs : List Facts) → (all_of a fs).selects ≡ false → (a.selects ≡ false) × AreConstant fs
each_constant a [] h = (h, tt)
each_constant a (f ∷ fs) h = let r = each_constant (both a f) fs h in (left_false a.selects f.selects r.0, (right_false a.selects f.selects r.0, r.1))

neither : (a b : Bool) → a ≡ false → b ≡ false → (a || b) ≡ false
neither true b h i = absurd (true≢false h)
neither false b h i = i

all_none : (a : Facts) (fs : List Facts) → a.selects ≡ false → AreConstant fs → (all_of a fs).selects ≡ false
all_none a [] h all = h
all_none a (f ∷ fs) h all = all_none (both a f) fs (neither a.selects f.selects h all.0) all.1

never_own : (a : Facts) (fs : List Facts) → a.own ≡ false → (all_of a fs).own ≡ false
never_own a [] h = h
never_own a (f ∷ fs) h = never_own (both a f) fs refl

-- what facts say of those that they are made of
record AreBelow (g : Facts) (fs : List Facts) : Type 0 where
  fixed : g.fixed ≡ true → AreFixed fs
  still : g.still ≡ true → AreStill fs
  none : g.selects ≡ false → AreConstant fs
  own : g.own ≡ false

below_all : (fs : List Facts) → AreBelow (all_of constant fs) fs
below_all fs = record {
  fixed = λ h. (each_fixed constant fs h).1;
  still = λ h. (each_still constant fs h).1;
  none = λ h. (each_constant constant fs h).1;
  own = never_own constant fs refl;
}

below_two : (a b : Facts) → AreBelow (both a b) (a ∷ b ∷ [])
below_two a b = record {
  fixed = λ h. (left_true a.fixed b.fixed h, (right_true a.fixed b.fixed h, tt));
  still = λ h. (left_true a.still b.still h, (right_true a.still b.still h, tt));
  none = λ h. (left_false a.selects b.selects h, (right_false a.selects b.selects h, tt));
  own = refl;
}

below_if : (b : Bool) (g : Facts) (fs : List Facts) → AreBelow g fs → AreBelow (still_if b g) fs
below_if b g fs below = record { fixed = below.fixed; still = λ h. below.still (right_true b g.still h); none = below.none; own = below.own }

steady_some : (f : ElementFunction) (b : Bool) (bs : List Bool) → steady_element f (b ∷ bs) ≡ true
steady_some element.Abs b bs = refl
steady_some element.Ceil b bs = refl
steady_some element.Floor b bs = refl
steady_some element.Round b bs = refl
steady_some element.Sgn b bs = refl
steady_some element.Neg b bs = refl
steady_some element.Clamp b bs = refl
steady_some element.ClampMin b bs = refl
steady_some element.ClampMax b bs = refl
steady_some (element.Calendar part) b bs = refl

-- ---- limits of several

abbrev Within : ℕ → ℕ → List Part → Type 0
Within longest latest parts = AreWithin (λ rules. ⊤) longest latest parts

abbrev Fits : ℕ → ℕ → Part → Type 0
Fits longest latest = IsWithin (λ rules. ⊤) longest latest

abbrev depths : List Measure → List ℕ
depths ms = map (λ (m : Measure). m.depth) ms

-- an expression has no more than such parts, such a depth and such facts
record IsLike (e : Expr) (parts : List Part) (deep : ℕ) (f : Facts) : Type 0 where
  within : (longest latest : ℕ) → Within longest latest parts → Within longest latest (parts_of e)
  some : 1 ≤ deep
  shallow : depth e ≤ deep
  fixed : f.fixed ≡ true → (known_part e).fixed ≡ true
  still : f.still ≡ true → (known_part e).still ≡ true
  own : f.own ≡ true → (known_part e).own ≡ true
  none : f.selects ≡ false → (known_part e).selects ≡ false

record AreLike (es : List Expr) (ms : List Measure) (fs : List Facts) : Type 0 where
  within : (longest latest : ℕ) → Within longest latest (all_parts ms) → Within longest latest (joined_parts (map parts_of es))
  shallow : (n : ℕ) → 1 ≤ n → greatest (depths ms) ≤ n → greatest (map depth es) ≤ n
  fixed : AreFixed fs → AreFixed (map known_part es)
  still : AreStill fs → AreStill (map known_part es)
  none : AreConstant fs → AreConstant (map known_part es)

no_more : AreLike [] [] []
no_more = record { within = λ longest latest w. tt; shallow = λ n some h. omega arith; fixed = λ h. tt; still = λ h. tt; none = λ h. tt }

more : (e : Expr) (es : List Expr) (m : Measure) (ms : List Measure) (f : Facts) (fs : List Facts) → IsLike e m.parts m.depth f → AreLike es ms fs → AreLike (e ∷ es) (m ∷ ms) (f ∷ fs)
more e es m ms f fs one all = record {
  within = λ longest latest w.
      both_of (Fits longest latest) (parts_of e) (joined_parts (map parts_of es)) (one.within longest latest (front_of (Fits longest latest) m.parts (all_parts ms) w))
      (all.within longest latest (back_of (Fits longest latest) m.parts (all_parts ms) w));
  shallow = λ n some h. let rest : greatest (depths ms) ≤ n = omega (arith, h) in omega (arith, h, one.shallow, all.shallow n some rest);
  fixed = λ h. (one.fixed h.0, all.fixed h.1);
  still = λ h. (one.still h.0, all.still h.1);
  none = λ h. (one.none h.0, all.none h.1);
}

-- a string has nothing of a plan
module _ (at : ℕ) (text : List ℕ) where
  parts_words : parts_of (worded at text) ≡ []
  parts_words = fold-Words node_parts (λ e. e.node) (worded at text) text refl

  depth_words : depth (worded at text) ≡ 1
  depth_words = fold-Words node_depth (λ e. e.node) (worded at text) text refl

  known_words : known_part (worded at text) ≡ constant
  known_words = fold-Words part_facts (λ e. e.node) (worded at text) text refl

  string : (es : List Expr) (ms : List Measure) (fs : List Facts) → AreLike es ms fs → AreLike (worded at text ∷ es) ms fs
  string es ms fs all = record {
    within = λ longest latest w.
        both_of (Fits longest latest) (parts_of (worded at text)) (joined_parts (map parts_of es)) (subst (Within longest latest) (sym parts_words) tt) (all.within longest latest w);
    shallow = λ n some h. omega (arith, some, depth_words, all.shallow n some h);
    fixed = λ h. (ap (λ (f : Facts). f.fixed) known_words, all.fixed h);
    still = λ h. (ap (λ (f : Facts). f.still) known_words, all.still h);
    none = λ h. (ap (λ (f : Facts). f.selects) known_words, all.none h);
  }

strings : (at : ℕ) (texts : List (List ℕ)) → AreLike (map (worded at) texts) [] []
strings at [] = no_more
strings at (text ∷ texts) = string at text (map (worded at) texts) [] [] (strings at texts)

-- ---- nodes

-- a node without children
leaf : (e : Expr) (parts : List Part) (f k : Facts) → parts_of e ≡ parts → depth e ≡ 1 → known_part e ≡ k → (f.fixed ≡ true → k.fixed ≡ true) → (f.still ≡ true → k.still ≡ true)
    → (f.own ≡ true → k.own ≡ true) → (f.selects ≡ false → k.selects ≡ false) → IsLike e parts 1 f
leaf e parts f k has deep knows fixed still own none = record {
  within = λ longest latest w. subst (Within longest latest) (sym has) w;
  some = omega arith;
  shallow = omega (arith, deep);
  fixed = λ h. ap (λ (x : Facts). x.fixed) knows ∙ fixed h;
  still = λ h. ap (λ (x : Facts). x.still) knows ∙ still h;
  own = λ h. ap (λ (x : Facts). x.own) knows ∙ own h;
  none = λ h. ap (λ (x : Facts). x.selects) knows ∙ none h;
}

called : (f : Func) (at : ℕ) (es : List Expr) (ms : List Measure) (fs : List Facts) (g : Facts) → AreLike es ms fs → 1 ≤ greatest (depths ms) → AreBelow g fs
    → (g.still ≡ true → is_still_call f (map known_part es) ≡ true) → IsLike (expressed at (Call f es)) (all_parts ms) (1 + greatest (depths ms)) g
called f at es ms fs g all some below asks =
    let e = expressed at (Call f es) in
    let ks = map known_part es in
    let knows : known_part e ≡ part_facts (Node-F.Call f ks) = fold-Call part_facts (λ e. e.node) e f es refl in
    let deep : depth e ≡ 1 + greatest (map depth es) = fold-Call node_depth (λ e. e.node) e f es refl in
    let itself : greatest (depths ms) ≤ greatest (depths ms) = omega arith in
    record {
      within = λ longest latest w. subst (Within longest latest) (sym (fold-Call node_parts (λ e. e.node) e f es refl)) (all.within longest latest w);
      some = omega arith;
      shallow = omega (arith, deep, all.shallow (greatest (depths ms)) some itself);
      fixed = λ h. ap (λ (x : Facts). x.fixed) knows ∙ all_fixed constant ks refl (all.fixed (below.fixed h));
      still = λ h. ap (λ (x : Facts). x.still) knows ∙ both_true (is_still_call f ks) (all_of constant ks).still (asks h) (all_still constant ks refl (all.still (below.still h)));
      own = λ h. absurd (true≢false (sym h ∙ below.own));
      none = λ h. ap (λ (x : Facts). x.selects) knows ∙ all_none constant ks refl (all.none (below.none h));
    }

grouped : (f : AggregateFunction) (by : Grouping) (at : ℕ) (es : List Expr) (ms : List Measure) (fs : List Facts) (g : Facts) → AreLike es ms fs → 1 ≤ greatest (depths ms) → AreBelow g fs
    → IsLike (expressed at (Aggregate f by es)) (all_parts ms) (1 + greatest (depths ms)) g
grouped f by at es ms fs g all some below =
    let e = expressed at (Aggregate f by es) in
    let ks = map known_part es in
    let knows : known_part e ≡ part_facts (Node-F.Aggregate f by ks) = fold-Aggregate part_facts (λ e. e.node) e f by es refl in
    let deep : depth e ≡ 1 + greatest (map depth es) = fold-Aggregate node_depth (λ e. e.node) e f by es refl in
    let itself : greatest (depths ms) ≤ greatest (depths ms) = omega arith in
    record {
      within = λ longest latest w. subst (Within longest latest) (sym (fold-Aggregate node_parts (λ e. e.node) e f by es refl)) (all.within longest latest w);
      some = omega arith;
      shallow = omega (arith, deep, all.shallow (greatest (depths ms)) some itself);
      fixed = λ h. ap (λ (x : Facts). x.fixed) knows ∙ all_fixed constant ks refl (all.fixed (below.fixed h));
      still = λ h. ap (λ (x : Facts). x.still) knows ∙ all_still constant ks refl (all.still (below.still h));
      own = λ h. absurd (true≢false (sym h ∙ below.own));
      none = λ h. ap (λ (x : Facts). x.selects) knows ∙ all_none constant ks refl (all.none (below.none h));
    }

negated : (at : ℕ) (e : Expr) (m : Measure) (ms : List Measure) (f : Facts) (fs : List Facts) (g : Facts) → IsLike e m.parts m.depth f → AreBelow g (f ∷ fs)
    → IsLike (expressed at (Negate e)) (all_parts (m ∷ ms)) (1 + greatest (depths (m ∷ ms))) g
negated at e m ms f fs g one below =
    let n = expressed at (Negate e) in
    let knows : known_part n ≡ both constant (known_part e) = fold-Negate part_facts (λ e. e.node) n e refl in
    let deep : depth n ≡ 1 + depth e = fold-Negate node_depth (λ e. e.node) n e refl in
    record {
      within = λ longest latest w.
          subst (Within longest latest) (sym (fold-Negate node_parts (λ e. e.node) n e refl)) (one.within longest latest (front_of (Fits longest latest) m.parts (all_parts ms) w));
      some = omega arith;
      shallow = omega (arith, deep, one.shallow);
      fixed = λ h. ap (λ (x : Facts). x.fixed) knows ∙ one.fixed (below.fixed h).0;
      still = λ h. ap (λ (x : Facts). x.still) knows ∙ one.still (below.still h).0;
      own = λ h. absurd (true≢false (sym h ∙ below.own));
      none = λ h. ap (λ (x : Facts). x.selects) knows ∙ one.none (below.none h).0;
    }

subqueried : (at : ℕ) (e : Expr) (m : Measure) (f : Facts) (range step : Ms) (moment : Moment) (g : Facts) → IsLike e m.parts m.depth f
    → (g.fixed ≡ true → (known_part (expressed at (Subquery e range step moment))).fixed ≡ true) → (g.still ≡ true → f.still ≡ true) → (g.selects ≡ false → f.selects ≡ false) → g.own ≡ false
    → IsLike (expressed at (Subquery e range step moment)) (Part.of_moment moment ∷ Part.of_length range ∷ Part.of_length step ∷ (m.parts ++ [])) (1 + greatest (m.depth ∷ [])) g
subqueried at e m f range step moment g one fixed still none own =
    let n = expressed at (Subquery e range step moment) in
    let knows : known_part n ≡ part_facts (Node-F.Subquery (known_part e) range step moment) = fold-Subquery part_facts (λ e. e.node) n e range step moment refl in
    let deep : depth n ≡ 1 + depth e = fold-Subquery node_depth (λ e. e.node) n e range step moment refl in
    record {
      within = λ longest latest w.
          subst (Within longest latest) (sym (fold-Subquery node_parts (λ e. e.node) n e range step moment refl))
          (w.0, (w.1.0, (w.1.1.0, one.within longest latest (front_of (Fits longest latest) m.parts [] w.1.1.1))));
      some = omega arith;
      shallow = omega (arith, deep, one.shallow);
      fixed = fixed;
      still = λ h. ap (λ (x : Facts). x.still) knows ∙ one.still (still h);
      own = λ h. absurd (true≢false (sym h ∙ own));
      none = λ h. ap (λ (x : Facts). x.selects) knows ∙ one.none (none h);
    }

-- an operator between two
module _ (a b : Expr) (l r : Measure) (f g : Facts) (one : IsLike a l.parts l.depth f) (other : IsLike b r.parts r.depth g) where
  two_within : (longest latest : ℕ) → Within longest latest (l.parts ++ (r.parts ++ [])) → Within longest latest (parts_of a ++ parts_of b)
  two_within longest latest w =
      both_of (Fits longest latest) (parts_of a) (parts_of b) (one.within longest latest (front_of (Fits longest latest) l.parts (r.parts ++ []) w))
      (other.within longest latest (front_of (Fits longest latest) r.parts [] (back_of (Fits longest latest) l.parts (r.parts ++ []) w)))

  paired : (n : Expr) → parts_of n ≡ parts_of a ++ parts_of b → depth n ≡ 1 + max (depth a) (depth b) → known_part n ≡ both (known_part a) (known_part b)
      → IsLike n (l.parts ++ (r.parts ++ [])) (1 + greatest (l.depth ∷ r.depth ∷ [])) (both f g)
  paired n has deep knows = record {
    within = λ longest latest w. subst (Within longest latest) (sym has) (two_within longest latest w);
    some = omega arith;
    shallow = omega (arith, deep, one.shallow, other.shallow);
    fixed = λ h. ap (λ (x : Facts). x.fixed) knows
        ∙ both_true (known_part a).fixed (known_part b).fixed (one.fixed (left_true f.fixed g.fixed h)) (other.fixed (right_true f.fixed g.fixed h));
    still = λ h. ap (λ (x : Facts). x.still) knows
        ∙ both_true (known_part a).still (known_part b).still (one.still (left_true f.still g.still h)) (other.still (right_true f.still g.still h));
    own = λ h. absurd (false≢true h);
    none = λ h. ap (λ (x : Facts). x.selects) knows
        ∙ neither (known_part a).selects (known_part b).selects (one.none (left_false f.selects g.selects h)) (other.none (right_false f.selects g.selects h));
  }

-- ---- what is known of each plan

vector_no_scalar : Vector ≡ Scalar → ⊥
vector_no_scalar h = cc

windows_no_scalar : Windows ≡ Scalar → ⊥
windows_no_scalar h = cc

-- what gives a scalar is made of scalars
scalar_sides : (a b : Kind) → both_kinds a b ≡ Scalar → (a ≡ Scalar) × (b ≡ Scalar)
scalar_sides Scalar Scalar h = (refl, refl)
scalar_sides Scalar Vector h = absurd (vector_no_scalar h)
scalar_sides Scalar Windows h = absurd (vector_no_scalar h)
scalar_sides Scalar Words h = absurd (vector_no_scalar h)
scalar_sides Vector b h = absurd (vector_no_scalar h)
scalar_sides Windows b h = absurd (vector_no_scalar h)
scalar_sides Words b h = absurd (vector_no_scalar h)

-- an expression has no more than a plan of such a measure and such facts has, and gives a scalar where such a plan does
record IsKnown (e : Expr) (kind : Kind) (parts : List Part) (deep : ℕ) (f : Facts) : Type 0 where
  like : IsLike e parts deep f
  scalar : kind ≡ Scalar → gives_scalar e ≡ true

abbrev HoldsOf : Expr → Bool → Typing → Measure → Checked → Type 0
HoldsOf e whole t m c = whole ≡ true → t.typed ≡ true → IsKnown e t.kind m.parts m.depth c.facts

abbrev facts_of : List Checked → List Facts
facts_of cs = map (λ (c : Checked). c.facts) cs

module _ (kept : Kept) where
  abbrev E : Plan → Expr
  E = expression_of kept

  abbrev IsExpressed : Plan → Type 0
  IsExpressed p = HoldsOf (E p) (is_expressible p) (typing p) (measured p) (checked p)

  abbrev Child : Plan → Type 0
  Child p = IsKnown (E p) (typing p).kind (measured p).parts (measured p).depth (checked p).facts

  abbrev Children : List Plan → Type 0
  Children ps = AreLike (map E ps) (map measured ps) (facts_of (map checked ps))

  child : (p : Plan) → is_expressible p ≡ true → is_sound (typing p) ≡ true → IsExpressed p → Child p
  child p whole sound is = is whole (left_true (typing p).typed (is_unstamped (typing p).select) sound)

  of_kind : (kind : Kind) (p : Plan) → is_expressible p ≡ true → is_of kind (typing p) ≡ true → IsExpressed p → Child p
  of_kind kind p whole fits is = child p whole (left_true (is_sound (typing p)) (is_kind kind (typing p).kind) fits) is

  each : (ps : List Plan) → all_hold (map is_expressible ps) ≡ true → are_sound (map typing ps) ≡ true → AllByRecursion IsExpressed ps → AllByRecursion Child ps
  each [] whole sound all = tt
  each (p ∷ ps) whole sound all = (
    child p (left_true (is_expressible p) (all_hold (map is_expressible ps)) whole) (left_true (is_sound (typing p)) (are_sound (map typing ps)) sound) all.0,
    each ps (right_true (is_expressible p) (all_hold (map is_expressible ps)) whole) (right_true (is_sound (typing p)) (are_sound (map typing ps)) sound) all.1,
  )

  together : (ps : List Plan) → AllByRecursion Child ps → Children ps
  together [] all = no_more
  together (p ∷ ps) all = more (E p) (map E ps) (measured p) (map measured ps) (checked p).facts (facts_of (map checked ps)) all.0.like (together ps all.1)

  some_depth : (p : Plan) (ps : List Plan) → Child p → 1 ≤ greatest (depths (map measured (p ∷ ps)))
  some_depth p ps one = omega (arith, one.like.some)

  -- ---- each kind of node

  abbrev parts_over : List Plan → List Part
  parts_over ps = all_parts (map measured ps)

  abbrev depth_over : List Plan → ℕ
  depth_over ps = 1 + greatest (depths (map measured ps))

  abbrev facts_over : List Plan → List Facts
  facts_over ps = facts_of (map checked ps)

  -- a call of a function of plans, which gives no scalar
  abbrev CallIs : Func → ℕ → List Expr → List Plan → Facts → Type 0
  CallIs f at es ps g = IsKnown (expressed at (Call f es)) Vector (parts_over ps) (depth_over ps) g

  call_is : (f : Func) (at : ℕ) (p : Plan) (ps : List Plan) (g : Facts) → AllByRecursion Child (p ∷ ps) → AreBelow g (facts_over (p ∷ ps))
      → (g.still ≡ true → is_still_call f (map known_part (map E (p ∷ ps))) ≡ true) → CallIs f at (map E (p ∷ ps)) (p ∷ ps) g
  call_is f at p ps g all below asks = record {
    like = called f at (map E (p ∷ ps)) (map measured (p ∷ ps)) (facts_over (p ∷ ps)) g (together (p ∷ ps) all) (some_depth p ps all.0) below asks;
    scalar = λ h. absurd (vector_no_scalar h);
  }

  element_call : (f : ElementFunction) (at : ℕ) (p : Plan) (ps : List Plan) → AllByRecursion Child (p ∷ ps)
      → CallIs (func.Element f) at (map E (p ∷ ps)) (p ∷ ps) (all_of constant (facts_over (p ∷ ps)))
  element_call f at p ps all =
      call_is (func.Element f) at p ps (all_of constant (facts_over (p ∷ ps))) all (below_all (facts_over (p ∷ ps)))
      (λ h. steady_some f (known_part (E p)).still (map (λ (k : Facts). k.still) (map known_part (map E ps))))

  abbrev ElementIs : ElementFunction → ℕ → Plan → List Plan → Type 0
  ElementIs f at p ps = IsKnown (expressed at (element_expression f (E p) (map E ps))) (element_kind f (typing p).kind) (parts_over (p ∷ ps)) (depth_over (p ∷ ps)) (all_of constant (facts_over (p ∷ ps)))

  element_is : (f : ElementFunction) (at : ℕ) (p : Plan) (ps : List Plan) → AllByRecursion Child (p ∷ ps) → ElementIs f at p ps
  element_is element.Abs at p ps all = element_call element.Abs at p ps all
  element_is element.Ceil at p ps all = element_call element.Ceil at p ps all
  element_is element.Floor at p ps all = element_call element.Floor at p ps all
  element_is element.Round at p ps all = element_call element.Round at p ps all
  element_is element.Sgn at p ps all = element_call element.Sgn at p ps all
  element_is element.Clamp at p ps all = element_call element.Clamp at p ps all
  element_is element.ClampMin at p ps all = element_call element.ClampMin at p ps all
  element_is element.ClampMax at p ps all = element_call element.ClampMax at p ps all
  element_is (element.Calendar part) at p ps all = element_call (element.Calendar part) at p ps all
  element_is element.Neg at p ps all = record {
    like = negated at (E p) (measured p) (map measured ps) (checked p).facts (facts_over ps) (all_of constant (facts_over (p ∷ ps))) all.0.like (below_all (facts_over (p ∷ ps)));
    scalar = λ h. fold-Negate node_gives_scalar (λ e. e.node) (expressed at (Negate (E p))) (E p) refl ∙ all.0.scalar (scalar_sides (typing p).kind (typing p).kind h).0;
  }

  abbrev WindowIs : WindowFunction → ℕ → Plan → List Plan → Type 0
  WindowIs f at p ps =
      IsKnown (expressed at (window_expression f (E p) (map E ps))) Vector (parts_over (p ∷ ps)) (depth_over (p ∷ ps)) (still_if (steady_window f) (all_of constant (facts_over (p ∷ ps))))

  window_call : (f : WindowFunction) (at : ℕ) (p : Plan) (ps : List Plan) → AllByRecursion Child (p ∷ ps)
      → CallIs (func.Window f) at (map E (p ∷ ps)) (p ∷ ps) (still_if (steady_window f) (all_of constant (facts_over (p ∷ ps))))
  window_call f at p ps all =
      call_is (func.Window f) at p ps (still_if (steady_window f) (all_of constant (facts_over (p ∷ ps)))) all
      (below_if (steady_window f) (all_of constant (facts_over (p ∷ ps))) (facts_over (p ∷ ps)) (below_all (facts_over (p ∷ ps))))
      (λ h. left_true (steady_window f) (all_of constant (facts_over (p ∷ ps))).still h)

  -- the scalar of quantile_over_time stands before the windows
  swapped : (p q : Plan) → Child p → Child q → AreLike (E q ∷ E p ∷ []) (map measured (p ∷ q ∷ [])) (facts_over (p ∷ q ∷ []))
  swapped p q one other =
      let l = measured p in
      let r = measured q in
      let all = together (q ∷ p ∷ []) (other, (one, tt)) in
      record {
        within = λ longest latest w.
            all.within longest latest
            (both_of (Fits longest latest) r.parts (l.parts ++ []) (front_of (Fits longest latest) r.parts [] (back_of (Fits longest latest) l.parts (r.parts ++ []) w))
            (both_of (Fits longest latest) l.parts [] (front_of (Fits longest latest) l.parts (r.parts ++ []) w) tt));
        shallow = λ n some h. let turned : greatest (r.depth ∷ l.depth ∷ []) ≤ n = omega (arith, h) in all.shallow n some turned;
        fixed = λ h. all.fixed (h.1.0, (h.0, tt));
        still = λ h. all.still (h.1.0, (h.0, tt));
        none = λ h. all.none (h.1.0, (h.0, tt));
      }

  quantile_is : (at : ℕ) (p : Plan) (ps : List Plan) → is_window window.QuantileOver (typing p).kind (kinds_of (map typing ps)) ≡ true → AllByRecursion Child (p ∷ ps)
      → WindowIs window.QuantileOver at p ps
  quantile_is at p [] fits all = absurd (false≢true fits)
  quantile_is at p (q ∷ []) fits all =
      let fs = facts_over (p ∷ q ∷ []) in
      record {
        like = called (func.Window window.QuantileOver) at (E q ∷ E p ∷ []) (map measured (p ∷ q ∷ [])) fs (all_of constant fs) (swapped p q all.0 all.1.0) (some_depth p (q ∷ []) all.0) (below_all fs)
            (λ h. refl);
        scalar = λ h. absurd (vector_no_scalar h);
      }
  quantile_is at p (q ∷ r ∷ rs) fits all = absurd (too_many_before (typing q).kind (typing r).kind (typing p).kind (kinds_of (map typing rs)) (left_true _ _ fits))

  window_is : (f : WindowFunction) (at : ℕ) (p : Plan) (ps : List Plan) → is_window f (typing p).kind (kinds_of (map typing ps)) ≡ true → AllByRecursion Child (p ∷ ps) → WindowIs f at p ps
  window_is window.Rate at p ps fits all = window_call window.Rate at p ps all
  window_is window.Increase at p ps fits all = window_call window.Increase at p ps all
  window_is window.Delta at p ps fits all = window_call window.Delta at p ps all
  window_is window.Irate at p ps fits all = window_call window.Irate at p ps all
  window_is window.Idelta at p ps fits all = window_call window.Idelta at p ps all
  window_is window.Deriv at p ps fits all = window_call window.Deriv at p ps all
  window_is window.PredictLinear at p ps fits all = window_call window.PredictLinear at p ps all
  window_is window.Changes at p ps fits all = window_call window.Changes at p ps all
  window_is window.Resets at p ps fits all = window_call window.Resets at p ps all
  window_is window.AvgOver at p ps fits all = window_call window.AvgOver at p ps all
  window_is window.MinOver at p ps fits all = window_call window.MinOver at p ps all
  window_is window.MaxOver at p ps fits all = window_call window.MaxOver at p ps all
  window_is window.SumOver at p ps fits all = window_call window.SumOver at p ps all
  window_is window.CountOver at p ps fits all = window_call window.CountOver at p ps all
  window_is window.StdvarOver at p ps fits all = window_call window.StdvarOver at p ps all
  window_is window.LastOver at p ps fits all = window_call window.LastOver at p ps all
  window_is window.PresentOver at p ps fits all = window_call window.PresentOver at p ps all
  window_is window.QuantileOver at p ps fits all = quantile_is at p ps fits all

  sort_is : (down : Bool) (at : ℕ) (p : Plan) → Child p → CallIs (sort_function down) at (E p ∷ []) (p ∷ []) (all_of constant (facts_over (p ∷ [])))
  sort_is true at p one = call_is func.SortDesc at p [] (all_of constant (facts_over (p ∷ []))) (one, tt) (below_all (facts_over (p ∷ []))) (λ h. refl)
  sort_is false at p one = call_is func.Sort at p [] (all_of constant (facts_over (p ∷ []))) (one, tt) (below_all (facts_over (p ∷ []))) (λ h. refl)

  abbrev RelabelIs : Relabelling → ℕ → Plan → Type 0
  RelabelIs rule at p = IsKnown (expressed at (relabel_expression kept rule at (E p))) Vector (parts_over (p ∷ [])) (depth_over (p ∷ [])) (all_of constant (facts_over (p ∷ [])))

  relabel_is : (rule : Relabelling) (at : ℕ) (p : Plan) → is_relabel rule ≡ true → Child p → RelabelIs rule at p
  relabel_is (relabel.Replace target template source pattern) at p fits one =
      let text = pattern_text kept pattern in
      let four = worded at target ∷ worded at template ∷ worded at source ∷ worded at text ∷ [] in
      let fs = facts_over (p ∷ []) in
      let words = string at target _ [] [] (string at template _ [] [] (string at source _ [] [] (string at text [] [] [] no_more))) in
      record {
        like = called func.LabelReplace at (E p ∷ four) (measured p ∷ []) fs (all_of constant fs) (more (E p) four (measured p) [] (checked p).facts [] one.like words) (some_depth p [] one) (below_all fs) (λ h. refl);
        scalar = λ h. absurd (vector_no_scalar h);
      }
  relabel_is (relabel.Join target separator sources) at p fits one =
      let rest = worded at target ∷ worded at separator ∷ map (worded at) sources in
      let fs = facts_over (p ∷ []) in
      let words = string at target _ [] [] (string at separator _ [] [] (strings at sources)) in
      record {
        like = called func.LabelJoin at (E p ∷ rest) (measured p ∷ []) fs (all_of constant fs) (more (E p) rest (measured p) [] (checked p).facts [] one.like words) (some_depth p [] one) (below_all fs) (λ h. refl);
        scalar = λ h. absurd (vector_no_scalar h);
      }
  relabel_is (relabel.Filter rules) at p fits one = absurd (false≢true fits)

  abbrev GroupIs : AggregateFunction → Grouping → ℕ → List Plan → List ℕ → Type 0
  GroupIs f by at ps label = IsKnown (expressed at (Aggregate f by (group_arguments f at (map E ps) label))) Vector (parts_over ps) (depth_over ps) (all_of constant (facts_over ps))

  plain_group : (f : AggregateFunction) (by : Grouping) (at : ℕ) (ps : List Plan) → AllByRecursion Child ps
      → IsKnown (expressed at (Aggregate f by (map E ps))) Vector (parts_over ps) (depth_over ps) (all_of constant (facts_over ps))
  plain_group f by at [] all =
      let e = expressed at (Aggregate f by []) in
      record {
        like = leaf e [] constant constant (fold-Aggregate node_parts (λ e. e.node) e f by [] refl) (fold-Aggregate node_depth (λ e. e.node) e f by [] refl) (fold-Aggregate part_facts (λ e. e.node) e f by [] refl)
            (λ h. h) (λ h. h) (λ h. h) (λ h. h);
        scalar = λ h. absurd (vector_no_scalar h);
      }
  plain_group f by at (p ∷ ps) all = record {
    like = grouped f by at (map E (p ∷ ps)) (map measured (p ∷ ps)) (facts_over (p ∷ ps)) (all_of constant (facts_over (p ∷ ps))) (together (p ∷ ps) all) (some_depth p ps all.0) (below_all (facts_over (p ∷ ps)));
    scalar = λ h. absurd (vector_no_scalar h);
  }

  counted_group : (by : Grouping) (at : ℕ) (ps : List Plan) (label : List ℕ) → is_group aggregate.CountValues (kinds_of (map typing ps)) label ≡ true → AllByRecursion Child ps
      → GroupIs aggregate.CountValues by at ps label
  counted_group by at [] label fits all = absurd (false≢true (right_true (is_filled label) _ fits))
  counted_group by at (p ∷ ps) label fits all = record {
    like = grouped aggregate.CountValues by at (worded at label ∷ map E (p ∷ ps)) (map measured (p ∷ ps)) (facts_over (p ∷ ps)) (all_of constant (facts_over (p ∷ ps)))
        (string at label (map E (p ∷ ps)) (map measured (p ∷ ps)) (facts_over (p ∷ ps)) (together (p ∷ ps) all)) (some_depth p ps all.0) (below_all (facts_over (p ∷ ps)));
    scalar = λ h. absurd (vector_no_scalar h);
  }

  group_is : (f : AggregateFunction) (by : Grouping) (at : ℕ) (ps : List Plan) (label : List ℕ) → is_group f (kinds_of (map typing ps)) label ≡ true → AllByRecursion Child ps → GroupIs f by at ps label
  group_is aggregate.Sum by at ps label fits all = plain_group aggregate.Sum by at ps all
  group_is aggregate.Avg by at ps label fits all = plain_group aggregate.Avg by at ps all
  group_is aggregate.Min by at ps label fits all = plain_group aggregate.Min by at ps all
  group_is aggregate.Max by at ps label fits all = plain_group aggregate.Max by at ps all
  group_is aggregate.Count by at ps label fits all = plain_group aggregate.Count by at ps all
  group_is aggregate.Group by at ps label fits all = plain_group aggregate.Group by at ps all
  group_is aggregate.Stdvar by at ps label fits all = plain_group aggregate.Stdvar by at ps all
  group_is aggregate.TopK by at ps label fits all = plain_group aggregate.TopK by at ps all
  group_is aggregate.BottomK by at ps label fits all = plain_group aggregate.BottomK by at ps all
  group_is aggregate.Quantile by at ps label fits all = plain_group aggregate.Quantile by at ps all
  group_is aggregate.CountValues by at ps label fits all = counted_group by at ps label fits all

  pair_is : (op : PairOp) (pairing : Pairing) (at : ℕ) (p q : Plan) → Child p → Child q
      → IsKnown (expressed at (Pair op (E p) (E q) pairing)) (both_kinds (typing p).kind (typing q).kind) (parts_over (p ∷ q ∷ [])) (depth_over (p ∷ q ∷ [])) (both (checked p).facts (checked q).facts)
  pair_is op pairing at p q one other =
      let n = expressed at (Pair op (E p) (E q) pairing) in
      record {
        like = paired (E p) (E q) (measured p) (measured q) (checked p).facts (checked q).facts one.like other.like n
            (fold-Pair node_parts (λ e. e.node) n op (E p) (E q) pairing refl) (fold-Pair node_depth (λ e. e.node) n op (E p) (E q) pairing refl)
            (fold-Pair part_facts (λ e. e.node) n op (E p) (E q) pairing refl);
        scalar = λ h.
            let sides = scalar_sides (typing p).kind (typing q).kind h in
            fold-Pair node_gives_scalar (λ e. e.node) n op (E p) (E q) pairing refl
            ∙ both_true (gives_scalar (E p)) (gives_scalar (E q)) (one.scalar sides.0) (other.scalar sides.1);
      }

  set_is : (op : SetOp) (pairing : Pairing) (at : ℕ) (p q : Plan) → Child p → Child q
      → IsKnown (expressed at (Set op (E p) (E q) pairing)) Vector (parts_over (p ∷ q ∷ [])) (depth_over (p ∷ q ∷ [])) (both (checked p).facts (checked q).facts)
  set_is op pairing at p q one other =
      let n = expressed at (Set op (E p) (E q) pairing) in
      record {
        like = paired (E p) (E q) (measured p) (measured q) (checked p).facts (checked q).facts one.like other.like n
            (fold-Set node_parts (λ e. e.node) n op (E p) (E q) pairing refl) (fold-Set node_depth (λ e. e.node) n op (E p) (E q) pairing refl)
            (fold-Set part_facts (λ e. e.node) n op (E p) (E q) pairing refl);
        scalar = λ h. absurd (vector_no_scalar h);
      }

  -- ---- one level

  abbrev Layer : Type 0
  Layer = PlanNode-F PlanNode Plan

  abbrev expression_level : Layer → ℕ → Expr
  expression_level y at = expression_step kept (folded (expression_step kept) (λ p. p.node p.at) y) at

  abbrev expressible_level : Layer → Bool
  expressible_level y = node_expressible (folded node_expressible (λ p. p.node) y)

  abbrev typing_level : Layer → Typing
  typing_level y = node_typing (folded node_typing (λ p. p.node) y)

  abbrev measure_level : Layer → ℕ → Measure
  measure_level y at = node_measure (folded node_measure (λ p. p.node p.at) y) at

  abbrev checked_level : Layer → Checked
  checked_level y = node_checked (folded node_checked (λ p. p.node) y)

  one_whole : (p : Plan) (bs : List Bool) → all_hold (is_expressible p ∷ bs) ≡ true → is_expressible p ≡ true
  one_whole p bs whole = left_true (is_expressible p) (all_hold bs) whole

  -- the first of two and the other
  pair_of : (p q : Plan) → all_hold (is_expressible p ∷ is_expressible q ∷ []) ≡ true → is_sound (typing p) ≡ true → is_sound (typing q) ≡ true → AllByRecursion IsExpressed (p ∷ q ∷ []) → AllByRecursion Child (p ∷ q ∷ [])
  pair_of p q whole sound other held =
      (child p (one_whole p (is_expressible q ∷ []) whole) sound held.0, (child q (one_whole q [] (right_true (is_expressible p) (all_hold (is_expressible q ∷ [])) whole)) other held.1.0, tt))

  sound_of : (kind : Kind) (p : Plan) → is_of kind (typing p) ≡ true → is_sound (typing p) ≡ true
  sound_of kind p fits = left_true (is_sound (typing p)) (is_kind kind (typing p).kind) fits

  level : (at : ℕ) (y : Layer) → AllByRecursion IsExpressed (children y) → HoldsOf (expression_level y at) (expressible_level y) (typing_level y) (measure_level y at) (checked_level y)
  level at (PlanNode-F.Number value) held whole typed =
      let e = expressed at (Number value) in
      record {
        like = leaf e [] constant constant (fold-Number node_parts (λ e. e.node) e value refl) (fold-Number node_depth (λ e. e.node) e value refl) (fold-Number part_facts (λ e. e.node) e value refl)
            (λ h. h) (λ h. h) (λ h. h) (λ h. h);
        scalar = λ h. fold-Number node_gives_scalar (λ e. e.node) e value refl;
      }
  level at PlanNode-F.Time held whole typed =
      let e = expressed at (Call func.Time []) in
      record {
        like = leaf e [] (record constant { still = false }) (part_facts (Node-F.Call func.Time [])) (fold-Call node_parts (λ e. e.node) e func.Time [] refl) (fold-Call node_depth (λ e. e.node) e func.Time [] refl)
            (fold-Call part_facts (λ e. e.node) e func.Time [] refl) (λ h. h) (λ h. h) (λ h. h) (λ h. h);
        scalar = λ h. fold-Call node_gives_scalar (λ e. e.node) e func.Time [] refl;
      }
  level at (PlanNode-F.Select rules moment stamped) held whole typed =
      let s = selector_of rules moment in
      let e = expressed at (Select s) in
      record {
        like = leaf e (Part.of_rules rules ∷ Part.of_moment moment ∷ []) (record (selected moment) { own = stamped }) (part_facts (Node-F.Select s))
            (fold-Select node_parts (λ e. e.node) e s refl) (fold-Select node_depth (λ e. e.node) e s refl) (fold-Select part_facts (λ e. e.node) e s refl)
            (λ h. h) (λ h. h) (λ h. refl) (λ h. h);
        scalar = λ h. absurd (vector_no_scalar h);
      }
  level at (PlanNode-F.Range rules moment range) held whole typed =
      let s = selector_of rules moment in
      let e = expressed at (Range s range) in
      record {
        like = leaf e (Part.of_rules rules ∷ Part.of_moment moment ∷ Part.of_length range ∷ []) (record (selected moment) { table = false }) (part_facts (Node-F.Range s range))
            (fold-Range node_parts (λ e. e.node) e s range refl) (fold-Range node_depth (λ e. e.node) e s range refl) (fold-Range part_facts (λ e. e.node) e s range refl)
            (λ h. h) (λ h. h) (λ h. h) (λ h. h);
        scalar = λ h. absurd (windows_no_scalar h);
      }
  level at (PlanNode-F.Subquery p range step moment) held whole typed =
      let one = of_kind Vector p (one_whole p [] whole) typed held.0 in
      let e = expressed at (Subquery (E p) range step moment) in
      record {
        like = subqueried at (E p) (measured p) (checked p).facts range step moment (checked_level (PlanNode-F.Subquery p range step moment)).facts one.like
            (λ h. ap (λ (x : Facts). x.fixed) (fold-Subquery part_facts (λ e. e.node) e (E p) range step moment refl) ∙ h) (λ h. h) (λ h. h) refl;
        scalar = λ h. absurd (windows_no_scalar h);
      }
  level at (PlanNode-F.Element f p ps) held whole typed =
      let sound = left_true (is_sound (typing p) && are_sound (map typing ps)) (is_element f (typing p).kind (kinds_of (map typing ps))) typed in
      element_is f at p ps (each (p ∷ ps) whole sound held)
  level at (PlanNode-F.Stamp p) held whole typed =
      let t = typing p in
      let f = (checked p).facts in
      let one = held.0 (one_whole p [] whole) (left_true t.typed (is_stamped t.select) (left_true (t.typed && is_stamped t.select) (is_kind Vector t.kind) typed)) in
      call_is func.Timestamp at p [] (still_if f.own (all_of constant (f ∷ []))) (one, tt) (below_if f.own (all_of constant (f ∷ [])) (f ∷ []) (below_all (f ∷ [])))
      (λ h. one.like.own (left_true f.own (all_of constant (f ∷ [])).still h))
  level at (PlanNode-F.Window f p ps) held whole typed =
      let sound = left_true (is_sound (typing p) && are_sound (map typing ps)) (is_window f (typing p).kind (kinds_of (map typing ps))) typed in
      window_is f at p ps (right_true (is_sound (typing p) && are_sound (map typing ps)) (is_window f (typing p).kind (kinds_of (map typing ps))) typed) (each (p ∷ ps) whole sound held)
  level at (PlanNode-F.Absent labels p) held whole typed = absurd (false≢true whole)
  level at (PlanNode-F.Buckets q p) held whole typed =
      let all = pair_of q p whole (sound_of Scalar q (left_true (is_of Scalar (typing q)) (is_of Vector (typing p)) typed)) (sound_of Vector p (right_true (is_of Scalar (typing q)) (is_of Vector (typing p)) typed)) held in
      call_is func.HistogramQuantile at q (p ∷ []) (both (checked q).facts (checked p).facts) all (below_two (checked q).facts (checked p).facts) (λ h. refl)
  level at (PlanNode-F.Relabel rule p) held whole typed =
      relabel_is rule at p (left_true (is_relabel rule) (is_of Vector (typing p)) typed) (of_kind Vector p (one_whole p [] whole) (right_true (is_relabel rule) (is_of Vector (typing p)) typed) held.0)
  level at (PlanNode-F.Sort down p) held whole typed = sort_is down at p (of_kind Vector p (one_whole p [] whole) typed held.0)
  level at (PlanNode-F.ScalarOf p) held whole typed =
      let c = call_is func.Scalar at p [] (all_of constant (facts_over (p ∷ []))) (of_kind Vector p (one_whole p [] whole) typed held.0, tt) (below_all (facts_over (p ∷ []))) (λ h. refl) in
      record { like = c.like; scalar = λ h. fold-Call node_gives_scalar (λ e. e.node) (expressed at (Call func.Scalar (E p ∷ []))) func.Scalar (E p ∷ []) refl }
  level at (PlanNode-F.VectorOf p) held whole typed =
      call_is func.Vector at p [] (all_of constant (facts_over (p ∷ []))) (of_kind Scalar p (one_whole p [] whole) typed held.0, tt) (below_all (facts_over (p ∷ []))) (λ h. refl)
  level at (PlanNode-F.Group f by ps label) held whole typed =
      group_is f by at ps label (right_true (are_sound (map typing ps)) (is_group f (kinds_of (map typing ps)) label) typed)
      (each ps whole (left_true (are_sound (map typing ps)) (is_group f (kinds_of (map typing ps)) label) typed) held)
  level at (PlanNode-F.Pair op p q pairing) held whole typed =
      let sound = left_true (is_sound (typing p) && is_sound (typing q)) (is_pair op pairing (typing p).kind (typing q).kind) typed in
      let all = pair_of p q whole (left_true (is_sound (typing p)) (is_sound (typing q)) sound) (right_true (is_sound (typing p)) (is_sound (typing q)) sound) held in
      pair_is op pairing at p q all.0 all.1.0
  level at (PlanNode-F.Set op p q pairing) held whole typed =
      let all = pair_of p q whole (sound_of Vector p (left_true (is_of Vector (typing p)) (is_of Vector (typing q)) typed)) (sound_of Vector q (right_true (is_of Vector (typing p)) (is_of Vector (typing q)) typed)) held in
      set_is op pairing at p q all.0 all.1.0
  level at (PlanNode-F.Filter p rules) held whole typed = absurd (false≢true whole)
  level at (PlanNode-F.Ratio p q) held whole typed = absurd (false≢true whole)
  level at (PlanNode-F.Once p) held whole typed = absurd (false≢true whole)
  level at (PlanNode-F.Gather expr kind engines) held whole typed = absurd (false≢true whole)

  -- ---- every plan

  node_expressed : (at : ℕ) (y : Layer) → AllByRecursion IsExpressed (children y) → IsExpressed (planned at (roll-PlanNode y))
  node_expressed at y held =
      let p = planned at (roll-PlanNode y) in
      subst (λ (e : Expr). HoldsOf e (is_expressible p) (typing p) (measured p) (checked p)) (sym (rolled (expression_step kept) (λ p. p.node p.at) at y))
      (subst (λ (b : Bool). HoldsOf (expression_level y at) b (typing p) (measured p) (checked p)) (sym (rolled node_expressible (λ p. p.node) at y))
      (subst (λ (t : Typing). HoldsOf (expression_level y at) (expressible_level y) t (measured p) (checked p)) (sym (rolled node_typing (λ p. p.node) at y))
      (subst (λ (m : Measure). HoldsOf (expression_level y at) (expressible_level y) (typing_level y) m (checked p)) (sym (rolled node_measure (λ p. p.node p.at) at y))
      (subst (λ (c : Checked). HoldsOf (expression_level y at) (expressible_level y) (typing_level y) (measure_level y at) c) (sym (rolled node_checked (λ p. p.node) at y))
      (level at y held)))))

  known : (p : Plan) → HasExpression p → Child p
  known p has = every IsExpressed node_expressed p has.expressible (left_true (typing p).typed (is_unstamped (typing p).select) has.typed)

-- ---- the laws

pub within_plan : ExpressionsAreWithin
within_plan kept p has = let k = known kept p has in record { within = k.like.within; shallow = k.like.shallow }

pub as_steady : ExpressionsAreAsSteady
as_steady kept p has = let k = known kept p has in record { fixed = k.like.fixed; still = k.like.still }

pub no_selectors : ExpressionsHaveNoSelector
no_selectors kept p has none = (known kept p has).like.none none

pub scalars : ScalarsGiveScalars
scalars kept p has scalar = (known kept p has).scalar scalar
