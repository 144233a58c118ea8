-- The expression of a typed plan is refused by nothing, and its patterns are those of the plan.
use Rattle.std.proofs.Common.{◌≡◌, ◌∙◌, ℕ, suc, ◌+◌, ◌*◌, ◌≤◌, List, [], ◌∷◌, ◌++◌, map, length, ap, ap₂, sym, refl, subst, Some, None, Bool, true, false, arith}
use Rattle.std.proofs.lemmas.Bool.{false≢true}
use Rattle.std.specs.Prelude.{◌&&◌, not, nat_le, nat_lt, if◌then◌else◌, Option}
use Rattle.std.specs.List.{AllByRecursion}
use Rattle.func_table.specs.declared.table.Element.{Element as ElementFunction}
use Rattle.func_table.specs.declared.table.Element.TheVariants as element
use Rattle.func_table.specs.declared.table.Window.{Window as WindowFunction}
use Rattle.func_table.specs.declared.table.Window.TheVariants as window
use Rattle.func_table.specs.declared.table.Func.{Func}
use Rattle.func_table.specs.declared.table.Func.TheVariants as func
use Rattle.func_table.specs.declared.table.Aggregate.{Aggregate as AggregateFunction}
use Rattle.func_table.specs.declared.table.Aggregate.TheVariants as aggregate
use Rattle.func_table.specs.declared.table.SetOp.{SetOp}
use Rattle.label_set.specs.declared.rules.Grouping.{Grouping}
use Rattle.label_set.specs.declared.rules.Pairing.{Pairing}
use Rattle.label_set.specs.declared.rules.PatternId.{PatternId}
use Rattle.label_set.specs.declared.rules.Relabel.{Relabel as Relabelling}
use Rattle.label_set.specs.declared.rules.Relabel.TheVariants as relabel
use Rattle.promql_ast.specs.Folds.{fold-Number, fold-Words, fold-Negate, fold-Select, fold-Range, fold-Subquery, fold-Call, fold-Aggregate, fold-Pair, fold-Set}
use Rattle.promql_ast.specs.declared.refusal.QueryRefusal.{QueryRefusal}
use Rattle.promql_ast.specs.declared.refusal.QueryRefusal.TheVariants.{BadTemplate, TooManyPoints, WrongArity}
use Rattle.promql_ast.specs.declared.tree.Expr.{Expr}
use Rattle.promql_ast.specs.declared.tree.Node.TheVariants.{Number, Negate, Select, Range, Subquery, Call, Aggregate, Pair, Set}
use Rattle.promql_ast.specs.declared.tree.Node.TheOpen.{Node-F}
use Rattle.promql_meaning.specs.Steadiness.{all_hold}
use Rattle.promql_type.specs.Judging.{Judgement, all_replacements, arguments_refusals, call_refusals, expr_step, judged, node_step, pattern_of, strings_refusals}
use Rattle.promql_type.specs.Kinds.{both, is_kind, is_number, is_scalar}
use Rattle.promql_type.specs.Points.{all_crowded, crowded, crowded_expr, crowded_step, most_points, points}
use Rattle.promql_type.specs.Replacements.{Kept as Patterns}
use Rattle.promql_type.specs.Rules.{argument_refusals, comparison_refusals, count_refusals, label_refusals, matching_refusals, operand_refusals, pair_refusals, set_refusals, template_refusals, unless_true, where_true}
use Rattle.promql_type.specs.Signatures.{Signature, argument, is_count, signature}
use Rattle.promql_type.specs.Templates.{is_named}
use Rattle.promql_type.specs.declared.kind.Kind.{Kind}
use Rattle.promql_type.specs.declared.kind.Kind.TheVariants.{Scalar, Vector, Windows, Words as Strings}
use Rattle.promql_type.specs.declared.kind.Operand.{Operand}
use Rattle.promql_type.specs.declared.replace.Replacement.{Replacement}
use Rattle.promql_type.specs.declared.signature.Callee.{Callee}
use Rattle.promql_type.specs.declared.signature.Callee.TheVariants.{Function, Aggregation}
use Rattle.ticks.specs.declared.moment.Ms.{Ms}
use Rattle.xfrac.specs.declared.value.PairOp.{PairOp}
use Rattle.xfrac.specs.declared.value.PairOp.TheVariants as pair
use Rattle.logical_plan.specs.declared.nodes.Plan.{Plan}
use Rattle.logical_plan.specs.declared.nodes.PlanNode.{PlanNode}
use Rattle.logical_plan.specs.declared.nodes.PlanNode.TheOpen.{PlanNode-F}
use Rattle.logical_plan.specs.declared.nodes.PlanNode.TheViews.{roll-Plan, roll-PlanNode}
use Rattle.logical_plan.specs.declared.nodes.PlanNode.TheFolds.{map-PlanNode, fold-PlanNode, fold-roll-Plan, fold-roll-PlanNode, ind-Plan}
use Rattle.logical_plan.specs.PartExprs.{element_expression, expressed, expression_of, expression_step, group_arguments, is_expressible, node_expressible, relabel_expression, sort_function, window_expression, worded}
use Rattle.logical_plan.specs.PlanRules.{pattern_text, selector_of}
use Rattle.logical_plan.specs.PlanTypes.{Typing, are_arguments, are_sound, element_kind, has_none, is_argument, is_element, is_filled, is_group, is_of, is_pair, is_relabel, is_sound, is_stamped, is_window, kinds_of, node_typing, operand_of, takes, typing}
use Rattle.logical_plan.specs.Validity.{Measure, all_replaced, are_few, measured, node_measure, own_replaced}
use Rattle.holders.specs.Joins.{back_of as behind, both_of as joined, front_of as front}
use Rattle.expressed_laws.proofs.Ands.{both_true, left_true, right_true}
use Rattle.expressed_laws.proofs.Means.{too_many_before}

-- ---- no refusals

pub none_of : {A : Type 0} (xs ys : List A) → xs ≡ [] → ys ≡ [] → xs ++ ys ≡ []
none_of xs ys h i = ap₂ (λ a b. a ++ b) h i

unless : (b : Bool) (x : QueryRefusal) → b ≡ true → unless_true b x ≡ []
unless b x is = ap (λ c. unless_true c x) is

where_not : (b : Bool) (x : QueryRefusal) → not b ≡ true → where_true b x ≡ []
where_not true x is = absurd (false≢true is)
where_not false x is = refl

fits : (wanted : Option Kind) (o : Operand) → is_argument wanted o.gives ≡ true → argument_refusals wanted o ≡ []
fits None o is = absurd (false≢true is)
fits (Some wanted) o is = unless (is_kind wanted o.gives) _ is

abbrev kinds_given : List Judgement → List Kind
kinds_given js = map (λ (j : Judgement). j.operand.gives) js

abbrev AreUnrefused : List Judgement → Type 0
AreUnrefused js = AllByRecursion (λ (j : Judgement). j.refusals ≡ []) js

arguments_none : (row : Signature) (n : ℕ) (js : List Judgement) → AreUnrefused js → are_arguments row n (kinds_given js) ≡ true → arguments_refusals row n js ≡ []
arguments_none row n [] none is = refl
arguments_none row n (j ∷ js) none is =
    none_of (j.refusals ++ argument_refusals (argument row n) j.operand) (arguments_refusals row (n + 1) js)
    (none_of j.refusals (argument_refusals (argument row n) j.operand) none.0 (fits (argument row n) j.operand (left_true (is_argument (argument row n) j.operand.gives) (are_arguments row (n + 1) (kinds_given js)) is)))
    (arguments_none row (n + 1) js none.1 (right_true (is_argument (argument row n) j.operand.gives) (are_arguments row (n + 1) (kinds_given js)) is))

as_many : (js : List Judgement) → length (kinds_given js) ≡ length js
as_many [] = refl
as_many (j ∷ js) = ap suc (as_many js)

call_none : (callee : Callee) (js : List Judgement) (at : ℕ) → AreUnrefused js → takes callee (kinds_given js) ≡ true → strings_refusals callee js ≡ [] → call_refusals callee js at ≡ []
call_none callee js at none is strings =
    let row = signature callee in
    let counted = left_true (is_count row (length (kinds_given js))) (are_arguments row 0 (kinds_given js)) is in
    none_of (count_refusals row (length js) at) (arguments_refusals row 0 js ++ strings_refusals callee js)
    (unless (is_count row (length js)) (WrongArity at) (ap (is_count row) (sym (as_many js)) ∙ counted))
    (none_of (arguments_refusals row 0 js) (strings_refusals callee js)
    (arguments_none row 0 js none (right_true (is_count row (length (kinds_given js))) (are_arguments row 0 (kinds_given js)) is)) strings)

label_none : (at : ℕ) (label : List ℕ) → is_filled label ≡ true → label_refusals (Some (at, label)) ≡ []
label_none at [] is = absurd (false≢true is)
label_none at (byte ∷ label) is = refl

kind_is : (wanted k : Kind) → is_kind wanted k ≡ true → k ≡ wanted
kind_is Scalar Scalar is = refl
kind_is Scalar Vector is = absurd (false≢true is)
kind_is Scalar Windows is = absurd (false≢true is)
kind_is Scalar Strings is = absurd (false≢true is)
kind_is Vector Scalar is = absurd (false≢true is)
kind_is Vector Vector is = refl
kind_is Vector Windows is = absurd (false≢true is)
kind_is Vector Strings is = absurd (false≢true is)
kind_is Windows Scalar is = absurd (false≢true is)
kind_is Windows Vector is = absurd (false≢true is)
kind_is Windows Windows is = refl
kind_is Windows Strings is = absurd (false≢true is)
kind_is Strings Scalar is = absurd (false≢true is)
kind_is Strings Vector is = absurd (false≢true is)
kind_is Strings Windows is = absurd (false≢true is)
kind_is Strings Strings is = refl

-- ---- operators, whose refusals don't depend on places

none_by_bools : (a b : Bool) (x y u v : QueryRefusal) → has_none (if a then u ∷ [] else where_true b v) ≡ true → (if a then x ∷ [] else where_true b y) ≡ []
none_by_bools true b x y u v is = absurd (false≢true is)
none_by_bools false true x y u v is = absurd (false≢true is)
none_by_bools false false x y u v is = refl

none_by_bool : (a : Bool) (x u : QueryRefusal) → has_none (where_true a u) ≡ true → where_true a x ≡ []
none_by_bool true x u is = absurd (false≢true is)
none_by_bool false x u is = refl

none_by_names : (p : Pairing) (names : List (List ℕ)) (l r : Operand) → has_none (matching_refusals (record p { names = names }) (operand_of l.gives) (operand_of r.gives)) ≡ true
    → matching_refusals (record p { names = names }) l r ≡ []
none_by_names p [] l r is = refl
none_by_names p (name ∷ names) l r is = none_by_bools (is_scalar l.gives) (is_scalar r.gives) _ _ _ _ is

none_compared : (op : PairOp) (l r : Operand) (at : ℕ) → has_none (comparison_refusals op (operand_of l.gives) (operand_of r.gives) 0) ≡ true → comparison_refusals op l r at ≡ []
none_compared (pair.Arith op) l r at is = refl
none_compared (pair.Filter op) l r at is = none_by_bool (is_scalar l.gives && is_scalar r.gives) _ _ is
none_compared (pair.Flag op) l r at is = refl

pair_none : (op : PairOp) (p : Pairing) (l r : Operand) (at : ℕ) → is_pair op p l.gives r.gives ≡ true → pair_refusals op p l r at ≡ []
pair_none op p l r at is =
    let matching = has_none (matching_refusals p (operand_of l.gives) (operand_of r.gives)) in
    let compared = has_none (comparison_refusals op (operand_of l.gives) (operand_of r.gives) 0) in
    let three = left_true (is_number l.gives && is_number r.gives && matching) compared is in
    let two = left_true (is_number l.gives && is_number r.gives) matching three in
    none_of (operand_refusals l ++ operand_refusals r) (matching_refusals p l r ++ comparison_refusals op l r at)
    (none_of (operand_refusals l) (operand_refusals r) (unless (is_number l.gives) _ (left_true (is_number l.gives) (is_number r.gives) two))
    (unless (is_number r.gives) _ (right_true (is_number l.gives) (is_number r.gives) two)))
    (none_of (matching_refusals p l r) (comparison_refusals op l r at)
    (none_by_names p p.names l r (right_true (is_number l.gives && is_number r.gives) matching three))
    (none_compared op l r at (right_true (is_number l.gives && is_number r.gives && matching) compared is)))

set_names : (p : Pairing) (names : List (List ℕ)) (a b at : ℕ)
    → set_refusals (record p { names = names }) (record { at = a; gives = Vector }) (record { at = b; gives = Vector }) at ≡ []
set_names p [] a b at = refl
set_names p (name ∷ names) a b at = refl

set_none : (p : Pairing) (l r : Operand) (at : ℕ) → l.gives ≡ Vector → r.gives ≡ Vector → set_refusals p l r at ≡ []
set_none p l r at hl hr =
    ap₂ (λ a b. set_refusals p (record { at = l.at; gives = a }) (record { at = r.at; gives = b }) at) hl hr ∙ set_names p p.names l.at r.at at

-- ---- strings behind the windows of a call

strings_taken : (n : ℕ) (texts : List (List ℕ)) → are_arguments (signature (Function func.LabelJoin)) (suc (suc (suc n))) (map (λ text. Strings) texts) ≡ true
strings_taken n [] = refl
strings_taken n (text ∷ texts) =
    let e : suc (suc (suc n)) + 1 ≡ suc (suc (suc (suc n))) = omega arith in
    subst (λ m. are_arguments (signature (Function func.LabelJoin)) m (map (λ text. Strings) texts) ≡ true) (sym e) (strings_taken (suc n) texts)

three_or_more : (kinds : List Kind) → nat_le 3 (length (Vector ∷ Strings ∷ Strings ∷ kinds)) ≡ true
three_or_more kinds = let h : 3 ≤ length (Vector ∷ Strings ∷ Strings ∷ kinds) = omega arith in grind (arith, h)

-- what is asked of the patterns of a plan, and told of those of its expression
module _ (kept : Patterns) (IsFine : ℕ × PatternId → Type 0) (IsText : Replacement → Type 0) (told : (s : ℕ × PatternId) (place : ℕ) → IsFine s → IsText (record { at = s.0; place = place; text = pattern_text kept s.1 })) where
  abbrev E : Plan → Expr
  E = expression_of kept

  abbrev AreWhole : List (ℕ × PatternId) → Type 0
  AreWhole replaced = AllByRecursion IsFine replaced

  abbrev AreTexts : List Replacement → Type 0
  AreTexts rs = AllByRecursion IsText rs

  -- ---- what is known of an expression

  pub record IsSure (e : Expr) (kind : Kind) (few : ℕ → Bool) (replaced : List (ℕ × PatternId)) : Type 0 where
    pub gives : (judged e).operand.gives ≡ kind
    pub none : (judged e).refusals ≡ []
    pub points : (around : ℕ) → few around ≡ true → crowded e around ≡ []
    pub texts : AreWhole replaced → AreTexts (judged e).replacements

  record AreSure (es : List Expr) (kinds : List Kind) (few : ℕ → Bool) (replaced : List (ℕ × PatternId)) : Type 0 where
    kinds_are : kinds_given (map judged es) ≡ kinds
    none : AreUnrefused (map judged es)
    points : (around : ℕ) → few around ≡ true → all_crowded (map crowded es) around ≡ []
    texts : AreWhole replaced → AreTexts (all_replacements (map judged es))

  no_more : AreSure [] [] (are_few []) []
  no_more = record { kinds_are = refl; none = tt; points = λ around few. refl; texts = λ whole. tt }

  more : (e : Expr) (es : List Expr) (kind : Kind) (kinds : List Kind) (m : Measure) (ms : List Measure) → IsSure e kind m.few m.replaced → AreSure es kinds (are_few ms) (all_replaced ms)
      → AreSure (e ∷ es) (kind ∷ kinds) (are_few (m ∷ ms)) (all_replaced (m ∷ ms))
  more e es kind kinds m ms one all = record {
    kinds_are = ap₂ (λ x xs. x ∷ xs) one.gives all.kinds_are;
    none = (one.none, all.none);
    points = λ around few.
        none_of (crowded e around) (all_crowded (map crowded es) around) (one.points around (left_true (m.few around) (are_few ms around) few))
        (all.points around (right_true (m.few around) (are_few ms around) few));
    texts = λ whole.
        joined IsText (judged e).replacements (all_replacements (map judged es)) (one.texts (front IsFine m.replaced (all_replaced ms) whole))
        (all.texts (behind IsFine m.replaced (all_replaced ms) whole));
  }

  judged_words : (at : ℕ) (text : List ℕ) → judged (worded at text) ≡ node_step (Node-F.Words text) at
  judged_words at text = fold-Words node_step expr_step (worded at text) text refl

  crowded_words : (at : ℕ) (text : List ℕ) → crowded (worded at text) ≡ crowded_step (Node-F.Words text) at
  crowded_words at text = fold-Words crowded_step crowded_expr (worded at text) text refl

  -- a string has nothing of a plan
  string : (at : ℕ) (text : List ℕ) (es : List Expr) (kinds : List Kind) (few : ℕ → Bool) (replaced : List (ℕ × PatternId)) → AreSure es kinds few replaced
      → AreSure (worded at text ∷ es) (Strings ∷ kinds) few replaced
  string at text es kinds few replaced all =
      let j = judged_words at text in
      record {
        kinds_are = ap₂ (λ x xs. x ∷ xs) (ap (λ (j : Judgement). j.operand.gives) j) all.kinds_are;
        none = (ap (λ (j : Judgement). j.refusals) j, all.none);
        points = λ around h. none_of (crowded (worded at text) around) (all_crowded (map crowded es) around) (ap (λ c. c around) (crowded_words at text)) (all.points around h);
        texts = λ whole. joined IsText (judged (worded at text)).replacements (all_replacements (map judged es)) (subst (λ (j : Judgement). AreTexts j.replacements) (sym j) tt) (all.texts whole);
      }

  strings : (at : ℕ) (texts : List (List ℕ)) → AreSure (map (worded at) texts) (map (λ text. Strings) texts) (are_few []) []
  strings at [] = no_more
  strings at (text ∷ texts) = string at text (map (worded at) texts) (map (λ text. Strings) texts) (are_few []) [] (strings at texts)

  -- ---- calls

  abbrev CalledIs : Func → ℕ → List Expr → (ℕ → Bool) → List (ℕ × PatternId) → Type 0
  CalledIs f at es few replaced = IsSure (expressed at (Call f es)) (signature (Function f)).gives few replaced

  called : (f : Func) (at : ℕ) (es : List Expr) (kinds : List Kind) (few : ℕ → Bool) (replaced : List (ℕ × PatternId)) → AreSure es kinds few replaced
      → takes (Function f) kinds ≡ true → strings_refusals (Function f) (map judged es) ≡ [] → (AreWhole replaced → AreTexts (pattern_of f (map judged es) at))
      → CalledIs f at es few replaced
  called f at es kinds few replaced all is said own =
      let j = fold-Call node_step expr_step (expressed at (Call f es)) f es refl in
      record {
        gives = ap (λ (j : Judgement). j.operand.gives) j;
        none = ap (λ (j : Judgement). j.refusals) j ∙ call_none (Function f) (map judged es) at all.none (ap (takes (Function f)) all.kinds_are ∙ is) said;
        points = λ around h. ap (λ c. c around) (fold-Call crowded_step crowded_expr (expressed at (Call f es)) f es refl) ∙ all.points around h;
        texts = λ whole. subst (λ (j : Judgement). AreTexts j.replacements) (sym j)
            (joined IsText (all_replacements (map judged es)) (pattern_of f (map judged es) at) (all.texts whole) (own whole));
      }

  as_kind : (e : Expr) (a b : Kind) (few : ℕ → Bool) (replaced : List (ℕ × PatternId)) → a ≡ b → IsSure e a few replaced → IsSure e b few replaced
  as_kind e a b few replaced is sure = record { gives = sure.gives ∙ is; none = sure.none; points = sure.points; texts = sure.texts }

  -- ---- what holds of each plan

  abbrev HoldsOf : Expr → Bool → Typing → Measure → Type 0
  HoldsOf e whole t m = whole ≡ true → t.typed ≡ true → IsSure e t.kind m.few m.replaced

  abbrev IsKept : Plan → Type 0
  IsKept p = HoldsOf (E p) (is_expressible p) (typing p) (measured p)

  abbrev Kept : Type 0
  Kept = (p : Plan) × IsKept p

  abbrev bares : List Kept → List Plan
  bares items = map (λ p. p.0) items

  abbrev kinds : List Kept → List Kind
  kinds ps = kinds_of (map typing (bares ps))

  child : (p : Kept) → is_expressible p.0 ≡ true → is_sound (typing p.0) ≡ true → IsSure (E p.0) (typing p.0).kind (measured p.0).few (measured p.0).replaced
  child p whole sound = p.1 whole (left_true (typing p.0).typed _ sound)

  children : (items : List Kept) → all_hold (map is_expressible (bares items)) ≡ true → are_sound (map typing (bares items)) ≡ true
      → AreSure (map E (bares items)) (kinds items) (are_few (map measured (bares items))) (all_replaced (map measured (bares items)))
  children [] whole sound = no_more
  children (p ∷ ps) whole sound =
      more (E p.0) (map E (bares ps)) (typing p.0).kind (kinds ps) (measured p.0) (map measured (bares ps))
      (child p (left_true (is_expressible p.0) _ whole) (left_true (is_sound (typing p.0)) _ sound))
      (children ps (right_true (is_expressible p.0) _ whole) (right_true (is_sound (typing p.0)) _ sound))

  -- the children of a node with a first one
  first_and_more : (p : Kept) (ps : List Kept) → all_hold (is_expressible p.0 ∷ map is_expressible (bares ps)) ≡ true → is_sound (typing p.0) ≡ true → are_sound (map typing (bares ps)) ≡ true
      → AreSure (E p.0 ∷ map E (bares ps)) ((typing p.0).kind ∷ kinds ps) (are_few (measured p.0 ∷ map measured (bares ps))) (all_replaced (measured p.0 ∷ map measured (bares ps)))
  first_and_more p ps whole sound all =
      more (E p.0) (map E (bares ps)) (typing p.0).kind (kinds ps) (measured p.0) (map measured (bares ps))
      (child p (left_true (is_expressible p.0) _ whole) sound) (children ps (right_true (is_expressible p.0) _ whole) all)

  only : (p : Kept) → all_hold (is_expressible p.0 ∷ []) ≡ true → (typing p.0).typed ≡ true
      → AreSure (E p.0 ∷ []) ((typing p.0).kind ∷ []) (are_few (measured p.0 ∷ [])) (all_replaced (measured p.0 ∷ []))
  only p whole typed = more (E p.0) [] (typing p.0).kind [] (measured p.0) [] (p.1 (left_true (is_expressible p.0) true whole) typed) no_more

  sound_of : (kind : Kind) (t : Typing) → is_of kind t ≡ true → is_sound t ≡ true
  sound_of kind t is = left_true (is_sound t) _ is

  typed_of : (kind : Kind) (t : Typing) → is_of kind t ≡ true → t.typed ≡ true
  typed_of kind t is = left_true t.typed _ (sound_of kind t is)

  kind_of_child : (kind : Kind) (t : Typing) → is_of kind t ≡ true → t.kind ≡ kind
  kind_of_child kind t is = kind_is kind t.kind (right_true (is_sound t) _ is)

  -- ---- element functions

  abbrev few_of : Kept → List Kept → ℕ → Bool
  few_of p ps = are_few (measured p.0 ∷ map measured (bares ps))

  abbrev replaced_of : Kept → List Kept → List (ℕ × PatternId)
  replaced_of p ps = all_replaced (measured p.0 ∷ map measured (bares ps))

  abbrev First : Kept → Type 0
  First p = IsSure (E p.0) (typing p.0).kind (measured p.0).few (measured p.0).replaced

  abbrev All : Kept → List Kept → Type 0
  All p ps = AreSure (E p.0 ∷ map E (bares ps)) ((typing p.0).kind ∷ kinds ps) (few_of p ps) (replaced_of p ps)

  abbrev ElementIs : ElementFunction → ℕ → Kept → List Kept → Type 0
  ElementIs f at p ps =
      is_element f (typing p.0).kind (kinds ps) ≡ true → First p → All p ps
      → IsSure (expressed at (element_expression f (E p.0) (map E (bares ps)))) (element_kind f (typing p.0).kind) (few_of p ps) (replaced_of p ps)

  negated : (at : ℕ) (p : Kept) → is_number (typing p.0).kind ≡ true → First p
      → IsSure (expressed at (Negate (E p.0))) (both (typing p.0).kind (typing p.0).kind) (few_of p []) (replaced_of p [])
  negated at p is one =
      let e = expressed at (Negate (E p.0)) in
      let j = fold-Negate node_step expr_step e (E p.0) refl in
      record {
        gives = ap (λ (j : Judgement). j.operand.gives) j ∙ ap (λ k. both k k) one.gives;
        none = ap (λ (j : Judgement). j.refusals) j
            ∙ none_of (judged (E p.0)).refusals (operand_refusals (judged (E p.0)).operand) one.none (unless (is_number (judged (E p.0)).operand.gives) _ (ap is_number one.gives ∙ is));
        points = λ around h. ap (λ c. c around) (fold-Negate crowded_step crowded_expr e (E p.0) refl) ∙ one.points around (left_true ((measured p.0).few around) true h);
        texts = λ whole. subst (λ (j : Judgement). AreTexts j.replacements) (sym j) (one.texts (front IsFine (measured p.0).replaced [] whole));
      }

  called_element : (f : ElementFunction) (at : ℕ) (p : Kept) (ps : List Kept) → takes (Function (func.Element f)) ((typing p.0).kind ∷ kinds ps) ≡ true → All p ps
      → IsSure (expressed at (Call (func.Element f) (E p.0 ∷ map E (bares ps)))) (signature (Function (func.Element f))).gives (few_of p ps) (replaced_of p ps)
  called_element f at p ps is all = called (func.Element f) at (E p.0 ∷ map E (bares ps)) ((typing p.0).kind ∷ kinds ps) (few_of p ps) (replaced_of p ps) all is refl (λ whole. tt)

  element_is : (f : ElementFunction) (at : ℕ) (p : Kept) (ps : List Kept) → ElementIs f at p ps
  element_is element.Abs at p ps is one all = called_element element.Abs at p ps is all
  element_is element.Ceil at p ps is one all = called_element element.Ceil at p ps is all
  element_is element.Floor at p ps is one all = called_element element.Floor at p ps is all
  element_is element.Round at p ps is one all = called_element element.Round at p ps is all
  element_is element.Sgn at p ps is one all = called_element element.Sgn at p ps is all
  element_is element.Clamp at p ps is one all = called_element element.Clamp at p ps is all
  element_is element.ClampMin at p ps is one all = called_element element.ClampMin at p ps is all
  element_is element.ClampMax at p ps is one all = called_element element.ClampMax at p ps is all
  element_is (element.Calendar part) at p ps is one all = called_element (element.Calendar part) at p ps is all
  element_is element.Neg at p [] is one all = negated at p is one
  element_is element.Neg at p (q ∷ qs) is one all = absurd (false≢true is)

  -- ---- functions of windows

  abbrev WindowIs : WindowFunction → ℕ → Kept → List Kept → Type 0
  WindowIs f at p ps =
      is_window f (typing p.0).kind (kinds ps) ≡ true → All p ps
      → IsSure (expressed at (window_expression f (E p.0) (map E (bares ps)))) Vector (few_of p ps) (replaced_of p ps)

  called_window : (f : WindowFunction) (at : ℕ) (p : Kept) (ps : List Kept) → takes (Function (func.Window f)) ((typing p.0).kind ∷ kinds ps) ≡ true → All p ps
      → IsSure (expressed at (Call (func.Window f) (E p.0 ∷ map E (bares ps)))) (signature (Function (func.Window f))).gives (few_of p ps) (replaced_of p ps)
  called_window f at p ps is all = called (func.Window f) at (E p.0 ∷ map E (bares ps)) ((typing p.0).kind ∷ kinds ps) (few_of p ps) (replaced_of p ps) all is refl (λ whole. tt)

  -- what is known of two children in the other order
  swapped : (p q : Kept) → First p → First q
      → AreSure (E q.0 ∷ E p.0 ∷ []) ((typing q.0).kind ∷ (typing p.0).kind ∷ []) (few_of p (q ∷ [])) (replaced_of p (q ∷ []))
  swapped p q one other =
      let a = measured p.0 in
      let b = measured q.0 in
      let all = more (E q.0) (E p.0 ∷ []) (typing q.0).kind ((typing p.0).kind ∷ []) b (a ∷ []) other (more (E p.0) [] (typing p.0).kind [] a [] one no_more) in
      record {
        kinds_are = all.kinds_are;
        none = all.none;
        points = λ around h. all.points around
            (both_true (b.few around) (a.few around && true) (left_true (b.few around) true (right_true (a.few around) (b.few around && true) h))
            (both_true (a.few around) true (left_true (a.few around) (b.few around && true) h) refl));
        texts = λ whole. all.texts
            (joined IsFine b.replaced (a.replaced ++ []) (front IsFine b.replaced [] (behind IsFine a.replaced (b.replaced ++ []) whole))
            (joined IsFine a.replaced [] (front IsFine a.replaced (b.replaced ++ []) whole) tt));
      }

  quantile_is : (at : ℕ) (p : Kept) (ps : List Kept) → is_window window.QuantileOver (typing p.0).kind (kinds ps) ≡ true → First p → AllByRecursion First ps
      → IsSure (expressed at (window_expression window.QuantileOver (E p.0) (map E (bares ps)))) Vector (few_of p ps) (replaced_of p ps)
  quantile_is at p [] is one rest = absurd (false≢true is)
  quantile_is at p (q ∷ []) is one rest =
      called (func.Window window.QuantileOver) at (E q.0 ∷ E p.0 ∷ []) ((typing q.0).kind ∷ (typing p.0).kind ∷ []) (few_of p (q ∷ [])) (replaced_of p (q ∷ []))
      (swapped p q one rest.0) is refl (λ whole. tt)
  quantile_is at p (q ∷ r ∷ rs) is one rest = absurd (too_many_before (typing q.0).kind (typing r.0).kind (typing p.0).kind (kinds rs) (left_true _ _ is))

  window_is : (f : WindowFunction) (at : ℕ) (p : Kept) (ps : List Kept) → First p → AllByRecursion First ps → WindowIs f at p ps
  window_is window.Rate at p ps one rest is all = called_window window.Rate at p ps is all
  window_is window.Increase at p ps one rest is all = called_window window.Increase at p ps is all
  window_is window.Delta at p ps one rest is all = called_window window.Delta at p ps is all
  window_is window.Irate at p ps one rest is all = called_window window.Irate at p ps is all
  window_is window.Idelta at p ps one rest is all = called_window window.Idelta at p ps is all
  window_is window.Deriv at p ps one rest is all = called_window window.Deriv at p ps is all
  window_is window.PredictLinear at p ps one rest is all = called_window window.PredictLinear at p ps is all
  window_is window.Changes at p ps one rest is all = called_window window.Changes at p ps is all
  window_is window.Resets at p ps one rest is all = called_window window.Resets at p ps is all
  window_is window.AvgOver at p ps one rest is all = called_window window.AvgOver at p ps is all
  window_is window.MinOver at p ps one rest is all = called_window window.MinOver at p ps is all
  window_is window.MaxOver at p ps one rest is all = called_window window.MaxOver at p ps is all
  window_is window.SumOver at p ps one rest is all = called_window window.SumOver at p ps is all
  window_is window.CountOver at p ps one rest is all = called_window window.CountOver at p ps is all
  window_is window.StdvarOver at p ps one rest is all = called_window window.StdvarOver at p ps is all
  window_is window.LastOver at p ps one rest is all = called_window window.LastOver at p ps is all
  window_is window.PresentOver at p ps one rest is all = called_window window.PresentOver at p ps is all
  window_is window.QuantileOver at p ps one rest is all = quantile_is at p ps is one rest

  -- ---- functions of one argument

  one_call : (f : Func) (at : ℕ) (p : Kept) (kind : Kind) → (typing p.0).kind ≡ kind → takes (Function f) (kind ∷ []) ≡ true → ((js : List Judgement) → strings_refusals (Function f) js ≡ [])
      → ((js : List Judgement) → pattern_of f js at ≡ []) → All p []
      → IsSure (expressed at (Call f (E p.0 ∷ []))) (signature (Function f)).gives (few_of p []) (replaced_of p [])
  one_call f at p kind same is said own all =
      called f at (E p.0 ∷ []) ((typing p.0).kind ∷ []) (few_of p []) (replaced_of p []) all (ap (λ k. takes (Function f) (k ∷ [])) same ∙ is)
      (said (map judged (E p.0 ∷ []))) (λ whole. subst AreTexts (sym (own (map judged (E p.0 ∷ [])))) tt)

  sort_is : (down : Bool) (at : ℕ) (p : Kept) → (typing p.0).kind ≡ Vector → All p []
      → IsSure (expressed at (Call (sort_function down) (E p.0 ∷ []))) Vector (few_of p []) (replaced_of p [])
  sort_is true at p same all = one_call func.SortDesc at p Vector same refl (λ js. refl) (λ js. refl) all
  sort_is false at p same all = one_call func.Sort at p Vector same refl (λ js. refl) (λ js. refl) all

  -- ---- changes of labels

  wider : (es : List Expr) (kinds : List Kind) (few : ℕ → Bool) (r : ℕ × PatternId) (replaced : List (ℕ × PatternId)) → AreSure es kinds few replaced → AreSure es kinds few (r ∷ replaced)
  wider es kinds few r replaced all = record { kinds_are = all.kinds_are; none = all.none; points = all.points; texts = λ whole. all.texts whole.1 }

  abbrev relabel_layer : Relabelling → Kept → PlanNode-F (ℕ → Measure) Measure
  relabel_layer rule p = PlanNode-F.Relabel rule (measured p.0)

  abbrev RelabelIs : Relabelling → ℕ → Kept → Type 0
  RelabelIs rule at p =
      IsSure (expressed at (relabel_expression kept rule at (E p.0))) Vector (few_of p []) (own_replaced (relabel_layer rule p) at ++ replaced_of p [])

  replace_is : (target template source : List ℕ) (pattern : PatternId) (at : ℕ) (p : Kept) → is_relabel (relabel.Replace target template source pattern) ≡ true → (typing p.0).kind ≡ Vector
      → First p → RelabelIs (relabel.Replace target template source pattern) at p
  replace_is target template source pattern at p is same one =
      let text = pattern_text kept pattern in
      let k = (typing p.0).kind in
      let es = E p.0 ∷ worded at target ∷ worded at template ∷ worded at source ∷ worded at text ∷ [] in
      let few = are_few [] in
      let all = more (E p.0) (worded at target ∷ worded at template ∷ worded at source ∷ worded at text ∷ []) k (Strings ∷ Strings ∷ Strings ∷ Strings ∷ []) (measured p.0) [] one
      (string at target (worded at template ∷ worded at source ∷ worded at text ∷ []) (Strings ∷ Strings ∷ Strings ∷ []) few []
      (string at template (worded at source ∷ worded at text ∷ []) (Strings ∷ Strings ∷ []) few []
      (string at source (worded at text ∷ []) (Strings ∷ []) few []
      (string at text [] [] few [] no_more)))) in
      let js : map judged es ≡ judged (E p.0) ∷ node_step (Node-F.Words target) at ∷ node_step (Node-F.Words template) at ∷ node_step (Node-F.Words source) at ∷ node_step (Node-F.Words text) at ∷ []
      = λ i. judged (E p.0) ∷ judged_words at target i ∷ judged_words at template i ∷ judged_words at source i ∷ judged_words at text i ∷ [] in
      called func.LabelReplace at es (k ∷ Strings ∷ Strings ∷ Strings ∷ Strings ∷ []) (few_of p []) ((at, pattern) ∷ replaced_of p [])
      (wider es (k ∷ Strings ∷ Strings ∷ Strings ∷ Strings ∷ []) (few_of p []) (at, pattern) (replaced_of p []) all)
      (ap (λ k. takes (Function func.LabelReplace) (k ∷ Strings ∷ Strings ∷ Strings ∷ Strings ∷ [])) same)
      (ap (strings_refusals (Function func.LabelReplace)) js
      ∙ none_of (label_refusals (Some (at, target))) (template_refusals (Some (at, template))) (label_none at target (left_true (is_filled target) _ is))
      (where_not (is_named template) (BadTemplate at) (right_true (is_filled target) _ is)))
      (λ whole. subst (λ js. AreTexts (pattern_of func.LabelReplace js at)) (sym js) (told (at, pattern) at whole.0, tt))

  join_is : (target separator : List ℕ) (sources : List (List ℕ)) (at : ℕ) (p : Kept) → is_relabel (relabel.Join target separator sources) ≡ true → (typing p.0).kind ≡ Vector
      → First p → RelabelIs (relabel.Join target separator sources) at p
  join_is target separator sources at p is same one =
      let k = (typing p.0).kind in
      let ks = map (λ text. Strings) sources in
      let few = are_few [] in
      let rest = map (worded at) sources in
      let es = E p.0 ∷ worded at target ∷ worded at separator ∷ rest in
      let all = more (E p.0) (worded at target ∷ worded at separator ∷ rest) k (Strings ∷ Strings ∷ ks) (measured p.0) [] one
      (string at target (worded at separator ∷ rest) (Strings ∷ ks) few [] (string at separator rest ks few [] (strings at sources))) in
      called func.LabelJoin at es (k ∷ Strings ∷ Strings ∷ ks) (few_of p []) (replaced_of p []) all
      (ap (λ k. takes (Function func.LabelJoin) (k ∷ Strings ∷ Strings ∷ ks)) same ∙ both_true (nat_le 3 (length (Vector ∷ Strings ∷ Strings ∷ ks))) _ (three_or_more ks) (strings_taken 0 sources))
      (ap (λ j. strings_refusals (Function func.LabelJoin) (judged (E p.0) ∷ j ∷ judged (worded at separator) ∷ map judged rest)) (judged_words at target) ∙ label_none at target is)
      (λ whole. tt)

  relabel_is : (rule : Relabelling) (at : ℕ) (p : Kept) → is_relabel rule ≡ true → (typing p.0).kind ≡ Vector → First p → RelabelIs rule at p
  relabel_is (relabel.Replace target template source pattern) at p is same one = replace_is target template source pattern at p is same one
  relabel_is (relabel.Join target separator sources) at p is same one = join_is target separator sources at p is same one
  relabel_is (relabel.Filter rules) at p is same one = absurd (false≢true is)

  -- ---- aggregations

  grouped : (f : AggregateFunction) (by : Grouping) (at : ℕ) (es : List Expr) (kinds : List Kind) (few : ℕ → Bool) (replaced : List (ℕ × PatternId)) → AreSure es kinds few replaced
      → takes (Aggregation f) kinds ≡ true → strings_refusals (Aggregation f) (map judged es) ≡ []
      → IsSure (expressed at (Aggregate f by es)) (signature (Aggregation f)).gives few replaced
  grouped f by at es kinds few replaced all is said =
      let j = fold-Aggregate node_step expr_step (expressed at (Aggregate f by es)) f by es refl in
      record {
        gives = ap (λ (j : Judgement). j.operand.gives) j;
        none = ap (λ (j : Judgement). j.refusals) j ∙ call_none (Aggregation f) (map judged es) at all.none (ap (takes (Aggregation f)) all.kinds_are ∙ is) said;
        points = λ around h. ap (λ c. c around) (fold-Aggregate crowded_step crowded_expr (expressed at (Aggregate f by es)) f by es refl) ∙ all.points around h;
        texts = λ whole. subst (λ (j : Judgement). AreTexts j.replacements) (sym j) (all.texts whole);
      }

  abbrev Each : List Kept → Type 0
  Each ps = AreSure (map E (bares ps)) (kinds ps) (are_few (map measured (bares ps))) (all_replaced (map measured (bares ps)))

  abbrev GroupIs : AggregateFunction → Grouping → ℕ → List Kept → List ℕ → Type 0
  GroupIs f by at ps label =
      IsSure (expressed at (Aggregate f by (group_arguments f at (map E (bares ps)) label))) Vector (are_few (map measured (bares ps))) (all_replaced (map measured (bares ps)))

  plain_group : (f : AggregateFunction) (by : Grouping) (at : ℕ) (ps : List Kept) → takes (Aggregation f) (kinds ps) ≡ true → ((js : List Judgement) → strings_refusals (Aggregation f) js ≡ []) → Each ps
      → IsSure (expressed at (Aggregate f by (map E (bares ps)))) (signature (Aggregation f)).gives (are_few (map measured (bares ps))) (all_replaced (map measured (bares ps)))
  plain_group f by at ps is said all =
      grouped f by at (map E (bares ps)) (kinds ps) (are_few (map measured (bares ps))) (all_replaced (map measured (bares ps))) all is (said (map judged (map E (bares ps))))

  counted_is : (by : Grouping) (at : ℕ) (ps : List Kept) (label : List ℕ) → is_group aggregate.CountValues (kinds ps) label ≡ true → Each ps → GroupIs aggregate.CountValues by at ps label
  counted_is by at ps label is all =
      let few = are_few (map measured (bares ps)) in
      let replaced = all_replaced (map measured (bares ps)) in
      grouped aggregate.CountValues by at (worded at label ∷ map E (bares ps)) (Strings ∷ kinds ps) few replaced
      (string at label (map E (bares ps)) (kinds ps) few replaced all) (right_true (is_filled label) _ is)
      (ap (λ j. strings_refusals (Aggregation aggregate.CountValues) (j ∷ map judged (map E (bares ps)))) (judged_words at label) ∙ label_none at label (left_true (is_filled label) _ is))

  group_is : (f : AggregateFunction) (by : Grouping) (at : ℕ) (ps : List Kept) (label : List ℕ) → is_group f (kinds ps) label ≡ true → Each ps → GroupIs f by at ps label
  group_is aggregate.Sum by at ps label is all = plain_group aggregate.Sum by at ps is (λ js. refl) all
  group_is aggregate.Avg by at ps label is all = plain_group aggregate.Avg by at ps is (λ js. refl) all
  group_is aggregate.Min by at ps label is all = plain_group aggregate.Min by at ps is (λ js. refl) all
  group_is aggregate.Max by at ps label is all = plain_group aggregate.Max by at ps is (λ js. refl) all
  group_is aggregate.Count by at ps label is all = plain_group aggregate.Count by at ps is (λ js. refl) all
  group_is aggregate.Group by at ps label is all = plain_group aggregate.Group by at ps is (λ js. refl) all
  group_is aggregate.Stdvar by at ps label is all = plain_group aggregate.Stdvar by at ps is (λ js. refl) all
  group_is aggregate.TopK by at ps label is all = plain_group aggregate.TopK by at ps is (λ js. refl) all
  group_is aggregate.BottomK by at ps label is all = plain_group aggregate.BottomK by at ps is (λ js. refl) all
  group_is aggregate.Quantile by at ps label is all = plain_group aggregate.Quantile by at ps is (λ js. refl) all
  group_is aggregate.CountValues by at ps label is all = counted_is by at ps label is all

  -- ---- operators

  pair_is : (op : PairOp) (pairing : Pairing) (at : ℕ) (p q : Kept) → is_pair op pairing (typing p.0).kind (typing q.0).kind ≡ true → First p → First q
      → IsSure (expressed at (Pair op (E p.0) (E q.0) pairing)) (both (typing p.0).kind (typing q.0).kind) (few_of p (q ∷ [])) (replaced_of p (q ∷ []))
  pair_is op pairing at p q is one other =
      let e = expressed at (Pair op (E p.0) (E q.0) pairing) in
      let l = judged (E p.0) in
      let r = judged (E q.0) in
      let a = measured p.0 in
      let b = measured q.0 in
      let j = fold-Pair node_step expr_step e op (E p.0) (E q.0) pairing refl in
      record {
        gives = ap (λ (j : Judgement). j.operand.gives) j ∙ ap₂ both one.gives other.gives;
        none = ap (λ (j : Judgement). j.refusals) j
            ∙ none_of (l.refusals ++ r.refusals) (pair_refusals op pairing l.operand r.operand at) (none_of l.refusals r.refusals one.none other.none)
            (pair_none op pairing l.operand r.operand at (ap₂ (is_pair op pairing) one.gives other.gives ∙ is));
        points = λ around h. ap (λ c. c around) (fold-Pair crowded_step crowded_expr e op (E p.0) (E q.0) pairing refl)
            ∙ none_of (crowded (E p.0) around) (crowded (E q.0) around) (one.points around (left_true (a.few around) (b.few around && true) h))
            (other.points around (left_true (b.few around) true (right_true (a.few around) (b.few around && true) h)));
        texts = λ whole. subst (λ (j : Judgement). AreTexts j.replacements) (sym j)
            (joined IsText l.replacements r.replacements (one.texts (front IsFine a.replaced (b.replaced ++ []) whole))
            (other.texts (front IsFine b.replaced [] (behind IsFine a.replaced (b.replaced ++ []) whole))));
      }

  set_is : (op : SetOp) (pairing : Pairing) (at : ℕ) (p q : Kept) → (typing p.0).kind ≡ Vector → (typing q.0).kind ≡ Vector → First p → First q
      → IsSure (expressed at (Set op (E p.0) (E q.0) pairing)) Vector (few_of p (q ∷ [])) (replaced_of p (q ∷ []))
  set_is op pairing at p q hp hq one other =
      let e = expressed at (Set op (E p.0) (E q.0) pairing) in
      let l = judged (E p.0) in
      let r = judged (E q.0) in
      let a = measured p.0 in
      let b = measured q.0 in
      let j = fold-Set node_step expr_step e op (E p.0) (E q.0) pairing refl in
      record {
        gives = ap (λ (j : Judgement). j.operand.gives) j;
        none = ap (λ (j : Judgement). j.refusals) j
            ∙ none_of (l.refusals ++ r.refusals) (set_refusals pairing l.operand r.operand at) (none_of l.refusals r.refusals one.none other.none)
            (set_none pairing l.operand r.operand at (one.gives ∙ hp) (other.gives ∙ hq));
        points = λ around h. ap (λ c. c around) (fold-Set crowded_step crowded_expr e op (E p.0) (E q.0) pairing refl)
            ∙ none_of (crowded (E p.0) around) (crowded (E q.0) around) (one.points around (left_true (a.few around) (b.few around && true) h))
            (other.points around (left_true (b.few around) true (right_true (a.few around) (b.few around && true) h)));
        texts = λ whole. subst (λ (j : Judgement). AreTexts j.replacements) (sym j)
            (joined IsText l.replacements r.replacements (one.texts (front IsFine a.replaced (b.replaced ++ []) whole))
            (other.texts (front IsFine b.replaced [] (behind IsFine a.replaced (b.replaced ++ []) whole))));
      }

  subquery_is : (at : ℕ) (p : Kept) (range step : Ms) (moment : _) → (typing p.0).kind ≡ Vector → First p
      → IsSure (expressed at (Subquery (E p.0) range step moment)) Windows
      (λ around. not (nat_lt most_points (around * points range step)) && (measured p.0).few (around * points range step)) (replaced_of p [])
  subquery_is at p range step moment same one =
      let e = expressed at (Subquery (E p.0) range step moment) in
      let j = fold-Subquery node_step expr_step e (E p.0) range step moment refl in
      record {
        gives = ap (λ (j : Judgement). j.operand.gives) j;
        none = ap (λ (j : Judgement). j.refusals) j
            ∙ none_of (judged (E p.0)).refusals (argument_refusals (Some Vector) (judged (E p.0)).operand) one.none
            (unless (is_kind Vector (judged (E p.0)).operand.gives) _ (ap (is_kind Vector) (one.gives ∙ same)));
        points = λ around h.
            let inside = around * points range step in
            let over = nat_lt most_points inside in
            ap (λ c. c around) (fold-Subquery crowded_step crowded_expr e (E p.0) range step moment refl)
            ∙ none_of (where_true over (TooManyPoints at)) (crowded (E p.0) inside) (where_not over (TooManyPoints at) (left_true (not over) _ h)) (one.points inside (right_true (not over) _ h));
        texts = λ whole. subst (λ (j : Judgement). AreTexts j.replacements) (sym j) (one.texts (front IsFine (measured p.0).replaced [] whole));
      }

  -- a node without children
  leaf : (e : Expr) (kind : Kind) (few : ℕ → Bool) (j : Judgement) (c : ℕ → List QueryRefusal) → judged e ≡ j → crowded e ≡ c → j.operand.gives ≡ kind → j.refusals ≡ [] → j.replacements ≡ []
      → ((around : ℕ) → c around ≡ []) → IsSure e kind few []
  leaf e kind few j c is points gives none texts no_points = record {
    gives = ap (λ (j : Judgement). j.operand.gives) is ∙ gives;
    none = ap (λ (j : Judgement). j.refusals) is ∙ none;
    points = λ around h. ap (λ c. c around) points ∙ no_points around;
    texts = λ whole. subst AreTexts (sym (ap (λ (j : Judgement). j.replacements) is ∙ texts)) tt;
  }

  -- ---- one level, of the nodes that are kept

  abbrev expression_in : PlanNode → ℕ → Expr
  expression_in = fold-PlanNode (ℕ → Expr) Expr (expression_step kept) (λ p. p.node p.at)

  abbrev expressible_in : PlanNode → Bool
  expressible_in = fold-PlanNode Bool Bool node_expressible (λ p. p.node)

  abbrev typing_in : PlanNode → Typing
  typing_in = fold-PlanNode Typing Typing node_typing (λ p. p.node)

  abbrev measure_in : PlanNode → ℕ → Measure
  measure_in = fold-PlanNode (ℕ → Measure) Measure node_measure (λ p. p.node p.at)

  abbrev IsKeptNode : PlanNode → Type 0
  IsKeptNode n = (at : ℕ) → HoldsOf (expression_in n at) (expressible_in n) (typing_in n) (measure_in n at)

  abbrev Layer : Type 0
  Layer = PlanNode-F ((n : PlanNode) × IsKeptNode n) Kept

  abbrev bare : Layer → PlanNode-F PlanNode Plan
  bare = map-PlanNode ((n : PlanNode) × IsKeptNode n) Kept PlanNode Plan (λ n. n.0) (λ p. p.0)

  abbrev expression_level : Layer → ℕ → Expr
  expression_level y at = expression_step kept (map-PlanNode PlanNode Plan (ℕ → Expr) Expr expression_in E (bare y)) at

  abbrev expressible_level : Layer → Bool
  expressible_level y = node_expressible (map-PlanNode PlanNode Plan Bool Bool expressible_in is_expressible (bare y))

  abbrev typing_level : Layer → Typing
  typing_level y = node_typing (map-PlanNode PlanNode Plan Typing Typing typing_in typing (bare y))

  abbrev measure_level : Layer → ℕ → Measure
  measure_level y at = node_measure (map-PlanNode PlanNode Plan (ℕ → Measure) Measure measure_in measured (bare y)) at

  -- the first of the children of a node, and each of the others
  first : (p : Kept) (bs : List Bool) → all_hold (is_expressible p.0 ∷ bs) ≡ true → is_sound (typing p.0) ≡ true → First p
  first p bs whole sound = child p (left_true (is_expressible p.0) (all_hold bs) whole) sound

  each : (ps : List Kept) → all_hold (map is_expressible (bares ps)) ≡ true → are_sound (map typing (bares ps)) ≡ true → AllByRecursion First ps
  each [] whole sound = tt
  each (p ∷ ps) whole sound =
      (first p (map is_expressible (bares ps)) whole (left_true (is_sound (typing p.0)) _ sound), each ps (right_true (is_expressible p.0) _ whole) (right_true (is_sound (typing p.0)) _ sound))

  level : (y : Layer) (at : ℕ) → HoldsOf (expression_level y at) (expressible_level y) (typing_level y) (measure_level y at)
  level (PlanNode-F.Number value) at whole typed =
      let e = expressed at (Number value) in
      leaf e Scalar _ _ _ (fold-Number node_step expr_step e value refl) (fold-Number crowded_step crowded_expr e value refl) refl refl refl (λ around. refl)
  level PlanNode-F.Time at whole typed = called func.Time at [] [] (are_few []) [] no_more refl refl (λ whole. tt)
  level (PlanNode-F.Select rules moment stamped) at whole typed =
      let s = selector_of rules moment in
      let e = expressed at (Select s) in
      leaf e Vector _ _ _ (fold-Select node_step expr_step e s refl) (fold-Select crowded_step crowded_expr e s refl) refl refl refl (λ around. refl)
  level (PlanNode-F.Range rules moment range) at whole typed =
      let s = selector_of rules moment in
      let e = expressed at (Range s range) in
      leaf e Windows _ _ _ (fold-Range node_step expr_step e s range refl) (fold-Range crowded_step crowded_expr e s range refl) refl refl refl (λ around. refl)
  level (PlanNode-F.Subquery p range step moment) at whole typed =
      subquery_is at p range step moment (kind_of_child Vector (typing p.0) typed) (first p [] whole (sound_of Vector (typing p.0) typed))
  level (PlanNode-F.Element f p ps) at whole typed =
      let sound = left_true (is_sound (typing p.0) && are_sound (map typing (bares ps))) _ typed in
      let one = left_true (is_sound (typing p.0)) _ sound in
      element_is f at p ps (right_true (is_sound (typing p.0) && are_sound (map typing (bares ps))) _ typed) (first p (map is_expressible (bares ps)) whole one)
      (first_and_more p ps whole one (right_true (is_sound (typing p.0)) _ sound))
  level (PlanNode-F.Stamp p) at whole typed =
      let sound = left_true ((typing p.0).typed && is_stamped (typing p.0).select) _ typed in
      one_call func.Timestamp at p Vector (kind_is Vector (typing p.0).kind (right_true ((typing p.0).typed && is_stamped (typing p.0).select) _ typed)) refl (λ js. refl) (λ js. refl)
      (only p whole (left_true (typing p.0).typed _ sound))
  level (PlanNode-F.Window f p ps) at whole typed =
      let sound = left_true (is_sound (typing p.0) && are_sound (map typing (bares ps))) _ typed in
      let one = left_true (is_sound (typing p.0)) _ sound in
      let rest = right_true (is_sound (typing p.0)) _ sound in
      window_is f at p ps (first p (map is_expressible (bares ps)) whole one) (each ps (right_true (is_expressible p.0) _ whole) rest)
      (right_true (is_sound (typing p.0) && are_sound (map typing (bares ps))) _ typed) (first_and_more p ps whole one rest)
  level (PlanNode-F.Absent labels p) at whole typed = absurd (false≢true whole)
  level (PlanNode-F.Buckets q p) at whole typed =
      let l = left_true (is_of Scalar (typing q.0)) _ typed in
      let r = right_true (is_of Scalar (typing q.0)) _ typed in
      let all = first_and_more q (p ∷ []) whole (sound_of Scalar (typing q.0) l) (both_true (is_sound (typing p.0)) true (sound_of Vector (typing p.0) r) refl) in
      called func.HistogramQuantile at (E q.0 ∷ E p.0 ∷ []) ((typing q.0).kind ∷ (typing p.0).kind ∷ []) (few_of q (p ∷ [])) (replaced_of q (p ∷ [])) all
      (ap₂ (λ a b. takes (Function func.HistogramQuantile) (a ∷ b ∷ [])) (kind_of_child Scalar (typing q.0) l) (kind_of_child Vector (typing p.0) r)) refl (λ whole. tt)
  level (PlanNode-F.Relabel rule p) at whole typed =
      let r = right_true (is_relabel rule) _ typed in
      relabel_is rule at p (left_true (is_relabel rule) _ typed) (kind_of_child Vector (typing p.0) r) (first p [] whole (sound_of Vector (typing p.0) r))
  level (PlanNode-F.Sort down p) at whole typed = sort_is down at p (kind_of_child Vector (typing p.0) typed) (only p whole (typed_of Vector (typing p.0) typed))
  level (PlanNode-F.ScalarOf p) at whole typed =
      one_call func.Scalar at p Vector (kind_of_child Vector (typing p.0) typed) refl (λ js. refl) (λ js. refl) (only p whole (typed_of Vector (typing p.0) typed))
  level (PlanNode-F.VectorOf p) at whole typed =
      one_call func.Vector at p Scalar (kind_of_child Scalar (typing p.0) typed) refl (λ js. refl) (λ js. refl) (only p whole (typed_of Scalar (typing p.0) typed))
  level (PlanNode-F.Group f by ps label) at whole typed =
      group_is f by at ps label (right_true (are_sound (map typing (bares ps))) _ typed) (children ps whole (left_true (are_sound (map typing (bares ps))) _ typed))
  level (PlanNode-F.Pair op p q pairing) at whole typed =
      let sound = left_true (is_sound (typing p.0) && is_sound (typing q.0)) _ typed in
      pair_is op pairing at p q (right_true (is_sound (typing p.0) && is_sound (typing q.0)) _ typed) (first p (is_expressible q.0 ∷ []) whole (left_true (is_sound (typing p.0)) _ sound))
      (first q [] (right_true (is_expressible p.0) _ whole) (right_true (is_sound (typing p.0)) _ sound))
  level (PlanNode-F.Set op p q pairing) at whole typed =
      let l = left_true (is_of Vector (typing p.0)) _ typed in
      let r = right_true (is_of Vector (typing p.0)) _ typed in
      set_is op pairing at p q (kind_of_child Vector (typing p.0) l) (kind_of_child Vector (typing q.0) r) (first p (is_expressible q.0 ∷ []) whole (sound_of Vector (typing p.0) l))
      (first q [] (right_true (is_expressible p.0) _ whole) (sound_of Vector (typing q.0) r))
  level (PlanNode-F.Filter p rules) at whole typed = absurd (false≢true whole)
  level (PlanNode-F.Ratio p q) at whole typed = absurd (false≢true whole)
  level (PlanNode-F.Once p) at whole typed = absurd (false≢true whole)
  level (PlanNode-F.Gather expr kind engines) at whole typed = absurd (false≢true whole)

  -- ---- every plan

  node_kept : (y : Layer) → IsKeptNode (roll-PlanNode (bare y))
  node_kept y at =
      let n = roll-PlanNode (bare y) in
      subst (λ (f : ℕ → Expr). HoldsOf (f at) (expressible_in n) (typing_in n) (measure_in n at)) (sym (fold-roll-PlanNode (ℕ → Expr) Expr (expression_step kept) (λ p. p.node p.at) (bare y)))
      (subst (λ (b : Bool). HoldsOf (expression_level y at) b (typing_in n) (measure_in n at)) (sym (fold-roll-PlanNode Bool Bool node_expressible (λ p. p.node) (bare y)))
      (subst (λ (t : Typing). HoldsOf (expression_level y at) (expressible_level y) t (measure_in n at)) (sym (fold-roll-PlanNode Typing Typing node_typing (λ p. p.node) (bare y)))
      (subst (λ (f : ℕ → Measure). HoldsOf (expression_level y at) (expressible_level y) (typing_level y) (f at)) (sym (fold-roll-PlanNode (ℕ → Measure) Measure node_measure (λ p. p.node p.at) (bare y)))
      (level y at))))

  plan_kept : (at : ℕ) (n : PlanNode) → IsKeptNode n → IsKept (roll-Plan (record { at = at; node = n }))
  plan_kept at n is =
      let p = roll-Plan (record { at = at; node = n }) in
      subst (λ (e : Expr). HoldsOf e (is_expressible p) (typing p) (measured p)) (sym (fold-roll-Plan (ℕ → Expr) Expr (expression_step kept) (λ p. p.node p.at) (record { at = at; node = n })))
      (subst (λ (b : Bool). HoldsOf (expression_in n at) b (typing p) (measured p)) (sym (fold-roll-Plan Bool Bool node_expressible (λ p. p.node) (record { at = at; node = n })))
      (subst (λ (t : Typing). HoldsOf (expression_in n at) (expressible_in n) t (measured p)) (sym (fold-roll-Plan Typing Typing node_typing (λ p. p.node) (record { at = at; node = n })))
      (subst (λ (m : Measure). HoldsOf (expression_in n at) (expressible_in n) (typing_in n) m) (sym (fold-roll-Plan (ℕ → Measure) Measure node_measure (λ p. p.node p.at) (record { at = at; node = n })))
      (is at))))

  pub all_sure : (p : Plan) → IsKept p
  all_sure = ind-Plan IsKeptNode IsKept
      (λ x y is. subst (λ z. IsKeptNode (roll-PlanNode z)) is (node_kept y))
      (λ x y is. subst (λ z. IsKept (roll-Plan z)) is (plan_kept y.at y.node.0 y.node.1))
