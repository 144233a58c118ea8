-- The tree of a query lies within the limits, and its depth is the number of nodes that the grammar tells.
use Rattle.std.proofs.Common.{◌≡◌, ℕ, ◌+◌, max, refl, ◌∙◌, sym, subst, List, [], ◌∷◌, ◌++◌, map, arith}
use Rattle.std.proofs.lemmas.Int.{ints}
use Rattle.std.specs.List.{AllByRecursion}
use Rattle.std.specs.Prelude.{Option, Some, None, ⊤, false}
use Rattle.frac_text.specs.Times.{time_limit}
use Rattle.func_table.specs.declared.table.Aggregate.{Aggregate}
use Rattle.func_table.specs.declared.table.Func.{Func}
use Rattle.label_set.specs.declared.rules.Grouping.{Grouping}
use Rattle.label_set.specs.declared.rules.Rule.{Rule}
use Rattle.match_rule.specs.Patterns.{HaveTheirPatterns}
use Rattle.promql_ast.specs.Depth.{depth, greatest, node_depth}
use Rattle.promql_ast.specs.Edged.{AreEdged, IsEdged}
use Rattle.promql_ast.specs.Folds.{fold-Aggregate, fold-Call, fold-Negate, fold-Number, fold-Pair, fold-Paren, fold-Range, fold-Select, fold-Set, fold-Subquery, fold-Words}
use Rattle.promql_ast.specs.Parts.{IsAtMost, IsFixedWithin, IsWithin, Part, all_of, node_parts, parts_of}
use Rattle.promql_ast.specs.declared.tree.Expr.{Expr}
use Rattle.promql_ast.specs.declared.tree.Fixed.{Fixed}
use Rattle.promql_ast.specs.declared.tree.Moment.{Moment}
use Rattle.promql_ast.specs.declared.tree.Node.TheVariants.{Number, Words, Paren, Negate, Select, Range, Subquery, Call, Aggregate as Aggregated}
use Rattle.promql_parse.specs.Build.{moment_of, node_of, selector_of, tree}
use Rattle.promql_parse.specs.Grammar.{ArgumentList, Body, IsQuery, Operand, Phrase, Primary, Term, another, a_range, a_selector, a_subquery, term_tree}
use Rattle.promql_parse.specs.Laws.{DepthsAreTold, QueriesAreWithin}
use Rattle.holders.specs.Joins.{back_of, both_of, front_of}
use Rattle.promql_parts.specs.Labels.{no_grouping}
use Rattle.promql_parts.specs.Limits.{IsLengthWithin, OffsetsAreWithin, RangesAreWithin, RulesHaveTheirs, StepsAreWithin, TimesAreWithin}
use Rattle.promql_parts.specs.Patterned.{HasPattern}
use Rattle.promql_parts.specs.Productions.{Selected}
use Rattle.promql_parts.specs.declared.lexeme.Lexeme.{Lexeme}
use Rattle.promql_parts.specs.declared.operator.BinaryOp.{BinaryOp}
use Rattle.promql_parts.specs.declared.operator.BinaryOp.TheVariants as ops
use Rattle.promql_parts.specs.declared.operator.Matching.{Matching}
use Rattle.ticks.specs.Durations.{hundred_years}
use Rattle.ticks.specs.declared.moment.Ms.{Ms}
use Rattle.xfrac.specs.declared.value.ArithOp.TheVariants.{Pow}
use Rattle.xfrac.specs.declared.value.XFrac.{XFrac}

-- what is known of the lengths, offsets and times of parts
pub record Spanned : Type 0 where
  pub ranges : RangesAreWithin
  pub steps : StepsAreWithin
  pub offsets : OffsetsAreWithin
  pub times : TimesAreWithin

abbrev IsOffsetWithin : Option Ms → Type 0
IsOffsetWithin None = ⊤
IsOffsetWithin (Some by) = IsAtMost hundred_years by

-- something holds of each lexeme, and then something of the rules of each selector, of lengths and of moments
module _ (spanned : Spanned) (Has : Lexeme → Type 0) (HoldsOf : Part → Type 0)
    (rules_hold : (ls : List Lexeme) (at : ℕ) (rules : List Rule) → AllByRecursion Has ls → Selected ls at rules → HoldsOf (Part.of_rules rules))
    (length_holds : (length : Ms) → IsLengthWithin length → HoldsOf (Part.of_length length))
    (moment_holds : (offset : Option Ms) (fixed : Option Fixed) → IsOffsetWithin offset → IsFixedWithin time_limit fixed → HoldsOf (Part.of_moment (moment_of offset fixed))) where
  abbrev Within : List Part → Type 0
  Within parts = AllByRecursion HoldsOf parts

  abbrev WithinPart : Part → Type 0
  WithinPart part = HoldsOf part

  abbrev All : List Lexeme → Type 0
  All ls = AllByRecursion Has ls

  pub record Lies (e : Expr) (d : ℕ) : Type 0 where
    pub limited : Within (parts_of e)
    pub deep : depth e ≡ d

  record AllLie (es : List Expr) (d : ℕ) : Type 0 where
    pub limited : Within (all_of (map parts_of es))
    pub deep : greatest (map depth es) ≡ d

  -- ---- nodes
  lies : (e : Expr) (d n : ℕ) (parts : List Part) → parts_of e ≡ parts → Within parts → depth e ≡ n → n ≡ d → Lies e d
  lies e d n parts same limited deep is = record { limited = subst Within (sym same) limited; deep = deep ∙ is }

  number_lies : (at : ℕ) (value : XFrac) → Lies (tree at (Number value)) 1
  number_lies at value =
      let e : Expr = tree at (Number value) in
      lies e 1 1 [] (fold-Number node_parts (λ e. e.node) e value refl) tt (fold-Number node_depth (λ e. e.node) e value refl) refl

  words_lie : (at : ℕ) (text : List ℕ) → Lies (tree at (Words text)) 1
  words_lie at text =
      let e : Expr = tree at (Words text) in
      lies e 1 1 [] (fold-Words node_parts (λ e. e.node) e text refl) tt (fold-Words node_depth (λ e. e.node) e text refl) refl

  paren_lies : (at : ℕ) (inner : Expr) (d : ℕ) → Lies inner d → Lies (tree at (Paren inner)) (d + 1)
  paren_lies at inner d is =
      let e : Expr = tree at (Paren inner) in
      let deep = is.deep in
      lies e (d + 1) _ _ (fold-Paren node_parts (λ e. e.node) e inner refl) is.limited (fold-Paren node_depth (λ e. e.node) e inner refl) (omega (arith, deep))

  negate_lies : (at : ℕ) (inner : Expr) (d : ℕ) → Lies inner d → Lies (tree at (Negate inner)) (d + 1)
  negate_lies at inner d is =
      let e : Expr = tree at (Negate inner) in
      let deep = is.deep in
      lies e (d + 1) _ _ (fold-Negate node_parts (λ e. e.node) e inner refl) is.limited (fold-Negate node_depth (λ e. e.node) e inner refl) (omega (arith, deep))

  call_lies : (at : ℕ) (f : Func) (es : List Expr) (d : ℕ) → AllLie es d → Lies (tree at (Call f es)) (d + 1)
  call_lies at f es d are =
      let e : Expr = tree at (Call f es) in
      let deep = are.deep in
      lies e (d + 1) _ _ (fold-Call node_parts (λ e. e.node) e f es refl) are.limited (fold-Call node_depth (λ e. e.node) e f es refl) (omega (arith, deep))

  aggregate_lies : (at : ℕ) (f : Aggregate) (grouping : Grouping) (es : List Expr) (d : ℕ) → AllLie es d → Lies (tree at (Aggregated f grouping es)) (d + 1)
  aggregate_lies at f grouping es d are =
      let e : Expr = tree at (Aggregated f grouping es) in
      let deep = are.deep in
      lies e (d + 1) _ _ (fold-Aggregate node_parts (λ e. e.node) e f grouping es refl) are.limited (fold-Aggregate node_depth (λ e. e.node) e f grouping es refl) (omega (arith, deep))

  both_sides : (l r : Expr) (m n : ℕ) → Lies l m → Lies r n → Within (parts_of l ++ parts_of r)
  both_sides l r m n left right = both_of WithinPart (parts_of l) (parts_of r) left.limited right.limited

  deeper_side : (l r : Expr) (m n : ℕ) → Lies l m → Lies r n → 1 + max (depth l) (depth r) ≡ max m n + 1
  deeper_side l r m n left right = let a = left.deep in let b = right.deep in omega (arith, a, b)

  sides_lie : (at : ℕ) (op : BinaryOp) (matching : Matching) (l r : Expr) (m n : ℕ) → Lies l m → Lies r n → Lies (tree at (node_of op matching l r)) (max m n + 1)
  sides_lie at (ops.Arith op) matching l r m n left right =
      let e : Expr = tree at (node_of (ops.Arith op) matching l r) in
      lies e (max m n + 1) _ _ (fold-Pair node_parts (λ e. e.node) e _ l r matching.pairing refl) (both_sides l r m n left right) (fold-Pair node_depth (λ e. e.node) e _ l r matching.pairing refl)
      (deeper_side l r m n left right)
  sides_lie at (ops.Compare op) matching l r m n left right =
      let e : Expr = tree at (node_of (ops.Compare op) matching l r) in
      lies e (max m n + 1) _ _ (fold-Pair node_parts (λ e. e.node) e _ l r matching.pairing refl) (both_sides l r m n left right) (fold-Pair node_depth (λ e. e.node) e _ l r matching.pairing refl)
      (deeper_side l r m n left right)
  sides_lie at (ops.Set op) matching l r m n left right =
      let e : Expr = tree at (node_of (ops.Set op) matching l r) in
      lies e (max m n + 1) _ _ (fold-Set node_parts (λ e. e.node) e op l r matching.pairing refl) (both_sides l r m n left right) (fold-Set node_depth (λ e. e.node) e op l r matching.pairing refl)
      (deeper_side l r m n left right)

  -- ---- operands
  abbrev TermLies : Term → ℕ → Type 0
  TermLies (a_selector rules) d = HoldsOf (Part.of_rules rules) × (1 ≡ d)
  TermLies (a_range rules range) d = HoldsOf (Part.of_rules rules) × IsLengthWithin range × (1 ≡ d)
  TermLies (a_subquery e range step) d = Within (parts_of e) × IsLengthWithin range × IsLengthWithin step × (1 + depth e ≡ d)
  TermLies (another e) d = Lies e d

  record OperandLies (term : Term) (offset : Option Ms) (fixed : Option Fixed) (d : ℕ) : Type 0 where
    pub of_term : TermLies term d
    pub of_offset : IsOffsetWithin offset
    pub of_fixed : IsFixedWithin time_limit fixed

  operand_tree : (at : ℕ) (term : Term) (offset : Option Ms) (fixed : Option Fixed) (d : ℕ) → OperandLies term offset fixed d → Lies (term_tree at term (moment_of offset fixed)) d
  operand_tree at (a_selector rules) offset fixed d is =
      let moment : Moment = moment_of offset fixed in
      let e : Expr = tree at (Select (selector_of rules moment)) in
      lies e d 1 _ (fold-Select node_parts (λ e. e.node) e (selector_of rules moment) refl) ((is.of_term.0, (moment_holds offset fixed is.of_offset is.of_fixed, tt)))
      (fold-Select node_depth (λ e. e.node) e (selector_of rules moment) refl) is.of_term.1
  operand_tree at (a_range rules range) offset fixed d is =
      let moment : Moment = moment_of offset fixed in
      let e : Expr = tree at (Range (selector_of rules moment) range) in
      lies e d 1 _ (fold-Range node_parts (λ e. e.node) e (selector_of rules moment) range refl)
      ((is.of_term.0, (moment_holds offset fixed is.of_offset is.of_fixed, (length_holds range is.of_term.1, tt))))
      (fold-Range node_depth (λ e. e.node) e (selector_of rules moment) range refl) is.of_term.2
  operand_tree at (a_subquery inner range step) offset fixed d is =
      let moment : Moment = moment_of offset fixed in
      let e : Expr = tree at (Subquery inner range step moment) in
      lies e d _ _ (fold-Subquery node_parts (λ e. e.node) e inner range step moment refl)
      ((moment_holds offset fixed is.of_offset is.of_fixed, (length_holds range is.of_term.1, (length_holds step is.of_term.2, is.of_term.0))))
      (fold-Subquery node_depth (λ e. e.node) e inner range step moment refl) is.of_term.3
  operand_tree at (another e) offset fixed d is = is.of_term

  selector_lies : (ls : List Lexeme) (at : ℕ) (rules : List Rule) → Selected ls at rules → All ls → OperandLies (a_selector rules) None None 1
  selector_lies ls at rules is all = record { of_term = (rules_hold ls at rules all is, refl); of_offset = tt; of_fixed = tt }

  range_lies : (rules : List Rule) (range : Ms) (d : ℕ) → IsLengthWithin range → OperandLies (a_selector rules) None None d → OperandLies (a_range rules range) None None d
  range_lies rules range d within is = record { of_term = (is.of_term.0, within, is.of_term.1); of_offset = tt; of_fixed = tt }

  subquery_lies : (at : ℕ) (term : Term) (offset : Option Ms) (fixed : Option Fixed) (range step : Ms) (d : ℕ) → IsLengthWithin range × IsLengthWithin step → OperandLies term offset fixed d
      → OperandLies (a_subquery (term_tree at term (moment_of offset fixed)) range step) None None (d + 1)
  subquery_lies at term offset fixed range step d within is =
      let inner = operand_tree at term offset fixed d is in
      let deep = inner.deep in
      record { of_term = (inner.limited, within.0, within.1, omega (arith, deep)); of_offset = tt; of_fixed = tt }

  -- ---- arguments
  one_lies : (e : Expr) (d : ℕ) → Lies e d → AllLie (e ∷ []) d
  one_lies e d is = let deep = is.deep in record { limited = both_of WithinPart (parts_of e) [] is.limited tt; deep = omega (arith, deep) }

  one_more : (es : List Expr) (e : Expr) → Within (all_of (map parts_of es)) → Within (parts_of e) → Within (all_of (map parts_of (es ++ e ∷ [])))
  one_more [] e all is = both_of WithinPart (parts_of e) [] is tt
  one_more (f ∷ es) e all is =
      both_of WithinPart (parts_of f) (all_of (map parts_of (es ++ e ∷ []))) (front_of WithinPart (parts_of f) (all_of (map parts_of es)) all)
      (one_more es e (back_of WithinPart (parts_of f) (all_of (map parts_of es)) all) is)

  greatest_more : (es : List Expr) (e : Expr) → greatest (map depth (es ++ e ∷ [])) ≡ max (greatest (map depth es)) (depth e)
  greatest_more [] e = omega arith
  greatest_more (f ∷ es) e = let rest = greatest_more es e in omega (arith, rest)

  more_lie : (es : List Expr) (e : Expr) (m n : ℕ) → AllLie es m → Lies e n → AllLie (es ++ e ∷ []) (max m n)
  more_lie es e m n are is =
      let a = are.deep in
      let b = is.deep in
      let all = greatest_more es e in
      record { limited = one_more es e are.limited is.limited; deep = omega (arith, a, b, all) }

  -- ---- lexemes
  inside : (us xs : List Lexeme) (begin close : Lexeme) → us ≡ begin ∷ xs ++ close ∷ [] → All us → All xs
  inside us xs begin close split all = front_of Has xs (close ∷ []) (subst All split all).1

  left_of : (us xs ys : List Lexeme) → us ≡ xs ++ ys → All us → All xs
  left_of us xs ys split all = front_of Has xs ys (subst All split all)

  right_of : (us xs ys : List Lexeme) → us ≡ xs ++ ys → All us → All ys
  right_of us xs ys split all = back_of Has xs ys (subst All split all)

  right_side : (us xs ys zs : List Lexeme) (sign : Lexeme) → us ≡ xs ++ sign ∷ (ys ++ zs) → All us → All zs
  right_side us xs ys zs sign split all = back_of Has ys zs (right_of us xs (sign ∷ (ys ++ zs)) split all).1

  -- ---- productions
  mutual
    primary_lies : {b d : ℕ} {xs : List Lexeme} {e : Expr} → Primary b xs e d → All xs → Lies e d
    primary_lies (Primary.number l value is) = λ all. number_lies l.at value
    primary_lies (Primary.duration l duration value is so) = λ all. number_lies l.at value
    primary_lies (Primary.words l text is) = λ all. words_lie l.at text
    primary_lies (Primary.paren {d = d} {us = us} {xs = xs} {e = e} begin close opens p closes split) = λ all. paren_lies begin.at e d (phrase_lies p (inside us xs begin close split all))
    primary_lies (Primary.call {d = d} {es = es} l name f is known body) = λ all. call_lies l.at f es d (body_lies body all.1)
    primary_lies (Primary.call_of_none l begin close name f is known opens closes) = λ all. call_lies l.at f [] 0 (record { limited = tt; deep = refl })
    primary_lies (Primary.aggregate {d = d} {es = es} l f word body) = λ all. aggregate_lies l.at f no_grouping es d (body_lies body all.1)
    primary_lies (Primary.grouped_before {d = d} {us = us} {xs = xs} {ys = ys} {es = es} {grouping = grouping} l f word is body split) =
        λ all. aggregate_lies l.at f grouping es d (body_lies body (right_of us (l ∷ xs) ys split all))
    primary_lies (Primary.grouped_behind {d = d} {us = us} {xs = xs} {ys = ys} {es = es} {grouping = grouping} l f word body is split) =
        λ all. aggregate_lies l.at f grouping es d (body_lies body (left_of us (l ∷ xs) ys split all).1)

    body_lies : {b d : ℕ} {us : List Lexeme} {es : List Expr} → Body b us es d → All us → AllLie es d
    body_lies (Body.body {us = us} {xs = xs} begin close opens list closes split) = λ all. arguments_lie list (inside us xs begin close split all)

    arguments_lie : {b d : ℕ} {xs : List Lexeme} {es : List Expr} → ArgumentList b xs es d → All xs → AllLie es d
    arguments_lie (ArgumentList.one {d = d} {e = e} p) = λ all. one_lies e d (phrase_lies p all)
    arguments_lie (ArgumentList.more {m = m} {n = n} {us = us} {xs = xs} {ys = ys} {es = es} {e = e} comma list is p split) =
        λ all. more_lie es e m n (arguments_lie list (left_of us xs (comma ∷ ys) split all)) (phrase_lies p (right_of us xs (comma ∷ ys) split all).1)

    operand_lies : {b at d : ℕ} {term : Term} {offset : Option Ms} {fixed : Option Fixed} {xs : List Lexeme} → Operand b term offset fixed xs at d → All xs → OperandLies term offset fixed d
    operand_lies (Operand.selector {at = at} {xs = xs} {rules = rules} is) = selector_lies xs at rules is
    operand_lies (Operand.primary p) = λ all. record { of_term = primary_lies p all; of_offset = tt; of_fixed = tt }
    operand_lies (Operand.range {d = d} {us = us} {xs = xs} {ys = ys} {rules = rules} {length = range} p brackets split) =
        λ all. range_lies rules range d (spanned.ranges ys range brackets) (operand_lies p (left_of us xs ys split all))
    operand_lies (Operand.subquery {at = at} {d = d} {term = term} {offset = offset} {fixed = fixed} {us = us} {xs = xs} {ys = ys} {length = range} {step = step} p brackets split) =
        λ all. subquery_lies at term offset fixed range step d (spanned.steps ys range step brackets) (operand_lies p (left_of us xs ys split all))
    operand_lies (Operand.offset {us = us} {xs = xs} {ys = ys} {by = by} p takes behind split) =
        λ all. let is = operand_lies p (left_of us xs ys split all) in record { of_term = is.of_term; of_offset = spanned.offsets ys by behind; of_fixed = is.of_fixed }
    operand_lies (Operand.time {us = us} {xs = xs} {ys = ys} {fixed = fixed} p takes behind split) =
        λ all. let is = operand_lies p (left_of us xs ys split all) in record { of_term = is.of_term; of_offset = is.of_offset; of_fixed = spanned.times ys fixed behind }

    pub phrase_lies : {b level d : ℕ} {xs : List Lexeme} {e : Expr} → Phrase b level xs e d → All xs → Lies e d
    phrase_lies (Phrase.operand {at = at} {d = d} {term = term} {offset = offset} {fixed = fixed} p) = λ all. operand_tree at term offset fixed d (operand_lies p all)
    phrase_lies (Phrase.power {at = at} {m = m} {n = n} {term = term} {offset = offset} {fixed = fixed} {us = us} {xs = xs} {ys = ys} {zs = zs} {r = r} {matching = matching} caret p is between q apart split) =
        λ all. sides_lie at (ops.Arith Pow) matching (term_tree at term (moment_of offset fixed)) r m n
        (operand_tree at term offset fixed m (operand_lies p (left_of us xs (caret ∷ (ys ++ zs)) split all))) (phrase_lies q (right_side us xs ys zs caret split all))
    phrase_lies (Phrase.minus {d = d} {e = e} sign is p) = λ all. negate_lies sign.at e d (phrase_lies p all.1)
    phrase_lies (Phrase.plus {d = d} {e = e} sign is p) = λ all. paren_lies sign.at e d (phrase_lies p all.1)
    phrase_lies (Phrase.tighter p) = phrase_lies p
    phrase_lies (Phrase.binary {m = m} {n = n} {us = us} {xs = xs} {ys = ys} {zs = zs} {op = op} {l = l} {r = r} {matching = matching} sign p is between q apart split) =
        λ all. sides_lie l.at op matching l r m n (phrase_lies p (left_of us xs (sign ∷ (ys ++ zs)) split all)) (phrase_lies q (right_side us xs ys zs sign split all))

-- whatever lexemes there are
all_plain : (ls : List Lexeme) → AllByRecursion (λ (l : Lexeme). ⊤) ls
all_plain [] = tt
all_plain (l ∷ ls) = (tt, all_plain ls)

moment_within : (HoldsOf : List Rule → Type 0) (offset : Option Ms) (fixed : Option Fixed) → IsOffsetWithin offset → IsFixedWithin time_limit fixed
    → IsWithin HoldsOf hundred_years time_limit (Part.of_moment (moment_of offset fixed))
moment_within HoldsOf None fixed is within = (within, (omega (arith, ints), omega (arith, ints)))
moment_within HoldsOf (Some by) fixed is within = (within, is)

moment_open : (offset : Option Ms) (fixed : Option Fixed) → IsEdged false (Part.of_moment (moment_of offset fixed))
moment_open None fixed = refl
moment_open (Some by) fixed = refl

pub depths_are_told : Spanned → DepthsAreTold
depths_are_told spanned ls e d is = (phrase_lies spanned (λ l. ⊤) (λ part. ⊤) (λ ls at rules all is. tt) (λ length is. tt) (λ offset fixed is so. tt) is (all_plain ls)).deep

pub queries_are_within : Spanned → RulesHaveTheirs → QueriesAreWithin
queries_are_within spanned rules kept ls e d all is =
    let P : List Rule → Type 0 = HaveTheirPatterns kept in
    (phrase_lies spanned (λ l. HasPattern kept l.kind) (IsWithin P hundred_years time_limit) (rules kept) (λ length is. is) (moment_within P) is all).limited

pub queries_are_open : Spanned → (ls : List Lexeme) (e : Expr) (d : ℕ) → IsQuery ls e d → AreEdged false e
queries_are_open spanned ls e d is =
    (phrase_lies spanned (λ l. ⊤) (IsEdged false) (λ ls at rules all is. tt) (λ length is. tt) (λ offset fixed is so. moment_open offset fixed) is (all_plain ls)).limited
