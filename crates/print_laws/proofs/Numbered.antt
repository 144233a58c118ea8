-- The numbers of the patterns of a query's lexemes are those of its tree's rules, in the order of the text.
use Rattle.std.proofs.Common.{◌≡◌, ◌∙◌, ℕ, ◌++◌, Bool, List, [], ◌∷◌, map, refl, ap, ap₂, sym, append_assoc}
use Rattle.std.specs.Prelude.{Option, Some, Ok}
use Rattle.func_table.specs.declared.table.Aggregate.{Aggregate}
use Rattle.func_table.specs.declared.table.Func.{Func}
use Rattle.label_set.specs.declared.rules.Card.{Card}
use Rattle.label_set.specs.declared.rules.Grouping.{Grouping}
use Rattle.label_set.specs.declared.rules.Pairing.{Pairing}
use Rattle.label_set.specs.declared.rules.Rule.{Rule}
use Rattle.label_set.specs.declared.rules.RuleKind.{RuleKind}
use Rattle.label_set.specs.declared.rules.RuleKind.TheVariants.{Re as Matching, Nre}
use Rattle.promql_ast.specs.Folds.{fold-Aggregate, fold-Call, fold-Negate, fold-Number, fold-Pair, fold-Paren, fold-Range, fold-Select, fold-Set, fold-Subquery, fold-Words}
use Rattle.promql_ast.specs.declared.tree.Expr.{Expr}
use Rattle.promql_ast.specs.declared.tree.Fixed.{Fixed}
use Rattle.promql_ast.specs.declared.tree.Moment.{Moment}
use Rattle.promql_ast.specs.declared.tree.Node.TheOpen.{Node-F}
use Rattle.promql_ast.specs.declared.tree.Node.TheFolds.{fold-Expr}
use Rattle.promql_ast.specs.declared.tree.Node.TheVariants.{Number, Words, Paren, Negate, Select, Range, Subquery, Call, Aggregate as Aggregated}
use Rattle.promql_parse.specs.Build.{moment_of, node_of, selector_of, tree}
use Rattle.promql_parse.specs.Grammar.{ArgumentList, Body, IsQuery, Operand, Phrase, Primary, Term, another, a_range, a_selector, a_subquery, term_tree}
use Rattle.promql_parts.specs.Labels.{label_of, no_grouping}
use Rattle.promql_parts.specs.Operators.{group_word, matching_word, op_of}
use Rattle.promql_parts.specs.Productions.{BinModifier, BoolModifier, GroupModifiers, Grouped, IsLength, IsSign, IsWord, LabelList, Labels, MatcherList, Matchers, OffsetBehind, OneMatcher, RangeBrackets, Selected, Signed, StepBrackets, TimeBehind, metric_name}
use Rattle.promql_parts.specs.Spans.{amount_kind}
use Rattle.promql_parts.specs.Steps.{no_ok, no_some}
use Rattle.promql_parts.specs.declared.lexeme.Lexeme.{Lexeme}
use Rattle.promql_parts.specs.declared.lexeme.LexemeKind.{LexemeKind}
use Rattle.promql_parts.specs.declared.lexeme.LexemeKind.TheVariants as kinds
use Rattle.promql_parts.specs.declared.lexeme.Sign.{Sign}
use Rattle.promql_parts.specs.declared.operator.BinaryOp.{BinaryOp}
use Rattle.promql_parts.specs.declared.operator.BinaryOp.TheVariants as ops
use Rattle.promql_parts.specs.declared.operator.Matching.{Matching as Matched}
use Rattle.promql_parts.specs.declared.selector.Matcher.{Matcher}
use Rattle.promql_lex.specs.declared.word.Word.{Word}
use Rattle.ticks.specs.declared.moment.Ms.{Ms}
use Rattle.xfrac.specs.declared.value.ArithOp.TheVariants.{Pow}
use Rattle.xfrac.specs.declared.value.XFrac.{XFrac}
use Rattle.print_laws.proofs.Items.{append_nil}
use Rattle.print_laws.proofs.Nodes.{bare_aggregate, bare_call, bare_negate, bare_number, bare_paren, bare_range, bare_select, bare_sides, bare_subquery, bare_words}
use Rattle.print_laws.specs.Same.{unplaced}

-- ---- lexemes

abbrev pub kind_numbers : LexemeKind → List ℕ
kind_numbers (kinds.Pattern id passes_empty) = id.0 ∷ []
kind_numbers _ = []

-- the numbers of the patterns among some lexemes
abbrev pub numbers : List Lexeme → List ℕ
numbers [] = []
numbers (l ∷ ls) = kind_numbers l.kind ++ numbers ls

pub numbers_joined : (xs ys : List Lexeme) → numbers (xs ++ ys) ≡ numbers xs ++ numbers ys
numbers_joined [] ys = refl
numbers_joined (x ∷ xs) ys = ap (λ ns. kind_numbers x.kind ++ ns) (numbers_joined xs ys) ∙ sym (append_assoc (kind_numbers x.kind) (numbers xs) (numbers ys))

abbrev HasNone : List Lexeme → Type 0
HasNone ls = numbers ls ≡ []

abbrev IsNone : Lexeme → Type 0
IsNone l = kind_numbers l.kind ≡ []

first : (l : Lexeme) (ls : List Lexeme) (ns : List ℕ) → IsNone l → numbers ls ≡ ns → numbers (l ∷ ls) ≡ ns
first l ls ns is more = ap (λ ms. ms ++ numbers ls) is ∙ more

both : (us xs ys : List Lexeme) (ms ns : List ℕ) → us ≡ xs ++ ys → numbers xs ≡ ms → numbers ys ≡ ns → numbers us ≡ ms ++ ns
both us xs ys ms ns split is more = ap numbers split ∙ numbers_joined xs ys ∙ ap₂ (λ a b. a ++ b) is more

-- some lexemes, and some without a pattern
front_alone : (us xs ys : List Lexeme) (ns : List ℕ) → us ≡ xs ++ ys → numbers xs ≡ ns → HasNone ys → numbers us ≡ ns
front_alone us xs ys ns split is none = both us xs ys ns [] split is none ∙ append_nil ns

none_joined : (us xs ys : List Lexeme) → us ≡ xs ++ ys → HasNone xs → HasNone ys → HasNone us
none_joined us xs ys split is none = both us xs ys [] [] split is none

of_sign : (sign : Sign) (l : Lexeme) → IsSign sign l → IsNone l
of_sign sign l is = ap kind_numbers is

of_word : (w : Word) (l : Lexeme) → IsWord w l → IsNone l
of_word w l is = ap kind_numbers is.1

kind_of_label : (kind : LexemeKind) (label : List ℕ) → label_of kind ≡ Some label → kind_numbers kind ≡ []
kind_of_label (kinds.Pattern id passes_empty) label is = no_some label is
kind_of_label _ label is = refl

kind_of_name : (kind : LexemeKind) (name : List ℕ) → metric_name kind ≡ Some name → kind_numbers kind ≡ []
kind_of_name (kinds.Pattern id passes_empty) name is = no_some name is
kind_of_name _ name is = refl

kind_of_amount : (most : ℕ) (l : Lexeme) (kind : LexemeKind) (n : ℕ) → amount_kind most l kind ≡ Ok n → kind_numbers kind ≡ []
kind_of_amount most l (kinds.Pattern id passes_empty) n is = no_ok _ n is
kind_of_amount most l _ n is = refl

kind_of_match : (kind : LexemeKind) (on : Bool) → matching_word kind ≡ Some on → kind_numbers kind ≡ []
kind_of_match (kinds.Pattern id passes_empty) on is = no_some on is
kind_of_match _ on is = refl

kind_of_group : (kind : LexemeKind) (card : Card) → group_word kind ≡ Some card → kind_numbers kind ≡ []
kind_of_group (kinds.Pattern id passes_empty) card is = no_some card is
kind_of_group _ card is = refl

kind_of_op : (level : ℕ) (kind : LexemeKind) (op : BinaryOp) → op_of level kind ≡ Some op → kind_numbers kind ≡ []
kind_of_op level (kinds.Pattern id passes_empty) op is = no_some op is
kind_of_op level _ op is = refl

-- ---- parts without patterns

label_list_none : {taken : List (List ℕ)} {xs : List Lexeme} {labels : List (List ℕ)} → LabelList taken xs labels → HasNone xs
label_list_none (LabelList.one l label is) = first l [] [] (kind_of_label l.kind label is.named) refl
label_list_none (LabelList.more {us = us} {xs = xs} comma l label list sign is split) =
    none_joined us xs (comma ∷ l ∷ []) split (label_list_none list) (first comma (l ∷ []) [] (of_sign _ comma sign) (first l [] [] (kind_of_label l.kind label is.named) refl))

labels_none : {taken : List (List ℕ)} {xs : List Lexeme} {labels : List (List ℕ)} → Labels taken xs labels → HasNone xs
labels_none (Labels.none begin close opens closes) = first begin (close ∷ []) [] (of_sign _ begin opens) (first close [] [] (of_sign _ close closes) refl)
labels_none (Labels.listed {us = us} {xs = xs} begin close opens list closes split) =
    ap numbers split ∙ first begin (xs ++ close ∷ []) [] (of_sign _ begin opens) (none_joined (xs ++ close ∷ []) xs (close ∷ []) refl (label_list_none list) (first close [] [] (of_sign _ close closes) refl))
labels_none (Labels.last_comma {us = us} {xs = xs} begin comma close opens list sign closes split) =
    ap numbers split
    ∙ first begin (xs ++ comma ∷ close ∷ []) [] (of_sign _ begin opens)
    (none_joined (xs ++ comma ∷ close ∷ []) xs (comma ∷ close ∷ []) refl (label_list_none list) (first comma (close ∷ []) [] (of_sign _ comma sign) (first close [] [] (of_sign _ close closes) refl)))

grouped_none : {xs : List Lexeme} {grouping : Grouping} → Grouped xs grouping → HasNone xs
grouped_none (Grouped.by {xs = xs} l is list) = first l xs [] (of_word _ l is) (labels_none list)
grouped_none (Grouped.without {xs = xs} l is list) = first l xs [] (of_word _ l is) (labels_none list)

length_none : (l : Lexeme) (length : Ms) → IsLength l length → IsNone l
length_none l length is = kind_of_amount _ l l.kind is.n is.amount

range_none : {xs : List Lexeme} {length : Ms} → RangeBrackets xs length → HasNone xs
range_none (RangeBrackets.range begin l close length opens is closes) =
    first begin (l ∷ close ∷ []) [] (of_sign _ begin opens) (first l (close ∷ []) [] (length_none l length is) (first close [] [] (of_sign _ close closes) refl))

steps_none : {xs : List Lexeme} {length step : Ms} → StepBrackets xs length step → HasNone xs
steps_none (StepBrackets.without_step begin l colon close length opens is sign closes) =
    first begin (l ∷ colon ∷ close ∷ []) [] (of_sign _ begin opens)
    (first l (colon ∷ close ∷ []) [] (length_none l length is) (first colon (close ∷ []) [] (of_sign _ colon sign) (first close [] [] (of_sign _ close closes) refl)))
steps_none (StepBrackets.with_step begin l colon s close length step opens is sign step_is closes) =
    first begin (l ∷ colon ∷ s ∷ close ∷ []) [] (of_sign _ begin opens)
    (first l (colon ∷ s ∷ close ∷ []) [] (length_none l length is)
    (first colon (s ∷ close ∷ []) [] (of_sign _ colon sign) (first s (close ∷ []) [] (length_none s step step_is) (first close [] [] (of_sign _ close closes) refl))))

signed_none : {most : ℕ} {xs : List Lexeme} {time : Ms} → Signed most xs time → HasNone xs
signed_none {most = most} (Signed.unsigned l n is) = first l [] [] (kind_of_amount most l l.kind n is) refl
signed_none {most = most} (Signed.plus sign l n signs is) = first sign (l ∷ []) [] (of_sign _ sign signs) (first l [] [] (kind_of_amount most l l.kind n is) refl)
signed_none {most = most} (Signed.minus sign l n signs is) = first sign (l ∷ []) [] (of_sign _ sign signs) (first l [] [] (kind_of_amount most l l.kind n is) refl)

offset_none : {xs : List Lexeme} {by : Ms} → OffsetBehind xs by → HasNone xs
offset_none (OffsetBehind.offset {xs = xs} l is signs) = first l xs [] (of_word _ l is) (signed_none signs)

time_none : {xs : List Lexeme} {fixed : Fixed} → TimeBehind xs fixed → HasNone xs
time_none (TimeBehind.time {xs = xs} sign is signs) = first sign xs [] (of_sign _ sign is) (signed_none signs)
time_none (TimeBehind.start sign l begin close is word_is opens closes) =
    first sign (l ∷ begin ∷ close ∷ []) [] (of_sign _ sign is) (first l (begin ∷ close ∷ []) [] (of_word _ l word_is) (first begin (close ∷ []) [] (of_sign _ begin opens) (first close [] [] (of_sign _ close closes) refl)))
time_none (TimeBehind.end sign l begin close is word_is opens closes) =
    first sign (l ∷ begin ∷ close ∷ []) [] (of_sign _ sign is) (first l (begin ∷ close ∷ []) [] (of_word _ l word_is) (first begin (close ∷ []) [] (of_sign _ begin opens) (first close [] [] (of_sign _ close closes) refl)))

bool_none : {op : BinaryOp} {xs : List Lexeme} {flag : Bool} → BoolModifier op xs flag → HasNone xs
bool_none BoolModifier.none = refl
bool_none (BoolModifier.flag l is compares) = first l [] [] (of_word _ l is) refl

group_none : {op : BinaryOp} {xs : List Lexeme} {pairing : Pairing} {bare : Bool} → GroupModifiers op xs pairing bare → HasNone xs
group_none GroupModifiers.none = refl
group_none (GroupModifiers.listed {xs = xs} l on matches list) = first l xs [] (kind_of_match l.kind on matches) (labels_none list)
group_none (GroupModifiers.grouped {us = us} {xs = xs} l group on card matches list groups no_set split) =
    none_joined us (l ∷ xs) (group ∷ []) split (first l xs [] (kind_of_match l.kind on matches) (labels_none list)) (first group [] [] (kind_of_group group.kind card groups) refl)
group_none (GroupModifiers.grouped_with {us = us} {xs = xs} {ys = ys} l group on card matches list groups no_set more split) =
    none_joined us (l ∷ xs) (group ∷ ys) split (first l xs [] (kind_of_match l.kind on matches) (labels_none list)) (first group ys [] (kind_of_group group.kind card groups) (labels_none more))

modifier_none : {op : BinaryOp} {us : List Lexeme} {matching : Matched} {bare : Bool} → BinModifier op us matching bare → HasNone us
modifier_none (BinModifier.modifier {us = us} {xs = xs} {ys = ys} flags groups split) = none_joined us xs ys split (bool_none flags) (group_none groups)

-- ---- rules

abbrev test_numbers : RuleKind → List ℕ
test_numbers (Matching id) = id.0 ∷ []
test_numbers (Nre id) = id.0 ∷ []
test_numbers _ = []

abbrev rule_numbers : List Rule → List ℕ
rule_numbers [] = []
rule_numbers (rule ∷ rules) = test_numbers rule.kind ++ rule_numbers rules

rules_joined : (xs ys : List Rule) → rule_numbers (xs ++ ys) ≡ rule_numbers xs ++ rule_numbers ys
rules_joined [] ys = refl
rules_joined (x ∷ xs) ys = ap (λ ns. test_numbers x.kind ++ ns) (rules_joined xs ys) ∙ sym (append_assoc (test_numbers x.kind) (rule_numbers xs) (rule_numbers ys))

map_joined : (xs ys : List Matcher) → map (λ (m : Matcher). m.rule) (xs ++ ys) ≡ map (λ (m : Matcher). m.rule) xs ++ map (λ (m : Matcher). m.rule) ys
map_joined [] ys = refl
map_joined (x ∷ xs) ys = ap (λ rs. x.rule ∷ rs) (map_joined xs ys)

matcher_numbers : {xs : List Lexeme} {m : Matcher} → OneMatcher xs m → numbers xs ≡ test_numbers m.rule.kind
matcher_numbers (OneMatcher.equals l op v label text is sign value) =
    first l (op ∷ v ∷ []) [] (kind_of_label l.kind label is.named) (first op (v ∷ []) [] (of_sign _ op sign) (first v [] [] (ap kind_numbers value) refl))
matcher_numbers (OneMatcher.differs l op v label text is sign value) =
    first l (op ∷ v ∷ []) [] (kind_of_label l.kind label is.named) (first op (v ∷ []) [] (of_sign _ op sign) (first v [] [] (ap kind_numbers value) refl))
matcher_numbers (OneMatcher.passes l op v label id passes is sign value) =
    first l (op ∷ v ∷ []) (id.0 ∷ []) (kind_of_label l.kind label is.named) (first op (v ∷ []) (id.0 ∷ []) (of_sign _ op sign) (ap (λ ns. ns ++ []) (ap kind_numbers value)))
matcher_numbers (OneMatcher.fails l op v label id passes is sign value) =
    first l (op ∷ v ∷ []) (id.0 ∷ []) (kind_of_label l.kind label is.named) (first op (v ∷ []) (id.0 ∷ []) (of_sign _ op sign) (ap (λ ns. ns ++ []) (ap kind_numbers value)))
matcher_numbers (OneMatcher.quoted_name l text value) = first l [] [] (ap kind_numbers value) refl

matchers_numbers : {xs : List Lexeme} {ms : List Matcher} → MatcherList xs ms → numbers xs ≡ rule_numbers (map (λ m. m.rule) ms)
matchers_numbers (MatcherList.one {m = m} is) = matcher_numbers is ∙ sym (append_nil (test_numbers m.rule.kind))
matchers_numbers (MatcherList.more {us = us} {xs = xs} {ys = ys} {matchers = ms} {m = m} comma list sign is split) =
    both us xs (comma ∷ ys) (rule_numbers (map (λ m. m.rule) ms)) (test_numbers m.rule.kind) split (matchers_numbers list) (first comma ys (test_numbers m.rule.kind) (of_sign _ comma sign) (matcher_numbers is))
    ∙ ap (λ ns. rule_numbers (map (λ m. m.rule) ms) ++ ns) (sym (append_nil (test_numbers m.rule.kind)))
    ∙ sym (rules_joined (map (λ m. m.rule) ms) (m.rule ∷ [])) ∙ ap rule_numbers (sym (map_joined ms (m ∷ [])))

braces_numbers : {xs : List Lexeme} {ms : List Matcher} → Matchers xs ms → numbers xs ≡ rule_numbers (map (λ m. m.rule) ms)
braces_numbers (Matchers.none begin close opens closes) = first begin (close ∷ []) [] (of_sign _ begin opens) (first close [] [] (of_sign _ close closes) refl)
braces_numbers (Matchers.listed {us = us} {xs = xs} {matchers = ms} begin close opens list closes split) =
    ap numbers split
    ∙ first begin (xs ++ close ∷ []) (rule_numbers (map (λ m. m.rule) ms)) (of_sign _ begin opens)
    (front_alone (xs ++ close ∷ []) xs (close ∷ []) (rule_numbers (map (λ m. m.rule) ms)) refl (matchers_numbers list) (first close [] [] (of_sign _ close closes) refl))
braces_numbers (Matchers.last_comma {us = us} {xs = xs} {matchers = ms} begin comma close opens list sign closes split) =
    ap numbers split
    ∙ first begin (xs ++ comma ∷ close ∷ []) (rule_numbers (map (λ m. m.rule) ms)) (of_sign _ begin opens)
    (front_alone (xs ++ comma ∷ close ∷ []) xs (comma ∷ close ∷ []) (rule_numbers (map (λ m. m.rule) ms)) refl (matchers_numbers list)
    (first comma (close ∷ []) [] (of_sign _ comma sign) (first close [] [] (of_sign _ close closes) refl)))

selector_numbers : {xs : List Lexeme} {at : ℕ} {rules : List Rule} → Selected xs at rules → numbers xs ≡ rule_numbers rules
selector_numbers (Selected.named l name is) = first l [] [] (kind_of_name l.kind name is) refl
selector_numbers (Selected.named_braces {xs = xs} {matchers = ms} {rules = rules} l name is braces selector) =
    first l xs (rule_numbers (map (λ m. m.rule) ms)) (kind_of_name l.kind name is) (braces_numbers braces) ∙ ap rule_numbers (sym selector.all)
selector_numbers (Selected.braces {matchers = ms} {rules = rules} l braces selector) = braces_numbers braces ∙ ap rule_numbers (sym selector.all)

-- ---- trees

abbrev all_numbers : List (List ℕ) → List ℕ
all_numbers [] = []
all_numbers (ns ∷ lists) = ns ++ all_numbers lists

abbrev node_numbers : Node-F (List ℕ) (List ℕ) → List ℕ
node_numbers (Node-F.Number value) = []
node_numbers (Node-F.Words text) = []
node_numbers (Node-F.Paren inner) = inner
node_numbers (Node-F.Negate inner) = inner
node_numbers (Node-F.Select selector) = rule_numbers selector.rules
node_numbers (Node-F.Range selector range) = rule_numbers selector.rules
node_numbers (Node-F.Subquery inner range step moment) = inner
node_numbers (Node-F.Call f arguments) = all_numbers arguments
node_numbers (Node-F.Aggregate f grouping arguments) = all_numbers arguments
node_numbers (Node-F.Pair op left right pairing) = left ++ right
node_numbers (Node-F.Set op left right pairing) = left ++ right

-- the numbers of the patterns of a tree's rules, from left to right
abbrev pub numbers_in : Expr → List ℕ
numbers_in = fold-Expr (List ℕ) (List ℕ) node_numbers (λ e. e.node)

-- those of a tree apart from places
abbrev Bare : Expr → List ℕ
Bare e = numbers_in (unplaced e)

sides_numbers : (op : BinaryOp) (m : Matched) (l r : Expr) → numbers_in (tree 0 (node_of op m l r)) ≡ numbers_in l ++ numbers_in r
sides_numbers (ops.Arith op) m l r = fold-Pair node_numbers (λ e. e.node) (tree 0 (node_of (ops.Arith op) m l r)) _ l r m.pairing refl
sides_numbers (ops.Compare op) m l r = fold-Pair node_numbers (λ e. e.node) (tree 0 (node_of (ops.Compare op) m l r)) _ l r m.pairing refl
sides_numbers (ops.Set op) m l r = fold-Set node_numbers (λ e. e.node) (tree 0 (node_of (ops.Set op) m l r)) op l r m.pairing refl

in_sides : (at : ℕ) (op : BinaryOp) (m : Matched) (l r : Expr) → Bare (tree at (node_of op m l r)) ≡ Bare l ++ Bare r
in_sides at op m l r = ap numbers_in (bare_sides at op m l r) ∙ sides_numbers op m (unplaced l) (unplaced r)

in_paren : (at : ℕ) (e : Expr) → Bare (tree at (Paren e)) ≡ Bare e
in_paren at e = ap numbers_in (bare_paren at e) ∙ fold-Paren node_numbers (λ e. e.node) (tree 0 (Paren (unplaced e))) (unplaced e) refl

in_negate : (at : ℕ) (e : Expr) → Bare (tree at (Negate e)) ≡ Bare e
in_negate at e = ap numbers_in (bare_negate at e) ∙ fold-Negate node_numbers (λ e. e.node) (tree 0 (Negate (unplaced e))) (unplaced e) refl

in_number : (at : ℕ) (value : XFrac) → Bare (tree at (Number value)) ≡ []
in_number at value = ap numbers_in (bare_number at value) ∙ fold-Number node_numbers (λ e. e.node) (tree 0 (Number value)) value refl

in_words : (at : ℕ) (text : List ℕ) → Bare (tree at (Words text)) ≡ []
in_words at text = ap numbers_in (bare_words at text) ∙ fold-Words node_numbers (λ e. e.node) (tree 0 (Words text)) text refl

in_call : (at : ℕ) (f : Func) (es : List Expr) → Bare (tree at (Call f es)) ≡ all_numbers (map numbers_in (map unplaced es))
in_call at f es = ap numbers_in (bare_call at f es) ∙ fold-Call node_numbers (λ e. e.node) (tree 0 (Call f (map unplaced es))) f (map unplaced es) refl

in_aggregate : (at : ℕ) (f : Aggregate) (grouping : Grouping) (es : List Expr) → Bare (tree at (Aggregated f grouping es)) ≡ all_numbers (map numbers_in (map unplaced es))
in_aggregate at f grouping es =
    ap numbers_in (bare_aggregate at f grouping es) ∙ fold-Aggregate node_numbers (λ e. e.node) (tree 0 (Aggregated f grouping (map unplaced es))) f grouping (map unplaced es) refl

abbrev term_numbers : Term → List ℕ
term_numbers (a_selector rules) = rule_numbers rules
term_numbers (a_range rules range) = rule_numbers rules
term_numbers (a_subquery e range step) = Bare e
term_numbers (another e) = Bare e

in_term : (at : ℕ) (term : Term) (moment : Moment) → Bare (term_tree at term moment) ≡ term_numbers term
in_term at (a_selector rules) moment =
    ap numbers_in (bare_select at (selector_of rules moment)) ∙ fold-Select node_numbers (λ e. e.node) (tree 0 (Select (selector_of rules moment))) (selector_of rules moment) refl
in_term at (a_range rules range) moment =
    ap numbers_in (bare_range at (selector_of rules moment) range)
    ∙ fold-Range node_numbers (λ e. e.node) (tree 0 (Range (selector_of rules moment) range)) (selector_of rules moment) range refl
in_term at (a_subquery e range step) moment =
    ap numbers_in (bare_subquery at e range step moment)
    ∙ fold-Subquery node_numbers (λ e. e.node) (tree 0 (Subquery (unplaced e) range step moment)) (unplaced e) range step moment refl
in_term at (another e) moment = refl

-- ---- productions

abbrev Bares : List Expr → List ℕ
Bares es = all_numbers (map numbers_in (map unplaced es))

bares_last : (es : List Expr) (e : Expr) → Bares (es ++ e ∷ []) ≡ Bares es ++ Bare e
bares_last [] e = append_nil (Bare e)
bares_last (f ∷ es) e = ap (λ ns. Bare f ++ ns) (bares_last es e) ∙ sym (append_assoc (Bare f) (Bares es) (Bare e))

-- an operator, what stands behind it, and its right side
behind_sign : (sign : Lexeme) (ys zs : List Lexeme) (ns : List ℕ) → IsNone sign → HasNone ys → numbers zs ≡ ns → numbers (sign ∷ (ys ++ zs)) ≡ ns
behind_sign sign ys zs ns is none right = first sign (ys ++ zs) ns is (both (ys ++ zs) ys zs [] ns refl none right)

enclosed : (us xs : List Lexeme) (begin close : Lexeme) (opens closes : Sign) (ns : List ℕ) → us ≡ begin ∷ xs ++ close ∷ [] → IsSign opens begin → IsSign closes close → numbers xs ≡ ns → numbers us ≡ ns
enclosed us xs begin close opens closes ns split is is_close inner =
    ap numbers split ∙ first begin (xs ++ close ∷ []) ns (of_sign opens begin is) (front_alone (xs ++ close ∷ []) xs (close ∷ []) ns refl inner (first close [] [] (of_sign closes close is_close) refl))

mutual
  primary_numbers : {b d : ℕ} {xs : List Lexeme} {e : Expr} → Primary b xs e d → numbers xs ≡ Bare e
  primary_numbers (Primary.number l value is) = first l [] [] (ap kind_numbers is) refl ∙ sym (in_number l.at value)
  primary_numbers (Primary.duration l duration value is so) = first l [] [] (ap kind_numbers is) refl ∙ sym (in_number l.at value)
  primary_numbers (Primary.words l text is) = first l [] [] (ap kind_numbers is) refl ∙ sym (in_words l.at text)
  primary_numbers (Primary.paren {us = us} {xs = xs} {e = e} begin close opens p closes split) = enclosed us xs begin close _ _ (Bare e) split opens closes (phrase_numbers p) ∙ sym (in_paren begin.at e)
  primary_numbers (Primary.call {xs = xs} {es = es} l name f is known inner) = first l xs (Bares es) (ap kind_numbers is) (body_numbers inner) ∙ sym (in_call l.at f es)
  primary_numbers (Primary.call_of_none l begin close name f is known opens closes) =
      first l (begin ∷ close ∷ []) [] (ap kind_numbers is) (first begin (close ∷ []) [] (of_sign _ begin opens) (first close [] [] (of_sign _ close closes) refl)) ∙ sym (in_call l.at f [])
  primary_numbers (Primary.aggregate {xs = xs} {es = es} l f is inner) = first l xs (Bares es) (of_word _ l is) (body_numbers inner) ∙ sym (in_aggregate l.at f no_grouping es)
  primary_numbers (Primary.grouped_before {us = us} {xs = xs} {ys = ys} {es = es} {grouping = grouping} l f word_is is inner split) =
      both us (l ∷ xs) ys [] (Bares es) split (first l xs [] (of_word _ l word_is) (grouped_none is)) (body_numbers inner) ∙ sym (in_aggregate l.at f grouping es)
  primary_numbers (Primary.grouped_behind {us = us} {xs = xs} {ys = ys} {es = es} {grouping = grouping} l f word_is inner is split) =
      front_alone us (l ∷ xs) ys (Bares es) split (first l xs (Bares es) (of_word _ l word_is) (body_numbers inner)) (grouped_none is) ∙ sym (in_aggregate l.at f grouping es)

  body_numbers : {b d : ℕ} {us : List Lexeme} {es : List Expr} → Body b us es d → numbers us ≡ Bares es
  body_numbers (Body.body {us = us} {xs = xs} {es = es} begin close opens list closes split) = enclosed us xs begin close _ _ (Bares es) split opens closes (arguments_numbers list)

  arguments_numbers : {b d : ℕ} {xs : List Lexeme} {es : List Expr} → ArgumentList b xs es d → numbers xs ≡ Bares es
  arguments_numbers (ArgumentList.one {e = e} p) = phrase_numbers p ∙ sym (append_nil (Bare e))
  arguments_numbers (ArgumentList.more {us = us} {xs = xs} {ys = ys} {es = es} {e = e} comma list sign p split) =
      both us xs (comma ∷ ys) (Bares es) (Bare e) split (arguments_numbers list) (first comma ys (Bare e) (of_sign _ comma sign) (phrase_numbers p)) ∙ sym (bares_last es e)

  operand_numbers : {b at d : ℕ} {term : Term} {offset : Option Ms} {fixed : Option Fixed} {xs : List Lexeme} → Operand b term offset fixed xs at d → numbers xs ≡ term_numbers term
  operand_numbers (Operand.selector is) = selector_numbers is
  operand_numbers (Operand.primary p) = primary_numbers p
  operand_numbers (Operand.range {us = us} {xs = xs} {ys = ys} {rules = rules} p brackets split) = front_alone us xs ys (rule_numbers rules) split (operand_numbers p) (range_none brackets)
  operand_numbers (Operand.subquery {at = at} {term = term} {offset = offset} {fixed = fixed} {us = us} {xs = xs} {ys = ys} p brackets split) =
      front_alone us xs ys (term_numbers term) split (operand_numbers p) (steps_none brackets) ∙ sym (in_term at term (moment_of offset fixed))
  operand_numbers (Operand.offset {term = term} {us = us} {xs = xs} {ys = ys} p takes behind split) = front_alone us xs ys (term_numbers term) split (operand_numbers p) (offset_none behind)
  operand_numbers (Operand.time {term = term} {us = us} {xs = xs} {ys = ys} p takes behind split) = front_alone us xs ys (term_numbers term) split (operand_numbers p) (time_none behind)

  phrase_numbers : {b level d : ℕ} {xs : List Lexeme} {e : Expr} → Phrase b level xs e d → numbers xs ≡ Bare e
  phrase_numbers (Phrase.operand {at = at} {term = term} {offset = offset} {fixed = fixed} p) = operand_numbers p ∙ sym (in_term at term (moment_of offset fixed))
  phrase_numbers (Phrase.power {at = at} {term = term} {offset = offset} {fixed = fixed} {us = us} {xs = xs} {ys = ys} {zs = zs} {r = r} {matching = matching} caret p is between q apart split) =
      both us xs (caret ∷ (ys ++ zs)) (Bare (term_tree at term (moment_of offset fixed))) (Bare r) split (operand_numbers p ∙ sym (in_term at term (moment_of offset fixed)))
      (behind_sign caret ys zs (Bare r) (of_sign _ caret is) (modifier_none between) (phrase_numbers q))
      ∙ sym (in_sides at (ops.Arith Pow) matching (term_tree at term (moment_of offset fixed)) r)
  phrase_numbers (Phrase.minus {xs = xs} {e = e} sign is p) = first sign xs (Bare e) (of_sign _ sign is) (phrase_numbers p) ∙ sym (in_negate sign.at e)
  phrase_numbers (Phrase.plus {xs = xs} {e = e} sign is p) = first sign xs (Bare e) (of_sign _ sign is) (phrase_numbers p) ∙ sym (in_paren sign.at e)
  phrase_numbers (Phrase.tighter p) = phrase_numbers p
  phrase_numbers (Phrase.binary {level = level} {us = us} {xs = xs} {ys = ys} {zs = zs} {op = op} {l = l} {r = r} {matching = matching} sign p is between q apart split) =
      both us xs (sign ∷ (ys ++ zs)) (Bare l) (Bare r) split (phrase_numbers p) (behind_sign sign ys zs (Bare r) (kind_of_op _ sign.kind op is) (modifier_none between) (phrase_numbers q))
      ∙ sym (in_sides l.at op matching l r)

-- of a query, the numbers of its lexemes' patterns are those of its rules
pub query_numbers : (ls : List Lexeme) (e : Expr) (depth : ℕ) → IsQuery ls e depth → numbers ls ≡ numbers_in (unplaced e)
query_numbers ls e depth is = phrase_numbers is
