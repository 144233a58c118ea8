-- The calls of a query begin where lexemes of it do, each at one of its own.
use Rattle.std.proofs.Common.{◌≡◌, ◌∙◌, ℕ, ◌+◌, ◌<◌, ◌≤◌, List, [], ◌∷◌, ◌++◌, map, refl, sym, subst, ap, arith, append-nil, append_assoc, Option, Some, None}
use Rattle.std.specs.List.{AllByRecursion}
use Rattle.std.specs.Prelude.{⊤}
use Rattle.holders.specs.Joins.{both_of}
use Rattle.func_table.specs.declared.table.Aggregate.{Aggregate}
use Rattle.func_table.specs.declared.table.Func.{Func}
use Rattle.func_table.specs.declared.table.Func.TheVariants as func
use Rattle.label_set.specs.declared.rules.Grouping.{Grouping}
use Rattle.label_set.specs.declared.rules.Rule.{Rule}
use Rattle.promql_ast.specs.Folds.{fold-Aggregate, fold-Call, fold-Negate, fold-Number, fold-Pair, fold-Paren, fold-Range, fold-Select, fold-Set, fold-Subquery, fold-Words}
use Rattle.promql_ast.specs.declared.tree.Expr.{Expr}
use Rattle.promql_ast.specs.declared.tree.Fixed.{Fixed}
use Rattle.promql_ast.specs.declared.tree.Moment.{Moment}
use Rattle.promql_ast.specs.declared.tree.Node.TheVariants.{Number, Words, Paren, Negate, Select, Range, Subquery, Call, Aggregate as Aggregated, Pair, Set}
use Rattle.promql_parse.specs.Build.{moment_of, node_of, selector_of, tree}
use Rattle.promql_parse.specs.Grammar.{ArgumentList, Body, Operand, Phrase, Primary, Term, another, a_range, a_selector, a_subquery, term_tree}
use Rattle.promql_parts.specs.Labels.{no_grouping}
use Rattle.promql_parts.specs.declared.lexeme.Lexeme.{Lexeme}
use Rattle.promql_parts.specs.declared.operator.BinaryOp.{BinaryOp}
use Rattle.promql_parts.specs.declared.operator.BinaryOp.TheVariants as ops
use Rattle.promql_parts.specs.declared.operator.Matching.{Matching}
use Rattle.promql_type.specs.Judging.{Judgement, all_replacements, expr_step, judged, literal_at, node_step, pattern_of}
use Rattle.promql_type.specs.Rules.{Literal}
use Rattle.promql_type.specs.Settled.{kind_of, settled, settled_expr, settled_pairing, settled_step}
use Rattle.promql_type.specs.declared.replace.Replacement.{Replacement}
use Rattle.ticks.specs.declared.moment.Ms.{Ms}
use Rattle.xfrac.specs.declared.value.ArithOp.TheVariants.{Pow}
use Rattle.xfrac.specs.declared.value.PairOp.{PairOp}
use Rattle.label_set.specs.declared.rules.Pairing.{Pairing}
use Rattle.func_table.specs.declared.table.SetOp.{SetOp}
use Rattle.query_places.specs.Apart.{StandApart}

-- the calls of the typed tree
abbrev pub calls_of : Expr → List Replacement
calls_of e = (judged (settled e)).replacements

abbrev IsIn : ℕ → ℕ → Replacement → Type 0
IsIn low high r = (low ≤ r.at) × (r.at < high)

-- calls from one place up to another, no two at one place
pub record Spread (low high : ℕ) (rs : List Replacement) : Type 0 where
  pub within : AllByRecursion (IsIn low high) rs
  pub apart : StandApart rs

-- lexemes whose places rise from one place up to another
abbrev pub Lie : ℕ → List Lexeme → ℕ → Type 0
Lie low [] high = low ≤ high
Lie low (l ∷ ls) high = (low ≤ l.at) × Lie (l.at + 1) ls high

pub lie_le : (low : ℕ) (ls : List Lexeme) (high : ℕ) → Lie low ls high → low ≤ high
lie_le low [] high lie = lie
lie_le low (l ∷ ls) high lie = let h = lie_le (l.at + 1) ls high lie.1 in let k = lie.0 in omega arith

pub record Parted (low : ℕ) (xs ys : List Lexeme) (high : ℕ) : Type 0 where
  pub middle : ℕ
  pub front : Lie low xs middle
  pub back : Lie middle ys high

pub parted : (low : ℕ) (xs ys : List Lexeme) (high : ℕ) → Lie low (xs ++ ys) high → Parted low xs ys high
parted low [] ys high lie = record { middle = low; front = omega arith; back = lie }
parted low (x ∷ xs) ys high lie =
    let rest = parted (x.at + 1) xs ys high lie.1 in
    record { middle = rest.middle; front = (lie.0, rest.front); back = rest.back }

-- ---- calls side by side

wider_in : (a b low high : ℕ) → low ≤ a → b ≤ high → (rs : List Replacement) → AllByRecursion (IsIn a b) rs → AllByRecursion (IsIn low high) rs
wider_in a b low high l h [] all = tt
wider_in a b low high l h (r ∷ rs) all = let x = all.0.0 in let y = all.0.1 in ((omega arith, omega arith), wider_in a b low high l h rs all.1)

wider : (a b low high : ℕ) (rs : List Replacement) → low ≤ a → b ≤ high → Spread a b rs → Spread low high rs
wider a b low high rs l h s = record { within = wider_in a b low high l h rs s.within; apart = s.apart }

nothing : (low high : ℕ) → Spread low high []
nothing low high = record { within = tt; apart = tt }

-- a call before others is at none of their places
before_all : (p middle high : ℕ) (ss : List Replacement) → p < middle → AllByRecursion (IsIn middle high) ss → AllByRecursion (λ (s : Replacement). p ≡ s.at → ⊥) ss
before_all p middle high [] below all = tt
before_all p middle high (s ∷ ss) below all = let x = all.0.0 in ((λ same. absurd (omega (arith, same, x, below))), before_all p middle high ss below all.1)

side_by_side : (low middle high : ℕ) (rs ss : List Replacement) → AllByRecursion (IsIn low middle) rs → StandApart rs → AllByRecursion (IsIn middle high) ss → StandApart ss → StandApart (rs ++ ss)
side_by_side low middle high [] ss in_rs rs_apart in_ss ss_apart = ss_apart
side_by_side low middle high (r ∷ rs) ss in_rs rs_apart in_ss ss_apart = (
  both_of (λ (s : Replacement). r.at ≡ s.at → ⊥) rs ss rs_apart.0 (before_all r.at middle high ss in_rs.0.1 in_ss),
  side_by_side low middle high rs ss in_rs.1 rs_apart.1 in_ss ss_apart,
)

joined : (low middle high : ℕ) (rs ss : List Replacement) → low ≤ middle → middle ≤ high → Spread low middle rs → Spread middle high ss → Spread low high (rs ++ ss)
joined low middle high rs ss l h r s = record {
  within = both_of (IsIn low high) rs ss (wider_in low middle low high (omega arith) h rs r.within) (wider_in middle high low high l (omega arith) ss s.within);
  apart = side_by_side low middle high rs ss r.within r.apart s.within s.apart;
}

-- a call whose own place is before those of the calls in it
behind_all : (p : ℕ) (rs : List Replacement) (own : Replacement) (high : ℕ) → own.at ≡ p → AllByRecursion (IsIn (p + 1) high) rs → StandApart rs → StandApart (rs ++ own ∷ [])
behind_all p [] own high is all apart = (tt, tt)
behind_all p (r ∷ rs) own high is all apart =
    let x = all.0.0 in (
      both_of (λ (s : Replacement). r.at ≡ s.at → ⊥) rs (own ∷ []) apart.0 ((λ same. absurd (omega (arith, same, x, is))), tt),
      behind_all p rs own high is all.1 apart.1,
    )

with_own : (low p high : ℕ) (rs : List Replacement) (own : Replacement) → own.at ≡ p → low ≤ p → p + 1 ≤ high → Spread (p + 1) high rs → Spread low high (rs ++ own ∷ [])
with_own low p high rs own is l h s = record {
  within = both_of (IsIn low high) rs (own ∷ []) (wider_in (p + 1) high low high (omega (arith, l)) (omega arith) rs s.within) ((omega (arith, is, l), omega (arith, is, h)), tt);
  apart = behind_all p rs own high is s.within s.apart;
}

without_own : (low p high : ℕ) (rs : List Replacement) → low ≤ p → p + 1 ≤ high → Spread (p + 1) high rs → Spread low high (rs ++ [])
without_own low p high rs l h s = subst (Spread low high) (sym (append-nil rs)) (wider (p + 1) high low high rs (omega (arith, l)) (omega arith) s)

-- ---- what the calls of a tree are

abbrev reps : Judgement → List Replacement
reps j = j.replacements

number_calls : (at : ℕ) (value : Rattle.xfrac.specs.declared.value.XFrac.XFrac) → calls_of (tree at (Number value)) ≡ []
number_calls at value =
    ap (λ (e : Expr). reps (judged e)) (fold-Number settled_step settled_expr (tree at (Number value)) value refl) ∙ ap reps (fold-Number node_step expr_step (tree at (Number value)) value refl)

words_calls : (at : ℕ) (text : List ℕ) → calls_of (tree at (Words text)) ≡ []
words_calls at text =
    ap (λ (e : Expr). reps (judged e)) (fold-Words settled_step settled_expr (tree at (Words text)) text refl) ∙ ap reps (fold-Words node_step expr_step (tree at (Words text)) text refl)

paren_calls : (at : ℕ) (inner : Expr) → calls_of (tree at (Paren inner)) ≡ calls_of inner
paren_calls at inner =
    ap (λ (e : Expr). reps (judged e)) (fold-Paren settled_step settled_expr (tree at (Paren inner)) inner refl)
    ∙ ap reps (fold-Paren node_step expr_step (tree at (Paren (settled inner))) (settled inner) refl)

negate_calls : (at : ℕ) (inner : Expr) → calls_of (tree at (Negate inner)) ≡ calls_of inner
negate_calls at inner =
    ap (λ (e : Expr). reps (judged e)) (fold-Negate settled_step settled_expr (tree at (Negate inner)) inner refl)
    ∙ ap reps (fold-Negate node_step expr_step (tree at (Negate (settled inner))) (settled inner) refl)

select_calls : (at : ℕ) (rules : List Rule) (moment : Moment) → calls_of (tree at (Select (selector_of rules moment))) ≡ []
select_calls at rules moment =
    ap (λ (e : Expr). reps (judged e)) (fold-Select settled_step settled_expr (tree at (Select (selector_of rules moment))) (selector_of rules moment) refl)
    ∙ ap reps (fold-Select node_step expr_step (tree at (Select (selector_of rules moment))) (selector_of rules moment) refl)

range_calls : (at : ℕ) (rules : List Rule) (moment : Moment) (range : Ms) → calls_of (tree at (Range (selector_of rules moment) range)) ≡ []
range_calls at rules moment range =
    ap (λ (e : Expr). reps (judged e)) (fold-Range settled_step settled_expr (tree at (Range (selector_of rules moment) range)) (selector_of rules moment) range refl)
    ∙ ap reps (fold-Range node_step expr_step (tree at (Range (selector_of rules moment) range)) (selector_of rules moment) range refl)

subquery_calls : (at : ℕ) (inner : Expr) (range step : Ms) (moment : Moment) → calls_of (tree at (Subquery inner range step moment)) ≡ calls_of inner
subquery_calls at inner range step moment =
    ap (λ (e : Expr). reps (judged e)) (fold-Subquery settled_step settled_expr (tree at (Subquery inner range step moment)) inner range step moment refl)
    ∙ ap reps (fold-Subquery node_step expr_step (tree at (Subquery (settled inner) range step moment)) (settled inner) range step moment refl)

abbrev judgements : List Expr → List Judgement
judgements es = map judged (map settled es)

abbrev all_calls : List Expr → List Replacement
all_calls es = all_replacements (judgements es)

call_calls : (at : ℕ) (f : Func) (es : List Expr) → calls_of (tree at (Call f es)) ≡ all_calls es ++ pattern_of f (judgements es) at
call_calls at f es =
    ap (λ (e : Expr). reps (judged e)) (fold-Call settled_step settled_expr (tree at (Call f es)) f es refl)
    ∙ ap reps (fold-Call node_step expr_step (tree at (Call f (map settled es))) f (map settled es) refl)

aggregate_calls : (at : ℕ) (f : Aggregate) (by : Grouping) (es : List Expr) → calls_of (tree at (Aggregated f by es)) ≡ all_calls es
aggregate_calls at f by es =
    ap (λ (e : Expr). reps (judged e)) (fold-Aggregate settled_step settled_expr (tree at (Aggregated f by es)) f by es refl)
    ∙ ap reps (fold-Aggregate node_step expr_step (tree at (Aggregated f by (map settled es))) f by (map settled es) refl)

pair_calls : (at : ℕ) (op : PairOp) (l r : Expr) (pairing : Pairing) → calls_of (tree at (Pair op l r pairing)) ≡ calls_of l ++ calls_of r
pair_calls at op l r pairing =
    ap (λ (e : Expr). reps (judged e)) (fold-Pair settled_step settled_expr (tree at (Pair op l r pairing)) op l r pairing refl)
    ∙ ap reps (fold-Pair node_step expr_step (tree at (Pair op (settled l) (settled r) (settled_pairing (kind_of (settled l)) (kind_of (settled r)) pairing))) op (settled l) (settled r) (settled_pairing (kind_of (settled l)) (kind_of (settled r)) pairing) refl)

set_calls : (at : ℕ) (op : SetOp) (l r : Expr) (pairing : Pairing) → calls_of (tree at (Set op l r pairing)) ≡ calls_of l ++ calls_of r
set_calls at op l r pairing =
    ap (λ (e : Expr). reps (judged e)) (fold-Set settled_step settled_expr (tree at (Set op l r pairing)) op l r pairing refl)
    ∙ ap reps (fold-Set node_step expr_step (tree at (Set op (settled l) (settled r) pairing)) op (settled l) (settled r) pairing refl)

binary_calls : (at : ℕ) (op : BinaryOp) (matching : Matching) (l r : Expr) → calls_of (tree at (node_of op matching l r)) ≡ calls_of l ++ calls_of r
binary_calls at (ops.Arith op) matching l r = pair_calls at _ l r matching.pairing
binary_calls at (ops.Compare op) matching l r = pair_calls at _ l r matching.pairing
binary_calls at (ops.Set op) matching l r = set_calls at op l r matching.pairing

-- ---- spread over lexemes

abbrev Over : ℕ → ℕ → Expr → Type 0
Over low high e = Spread low high (calls_of e)

over : (low high : ℕ) (e : Expr) (rs : List Replacement) → calls_of e ≡ rs → Spread low high rs → Over low high e
over low high e rs is s = subst (Spread low high) (sym is) s

-- a call's own pattern stands at its place, if it has one
own_spread : (low p high : ℕ) (f : Func) (js : List Judgement) → low ≤ p → p + 1 ≤ high → Spread (p + 1) high (all_replacements js) → Spread low high (all_replacements js ++ pattern_of f js p)
own_spread low p high func.LabelReplace js l h s = by_literal (literal_at js 4) refl
  where
    by_literal : (o : Option Literal) → literal_at js 4 ≡ o → Spread low high (all_replacements js ++ pattern_of func.LabelReplace js p)
    by_literal None is =
        let own : pattern_of func.LabelReplace js p ≡ [] = rw is refl in
        subst (λ (o : List Replacement). Spread low high (all_replacements js ++ o)) (sym own) (without_own low p high (all_replacements js) l h s)
    by_literal (Some text) is =
        let own : pattern_of func.LabelReplace js p ≡ record { at = p; place = text.0; text = text.1 } ∷ [] = rw is refl in
        subst (λ (o : List Replacement). Spread low high (all_replacements js ++ o)) (sym own) (with_own low p high (all_replacements js) (record { at = p; place = text.0; text = text.1 }) refl l h s)
own_spread low p high f js l h s = without_own low p high (all_replacements js) l h s

abbrev AllOver : ℕ → ℕ → List Expr → Type 0
AllOver low high es = Spread low high (all_calls es)

one_more : (es : List Expr) (e : Expr) → all_calls (es ++ e ∷ []) ≡ all_calls es ++ calls_of e
one_more [] e = append-nil (calls_of e)
one_more (f ∷ es) e = ap (λ (rs : List Replacement). calls_of f ++ rs) (one_more es e) ∙ sym (append_assoc (calls_of f) (all_calls es) (calls_of e))

one_over : (low high : ℕ) (e : Expr) → Over low high e → AllOver low high (e ∷ [])
one_over low high e s = subst (Spread low high) (sym (append-nil (calls_of e))) s

-- ---- operands
abbrev TermOver : ℕ → ℕ → Term → Type 0
TermOver low high (a_selector rules) = ⊤
TermOver low high (a_range rules range) = ⊤
TermOver low high (a_subquery e range step) = Over low high e
TermOver low high (another e) = Over low high e

term_over : (low high at : ℕ) (term : Term) (moment : Moment) → TermOver low high term → Over low high (term_tree at term moment)
term_over low high at (a_selector rules) moment s = over low high _ [] (select_calls at rules moment) (nothing low high)
term_over low high at (a_range rules range) moment s = over low high _ [] (range_calls at rules moment range) (nothing low high)
term_over low high at (a_subquery e range step) moment s = over low high _ (calls_of e) (subquery_calls at e range step moment) s
term_over low high at (another e) moment s = s

wider_term : (a b low high : ℕ) (term : Term) → low ≤ a → b ≤ high → TermOver a b term → TermOver low high term
wider_term a b low high (a_selector rules) l h s = tt
wider_term a b low high (a_range rules range) l h s = tt
wider_term a b low high (a_subquery e range step) l h s = wider a b low high (calls_of e) l h s
wider_term a b low high (another e) l h s = wider a b low high (calls_of e) l h s

-- ---- lexemes
lies : (low high : ℕ) (us vs : List Lexeme) → us ≡ vs → Lie low us high → Lie low vs high
lies low high us vs is lie = subst (λ (ls : List Lexeme). Lie low ls high) is lie

-- calls of the front part of lexemes, and of the back part
in_front : (low high : ℕ) (xs ys : List Lexeme) (rs : List Replacement) → Lie low (xs ++ ys) high → ((middle : ℕ) → Lie low xs middle → Spread low middle rs) → Spread low high rs
in_front low high xs ys rs lie f =
    let p = parted low xs ys high lie in
    wider low p.middle low high rs (omega arith) (lie_le p.middle ys high p.back) (f p.middle p.front)

in_back : (low high : ℕ) (xs ys : List Lexeme) (rs : List Replacement) → Lie low (xs ++ ys) high → ((middle : ℕ) → Lie middle ys high → Spread middle high rs) → Spread low high rs
in_back low high xs ys rs lie f =
    let p = parted low xs ys high lie in
    wider p.middle high low high rs (lie_le low xs p.middle p.front) (omega arith) (f p.middle p.back)

term_front : (low high : ℕ) (xs ys : List Lexeme) (term : Term) → Lie low (xs ++ ys) high → ((middle : ℕ) → Lie low xs middle → TermOver low middle term) → TermOver low high term
term_front low high xs ys term lie f =
    let p = parted low xs ys high lie in
    wider_term low p.middle low high term (omega arith) (lie_le p.middle ys high p.back) (f p.middle p.front)

-- between two lexemes
in_middle : (low high : ℕ) (us xs : List Lexeme) (begin close : Lexeme) (rs : List Replacement) → us ≡ begin ∷ xs ++ close ∷ [] → Lie low us high
    → ((a b : ℕ) → Lie a xs b → Spread a b rs) → Spread low high rs
in_middle low high us xs begin close rs split lie f =
    let l = lies low high us (begin ∷ xs ++ close ∷ []) split lie in
    let k = l.0 in
    wider (begin.at + 1) high low high rs (omega (arith, k)) (omega arith) (in_front (begin.at + 1) high xs (close ∷ []) rs l.1 (λ b m. f (begin.at + 1) b m))

-- of both sides of a lexeme
on_both_sides : (low high : ℕ) (us xs ys zs : List Lexeme) (sign : Lexeme) (rs ss : List Replacement) → us ≡ xs ++ sign ∷ (ys ++ zs) → Lie low us high
    → ((b : ℕ) → Lie low xs b → Spread low b rs) → ((a : ℕ) → Lie a zs high → Spread a high ss) → Spread low high (rs ++ ss)
on_both_sides low high us xs ys zs sign rs ss split lie f g =
    let p = parted low xs (sign ∷ (ys ++ zs)) high (lies low high us (xs ++ sign ∷ (ys ++ zs)) split lie) in
    let q = parted (sign.at + 1) ys zs high p.back.1 in
    let a = lie_le low xs p.middle p.front in
    let b = p.back.0 in
    let c = lie_le (sign.at + 1) ys q.middle q.front in
    let d = lie_le q.middle zs high q.back in
    joined low p.middle high rs ss a (omega (arith, b, c, d)) (f p.middle p.front) (wider q.middle high p.middle high ss (omega (arith, b, c)) (omega arith) (g q.middle q.back))

-- ---- productions
mutual
  primary_over : {b d : ℕ} {xs : List Lexeme} {e : Expr} → Primary b xs e d → (low high : ℕ) → Lie low xs high → Over low high e
  primary_over (Primary.number l value is) = λ low high lie. over low high _ [] (number_calls l.at value) (nothing low high)
  primary_over (Primary.duration l duration value is so) = λ low high lie. over low high _ [] (number_calls l.at value) (nothing low high)
  primary_over (Primary.words l text is) = λ low high lie. over low high _ [] (words_calls l.at text) (nothing low high)
  primary_over (Primary.paren {us = us} {xs = xs} {e = e} begin close opens p closes split) =
      λ low high lie. over low high _ (calls_of e) (paren_calls begin.at e) (in_middle low high us xs begin close (calls_of e) split lie (λ a c m. phrase_over p a c m))
  primary_over (Primary.call {xs = xs} {es = es} l name f is known within) =
      λ low high lie.
      over low high _ (all_calls es ++ pattern_of f (judgements es) l.at) (call_calls l.at f es)
      (own_spread low l.at high f (judgements es) lie.0 (lie_le (l.at + 1) xs high lie.1) (body_over within (l.at + 1) high lie.1))
  primary_over (Primary.call_of_none l begin close name f is known opens closes) =
      λ low high lie.
      over low high _ (all_calls [] ++ pattern_of f (judgements []) l.at) (call_calls l.at f [])
      (own_spread low l.at high f [] lie.0 (lie_le (l.at + 1) (begin ∷ close ∷ []) high lie.1) (nothing (l.at + 1) high))
  primary_over (Primary.aggregate {xs = xs} {es = es} l f word within) =
      λ low high lie.
      let k = lie.0 in
      over low high _ (all_calls es) (aggregate_calls l.at f no_grouping es) (wider (l.at + 1) high low high (all_calls es) (omega (arith, k)) (omega arith) (body_over within (l.at + 1) high lie.1))
  primary_over (Primary.grouped_before {us = us} {xs = xs} {ys = ys} {es = es} {grouping = grouping} l f word is within split) =
      λ low high lie.
      over low high _ (all_calls es) (aggregate_calls l.at f grouping es)
      (in_back low high (l ∷ xs) ys (all_calls es) (lies low high us (l ∷ xs ++ ys) split lie) (λ a m. body_over within a high m))
  primary_over (Primary.grouped_behind {us = us} {xs = xs} {ys = ys} {es = es} {grouping = grouping} l f word within is split) =
      λ low high lie.
      over low high _ (all_calls es) (aggregate_calls l.at f grouping es)
      (in_front low high (l ∷ xs) ys (all_calls es) (lies low high us (l ∷ xs ++ ys) split lie)
      (λ c m. let k = m.0 in wider (l.at + 1) c low c (all_calls es) (omega (arith, k)) (omega arith) (body_over within (l.at + 1) c m.1)))

  body_over : {b d : ℕ} {us : List Lexeme} {es : List Expr} → Body b us es d → (low high : ℕ) → Lie low us high → AllOver low high es
  body_over (Body.body {us = us} {xs = xs} {es = es} begin close opens p closes split) =
      λ low high lie. in_middle low high us xs begin close (all_calls es) split lie (λ a c m. arguments_over p a c m)

  arguments_over : {b d : ℕ} {us : List Lexeme} {es : List Expr} → ArgumentList b us es d → (low high : ℕ) → Lie low us high → AllOver low high es
  arguments_over (ArgumentList.one {e = e} p) = λ low high lie. one_over low high e (phrase_over p low high lie)
  arguments_over (ArgumentList.more {us = us} {xs = xs} {ys = ys} {es = es} {e = e} comma p is q split) =
      λ low high lie.
      subst (Spread low high) (sym (one_more es e))
      (on_both_sides low high us xs [] ys comma (all_calls es) (calls_of e) split lie (λ c m. arguments_over p low c m) (λ a m. phrase_over q a high m))

  operand_over : {b at d : ℕ} {term : Term} {offset : Option Ms} {fixed : Option Fixed} {xs : List Lexeme} → Operand b term offset fixed xs at d → (low high : ℕ) → Lie low xs high → TermOver low high term
  operand_over (Operand.selector is) = λ low high lie. tt
  operand_over (Operand.primary p) = λ low high lie. primary_over p low high lie
  operand_over (Operand.range p brackets split) = λ low high lie. tt
  operand_over (Operand.subquery {at = at} {term = term} {offset = offset} {fixed = fixed} {us = us} {xs = xs} {ys = ys} p brackets split) =
      λ low high lie.
      in_front low high xs ys (calls_of (term_tree at term (moment_of offset fixed))) (lies low high us (xs ++ ys) split lie)
      (λ c m. term_over low c at term (moment_of offset fixed) (operand_over p low c m))
  operand_over (Operand.offset {term = term} {us = us} {xs = xs} {ys = ys} p takes behind split) =
      λ low high lie. term_front low high xs ys term (lies low high us (xs ++ ys) split lie) (λ c m. operand_over p low c m)
  operand_over (Operand.time {term = term} {us = us} {xs = xs} {ys = ys} p takes behind split) =
      λ low high lie. term_front low high xs ys term (lies low high us (xs ++ ys) split lie) (λ c m. operand_over p low c m)

  pub phrase_over : {b level d : ℕ} {xs : List Lexeme} {e : Expr} → Phrase b level xs e d → (low high : ℕ) → Lie low xs high → Over low high e
  phrase_over (Phrase.operand {at = at} {term = term} {offset = offset} {fixed = fixed} p) = λ low high lie. term_over low high at term (moment_of offset fixed) (operand_over p low high lie)
  phrase_over (Phrase.power {at = at} {term = term} {offset = offset} {fixed = fixed} {us = us} {xs = xs} {ys = ys} {zs = zs} {r = r} {matching = matching} caret p is between q apart split) =
      λ low high lie.
      over low high _ (calls_of (term_tree at term (moment_of offset fixed)) ++ calls_of r) (binary_calls at (ops.Arith Pow) matching (term_tree at term (moment_of offset fixed)) r)
      (on_both_sides low high us xs ys zs caret (calls_of (term_tree at term (moment_of offset fixed))) (calls_of r) split lie
      (λ c m. term_over low c at term (moment_of offset fixed) (operand_over p low c m)) (λ a m. phrase_over q a high m))
  phrase_over (Phrase.minus {e = e} sign is p) =
      λ low high lie.
      let k = lie.0 in
      over low high _ (calls_of e) (negate_calls sign.at e) (wider (sign.at + 1) high low high (calls_of e) (omega (arith, k)) (omega arith) (phrase_over p (sign.at + 1) high lie.1))
  phrase_over (Phrase.plus {e = e} sign is p) =
      λ low high lie.
      let k = lie.0 in
      over low high _ (calls_of e) (paren_calls sign.at e) (wider (sign.at + 1) high low high (calls_of e) (omega (arith, k)) (omega arith) (phrase_over p (sign.at + 1) high lie.1))
  phrase_over (Phrase.tighter p) = λ low high lie. phrase_over p low high lie
  phrase_over (Phrase.binary {us = us} {xs = xs} {ys = ys} {zs = zs} {op = op} {l = l} {r = r} {matching = matching} sign p is between q apart split) =
      λ low high lie.
      over low high _ (calls_of l ++ calls_of r) (binary_calls l.at op matching l r)
      (on_both_sides low high us xs ys zs sign (calls_of l) (calls_of r) split lie (λ c m. phrase_over p low c m) (λ a m. phrase_over q a high m))
