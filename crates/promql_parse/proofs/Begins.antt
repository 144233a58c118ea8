-- What an operand or a phrase begins with: no word that stands behind an operator, and no closing parenthesis.
use Rattle.std.proofs.Common.{◌≡◌, ℕ, refl, ap, ◌∙◌, sym, subst, false, List, [], ◌∷◌, ◌++◌}
use Rattle.std.specs.Prelude.{Option, Some}
use Rattle.label_set.specs.declared.rules.Rule.{Rule}
use Rattle.promql_ast.specs.declared.tree.Expr.{Expr}
use Rattle.promql_ast.specs.declared.tree.Fixed.{Fixed}
use Rattle.promql_parse.specs.Grammar.{ArgumentList, Operand, Phrase, Primary, Term}
use Rattle.promql_parts.specs.Laws.{is_modifier}
use Rattle.promql_parts.specs.Productions.{IsSign, Matchers, Selected, metric_name}
use Rattle.promql_parts.specs.Signs.{is_sign}
use Rattle.promql_parts.specs.Steps.{no_some}
use Rattle.promql_parts.specs.declared.lexeme.Lexeme.{Lexeme}
use Rattle.promql_parts.specs.declared.lexeme.LexemeKind.{LexemeKind}
use Rattle.promql_parts.specs.declared.lexeme.LexemeKind.TheVariants as kinds
use Rattle.promql_parts.specs.declared.lexeme.Sign.TheVariants.{LeftParen, RightParen, LeftBrace}
use Rattle.promql_lex.specs.declared.word.Word.TheVariants.{On, Ignoring, GroupLeft, GroupRight, Bool as Flag}
use Rattle.promql_parts.specs.declared.selector.Matcher.{Matcher}
use Rattle.ticks.specs.declared.moment.Ms.{Ms}

pub record Begins (xs : List Lexeme) : Type 0 where
  pub first : Lexeme
  pub behind : List Lexeme
  pub split : xs ≡ first ∷ behind
  pub plain : is_modifier first.kind ≡ false
  pub no_close : is_sign RightParen first.kind ≡ false

begins_with : (l : Lexeme) (k : LexemeKind) (xs : List Lexeme) → l.kind ≡ k → is_modifier k ≡ false → is_sign RightParen k ≡ false → Begins (l ∷ xs)
begins_with l k xs is plain no_close = record { first = l; behind = xs; split = refl; plain = ap is_modifier is ∙ plain; no_close = ap (is_sign RightParen) is ∙ no_close }

begins_more : {us xs : List Lexeme} (ys : List Lexeme) → Begins xs → us ≡ xs ++ ys → Begins us
begins_more {us} {xs} ys b split = record { first = b.first; behind = b.behind ++ ys; split = split ∙ ap (λ z. z ++ ys) b.split; plain = b.plain; no_close = b.no_close }

begins_so : {us : List Lexeme} (l : Lexeme) (k : LexemeKind) (xs : List Lexeme) → us ≡ l ∷ xs → l.kind ≡ k → is_modifier k ≡ false → is_sign RightParen k ≡ false → Begins us
begins_so l k xs split is plain no_close = record { first = l; behind = xs; split = split; plain = ap is_modifier is ∙ plain; no_close = ap (is_sign RightParen) is ∙ no_close }

begins_primary : {b d : ℕ} {xs : List Lexeme} {e : Expr} → Primary b xs e d → Begins xs
begins_primary (Primary.number l value is) = begins_with l (kinds.Number value) [] is refl refl
begins_primary (Primary.duration l duration value is so) = begins_with l (kinds.Duration duration) [] is refl refl
begins_primary (Primary.words l text is) = begins_with l (kinds.Quoted text) [] is refl refl
begins_primary (Primary.paren {xs = xs} begin close opens p closes split) = begins_so begin (kinds.Sign LeftParen) (xs ++ close ∷ []) split opens refl refl
begins_primary (Primary.call {xs = xs} l name f is known body) = begins_with l (kinds.Name name) xs is refl refl
begins_primary (Primary.call_of_none l begin close name f is known opens closes) = begins_with l (kinds.Name name) (begin ∷ close ∷ []) is refl refl
begins_primary (Primary.aggregate {xs = xs} l f word body) = begins_with l _ xs word.1 refl refl
begins_primary (Primary.grouped_before {xs = xs} {ys = ys} l f word grouped body split) = begins_so l _ (xs ++ ys) split word.1 refl refl
begins_primary (Primary.grouped_behind {xs = xs} {ys = ys} l f word body grouped split) = begins_so l _ (xs ++ ys) split word.1 refl refl

metric_no_modifier : (k : LexemeKind) (name : List ℕ) → metric_name k ≡ Some name → is_modifier k ≡ false
metric_no_modifier (kinds.Word Flag spelling) name is = no_some _ is
metric_no_modifier (kinds.Word On spelling) name is = no_some _ is
metric_no_modifier (kinds.Word Ignoring spelling) name is = no_some _ is
metric_no_modifier (kinds.Word GroupLeft spelling) name is = no_some _ is
metric_no_modifier (kinds.Word GroupRight spelling) name is = no_some _ is
metric_no_modifier _ name is = refl

metric_no_sign : (k : LexemeKind) (name : List ℕ) → metric_name k ≡ Some name → is_sign RightParen k ≡ false
metric_no_sign (kinds.Sign s) name is = no_some _ is
metric_no_sign _ name is = refl

abbrev head_or : Lexeme → List Lexeme → Lexeme
head_or d [] = d
head_or d (l ∷ ls) = l

same_opens : (l begin : Lexeme) (xs ys : List Lexeme) → l ∷ xs ≡ begin ∷ ys → IsSign LeftBrace begin → IsSign LeftBrace l
same_opens l begin xs ys same opens = subst (IsSign LeftBrace) (sym (ap (head_or l) same)) opens

matchers_open : {us : List Lexeme} {matchers : List Matcher} → Matchers us matchers → (l : Lexeme) (xs : List Lexeme) → l ∷ xs ≡ us → IsSign LeftBrace l
matchers_open (Matchers.none begin close opens closes) l xs same = same_opens l begin xs (close ∷ []) same opens
matchers_open (Matchers.listed {xs = ys} begin close opens list closes split) l xs same = same_opens l begin xs (ys ++ close ∷ []) (same ∙ split) opens
matchers_open (Matchers.last_comma {xs = ys} begin comma close opens list is_comma closes split) l xs same = same_opens l begin xs (ys ++ comma ∷ close ∷ []) (same ∙ split) opens

pub braces_open : (l : Lexeme) (xs : List Lexeme) (matchers : List Matcher) → Matchers (l ∷ xs) matchers → IsSign LeftBrace l
braces_open l xs matchers is = matchers_open is l xs refl

begins_selected : {at : ℕ} {xs : List Lexeme} {rules : List Rule} → Selected xs at rules → Begins xs
begins_selected (Selected.named l name is) = record { first = l; behind = []; split = refl; plain = metric_no_modifier l.kind name is; no_close = metric_no_sign l.kind name is }
begins_selected (Selected.named_braces {xs = xs} l name is matchers selector) =
    record { first = l; behind = xs; split = refl; plain = metric_no_modifier l.kind name is; no_close = metric_no_sign l.kind name is }
begins_selected (Selected.braces {xs = xs} {matchers = matchers} l is selector) = begins_with l (kinds.Sign LeftBrace) xs (braces_open l xs matchers is) refl refl

begins_operand : {b at d : ℕ} {term : Term} {offset : Option Ms} {fixed : Option Fixed} {xs : List Lexeme} → Operand b term offset fixed xs at d → Begins xs
begins_operand (Operand.selector is) = begins_selected is
begins_operand (Operand.primary is) = begins_primary is
begins_operand (Operand.range p range split) = begins_more _ (begins_operand p) split
begins_operand (Operand.subquery p steps split) = begins_more _ (begins_operand p) split
begins_operand (Operand.offset p takes behind split) = begins_more _ (begins_operand p) split
begins_operand (Operand.time p takes behind split) = begins_more _ (begins_operand p) split

pub begins_phrase : {b level d : ℕ} {xs : List Lexeme} {e : Expr} → Phrase b level xs e d → Begins xs
begins_phrase (Phrase.operand p) = begins_operand p
begins_phrase (Phrase.power caret p is between q apart split) = begins_more _ (begins_operand p) split
begins_phrase (Phrase.minus {xs = xs} sign is p) = begins_with sign _ xs is refl refl
begins_phrase (Phrase.plus {xs = xs} sign is p) = begins_with sign _ xs is refl refl
begins_phrase (Phrase.tighter p) = begins_phrase p
begins_phrase (Phrase.binary sign p is between q apart split) = begins_more _ (begins_phrase p) split

pub begins_arguments : {b d : ℕ} {xs : List Lexeme} {es : List Expr} → ArgumentList b xs es d → Begins xs
begins_arguments (ArgumentList.one p) = begins_phrase p
begins_arguments (ArgumentList.more comma list is p split) = begins_more _ (begins_arguments list) split

-- matchers begin with a brace
pub record Opened (us : List Lexeme) : Type 0 where
  pub begin : Lexeme
  pub behind : List Lexeme
  pub split : us ≡ begin ∷ behind
  pub opening : IsSign LeftBrace begin

pub matchers_begin : {us : List Lexeme} {matchers : List Matcher} → Matchers us matchers → Opened us
matchers_begin (Matchers.none begin close opens closes) = record { begin = begin; behind = close ∷ []; split = refl; opening = opens }
matchers_begin (Matchers.listed {xs = xs} begin close opens list closes split) = record { begin = begin; behind = xs ++ close ∷ []; split = split; opening = opens }
matchers_begin (Matchers.last_comma {xs = xs} begin comma close opens list is_comma closes split) =
    record { begin = begin; behind = xs ++ comma ∷ close ∷ []; split = split; opening = opens }
