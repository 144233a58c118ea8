-- The readers of parts and their productions. What is read is in the grammar: the lexemes at the front are that part, and what
-- is left stands behind them. What is in the grammar is read, where nothing stands behind it that goes on with it.
use Rattle.std.specs.Prelude.{◌≡◌, ℕ, Bool, true, false, List, ◌∷◌, ◌++◌, Option, Some, Ok}
use Rattle.label_set.specs.declared.rules.Grouping.{Grouping}
use Rattle.label_set.specs.declared.rules.Rule.{Rule}
use Rattle.promql_ast.specs.declared.tree.Fixed.{Fixed}
use Rattle.promql_lex.specs.Tokens.{is_bad as is_bad_token, tokens_of}
use Rattle.promql_lex.specs.declared.token.Token.{Token}
use Rattle.promql_parts.specs.Labels.{grouping_at, grouping_begun}
use Rattle.promql_parts.specs.Lexemes.{lexeme_of}
use Rattle.promql_parts.specs.Operators.{matching_at}
use Rattle.promql_parts.specs.Patterned.{is_bad}
use Rattle.promql_parts.specs.Productions.{BinModifier, begins_labels, Grouped, IsSelector, IsSign, Matchers, RangeBrackets, Signed, StepBrackets, TimeBehind}
use Rattle.promql_parts.specs.Reads.{Read}
use Rattle.promql_parts.specs.Selectors.{braces_at}
use Rattle.promql_parts.specs.Spans.{brackets_at, offset_at, when_at}
use Rattle.promql_parts.specs.declared.lexeme.Lexeme.{Lexeme}
use Rattle.promql_parts.specs.declared.lexeme.LexemeKind.{LexemeKind}
use Rattle.promql_parts.specs.declared.lexeme.LexemeKind.TheVariants as kinds
use Rattle.promql_parts.specs.declared.lexeme.Sign.TheVariants.{LeftBrace, LeftBracket, AtSign}
use Rattle.promql_lex.specs.declared.word.Word.TheVariants.{On, Ignoring, GroupLeft, GroupRight, Bool as Flag}
use Rattle.promql_parts.specs.declared.operator.BinaryOp.{BinaryOp}
use Rattle.promql_parts.specs.declared.operator.Matching.{Matching}
use Rattle.promql_parts.specs.declared.selector.Matcher.{Matcher}
use Rattle.promql_parts.specs.declared.span.Brackets.{Brackets}
use Rattle.promql_parts.specs.declared.span.Brackets.TheVariants.{Range, Steps}
use Rattle.ticks.specs.declared.moment.Ms.{Ms}
use Rattle.ticks.specs.Durations.{hundred_years}

-- the lexemes begin with such a part, behind which the rest stands
pub record Found {X : Type 0} (Part : List Lexeme → X → Type 0) (ls : List Lexeme) (x : X) (rest : List Lexeme) : Type 0 where
  pub front : List Lexeme
  pub split : ls ≡ front ++ rest
  pub is : Part front x

-- what a reader gives is such a part
abbrev pub Sound : {X : Type 0} → (List Lexeme → Read X) → (List Lexeme → X → Type 0) → Type 0
Sound {X} reader Part = (ls : List Lexeme) (x : X) (rest : List Lexeme) → reader ls ≡ Ok (x, rest) → Found Part ls x rest

abbrev pub GroupingsAreGrouped : Type 0
GroupingsAreGrouped = (end : ℕ) (without : Bool) (ls : List Lexeme) (g : Grouping) (rest : List Lexeme) → grouping_begun ls ≡ Some without → grouping_at without end ls ≡ Ok (g, rest) → Found Grouped ls g rest

-- what stands behind an opening brace
abbrev pub IsBraced : Lexeme → Option (List ℕ) → List Lexeme → List Rule → Type 0
IsBraced begin name xs rules = (matchers : List Matcher) × Matchers (begin ∷ xs) matchers × IsSelector name matchers rules

abbrev pub BracesAreMatchers : Type 0
BracesAreMatchers = (end : ℕ) (name : Option (List ℕ)) (begin : Lexeme) → IsSign LeftBrace begin → Sound (braces_at end name) (IsBraced begin name)

-- what stands behind an opening bracket; `plain`: behind a selector without modifiers
abbrev pub IsBrackets : Lexeme → Bool → List Lexeme → Brackets → Type 0
IsBrackets begin plain xs (Range range) = (plain ≡ true) × RangeBrackets (begin ∷ xs) range
IsBrackets begin plain xs (Steps range step) = StepBrackets (begin ∷ xs) range step

abbrev pub BracketsAreSpans : Type 0
BracketsAreSpans = (end : ℕ) (plain : Bool) (begin : Lexeme) → IsSign LeftBracket begin → Sound (brackets_at plain end) (IsBrackets begin plain)

abbrev pub OffsetsAreSigned : Type 0
OffsetsAreSigned = (end : ℕ) → Sound (offset_at end) (Signed hundred_years)

abbrev pub TimesStandBehind : Type 0
TimesStandBehind = (end : ℕ) (sign : Lexeme) → IsSign AtSign sign → Sound (when_at end) (λ xs time. TimeBehind (sign ∷ xs) time)

-- what stands between an operator and its right side, which doesn't begin with labels
pub record Modified (op : BinaryOp) (ls : List Lexeme) (matching : Matching) (rest : List Lexeme) : Type 0 where
  pub bare : Bool
  pub found : Found (λ xs m. BinModifier op xs m bare) ls matching rest
  pub apart : begins_labels bare rest ≡ false

abbrev pub MatchingsAreModifiers : Type 0
MatchingsAreModifiers = (op : BinaryOp) (end : ℕ) (ls : List Lexeme) (matching : Matching) (rest : List Lexeme) → matching_at op end ls ≡ Ok (matching, rest) → Modified op ls matching rest

abbrev pub GroupedIsRead : Type 0
GroupedIsRead = (end : ℕ) (xs : List Lexeme) (g : Grouping) → Grouped xs g → (rest : List Lexeme) → (without : Bool) × (grouping_begun (xs ++ rest) ≡ Some without) × (grouping_at without end (xs ++ rest) ≡ Ok (g, rest))

abbrev pub BracedIsRead : Type 0
BracedIsRead = (end : ℕ) (name : Option (List ℕ)) (begin : Lexeme) (xs : List Lexeme) (rules : List Rule) → IsBraced begin name xs rules → (rest : List Lexeme) → braces_at end name (xs ++ rest) ≡ Ok (rules, rest)

abbrev pub BracketsAreRead : Type 0
BracketsAreRead = (end : ℕ) (plain : Bool) (begin : Lexeme) (xs : List Lexeme) (found : Brackets) → IsBrackets begin plain xs found → (rest : List Lexeme) → brackets_at plain end (xs ++ rest) ≡ Ok (found, rest)

abbrev pub OffsetIsRead : Type 0
OffsetIsRead = (end : ℕ) (xs : List Lexeme) (time : Ms) → Signed hundred_years xs time → (rest : List Lexeme) → offset_at end (xs ++ rest) ≡ Ok (time, rest)

abbrev pub TimeIsRead : Type 0
TimeIsRead = (end : ℕ) (sign : Lexeme) (xs : List Lexeme) (time : Fixed) → TimeBehind (sign ∷ xs) time → (rest : List Lexeme) → when_at end (xs ++ rest) ≡ Ok (time, rest)

-- the words that stand behind an operator begin no operand
abbrev pub is_modifier : LexemeKind → Bool
is_modifier (kinds.Word Flag spelling) = true
is_modifier (kinds.Word On spelling) = true
is_modifier (kinds.Word Ignoring spelling) = true
is_modifier (kinds.Word GroupLeft spelling) = true
is_modifier (kinds.Word GroupRight spelling) = true
is_modifier _ = false

abbrev pub ModifierIsRead : Type 0
ModifierIsRead = (op : BinaryOp) (end : ℕ) (xs : List Lexeme) (matching : Matching) (bare : Bool) → BinModifier op xs matching bare → (l : Lexeme) (ls : List Lexeme) → is_modifier l.kind ≡ false
    → begins_labels bare (l ∷ ls) ≡ false → matching_at op end (xs ++ l ∷ ls) ≡ Ok (matching, l ∷ ls)

-- a lexeme of a text is refused exactly where its token is: no other spelling that a token has is unknown to the grammar
abbrev pub RefusedAsTokens : Type 0
RefusedAsTokens = (text : List ℕ) (front : List Token) (t : Token) (back : List Token) → tokens_of text ≡ front ++ t ∷ back → is_bad (lexeme_of text t).kind ≡ is_bad_token t.kind
