-- Where a reader stops since something else was expected: at a lexeme, or at the end of the text. What is read before it begins
-- such a part: some lexemes go on with it.
use Rattle.std.specs.Prelude.{◌≡◌, ℕ, Bool, true, false, bytes_eq, List, [], ◌∷◌, ◌++◌, Option, Some, is_some, Err}
use Rattle.promql_ast.specs.declared.refusal.QueryRefusal.TheVariants.{Expected}
use Rattle.promql_parts.specs.Labels.{grouping_at, grouping_begun, label_of}
use Rattle.promql_parts.specs.Laws.{IsBraced, IsBrackets}
use Rattle.promql_parts.specs.Operators.{matching_at}
use Rattle.promql_parts.specs.Productions.{BinModifier, Grouped, IsSign, MatcherList, Signed, TimeBehind}
use Rattle.promql_parts.specs.Reads.{Read, refused_at}
use Rattle.promql_parts.specs.Selectors.{braces_at, metric_label, names_twice}
use Rattle.promql_parts.specs.Spans.{brackets_at, offset_at, when_at}
use Rattle.promql_parts.specs.declared.lexeme.Lexeme.{Lexeme}
use Rattle.promql_parts.specs.declared.lexeme.LexemeKind.{LexemeKind}
use Rattle.promql_parts.specs.declared.lexeme.LexemeKind.TheVariants as kinds
use Rattle.promql_parts.specs.declared.lexeme.Sign.TheVariants.{LeftBrace, LeftBracket, AtSign, Comma}
use Rattle.promql_parts.specs.declared.operator.BinaryOp.{BinaryOp}
use Rattle.promql_parts.specs.declared.operator.Matching.{Matching}
use Rattle.promql_parts.specs.declared.selector.Matcher.{Matcher}
use Rattle.ticks.specs.Durations.{hundred_years}

-- the lexemes in front of the one that is refused as unexpected at a place, or of the end that is
pub record StopsAt (end place : ℕ) (Begun : List Lexeme → Type 0) (ls : List Lexeme) : Type 0 where
  pub front : List Lexeme
  pub back : List Lexeme
  pub split : ls ≡ front ++ back
  pub there : refused_at end back ≡ Expected place
  pub begun : Begun front

-- some lexemes behind them make them such a part
abbrev pub Begins : {X : Type 0} → (List Lexeme → X → Type 0) → List Lexeme → Type 0
Begins {X} Part front = (more : List Lexeme) × (x : X) × Part (front ++ more) x

-- a reader, wherever it stops so
abbrev pub Stops : {X : Type 0} → ℕ → (List Lexeme → Read X) → (List Lexeme → Type 0) → Type 0
Stops end reader Begun = (place : ℕ) (ls : List Lexeme) → reader ls ≡ Err (Expected place) → StopsAt end place Begun ls

-- where a rule in braces begins: right behind the brace, or behind rules and a comma
pub data RuleBegins : List Lexeme → Type 0 where
  first : RuleBegins []
  next : {us xs : List Lexeme} {matchers : List Matcher} (comma : Lexeme) → MatcherList xs matchers → IsSign Comma comma → us ≡ xs ++ comma ∷ [] → RuleBegins us

-- a string, which alone may be a label without a letter
abbrev pub is_quoted : LexemeKind → Bool
is_quoted (kinds.Quoted text) = true
is_quoted _ = false

-- What stands behind an opening brace, and is no selector's however it is closed, which is told where it is: it has two names
-- (`named`: one stands before the brace). No text has a name or a word without a letter.
pub data IsHopeless (named : Bool) : List Lexeme → Type 0 where
  named_twice : {us xs : List Lexeme} {matchers : List Matcher} (ys : List Lexeme) → MatcherList xs matchers → names_twice named matchers ≡ true → us ≡ xs ++ ys → IsHopeless named us
  named_again : {us xs : List Lexeme} (l : Lexeme) (label : List ℕ) (ys : List Lexeme) → named ≡ true → RuleBegins xs → label_of l.kind ≡ Some label
      → bytes_eq label metric_label ≡ true → us ≡ xs ++ l ∷ ys → IsHopeless named us
  nameless : {us xs : List Lexeme} (l : Lexeme) → RuleBegins xs → label_of l.kind ≡ Some [] → is_quoted l.kind ≡ false → us ≡ xs ++ l ∷ [] → IsHopeless named us

-- a part that can be ended, or braces that are hopeless
pub data OrHopeless (named : Bool) (Begun : List Lexeme → Type 0) (front : List Lexeme) : Type 0 where
  begins : Begun front → OrHopeless named Begun front
  hopeless : IsHopeless named front → OrHopeless named Begun front

abbrev pub GroupingsStop : Type 0
GroupingsStop = (end : ℕ) (without : Bool) (l : Lexeme) → grouping_begun (l ∷ []) ≡ Some without → Stops end (λ ls. grouping_at without end (l ∷ ls)) (λ front. Begins Grouped (l ∷ front))

abbrev pub BracesStop : Type 0
BracesStop = (end : ℕ) (name : Option (List ℕ)) (begin : Lexeme) → IsSign LeftBrace begin → Stops end (braces_at end name) (OrHopeless (is_some name) (Begins (IsBraced begin name)))

abbrev pub BracketsStop : Type 0
BracketsStop = (end : ℕ) (plain : Bool) (begin : Lexeme) → IsSign LeftBracket begin → Stops end (brackets_at plain end) (Begins (IsBrackets begin plain))

abbrev pub OffsetsStop : Type 0
OffsetsStop = (end : ℕ) → Stops end (offset_at end) (Begins (Signed hundred_years))

abbrev pub TimesStop : Type 0
TimesStop = (end : ℕ) (sign : Lexeme) → IsSign AtSign sign → Stops end (when_at end) (λ front. Begins TimeBehind (sign ∷ front))

-- what stands between an operator and its right side
pub record MatchingBegun (op : BinaryOp) (front : List Lexeme) : Type 0 where
  pub more : List Lexeme
  pub matching : Matching
  pub bare : Bool
  pub is : BinModifier op (front ++ more) matching bare

abbrev pub MatchingsStop : Type 0
MatchingsStop = (op : BinaryOp) (end : ℕ) → Stops end (matching_at op end) (MatchingBegun op)
