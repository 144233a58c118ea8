-- How the reader and the grammar are tied: what is read is in the grammar, what is in the grammar is read, unless its tree is
-- too deep, there is one tree at most, and a refusal stands whatever follows the lexemes that are refused. And what is known of
-- each tree of the grammar: its parts lie within limits, which are this project's own, and how deep it is.
use Rattle.std.specs.Prelude.{◌≡◌, ◌⊎◌, ◌≤◌, ◌<◌, ℕ, Some, Bool, true, false, List, ◌∷◌, ◌++◌, Ok, Err}
use Rattle.frac_text.specs.Times.{time_limit}
use Rattle.match_rule.specs.Patterns.{HaveTheirPatterns}
use Rattle.promql_ast.specs.Depth.{depth}
use Rattle.promql_ast.specs.Edged.{edged}
use Rattle.promql_ast.specs.Parts.{AreWithin, parts_of}
use Rattle.promql_ast.specs.declared.refusal.QueryRefusal.{QueryRefusal}
use Rattle.promql_ast.specs.declared.refusal.QueryRefusal.TheVariants.{Expected, RefusedFunction, TooDeep}
use Rattle.promql_ast.specs.declared.tree.Expr.{Expr}
use Rattle.promql_parse.specs.Grammar.{IsQuery}
use Rattle.promql_parse.specs.Reading.{reading}
use Rattle.promql_lex.specs.declared.word.Word.TheVariants.{And, Or, Unless, By, Without, Offset, Atan2}
use Rattle.promql_parts.specs.Patterned.{HavePatterns, Kept}
use Rattle.promql_parts.specs.Productions.{IsSign, metric_name}
use Rattle.promql_parts.specs.Reads.{refused}
use Rattle.promql_parts.specs.Stops.{IsHopeless, StopsAt}
use Rattle.promql_parts.specs.declared.lexeme.Lexeme.{Lexeme}
use Rattle.promql_parts.specs.declared.lexeme.LexemeKind.{LexemeKind}
use Rattle.promql_parts.specs.declared.lexeme.LexemeKind.TheVariants as kinds
use Rattle.promql_parts.specs.declared.lexeme.Sign.TheVariants.{LeftParen, LeftBrace, LeftBracket, AtSign, Plus, Minus, Star, Slash, Percent, Caret, EqualTwice, Unequal, Less, LessEqual, Greater, GreaterEqual}
use Rattle.ticks.specs.Durations.{hundred_years}

abbrev pub ReadIsInGrammar : Type 0
ReadIsInGrammar = (end : ℕ) (ls : List Lexeme) (e : Expr) → reading end ls ≡ Ok e → (depth : ℕ) × (depth ≤ 128) × IsQuery ls e depth

abbrev pub InGrammarIsRead : Type 0
InGrammarIsRead = (end : ℕ) (ls : List Lexeme) (e : Expr) (depth : ℕ) → IsQuery ls e depth → depth ≤ 128 → reading end ls ≡ Ok e

abbrev pub DeepIsRefused : Type 0
DeepIsRefused = (end : ℕ) (ls : List Lexeme) (e : Expr) (depth : ℕ) → IsQuery ls e depth → 128 < depth → reading end ls ≡ Err (TooDeep 0)

-- lexemes that are a tree of at most 128 nodes on its longest path are no other tree, however deep
abbrev pub OneTree : Type 0
OneTree = (ls : List Lexeme) (e f : Expr) (m n : ℕ) → IsQuery ls e m → IsQuery ls f n → m ≤ 128 → e ≡ f

-- A refusal is final, unless more was expected where the text ends, or the tree of all of it is too deep, which is refused at 0.
abbrev pub IsFinal : ℕ → QueryRefusal → Type 0
IsFinal end refusal = (refusal ≡ Expected end → ⊥) × (refusal ≡ TooDeep 0 → ⊥)

-- a final refusal of some lexemes is that of each text that begins with them
abbrev pub RefusalStands : Type 0
RefusalStands = (end last : ℕ) (ls more : List Lexeme) (refusal : QueryRefusal) → reading end ls ≡ Err refusal → IsFinal end refusal → reading last (ls ++ more) ≡ Err refusal

-- no query begins with lexemes that are refused so
abbrev pub NoQueryBeginsSo : Type 0
NoQueryBeginsSo = (end : ℕ) (ls more : List Lexeme) (refusal : QueryRefusal) → reading end ls ≡ Err refusal → IsFinal end refusal → (e : Expr) (depth : ℕ) → IsQuery (ls ++ more) e depth → ⊥

-- what may go on with a query, behind it or behind its last part: what opens with a parenthesis, a brace or a bracket, a grouping, an
-- offset, a fixed time, or an operator
abbrev pub goes_on : LexemeKind → Bool
goes_on (kinds.Sign LeftParen) = true
goes_on (kinds.Sign LeftBrace) = true
goes_on (kinds.Sign LeftBracket) = true
goes_on (kinds.Sign AtSign) = true
goes_on (kinds.Sign Plus) = true
goes_on (kinds.Sign Minus) = true
goes_on (kinds.Sign Star) = true
goes_on (kinds.Sign Slash) = true
goes_on (kinds.Sign Percent) = true
goes_on (kinds.Sign Caret) = true
goes_on (kinds.Sign EqualTwice) = true
goes_on (kinds.Sign Unequal) = true
goes_on (kinds.Sign Less) = true
goes_on (kinds.Sign LessEqual) = true
goes_on (kinds.Sign Greater) = true
goes_on (kinds.Sign GreaterEqual) = true
goes_on (kinds.Word By spelling) = true
goes_on (kinds.Word Without spelling) = true
goes_on (kinds.Word Offset spelling) = true
goes_on (kinds.Word And spelling) = true
goes_on (kinds.Word Or spelling) = true
goes_on (kinds.Word Unless spelling) = true
goes_on _ = false

-- the refusal of a lexeme that doesn't: the operator that PromQL has and this engine refuses by its name, and else that of the
-- lexeme, which is Expected unless its spelling is refused
abbrev pub refusal_behind : Lexeme → LexemeKind → QueryRefusal
refusal_behind l (kinds.Word Atan2 spelling) = RefusedFunction l.at spelling
refusal_behind l _ = refused l

-- a query behind which a lexeme stands that doesn't go on with it is refused at that lexeme, whatever follows
abbrev pub RefusedBehind : Type 0
RefusedBehind =
    (end : ℕ) (ls more : List Lexeme) (e : Expr) (depth : ℕ) (l : Lexeme) → IsQuery ls e depth → goes_on l.kind ≡ false → reading end (ls ++ l ∷ more) ≡ Err (refusal_behind l l.kind)

-- lengths are positive and at most 100 years, offsets at most 100 years and fixed times at most 10^14 milliseconds from 0, and
-- each rule with a pattern has it kept, where the lexemes have theirs
abbrev pub QueriesAreWithin : Type 0
QueriesAreWithin =
    (kept : Kept) (ls : List Lexeme) (e : Expr) (nodes : ℕ) → HavePatterns kept ls → IsQuery ls e nodes → AreWithin (HaveTheirPatterns kept) hundred_years time_limit (parts_of e)

-- the number of nodes that the grammar tells is the depth of the tree
abbrev pub DepthsAreTold : Type 0
DepthsAreTold = (ls : List Lexeme) (e : Expr) (nodes : ℕ) → IsQuery ls e nodes → depth e ≡ nodes

-- the tree of a query is open on the left everywhere: setting that edge leaves it as it is
abbrev pub QueriesAreOpen : Type 0
QueriesAreOpen = (ls : List Lexeme) (e : Expr) (nodes : ℕ) → IsQuery ls e nodes → edged false e ≡ e

-- lexemes with which a query begins: some lexemes, or none, go on with them
abbrev pub BeginsAQuery : List Lexeme → Type 0
BeginsAQuery ls = (more : List Lexeme) × (e : Expr) × (depth : ℕ) × IsQuery (ls ++ more) e depth

-- lexemes that end within the braces of a selector that has two names already, which is refused where they close; or in a name without a
-- letter, which no text has
pub data EndsHopeless : List Lexeme → Type 0 where
  named : {us ys : List Lexeme} (xs : List Lexeme) (l begin : Lexeme) (name : List ℕ) → metric_name l.kind ≡ Some name → IsSign LeftBrace begin → IsHopeless true ys
      → us ≡ xs ++ l ∷ (begin ∷ ys) → EndsHopeless us
  unnamed : {us ys : List Lexeme} (xs : List Lexeme) (begin : Lexeme) → IsSign LeftBrace begin → IsHopeless false ys → us ≡ xs ++ begin ∷ ys → EndsHopeless us

-- The lexeme, or the end, that is refused as unexpected is the first that fits no query: a query begins with the lexemes before it,
-- unless they end in such braces.
abbrev pub UnexpectedIsFirst : Type 0
UnexpectedIsFirst = (end place : ℕ) (ls : List Lexeme) → reading end ls ≡ Err (Expected place) → StopsAt end place (λ front. BeginsAQuery front ⊎ EndsHopeless front) ls
