-- What the text of a query is: a tree, or its one refusal. The tokens come first, then the patterns, then the grammar.
use Rattle.std.specs.Prelude.{◌≡◌, ◌≤◌, ◌<◌, ℕ, false, List, length, Result, Err}
use Rattle.promql_ast.specs.declared.refusal.QueryRefusal.{QueryRefusal}
use Rattle.promql_ast.specs.declared.refusal.QueryRefusal.TheVariants.{TooLong}
use Rattle.promql_ast.specs.declared.tree.Expr.{Expr}
use Rattle.promql_lex.specs.Tokens.{tokens_of}
use Rattle.promql_lex.specs.declared.fault.LexFault.{LexFault}
use Rattle.promql_lex.specs.declared.fault.LexFault.TheVariants as faults
use Rattle.promql_parse.specs.Reading.{reading}
use Rattle.promql_parts.specs.Lexemes.{lexemes_of}
use Rattle.promql_parts.specs.Patterned.{Kept, Patterned}
use Rattle.promql_parts.specs.declared.lexeme.Lexeme.{Lexeme}

-- the most bytes of a query's text
abbrev pub most_bytes : ℕ
most_bytes = 65536

-- a text, the patterns that are kept before it and behind it, and its tree or its refusal
pub data Parses (text : List ℕ) (before : Kept) : Kept → Result Expr QueryRefusal → Type 0 where
  too_long : most_bytes < length text → Parses text before before (Err (TooLong 0))
  read : (after : Kept) (ls : List Lexeme) (answer : Result Expr QueryRefusal) → length text ≤ most_bytes
      → Patterned false before (lexemes_of text (tokens_of text)) after ls → reading (length text) ls ≡ answer → Parses text before after answer

-- the refusal that a fault is, unless memory ran out
abbrev pub Refuses : List ℕ → Kept → Kept → LexFault → Type 0
Refuses text before after (faults.Refused refusal) = Parses text before after (Err refusal)
Refuses text before after faults.Memory = Unit {0}
