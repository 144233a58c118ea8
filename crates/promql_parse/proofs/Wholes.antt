-- What a text is, out of its tokens, its lexemes and their reading.
use Rattle.std.proofs.Common.{◌≡◌, ◌∙◌, ◌≤◌, ℕ, ap₂, sym, subst, false, List, length}
use Rattle.std.specs.Prelude.{Result, Ok, Err, IfOk, IfErr}
use Rattle.frac_text.specs.Times.{time_limit}
use Rattle.match_rule.specs.Patterns.{HaveTheirPatterns}
use Rattle.promql_ast.specs.Depth.{depth}
use Rattle.promql_ast.specs.Parts.{AreWithin, parts_of}
use Rattle.promql_ast.specs.declared.tree.Expr.{Expr}
use Rattle.promql_lex.specs.Tokens.{tokens_of}
use Rattle.promql_lex.specs.declared.fault.LexFault.{LexFault}
use Rattle.promql_lex.specs.declared.fault.LexFault.TheVariants as faults
use Rattle.promql_lex.specs.declared.token.Token.{Token}
use Rattle.promql_parse.specs.Laws.{DepthsAreTold, QueriesAreWithin, ReadIsInGrammar}
use Rattle.promql_parse.specs.Parsing.{Parses, Refuses, most_bytes}
use Rattle.promql_parse.specs.Parsing.Parses.{read}
use Rattle.promql_parse.specs.Reading.{reading}
use Rattle.promql_parts.specs.Lexemes.{lexemes_of}
use Rattle.promql_parts.specs.Patterned.{HavePatterns, Kept, Patterned}
use Rattle.promql_parts.specs.Reads.{Gives}
use Rattle.promql_parts.specs.declared.lexeme.Lexeme.{Lexeme}
use Rattle.ticks.specs.Durations.{hundred_years}

module _ (text bytes : List ℕ) (tokens slice : List Token) (before after : Kept) (lexemes behind : List Lexeme) (same_bytes : bytes ≡ text) (are_tokens : tokens ≡ tokens_of text)
    (same_tokens : slice ≡ tokens) (given : Patterned false before (lexemes_of bytes slice) after lexemes) (same_lexemes : behind ≡ lexemes) (short : length text ≤ most_bytes) where
  patterned : Patterned false before (lexemes_of text (tokens_of text)) after behind
  patterned =
      subst (λ ls. Patterned false before (lexemes_of text (tokens_of text)) after ls) (sym same_lexemes)
      (subst (λ ls. Patterned false before ls after lexemes) (ap₂ lexemes_of same_bytes (same_tokens ∙ are_tokens)) given)

  pub tree : (result : Result Expr LexFault) → Gives (λ e. e) result (reading (length text) behind) → IfOk result (λ e. Parses text before after (Ok e))
  tree (Ok e) gives = read after behind (Ok e) short patterned gives
  tree (Err e) gives = tt

  pub refusal : (result : Result Expr LexFault) → Gives (λ e. e) result (reading (length text) behind) → IfErr result (Refuses text before after)
  refusal (Ok e) gives = tt
  refusal (Err faults.Memory) gives = tt
  refusal (Err (faults.Refused r)) gives = read after behind (Err r) short patterned gives

-- what is read is a query, and so it lies within the limits
module _ (in_grammar : ReadIsInGrammar) (end : ℕ) (lexemes behind : List Lexeme) (same : behind ≡ lexemes) where
  pub within_limits : QueriesAreWithin → (kept : Kept) → HavePatterns kept lexemes → (result : Result Expr LexFault) → Gives (λ e. e) result (reading end behind)
      → IfOk result (λ e. AreWithin (HaveTheirPatterns kept) hundred_years time_limit (parts_of e))
  within_limits within kept have (Ok e) gives =
      let query = in_grammar end behind e gives in
      within kept behind e query.0 (subst (HavePatterns kept) (sym same) have) query.2
  within_limits within kept have (Err fault) gives = tt

  pub shallow : DepthsAreTold → (result : Result Expr LexFault) → Gives (λ e. e) result (reading end behind) → IfOk result (λ e. depth e ≤ 128)
  shallow told (Ok e) gives =
      let query = in_grammar end behind e gives in
      subst (λ n. n ≤ 128) (sym (told behind e query.0 query.2)) query.1
  shallow told (Err fault) gives = tt
