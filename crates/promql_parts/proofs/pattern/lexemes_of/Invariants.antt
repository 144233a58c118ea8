use Rattle.std.proofs.Common.{◌++◌, List, false, map, drop}
use Rattle.match_rule.specs.Gains.{Gains}
use Rattle.promql_parts.specs.Lexemes.{lexeme_of, lexemes_of}
use Rattle.promql_parts.specs.Patterned.{HavePatterns, Kept, Patterned}
use Rattle.promql_parts.specs.declared.lexeme.Lexeme.{Lexeme}
use Rattle.promql_parts.proofs.pattern.lexemes_of.Given as goal

abbrev pub invariant-loop-token : goal.invariant-loop-token
invariant-loop-token l =
    ((after : Kept) (ms : List Lexeme) → Patterned l.behind l.patterns (map (lexeme_of l.text) (drop l.token-index l.tokens)) after ms
    → Patterned false l.initial.patterns (lexemes_of l.text l.tokens) after (l.found ++ ms))
    × Gains l.initial.patterns l.patterns
    × HavePatterns l.patterns l.found
